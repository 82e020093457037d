-- Worked numbers, computed from the definitions: the grid's, and a root that later proofs lean on. Assumes nothing.
use Rattle.std.proofs.Common.{◌≡◌, ℕ, List, [], ◌∷◌, ℤ, pos, negsuc, refl, None, Option, Some}
use lib.Ieee.{Float, binary64, of_bits, of_int, to_bits}
use Rattle.number.specs.Answer.{refuse, write, leaving}
use Rattle.number.specs.Grid.{centimetres, placed, grid_numbers, grid_call}
use Rattle.number.specs.Root.{sqrt_of}

-- the coordinate of so many metres, by their bits
abbrev metres : ℕ → Option ℤ
metres b = placed (centimetres (of_bits binary64 b))

-- 0.125 gives 12
half_way : metres 0x3fc0_0000_0000_0000 ≡ Some (pos 12)
unfolding placed lib.Ieee.mul of_bits
half_way = refl

-- -0.125 gives -12
half_way_below : metres 0xbfc0_0000_0000_0000 ≡ Some (negsuc 11)
unfolding placed lib.Ieee.mul of_bits
half_way_below = refl

-- 0.005 gives 0, and so does -0.005
half_a_centimetre : metres 0x3f74_7ae1_47ae_147b ≡ Some (pos 0)
unfolding placed lib.Ieee.mul of_bits
half_a_centimetre = refl

half_below_zero : metres 0xbf74_7ae1_47ae_147b ≡ Some (pos 0)
unfolding placed lib.Ieee.mul of_bits
half_below_zero = refl

-- 655.365, whose product is 65,536.5, gives 65,536: the edge is judged on the rounded number
past_the_edge : metres 0x4084_7aeb_851e_b852 ≡ Some (pos 65536)
unfolding placed lib.Ieee.mul of_bits
past_the_edge = refl

-- 655 passes
passes : metres 0x4084_7800_0000_0000 ≡ Some (pos 65500)
unfolding placed lib.Ieee.mul of_bits
passes = refl

-- 656 is off the grid
off_grid : metres 0x4084_8000_0000_0000 ≡ None
unfolding placed lib.Ieee.mul of_bits
off_grid = refl

-- ---- the call: "655 passes, 656 is 7"

module _ (a b c : Float) where
  abbrev room : List Float
  room = a ∷ b ∷ c ∷ []

  abbrev point : ℕ → List Float
  point b = of_bits binary64 b ∷ of_bits binary64 0 ∷ of_bits binary64 0 ∷ []

  call_passes : grid_call (point 0x4084_7800_0000_0000) room ≡ write (of_int binary64 (pos 65500) ∷ of_int binary64 (pos 0) ∷ of_int binary64 (pos 0) ∷ [])
  unfolding grid_call leaving grid_numbers placed lib.Ieee.mul of_bits
  call_passes = refl

  call_refused : grid_call (point 0x4084_8000_0000_0000) room ≡ refuse 7 room
  unfolding grid_call leaving grid_numbers placed lib.Ieee.mul of_bits
  call_refused = refl

-- ---- products of one coordinate, and roots

-- the product just below a half, which adding a half would round to 1, gives 0
below_half : placed (of_bits binary64 0x3fdf_ffff_ffff_ffff) ≡ Some (pos 0)
unfolding placed of_bits
below_half = refl

-- -0.004 gives a positive zero
small_negative : metres 0xbf70_624d_d2f1_a9fc ≡ Some (pos 0)
unfolding placed lib.Ieee.mul of_bits
small_negative = refl

pub root_of_one : sqrt_of binary64 (of_bits binary64 0x3ff0_0000_0000_0000) ≡ of_bits binary64 0x3ff0_0000_0000_0000
unfolding sqrt_of of_bits
root_of_one = refl

-- 1.4142135623730951
root_of_two : to_bits binary64 (sqrt_of binary64 (of_bits binary64 0x4000_0000_0000_0000)) ≡ 0x3ff6_a09e_667f_3bcd
unfolding sqrt_of of_bits to_bits
root_of_two = refl

-- the largest number, and the smallest
root_of_largest : to_bits binary64 (sqrt_of binary64 (of_bits binary64 0x7fef_ffff_ffff_ffff)) ≡ 0x5fef_ffff_ffff_ffff
unfolding sqrt_of of_bits to_bits
root_of_largest = refl

root_of_smallest : to_bits binary64 (sqrt_of binary64 (of_bits binary64 1)) ≡ 0x1e60_0000_0000_0000
unfolding sqrt_of of_bits to_bits
root_of_smallest = refl
