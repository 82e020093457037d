-- Of two numbers that are no NaNs the smaller, chosen by one comparison in either order, is the same but for the sign of a zero: so the bits of both choices, joined,
-- are the smaller's with its sign, and of the larger alike. Assumes nothing.
use mathlib.Core.Path.{◌≡◌, refl, sym, ap, ◌∙◌, subst}
use mathlib.Core.Bool.{Bool, true, false, not, cond, ◌||◌}
use Prim.Native.Nat.{ℕ}
use lib.Dec.{T}
use lib.Bits.{bit_and, bit_or, and_self, or_self}
use lib.Ieee.{Float, binary64, lt, le, eq, is_nan, to_bits, of_bits, nan_bits}
use lib.Ieee.Bits.{of_bits-to_bits, nan_bits_is}
use Rattle.number.specs.Arithmetic.{lower_of, upper_of, precedes, min_of, max_of}
use Rattle.number.specs.Extremes.{Value}
use Rattle.number.proofs.Comparisons.{not_less, less_one_way}
use Rattle.number.proofs.EitherOrder.{min_order_free, max_order_free}
use Rattle.number.proofs.Extremes.{min_number, max_number}
use Rattle.number.proofs.JoinedBits.{min_joined, max_joined}
use Rattle.matrix.specs.Steps.{Numbers}

-- what is chosen of two that are no NaN is none
pub one_number : (b : Bool) (x y : Float) → Numbers x y → is_nan (cond b y x) ≡ false
one_number true x y n = n.1
one_number false x y n = n.0

-- two numbers of which neither is less are equal
neither_less : (x y : Float) → Numbers x y → lt x y ≡ false → lt y x ≡ false → eq x y ≡ true
unfolding le
neither_less x y n p q = go (lt x y) (eq x y) p (not_less y x n.1 n.0 q)
  where
    go : (b c : Bool) → b ≡ false → T (b || c) → c ≡ true
    go true c p t = absurd (subst T p tt)
    go false true p t = refl
    go false false p t = absurd t

-- `below y x` chooses y
module _ (join : ℕ → ℕ → ℕ) (self : (a : ℕ) → join a a ≡ a) (below : Float → Float → Bool) (pick : Float → Float → Float)
    (second : (x y : Float) → is_nan x ≡ false → below y x ≡ true → y ≡ pick x y)
    (one_way : (x y : Float) → below x y ≡ true → below y x ≡ false)
    (neither : (x y : Float) → Numbers x y → below x y ≡ false → below y x ≡ false → eq x y ≡ true)
    (turned : (x y : Float) → Value x → Value y → pick x y ≡ pick y x)
    (tie : (x y : Float) → Value x → Value y → eq x y ≡ true → of_bits binary64 (join (to_bits binary64 x) (to_bits binary64 y)) ≡ pick x y)
    (number : (x y : Float) → is_nan x ≡ false → is_nan y ≡ false → is_nan (pick x y) ≡ false)
    (x y : Float) (v : Value x) (w : Value y) (n : Numbers x y) where
  abbrev joins : Float → Float → Float
  joins p q = of_bits binary64 (join (to_bits binary64 p) (to_bits binary64 q))

  alone : (z : Float) → Value z → joins z z ≡ z
  alone z u = ap (of_bits binary64) (self (to_bits binary64 z)) ∙ of_bits-to_bits binary64 z u

  go : (b c : Bool) → below y x ≡ b → below x y ≡ c → joins (cond b y x) (cond c x y) ≡ pick x y
  go true true p q = absurd (subst T (sym q ∙ one_way y x p) tt)
  go true false p q = alone y w ∙ second x y n.0 p
  go false true p q = alone x v ∙ second y x n.1 q ∙ turned y x w v
  go false false p q = tie x y v w (neither x y n q p)

  joined : joins (cond (below y x) y x) (cond (below x y) x y) ≡ pick x y
  joined = go (below y x) (below x y) refl refl

  joined_number : T (not (nan_bits binary64 (join (to_bits binary64 (cond (below y x) y x)) (to_bits binary64 (cond (below x y) x y)))))
  joined_number = subst (λ (b : Bool). T (not b)) (sym (nan_bits_is binary64 _ ∙ ap is_nan joined ∙ number x y n.0 n.1)) tt

second_least : (x y : Float) → is_nan x ≡ false → lt y x ≡ true → y ≡ min_of x y
unfolding min_of precedes
second_least x y n h = rw (n, h)

second_greatest : (x y : Float) → is_nan x ≡ false → lt x y ≡ true → y ≡ max_of x y
unfolding max_of precedes
second_greatest x y n h = rw (n, h)

module _ (x y : Float) (v : Value x) (w : Value y) (n : Numbers x y) (p q : Float) where
  module _ (g : p ≡ lower_of x y) (h : q ≡ lower_of y x) where
    pub lesser_joined : of_bits binary64 (bit_or (to_bits binary64 p) (to_bits binary64 q)) ≡ min_of x y
    lesser_joined =
        rw (g, h) (joined bit_or or_self lt min_of second_least less_one_way neither_less min_order_free.commutative min_joined min_number x y v w n)

    pub lesser_number : T (not (nan_bits binary64 (bit_or (to_bits binary64 p) (to_bits binary64 q))))
    lesser_number =
        rw (g, h) (joined_number bit_or or_self lt min_of second_least less_one_way neither_less min_order_free.commutative min_joined min_number x y v w n)

  module _ (g : p ≡ upper_of x y) (h : q ≡ upper_of y x) where
    pub greater_joined : of_bits binary64 (bit_and (to_bits binary64 p) (to_bits binary64 q)) ≡ max_of x y
    greater_joined =
        rw (g, h) (joined bit_and and_self (λ a b. lt b a) max_of second_greatest (λ a b. less_one_way b a) (λ a b m i j. neither_less a b m j i) max_order_free.commutative max_joined max_number x y v w n)

    pub greater_number : T (not (nan_bits binary64 (bit_and (to_bits binary64 p) (to_bits binary64 q))))
    greater_number =
        rw (g, h) (joined_number bit_and and_self (λ a b. lt b a) max_of second_greatest (λ a b. less_one_way b a) (λ a b m i j. neither_less a b m j i) max_order_free.commutative max_joined max_number x y v w n)
