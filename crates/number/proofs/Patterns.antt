-- A pattern is a NaN's where its magnitude, the pattern less its sign's bit, is above infinity's. Assumes nothing.
use Rattle.std.proofs.Common.{◌≡◌, ℕ, ◌-◌, ◌*◌, ◌%◌, ◌^◌, ◌<◌, ◌≤◌, Bool, not, T, ltb, sym, ap, ◌∙◌, subst, lt→ltb}
use lib.Arith.{le→nltb}
use lib.Bits.{bit_and, and_mask}
use lib.Ieee.{nan, Format, hid, ones, top, of_bits, nan_bits}
use lib.Ieee.Bits.{is_true, is_false, nan_bits_is, nan_bits_above}
use Rattle.number.proofs.Nan.{nan_is}

-- k is the place of the format's sign
module _ (f : Format) (k b : ℕ) (e : top f ≡ 2 ^ k) where
  above : nan_bits f b ≡ ltb (ones f * hid f) (bit_and b (2 ^ k - 1))
  above = nan_bits_above f b ∙ ap (λ (i : ℕ). ltb (ones f * hid f) (b % i)) e ∙ ap (ltb (ones f * hid f)) (sym (and_mask b k))

  pub nan_pattern : ones f * hid f < bit_and b (2 ^ k - 1) → of_bits f b ≡ nan
  nan_pattern h = nan_is (of_bits f b) (sym (nan_bits_is f b) ∙ above ∙ is_true (ltb (ones f * hid f) (bit_and b (2 ^ k - 1))) (lt→ltb (ones f * hid f) (bit_and b (2 ^ k - 1)) h))

  pub number_pattern : bit_and b (2 ^ k - 1) ≤ ones f * hid f → T (not (nan_bits f b))
  number_pattern h = subst (λ (z : Bool). T (not z)) (sym (above ∙ is_false (ltb (ones f * hid f) (bit_and b (2 ^ k - 1))) (le→nltb (ones f * hid f) (bit_and b (2 ^ k - 1)) h))) tt
