-- The records of a slice: where their numbers stand, and what the tests of its length say. Assumes nothing.
use Rattle.std.proofs.Common.{◌≡◌, ℕ, zero, suc, ◌+◌, ◌*◌, ◌%◌, ◌<◌, ◌≤◌, Bool, true, false, ◌&&◌, T, ltb, List, [], ◌∷◌, ◌++◌, length, take, drop, sym, refl, ap, ◌∙◌, subst, ap₂, mul-le-mul_right, div-add-mod', arith, eqb→eq, length-drop, length-take-le, get_or-drop, get_or-take, drop-drop, take_at, drop_at, lt-ltb, eq-eqb, ne_eqb}
use lib.Ieee.{Float, nan}
use Rattle.number.specs.Every.{every}
use Rattle.number.specs.Slice.{at}
use Rattle.number.specs.Tabulate.{tabulate}
use Rattle.number.specs.Records.{record_at, records, record_count, is_whole, are_records}
use Rattle.number.proofs.Tests.{both_hold}
use Rattle.number.proofs.Tabulate.{same_values}

-- ---- a record

-- its numbers, where they stand in the slice
pub number_at_lem : (k : ℕ) (s : List Float) (i j : ℕ) → j < k → at (record_at k s i) j ≡ at s (i * k + j)
number_at_lem k s i j h = get_or-take k (drop (i * k) s) j nan h ∙ get_or-drop (i * k) s j nan

-- it has its length, where the slice has that of n records
pub record_length : (k n : ℕ) (s : List Float) → length s ≡ n * k → (i : ℕ) → i < n → length (record_at k s i) ≡ k
record_length k n s e i h =
    let fits : (i + 1) * k ≤ n * k = mul-le-mul_right k (omega arith) in
    length-take-le k (drop (i * k) s) (omega (arith, e, length-drop (i * k) s, fits))

-- a record in front of others is the first
pub in_front : (k n : ℕ) (x y : List Float) → length x ≡ k → records k (suc n) (x ++ y) ≡ x ∷ records k n y
unfolding tabulate
in_front k n x y e =
    let z : 0 * k ≡ 0 = omega arith in
    ap₂ (λ (r : List Float) (rs : List (List Float)). r ∷ rs) (ap (λ (m : ℕ). take k (drop m (x ++ y))) z ∙ take_at x y k e)
    (same_values (λ (i : ℕ). record_at k (x ++ y) (suc i)) (record_at k y) n (λ i l. behind i))
  where
    behind : (i : ℕ) → record_at k (x ++ y) (suc i) ≡ record_at k y i
    behind i =
        let m : suc i * k ≡ k + i * k = omega arith in
        ap (λ (j : ℕ). take k (drop j (x ++ y))) m ∙ ap (take k) (sym (drop-drop (i * k) k (x ++ y)) ∙ ap (drop (i * k)) (drop_at x y k e))

-- what all numbers of the slice pass, those of a record do
pub every_taken : (test : Float → Bool) (k : ℕ) (s : List Float) → every test s ≡ true → every test (take k s) ≡ true
unfolding every
every_taken test zero s e = refl
every_taken test (suc k) [] e = refl
every_taken test (suc k) (x ∷ xs) e = let t = both_hold (test x) (every test xs) e in λ i. t.0 i && every_taken test k xs t.1 i

pub every_left : (test : Float → Bool) (k : ℕ) (s : List Float) → every test s ≡ true → every test (drop k s) ≡ true
unfolding every
every_left test zero s e = e
every_left test (suc k) [] e = refl
every_left test (suc k) (x ∷ xs) e = every_left test k xs (both_hold (test x) (every test xs) e).1

pub every_in_record : (test : Float → Bool) (k : ℕ) (s : List Float) (i : ℕ) → every test s ≡ true → every test (record_at k s i) ≡ true
every_in_record test k s i e = every_taken test k (drop (i * k) s) (every_left test (i * k) s e)

-- ---- the tests of a slice's length

module _ (k : ℕ) (s : List Float) where
  pub no_record : length s ≡ 0 → are_records k s ≡ false
  no_record e = ap (λ (n : ℕ). ltb 0 n && is_whole k s) e

  module _ (n : length s ≡ 0 → ⊥) where
    some : ltb 0 (length s) ≡ true
    some = lt-ltb 0 (length s) (omega arith)

    pub uneven : (length s % k ≡ 0 → ⊥) → are_records k s ≡ false
    uneven m = λ i. some i && ne_eqb _ _ m i

    pub are_records_lem : length s % k ≡ 0 → are_records k s ≡ true
    are_records_lem m = λ i. some i && eq-eqb _ _ m i

  -- what they say

  pub whole_count : length s % k ≡ 0 → length s ≡ record_count k s * k
  whole_count m = omega (arith, m, div-add-mod' (length s) k)

  pub whole_length : is_whole k s ≡ true → length s ≡ record_count k s * k
  whole_length e = whole_count (eqb→eq (length s % k) 0 (subst T (sym e) tt))

  pub records_length : are_records k s ≡ true → length s ≡ record_count k s * k
  records_length e = whole_length (both_hold (ltb 0 (length s)) (is_whole k s) e).1

  -- it has one record at least
  pub some_record : 0 < length s → is_whole k s ≡ true → 0 < record_count k s
  some_record h e = go (record_count k s) (whole_length e)
    where
      go : (c : ℕ) → length s ≡ c * k → 0 < c
      go zero l = absurd (omega arith)
      go (suc c) l = omega arith
