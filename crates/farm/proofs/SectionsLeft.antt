-- A list of sections, read from the front or from behind; a test of all, section by section. Assumes nothing.
use mathlib.Core.Path.{◌≡◌, refl, sym, ap, ◌∙◌}
use mathlib.Core.Bool.{Bool, true, false, ◌&&◌}
use mathlib.Core.List.{List, [], ◌∷◌, map}
use Prim.Native.Nat.{ℕ, zero, suc, ◌+◌, ◌-◌, ◌<◌, ◌≤◌}
use native.Mathlib.Numerals.{add-one}
use native.Mathlib.Omega.{arith}
use borrow.Author.Tests.{le-leb, lt-leb}
use lib.Dec.{leb}
use lib.ListN.{length, get_or}
use Rattle.number.specs.Every.{every}
use Rattle.number.proofs.Every.{first_fails, first_holds}
use Rattle.farm.specs.declared.directory.Section.{Section}
use Rattle.farm.specs.Directory.{section_at, sections_from, end_of, in_order}

pub as_many : (b : List ℕ) (i n : ℕ) → length (sections_from b i n) ≡ n
unfolding sections_from
as_many b i zero = refl
as_many b i (suc n) = ap suc (as_many b (suc i) n)

-- what is made of each, by its place
pub made_at : {A : Type 0} (f : Section → A) (b : List ℕ) (j n i : ℕ) (d : A) → i < n → get_or (map f (sections_from b j n)) i d ≡ f (section_at b (j + i))
unfolding sections_from
made_at f b j zero i d h = absurd (omega arith)
made_at f b j (suc n) zero d h = let z : j ≡ j + 0 = omega arith in ap (λ (k : ℕ). f (section_at b k)) z
made_at f b j (suc n) (suc i) d h = let z : suc j + i ≡ j + suc i = omega arith in made_at f b (suc j) n i d (omega arith) ∙ ap (λ (k : ℕ). f (section_at b k)) z

pub all_left : (b : List ℕ) (n : ℕ) → sections_from b 0 (n - 0) ≡ sections_from b 0 n
all_left b n = let e : n - 0 ≡ n = omega arith in ap (sections_from b 0) e

-- ---- the sections of a directory of n that are left from section i on

module _ (b : List ℕ) (n i : ℕ) where
  abbrev pub left : List Section
  left = sections_from b i (n - i)

  abbrev pub behind : List Section
  behind = sections_from b (i + 1) (n - (i + 1))

  pub next : i < n → left ≡ section_at b i ∷ behind
  unfolding sections_from
  next h =
      let e : n - i ≡ suc (n - (i + 1)) = omega arith in
      ap (sections_from b i) e ∙ ap (λ (k : ℕ). section_at b i ∷ sections_from b k (n - (i + 1))) (sym (add-one i))

  pub none_left : n ≤ i → left ≡ []
  unfolding sections_from
  none_left h = let e : n - i ≡ 0 = omega arith in ap (sections_from b i) e

  -- ---- a test of all, which those left decide

  module _ (test : Section → Bool) where
    pub fails : i < n → test (section_at b i) ≡ false → false ≡ every test left
    fails h e = first_fails test (section_at b i) behind e ∙ sym (ap (every test) (next h))

    pub holds : i < n → test (section_at b i) ≡ true → every test behind ≡ every test left
    holds h e = first_holds test (section_at b i) behind e ∙ sym (ap (every test) (next h))

    pub all_hold : n ≤ i → true ≡ every test left
    unfolding every
    all_hold h = sym (ap (every test) (none_left h))

  -- ---- the order, which those left decide

  module _ (from end : ℕ) (s : Section) (q : s ≡ section_at b i) where
    one_placed : i < n → in_order from end left ≡ (leb from s.offset && leb (end_of s) end && in_order (end_of s) end behind)
    unfolding in_order
    one_placed h = ap (in_order from end) (next h) ∙ sym (ap (λ (t : Section). leb from t.offset && leb (end_of t) end && in_order (end_of t) end behind) q)

    pub too_early : i < n → s.offset < from → false ≡ in_order from end left
    too_early h e = sym (one_placed h ∙ ap (λ (t : Bool). t && leb (end_of s) end && in_order (end_of s) end behind) (lt-leb _ _ e))

    module _ (h : i < n) (a : from ≤ s.offset) where
      started : in_order from end left ≡ (leb (end_of s) end && in_order (end_of s) end behind)
      started = one_placed h ∙ ap (λ (t : Bool). t && leb (end_of s) end && in_order (end_of s) end behind) (le-leb _ _ a)

      pub too_long : end < end_of s → false ≡ in_order from end left
      too_long e = sym (started ∙ ap (λ (t : Bool). t && in_order (end_of s) end behind) (lt-leb _ _ e))

      pub in_place : end_of s ≤ end → in_order (end_of s) end behind ≡ in_order from end left
      in_place e = sym (started ∙ ap (λ (t : Bool). t && in_order (end_of s) end behind) (le-leb _ _ e))

  pub all_placed : (from end : ℕ) → n ≤ i → true ≡ in_order from end left
  unfolding in_order
  all_placed from end h = sym (ap (in_order from end) (none_left h))
