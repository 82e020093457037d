-- What the checks of a file say of each section. Assumes nothing.
use mathlib.Core.Path.{◌≡◌, sym, ap, subst, ◌∙◌}
use mathlib.Core.Bool.{Bool, true, ◌&&◌}
use mathlib.Core.List.{List}
use Prim.Native.Nat.{ℕ, zero, suc, ◌+◌, ◌-◌, ◌*◌, ◌/◌, ◌<◌, ◌≤◌}
use native.Mathlib.Nat.{mul-div-le}
use native.Mathlib.Omega.{arith}
use borrow.Author.Tests.{leb-true, eqb-true}
use lib.Dec.{leb, eqb}
use lib.ListN.{length}
use Rattle.number.specs.Limits.{box_length, fewest_sections, most_sections}
use Rattle.number.specs.Every.{every}
use Rattle.number.specs.Slice.{all_finite}
use Rattle.number.proofs.Tests.{both_hold}
use Rattle.verdict.specs.View.{volume_length}
use Rattle.verdict.specs.BBoxCalls.{flagged}
use Rattle.farm.specs.declared.directory.Section.{Section}
use Rattle.farm.specs.Directory.{section_count, section_at, sections_from, volume_section, directory_end, end_of, numbers_of, in_order, well_formed}
use Rattle.farm.specs.FarmFile.{plane_count, boxes_sized, sized, boxes_flagged, numbers_finite}

-- ---- a test that all sections pass

module _ (b : List ℕ) (test : Section → Bool) where
  each_from : (i n k : ℕ) → every test (sections_from b i n) ≡ true → k < n → test (section_at b (i + k)) ≡ true
  unfolding every sections_from
  each_from i (suc n) zero e h = let z : i ≡ i + 0 = omega arith in ap (λ (m : ℕ). test (section_at b m)) (sym z) ∙ (both_hold (test (section_at b i)) _ e).0
  each_from i (suc n) (suc k) e h =
      let z : suc i + k ≡ i + suc k = omega arith in
      ap (λ (m : ℕ). test (section_at b m)) (sym z) ∙ each_from (suc i) n k (both_hold (test (section_at b i)) _ e).1 (omega arith)
  each_from i zero k e h = absurd (omega arith)

  -- of the boxes of a directory of n sections
  pub each_box : (n k : ℕ) → every test (sections_from b 1 (n - 1)) ≡ true → 0 < k → k < n → test (section_at b k) ≡ true
  each_box n k e p h =
      let z : 1 + (k - 1) ≡ k = omega arith in
      ap (λ (m : ℕ). test (section_at b m)) (sym z) ∙ each_from 1 (n - 1) (k - 1) e (omega arith)

-- ---- sections in order

module _ (b : List ℕ) (end : ℕ) where
  -- each starts at the first place at least, and ends in the file
  placed_from : (from i n k : ℕ) → in_order from end (sections_from b i n) ≡ true → k < n → (from ≤ (section_at b (i + k)).offset) × (end_of (section_at b (i + k)) ≤ end)
  unfolding in_order sections_from
  placed_from from i (suc n) zero e h =
      let s = section_at b i in
      let ends = (both_hold (leb from s.offset && leb (end_of s) end) _ e).0 in
      let p = leb-true _ _ (both_hold (leb from s.offset) _ ends).0 in
      let q = leb-true _ _ (both_hold (leb from s.offset) _ ends).1 in
      let z : i ≡ i + 0 = omega arith in
      subst (λ (m : ℕ). (from ≤ (section_at b m).offset) × (end_of (section_at b m) ≤ end)) z (p, q)
  placed_from from i (suc n) (suc k) e h =
      let s = section_at b i in
      let p : from ≤ s.offset = leb-true _ _ (both_hold (leb from s.offset) _ (both_hold (leb from s.offset && leb (end_of s) end) _ e).0).0 in
      let r = (both_hold (leb from s.offset && leb (end_of s) end) _ e).1 in
      let later = placed_from (end_of s) (suc i) n k r (omega arith) in
      let z : suc i + k ≡ i + suc k = omega arith in
      subst (λ (m : ℕ). (from ≤ (section_at b m).offset) × (end_of (section_at b m) ≤ end)) z (omega (arith, p, later), later.1)
  placed_from from i zero k e h = absurd (omega arith)

  -- and behind every one that is listed before it
  apart_from : (from i n j k : ℕ) → in_order from end (sections_from b i n) ≡ true → j < k → k < n → end_of (section_at b (i + j)) ≤ (section_at b (i + k)).offset
  unfolding in_order sections_from
  apart_from from i (suc n) zero (suc k) e g h =
      let s = section_at b i in
      let r = (both_hold (leb from s.offset && leb (end_of s) end) _ e).1 in
      let later = placed_from (end_of s) (suc i) n k r (omega arith) in
      let y : i ≡ i + 0 = omega arith in
      let z : suc i + k ≡ i + suc k = omega arith in
      subst (λ (m : ℕ). end_of (section_at b m) ≤ (section_at b (i + suc k)).offset) y (subst (λ (m : ℕ). end_of s ≤ (section_at b m).offset) z later.0)
  apart_from from i (suc n) (suc j) (suc k) e g h =
      let s = section_at b i in
      let r = (both_hold (leb from s.offset && leb (end_of s) end) _ e).1 in
      let later = apart_from (end_of s) (suc i) n j k r (omega arith) (omega arith) in
      let y : suc i + j ≡ i + suc j = omega arith in
      let z : suc i + k ≡ i + suc k = omega arith in
      subst (λ (m : ℕ). end_of (section_at b m) ≤ (section_at b (i + suc k)).offset) y (subst (λ (m : ℕ). end_of (section_at b (suc i + j)) ≤ (section_at b m).offset) z later)
  apart_from from i n j zero e g h = absurd (omega arith)
  apart_from from i zero j (suc k) e g h = absurd (omega arith)

-- ---- a well-formed file

module _ (b : List ℕ) (w : well_formed b ≡ true) where
  abbrev counted : Bool
  counted = leb 4 (length b) && leb fewest_sections (section_count b) && leb (section_count b) most_sections

  abbrev held : Bool
  held = leb (directory_end (section_count b)) (length b)

  ordered : in_order (directory_end (section_count b)) (length b) (sections_from b 0 (section_count b)) ≡ true
  unfolding well_formed
  ordered = (both_hold (counted && held) _ w).1

  limits : counted ≡ true
  unfolding well_formed
  limits = (both_hold counted held (both_hold (counted && held) _ w).0).0

  pub at_least : fewest_sections ≤ section_count b
  at_least = leb-true _ _ (both_hold (leb 4 (length b)) _ (both_hold (leb 4 (length b) && leb fewest_sections (section_count b)) _ limits).0).1

  pub at_most : section_count b ≤ most_sections
  at_most = leb-true _ _ (both_hold (leb 4 (length b) && leb fewest_sections (section_count b)) _ limits).1

  pub placed : (i : ℕ) → i < section_count b → (directory_end (section_count b) ≤ (section_at b i).offset) × (end_of (section_at b i) ≤ length b)
  placed i h =
      let z : 0 + i ≡ i = omega arith in
      subst (λ (m : ℕ). (directory_end (section_count b) ≤ (section_at b m).offset) × (end_of (section_at b m) ≤ length b)) z (placed_from b (length b) _ 0 (section_count b) i ordered h)

  pub apart : (i j : ℕ) → i < j → j < section_count b → end_of (section_at b i) ≤ (section_at b j).offset
  apart i j g h =
      let y : 0 + i ≡ i = omega arith in
      let z : 0 + j ≡ j = omega arith in
      subst (λ (m : ℕ). end_of (section_at b m) ≤ (section_at b j).offset) y
      (subst (λ (m : ℕ). end_of (section_at b (0 + i)) ≤ (section_at b m).offset) z (apart_from b (length b) _ 0 (section_count b) i j ordered g h))

  -- the numbers of a section are in the file
  pub section_inside : (i : ℕ) → i < section_count b → (s : Section) → s ≡ section_at b i → s.offset + 8 * (s.size / 8) ≤ length b
  section_inside i h s q =
      let e = subst (λ (t : Section). end_of t ≤ length b) (sym q) (placed i h).1 in
      omega (arith, e, mul-div-le s.size 8)

-- ---- the sizes, the flags and the numbers

module _ (b : List ℕ) (s : sized b ≡ true) where
  pub volume_sized : (volume_section b).size ≡ 8 * volume_length (plane_count b)
  unfolding sized
  volume_sized = eqb-true _ _ (both_hold (eqb (volume_section b).size (8 * volume_length (plane_count b))) _ s).0

  pub box_sized : (i : ℕ) → 0 < i → i < section_count b → (section_at b i).size ≡ 8 * box_length
  unfolding sized boxes_sized
  box_sized i p h = eqb-true _ _ (each_box b (λ s. eqb s.size (8 * box_length)) (section_count b) i (both_hold (eqb (volume_section b).size (8 * volume_length (plane_count b))) _ s).1 p h)

pub box_flagged : (b : List ℕ) → boxes_flagged b ≡ true → (i : ℕ) → 0 < i → i < section_count b → flagged (numbers_of b (section_at b i)) ≡ true
unfolding boxes_flagged
box_flagged b f i p h = each_box b (λ s. flagged (numbers_of b s)) (section_count b) i f p h

pub section_finite : (b : List ℕ) → numbers_finite b ≡ true → (i : ℕ) → i < section_count b → all_finite (numbers_of b (section_at b i)) ≡ true
unfolding numbers_finite
section_finite b f i h =
    let z : 0 + i ≡ i = omega arith in
    ap (λ (m : ℕ). all_finite (numbers_of b (section_at b m))) (sym z) ∙ each_from b (λ s. all_finite (numbers_of b s)) 0 (section_count b) i f h
