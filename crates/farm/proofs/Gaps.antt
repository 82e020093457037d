-- The answer to a farm file is made of its directory and its sections alone: files that agree there have the same words, so the same
-- sections and the same numbers in them. And of a file that has one the sections lie apart and hold finite numbers, as its checks say. Assumes nothing.
use mathlib.Core.Path.{◌≡◌, refl, sym, ap, subst, ◌∙◌}
use mathlib.Core.Bool.{Bool, true, false, cond, ◌&&◌}
use mathlib.Core.List.{List, ◌∷◌, map}
use Prim.Native.Nat.{ℕ, zero, suc, ◌+◌, ◌-◌, ◌*◌, ◌/◌, ◌<◌, ◌≤◌}
use native.Mathlib.Omega.{arith}
use native.Mathlib.Nat.{mul-div-le}
use borrow.Author.Tests.{leb-true}
use lib.Dec.{T, eqb, leb}
use lib.ListN.{length, get_or, take, drop, length-take, length-drop}
use lib.Seq.{ext_get_or, get_or-take, get_or-drop}
use lib.Ieee.{Float, binary64, of_bits}
use Rattle.number.specs.Limits.{box_length, fewest_planes, largest_file, fewest_sections, most_sections}
use Rattle.number.specs.Every.{every}
use Rattle.number.specs.Answer.{Outcome, refused, outcome, unless}
use Rattle.number.specs.Bytes.{little_endian, word_at, f64_at, numbers_at}
use Rattle.number.specs.Slice.{all_finite}
use Rattle.verdict.specs.BBox.{box_of}
use Rattle.verdict.specs.BBoxCalls.{flagged}
use Rattle.verdict.specs.View.{volume_length, whole_part, is_count, planes_of}
use Rattle.verdict.specs.Frustum.{box_in_view}
use Rattle.farm.specs.declared.directory.Section.{Section}
use Rattle.farm.specs.Directory.{section_count, section_at, sections_from, volume_section, box_sections, directory_end, numbers_of, in_order, well_formed}
use Rattle.farm.specs.FarmFile.{volume_there, count_number, plane_count, boxes_sized, sized, boxes_flagged, numbers_finite, in_view, checked_file, farm_file}
use Rattle.farm.specs.Reading.{AgreeOutsideGaps, GapsUnread, AnsweredApart, AnsweredFileFinite}
use Rattle.farm.proofs.Placed.{at_least, placed, apart, section_finite}
use Rattle.farm.proofs.Answers.{ready}

-- ---- words and numbers of two strings of one length

module _ (b c : List ℕ) (e : length b ≡ length c) where
  same_bytes : (n i : ℕ) → ((j : ℕ) → i ≤ j → j < i + n → get_or b j 0 ≡ get_or c j 0) → take n (drop i b) ≡ take n (drop i c)
  same_bytes n i h =
      let as_long : length (take n (drop i b)) ≡ length (take n (drop i c)) = simp (length-take, length-drop, e) in
      ext_get_or 0 (take n (drop i b)) (take n (drop i c)) as_long (λ j k.
      let below : j < n = omega (arith, k, simp (length-take, length-drop) at k) in
      get_or-take n (drop i b) j 0 below ∙ get_or-drop i b j 0 ∙ h (i + j) (omega arith) (omega arith) ∙ sym (get_or-drop i c j 0) ∙ sym (get_or-take n (drop i c) j 0 below))

  same_word : (n i : ℕ) → ((j : ℕ) → i ≤ j → j < i + n → get_or b j 0 ≡ get_or c j 0) → word_at n b i ≡ word_at n c i
  unfolding word_at
  same_word n i h =
      ap (λ (l : List ℕ). cond (leb (i + n) (length b)) (little_endian l) 0) (same_bytes n i h)
      ∙ ap (λ (m : ℕ). cond (leb (i + n) m) (little_endian (take n (drop i c))) 0) e

  same_numbers : (n i : ℕ) → ((j : ℕ) → i ≤ j → j < i + 8 * n → get_or b j 0 ≡ get_or c j 0) → numbers_at b i n ≡ numbers_at c i n
  unfolding numbers_at
  same_numbers zero i h = refl
  same_numbers (suc n) i h =
      let first = ap (of_bits binary64) (same_word 8 i (λ j p q. h j p (omega (arith, q)))) in
      let rest = same_numbers n (i + 8) (λ j p q. h j (omega (arith, p)) (omega (arith, q))) in
      ap (λ (x : Float). x ∷ numbers_at b (i + 8) n) first ∙ ap (λ (l : List Float). f64_at c i ∷ l) rest

-- ---- tests and answers that agree on the sections of a directory

module _ (b : List ℕ) (n : ℕ) where
  same_every : (f g : Section → Bool) → ((k : ℕ) → k < n → f (section_at b k) ≡ g (section_at b k)) → (i m : ℕ) → i + m ≤ n → every f (sections_from b i m) ≡ every g (sections_from b i m)
  unfolding every sections_from
  same_every f g h i zero q = refl
  same_every f g h i (suc m) q =
      ap (λ (t : Bool). t && every f (sections_from b (suc i) m)) (h i (omega arith))
      ∙ ap (λ (t : Bool). g (section_at b i) && t) (same_every f g h (suc i) m (omega arith))

  same_map : (f g : Section → Bool) → ((k : ℕ) → k < n → f (section_at b k) ≡ g (section_at b k)) → (i m : ℕ) → i + m ≤ n → map f (sections_from b i m) ≡ map g (sections_from b i m)
  unfolding sections_from
  same_map f g h i zero q = refl
  same_map f g h i (suc m) q =
      ap (λ (t : Bool). t ∷ map f (sections_from b (suc i) m)) (h i (omega arith))
      ∙ ap (λ (t : List Bool). g (section_at b i) ∷ t) (same_map f g h (suc i) m (omega arith))

-- ---- two files that agree outside the gaps

abbrev section : ℕ → ℕ → Section
section o s = record { offset = o; size = s }

module _ (b c : List ℕ) (a : AgreeOutsideGaps b c) where
  abbrev count : ℕ
  count = section_count b

  same_count : count ≡ section_count c
  same_count = same_word b c a.size 4 0 (λ j p q. a.directory j (omega (arith, q)))

  same_section : (k : ℕ) → k < count → section_at b k ≡ section_at c k
  same_section k h =
      let offset = same_word b c a.size 4 (4 + 8 * k) (λ j p q. a.directory j (omega (arith, q, h))) in
      let size = same_word b c a.size 4 (8 + 8 * k) (λ j p q. a.directory j (omega (arith, q, h))) in
      ap (λ (x : ℕ). section x (word_at 4 b (8 + 8 * k))) offset ∙ ap (section (word_at 4 c (4 + 8 * k))) size

  same_sections : (i m : ℕ) → i + m ≤ count → sections_from b i m ≡ sections_from c i m
  unfolding sections_from
  same_sections i zero q = refl
  same_sections i (suc m) q =
      ap (λ (s : Section). s ∷ sections_from b (suc i) m) (same_section i (omega arith))
      ∙ ap (λ (l : List Section). section_at c i ∷ l) (same_sections (suc i) m (omega arith))

  abbrev form : ℕ → ℕ → List Section → Bool
  form size n ss = leb 4 size && leb fewest_sections n && leb n most_sections && leb (directory_end n) size && in_order (directory_end n) size ss

  same_form : well_formed b ≡ well_formed c
  unfolding well_formed
  same_form =
      ap (form (length b) count) (same_sections 0 count (omega arith))
      ∙ ap (λ (n : ℕ). form (length b) n (sections_from c 0 n)) same_count
      ∙ ap (λ (n : ℕ). form n (section_count c) (sections_from c 0 (section_count c))) a.size

  module _ (w : well_formed b ≡ true) where
    two : fewest_sections ≤ count
    two = at_least b w

    same_boxes : box_sections b ≡ box_sections c
    same_boxes = same_sections 1 (count - 1) (omega (arith, two)) ∙ ap (λ (n : ℕ). sections_from c 1 (n - 1)) same_count

    same_volume : volume_section b ≡ volume_section c
    same_volume = same_section 0 (omega (arith, two))

    same_there : volume_there b ≡ volume_there c
    same_there = ap (λ (s : Section). leb (8 * volume_length fewest_planes) s.size) same_volume

    numbers_same : (k : ℕ) → k < count → numbers_of b (section_at b k) ≡ numbers_of c (section_at b k)
    numbers_same k h =
        let s = section_at b k in
        same_numbers b c a.size (s.size / 8) s.offset (λ j p q. a.sections k j h p (omega (arith, q, mul-div-le s.size 8)))

    same_flags : boxes_flagged b ≡ boxes_flagged c
    unfolding boxes_flagged
    same_flags =
        same_every b count (λ s. flagged (numbers_of b s)) (λ s. flagged (numbers_of c s)) (λ k h. ap flagged (numbers_same k h)) 1 (count - 1) (omega (arith, two))
        ∙ ap (every (λ s. flagged (numbers_of c s))) same_boxes

    same_finite : numbers_finite b ≡ numbers_finite c
    unfolding numbers_finite
    same_finite =
        same_every b count (λ s. all_finite (numbers_of b s)) (λ s. all_finite (numbers_of c s)) (λ k h. ap all_finite (numbers_same k h)) 0 count (omega arith)
        ∙ ap (every (λ s. all_finite (numbers_of c s))) (same_sections 0 count (omega arith) ∙ ap (sections_from c 0) same_count)

    volume_same : numbers_of b (volume_section b) ≡ numbers_of c (volume_section c)
    volume_same = numbers_same 0 (omega (arith, two)) ∙ ap (numbers_of c) same_volume

    module _ (v : volume_there b ≡ true) where
      same_number_lem : count_number b ≡ count_number c
      same_number_lem =
          let s = volume_section b in
          let there = leb-true (8 * volume_length fewest_planes) s.size v in
          ap (of_bits binary64) (same_word b c a.size 8 s.offset (λ j p q. a.sections 0 j (omega (arith, two)) p (omega (arith, q, there))))
          ∙ ap (λ (t : Section). f64_at c t.offset) same_volume

      same_sizes : sized b ≡ sized c
      unfolding sized boxes_sized
      same_sizes =
          ap (λ (x : Float). eqb (volume_section b).size (8 * volume_length (whole_part x)) && every (λ s. eqb s.size (8 * box_length)) (box_sections b)) same_number_lem
          ∙ ap (λ (s : Section). eqb s.size (8 * volume_length (plane_count c)) && every (λ s. eqb s.size (8 * box_length)) (box_sections b)) same_volume
          ∙ ap (λ (ss : List Section). eqb (volume_section c).size (8 * volume_length (plane_count c)) && every (λ s. eqb s.size (8 * box_length)) ss) same_boxes

      view_same : (k : ℕ) → k < count → in_view b (section_at b k) ≡ in_view c (section_at b k)
      view_same k h =
          ap (λ (x : Float). box_in_view (planes_of (numbers_of b (volume_section b)) (whole_part x)) (box_of (numbers_of b (section_at b k)))) same_number_lem
          ∙ ap (λ (v : List Float). box_in_view (planes_of v (plane_count c)) (box_of (numbers_of b (section_at b k)))) volume_same
          ∙ ap (λ (x : List Float). box_in_view (planes_of (numbers_of c (volume_section c)) (plane_count c)) (box_of x)) (numbers_same k h)

      same_views : map (in_view b) (box_sections b) ≡ map (in_view c) (box_sections c)
      same_views = same_map b count (in_view b) (in_view c) view_same 1 (count - 1) (omega (arith, two)) ∙ ap (map (in_view c)) same_boxes

  -- the checks behind the first, and the answer
  abbrev behind : Bool → Bool → Bool → Bool → List Bool → Outcome (List Bool)
  behind n s g f vs = unless n (refused 12) (unless s (refused 10) (unless g (refused 3) (unless f (refused 13) (outcome vs))))

  same_behind : well_formed b ≡ true → volume_there b ≡ true
      → behind (is_count (count_number b)) (sized b) (boxes_flagged b) (numbers_finite b) (map (in_view b) (box_sections b))
      ≡ behind (is_count (count_number c)) (sized c) (boxes_flagged c) (numbers_finite c) (map (in_view c) (box_sections c))
  same_behind w v = λ t. behind (is_count (same_number_lem w v t)) (same_sizes w v t) (same_flags w t) (same_finite w t) (same_views w v t)

  same_checked : (f : Bool) → well_formed b ≡ f → (v : Bool) → (f ≡ true → volume_there b ≡ v) → checked_file b ≡ checked_file c
  unfolding checked_file
  same_checked false w v h = rw (w, sym same_form ∙ w)
  same_checked true w false h = rw (w, sym same_form ∙ w, h refl, sym (same_there w) ∙ h refl)
  same_checked true w true h = rw (w, sym same_form ∙ w, h refl, sym (same_there w) ∙ h refl) (same_behind w (h refl))

  same_answer : farm_file b ≡ farm_file c
  unfolding farm_file
  same_answer =
      ap (λ (o : Outcome (List Bool)). unless (leb (length b) largest_file) (refused 1) o) (same_checked (well_formed b) refl (volume_there b) (λ q. refl))
      ∙ ap (λ (n : ℕ). unless (leb n largest_file) (refused 1) (checked_file c)) a.size

pub gaps_unread : GapsUnread
gaps_unread b c a = same_answer b c a

pub answered_apart : AnsweredApart
answered_apart b vs e = let w = (ready b vs e).measured.formed in record { inside = placed b w; apart = apart b w }

pub answered_finite : AnsweredFileFinite
answered_finite b vs e i h = subst T (sym (section_finite b (ready b vs e).finite i h)) tt
