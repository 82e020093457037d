-- The boxes of a file as a batch: its records are the boxes' numbers, and its checks those that the file has left. Assumes nothing.
use mathlib.Core.Path.{◌≡◌, refl, sym, ap, ap₂, ◌∙◌}
use mathlib.Core.Bool.{Bool, true, false, ◌&&◌, and_assoc}
use mathlib.Core.List.{List, [], ◌∷◌, ◌++◌, map}
use Prim.Native.Nat.{ℕ, zero, suc, ◌+◌, ◌-◌, ◌*◌, ◌%◌, ◌<◌, ◌≤◌}
use native.Mathlib.Omega.{arith}
use borrow.Author.Tests.{eq-eqb, lt-ltb}
use lib.ListN.{length, length-append, length-map, take, drop, replicate}
use lib.Seq.{take_at, drop-append-add}
use lib.Ieee.{Float}
use lib.Ieee.Scale.{finite}
use Rattle.number.specs.Limits.{box_length}
use Rattle.number.specs.Every.{every}
use Rattle.number.specs.Answer.{Reply, refuse, write, Outcome, refused, outcome, unless, replied}
use Rattle.number.specs.Slice.{all_finite}
use Rattle.number.specs.Slots.{unused}
use Rattle.number.specs.Tabulate.{tabulate}
use Rattle.number.specs.Records.{records, record_count, records_of, are_records}
use Rattle.number.proofs.Records.{in_front as record_in_front}
use Rattle.number.proofs.Words.{as_many}
use Rattle.verdict.specs.BBox.{box_of}
use Rattle.verdict.specs.BBoxCalls.{flagged}
use Rattle.verdict.specs.View.{volume_length, planes_of}
use Rattle.verdict.specs.Frustum.{box_in_view}
use Rattle.verdict.specs.declared.plane.Plane.{Plane}
use Rattle.group.specs.Group.{all_flagged as all_records_flagged}
use Rattle.group.specs.Batch.{slot_of, slots_by, intersects_boxes_call}
use Rattle.group.proofs.BatchWays.{by}
use Rattle.farm.specs.declared.directory.Section.{Section}
use Rattle.farm.specs.Directory.{section_count, section_at, sections_from, volume_section, box_sections, sections, numbers_of, numbers_of_all, file_numbers}
use Rattle.farm.specs.FarmFile.{plane_count, boxes_flagged, numbers_finite, in_view, slot_count, listing, listed}
use Rattle.farm.specs.Steps.{Measured, boxes_seen}
use Rattle.farm.proofs.SectionsLeft.{as_many as as_many_sections}
use Rattle.farm.proofs.Placed.{at_least, box_sized}
use Rattle.farm.proofs.Measured.{volume_length_lem, held}

-- ---- numbers one behind the other

finite_both : (xs ys : List Float) → all_finite (xs ++ ys) ≡ (all_finite xs && all_finite ys)
unfolding every
finite_both [] ys = refl
finite_both (x ∷ xs) ys = ap (λ (t : Bool). finite x && t) (finite_both xs ys) ∙ sym (and_assoc (finite x) (all_finite xs) (all_finite ys))

module _ (b : List ℕ) where
  all_finite_lem : (ss : List Section) → all_finite (numbers_of_all b ss) ≡ every (λ s. all_finite (numbers_of b s)) ss
  unfolding numbers_of_all every
  all_finite_lem [] = refl
  all_finite_lem (s ∷ ss) = finite_both (numbers_of b s) (numbers_of_all b ss) ∙ ap (λ (t : Bool). all_finite (numbers_of b s) && t) (all_finite_lem ss)

  all_flagged_lem : (ss : List Section) → all_records_flagged (map (numbers_of b) ss) ≡ every (λ s. flagged (numbers_of b s)) ss
  unfolding every
  all_flagged_lem [] = refl
  all_flagged_lem (s ∷ ss) = ap (λ (t : Bool). flagged (numbers_of b s) && t) (all_flagged_lem ss)

  all_seen : (ps : List Plane) (ss : List Section) → slots_by ps (map (numbers_of b) ss) ≡ map slot_of (map (λ s. box_in_view ps (box_of (numbers_of b s))) ss)
  all_seen ps [] = refl
  all_seen ps (s ∷ ss) = ap (λ (l : List ℕ). slot_of (box_in_view ps (box_of (numbers_of b s))) ∷ l) (all_seen ps ss)

  -- n sections from section i on that are boxes
  abbrev Boxes : ℕ → ℕ → Type 0
  Boxes i n = (k : ℕ) → i ≤ k → k < i + n → length (numbers_of b (section_at b k)) ≡ box_length

  behind_first : (i n : ℕ) → Boxes i (suc n) → Boxes (suc i) n
  behind_first i n h k p q = h k (omega arith) (omega arith)

  numbers_many : (i n : ℕ) → Boxes i n → length (numbers_of_all b (sections_from b i n)) ≡ n * box_length
  unfolding numbers_of_all sections_from
  numbers_many i zero h = refl
  numbers_many i (suc n) h =
      let first = h i (omega arith) (omega arith) in
      let rest = numbers_many (suc i) n (behind_first i n h) in
      length-append (numbers_of b (section_at b i)) (numbers_of_all b (sections_from b (suc i) n)) ∙ omega (arith, first, rest)

  records_are : (i n : ℕ) → Boxes i n → records box_length n (numbers_of_all b (sections_from b i n)) ≡ map (numbers_of b) (sections_from b i n)
  unfolding numbers_of_all sections_from tabulate
  records_are i zero h = refl
  records_are i (suc n) h =
      let x = numbers_of b (section_at b i) in
      record_in_front box_length n x (numbers_of_all b (sections_from b (suc i) n)) (h i (omega arith) (omega arith))
      ∙ ap (λ (l : List (List Float)). x ∷ l) (records_are (suc i) n (behind_first i n h))

  -- box i of them
  box_from_lem : (j n i : ℕ) → Boxes j n → i < n → take box_length (drop (i * box_length) (numbers_of_all b (sections_from b j n))) ≡ numbers_of b (section_at b (j + i))
  unfolding numbers_of_all sections_from
  box_from_lem j zero i h l = absurd (omega arith)
  box_from_lem j (suc n) zero h l =
      let z : j ≡ j + 0 = omega arith in
      take_at (numbers_of b (section_at b j)) (numbers_of_all b (sections_from b (suc j) n)) box_length (h j (omega arith) (omega arith)) ∙ ap (λ (k : ℕ). numbers_of b (section_at b k)) z
  box_from_lem j (suc n) (suc i) h l =
      let x = numbers_of b (section_at b j) in
      let y = numbers_of_all b (sections_from b (suc j) n) in
      let m : suc i * box_length ≡ length x + i * box_length = omega (arith, h j (omega arith) (omega arith)) in
      let z : suc j + i ≡ j + suc i = omega arith in
      ap (λ (k : ℕ). take box_length (drop k (x ++ y))) m ∙ ap (take box_length) (drop-append-add x y (i * box_length))
      ∙ box_from_lem (suc j) n i (behind_first j n h) (omega arith) ∙ ap (λ (k : ℕ). numbers_of b (section_at b k)) z

-- ---- what the batch answers is what the file comes to

abbrev asked : {A : Type 0} → Bool → Bool → A → Outcome A
asked f g x = unless f (refused 3) (unless g (refused 13) (outcome x))

done : (f g : Bool) (vs : List Bool) (o x : List ℕ) → write x ≡ replied (asked f g (map slot_of vs)) o → (x ≡ map slot_of vs) × (outcome vs ≡ asked f g vs)
done true true vs o x e = (ap (λ (r : Reply ℕ). r.out) e, refl)
done true false vs o x e = let z : ◌≡◌ {A = ℕ} 0 13 = ap (λ (r : Reply ℕ). r.status) e in absurd (omega (arith, z))
done false g vs o x e = let z : ◌≡◌ {A = ℕ} 0 3 = ap (λ (r : Reply ℕ). r.status) e in absurd (omega (arith, z))

stopped : (f g : Bool) (vs : List Bool) (o x : List ℕ) (k : ℕ) → (k ≡ 0 → ⊥) → refuse k x ≡ replied (asked f g (map slot_of vs)) o → (x ≡ o) × (refused k ≡ asked f g vs)
stopped true true vs o x k n e = absurd (n (ap (λ (r : Reply ℕ). r.status) e))
stopped true false vs o x k n e = (ap (λ (r : Reply ℕ). r.out) e, ap refused (ap (λ (r : Reply ℕ). r.status) e))
stopped false g vs o x k n e = (ap (λ (r : Reply ℕ). r.out) e, ap refused (ap (λ (r : Reply ℕ). r.status) e))

-- ---- a file that is measured

module _ (b : List ℕ) (r : Measured b) where
  abbrev pub count : ℕ
  count = section_count b - 1

  abbrev pub volume : List Float
  volume = numbers_of b (volume_section b)

  abbrev pub boxes : List Float
  boxes = numbers_of_all b (box_sections b)

  abbrev verdicts : List Bool
  verdicts = map (in_view b) (box_sections b)

  pub box_long : (k : ℕ) → 0 < k → k < section_count b → length (numbers_of b (section_at b k)) ≡ box_length
  box_long k p q = as_many b _ _ ∙ omega (arith, box_sized b r.sizes k p q)

  are_boxes : Boxes b 1 count
  are_boxes k p q = box_long k (omega arith) (omega (arith, q))

  pub boxes_many : length boxes ≡ count * box_length
  boxes_many = numbers_many b 1 count are_boxes

  -- the volume is in front of them
  in_front : sections b ≡ volume_section b ∷ box_sections b
  unfolding sections_from
  in_front = let e : section_count b ≡ suc (section_count b - 1) = omega (arith, at_least b r.formed) in ap (sections_from b 0) e

  pub numbers_are : file_numbers b ≡ volume ++ boxes
  unfolding numbers_of_all
  numbers_are = ap (numbers_of_all b) in_front

  pub numbers_long : length (file_numbers b) ≡ volume_length (plane_count b) + count * box_length
  numbers_long = ap length numbers_are ∙ length-append volume boxes ∙ omega (arith, volume_length_lem b r, boxes_many)

  -- ---- the call for its boxes

  as_many_boxes : record_count box_length boxes ≡ count
  as_many_boxes = omega (arith, boxes_many)

  some_boxes : are_records box_length boxes ≡ true
  some_boxes =
      let some = lt-ltb 0 (length boxes) (omega (arith, boxes_many, at_least b r.formed)) in
      let whole = eq-eqb (length boxes % box_length) 0 (omega (arith, boxes_many)) in
      λ t. some t && whole t

  pub boxes_are : records box_length count boxes ≡ map (numbers_of b) (box_sections b)
  boxes_are = records_are b 1 count are_boxes

  pub box_at : (i : ℕ) → i < count → take box_length (drop (i * box_length) boxes) ≡ numbers_of b (section_at b (1 + i))
  box_at i l = box_from_lem b 1 count i are_boxes l

  its_records : records_of box_length boxes ≡ map (numbers_of b) (box_sections b)
  its_records = ap (λ (k : ℕ). records box_length k boxes) as_many_boxes ∙ boxes_are

  its_flags : all_records_flagged (records_of box_length boxes) ≡ boxes_flagged b
  unfolding boxes_flagged
  its_flags = ap all_records_flagged its_records ∙ all_flagged_lem b (box_sections b)

  its_numbers : (all_finite volume && all_finite boxes) ≡ numbers_finite b
  unfolding numbers_finite every
  its_numbers = ap (λ (t : Bool). all_finite volume && t) (all_finite_lem b (box_sections b)) ∙ sym (ap (every (λ s. all_finite (numbers_of b s))) in_front)

  its_slots : slots_by (planes_of volume (plane_count b)) (records_of box_length boxes) ≡ map slot_of verdicts
  its_slots = ap (slots_by (planes_of volume (plane_count b))) its_records ∙ all_seen b (planes_of volume (plane_count b)) (box_sections b)

  as_many_verdicts : length verdicts ≡ count
  as_many_verdicts = length-map (box_sections b) (in_view b) ∙ as_many_sections b 1 count

  module _ (o : List ℕ) (room : length o ≡ count) (x : List ℕ) where
    call_is : replied (asked (boxes_flagged b) (numbers_finite b) (map slot_of verdicts)) o ≡ intersects_boxes_call volume boxes o
    call_is =
        ap (λ (l : List ℕ). replied (asked (boxes_flagged b) (numbers_finite b) l) o) (sym its_slots)
        ∙ by volume boxes o true (outcome (plane_count b)) true (boxes_flagged b) (numbers_finite b) some_boxes (sym (held b r)) (eq-eqb _ _ (room ∙ sym as_many_boxes)) its_flags its_numbers

    module _ (e : write x ≡ intersects_boxes_call volume boxes o) where
      by_verdicts : (x ≡ map slot_of verdicts) × (outcome verdicts ≡ boxes_seen b)
      by_verdicts = done (boxes_flagged b) (numbers_finite b) verdicts o x (e ∙ sym call_is)

      pub slots_many : length x ≡ count
      slots_many = ap length by_verdicts.0 ∙ length-map verdicts slot_of ∙ as_many_verdicts

      pub answered : (out : List ℕ) → listing (outcome count) (x ++ replicate (slot_count - count) unused) ≡ listed (boxes_seen b) out
      answered out =
          ap (λ (l : List ℕ). listing (outcome count) (l ++ replicate (slot_count - count) unused)) by_verdicts.0
          ∙ sym (ap₂ (λ (m : ℕ) (k : ℕ). listing (outcome m) (map slot_of verdicts ++ replicate (slot_count - k) unused)) as_many_verdicts (length-map verdicts slot_of ∙ as_many_verdicts))
          ∙ ap (λ (t : Outcome (List Bool)). listed t out) by_verdicts.1

    module _ (k : ℕ) (n : k ≡ 0 → ⊥) (e : refuse k x ≡ intersects_boxes_call volume boxes o) where
      by_refusal : (x ≡ o) × (refused k ≡ boxes_seen b)
      by_refusal = stopped (boxes_flagged b) (numbers_finite b) verdicts o x k n (e ∙ sym call_is)

      pub slots_kept : x ≡ o
      slots_kept = by_refusal.0

      pub not_answered : (out : List ℕ) → listing (refused k) out ≡ listed (boxes_seen b) out
      not_answered out = ap (λ (t : Outcome (List Bool)). listed t out) by_refusal.1
