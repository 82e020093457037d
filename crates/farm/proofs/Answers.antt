-- What passing the checks of a file says of it, and what a call's slots say of its answer. Assumes nothing.
use mathlib.Core.Path.{◌≡◌, refl, sym, ap, ◌∙◌}
use mathlib.Core.Bool.{Bool, true, false}
use mathlib.Core.List.{List, [], ◌∷◌, map}
use Prim.Native.Nat.{ℕ, ◌-◌, ◌≤◌}
use native.Mathlib.Omega.{arith}
use borrow.Author.Tests.{eq-eqb}
use lib.Dec.{leb}
use lib.ListN.{length, length-map, take, replicate}
use lib.Seq.{take_at}
use Rattle.number.specs.Limits.{largest_file}
use Rattle.number.specs.Answer.{Outcome, refused, outcome, unless, and_then}
use Rattle.number.specs.Slots.{unused}
use Rattle.number.proofs.Filled.{length_slots}
use Rattle.verdict.specs.View.{is_count}
use Rattle.group.specs.Batch.{slot_of}
use Rattle.farm.specs.Directory.{section_count, box_sections, well_formed}
use Rattle.farm.specs.FarmFile.{volume_there, count_number, plane_count, sized, boxes_flagged, numbers_finite, in_view, checked_file, farm_file, slot_count, Listing, listing, listed, farm_file_call, sized_planes}
use Rattle.farm.specs.Steps.{Ready, boxes_seen, is_yes, FileAnswered}
use Rattle.farm.proofs.SectionsLeft.{as_many}
use Rattle.farm.proofs.Placed.{at_most}

-- ---- the checks, one after the other

-- what has a result has passed the first of its checks
pub passed : {A : Type 0} (t : Bool) (k : ℕ) (x : Outcome A) (y : A) → unless t (refused k) x ≡ outcome y → (t ≡ true) × (x ≡ outcome y)
passed true k x y e = (refl, e)
passed false k x y e = let z : ◌≡◌ {A = ℕ} 0 1 = cc in absurd (omega arith)

-- the count and the sizes, and then the checks that are left
sized_then : (v c s : Bool) (n : ℕ) (o : Outcome (List Bool)) → and_then (unless v (refused 10) (unless c (refused 12) (unless s (refused 10) (outcome n)))) (λ k. o)
    ≡ unless v (refused 10) (unless c (refused 12) (unless s (refused 10) o))
sized_then true true true n o = refl
sized_then true true false n o = refl
sized_then true false s n o = refl
sized_then false c s n o = refl

module _ (b : List ℕ) where
  abbrev by_sizes : {A : Type 0} → Outcome A → Outcome A
  by_sizes x = unless (sized b) (refused 10) x

  abbrev by_count : {A : Type 0} → Outcome A → Outcome A
  by_count x = unless (is_count (count_number b)) (refused 12) (by_sizes x)

  abbrev by_volume : {A : Type 0} → Outcome A → Outcome A
  by_volume x = unless (volume_there b) (refused 10) (by_count x)

  -- what the count and the sizes of a well-formed file come to
  pub planes_decide : well_formed b ≡ true → (o : Outcome ℕ) → o ≡ sized_planes b → and_then o (λ n. boxes_seen b) ≡ checked_file b
  unfolding checked_file
  planes_decide w o e =
      ap (λ (x : Outcome ℕ). and_then x (λ n. boxes_seen b)) e ∙ sized_then (volume_there b) (is_count (count_number b)) (sized b) (plane_count b) (boxes_seen b)
      ∙ sym (ap (λ (t : Bool). unless t (refused 9) (by_volume (boxes_seen b))) w)

  pub planes_measured : (n : ℕ) → outcome n ≡ sized_planes b → (is_count (count_number b) ≡ true) × (sized b ≡ true) × (n ≡ plane_count b)
  planes_measured n e =
      let v = passed (volume_there b) 10 (by_count (outcome (plane_count b))) n (sym e) in
      let c = passed (is_count (count_number b)) 12 (by_sizes (outcome (plane_count b))) n v.1 in
      let s = passed (sized b) 10 (outcome (plane_count b)) n c.1 in
      let f = s.1 in (c.0, s.0, cc)

  answered : (vs : List Bool) → farm_file b ≡ outcome vs → Ready b × (map (in_view b) (box_sections b) ≡ vs)
  unfolding farm_file checked_file
  answered vs e =
      let found = outcome (map (in_view b) (box_sections b)) in
      let f = passed (leb (length b) largest_file) 1 (checked_file b) vs e in
      let w = passed (well_formed b) 9 (by_volume (boxes_seen b)) vs f.1 in
      let v = passed (volume_there b) 10 (by_count (boxes_seen b)) vs w.1 in
      let c = passed (is_count (count_number b)) 12 (by_sizes (boxes_seen b)) vs v.1 in
      let s = passed (sized b) 10 (boxes_seen b) vs c.1 in
      let g = passed (boxes_flagged b) 3 (unless (numbers_finite b) (refused 13) found) vs s.1 in
      let n = passed (numbers_finite b) 13 found vs g.1 in
      let q = n.1 in
      (record { measured = record { formed = w.0; count = c.0; sizes = s.0 }; flags = g.0; finite = n.0 }, cc)

  pub ready : (vs : List Bool) → farm_file b ≡ outcome vs → Ready b
  ready vs e = (answered vs e).0

  pub verdicts_are : (vs : List Bool) → farm_file b ≡ outcome vs → vs ≡ map (in_view b) (box_sections b)
  verdicts_are vs e = sym (answered vs e).1

  many : (vs : List Bool) → farm_file b ≡ outcome vs → length vs ≡ section_count b - 1
  many vs e = ap length (verdicts_are vs e) ∙ length-map (box_sections b) (in_view b) ∙ as_many b 1 (section_count b - 1)

  -- ---- what a call with room answers

  by_answer : (out : List ℕ) → length out ≡ slot_count → farm_file_call b out ≡ listed (farm_file b) out
  unfolding farm_file_call farm_file
  by_answer out q = let e = eq-eqb (length out) slot_count q in rw e (by_size (leb (length b) largest_file))
    where
      by_size : (t : Bool) → unless t (listing (refused 1) out) (listed (checked_file b) out) ≡ listed (unless t (refused 1) (checked_file b)) out
      by_size true = refl
      by_size false = refl

said : (vs : List Bool) → map is_yes (map slot_of vs) ≡ vs
said [] = refl
said (true ∷ vs) = ap (λ (l : List Bool). true ∷ l) (said vs)
said (false ∷ vs) = ap (λ (l : List Bool). false ∷ l) (said vs)

-- a call that counts its boxes has an answer, and its slots have the verdicts
module _ (b out : List ℕ) (q : length out ≡ slot_count) (l : List ℕ) where
  pub boxes_told : (n : ℕ) → listing (outcome n) l ≡ farm_file_call b out → FileAnswered b n l
  boxes_told n e = by_case (farm_file b) refl (e ∙ by_answer b out q)
    where
      by_case : (o : Outcome (List Bool)) → farm_file b ≡ o → listing (outcome n) l ≡ listed o out → FileAnswered b n l
      by_case (refused j) a f = let g = ap (λ (x : Listing). x.count) f in let z : ◌≡◌ {A = ℕ} 0 1 = cc in absurd (omega (arith, z))
      by_case (outcome vs) a f =
          let g = ap (λ (x : Listing). x.count) f in
          let m : length vs ≡ n = cc in
          let s = ap (λ (x : Listing). x.out) f in
          let h : n ≤ slot_count = omega (arith, m, many b vs a, at_most b (ready b vs a).measured.formed) in
          let k : length (map slot_of vs) ≡ n = length-map vs slot_of ∙ m in record {
            verdicts = vs;
            answer = a;
            many = sym m ∙ many b vs a;
            few = h;
            all = omega (arith, h, ap length s ∙ length_slots slot_count (map slot_of vs) (omega (arith, k, h)));
            seen = ap (λ (x : List ℕ). map is_yes (take n x)) s ∙ ap (map is_yes) (take_at (map slot_of vs) (replicate (slot_count - length (map slot_of vs)) unused) n k) ∙ said vs;
          }

  pub refusal_told : (k : ℕ) → listing (refused k) l ≡ farm_file_call b out → farm_file b ≡ refused k
  refusal_told k e = by_case (farm_file b) refl (e ∙ by_answer b out q)
    where
      by_case : (o : Outcome (List Bool)) → farm_file b ≡ o → listing (refused k) l ≡ listed o out → farm_file b ≡ refused k
      by_case (refused j) a f = let g = ap (λ (x : Listing). x.count) f in let z : j ≡ k = cc in a ∙ ap refused z
      by_case (outcome vs) a f = let g = ap (λ (x : Listing). x.count) f in let z : ◌≡◌ {A = ℕ} 0 1 = cc in absurd (omega (arith, z))
