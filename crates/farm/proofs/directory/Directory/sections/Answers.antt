-- `sections` meets its contract: each check by its test, in their order. Assumes nothing.
use Rattle.std.proofs.lemmas.Result.{err_from_is_err_and}
use mathlib.Core.Path.{◌≡◌, refl, sym, ap, ◌∙◌}
use mathlib.Core.Bool.{Bool, true, false, ◌&&◌}
use mathlib.Core.List.{List}
use Prim.Native.Nat.{ℕ, ◌*◌, ◌<◌, ◌≤◌}
use native.Mathlib.Omega.{arith}
use borrow.Author.Tests.{le-leb, lt-leb, eq-eqb, ne_eqb}
use lib.Dec.{eqb, leb}
use lib.Ieee.{Float}
use Rattle.number.specs.Limits.{fewest_planes}
use Rattle.number.specs.Answer.{Outcome, refused, outcome, unless, outcome_of}
use Rattle.number.specs.Bytes.{f64_at}
use Rattle.verdict.specs.View.{volume_length, whole_part, is_count, plane_count_of}
use Rattle.farm.specs.declared.directory.Section.{Section}
use Rattle.farm.specs.Directory.{volume_section}
use Rattle.farm.specs.FarmFile.{volume_there, count_number, plane_count, boxes_sized, sized, sized_planes}
use Rattle.farm.proofs.Answers.{passed, planes_measured}
use Rattle.farm.proofs.directory.Directory.sections.Goals as goal

counted : (x : Float) (n : ℕ) → outcome n ≡ plane_count_of x → (is_count x ≡ true) × (n ≡ whole_part x)
unfolding plane_count_of
counted x n e = let p = passed (is_count x) 12 (outcome (whole_part x)) n (sym e) in let q = p.1 in (p.0, cc)

not_counted : (x : Float) (k : ℕ) → refused k ≡ plane_count_of x → (o : Outcome ℕ) → refused k ≡ unless (is_count x) (refused 12) o
unfolding plane_count_of
not_counted x k e o = go (is_count x) e
  where
    go : (t : Bool) → refused k ≡ unless t (refused 12) (outcome (whole_part x)) → refused k ≡ unless t (refused 12) o
    go true f = let z : ◌≡◌ {A = ℕ} 0 1 = cc in absurd (omega (arith, z))
    go false f = f

-- a file, the section of its volume and how many numbers the fewest planes have
module _ (b : List ℕ) (s : Section) (q : s ≡ volume_section b) (l : ℕ) (k : l ≡ volume_length fewest_planes) where
  by : (v c z : Bool) → volume_there b ≡ v → is_count (count_number b) ≡ c → sized b ≡ z
      → unless v (refused 10) (unless c (refused 12) (unless z (refused 10) (outcome (plane_count b)))) ≡ sized_planes b
  by v c z e f g = sym (λ t. unless (e t) (refused 10) (unless (f t) (refused 12) (unless (g t) (refused 10) (outcome (plane_count b)))))

  there_by : volume_there b ≡ leb (8 * volume_length fewest_planes) s.size
  there_by = sym (ap (λ (t : Section). leb (8 * volume_length fewest_planes) t.size) q)

  small : s.size < 8 * l → refused 10 ≡ sized_planes b
  small h = by false _ _ (there_by ∙ lt-leb (8 * volume_length fewest_planes) s.size (omega (arith, h, k))) (λ t. is_count (count_number b)) (λ t. sized b)

  module _ (h : 8 * l ≤ s.size) (x : Float) (e : x ≡ f64_at b s.offset) where
    there : volume_there b ≡ true
    there = there_by ∙ le-leb (8 * volume_length fewest_planes) s.size (omega (arith, h, k))

    its_count : plane_count_of x ≡ plane_count_of (count_number b)
    its_count = ap plane_count_of (e ∙ ap (λ (t : Section). f64_at b t.offset) q)

    no_count : (j : ℕ) → refused j ≡ plane_count_of x → refused j ≡ sized_planes b
    no_count j f =
        not_counted (count_number b) j (f ∙ its_count) (unless (sized b) (refused 10) (outcome (plane_count b)))
        ∙ by true _ _ there (λ t. is_count (count_number b)) (λ t. sized b)

    module _ (n m : ℕ) (c : outcome n ≡ plane_count_of x) (z : m ≡ volume_length n) where
      is : (is_count (count_number b) ≡ true) × (n ≡ plane_count b)
      is = counted (count_number b) n (c ∙ its_count)

      sized_by : (t : Bool) → eqb s.size (8 * m) ≡ t → sized b ≡ (t && boxes_sized b)
      unfolding sized
      sized_by t f = sym (λ i. eqb (q i).size (8 * (z ∙ ap volume_length is.1) i) && boxes_sized b) ∙ ap (λ (y : Bool). y && boxes_sized b) f

      other_volume : (s.size ≡ 8 * m → ⊥) → refused 10 ≡ sized_planes b
      other_volume f = by true true false there is.0 (sized_by false (ne_eqb _ _ f))

      module _ (f : s.size ≡ 8 * m) (r : Bool) (g : r ≡ boxes_sized b) where
        boxes_decide : (y : Bool) → r ≡ y → sized b ≡ y
        boxes_decide y d = sized_by true (eq-eqb _ _ f) ∙ sym g ∙ d

        other_boxes : r ≡ false → refused 10 ≡ sized_planes b
        other_boxes d = by true true false there is.0 (boxes_decide false d)

        all_sized : r ≡ true → outcome n ≡ sized_planes b
        all_sized d = ap outcome is.1 ∙ by true true true there is.0 (boxes_decide true d)

pub returns-then-size-volume_length : goal.returns-then-size-volume_length
returns-then-size-volume_length c =
    small c.args.self.now.file.now _ c.section-volume.ensures _ c.volume_length.ensures c.if-size-volume_length.true

pub returns-then-size-volume_length-2 : goal.returns-then-size-volume_length-2
returns-then-size-volume_length-2 c =
    other_volume c.args.self.now.file.now _ c.section-volume.ensures _ c.volume_length.ensures c.if-size-volume_length.false _ c.number_at.ensures _ _
    (ap outcome_of (sym c.in_ok-planes.was) ∙ c.plane_count_of.ensures) c.volume_length-2.ensures c.if-size-volume_length-2.true

pub returns-then-not-are_boxes : goal.returns-then-not-are_boxes
returns-then-not-are_boxes c =
    other_boxes c.args.self.now.file.now _ c.section-volume.ensures _ c.volume_length.ensures c.if-size-volume_length.false _ c.number_at.ensures _ _
    (ap outcome_of (sym c.in_ok-planes.was) ∙ c.plane_count_of.ensures) c.volume_length-2.ensures c.if-size-volume_length-2.false _ c.are_boxes.ensures c.if-not-are_boxes.true

pub returns : goal.returns
returns c = (
  all_sized c.args.self.now.file.now _ c.section-volume.ensures _ c.volume_length.ensures c.if-size-volume_length.false _ c.number_at.ensures _ _
      (ap outcome_of (sym c.in_ok-planes.was) ∙ c.plane_count_of.ensures) c.volume_length-2.ensures c.if-size-volume_length-2.false _ c.are_boxes.ensures c.if-not-are_boxes.false,
  refl,
)

pub invariant_of-result : goal.invariant_of-result
invariant_of-result c =
    let m = planes_measured c.args.self.now.file.now _
    (all_sized c.args.self.now.file.now _ c.section-volume.ensures _ c.volume_length.ensures c.if-size-volume_length.false _ c.number_at.ensures _ _
    (ap outcome_of (sym c.in_ok-planes.was) ∙ c.plane_count_of.ensures) c.volume_length-2.ensures c.if-size-volume_length-2.false _ c.are_boxes.ensures c.if-not-are_boxes.false) in
    record { count = m.0; sizes = m.1; counted = m.2 }

pub returns-in_err-planes : goal.returns-in_err-planes
returns-in_err-planes c =
    let p = err_from_is_err_and c.from_residual.result c.from_residual.ensures.1 in
    rw (p.1, p.2) (
    no_count c.args.self.now.file.now _ c.section-volume.ensures _ c.volume_length.ensures c.if-size-volume_length.false _ c.number_at.ensures _
    (ap outcome_of (sym c.in_err-planes.was) ∙ c.plane_count_of.ensures))

pub overflow_mul-volume_length : goal.overflow_mul-volume_length
overflow_mul-volume_length c = omega (arith, c.volume_length.ensures)

pub overflow_mul-volume_length-2 : goal.overflow_mul-volume_length-2
overflow_mul-volume_length-2 c = omega (arith, c.volume_length-2.ensures)
