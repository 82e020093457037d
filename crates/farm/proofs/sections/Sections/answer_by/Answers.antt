-- `answer_by` meets its contract: the batch's verdicts fill the slots in front, and the others are cleared. Assumes nothing.
use Rattle.std.specs.Prelude.{⊤, Err, Ok, Result}
use Rattle.std.proofs.lemmas.Result.{err_from_is_err_and}
use mathlib.Core.Path.{◌≡◌, sym, ap, ◌∙◌}
use mathlib.Core.List.{List, [], ◌++◌, append-nil}
use Prim.Native.Nat.{ℕ, ◌-◌, ◌≤◌}
use native.Mathlib.Omega.{arith}
use lib.ListN.{length, length-append, length-drop, take, drop, drop_of_length-le, take-append-drop, replicate}
use lib.Seq.{length-take-le, take_all, take_at, drop_at}
use lib.Ieee.{Float}
use Rattle.number.specs.declared.answer.Refusal.{Refusal}
use Rattle.number.specs.declared.answer.Refusal.TheVariants.{InputLength, OutputLength, Kind, Singular, Miss, NotAProjection, OffGrid, NotFinite, Directory, SectionLength, GroupSize, PlaneCount, MissingNumber, InView}
use Rattle.number.specs.Slots.{unused}
use Rattle.number.specs.Answer.{number_of, reply, outcome, refused}
use Rattle.verdict.specs.View.{volume_length}
use Rattle.group.specs.Batch.{intersects_boxes_call}
use Rattle.farm.specs.declared.sections.Sections.{Sections}
use Rattle.farm.specs.Directory.{section_count, file_numbers}
use Rattle.farm.specs.FarmFile.{slot_count, listing, listed}
use Rattle.farm.specs.Steps.{Measured, boxes_seen}
use Rattle.farm.proofs.Placed.{at_least, at_most}
use Rattle.farm.proofs.Measured.{volume_length_lem}
use Rattle.farm.proofs.Batch.{count, volume, boxes, numbers_are, slots_many, answered, slots_kept, not_answered}
use Rattle.farm.proofs.sections.Sections.answer_by.Goals as goal

never_zero : (r : Refusal) → number_of r ≡ 0 → ⊥
never_zero InputLength e = omega (arith, e)
never_zero OutputLength e = omega (arith, e)
never_zero Kind e = omega (arith, e)
never_zero Singular e = omega (arith, e)
never_zero Miss e = omega (arith, e)
never_zero NotAProjection e = omega (arith, e)
never_zero OffGrid e = omega (arith, e)
never_zero NotFinite e = omega (arith, e)
never_zero Directory e = omega (arith, e)
never_zero SectionLength e = omega (arith, e)
never_zero GroupSize e = omega (arith, e)
never_zero PlaneCount e = omega (arith, e)
never_zero MissingNumber e = omega (arith, e)
never_zero InView e = omega (arith, e)

-- the slots in front are filled, and then those behind them cleared
behind_cleared : (x out ys : List ℕ) (n : ℕ) → n ≤ length out → length x ≡ n
    → (let l = x ++ drop n out in ys ≡ replicate (length (take (length l - n) (drop n l))) unused
    → take n l ++ (ys ++ drop (length l - n) (drop n l)) ≡ x ++ replicate (length out - n) unused)
behind_cleared x out ys n h e f =
    let l = x ++ drop n out in
    let rest = drop_at x (drop n out) n e in
    let long : length l ≡ length out = length-append x (drop n out) ∙ omega (arith, e, length-drop n out) in
    let none : drop (length l - n) (drop n l) ≡ [] = drop_of_length-le (drop n l) {i = length l - n} (omega (arith, length-drop n l)) in
    let many : length (take (length l - n) (drop n l)) ≡ length out - n = ap length (take_all (length l - n) (drop n l) (omega (arith, length-drop n l))) ∙ length-drop n l ∙ ap (λ (k : ℕ). k - n) long in
    ap (λ (t : List ℕ). take n l ++ (ys ++ t)) none ∙ ap (λ (t : List ℕ). take n l ++ t) (append-nil ys ∙ f ∙ ap (λ (k : ℕ). replicate k unused) many)
    ∙ ap (λ (t : List ℕ). t ++ replicate (length out - n) unused) (take_at x (drop n out) n e)

-- a file that is measured, its numbers, of which the volume's are so many, and the slots
module _ (s : Sections) (numbers : List Float) (e : numbers ≡ file_numbers s.directory.file.now) (out : List ℕ) (o : length out ≡ slot_count) (size : ℕ) (z : size ≡ volume_length s.planes) where
  abbrev b : List ℕ
  b = s.directory.file.now

  abbrev w : ℕ
  w = s.directory.count

  q : w ≡ section_count b
  q = s.directory.counted

  r : Measured b
  r = record { formed = s.directory.formed; count = s.count; sizes = s.sizes }

  some : 1 ≤ w
  some = omega (arith, q, at_least b r.formed)

  few : w - 1 ≤ length out
  few = omega (arith, q, o, at_most b r.formed)

  lent : length (take (w - 1) out) ≡ w - 1
  lent = length-take-le (w - 1) out few

  is : numbers ≡ volume b r ++ boxes b r
  is = e ∙ numbers_are b r

  front_many : length (volume b r) ≡ size
  front_many = volume_length_lem b r ∙ ap volume_length (sym s.counted) ∙ sym z

  fits : size ≤ length numbers
  fits = omega (arith, ap length is, length-append (volume b r) (boxes b r), front_many)

  front : take size numbers ≡ volume b r
  front = ap (take size) is ∙ take_at (volume b r) (boxes b r) size front_many

  behind : take (length numbers - size) (drop size numbers) ≡ boxes b r
  behind = take_all (length numbers - size) (drop size numbers) (omega (arith, length-drop size numbers)) ∙ ap (drop size) is ∙ drop_at (volume b r) (boxes b r) size front_many

  module _ (a : Result ⊤ Refusal) (x : List ℕ) (f : reply a x ≡ intersects_boxes_call (take size numbers) (take (length numbers - size) (drop size numbers)) (take (w - 1) out)) where
    called : reply a x ≡ intersects_boxes_call (volume b r) (boxes b r) (take (w - 1) out)
    called = f ∙ (λ t. intersects_boxes_call (front t) (behind t) (take (w - 1) out))

    as_lent : length (take (w - 1) out) ≡ count b r
    as_lent = lent ∙ ap (λ (k : ℕ). k - 1) q

    module _ (d : a ≡ Ok tt) where
      told : reply (Ok tt) x ≡ intersects_boxes_call (volume b r) (boxes b r) (take (w - 1) out)
      told = ap (λ (t : Result ⊤ Refusal). reply t x) (sym d) ∙ called

      filled : length x ≡ w - 1
      filled = slots_many b r (take (w - 1) out) as_lent x told ∙ ap (λ (k : ℕ). k - 1) (sym q)

      room_left : w - 1 ≤ length (x ++ drop (w - 1) out)
      room_left = omega (arith, length-append x (drop (w - 1) out), filled)

      all_filled : (ys : List ℕ) → (let l = x ++ drop (w - 1) out in ys ≡ replicate (length (take (length l - (w - 1)) (drop (w - 1) l))) unused
          → listing (outcome (w - 1)) (take (w - 1) l ++ (ys ++ drop (length l - (w - 1)) (drop (w - 1) l))) ≡ listed (boxes_seen b) out)
      all_filled ys g =
          ap (listing (outcome (w - 1))) (behind_cleared x out ys (w - 1) few filled g)
          ∙ (λ t. listing (outcome (q t - 1)) (x ++ replicate (o t - (q t - 1)) unused)) ∙ answered b r (take (w - 1) out) as_lent x told out

    module _ (k : Refusal) (d : a ≡ Err k) where
      refusal_told : reply (Err k) x ≡ intersects_boxes_call (volume b r) (boxes b r) (take (w - 1) out)
      refusal_told = ap (λ (t : Result ⊤ Refusal). reply t x) (sym d) ∙ called

      none_filled : listing (refused (number_of k)) (x ++ drop (w - 1) out) ≡ listed (boxes_seen b) out
      none_filled =
          ap (listing (refused (number_of k))) (ap (λ (l : List ℕ). l ++ drop (w - 1) out) (slots_kept b r (take (w - 1) out) as_lent x (number_of k) (never_zero k) refusal_told) ∙ take-append-drop (w - 1) out)
          ∙ not_answered b r (take (w - 1) out) as_lent x (number_of k) (never_zero k) refusal_told out

pub slice_bounds-intersects_bboxes-end : goal.slice_bounds-intersects_bboxes-end
slice_bounds-intersects_bboxes-end c =
    let a = c.args in
    sym (length-take-le _ a.numbers.now (fits a.self.now a.numbers.now c.requires.0 a.out.now c.requires.1 _ c.volume_length-size.ensures))

pub slice_bounds-intersects_bboxes-end-3 : goal.slice_bounds-intersects_bboxes-end-3
slice_bounds-intersects_bboxes-end-3 c =
    let a = c.args in
    few a.self.now a.numbers.now c.requires.0 a.out.now c.requires.1 _ c.volume_length-size.ensures

pub slice_bounds-intersects_bboxes-end-4 : goal.slice_bounds-intersects_bboxes-end-4
slice_bounds-intersects_bboxes-end-4 c =
    let a = c.args in
    sym (lent a.self.now a.numbers.now c.requires.0 a.out.now c.requires.1 _ c.volume_length-size.ensures)

pub returns : goal.returns
returns c =
    let a = c.args in
    all_filled a.self.now a.numbers.now c.requires.0 a.out.now c.requires.1 _ c.volume_length-size.ensures _ _ c.intersects_bboxes.ensures c.in_ok-intersects_bboxes.was _ c.clear.ensures

pub returns-in_err-intersects_bboxes : goal.returns-in_err-intersects_bboxes
returns-in_err-intersects_bboxes c =
    let a = c.args in
    let p = err_from_is_err_and c.from_residual.result c.from_residual.ensures.1 in
    rw (p.1, p.2) (
    none_filled a.self.now a.numbers.now c.requires.0 a.out.now c.requires.1 _ c.volume_length-size.ensures _ _ c.intersects_bboxes.ensures _ c.in_err-intersects_bboxes.was)

pub overflow_sub-count : goal.overflow_sub-count
overflow_sub-count c =
    let a = c.args in
    some a.self.now a.numbers.now c.requires.0 a.out.now c.requires.1 _ c.volume_length-size.ensures

pub slice_bounds-intersects_bboxes-count : goal.slice_bounds-intersects_bboxes-count
slice_bounds-intersects_bboxes-count c =
    let a = c.args in
    fits a.self.now a.numbers.now c.requires.0 a.out.now c.requires.1 _ c.volume_length-size.ensures

pub slice_bounds-intersects_bboxes-start : goal.slice_bounds-intersects_bboxes-start
slice_bounds-intersects_bboxes-start c =
    let a = c.args in
    fits a.self.now a.numbers.now c.requires.0 a.out.now c.requires.1 _ c.volume_length-size.ensures

pub slice_bounds-clear-count : goal.slice_bounds-clear-count
slice_bounds-clear-count c =
    let a = c.args in
    room_left a.self.now a.numbers.now c.requires.0 a.out.now c.requires.1 _ c.volume_length-size.ensures _ _ c.intersects_bboxes.ensures c.in_ok-intersects_bboxes.was

pub slice_bounds-clear-start : goal.slice_bounds-clear-start
slice_bounds-clear-start c =
    let a = c.args in
    room_left a.self.now a.numbers.now c.requires.0 a.out.now c.requires.1 _ c.volume_length-size.ensures _ _ c.intersects_bboxes.ensures c.in_ok-intersects_bboxes.was
