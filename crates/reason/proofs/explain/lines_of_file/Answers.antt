-- `lines_of_file` meets its contract: the numbers in front are those of the volume and of the boxes, and each box has its verdict in a slot. Assumes nothing.
use mathlib.Core.Path.{◌≡◌, sym, ap, subst, ◌∙◌}
use mathlib.Core.Bool.{Bool}
use mathlib.Core.List.{List, map, ◌++◌}
use Prim.Native.Nat.{ℕ, ◌+◌, ◌-◌, ◌*◌, ◌/◌, ◌<◌, ◌≤◌}
use native.Mathlib.Omega.{arith}
use lib.ListN.{length, take, drop, get_or-map, get_or}
use lib.Seq.{take-length}
use lib.Ieee.{Float}
use Rattle.number.specs.Limits.{box_length}
use Rattle.number.specs.Answer.{outcome}
use Rattle.number.proofs.Words.{as_many}
use Rattle.verdict.specs.FrustumCalls.{intersects_box_call}
use Rattle.verdict.proofs.VerdictCalls.{box_answered}
use Rattle.number.specs.Records.{records}
use Rattle.farm.specs.declared.directory.Section.{Section}
use Rattle.farm.specs.Directory.{section_count, section_at, box_sections, numbers_of, numbers_of_all, file_numbers, InFront}
use Rattle.farm.specs.FarmFile.{plane_count, in_view}
use Rattle.farm.specs.Steps.{Ready, is_yes, FileAnswered}
use Rattle.farm.proofs.SectionsLeft.{made_at}
use Rattle.farm.proofs.Placed.{box_flagged, section_finite}
use Rattle.farm.proofs.Measured.{held}
use Rattle.farm.proofs.Rooms.{first_part, second_part, parts_fit}
use Rattle.farm.proofs.Batch.{numbers_are, boxes_many, boxes_are, box_at, box_long}
use Rattle.farm.proofs.Answers.{ready, verdicts_are}
use Rattle.reason.specs.Explained.{file_volume, file_planes, Reasons, Told}
use Rattle.reason.specs.Steps.{AllSeen, LinesOf}
use Rattle.reason.proofs.explain.lines_of_file.Goals as goal

-- a file that is answered, its slots and its numbers, and the section of its volume
module _ (b : List ℕ) (slots : List ℕ) (a : FileAnswered b (length slots) slots) (numbers : List Float) (f : InFront (file_numbers b) numbers) (s : Section) (q : s ≡ section_at b 0) where
  r : Ready b
  r = ready b a.verdicts a.answer

  abbrev v : List Float
  v = file_volume b

  abbrev boxes : List Float
  boxes = numbers_of_all b (box_sections b)

  abbrev size : ℕ
  size = s.size / 8

  abbrev many : ℕ
  many = length slots * box_length

  size_is : size ≡ length v
  size_is = ap (λ (t : Section). t.size / 8) q ∙ sym (as_many b _ _)

  boxes_long : many ≡ length boxes
  boxes_long = ap (λ (k : ℕ). k * box_length) a.many ∙ sym (boxes_many b r.measured)

  front : InFront (v ++ boxes) numbers
  front = subst (λ (l : List Float). InFront l numbers) (numbers_are b r.measured) f

  volume_is : take size numbers ≡ v
  volume_is = first_part v boxes numbers front size size_is

  boxes_is : take many (drop size numbers) ≡ boxes
  boxes_is = second_part v boxes numbers front size many size_is boxes_long

  fits : size + many ≤ length numbers
  fits = omega (arith, parts_fit v boxes numbers front, size_is, boxes_long)

  seen : AllSeen v boxes slots
  seen i h =
      let l : i < section_count b - 1 = omega (arith, h, a.many) in
      let k = 1 + i in
      let x = numbers_of b (section_at b k) in
      let slot =
      sym (get_or-map is_yes slots i 0) ∙ ap (λ (vs : List Bool). get_or vs i (is_yes 0)) (ap (map is_yes) (sym (take-length slots)) ∙ a.seen ∙ verdicts_are b a.verdicts a.answer)
      ∙ made_at (in_view b) b 1 (section_count b - 1) i (is_yes 0) l in
      let called =
      box_answered v (plane_count b) (held b r.measured) (section_finite b r.finite 0 (omega (arith, l))) x (box_long b r.measured k (omega arith) (omega (arith, l)))
      (box_flagged b r.flags k (omega arith) (omega (arith, l))) (section_finite b r.finite k (omega (arith, l))) in
      ap outcome slot ∙ sym called ∙ ap (intersects_box_call v) (sym (box_at b r.measured i l))

  module _ (w x : List Float) (y : w ≡ take size numbers) (z : x ≡ take many (drop size numbers)) where
    all_seen : AllSeen w x slots
    all_seen = subst (λ (u : List Float). AllSeen u x slots) (sym (y ∙ volume_is)) (subst (λ (u : List Float). AllSeen v u slots) (sym (z ∙ boxes_is)) seen)

    as_long : length x ≡ many
    as_long = ap length (z ∙ boxes_is) ∙ sym boxes_long

    told : (t : List ℕ) → LinesOf w x (length slots) t → Told b t
    told t p =
        let u = subst (λ (j : List Float). LinesOf v j (length slots) t) (z ∙ boxes_is) (subst (λ (j : List Float). LinesOf j x (length slots) t) (y ∙ volume_is) p) in
        let o = u (plane_count b) (held b r.measured) in
        record {
          reasons = o.reasons;
          allowed = subst (λ (xs : List (List Float)). Reasons v (file_planes b) xs o.reasons) (ap (λ (k : ℕ). records box_length k boxes) a.many ∙ boxes_are b r.measured) o.allowed;
          lines = o.lines;
        }

pub split_at-requires : goal.split_at-requires
split_at-requires c = let g = c.args in omega (arith, fits g.file.now g.slots.now c.requires.0 g.numbers.now c.requires.1 _ c.section_at.ensures)

pub slice_bounds-lines_of_boxes-end : goal.slice_bounds-lines_of_boxes-end
slice_bounds-lines_of_boxes-end c =
    let g = c.args in
    sym (as_long g.file.now g.slots.now c.requires.0 g.numbers.now c.requires.1 _ c.section_at.ensures _ _ c.split_at.ensures.front (ap (take (length g.slots.now * box_length)) c.split_at.ensures.back))

pub lines_of_boxes-requires-clause-boxes_len : goal.lines_of_boxes-requires-clause-boxes_len
lines_of_boxes-requires-clause-boxes_len c =
    let g = c.args in
    (as_long g.file.now g.slots.now c.requires.0 g.numbers.now c.requires.1 _ c.section_at.ensures _ _ c.split_at.ensures.front (ap (take (length g.slots.now * box_length)) c.split_at.ensures.back), c.requires.0.few)

pub lines_of_boxes-requires-clause-all_seen : goal.lines_of_boxes-requires-clause-all_seen
lines_of_boxes-requires-clause-all_seen c =
    let g = c.args in
    all_seen g.file.now g.slots.now c.requires.0 g.numbers.now c.requires.1 _ c.section_at.ensures _ _ c.split_at.ensures.front (ap (take (length g.slots.now * box_length)) c.split_at.ensures.back)

pub returns : goal.returns
returns c =
    let g = c.args in
    told g.file.now g.slots.now c.requires.0 g.numbers.now c.requires.1 _ c.section_at.ensures _ _ c.split_at.ensures.front (ap (take (length g.slots.now * box_length)) c.split_at.ensures.back) _ c.lines_of_boxes.ensures
