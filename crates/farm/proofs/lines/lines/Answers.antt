-- `lines` meets its contract: the slots say what the file comes to. Assumes nothing.
use mathlib.Core.Path.{◌≡◌, refl, sym, ap, ◌∙◌}
use mathlib.Core.List.{List, map}
use Prim.Native.Nat.{ℕ}
use native.Mathlib.Omega.{arith}
use lib.ListN.{take, replicate}
use lib.Seq.{length-take-le}
use Rattle.number.specs.Answer.{refused, outcome}
use Rattle.farm.specs.FarmFile.{farm_file, slot_count, listing, farm_file_call}
use Rattle.farm.specs.Text.{lines_from, refused_line}
use Rattle.farm.specs.Lines.{line, lines_of}
use Rattle.farm.specs.Steps.{FileAnswered, is_yes}
use Rattle.farm.proofs.Answers.{boxes_told, refusal_told}
use Rattle.farm.proofs.lines.lines.Goals as goal

-- the call of `farm_file` is on slots of zeros
module _ (b l : List ℕ) where
  boxes : (n : ℕ) → listing (outcome n) l ≡ farm_file_call b (replicate slot_count 0) → FileAnswered b n l
  boxes n e = boxes_told b (replicate slot_count 0) refl l n e

  boxes_shown : (n : ℕ) → listing (outcome n) l ≡ farm_file_call b (replicate slot_count 0) → lines_from line 1 (map is_yes (take n l)) ≡ lines_of (farm_file b)
  unfolding lines_of
  boxes_shown n e = let told = boxes n e in ap (lines_from line 1) told.seen ∙ sym (ap lines_of told.answer)

  refusal_shown : (k : ℕ) → listing (refused k) l ≡ farm_file_call b (replicate slot_count 0) → refused_line k ≡ lines_of (farm_file b)
  unfolding lines_of
  refusal_shown k e = sym (ap lines_of (refusal_told b (replicate slot_count 0) refl l k e))

pub slice_bounds-lines_of_slots-end : goal.slice_bounds-lines_of_slots-end
slice_bounds-lines_of_slots-end c = let s = boxes c.args.file.now _ _ c.in-Ok.ensures in sym (length-take-le _ _ s.all)

pub lines_of_slots-requires : goal.lines_of_slots-requires
lines_of_slots-requires c = let s = boxes c.args.file.now _ _ c.in-Ok.ensures in omega (arith, s.few, length-take-le _ _ s.all)

pub returns-in-Ok : goal.returns-in-Ok
returns-in-Ok c = c.lines_of_slots.ensures ∙ boxes_shown c.args.file.now _ _ c.in-Ok.ensures

pub returns-in-Err : goal.returns-in-Err
returns-in-Err c = c.refused.ensures ∙ refusal_shown c.args.file.now _ _ c.in-Err.ensures

pub slice_bounds-slots-end : goal.slice_bounds-slots-end
slice_bounds-slots-end c = (boxes c.args.file.now _ _ c.in-Ok.ensures).all
