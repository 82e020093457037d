-- `explain` meets its contract: the lines of the boxes, or of a refused file, are put in front of a text. Assumes nothing.
use Rattle.std.specs.Prelude.{Ok, Err}
use Rattle.number.specs.declared.answer.Refusal.{Refusal}
use Rattle.farm.specs.declared.farm_file.Judgement.{Judgement}
use mathlib.Core.Path.{◌≡◌, refl, sym, ap, subst, ◌∙◌}
use mathlib.Core.Bool.{Bool}
use mathlib.Core.List.{List, map}
use Prim.Native.Nat.{ℕ}
use native.Mathlib.Omega.{arith}
use lib.ListN.{length, take, replicate}
use lib.Seq.{length-take-le, take_all}
use Rattle.number.specs.Answer.{Outcome, number_of}
use Rattle.farm.specs.FarmFile.{slot_count, Judged}
use Rattle.farm.specs.Text.{refused_line}
use Rattle.farm.specs.Steps.{FileAnswered, is_yes}
use Rattle.farm.proofs.Answers.{boxes_told, refusal_told}
use Rattle.reason.specs.Explained.{Told, ToldBy, Explained}
use Rattle.reason.proofs.explain.explain.Goals as goal

-- the slots in front alone
lent : (b : List ℕ) (n : ℕ) (l : List ℕ) → FileAnswered b n l → FileAnswered b (length (take n l)) (take n l)
lent b n l a =
    let e : n ≡ length (take n l) = sym (length-take-le n l a.all) in
    subst (λ (k : ℕ). FileAnswered b k (take n l)) e (record {
      verdicts = a.verdicts;
      answer = a.answer;
      many = a.many;
      few = a.few;
      all = omega (arith, e);
      seen = ap (map is_yes) (take_all n (take n l) (omega (arith, e))) ∙ a.seen;
    })

-- the call of `judge` is on slots of zeros
module _ (b l : List ℕ) where
  module _ (j : Judgement) (e : Judged b (replicate slot_count 0) (Ok j) l) where
    boxes : FileAnswered b j.boxes l
    boxes = boxes_told b (replicate slot_count 0) refl l j.boxes e.call

    explained : (text : List ℕ) → Told b text → Explained b text
    explained text t = subst (λ (o : Outcome (List Bool)). ToldBy b o text) (sym boxes.answer) t

  refusal_explained : (r : Refusal) → Judged b (replicate slot_count 0) (Err r) l → (text : List ℕ) → text ≡ refused_line (number_of r) → Explained b text
  refusal_explained r e text t =
      subst (λ (o : Outcome (List Bool)). ToldBy b o text) (sym (refusal_told b (replicate slot_count 0) refl l (number_of r) e.call)) t

pub slice_bounds-slots-end : goal.slice_bounds-slots-end
slice_bounds-slots-end c = (boxes c.args.file.now _ _ c.in-Ok.ensures).all

pub slice_bounds-lines_of_file-end-in-Ok : goal.slice_bounds-lines_of_file-end-in-Ok
slice_bounds-lines_of_file-end-in-Ok c = sym (length-take-le _ _ (boxes c.args.file.now _ _ c.in-Ok.ensures).all)

pub lines_of_file-requires : goal.lines_of_file-requires
lines_of_file-requires c = (lent _ _ _ (boxes c.args.file.now _ _ c.in-Ok.ensures), c.in-Ok.ensures.kept)

pub returns-in-Ok : goal.returns-in-Ok
returns-in-Ok c = explained c.args.file.now _ _ c.in-Ok.ensures _ c.lines_of_file.ensures

pub returns-in-Err : goal.returns-in-Err
returns-in-Err c = refusal_explained c.args.file.now _ _ c.in-Err.ensures _ c.refused.ensures
