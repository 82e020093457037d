-- `push_box` meets its contract: the parts of the line, one behind the other. Assumes nothing.
use mathlib.Core.Path.{◌≡◌, ap}
use mathlib.Core.Bool.{Bool}
use mathlib.Core.List.{List, [], ◌∷◌, ◌++◌}
use Prim.Native.Nat.{ℕ}
use lib.Ieee.{Float}
use Rattle.number.specs.Answer.{Outcome, outcome, outcome_of}
use Rattle.matrix.specs.Range.{is_empty}
use Rattle.verdict.specs.BBox.{box_of}
use Rattle.verdict.specs.View.{planes_held, planes_of}
use Rattle.verdict.specs.FrustumCalls.{intersects_box_call}
use Rattle.verdict.specs.PlanesBehind.{places_behind}
use Rattle.farm.specs.Text.{decimal}
use Rattle.farm.proofs.Texts.{added_then, added_meant}
use Rattle.reason.specs.Lines.{verdict_word, behind_words, exact_word, reason_line}
use Rattle.reason.specs.Explained.{reason_of}
use Rattle.reason.proofs.Boxes.{verdict_is}
use Rattle.reason.proofs.explain.push_box.Goals as goal

-- a box with a verdict, its section, and what the exact verdict is
module _ (v x : List Float) (y : Bool) (e : outcome y ≡ intersects_box_call v x) (k : ℕ) (o : Outcome Bool) (n : ℕ) (h : outcome n ≡ planes_held v) where
  abbrev parts : Bool → List ℕ
  parts u = decimal k ++ verdict_word u ++ behind_words u (is_empty (box_of x).range) (places_behind (planes_of v n) (box_of x)) ++ exact_word u o ++ (10 ∷ [])

  are_line : parts y ≡ reason_line k (reason_of (planes_of v n) x o)
  unfolding reason_line
  are_line = ap parts (verdict_is v n h x y e)

pub returns : goal.returns
returns c =
    let g = c.args in
    λ n h. record {
      answer = outcome_of c.exact_bbox.result;
      called = c.exact_bbox.ensures;
      added = added_meant _ _ (are_line g.volume.now g.bbox.now g.yes c.requires g.section (outcome_of c.exact_bbox.result) n h)
          (added_then (added_then (added_then (added_then c.push_decimal.ensures.added c.push_verdict.ensures) (c.push_behind.ensures n h)) c.push_exact.ensures) c.push.ensures.added);
    }
