-- The places passed are in the text.
use Rattle.verdict.specs.PlanesMeaning.{is_set}
use Rattle.farm.specs.Text.{Added}
use Rattle.reason.proofs.Texts.{words}
use Rattle.reason.proofs.explain.push_places.Given as goal

abbrev pub invariant-loop-place : goal.invariant-loop-place
invariant-loop-place l = Added l.initial.text (words (is_set l.bits) l.place) l.text
