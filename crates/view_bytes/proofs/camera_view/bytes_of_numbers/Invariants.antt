-- The bytes of the numbers passed are in the text.
use mathlib.Core.List.{[]}
use lib.ListN.{take}
use Rattle.farm.specs.Text.{Added}
use Rattle.view_bytes.proofs.NumberBytes.{bytes}
use Rattle.view_bytes.proofs.camera_view.bytes_of_numbers.Given as goal

abbrev pub invariant-loop-x : goal.invariant-loop-x
invariant-loop-x l = Added [] (bytes (take l.x-index l.numbers)) l.text
