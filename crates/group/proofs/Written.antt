-- A box in its record: written and read back it is as it was, its flag a 0 or a 1; and what `combine` writes. Assumes nothing.
use mathlib.Core.Path.{◌≡◌, refl, ap}
use mathlib.Core.Bool.{Bool, true, false}
use mathlib.Core.List.{List}
use borrow.Author.Tests.{eq-eqb}
use lib.ListN.{length}
use lib.Ieee.{Float, eq, round}
use Rattle.number.specs.Limits.{box_length}
use Rattle.number.specs.Answer.{write, leaving}
use Rattle.matrix.specs.Constants.{one}
use Rattle.verdict.specs.BBox.{box, numbers, box_of, flag_of, is_flag, combined}
use Rattle.verdict.specs.BBoxCalls.{flagged, combine_call}
use Rattle.verdict.specs.declared.bbox.BBox3d.{BBox3d}

pub flag_read : (f : Bool) → is_flag (flag_of f) ≡ true
unfolding eq round
flag_read false = refl
flag_read true = refl

flag_back : (f : Bool) → eq (flag_of f) one ≡ f
unfolding eq round
flag_back false = refl
flag_back true = refl

pub read_back : (b : BBox3d) → box_of (numbers b) ≡ b
read_back b = ap (box b.range b.matrix) (flag_back b.flag)

-- `combine` of two records, in a slice of its record's length
pub combine_writes : (a b out : List Float) → length a ≡ box_length → length b ≡ box_length → length out ≡ box_length → flagged a ≡ true → flagged b ≡ true
    → combine_call a b out ≡ write (numbers (combined (box_of a) (box_of b)))
unfolding combine_call leaving
combine_writes a b out h i j f g = rw (eq-eqb _ _ h, eq-eqb _ _ i, eq-eqb _ _ j, f, g)
