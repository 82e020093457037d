-- Worked calls: the marked segments in whole numbers, and what turns a call back. Each computes. Assumes nothing.
use mathlib.Core.Path.{◌≡◌, refl}
use mathlib.Core.Bool.{true, false}
use mathlib.Core.List.{List, [], ◌∷◌, ◌++◌}
use lib.IntN.{ℤ, pos, negsuc}
use Rattle.number.specs.Answer.{refused, outcome}
use Rattle.number.specs.Every.{every}
use Rattle.number.specs.Tabulate.{tabulate}
use Rattle.whole.specs.Segment.{fraction, start_by, end_by, first_end, second_end, leaves, segment_in_view}
use Rattle.whole.specs.SegmentCall.{whole_segment_call}

abbrev three : ℤ → ℤ → ℤ → List ℤ
three x y z = x ∷ y ∷ z ∷ []

-- "The cube's planes, normals ±1, in order: x at least 0 (distance 0), x at most 10 (distance −10), then y and z alike."
abbrev planes : List ℤ
planes =
    pos 1 ∷ pos 0 ∷ pos 0 ∷ pos 0 ∷ negsuc 0 ∷ pos 0 ∷ pos 0 ∷ negsuc 9
    ∷ pos 0 ∷ pos 1 ∷ pos 0 ∷ pos 0 ∷ pos 0 ∷ negsuc 0 ∷ pos 0 ∷ negsuc 9
    ∷ pos 0 ∷ pos 0 ∷ pos 1 ∷ pos 0 ∷ pos 0 ∷ pos 0 ∷ negsuc 0 ∷ negsuc 9 ∷ []

abbrev cube : List ℤ
cube = pos 6 ∷ planes

case_3 : whole_segment_call cube (three (negsuc 4) (pos 5) (pos 5)) (three (pos 15) (pos 5) (pos 5)) ≡ outcome true
unfolding whole_segment_call every segment_in_view leaves tabulate
case_3 = refl

-- It comes in through x = 0 at 5 of 10, and goes out through y = 0 at 5 of 10: the same fraction.
case_4 : whole_segment_call cube (three (negsuc 4) (pos 5) (pos 5)) (three (pos 5) (negsuc 4) (pos 5)) ≡ outcome true
unfolding whole_segment_call every segment_in_view leaves tabulate
case_4 = refl

case_4_in : start_by (negsuc 4) (pos 5) first_end ≡ fraction 5 10
case_4_in = refl

case_4_out : end_by (pos 5) (negsuc 4) second_end ≡ fraction 5 10
case_4_out = refl

-- It comes in at 6 of 11, and has gone out at 5 of 11.
case_5 : whole_segment_call cube (three (negsuc 5) (pos 5) (pos 5)) (three (pos 5) (negsuc 5) (pos 5)) ≡ outcome false
unfolding whole_segment_call every segment_in_view leaves tabulate
case_5 = refl

case_5_in : start_by (negsuc 5) (pos 5) first_end ≡ fraction 6 11
case_5_in = refl

case_5_out : end_by (pos 5) (negsuc 5) second_end ≡ fraction 5 11
case_5_out = refl

case_6 : whole_segment_call cube (three (negsuc 0) (pos 0) (pos 0)) (three (negsuc 0) (pos 10) (pos 10)) ≡ outcome false
unfolding whole_segment_call every segment_in_view leaves tabulate
case_6 = refl

case_7 : whole_segment_call cube (three (pos 11) (pos 5) (pos 5)) (three (pos 11) (pos 5) (pos 5)) ≡ outcome false
unfolding whole_segment_call every segment_in_view leaves tabulate
case_7 = refl

-- the least number of 32 bits is off the grid, and has no negation there
least : whole_segment_call cube (three (negsuc 2147483647) (pos 5) (pos 5)) (three (pos 5) (pos 5) (pos 5)) ≡ refused 7
unfolding whole_segment_call every segment_in_view leaves tabulate
least = refl

-- 12 comes before 7, and before 1 for another length
count_first : whole_segment_call (pos 15 ∷ planes) (three (pos 65537) (pos 5) (pos 5)) (three (pos 5) (pos 5) (pos 5)) ≡ refused 12
unfolding whole_segment_call every segment_in_view leaves tabulate
count_first = refl

-- a view of another length than its count says
seventh_missing : whole_segment_call (pos 7 ∷ planes) (three (pos 65537) (pos 5) (pos 5)) (three (pos 5) (pos 5) (pos 5)) ≡ refused 1
unfolding whole_segment_call every segment_in_view leaves tabulate
seventh_missing = refl

-- the limits hold of a plane behind the original six too
seventh_off : whole_segment_call (pos 7 ∷ planes ++ (pos 129 ∷ pos 0 ∷ pos 0 ∷ pos 0 ∷ [])) (three (pos 1) (pos 5) (pos 5)) (three (pos 5) (pos 5) (pos 5)) ≡ refused 7
unfolding whole_segment_call every segment_in_view leaves tabulate
seventh_off = refl

seventh_on : whole_segment_call (pos 7 ∷ planes ++ (pos 128 ∷ pos 0 ∷ pos 0 ∷ pos 0 ∷ [])) (three (pos 1) (pos 5) (pos 5)) (three (pos 5) (pos 5) (pos 5)) ≡ outcome true
unfolding whole_segment_call every segment_in_view leaves tabulate
seventh_on = refl
