-- Paper 01, "Twelve marked verdicts": "Prove this table of its definitions as a whole." Its inputs as the numbers of their records, and the table of the
-- answers there, by the definitions that the contracts of the three operations cite. Definitions only.
use Rattle.std.specs.Prelude.{◌≡◌, ℕ, true, false, List, [], ◌∷◌, ◌++◌, Float}
use Rattle.std.specs.Float.Ieee.{neg}
use Rattle.number.specs.Answer.{outcome}
use Rattle.matrix.specs.Constants.{rounded}
use Rattle.verdict.specs.FrustumCalls.{intersects_point_call, intersects_segment_call, intersects_box_call}

-- ---- numbers

abbrev pub plus : ℕ → Float
plus n = rounded n 1

abbrev pub minus : ℕ → Float
minus n = neg (rounded n 1)

abbrev pub three : Float → Float → Float → List Float
three x y z = x ∷ y ∷ z ∷ []

abbrev pub four : Float → Float → Float → Float → List Float
four x y z w = x ∷ y ∷ z ∷ w ∷ []

-- ---- the volume

-- "The cube's planes, normals ±1, in order: x at least 0 (distance 0), x at most 10 (distance −10), then y and z alike."
abbrev pub cube_planes : List Float
cube_planes =
    four (plus 1) (plus 0) (plus 0) (plus 0)
    ++ four (minus 1) (plus 0) (plus 0) (minus 10)
    ++ four (plus 0) (plus 1) (plus 0) (plus 0)
    ++ four (plus 0) (minus 1) (plus 0) (minus 10)
    ++ four (plus 0) (plus 0) (plus 1) (plus 0)
    ++ four (plus 0) (plus 0) (minus 1) (minus 10)

-- a ray's start and its direction
abbrev pub zero_ray : List Float
zero_ray = three (plus 0) (plus 0) (plus 0) ++ three (plus 0) (plus 0) (plus 0)

-- "All numbers of its four rays are 0." The count of its planes stands first.
abbrev pub cube : List Float
cube = plus 6 ∷ cube_planes ++ zero_ray ++ zero_ray ++ zero_ray ++ zero_ray

-- ---- the boxes

-- a range from a least to a greatest corner, a matrix row by row, and the flag 0
abbrev pub box_record : List Float → List Float → List Float → List Float
box_record min max rows = min ++ max ++ rows ++ plus 0 ∷ []

abbrev pub identity_rows : List Float
identity_rows =
    four (plus 1) (plus 0) (plus 0) (plus 0)
    ++ four (plus 0) (plus 1) (plus 0) (plus 0)
    ++ four (plus 0) (plus 0) (plus 1) (plus 0)
    ++ four (plus 0) (plus 0) (plus 0) (plus 1)

-- a quarter turn, "rows 0,1,0,0; −1,0,0,0; 0,0,1,0", then one that moves it along x: "0,0,0,1" and "last row −1,0,0,1"
abbrev pub turn_rows : Float → List Float
turn_rows x =
    four (plus 0) (plus 1) (plus 0) (plus 0)
    ++ four (minus 1) (plus 0) (plus 0) (plus 0)
    ++ four (plus 0) (plus 0) (plus 1) (plus 0)
    ++ four x (plus 0) (plus 0) (plus 1)

-- ---- the table

pub record MarkedVerdicts : Type 0 where
  pub case1 : intersects_point_call cube (three (plus 0) (plus 0) (plus 0)) ≡ outcome true
  pub case2 : intersects_point_call cube (three (plus 11) (plus 5) (plus 5)) ≡ outcome false
  pub case3 : intersects_segment_call cube (three (minus 5) (plus 5) (plus 5)) (three (plus 15) (plus 5) (plus 5)) ≡ outcome true
  pub case4 : intersects_segment_call cube (three (minus 5) (plus 5) (plus 5)) (three (plus 5) (minus 5) (plus 5)) ≡ outcome true
  pub case5 : intersects_segment_call cube (three (minus 6) (plus 5) (plus 5)) (three (plus 5) (minus 6) (plus 5)) ≡ outcome false
  pub case6 : intersects_segment_call cube (three (minus 1) (plus 0) (plus 0)) (three (minus 1) (plus 10) (plus 10)) ≡ outcome false
  pub case7 : intersects_segment_call cube (three (plus 11) (plus 5) (plus 5)) (three (plus 11) (plus 5) (plus 5)) ≡ outcome false
  pub case8 : intersects_box_call cube (box_record (three (plus 10) (plus 0) (plus 0)) (three (plus 12) (plus 1) (plus 1)) identity_rows) ≡ outcome true
  pub case9 : intersects_box_call cube (box_record (three (plus 11) (plus 0) (plus 0)) (three (plus 12) (plus 1) (plus 1)) identity_rows) ≡ outcome false
  pub case10 : intersects_box_call cube (box_record (three (plus 1) (plus 0) (plus 0)) (three (plus 0) (plus 1) (plus 1)) identity_rows) ≡ outcome false
  pub case11 : intersects_box_call cube (box_record (three (plus 0) (plus 0) (plus 0)) (three (plus 1) (plus 1) (plus 1)) (turn_rows (plus 0))) ≡ outcome true
  pub case12 : intersects_box_call cube (box_record (three (plus 0) (plus 0) (plus 0)) (three (plus 1) (plus 1) (plus 1)) (turn_rows (minus 1))) ≡ outcome false
