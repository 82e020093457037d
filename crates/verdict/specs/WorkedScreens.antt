-- A shed and a wall beside the cube of the marked verdicts: planes that turn a verdict from yes to no. Inputs as the numbers of their records, and the
-- answers, by the definitions that the contracts cite. Definitions only.
use Rattle.std.specs.Prelude.{◌≡◌, true, false, List, ◌∷◌, ◌++◌, Float}
use Rattle.number.specs.Answer.{outcome}
use Rattle.verdict.specs.FrustumCalls.{intersects_point_call, intersects_segment_call, intersects_triangle_call, intersects_box_call}
use Rattle.verdict.specs.Marked.{plus, minus, three, four, cube_planes, zero_ray, cube, box_record, identity_rows}

-- ---- the cube with a seventh plane

abbrev pub cube_with : List Float → List Float
cube_with plane = plus 7 ∷ cube_planes ++ plane ++ zero_ray ++ zero_ray ++ zero_ray ++ zero_ray

-- a shed that leaves what has x + y at most 12
abbrev pub shed : List Float
shed = four (minus 1) (minus 1) (plus 0) (minus 12)

-- a wall that leaves what has x at most 6
abbrev pub wall : List Float
wall = four (minus 1) (plus 0) (plus 0) (minus 6)

-- ---- what is looked for

-- x + y is 16
abbrev pub behind_shed : List Float
behind_shed = three (plus 8) (plus 8) (plus 5)

-- A sight line over the shed: it comes into the cube at 1/3, with x + y = 13, and goes out at 4/5; the shed leaves it up to 1/6 alone.
abbrev pub over_from : List Float
over_from = three (minus 2) (plus 13) (plus 5)

abbrev pub over_to : List Float
over_to = three (plus 13) (plus 4) (plus 5)

-- a box past the wall
abbrev pub past_wall : List Float
past_wall = box_record (three (plus 7) (plus 0) (plus 0)) (three (plus 9) (plus 1) (plus 1)) identity_rows

-- ---- the answers without the seventh plane and with it

pub record WorkedScreens : Type 0 where
  pub point : intersects_point_call cube behind_shed ≡ outcome true
  pub point_screened : intersects_point_call (cube_with shed) behind_shed ≡ outcome false
  pub segment : intersects_segment_call cube over_from over_to ≡ outcome true
  pub segment_screened : intersects_segment_call (cube_with shed) over_from over_to ≡ outcome false
  pub box : intersects_box_call cube past_wall ≡ outcome true
  pub box_screened : intersects_box_call (cube_with wall) past_wall ≡ outcome false
  -- "The triangle verdict uses the original six", so that it stays
  pub triangle : intersects_triangle_call cube behind_shed over_from over_to ≡ outcome true
  pub triangle_unscreened : intersects_triangle_call (cube_with shed) behind_shed over_from over_to ≡ outcome true
