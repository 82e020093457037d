-- Which screen hides a sight line, worked on the cube of the marked verdicts, and with a shed beside it. Inputs as the numbers of their records, and the answers, by the
-- definitions that the contracts cite. Definitions only.
use Rattle.std.specs.Prelude.{◌≡◌, List, Float, None, Some}
use Rattle.number.specs.Answer.{refused, outcome}
use Rattle.verdict.specs.Marked.{plus, minus, three, cube}
use Rattle.verdict.specs.WorkedScreens.{shed, cube_with, behind_shed, over_from, over_to}
use Rattle.blocking.specs.Calls.{blocking_plane_call}

-- a line that lies behind the plane of x at least 0
abbrev pub beside_from : List Float
beside_from = three (minus 1) (plus 0) (plus 0)

abbrev pub beside_to : List Float
beside_to = three (minus 1) (plus 10) (plus 10)

-- a point behind both the plane of x at least 0 and that of y at least 0
abbrev pub aslant : List Float
aslant = three (minus 1) (minus 1) (plus 5)

-- a line past an edge of the cube: it goes behind the plane of y at least 0 at 5/11, and comes before that of x at least 0 at 6/11
abbrev pub past_from : List Float
past_from = three (minus 6) (plus 5) (plus 5)

abbrev pub past_to : List Float
past_to = three (plus 5) (minus 6) (plus 5)

pub record Worked : Type 0 where
  -- a point behind the shed, the seventh plane, at 6, and behind no other
  pub behind_shed_lem : blocking_plane_call (cube_with shed) behind_shed behind_shed ≡ outcome (Some 6)
  -- The line over the shed would be seen without it, and also without the plane of y at most 10, at 3: with that it begins at 1/3, without it at 2/15, before the
  -- shed ends it at 1/6. The lower place is named.
  pub over_shed : blocking_plane_call (cube_with shed) over_from over_to ≡ outcome (Some 3)
  -- by the cube alone it is in view
  pub already_seen : blocking_plane_call cube over_from over_to ≡ refused 14
  -- five planes are left
  pub behind_one : blocking_plane_call cube beside_from beside_to ≡ outcome (Some 0)
  -- without x at least 0, at 0, and without y at least 0, at 2
  pub two_would_do : blocking_plane_call cube past_from past_to ≡ outcome (Some 0)
  -- without either the other hides it
  pub behind_two : blocking_plane_call cube aslant aslant ≡ outcome None
