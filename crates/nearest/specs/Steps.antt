-- What the private functions of this crate promise one another. Definitions only; no contract of a public function speaks of them.
use Rattle.std.specs.Prelude.{ℕ, cond, ◌||◌, None, Option, Some}
use Rattle.std.specs.Float.Ieee.{lt, is_nan}
use Rattle.matrix.specs.Range.{is_empty, distance_squared}
use Rattle.matrix.specs.declared.vec.Vec3d.{Vec3d}
use Rattle.matrix.specs.declared.range.Range3d.{Range3d}
use Rattle.nearest.specs.declared.nearest.Nearest.{Nearest}

-- what is found of two: the second where nothing was found before, or it is nearer
abbrev pub nearer : Option Nearest → Nearest → Option Nearest
nearer None n = Some n
nearer (Some f) n = cond (lt n.distance f.distance) (Some n) (Some f)

-- what is found with one range more, at the place i, if it is a candidate
unfoldable pub with_range : Option Nearest → Range3d → Vec3d → ℕ → Option Nearest
with_range f r p i =
    let d = distance_squared r p in
    cond (is_empty r || is_nan d) f (nearer f (record { place = i; distance = d }))

-- the place that is found
abbrev pub place_of : Option Nearest → Option ℕ
place_of None = None
place_of (Some n) = Some n.place
