-- Which screen costs the watched rate: "For a segment answered no, find the lowest plane place whose removal alone would make it yes." Definitions only.
use Rattle.std.specs.Prelude.{ℕ, suc, Bool, List, ◌++◌, length, take, drop, Option}
use Rattle.number.specs.Places.{places_below, first_of}
use Rattle.matrix.specs.declared.vec.Vec3d.{Vec3d}
use Rattle.verdict.specs.declared.plane.Plane.{Plane}
use Rattle.verdict.specs.Frustum.{segment_in_view}

-- a list without what stands at the place i
abbrev pub without : {A : Type 0} → ℕ → List A → List A
without i l = take i l ++ drop (suc i) l

-- Without the plane at i some of the segment from a to b is in the view: "The smaller test uses the same rule over the planes left, even when five remain."
unfoldable pub seen_without : List Plane → Vec3d → Vec3d → ℕ → Bool
unfolding segment_in_view
seen_without ps a b i = segment_in_view (without i ps) a b

-- "Places count from 0; return none if no single removal suffices." All planes take part, the original six among them.
unfoldable pub blocking_plane : List Plane → Vec3d → Vec3d → Option ℕ
unfolding places_below seen_without
blocking_plane ps a b = first_of (places_below (length ps) (seen_without ps a b))
