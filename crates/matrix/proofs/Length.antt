-- A vector scaled to length 1 by a number that is its length is the normalized one. Assumes nothing.
use mathlib.Core.Path.{◌≡◌, ap, ◌∙◌}
use lib.Ieee.{Float}
use Rattle.matrix.specs.declared.vec.Vec3d.{Vec3d}
use Rattle.matrix.specs.Vec.{length_of, unit, normalized}

pub by_length : (v u : Vec3d) (l : Float) → u ≡ unit v l → l ≡ length_of v → u ≡ normalized v
unfolding normalized
by_length v u l p q = p ∙ ap (λ (x : Float). unit v x) q
