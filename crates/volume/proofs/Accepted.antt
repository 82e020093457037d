-- A volume that was made has 49 finite numbers and holds six planes. The idea: the operation is not refused in one case alone, where the test of the numbers has
-- passed. Assumes nothing.
use Rattle.std.specs.Prelude.{None, Option, Some}
use mathlib.Core.Path.{◌≡◌, refl, sym, ap, ◌∙◌}
use mathlib.Core.Bool.{Bool, true, false, ◌&&◌}
use mathlib.Core.List.{List}
use native.Mathlib.Omega.{arith}
use lib.Count.{count_trailing_zeros}
use lib.Ieee.{Float, le, eq, to_unsigned, round, units, odd, size, span, climb}
use Rattle.number.specs.Tabulate.{tabulate}
use Rattle.number.specs.Limits.{fewest_planes}
use Rattle.number.specs.Answer.{Reply, refuse, Outcome, refused, outcome, unless, has, leaving, replied}
use Rattle.number.specs.Slice.{at, all_finite}
use Rattle.matrix.specs.Constants.{rounded}
use Rattle.matrix.specs.Inverse.{inverse}
use Rattle.matrix.specs.Matrix.{matrix_of, product}
use Rattle.matrix.specs.declared.matrix.Mat4d.{Mat4d}
use Rattle.verdict.specs.View.{plane_count_of}
use Rattle.verdict.proofs.PlanesHeld.{all_held}
use Rattle.volume.specs.Volume.{numbers, finite_only, clip_volume_by, clip_volume, from_matrices_call}
use Rattle.volume.specs.Accepted.{VolumeMade}
use Rattle.volume.proofs.Counted.{count}

-- the record s was made of the product m
pub record Made (m : Mat4d) (s : List Float) : Type 0 where
  pub inverse : Mat4d
  pub is : s ≡ numbers m inverse
  pub finite : all_finite s ≡ true

abbrev Good : Mat4d → Outcome (List Float) → Type 0
Good m (refused k) = k ≡ 0 → ⊥
Good m (outcome s) = Made m s

tested : (m i : Mat4d) (b : Bool) → all_finite (numbers m i) ≡ b → Good m (unless b (refused 8) (outcome (numbers m i)))
tested m i true e = record { inverse = i; is = refl; finite = e }
tested m i false e = λ z. omega (arith, z)

good : (m : Mat4d) (i : Option Mat4d) → Good m (clip_volume_by m i)
unfolding finite_only
good m None = λ z. omega (arith, z)
good m (Some i) = tested m i (all_finite (numbers m i)) refl

abbrev answer : Bool → Bool → Outcome (List Float) → List Float → Reply Float
answer inputs room o out = unless inputs (refuse 1 out) (unless room (refuse 2 out) (replied o out))

accepted : (inputs room : Bool) (m : Mat4d) (o : Outcome (List Float)) (out : List Float) → Good m o → (answer inputs room o out).status ≡ 0
    → Made m (answer inputs room o out).out
accepted false room m o out g e = absurd (omega (arith, e))
accepted true false m o out g e = absurd (omega (arith, e))
accepted true true m (refused k) out g e = absurd (g e)
accepted true true m (outcome s) out g e = g

pub made : (view projection out : List Float) → (from_matrices_call view projection out).status ≡ 0 → Made (product (matrix_of view) (matrix_of projection)) (from_matrices_call view projection out).out
unfolding from_matrices_call leaving clip_volume
made view projection out e =
    let m = product (matrix_of view) (matrix_of projection) in
    accepted (has 16 view && has 16 projection) (has 49 out) m (clip_volume m) out (good m (inverse m)) e

-- the count in front is six
six : plane_count_of (rounded fewest_planes 1) ≡ outcome fewest_planes
unfolding plane_count_of le eq to_unsigned round units odd size span climb count_trailing_zeros
six = refl

pub first : (m i : Mat4d) → at (numbers m i) 0 ≡ rounded fewest_planes 1
unfolding numbers tabulate
first m i = refl

pub volume_made : VolumeMade
volume_made view projection out e =
    let g = made view projection out e in
    let s = (from_matrices_call view projection out).out in
    let n = count _ _ s g.is in
    let c = ap (λ (l : List Float). plane_count_of (at l 0)) g.is ∙ ap plane_count_of (first _ g.inverse) ∙ six in
    record { numbers = n; held = sym (all_held s (omega (arith, n)) fewest_planes (sym c) n); finite = g.finite }
