-- `ProjectionParams::from_matrix` meets its contract by its two tests. Assumes nothing.
use Rattle.std.specs.Prelude.{None, Option}
use borrow.Author.Rules.{rules}
use mathlib.Core.Path.{◌≡◌, ap, ◌∙◌}
use mathlib.Core.Bool.{Bool, true, false}
use lib.Ieee.{Float, binary64, of_bits, lt}
use Rattle.number.specs.Arithmetic.{◌⊕◌, abs_of}
use Rattle.matrix.specs.declared.matrix.Mat4d.{Mat4d}
use Rattle.matrix.specs.Matrix.{entry}
use Rattle.matrix.specs.Constants.{one}
use Rattle.matrix.proofs.Literals.{one_bits}
use Rattle.projection.proofs.Literals.{tolerance_bits}
use Rattle.projection.specs.declared.projection.ProjectionParams.{ProjectionParams}
use Rattle.projection.specs.Projection.{perspective, orthographic, projecting, perspective_of, orthographic_of, close_to, confirmed, recovered}
use Rattle.projection.proofs.projection.ProjectionParams.from_matrix.Goals as goal

module _ (m : Mat4d) (a : Float) (h : a ≡ abs_of (entry m 2 3 ⊕ of_bits binary64 0x3ff0_0000_0000_0000)) where
  turned : a ≡ abs_of (entry m 2 3 ⊕ one)
  turned = rw one_bits at h

  first : (r : Option ProjectionParams) → lt a (of_bits binary64 0x3eb0_c6f7_a0b5_ed8d) ≡ true → r ≡ confirmed (perspective_of m) m → r ≡ recovered m
  unfolding recovered
  first r t j = let u = rw (tolerance_bits, turned) at t in rw (j, u)

  module _ (t : lt a (of_bits binary64 0x3eb0_c6f7_a0b5_ed8d) ≡ false) (b : Float) (k : b ≡ abs_of (entry m 2 3)) where
    second : (r : Option ProjectionParams) → lt b (of_bits binary64 0x3eb0_c6f7_a0b5_ed8d) ≡ true → r ≡ confirmed (orthographic_of m) m → r ≡ recovered m
    unfolding recovered
    second r v j =
        let u = rw (tolerance_bits, turned) at t in
        let w = rw (tolerance_bits, k) at v in
        rw (j, u, w)

    neither : lt b (of_bits binary64 0x3eb0_c6f7_a0b5_ed8d) ≡ false → None ≡ recovered m
    unfolding recovered
    neither v =
        let u = rw (tolerance_bits, turned) at t in
        let w = rw (tolerance_bits, k) at v in
        rw (u, w)

-- a volume that a matrix is taken for gives it back as its kind does
module _ (m : Mat4d) (v : ProjectionParams) where
  in_perspective : v ≡ perspective_of m → (b : Bool) → b ≡ close_to m (perspective v) → b ≡ close_to m (projecting v)
  in_perspective e b h = rw e (rw e at h)

  along_parallels : v ≡ orthographic_of m → (b : Bool) → b ≡ close_to m (orthographic v) → b ≡ close_to m (projecting v)
  along_parallels e b h = rw e (rw e at h)

pub returns-then-abs : goal.returns-then-abs
returns-then-abs c =
    let m = c.args.matrix in
    first _ _ c.abs.ensures _ c.if-abs.true
    (c.confirmed.ensures (λ b p. in_perspective m _ c.perspective_of.ensures b (search rules)) ∙ ap (λ (v : ProjectionParams). confirmed v m) c.perspective_of.ensures)

pub returns-then-abs-2 : goal.returns-then-abs-2
returns-then-abs-2 c =
    let m = c.args.matrix in
    second _ _ c.abs.ensures c.if-abs.false _ c.abs-2.ensures _ c.if-abs-2.true
    (c.confirmed-then-abs-2.ensures (λ b p. along_parallels m _ c.orthographic_of.ensures b (search rules)) ∙ ap (λ (v : ProjectionParams). confirmed v m) c.orthographic_of.ensures)

pub returns : goal.returns
returns c =
    neither _ _ c.abs.ensures c.if-abs.false _ c.abs-2.ensures c.if-abs-2.false
