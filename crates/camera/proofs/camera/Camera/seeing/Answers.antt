-- `Camera::seeing` meets its contract: each number is its formula, narrowed once. Assumes nothing.
use mathlib.Core.Path.{◌≡◌, ◌∙◌}
use lib.Ieee.{Float, binary64, of_bits}
use Rattle.number.specs.Arithmetic.{◌⊕◌, ◌⊗◌}
use Rattle.number.specs.Format.{narrow_of}
use Rattle.matrix.specs.declared.matrix.Mat4d.{Mat4d}
use Rattle.matrix.proofs.Literals.{half_bits}
use Rattle.projection.specs.Projection.{width, height}
use Rattle.projection.specs.declared.projection.ProjectionParams.{ProjectionParams}
use Rattle.camera.specs.declared.camera.Camera.{Camera}
use Rattle.camera.specs.Camera.{to_aperture, camera_of}
use Rattle.camera.proofs.camera.Camera.seeing.Goals as goal

module _ (m : Mat4d) (p : ProjectionParams) (f s : Float) (q : s ≡ to_aperture p.projection f) where
  -- the scaled center between two edges of the window
  abbrev center : Float → Float → Float
  center x y = narrow_of (of_bits binary64 0x3fe0_0000_0000_0000 ⊗ (x ⊕ y) ⊗ s)

  seen : {w t h v ho vo near far : Float} → w ≡ width p → t ≡ height p → h ≡ narrow_of (w ⊗ s) → v ≡ narrow_of (t ⊗ s) → ho ≡ center p.right p.left
      → vo ≡ center p.top p.bottom → near ≡ narrow_of p.near → far ≡ narrow_of p.far
      → ◌≡◌ {A = Camera} (record {
        transform = m;
        projection = p.projection;
        focal_length = f;
        horizontal_aperture = h;
        vertical_aperture = v;
        horizontal_aperture_offset = ho;
        vertical_aperture_offset = vo;
        near = near;
        far = far;
      }) (camera_of m p f)
  seen y z a b c d e g t = record {
    transform = m;
    projection = p.projection;
    focal_length = f;
    horizontal_aperture = (a ∙ (λ i. narrow_of (y i ⊗ q i))) t;
    vertical_aperture = (b ∙ (λ i. narrow_of (z i ⊗ q i))) t;
    horizontal_aperture_offset = (c ∙ (λ i. narrow_of (half_bits i ⊗ (p.right ⊕ p.left) ⊗ q i))) t;
    vertical_aperture_offset = (d ∙ (λ i. narrow_of (half_bits i ⊗ (p.top ⊕ p.bottom) ⊗ q i))) t;
    near = e t;
    far = g t;
  }

pub returns : goal.returns
returns c =
    let a = c.args in
    seen a.transform a.params a.focal_length _ c.to_aperture-scale.ensures c.width.ensures c.height.ensures c.narrow.ensures c.narrow-2.ensures
    c.narrow-3.ensures c.narrow-4.ensures c.narrow-5.ensures c.narrow-6.ensures
