-- `volume_sent` meets its contract: the file's length by its test, the matrices and their volume by what it calls. Assumes nothing.
use mathlib.Core.Path.{◌≡◌, ap, ap₂, ◌∙◌}
use mathlib.Core.Bool.{Bool, cond}
use mathlib.Core.List.{List}
use Prim.Native.Nat.{ℕ, ◌+◌, ◌≤◌}
use native.Mathlib.Omega.{arith}
use borrow.Author.Tests.{eq-eqb, ne_eqb, le-leb}
use lib.ListN.{length, replicate}
use lib.Ieee.{Float, binary64, of_bits}
use Rattle.number.specs.Answer.{Reply, refuse}
use Rattle.number.specs.Bytes.{numbers_at, loaded}
use Rattle.number.proofs.Ways.{stops, passes}
use Rattle.volume.specs.Volume.{from_matrices_call}
use Rattle.view_bytes.specs.CameraView.{volume_sent}
use Rattle.view_bytes.proofs.camera_view.volume_sent.Goals as goal

-- what a matrix is read into
abbrev zeros : List Float
zeros = replicate 16 (of_bits binary64 0)

module _ (b : List ℕ) (out : List Float) where
  other_length : (length b ≡ 256 → ⊥) → refuse 1 out ≡ volume_sent b out
  unfolding volume_sent
  other_length h = stops _ _ _ (ne_eqb _ _ h)

  module _ (h : length b ≡ 256) where
    -- a matrix from a place on
    matrix : (i : ℕ) (v : List Float) → i + 128 ≤ 256 → v ≡ loaded b i zeros → v ≡ numbers_at b i 16
    matrix i v l e = e ∙ ap (λ (z : Bool). cond z (numbers_at b i 16) zeros) (le-leb (i + 128) (length b) (omega (arith, h, l)))

    by_call : (r : Reply Float) (v p : List Float) → v ≡ loaded b 0 zeros → p ≡ loaded b 128 zeros → r ≡ from_matrices_call v p out → r ≡ volume_sent b out
    unfolding volume_sent
    by_call r v p e f g = passes _ _ _ r (eq-eqb _ _ h) (g ∙ ap₂ (λ (x y : List Float). from_matrices_call x y out) (matrix 0 v (omega arith) e) (matrix 128 p (omega arith) f))

pub returns-then-file-ne-MATRICES_SIZE : goal.returns-then-file-ne-MATRICES_SIZE
returns-then-file-ne-MATRICES_SIZE c = let g = c.args in other_length g.file.now g.out.now c.if-file-ne-MATRICES_SIZE.true

pub returns : goal.returns
returns c =
    let g = c.args in
    by_call g.file.now g.out.now c.if-file-ne-MATRICES_SIZE.false _ _ _ c.load.ensures c.load-2.ensures c.from_view_and_projection.ensures
