-- A turn changes no verdict on the farm grid: the point operation and the product move floats as the exact turn moves whole numbers, and the exact
-- verdicts are kept by it, whatever records they are asked of.
use mathlib.Core.Path.{◌≡◌, refl, sym, ap, ◌∙◌, subst}
use mathlib.Core.Bool.{Bool}
use mathlib.Core.List.{List, [], ◌∷◌}
use Prim.Native.Nat.{ℕ, zero, suc, ◌≤◌}
use native.Mathlib.Omega.{arith}
use lib.Dec.{T, lit≤}
use lib.ListN.{length, take, drop, length-drop}
use lib.Seq.{get_or-drop}
use lib.IntN.{ℤ}
use lib.Ieee.{Float, nan}
use lib.Ieee.Bits.{is_true}
use Rattle.number.specs.Limits.{point_length, range_length, matrix_length, box_length}
use Rattle.number.specs.Answer.{Reply, Outcome, outcome, write}
use Rattle.number.specs.Slice.{at}
use Rattle.number.specs.Tabulate.{tabulate}
use Rattle.matrix.specs.declared.vec.Vec3d.{Vec3d}
use Rattle.matrix.specs.declared.matrix.Mat4d.{Mat4d}
use Rattle.matrix.specs.Vec.{vec3_of}
use Rattle.matrix.specs.Matrix.{matrix_of, entries, product}
use Rattle.matrix.specs.Range.{bounds}
use Rattle.matrix.specs.Transform.{transformed}
use Rattle.matrix.specs.MatrixCalls.{product_call, transform_call as point_moved}
use Rattle.verdict.specs.declared.bbox.BBox3d.{BBox3d}
use Rattle.verdict.specs.BBox.{box_of, is_flag, flag_of, transformed_box}
use Rattle.verdict.specs.BBoxCalls.{flagged, transform_box_call as box_moved}
use Rattle.verdict.specs.declared.plane.Plane.{Plane}
use Rattle.verdict.specs.View.{planes_of}
use Rattle.verdict.specs.Frustum.{point_in_view, segment_in_view, box_in_view}
use Rattle.verdict.specs.FrustumCalls.{intersects_point_call, intersects_segment_call, intersects_box_call}
use Rattle.whole.specs.Plane.{WholePlane}
use Rattle.placed.specs.Placement.{movedℤ, WholeBox}
use Rattle.farmgrid.specs.Placement.{Placed, GridPoint}
use Rattle.farmgrid.specs.FarmGrid.{GridBox, IsPoint, IsBox, moved_box}
use Rattle.farmgrid.specs.Records.{PointRecord, ViewRecord, BoxRecord, TurnRecord, Accepted}
use Rattle.farmgrid.specs.Turns.{TurnedPoint, TurnedBox, range_in, placement_in, box_from, TurnKeepsVerdicts}
use Rattle.farmgrid.proofs.Placements.QuarterTurns.{widen, widen_placement}
use Rattle.farmgrid.proofs.Placements.WholePlacements.{point_whole, product_whole}
use Rattle.farmgrid.proofs.Records.FiniteNumbers.{point_finite, box_record_finite, view_finite}
use Rattle.farmgrid.proofs.Records.Answers.{point_answer, segment_answer, box_answer, point_moves, product_writes, box_moves}
use Rattle.group.proofs.Written.{flag_read}
use Rattle.farmgrid.proofs.Turn.Turned.{point_turned, segment_turned}
use Rattle.farmgrid.proofs.Turn.BoxTurned.{box_turned}

-- ---- values

module _ {m : Mat4d} {f : ℕ → ℕ → ℤ} (M : Placed m f) where
  -- the point operation
  point_moved_lem : {a : Vec3d} {A : ℕ → ℤ} → IsPoint a A → GridPoint (movedℤ f A) → IsPoint (transformed m a) (movedℤ f A)
  point_moved_lem P g = record {
    numbers = point_whole M.numbers (widen_placement (lit≤ tt) M.placement) P.numbers (widen (lit≤ tt) P.grid);
    grid = g;
  }

  -- the product
  box_moved_lem : {b : BBox3d} {B : WholeBox} → IsBox b B → GridBox (moved_box f B) → IsBox (transformed_box b m) (moved_box f B)
  box_moved_lem B g = record {
    range = B.range;
    matrix = product_whole B.matrix (widen_placement (lit≤ tt) B.grid.placement) M.numbers (widen_placement (lit≤ tt) M.placement);
    grid = g;
  }

-- ---- records

-- the numbers in front of a slice, one by one
in_front : (n : ℕ) (s : List Float) → n ≤ length s → take n s ≡ tabulate (at s) n
unfolding tabulate
in_front zero s h = refl
in_front (suc n) [] h = absurd (omega (arith, h))
in_front (suc n) (x ∷ s) h = ap (λ (r : List Float). x ∷ r) (in_front n s (omega (arith, h)))

module _ (b : List Float) (n : length b ≡ box_length) where
  range_in_lem : range_in b ≡ bounds (box_of b).range
  unfolding tabulate
  range_in_lem = in_front range_length b (omega (arith, n))

  placement_in_lem : placement_in b ≡ entries (box_of b).matrix
  unfolding tabulate
  placement_in_lem =
      in_front matrix_length (drop range_length b) (omega (arith, n, length-drop range_length b))
      ∙ (λ t. tabulate (λ i. get_or-drop range_length b i nan t) matrix_length)

-- a box is read back as it was written, with whatever flag
written : (b : BBox3d) {B : WholeBox} (flag : Float) → T (is_flag flag) → IsBox b B → BoxRecord (box_from (bounds b.range) (entries b.matrix) flag) B
written b flag f h = record { numbers = refl; flag = f; box = record { range = h.range; matrix = h.matrix; grid = h.grid } }

-- a call that writes was not refused
accepted : {r : Reply Float} {v : List Float} {Kind : List Float → Type 0} → r ≡ write v → Kind v → Accepted r Kind
accepted {Kind = Kind} e k = subst (λ (r : Reply Float). Accepted r Kind) (sym e) (record { status = refl; left = k })

-- two verdicts that were not refused, and are the same
same : {o o' : Outcome Bool} {v v' : Bool} → o' ≡ outcome v' → o ≡ outcome v → v' ≡ v → o' ≡ o
same e e' h = e ∙ ap outcome h ∙ sym e'

module _ {m : List Float} {f : ℕ → ℕ → ℤ} (M : TurnRecord m f) where
  moves : {p : List Float} {A : ℕ → ℤ} → PointRecord p A → GridPoint (movedℤ f A) → (out : List Float) → length out ≡ point_length
      → Accepted (point_moved m p out) (λ p'. TurnedPoint f p p' A)
  moves {p} P g out room =
      accepted (point_moves m p out M.numbers P.numbers room)
      (record { before = P; after = record { numbers = refl; point = point_moved_lem M.turn P.point g } })

  module _ {b : List Float} {B : WholeBox} (R : BoxRecord b B) (g : GridBox (moved_box f B)) where
    -- the product, between the range and a flag
    abbrev turned : List Float → Float → List Float
    turned range flag = box_from range (entries (product (box_of b).matrix (matrix_of m))) flag

    moved : (flag : Float) → T (is_flag flag) → BoxRecord (turned (bounds (box_of b).range) flag) (moved_box f B)
    moved flag h = written (transformed_box (box_of b) (matrix_of m)) flag h (box_moved_lem M.turn R.box g)

    takes : (out : List Float) → length out ≡ matrix_length → (flag : Float) → T (is_flag flag)
        → Accepted (product_call (placement_in b) m out) (λ p. TurnedBox f b (box_from (range_in b) p flag) B)
    takes out room flag h =
        accepted
        (ap (λ (s : List Float). product_call s m out) (placement_in_lem b R.numbers)
        ∙ product_writes (entries (box_of b).matrix) m out refl M.numbers room)
        (record {
          before = R;
          after = subst (λ (r : List Float). BoxRecord (turned r flag) (moved_box f B)) (sym (range_in_lem b R.numbers)) (moved flag h);
        })

    places : (out : List Float) → length out ≡ box_length → Accepted (box_moved b m out) (λ b'. TurnedBox f b b' B)
    places out room =
        accepted (box_moves b m out R.numbers M.numbers room (is_true (flagged b) R.flag))
        (record { before = R; after = moved (flag_of (box_of b).flag) (subst T (sym (flag_read (box_of b).flag)) tt) })

-- what the verdicts answer on records
module _ {Kind : WholePlane → Type 0} {v : List Float} {Ps : List WholePlane} (W : ViewRecord Kind v Ps) where
  abbrev planes : List Plane
  planes = planes_of v W.count

  of_point : {p : List Float} {A : ℕ → ℤ} → PointRecord p A → intersects_point_call v p ≡ outcome (point_in_view planes (vec3_of p))
  of_point {p} P = point_answer v W.volume (view_finite W) p P.numbers (point_finite P)

  of_segment : {p q : List Float} {A B : ℕ → ℤ} → PointRecord p A → PointRecord q B
      → intersects_segment_call v p q ≡ outcome (segment_in_view planes (vec3_of p) (vec3_of q))
  of_segment {p} {q} P Q = segment_answer v W.volume (view_finite W) p q P.numbers Q.numbers (point_finite P) (point_finite Q)

  of_box : {b : List Float} {B : WholeBox} → BoxRecord b B → intersects_box_call v b ≡ outcome (box_in_view planes (box_of b))
  of_box {b} C = box_answer v W.volume (view_finite W) b C.numbers (is_true (flagged b) C.flag) (box_record_finite C)

pub turn_keeps : TurnKeepsVerdicts
turn_keeps m f M =
    let F = M.turn.placement in record {
      moves = moves M;
      takes = takes M;
      places = places M;
      point = λ W P.
          same (of_point W.after P.after) (of_point W.before P.before)
          (point_turned F.turn W.before.planes W.after.planes P.before.point P.after.point);
      segment = λ W P Q.
          same (of_segment W.after P.after Q.after) (of_segment W.before P.before Q.before)
          (segment_turned F.turn W.before.planes W.after.planes P.before.point P.after.point Q.before.point Q.after.point);
      box = λ W C.
          same (of_box W.after C.after) (of_box W.before C.before)
          (box_turned F W.before.planes W.after.planes C.before.box C.after.box);
    }
