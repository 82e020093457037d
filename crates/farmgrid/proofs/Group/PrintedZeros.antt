-- Where no translation listed is -0, no bound of what is combined and grouped is, and on the farm grid every mixture of calls leaves one aligned range, signs included.
-- The idea: `combine` keeps one of two matrices as it is, or takes the identity, and a bound of a moved range is -0 only where the translation is. Assumes nothing.
use Rattle.std.specs.Prelude.{None, Option, Some}
use mathlib.Core.Path.{◌≡◌, refl, sym, ap, ◌∙◌, subst}
use mathlib.Core.Bool.{Bool, true, false, cond}
use mathlib.Core.List.{List, [], ◌∷◌}
use Prim.Native.Nat.{ℕ, ◌<◌}
use lib.Dec.{T, lit<}
use lib.ListN.{length}
use lib.IntN.{ℤ}
use lib.Ieee.{Float, binary64}
use lib.Ieee.Bits.{is_true}
use lib.Ieee.Fits.{add-fits, round-fits}
use Rattle.number.specs.Limits.{box_length}
use Rattle.number.specs.Answer.{Reply, write}
use Rattle.number.specs.Arithmetic.{◌⊕◌, ◌⊗◌, zero_of, min_of, max_of}
use Rattle.number.specs.Extremes.{Value}
use Rattle.matrix.specs.declared.vec.Vec3d.{Vec3d}
use Rattle.matrix.specs.declared.matrix.Mat4d.{Mat4d}
use Rattle.matrix.specs.declared.range.Range3d.{Range3d}
use Rattle.matrix.specs.Vec.{axis}
use Rattle.matrix.specs.Matrix.{entry, identity}
use Rattle.matrix.specs.Range.{range, bounds, is_empty, sum_from, reach, reached, transformed}
use Rattle.matrix.specs.Transform.{column}
use Rattle.matrix.proofs.Axes.{along}
use Rattle.matrix.proofs.Same.{same_vec3, same_range}
use Rattle.matrix.proofs.Signs.{positive, transformed_signs}
use Rattle.verdict.specs.declared.bbox.BBox3d.{BBox3d}
use Rattle.verdict.specs.BBox.{numbers, box_of, aligned_range, extended, preferred, volume, smaller_box, aligned, merged, held, combined, into_box}
use Rattle.verdict.specs.BBoxCalls.{flagged, combine_call, aligned_range_call}
use Rattle.group.proofs.Written.{flag_read}
use Rattle.group.proofs.Repeated.{Good, writes}
use Rattle.farmgrid.specs.Placement.{WholeVec}
use Rattle.farmgrid.specs.Records.{Accepted}
use Rattle.farmgrid.specs.Grouping.{Mixed, EachRecord}
use Rattle.farmgrid.specs.PrintedZeros.{PlainTranslation, PlainRecord, PlainBounds, CombinedSigns, PrintedOnce}
use Rattle.farmgrid.proofs.Numbers.OneFloat.{one_float}
use Rattle.farmgrid.proofs.Placements.WholeRanges.{nonempty_whole}
use Rattle.farmgrid.proofs.Combine.Extents.{Extent}
use Rattle.farmgrid.proofs.Records.Answers.{range_writes}
use Rattle.farmgrid.proofs.Combine.CombinedRecords.{Stands, range_is, range_whole}
use Rattle.farmgrid.proofs.Group.Mixed.{last_placed}
use Rattle.farmgrid.proofs.Group.KeptByCalls.{mixed_keeps}

-- ---- the matrix of a combined box

-- what holds of the matrices of both boxes, and of the identity, holds of that of the box that combines them
module _ (P : Mat4d → Type 0) (a b : BBox3d) (A : P a.matrix) (B : P b.matrix) (I : P identity) where
  either : (u : Bool) (x y : BBox3d) → P x.matrix → P y.matrix → P (cond u x y).matrix
  either true x y X Y = X
  either false x y X Y = Y

  of_merged : (i j : Option Mat4d) → P (merged a b i j).matrix
  unfolding merged smaller_box extended
  of_merged (Some i) (Some j) = let x = extended a b i in let y = extended b a j in either (preferred (volume x) (volume y)) x y A B
  of_merged (Some i) None = A
  of_merged None (Some j) = B
  of_merged None None = I

  of_combined : P (combined a b).matrix
  unfolding combined held
  of_combined =
      let m = merged a b (into_box a) (into_box b) in
      either (is_empty a.range) b (cond (is_empty b.range) a m) B (either (is_empty b.range) a m A (of_merged (into_box a) (into_box b)))

-- ---- translations without -0

identity_plain : PlainTranslation identity
identity_plain = let v = round-fits binary64 false 0 1 in record {
  value = along (λ j. Value (entry identity 3 j)) v v v;
  sign = along (λ j. entry identity 3 j ≡ zero_of true → ⊥) positive positive positive;
}

plain_good : (s : List Float) → PlainRecord s → Good s
plain_good s P = record { numbers = P.numbers; flag = is_true (flagged s) P.flag }

plain_written : (b : BBox3d) → PlainTranslation b.matrix → PlainRecord (numbers b)
plain_written b p = record { numbers = refl; flag = subst T (sym (flag_read b.flag)) tt; translation = p }

combine_plain : (a b : List Float) → PlainRecord a → PlainRecord b → (out : List Float) → length out ≡ box_length → PlainRecord (combine_call a b out).out
combine_plain a b A B out room =
    subst (λ (r : Reply Float). PlainRecord r.out) (sym (writes (plain_good a A) (plain_good b B) out room))
    (plain_written (combined (box_of a) (box_of b)) (of_combined PlainTranslation (box_of a) (box_of b) A.translation B.translation identity_plain))

-- ---- the aligned range of a box

module _ (r : Range3d) (m : Mat4d) (some : is_empty r ≡ false) (p : PlainTranslation m) where
  lower_plain : (j : ℕ) → j < 3 → axis (transformed r m).min j ≡ zero_of true → ⊥
  lower_plain j h z = p.sign j h ((transformed_signs r m j h some (p.value j h)).lower.0 z).translation

  upper_plain : (j : ℕ) → j < 3 → axis (transformed r m).max j ≡ zero_of true → ⊥
  upper_plain j h z = p.sign j h ((transformed_signs r m j h some (p.value j h)).upper.0 z).translation

range_plain : (s : List Float) → PlainRecord s → is_empty (box_of s).range ≡ false → (out : List Float) → length out ≡ 6 → Accepted (aligned_range_call s out) PlainBounds
range_plain s P some out room =
    let b = box_of s in
    subst (λ (r : Reply Float). Accepted r PlainBounds) (sym (range_writes s out P.numbers room (is_true (flagged s) P.flag)))
    (record {
      status = refl;
      left = record {
        numbers = refl;
        lower = lower_plain b.range b.matrix some P.translation;
        upper = upper_plain b.range b.matrix some P.translation;
      };
    })

-- the record left has such a translation
last_plain : {ss : List (List Float)} {last : List Float} → EachRecord PlainRecord ss → Mixed ss (last ∷ []) → PlainRecord last
last_plain h l = (mixed_keeps PlainRecord plain_good combine_plain l h).0

pub combined_signs : CombinedSigns
combined_signs ss last out h l some room = range_plain last (last_plain h l) some out room

-- ---- one aligned range

reach_value : (pick : Float → Float → Float) (r : Range3d) (c : Vec3d) (from : Float) → Value (reach pick r c from)
unfolding reach sum_from
reach_value pick r c from =
    let term : ℕ → Float = λ i. pick (axis r.min i ⊗ axis c i) (axis r.max i ⊗ axis c i) in
    add-fits binary64 (from ⊕ term 0 ⊕ term 1) (term 2)

module _ (r : Range3d) (m : Mat4d) (some : is_empty r ≡ false) where
  moved : transformed r m ≡ range (reached min_of r m) (reached max_of r m)
  unfolding transformed
  moved = rw some

  reached_value : (pick : Float → Float → Float) (j : ℕ) → j < 3 → Value (axis (reached pick r m) j)
  reached_value pick = along (λ j. Value (axis (reached pick r m) j)) (at 0) (at 1) (at 2)
    where
      at : (j : ℕ) → Value (reach pick r (column m j) (entry m 3 j))
      at j = reach_value pick r (column m j) (entry m 3 j)

  lower_value : (j : ℕ) → j < 3 → Value (axis (transformed r m).min j)
  lower_value j h = subst (λ (q : Range3d). Value (axis q.min j)) (sym moved) (reached_value min_of j h)

  upper_value : (j : ℕ) → j < 3 → Value (axis (transformed r m).max j)
  upper_value j h = subst (λ (q : Range3d). Value (axis q.max j)) (sym moved) (reached_value max_of j h)

-- a vector of values, none of them -0
record PlainVec (v : Vec3d) : Type 0 where
  value : (j : ℕ) → j < 3 → Value (axis v j)
  sign : (j : ℕ) → j < 3 → axis v j ≡ zero_of true → ⊥

one_vec : {u v : Vec3d} {p : ℕ → ℤ} → PlainVec u → PlainVec v → WholeVec u p → WholeVec v p → u ≡ v
one_vec {u} {v} {p} U U' g h = same_vec3 (at 0 (lit< tt)) (at 1 (lit< tt)) (at 2 (lit< tt))
  where
    at : (j : ℕ) → j < 3 → axis u j ≡ axis v j
    at j l = one_float (axis u j) (axis v j) (p j) (U.value j l) (U'.value j l) (U.sign j l) (U'.sign j l) (g.at j l) (h.at j l)

-- the range of a box that stands for something is not empty
not_empty : {s : List Float} {e : Extent} → Stands s e → is_empty (box_of s).range ≡ false
not_empty S = nonempty_whole S.holds.range_is S.holds.some

module _ {s : List Float} {e : Extent} (S : Stands s e) (P : PlainRecord s) where
  abbrev r : Range3d
  r = (box_of s).range

  abbrev m : Mat4d
  m = (box_of s).matrix

  least_plain : PlainVec (aligned_range (box_of s)).min
  least_plain = record { value = lower_value r m (not_empty S); sign = lower_plain r m (not_empty S) P.translation }

  greatest_plain : PlainVec (aligned_range (box_of s)).max
  greatest_plain = record { value = upper_value r m (not_empty S); sign = upper_plain r m (not_empty S) P.translation }

one_range : {s t : List Float} {e : Extent} → Stands s e → PlainRecord s → Stands t e → PlainRecord t → aligned_range (box_of s) ≡ aligned_range (box_of t)
one_range S P T Q =
    same_range (one_vec (least_plain S P) (least_plain T Q) (range_whole S).min (range_whole T).min)
    (one_vec (greatest_plain S P) (greatest_plain T Q) (range_whole S).max (range_whole T).max)

pub printed_once : PrintedOnce
printed_once ss B Bs h k = record {
  plain = λ {last} l out room. range_plain last (last_plain k l) (not_empty (last_placed h l)) out room;
  same = λ l l' out out' room room'.
      let S = last_placed h l in
      let T = last_placed h l' in
      range_is S out room ∙ ap (λ (r : Range3d). write (bounds r)) (one_range S (last_plain k l) T (last_plain k l')) ∙ sym (range_is T out' room');
}
