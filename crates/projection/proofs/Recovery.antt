-- What recovery accepts is given back: its last test says so. And the matrices of a family of volumes are accepted, by computation. Assumes nothing.
use Rattle.std.specs.Prelude.{None, Option, Some}
use mathlib.Core.Path.{◌≡◌, refl, sym, ap, subst, ◌∙◌}
use Prim.Native.Nat.{ℕ, suc, ◌^◌, ◌<◌}
use native.Mathlib.Omega.{arith}
use mathlib.Core.Bool.{Bool, true, false, cond, ◌&&◌, false≢true}
use mathlib.Core.List.{List, ◌∷◌}
use lib.Count.{count_trailing_zeros}
use lib.ListN.{length}
use lib.Ieee.{Float, add, sub, mul, div, neg, lt, le, eq, is_nan, round, units, odd, size, span, climb}
use lib.Ieee.Scale.{finite}
use Rattle.number.specs.Answer.{Reply, refuse, write, unless, has, leaving, replied}
use Rattle.number.specs.Arithmetic.{◌⊕◌, abs_of, max_of}
use Rattle.number.specs.Every.{every_below}
use Rattle.number.specs.Slice.{at}
use Rattle.number.proofs.Every.{every_at}
use Rattle.number.proofs.Tests.{both_hold}
use Rattle.number.proofs.Ways.{left}
use Rattle.matrix.specs.Constants.{one}
use Rattle.matrix.specs.Matrix.{entries, entry, matrix_of}
use Rattle.matrix.specs.declared.matrix.Mat4d.{Mat4d}
use Rattle.projection.specs.declared.projection.Projection.{Projection}
use Rattle.projection.specs.declared.projection.Projection.TheVariants.{Perspective, Orthographic}
use Rattle.projection.specs.declared.projection.ProjectionParams.{ProjectionParams}
use Rattle.projection.specs.Projection.{kind_number, numbers, params_loaded, built_numbers, tolerance, extent, close_at, close_to, bounded, close, projecting, perspective_of, orthographic_of, confirmed, recovered, recovered_numbers}
use Rattle.projection.specs.ProjectionCalls.{projection_call, recovery_call}
use Rattle.projection.specs.Recovery.{GivesBack, RecoveryGivesBack, centred, ThereAndBack, FamilyRecovered}

-- ---- the record of a volume is taken for that volume

as_kind : (kind : Projection) (p : ProjectionParams) → p.projection ≡ kind → params_loaded (kind_number kind ∷ extent p) ≡ Some p
unfolding params_loaded eq round units odd size span climb count_trailing_zeros
as_kind Perspective p e = ap (λ (k : Projection). Some (record { projection = k; left = p.left; right = p.right; bottom = p.bottom; top = p.top; near = p.near; far = p.far })) (sym e)
as_kind Orthographic p e = ap (λ (k : Projection). Some (record { projection = k; left = p.left; right = p.right; bottom = p.bottom; top = p.top; near = p.near; far = p.far })) (sym e)

builds : (p : ProjectionParams) (out : List Float) → length out ≡ 16 → write (entries (projecting p)) ≡ projection_call (numbers p) out
unfolding projection_call
builds p out h = ap (λ (l : Option ProjectionParams). replied (built_numbers l) out) (sym (as_kind p.projection p refl)) ∙ left _ 16 _ out refl h

-- ---- what recovery accepts is given back

-- what the tests of a recovery say of the volume that they are passed by
record Confirmed (p : ProjectionParams) (m : Mat4d) : Type 0 where
  finite_numbers : bounded p ≡ true
  near_numbers : close_to m (projecting p) ≡ true

module _ (m : Mat4d) (p : ProjectionParams) where
  never : None ≡ Some p → Confirmed p m
  never e = let z : ◌≡◌ {A = ℕ} 0 1 = cc in let none : ⊥ = omega arith in absurd none

  by_answer : (q : ProjectionParams) (b : Bool) → (bounded q && close_to m (projecting q)) ≡ b → cond b (Some q) None ≡ Some p → Confirmed p m
  by_answer q true t e =
      let s = both_hold (bounded q) (close_to m (projecting q)) t in
      let same : q ≡ p = cc in
      subst (λ (x : ProjectionParams). Confirmed x m) same (record { finite_numbers = s.0; near_numbers = s.1 })
  by_answer q false t e = never e

  by_kind : (t u : Bool) → cond t (confirmed (perspective_of m) m) (cond u (confirmed (orthographic_of m) m) None) ≡ Some p → Confirmed p m
  unfolding confirmed
  by_kind true u e = by_answer (perspective_of m) _ refl e
  by_kind false true e = by_answer (orthographic_of m) _ refl e
  by_kind false false e = never e

  tested : recovered m ≡ Some p → Confirmed p m
  unfolding recovered
  tested e = by_kind (lt (abs_of (entry m 2 3 ⊕ one)) tolerance) (lt (abs_of (entry m 2 3)) tolerance) e

module _ (m : List Float) (p : ProjectionParams) (c : Confirmed p (matrix_of m)) where
  near : (i : ℕ) → i < 16 → close (at m i) (at (entries (projecting p)) i) ≡ true
  unfolding close_to every_below
  near = every_at 16 (close_at m (entries (projecting p))) c.near_numbers

  volume_gives_back : GivesBack (numbers p) m
  unfolding bounded
  volume_gives_back = record {
    bounded = every_at 6 (λ i. finite (at (extent p) i)) c.finite_numbers;
    taken = λ out h. ap (λ (r : Reply Float). r.status) (sym (builds p out h));
    rebuilt = λ out h i l. subst (λ (r : Reply Float). close (at m i) (at r.out i) ≡ true) (builds p out h) (near i l);
  }

module _ (m out : List Float) where
  abbrev answer : Bool → Bool → Option ProjectionParams → Reply Float
  answer inputs room r = unless inputs (refuse 1 out) (unless room (refuse 2 out) (replied (recovered_numbers r) out))

  by_ways : (inputs room : Bool) (r : Option ProjectionParams) → recovered (matrix_of m) ≡ r → (answer inputs room r).status ≡ 0 → GivesBack (answer inputs room r).out m
  by_ways false room r q e = absurd (omega (arith, e))
  by_ways true false r q e = absurd (omega (arith, e))
  by_ways true true None q e = absurd (omega (arith, e))
  by_ways true true (Some p) q e = volume_gives_back m p (tested (matrix_of m) p q)

pub recovery_gives_back : RecoveryGivesBack
unfolding recovery_call leaving
recovery_gives_back m out e = by_ways m out (has 16 m) (has 7 out) (recovered (matrix_of m)) refl e

-- ---- a family that is built and recovered

abbrev same_kind : Projection → Projection → Bool
same_kind Perspective Perspective = true
same_kind Perspective Orthographic = false
same_kind Orthographic Perspective = false
same_kind Orthographic Orthographic = true

kind_is : (j k : Projection) → same_kind j k ≡ true → k ≡ j
kind_is Perspective Perspective e = refl
kind_is Perspective Orthographic e = absurd (false≢true e)
kind_is Orthographic Perspective e = absurd (false≢true e)
kind_is Orthographic Orthographic e = refl

-- a volume of a kind is recovered
abbrev as_such : Projection → Option ProjectionParams → Bool
as_such kind (Some p) = same_kind kind p.projection
as_such kind None = false

-- the test of one of them
abbrev passes : Projection → ℕ → ℕ → ℕ → Bool
passes kind w h k = as_such kind (recovered (projecting (centred kind (suc w) (suc h) (2 ^ suc k))))

abbrev all_pass : Projection → Bool
all_pass kind = every_below 2 (λ w. every_below 2 (λ h. every_below 6 (λ k. passes kind w h k)))

computed : (kind : Projection) → all_pass kind ≡ true
unfolding recovered confirmed bounded close_to close every_below abs_of max_of add sub mul div neg lt le is_nan
computed Perspective = refl
computed Orthographic = refl

module _ (p : ProjectionParams) (out : List Float) where
  taken : (r : Option ProjectionParams) → as_such p.projection r ≡ true
      → ((replied (recovered_numbers r) out).status ≡ 0) × (at (replied (recovered_numbers r) out).out 0 ≡ kind_number p.projection)
  taken (Some q) e = (refl, ap kind_number (kind_is p.projection q.projection e))
  taken None e = absurd (false≢true e)

  recovers : length out ≡ 7 → replied (recovered_numbers (recovered (projecting p))) out ≡ recovery_call (entries (projecting p)) out
  unfolding recovery_call
  recovers h = left _ 7 _ out refl h

there_and_back : (p : ProjectionParams) → as_such p.projection (recovered (projecting p)) ≡ true → ThereAndBack p
there_and_back p t = record {
  taken = λ out h. ap (λ (r : Reply Float). r.status) (sym (builds p out h));
  accepted = λ m out g h. subst (λ (r : Reply Float). r.status ≡ 0) (whole m out g h) (taken p out (recovered (projecting p)) t).0;
  kind = λ m out g h. subst (λ (r : Reply Float). at r.out 0 ≡ kind_number p.projection) (whole m out g h) (taken p out (recovered (projecting p)) t).1;
}
  where
    whole : (m out : List Float) → length m ≡ 16 → length out ≡ 7
        → replied (recovered_numbers (recovered (projecting p))) out ≡ recovery_call (projection_call (numbers p) m).out out
    whole m out g h = recovers p out h ∙ ap (λ (r : Reply Float). recovery_call r.out out) (builds p m g)

pub family_recovered : FamilyRecovered
family_recovered kind w h k i j l =
    there_and_back (centred kind (suc w) (suc h) (2 ^ suc k))
    (every_at 6 (passes kind w h)
    (every_at 2 (λ h. every_below 6 (λ k. passes kind w h k))
    (every_at 2 (λ w. every_below 2 (λ h. every_below 6 (λ k. passes kind w h k))) (computed kind) w i) h j)
    k l)
