-- `Triangle::hit_by` meets its contract: the plane's hit by its cases, the weights by what it calls, the answer by its tests. Assumes nothing.
use Rattle.std.proofs.Common.{◌≡◌, Bool, true, false, Option, Some, Result, Ok, Err}
use lib.Ieee.{Float, binary64, of_bits, lt, le}
use Rattle.number.specs.declared.answer.Refusal.{Refusal}
use Rattle.number.specs.declared.answer.Refusal.TheVariants.{Miss}
use Rattle.matrix.specs.Constants.{positive_zero, one}
use Rattle.matrix.specs.declared.vec.Vec3d.{Vec3d}
use Rattle.matrix.specs.Vec.{difference}
use Rattle.matrix.proofs.Literals.{zero_bits, one_bits}
use Rattle.verdict.specs.declared.ray.Ray.{Ray}
use Rattle.verdict.specs.declared.ray.Flat.{Flat}
use Rattle.verdict.specs.declared.ray.Triangle.{Triangle}
use Rattle.verdict.specs.declared.ray.PlaneHit.{PlaneHit}
use Rattle.verdict.specs.declared.ray.TriangleHit.{TriangleHit}
use Rattle.verdict.specs.Ray.{point_at, plane_hit, projected, beta_of, alpha_of, gamma_of, weighed, meeting_at, meeting_of, hit_in, hit_of}
use Rattle.verdict.proofs.ray.Triangle.hit_by.Goals as goal

abbrev Answer : Type 0
Answer = Result TriangleHit Refusal

module _ (distance : Float) (front : Bool) (d0 d1 d2 : Flat) (beta : Float) (p : beta ≡ beta_of d0 d1 d2) where
  below : le (of_bits binary64 0) beta ≡ false → ◌≡◌ {A = Answer} (Err Miss) (hit_in (weighed distance front d0 d1 d2))
  unfolding weighed
  below t = let t' = rw zero_bits at t in rw (← p, t')

  module _ (t : le (of_bits binary64 0) beta ≡ true) where
    reached : le positive_zero beta ≡ true
    reached = rw zero_bits at t

    beyond : le beta (of_bits binary64 0x3ff0_0000_0000_0000) ≡ false → ◌≡◌ {A = Answer} (Err Miss) (hit_in (weighed distance front d0 d1 d2))
    unfolding weighed
    beyond u = let u' = rw one_bits at u in rw (← p, reached, u')

    module _ (u : le beta (of_bits binary64 0x3ff0_0000_0000_0000) ≡ true) (alpha gamma : Float) (q : alpha ≡ alpha_of d0 d1 d2 beta)
        (r : gamma ≡ gamma_of alpha beta) where
      kept : le beta one ≡ true
      kept = rw one_bits at u

      no_alpha : lt alpha (of_bits binary64 0) ≡ true → ◌≡◌ {A = Answer} (Err Miss) (hit_in (weighed distance front d0 d1 d2))
      unfolding weighed
      no_alpha v = let v' = rw zero_bits at v in rw (← p, ← q, reached, kept, v')

      no_gamma : lt alpha (of_bits binary64 0) ≡ false → lt gamma (of_bits binary64 0) ≡ true → ◌≡◌ {A = Answer} (Err Miss) (hit_in (weighed distance front d0 d1 d2))
      unfolding weighed
      no_gamma v w =
          let v' = rw zero_bits at v in
          let w' = rw zero_bits at w in
          rw (← p, ← q, ← r, reached, kept, v', w')

      hit : lt alpha (of_bits binary64 0) ≡ false → lt gamma (of_bits binary64 0) ≡ false
          → ◌≡◌ {A = Answer} (Ok (record { distance = distance; gamma = gamma; alpha = alpha; beta = beta; front = front })) (hit_in (weighed distance front d0 d1 d2))
      unfolding weighed
      hit v w =
          let v' = rw zero_bits at v in
          let w' = rw zero_bits at w in
          rw (← p, ← q, ← r, reached, kept, v', w')

module _ (r : Ray) (t : Triangle) (found : Option PlaneHit) (h : found ≡ plane_hit r t.plane) where
  by_case : (k : Option PlaneHit) → found ≡ k → hit_in (meeting_at k r t) ≡ hit_of r t
  unfolding hit_of meeting_of
  by_case k q = rw (← q, h)

  met : (k : PlaneHit) (m s : Vec3d) (d0 : Flat) (a : Answer) → found ≡ Some k → m ≡ point_at r k.distance → s ≡ difference m t.first
      → d0 ≡ projected t.axis s → a ≡ hit_in (weighed k.distance k.front d0 t.second t.third) → a ≡ hit_of r t
  met k m s d0 a q i j l n = rw (n, l, j, i) (by_case (Some k) q)

pub returns-in_default : goal.returns-in_default
returns-in_default c = by_case _ _ _ c.intersect_plane.ensures _ c.in_default.is

pub returns-then-not-beta : goal.returns-then-not-beta
returns-then-not-beta c =
    met _ _ _ c.intersect_plane.ensures _ _ _ _ _ c.in-Some.is c.point.ensures c.sub.ensures c.projected-met.ensures
    (below _ _ _ _ _ _ c.beta-beta.ensures c.if-not-beta.true)

pub returns-then-not-beta-2 : goal.returns-then-not-beta-2
returns-then-not-beta-2 c =
    met _ _ _ c.intersect_plane.ensures _ _ _ _ _ c.in-Some.is c.point.ensures c.sub.ensures c.projected-met.ensures
    (beyond _ _ _ _ _ _ c.beta-beta.ensures c.if-not-beta.false c.if-not-beta-2.true)

pub returns-then-alpha : goal.returns-then-alpha
returns-then-alpha c =
    met _ _ _ c.intersect_plane.ensures _ _ _ _ _ c.in-Some.is c.point.ensures c.sub.ensures c.projected-met.ensures
    (no_alpha _ _ _ _ _ _ c.beta-beta.ensures c.if-not-beta.false c.if-not-beta-2.false _ _ c.alpha-alpha.ensures c.gamma-gamma.ensures c.if-alpha.true)

pub returns-then-gamma : goal.returns-then-gamma
returns-then-gamma c =
    met _ _ _ c.intersect_plane.ensures _ _ _ _ _ c.in-Some.is c.point.ensures c.sub.ensures c.projected-met.ensures
    (no_gamma _ _ _ _ _ _ c.beta-beta.ensures c.if-not-beta.false c.if-not-beta-2.false _ _ c.alpha-alpha.ensures c.gamma-gamma.ensures c.if-alpha.false c.if-gamma.true)

pub returns : goal.returns
returns c =
    met _ _ _ c.intersect_plane.ensures _ _ _ _ _ c.in-Some.is c.point.ensures c.sub.ensures c.projected-met.ensures
    (hit _ _ _ _ _ _ c.beta-beta.ensures c.if-not-beta.false c.if-not-beta-2.false _ _ c.alpha-alpha.ensures c.gamma-gamma.ensures c.if-alpha.false c.if-gamma.false)
