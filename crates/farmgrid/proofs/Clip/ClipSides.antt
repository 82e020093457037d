-- Where an exact point of a range is inside a side of the clip volume, some corner of the range is. The idea: a box matrix whose last column is 0,0,0,1, and then the
-- camera's, take exact points where their product does; so w - x and w + x are affine along each axis of the range. One proof is for the six sides. Assumes nothing.
use mathlib.Core.Path.{◌≡◌, sym, ap, ◌∙◌, subst}
use mathlib.Core.Logic.{◌↔◌}
use mathlib.Core.Bool.{Bool, true, false}
use Prim.Native.Nat.{ℕ, ◌<◌}
use native.Mathlib.Omega.{arith}
use lib.IntN.{ℤ, pos, neg_ℤ, ◌+ℤ◌, ◌-ℤ◌, ◌*ℤ◌}
use lib.Signed.{◌<ℤ◌}
use Rattle.whole.specs.Plane.{dotℤ}
use Rattle.placed.specs.Placement.{columnℤ, turnedℤ, WholeBox}
use Rattle.farmgrid.specs.Placement.{productℤ, cornerℤ}
use Rattle.exact.specs.ExactPoint.{ExactPoint}
use Rattle.farmgrid.specs.FarmGrid.{exactly}
use Rattle.farmgrid.specs.ClipSpace.{AffineBox, InRange, throughℤ, placed_point, clip_point, InClipVolume, SomeCorner, EachSide}
use Rattle.whole.proofs.Integer.{of_self as self, of_pos, of_neg, of_eq, of_lt, ◌⊞◌, ◌⊟◌, ◌⊠◌}
use Rattle.farmgrid.proofs.Numbers.WholeSigns.{dot_flip}
use Rattle.farmgrid.proofs.Placements.Singles.{same_dot}
use Rattle.whole.proofs.Dot.{dot_comm, dot_sum, dot_times}
use Rattle.farmgrid.proofs.Segments.Dot.{dot_turned}
use Rattle.farmgrid.proofs.Placements.QuarterTurns.{affine_turned, affine_moved}
use Rattle.farmgrid.proofs.Clip.RangeCorners.{affine_at, positive_corner}

-- ---- through the box's matrix and then the camera's, or through their product
module _ (f g : ℕ → ℕ → ℤ) (zeros : (i : ℕ) → i < 3 → f i 3 ≡ pos 0) (last : f 3 3 ≡ pos 1) where
  by_product : (X : ExactPoint) (j : ℕ) → throughℤ g (placed_point f X) j ≡ throughℤ (productℤ f g) X j
  by_product X j =
      ap (λ (z : ℤ). z +ℤ k *ℤ g 3 j) (dot_comm (throughℤ f X) n ∙ dot_sum n (turnedℤ f p) (λ a. k *ℤ f 3 a))
      ∙ (λ t. dot_turned f n p t +ℤ dot_times n (f 3) k t +ℤ k *ℤ g 3 j)
      ∙ gather (dotℤ p (λ i. dotℤ n (f i))) (dotℤ n (f 3)) (g 3 j)
      ∙ sym (λ t. same_dot p {q = columnℤ (productℤ f g) j} {q' = λ i. dotℤ n (f i)} row t +ℤ k *ℤ moved t)
    where
      p : ℕ → ℤ
      p = X.numbers

      k : ℤ
      k = pos X.k

      n : ℕ → ℤ
      n = columnℤ g j

      row : (i : ℕ) → i < 3 → productℤ f g i j ≡ dotℤ n (f i)
      row i h = affine_turned f g zeros i j h ∙ dot_comm (f i) n

      moved : productℤ f g 3 j ≡ dotℤ n (f 3) +ℤ g 3 j
      moved = affine_moved f g last j ∙ ap (λ (z : ℤ). z +ℤ g 3 j) (dot_comm (f 3) n)

      gather : (a b c : ℤ) → a +ℤ k *ℤ b +ℤ k *ℤ c ≡ a +ℤ k *ℤ (b +ℤ c)
      gather a b c = of_eq (self a ⊞ self k ⊠ self b ⊞ self k ⊠ self c) (self a ⊞ self k ⊠ (self b ⊞ self c)) (omega arith)

-- ---- the six sides: below w, and above -w where s is true

abbrev pub Inside : Bool → ℤ → ℤ → Type 0
Inside false x w = x <ℤ w
Inside true x w = neg_ℤ w <ℤ x

-- how far inside
abbrev depth : Bool → ℤ → ℤ → ℤ
depth false w x = w -ℤ x
depth true w x = w +ℤ x

-- a number is inside where that is above 0
inside_is : (s : Bool) (x w : ℤ) → Inside s x w ↔ (pos 0 <ℤ depth s w x)
inside_is false x w =
    let a = of_lt (self x) (self w) in
    let b = of_lt (of_pos 0) (self w ⊟ self x) in
    (λ h. b.1 (omega (arith, a.0 h)), λ h. a.1 (omega (arith, b.0 h)))
inside_is true x w =
    let a = of_lt (of_neg (self w)) (self x) in
    let b = of_lt (of_pos 0) (self w ⊞ self x) in
    (λ h. b.1 (omega (arith, a.0 h)), λ h. a.1 (omega (arith, b.0 h)))

-- it is affine: the depth of two affine sums is the sum of the depths of their coefficients
depth_affine : (s : Bool) (u v : ℕ → ℤ) (X : ExactPoint) → affine_at (λ a. depth s (u a) (v a)) X ≡ depth s (affine_at u X) (affine_at v X)
depth_affine false u v X =
    ap (λ (z : ℤ). z +ℤ k *ℤ (u 3 -ℤ v 3)) (dot_sum p u (λ a. neg_ℤ (v a)) ∙ ap (◌+ℤ◌ (dotℤ p u)) (dot_flip true p v))
    ∙ regroup (dotℤ p u) (dotℤ p v) (u 3) (v 3)
  where
    p : ℕ → ℤ
    p = X.numbers

    k : ℤ
    k = pos X.k

    regroup : (d e a b : ℤ) → d +ℤ neg_ℤ e +ℤ k *ℤ (a -ℤ b) ≡ d +ℤ k *ℤ a -ℤ (e +ℤ k *ℤ b)
    regroup d e a b =
        of_eq (self d ⊞ of_neg (self e) ⊞ self k ⊠ (self a ⊟ self b)) (self d ⊞ self k ⊠ self a ⊟ (self e ⊞ self k ⊠ self b)) (omega arith)
depth_affine true u v X =
    ap (λ (z : ℤ). z +ℤ k *ℤ (u 3 +ℤ v 3)) (dot_sum p u v) ∙ regroup (dotℤ p u) (dotℤ p v) (u 3) (v 3)
  where
    p : ℕ → ℤ
    p = X.numbers

    k : ℤ
    k = pos X.k

    regroup : (d e a b : ℤ) → d +ℤ e +ℤ k *ℤ (a +ℤ b) ≡ d +ℤ k *ℤ a +ℤ (e +ℤ k *ℤ b)
    regroup d e a b =
        of_eq (self d ⊞ self e ⊞ self k ⊠ (self a ⊞ self b)) (self d ⊞ self k ⊠ self a ⊞ (self e ⊞ self k ⊠ self b)) (omega arith)

-- where an exact point of the range is inside a side, some corner is
module _ {B : WholeBox} (F : AffineBox B) (g : ℕ → ℕ → ℤ) where
  abbrev h : ℕ → ℕ → ℤ
  h = productℤ B.matrix g

  pub clip_is : (X : ExactPoint) (j : ℕ) → clip_point B g X j ≡ throughℤ h X j
  clip_is = by_product B.matrix g F.zeros F.last

  module _ (s : Bool) (i : ℕ) where
    -- the clip point of X is inside the side
    abbrev within : ExactPoint → Type 0
    within X = Inside s (clip_point B g X i) (clip_point B g X 3)

    -- the coefficients of its depth, and the depth by them
    abbrev slope : ℕ → ℤ
    slope a = depth s (h a 3) (h a i)

    depth_is : (X : ExactPoint) → within X ↔ (pos 0 <ℤ affine_at slope X)
    depth_is X =
        let e : depth s (clip_point B g X 3) (clip_point B g X i) ≡ affine_at slope X =
        (λ t. depth s (clip_is X 3 t) (clip_is X i t)) ∙ sym (depth_affine s (columnℤ h 3) (columnℤ h i) X) in
        let r = inside_is s (clip_point B g X i) (clip_point B g X 3) in
        (λ l. subst (◌<ℤ◌ (pos 0)) e (r.0 l), λ l. r.1 (subst (◌<ℤ◌ (pos 0)) (sym e) l))

    -- so that a point of the range inside it gives a corner inside it
    corner_within : (X : ExactPoint) → InRange B X → within X → SomeCorner B g (λ c. Inside s (c i) (c 3))
    corner_within X R l =
        let r = positive_corner slope B.low B.high X R.least R.greatest ((depth_is X).0 l) in
        record { k = r.0; below = r.1; is = (depth_is (exactly (cornerℤ B.low B.high r.0))).1 r.2 }

  -- a point inside all gives a corner for each
  pub each_side : (X : ExactPoint) → InRange B X → InClipVolume (clip_point B g X) → EachSide B g
  each_side X R C = record {
    above = λ i l. corner_within true i X R (C.above i l);
    below = λ i l. corner_within false i X R (C.below i l);
  }
