-- The constraints as the code reads them: numbers of a record widened to 64 bits, faces and planes made of them. Assumes nothing.
use mathlib.Core.Path.{◌≡◌, refl, sym, ap, subst, ◌∙◌}
use mathlib.Core.Bool.{Bool, true, false, cond}
use mathlib.Core.List.{List}
use Prim.Native.Nat.{ℕ, zero, suc, ◌+◌, ◌-◌, ◌≤◌, ◌<◌}
use native.Mathlib.Nat.{le_trans}
use native.Mathlib.Omega.{arith}
use borrow.Author.Tests.{lt-ltb, le-ltb}
use lib.Dec.{ltb, lit≤}
use lib.IntN.{ℤ, pos, negsuc, neg_ℤ, nat_abs, ◌-ℤ◌, ◌*ℤ◌}
use Rattle.number.specs.Limits.{normal_limit, distance_limit}
use Rattle.whole.specs.Plane.{WholePlane}
use Rattle.whole.specs.SegmentCall.{number_at, plane_start, plane_at, plane_within}
use Rattle.whole.proofs.Integer.{abs_neg}
use Rattle.whole.proofs.Limits.{plane_sizes}
use Rattle.exact.specs.declared.plane.Plane.{Plane}
use Rattle.exact.specs.Steps.{Vec3i, vec, plane, axis_direction, faces, face_at, Constraints}
use Rattle.exact.proofs.Machine.{R, again, turned_is}
use Rattle.exact.proofs.Constraints.{face_there, plane_there}

-- ---- a face
module _ (box : List ℤ) (i : ℕ) where
  abbrev lower : WholePlane
  lower = record { normal = axis_direction i; distance = number_at box i }

  abbrev upper : WholePlane
  upper = record { normal = λ j. neg_ℤ (axis_direction (i - 3) j); distance = neg_ℤ (number_at box i) }

  is_lower : i < 3 → face_at box i ≡ lower
  is_lower l = ap (λ (b : Bool). cond b lower upper) (lt-ltb i 3 l)

  is_upper : 3 ≤ i → face_at box i ≡ upper
  is_upper l = ap (λ (b : Bool). cond b lower upper) (le-ltb i 3 l)

  -- a number of a face that is small is small
  pub face_number : plane_within (face_at box i) ≡ true → nat_abs (number_at box i) ≤ distance_limit
  face_number = go (ltb i 3)
    where
      go : (b : Bool) → plane_within (cond b lower upper) ≡ true → nat_abs (number_at box i) ≤ distance_limit
      go true e = (plane_sizes lower e).3
      go false e = subst (λ (n : ℕ). n ≤ distance_limit) (abs_neg (number_at box i)) (plane_sizes upper e).3

  module _ (s : plane_within (face_at box i) ≡ true) (n : Vec3i) (d : ℤ) (f : d ≡ number_at box i) where
    small : nat_abs d ≤ distance_limit
    small = subst (λ (z : ℤ). nat_abs z ≤ distance_limit) (sym f) (face_number s)

    pub lower_read : i < 3 → n ≡ vec (axis_direction i) → ◌≡◌ {A = Plane} (record { normal = n; distance = R d }) (plane (face_at box i))
    lower_read l e =
        (λ t. record { normal = e t; distance = (again (lit≤ tt) (record { is = f; size = face_number s })).is t })
        ∙ sym (ap plane (is_lower l))

    pub upper_read : 3 ≤ i → n ≡ vec (λ j. neg_ℤ (axis_direction (i - 3) j)) → ◌≡◌ {A = Plane} (record { normal = n; distance = R (pos 0 -ℤ R d) }) (plane (face_at box i))
    upper_read l e =
        (λ t. record { normal = e t; distance = (turned_is distance_limit (lit≤ tt) d small ∙ ap neg_ℤ f) t })
        ∙ sym (ap plane (is_upper l))

-- ---- a plane, read from the place where it begins
module _ (v : List ℤ) (i from : ℕ) (e : from ≡ plane_start i) (s : plane_within (plane_at v i) ≡ true) where
  at_begin : from ≡ plane_start i + 0
  at_begin = omega (arith, e)

  wide : {n : ℕ} → n ≤ normal_limit → n ≤ distance_limit
  wide h = le_trans h (lit≤ {m = normal_limit} {n = distance_limit} tt)

  pub entry_0 : nat_abs (number_at v from) ≤ distance_limit
  entry_0 = wide (subst (λ (k : ℕ). nat_abs (number_at v k) ≤ normal_limit) (sym at_begin) (plane_sizes (plane_at v i) s).0)

  pub entry_1 : nat_abs (number_at v (from + 1)) ≤ distance_limit
  entry_1 = wide (subst (λ (k : ℕ). nat_abs (number_at v (k + 1)) ≤ normal_limit) (sym e) (plane_sizes (plane_at v i) s).1)

  pub entry_2 : nat_abs (number_at v (from + 2)) ≤ distance_limit
  entry_2 = wide (subst (λ (k : ℕ). nat_abs (number_at v (k + 2)) ≤ normal_limit) (sym e) (plane_sizes (plane_at v i) s).2)

  pub entry_3 : nat_abs (number_at v (from + 3)) ≤ distance_limit
  entry_3 = subst (λ (k : ℕ). nat_abs (number_at v (k + 3)) ≤ distance_limit) (sym e) (plane_sizes (plane_at v i) s).3

  get : (w z : ℤ) → w ≡ z → nat_abs z ≤ distance_limit → R w ≡ z
  get w z f h = (again (lit≤ tt) (record { is = f; size = h })).is

  pub plane_read : (x y z d : ℤ) → x ≡ number_at v from → y ≡ number_at v (from + 1) → z ≡ number_at v (from + 2) → d ≡ number_at v (from + 3)
      → ◌≡◌ {A = Plane} (record { normal = record { x = R x; y = R y; z = R z }; distance = R d }) (plane (plane_at v i))
  plane_read x y z d p q r h =
      (λ t. record { normal = record { x = get x _ p entry_0 t; y = get y _ q entry_1 t; z = get z _ r entry_2 t }; distance = get d _ h entry_3 t })
      ∙ (λ t. record { normal = record { x = number_at v (at_begin t); y = number_at v (e t + 1); z = number_at v (e t + 2) }; distance = number_at v (e t + 3) })

-- ---- the constraints of a view of n planes
module _ (view box : List ℤ) (n : ℕ) (c : Constraints view box (faces + n)) where
  pub face_given : (i : ℕ) → i < faces → plane_within (face_at box i) ≡ true
  face_given i l = subst (λ (P : WholePlane). plane_within P ≡ true) (face_there view box i l) (c.within i (omega arith))

  pub plane_given : (i : ℕ) → i < n → plane_within (plane_at view i) ≡ true
  plane_given i l =
      let e : faces + i - faces ≡ i = omega arith in
      subst (λ (k : ℕ). plane_within (plane_at view k) ≡ true) e
      (subst (λ (P : WholePlane). plane_within P ≡ true) (plane_there view box (faces + i) (omega arith)) (c.within (faces + i) (omega arith)))

-- ---- along an axis
pub along_is : (i : ℕ) → i < 3 → vec (λ j. pos 1 *ℤ axis_direction i j) ≡ vec (axis_direction i)
along_is zero l = refl
along_is (suc zero) l = refl
along_is (suc (suc zero)) l = refl
along_is (suc (suc (suc i))) l = absurd (omega arith)

pub against_is : (i : ℕ) → i < 3 → vec (λ j. negsuc 0 *ℤ axis_direction i j) ≡ vec (λ j. neg_ℤ (axis_direction i j))
against_is zero l = refl
against_is (suc zero) l = refl
against_is (suc (suc zero)) l = refl
against_is (suc (suc (suc i))) l = absurd (omega arith)
