-- Unions and intersections of ranges are the same in every order, signs included. The idea: along each axis they choose the smaller and the larger, which are
-- commutative and associative; a range of NaNs, which these pass over, is the union of none. Ranges that are not empty and hold no NaN have such a union, so that
-- no grouping comes upon an empty one. Assumes nothing.
use mathlib.Core.Path.{◌≡◌, refl, sym, ap, ap₂, ◌∙◌, subst}
use mathlib.Core.Bool.{Bool, true, false, ◌||◌}
use mathlib.Core.List.{List, [], ◌∷◌, ◌++◌, Permᴰ}
use Prim.Native.Nat.{ℕ, zero, suc, ◌<◌}
use lib.Dec.{T, lit<}
use lib.Ieee.{Float, nan, binary64, lt, is_nan}
use lib.Ieee.Fits.{nan-fits}
use Rattle.number.specs.Arithmetic.{min_of, max_of}
use Rattle.number.specs.Extremes.{Value, OrderFree}
use Rattle.number.proofs.EitherOrder.{Number, min_order_free, max_order_free, min_nan, max_nan, min_value, max_value, not_below, min_below, max_above}
use Rattle.number.proofs.Extremes.{min_number, max_number}
use Rattle.matrix.specs.declared.vec.Vec3d.{Vec3d}
use Rattle.matrix.specs.declared.range.Range3d.{Range3d}
use Rattle.matrix.specs.Vec.{axis, vec3, each_axis}
use Rattle.matrix.specs.Range.{range, empty_along, is_empty, joined, union}
use Rattle.matrix.specs.Signs.{Values, Filled, AllFilled, none, more, Grouping, one, both, united, united_ranges}
use Rattle.matrix.specs.Signs.{IntersectionEitherOrder, UnionEitherOrder, UnionEveryOrder}
use Rattle.matrix.proofs.Same.{same_vec3, same_range}
use Rattle.matrix.proofs.Axes.{along}

-- ---- along each axis

module _ {f : Float → Float → Float} (F : OrderFree f) where
  each_commutes : (u v : Vec3d) → ((i : ℕ) → Value (axis u i)) → ((i : ℕ) → Value (axis v i)) → each_axis f u v ≡ each_axis f v u
  each_commutes u v U W =
      same_vec3 (F.commutative u.x v.x (U 0) (W 0)) (F.commutative u.y v.y (U 1) (W 1)) (F.commutative u.z v.z (U 2) (W 2))

  each_groups : (u v w : Vec3d) → ((i : ℕ) → Value (axis u i)) → ((i : ℕ) → Value (axis v i)) → ((i : ℕ) → Value (axis w i))
      → each_axis f (each_axis f u v) w ≡ each_axis f u (each_axis f v w)
  each_groups u v w U A B =
      same_vec3 (F.associative u.x v.x w.x (U 0) (A 0) (B 0)) (F.associative u.y v.y w.y (U 1) (A 1) (B 1))
      (F.associative u.z v.z w.z (U 2) (A 2) (B 2))

-- ---- either order

pub intersection_either_order : IntersectionEitherOrder
intersection_either_order a b A B =
    same_range (each_commutes max_order_free a.min b.min A.least B.least) (each_commutes min_order_free a.max b.max A.greatest B.greatest)

joined_commutes : (a b : Range3d) → Values a → Values b → joined a b ≡ joined b a
joined_commutes a b A B =
    same_range (each_commutes min_order_free a.min b.min A.least B.least) (each_commutes max_order_free a.max b.max A.greatest B.greatest)

pub union_joins : (a b : Range3d) → is_empty a ≡ false → is_empty b ≡ false → union a b ≡ joined a b
unfolding union
union_joins a b p q = rw (p, q)

pub union_either_order : UnionEitherOrder
union_either_order a b A B p q = union_joins a b p q ∙ joined_commutes a b A B ∙ sym (union_joins b a q p)

-- ---- every order

joined_groups : (a b c : Range3d) → Values a → Values b → Values c → joined (joined a b) c ≡ joined a (joined b c)
joined_groups a b c A B C =
    same_range (each_groups min_order_free a.min b.min c.min A.least B.least C.least)
    (each_groups max_order_free a.max b.max c.max A.greatest B.greatest C.greatest)

-- the union of none
abbrev nowhere : Range3d
nowhere = range (vec3 (λ i. nan)) (vec3 (λ i. nan))

with_none : (r : Range3d) → joined r nowhere ≡ r
with_none r =
    same_range (same_vec3 (min_nan.second r.min.x) (min_nan.second r.min.y) (min_nan.second r.min.z))
    (same_vec3 (max_nan.second r.max.x) (max_nan.second r.max.y) (max_nan.second r.max.z))

none_with : (r : Range3d) → joined nowhere r ≡ r
none_with r =
    same_range (same_vec3 (min_nan.first r.min.x) (min_nan.first r.min.y) (min_nan.first r.min.z))
    (same_vec3 (max_nan.first r.max.x) (max_nan.first r.max.y) (max_nan.first r.max.z))

values : (f : ℕ → Float) → ((i : ℕ) → Value (f i)) → (i : ℕ) → Value (axis (vec3 f) i)
values f h zero = h 0
values f h (suc zero) = h 1
values f h (suc (suc zero)) = h 2
values f h (suc (suc (suc i))) = nan-fits binary64

none_values : Values nowhere
none_values = record { least = values (λ i. nan) (λ i. nan-fits binary64); greatest = values (λ i. nan) (λ i. nan-fits binary64) }

joined_values : (a b : Range3d) → Values a → Values b → Values (joined a b)
joined_values a b A B = record {
  least = values (λ i. min_of (axis a.min i) (axis b.min i)) (λ i. min_value (axis a.min i) (axis b.min i) (A.least i) (B.least i));
  greatest = values (λ i. max_of (axis a.max i) (axis b.max i)) (λ i. max_value (axis a.max i) (axis b.max i) (A.greatest i) (B.greatest i));
}

-- ---- what is joined of filled ranges is one

or_none : (a b c : Bool) → (a || b || c) ≡ false → (a ≡ false) × (b ≡ false) × (c ≡ false)
or_none false false false h = (refl, refl, refl)
or_none true b c h = absurd (subst T h tt)
or_none false true c h = absurd (subst T h tt)
or_none false false true h = absurd (subst T h tt)

none_along : (r : Range3d) → is_empty r ≡ false → (i : ℕ) → i < 3 → empty_along r i ≡ false
unfolding is_empty
none_along r h = let e = or_none (empty_along r 0) (empty_along r 1) (empty_along r 2) h in along (λ i. empty_along r i ≡ false) e.0 e.1 e.2

filled_along : (r : Range3d) → ((i : ℕ) → i < 3 → empty_along r i ≡ false) → is_empty r ≡ false
unfolding is_empty
filled_along r h = rw (h 0 (lit< tt), h 1 (lit< tt), h 2 (lit< tt))

module _ (a b : Range3d) (A : Filled a) (B : Filled b) where
  low : (r : Range3d) → Filled r → (i : ℕ) → i < 3 → Number (axis r.min i)
  low r R i h = record { value = R.values.least i; is = R.least i h }

  high : (r : Range3d) → Filled r → (i : ℕ) → i < 3 → Number (axis r.max i)
  high r R i h = record { value = R.values.greatest i; is = R.greatest i h }

  low_joined : (i : ℕ) → i < 3 → Number (min_of (axis a.min i) (axis b.min i))
  low_joined i h = record {
    value = min_value (axis a.min i) (axis b.min i) (A.values.least i) (B.values.least i);
    is = min_number (axis a.min i) (axis b.min i) (A.least i h) (B.least i h);
  }

  high_joined : (i : ℕ) → i < 3 → Number (max_of (axis a.max i) (axis b.max i))
  high_joined i h = record {
    value = max_value (axis a.max i) (axis b.max i) (A.values.greatest i) (B.values.greatest i);
    is = max_number (axis a.max i) (axis b.max i) (A.greatest i h) (B.greatest i h);
  }

  some_joined : (i : ℕ) → i < 3 → lt (max_of (axis a.max i) (axis b.max i)) (min_of (axis a.min i) (axis b.min i)) ≡ false
  some_joined i h =
      not_below (high_joined i h) (high a A i h) (low_joined i h) (max_above (high a A i h) (high b B i h))
      (not_below (high a A i h) (low a A i h) (low_joined i h) (none_along a A.some i h) (min_below (low a A i h) (low b B i h)))

  each : (P : ℕ → Type 0) → ((i : ℕ) → i < 3 → P i) → (P 0) × (P 1) × (P 2)
  each P h = (h 0 (lit< tt), h 1 (lit< tt), h 2 (lit< tt))

  filled_joined : Filled (joined a b)
  filled_joined =
      let l = each (λ i. is_nan (min_of (axis a.min i) (axis b.min i)) ≡ false) (λ i h. (low_joined i h).is) in
      let g = each (λ i. is_nan (max_of (axis a.max i) (axis b.max i)) ≡ false) (λ i h. (high_joined i h).is) in
      let e = each (λ i. lt (max_of (axis a.max i) (axis b.max i)) (min_of (axis a.min i) (axis b.min i)) ≡ false) some_joined in
      record {
        values = joined_values a b A.values B.values;
        least = along (λ i. is_nan (axis (joined a b).min i) ≡ false) l.0 l.1 l.2;
        greatest = along (λ i. is_nan (axis (joined a b).max i) ≡ false) g.0 g.1 g.2;
        some = filled_along (joined a b) (along (λ i. empty_along (joined a b) i ≡ false) e.0 e.1 e.2);
      }

-- ---- lists

total : List Range3d → Range3d
total [] = nowhere
total (r ∷ l) = joined r (total l)

total_values : {l : List Range3d} → AllFilled l → Values (total l)
unfolding total
total_values none = none_values
total_values (more {r = r} {l = l} f h) = joined_values r (total l) f.values (total_values h)

first_filled : (l m : List Range3d) → AllFilled (l ++ m) → AllFilled l
first_filled [] m h = none
first_filled (r ∷ l) m (more f h) = more f (first_filled l m h)

second_filled : (l m : List Range3d) → AllFilled (l ++ m) → AllFilled m
second_filled [] m h = h
second_filled (r ∷ l) m (more f h) = second_filled l m h

total_append : (l m : List Range3d) → AllFilled l → AllFilled m → total (l ++ m) ≡ joined (total l) (total m)
unfolding total
total_append [] m h g = sym (none_with (total m))
total_append (r ∷ l) m (more f h) g =
    ap (joined r) (total_append l m h g) ∙ sym (joined_groups r (total l) (total m) f.values (total_values h) (total_values g))

moved_filled : {l m : List Range3d} → Permᴰ l m → AllFilled l → AllFilled m
moved_filled Permᴰ.nil h = h
moved_filled (Permᴰ.cons e d) (more f h) = more (subst Filled e f) (moved_filled d h)
moved_filled (Permᴰ.swap p q) (more f (more g h)) = more (subst Filled q g) (more (subst Filled p f) h)
moved_filled (Permᴰ.trans d c) h = moved_filled c (moved_filled d h)

swapped : (a b t : Range3d) → Values a → Values b → Values t → joined a (joined b t) ≡ joined b (joined a t)
swapped a b t A B C =
    sym (joined_groups a b t A B C) ∙ ap (λ (r : Range3d). joined r t) (joined_commutes a b A B) ∙ joined_groups b a t B A C

total_moved : {l m : List Range3d} → Permᴰ l m → AllFilled l → total l ≡ total m
unfolding total
total_moved Permᴰ.nil h = refl
total_moved (Permᴰ.cons e d) (more f h) = ap₂ joined e (total_moved d h)
total_moved (Permᴰ.swap {a = a} {b = b} {l = l} p q) (more f (more g h)) =
    swapped a b (total l) f.values g.values (total_values h) ∙ ap₂ joined q (ap (λ (r : Range3d). joined r (total l)) p)
total_moved (Permᴰ.trans d c) h = total_moved d h ∙ total_moved c (moved_filled d h)

united_filled : (p : Grouping) → AllFilled (united_ranges p) → (united p ≡ total (united_ranges p)) × Filled (united p)
unfolding united united_ranges total
united_filled (one r) (more f none) = (sym (with_none r), f)
united_filled (both p q) h =
    let a = first_filled (united_ranges p) (united_ranges q) h in
    let b = second_filled (united_ranges p) (united_ranges q) h in
    let (e, E) = united_filled p a in
    let (g, G) = united_filled q b in
    let j = union_joins (united p) (united q) E.some G.some in
    (j ∙ ap₂ joined e g ∙ sym (total_append (united_ranges p) (united_ranges q) a b), subst Filled (sym j) (filled_joined (united p) (united q) E G))

pub union_every_order : UnionEveryOrder
union_every_order p q d h = (united_filled p h).0 ∙ total_moved d h ∙ sym (united_filled q (moved_filled d h)).0
