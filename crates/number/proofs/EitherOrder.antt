-- The smaller and the larger of two numbers are the same in either order, and of three in either grouping, signs included.
-- The idea: both choose by one strict order of the numbers, in which two that neither precede the other are the same. Assumes nothing.
use Rattle.std.proofs.Common.{◌≡◌, ℕ, Bool, true, false, cond, T, ltb, sym, refl, ap, ◌∙◌, subst, arith, ltb-false, ltb-true, le-ltb, lt-ltb}
use lib.Ieee.{Float, nan, inf, fin, binary64, lt, eq, is_nan}
use lib.Ieee.Fits.{cond-fits}
use Rattle.number.specs.Arithmetic.{precedes, min_of, max_of}
use Rattle.number.specs.Extremes.{Value, NanRule, OrderFree}
use Rattle.number.proofs.Nan.{nan_is}
use Rattle.number.proofs.Places.{at, place, precedes_is, place_unique, level_of, lt_is, place_level}

-- a value that is no NaN
pub record Number (x : Float) : Type 0 where
  pub value : Value x
  pub is : is_nan x ≡ false

-- a strict order of the numbers, in which a NaN has no place
record Strict (before : Float → Float → Bool) : Type 0 where
  none_before : (x : Float) → before x nan ≡ false
  none_after : (y : Float) → before nan y ≡ false
  one_way : {x y : Float} → Number x → Number y → before x y ≡ true → before y x ≡ false
  through : {x y z : Float} → Number x → Number y → Number z → before x y ≡ true → before y z ≡ true → before x z ≡ true
  not_through : {x y z : Float} → Number x → Number y → Number z → before x y ≡ false → before y z ≡ false → before x z ≡ false
  alike : {x y : Float} → Number x → Number y → before x y ≡ false → before y x ≡ false → x ≡ y

turned : {b : Float → Float → Bool} → Strict b → Strict (λ x y. b y x)
turned S = record {
  none_before = S.none_after;
  none_after = S.none_before;
  one_way = λ X Y p. S.one_way Y X p;
  through = λ X Y Z p q. S.through Z Y X q p;
  not_through = λ X Y Z p q. S.not_through Z Y X q p;
  alike = λ X Y p q. S.alike X Y q p;
}

-- ---- the order by places

-- the place of a number
abbrev spot : {x : Float} → Number x → ℕ
spot {x} X = at binary64 x (place binary64 x X.value X.is)

by_spot : {x y : Float} (X : Number x) (Y : Number y) (b : Bool) → precedes x y ≡ b → ltb (spot X) (spot Y) ≡ b
by_spot {x} {y} X Y b p = sym (precedes_is binary64 x y (place binary64 x X.value X.is) (place binary64 y Y.value Y.is)) ∙ p

to_spot : {x y : Float} (X : Number x) (Y : Number y) (b : Bool) → ltb (spot X) (spot Y) ≡ b → precedes x y ≡ b
to_spot {x} {y} X Y b p = precedes_is binary64 x y (place binary64 x X.value X.is) (place binary64 y Y.value Y.is) ∙ p

asym : (i j : ℕ) → ltb i j ≡ true → ltb j i ≡ false
asym i j p = let h = ltb-true i j p in le-ltb j i (omega arith)

trans : (i j k : ℕ) → ltb i j ≡ true → ltb j k ≡ true → ltb i k ≡ true
trans i j k p q = let h = ltb-true i j p in let g = ltb-true j k q in lt-ltb i k (omega arith)

not_trans : (i j k : ℕ) → ltb i j ≡ false → ltb j k ≡ false → ltb i k ≡ false
not_trans i j k p q = let h = ltb-false i j p in let g = ltb-false j k q in le-ltb i k (omega arith)

level : (i j : ℕ) → ltb i j ≡ false → ltb j i ≡ false → i ≡ j
level i j p q = let h = ltb-false i j p in let g = ltb-false j i q in omega arith

none_after_precedes : (y : Float) → precedes nan y ≡ false
unfolding precedes lt
none_after_precedes y = refl

none_before_precedes : (x : Float) → precedes x nan ≡ false
unfolding precedes lt eq
none_before_precedes nan = refl
none_before_precedes (inf true) = refl
none_before_precedes (inf false) = refl
none_before_precedes (fin true m e) = refl
none_before_precedes (fin false m e) = refl

ordered : Strict precedes
ordered = record {
  none_before = none_before_precedes;
  none_after = none_after_precedes;
  one_way = λ X Y p. to_spot Y X false (asym (spot X) (spot Y) (by_spot X Y true p));
  through = λ X Y Z p q. to_spot X Z true (trans (spot X) (spot Y) (spot Z) (by_spot X Y true p) (by_spot Y Z true q));
  not_through = λ X Y Z p q. to_spot X Z false (not_trans (spot X) (spot Y) (spot Z) (by_spot X Y false p) (by_spot Y Z false q));
  alike = λ {x} {y} X Y p q. place_unique binary64 x y (place binary64 x X.value X.is) (place binary64 y Y.value Y.is) X.value Y.value
      (level (spot X) (spot Y) (by_spot X Y false p) (by_spot Y X false q));
}

-- ---- what is chosen by an order

-- the one that comes first, of equals the first operand; a NaN is passed over
abbrev chosen : (Float → Float → Bool) → Float → Float → Float
chosen before x y = cond (is_nan x) y (cond (before y x) y x)

-- a value is a NaN or a number
by_nan : (P : Float → Type 0) (x : Float) → Value x → P nan → (Number x → P x) → P x
by_nan P x v p q = go (is_nan x) refl
  where
    go : (b : Bool) → is_nan x ≡ b → P x
    go true e = subst P (sym (nan_is x e)) p
    go false e = q (record { value = v; is = e })

by_test : (P : Bool → Type 0) (b : Bool) → (b ≡ true → P true) → (b ≡ false → P false) → P b
by_test P true p q = p refl
by_test P false p q = q refl

module _ {before : Float → Float → Bool} (S : Strict before) where
  second_nan : (x : Float) → chosen before x nan ≡ x
  second_nan x = rw (S.none_after x) (same (is_nan x) (nan_is x))
    where
      same : (b : Bool) → (b ≡ true → x ≡ nan) → cond b nan x ≡ x
      same true e = sym (e refl)
      same false e = refl

  of_number : (x y : Float) (b : Bool) → Number x → before y x ≡ b → chosen before x y ≡ cond b y x
  of_number x y b X e = rw (X.is, e)

  commutes : (x y : Float) → Value x → Value y → chosen before x y ≡ chosen before y x
  unfolding is_nan
  commutes x y v w =
      by_nan (λ x. chosen before x y ≡ chosen before y x) x v (sym (second_nan y)) (λ X.
      by_nan (λ y. chosen before x y ≡ chosen before y x) y w (second_nan x) (λ Y.
      go (before y x) (before x y) X Y refl refl))
    where
      go : (a b : Bool) → Number x → Number y → before y x ≡ a → before x y ≡ b → chosen before x y ≡ chosen before y x
      go true true X Y p q = absurd (subst T (sym q ∙ S.one_way Y X p) tt)
      go true false X Y p q = of_number x y true X p ∙ sym (of_number y x false Y q)
      go false true X Y p q = of_number x y false X p ∙ sym (of_number y x true Y q)
      go false false X Y p q = of_number x y false X p ∙ S.alike X Y q p ∙ sym (of_number y x false Y q)

  groups : (x y z : Float) → Value x → Value y → Value z → chosen before (chosen before x y) z ≡ chosen before x (chosen before y z)
  unfolding is_nan
  groups x y z u v w =
      by_nan (λ x. chosen before (chosen before x y) z ≡ chosen before x (chosen before y z)) x u refl (λ X.
      by_nan (λ y. chosen before (chosen before x y) z ≡ chosen before x (chosen before y z)) y v (ap (λ (r : Float). chosen before r z) (second_nan x)) (λ Y.
      by_nan (λ z. chosen before (chosen before x y) z ≡ chosen before x (chosen before y z)) z w (second_nan (chosen before x y) ∙ sym (ap (chosen before x) (second_nan y))) (λ Z.
      go (before y x) (before z y) X Y Z refl refl)))
    where
      left : {r : Float} → chosen before x y ≡ r → chosen before (chosen before x y) z ≡ chosen before r z
      left e = ap (λ (r : Float). chosen before r z) e

      right : {r : Float} → chosen before y z ≡ r → chosen before x r ≡ chosen before x (chosen before y z)
      right e = sym (ap (chosen before x) e)

      go : (a b : Bool) → Number x → Number y → Number z → before y x ≡ a → before z y ≡ b → chosen before (chosen before x y) z ≡ chosen before x (chosen before y z)
      go true true X Y Z p q =
          left (of_number x y true X p) ∙ of_number y z true Y q ∙ sym (of_number x z true X (S.through Z Y X q p)) ∙ right (of_number y z true Y q)
      go true false X Y Z p q = left (of_number x y true X p) ∙ of_number y z false Y q ∙ sym (of_number x y true X p) ∙ right (of_number y z false Y q)
      go false true X Y Z p q = left (of_number x y false X p) ∙ right (of_number y z true Y q)
      go false false X Y Z p q =
          left (of_number x y false X p) ∙ of_number x z false X (S.not_through Z Y X q p) ∙ sym (of_number x y false X p) ∙ right (of_number y z false Y q)

-- ---- the smaller and the larger

pub min_order_free : OrderFree min_of
unfolding min_of
min_order_free = record { commutative = commutes ordered; associative = groups ordered }

pub max_order_free : OrderFree max_of
unfolding max_of
max_order_free = record { commutative = commutes (turned ordered); associative = groups (turned ordered) }

pub min_nan : NanRule min_of
unfolding min_of is_nan
min_nan = record { first = λ y. refl; second = second_nan ordered }

pub max_nan : NanRule max_of
unfolding max_of is_nan
max_nan = record { first = λ y. refl; second = second_nan (turned ordered) }

pub min_value : (x y : Float) → Value x → Value y → Value (min_of x y)
unfolding min_of
min_value x y v w = cond-fits binary64 (is_nan x) y (cond (precedes y x) y x) w (cond-fits binary64 (precedes y x) y x w v)

pub max_value : (x y : Float) → Value x → Value y → Value (max_of x y)
unfolding max_of
max_value x y v w = cond-fits binary64 (is_nan x) y (cond (precedes x y) y x) w (cond-fits binary64 (precedes x y) y x w v)

-- ---- neither passes the numbers that it is chosen of

abbrev height : {x : Float} → Number x → ℕ
height {x} X = level_of binary64 x (place binary64 x X.value X.is)

by_height : {x y : Float} (X : Number x) (Y : Number y) (b : Bool) → lt x y ≡ b → ltb (height X) (height Y) ≡ b
by_height {x} {y} X Y b p = sym (lt_is binary64 x y (place binary64 x X.value X.is) (place binary64 y Y.value Y.is)) ∙ p

to_height : {x y : Float} (X : Number x) (Y : Number y) (b : Bool) → ltb (height X) (height Y) ≡ b → lt x y ≡ b
to_height {x} {y} X Y b p = lt_is binary64 x y (place binary64 x X.value X.is) (place binary64 y Y.value Y.is) ∙ p

pub not_below : {x y z : Float} → Number x → Number y → Number z → lt x y ≡ false → lt y z ≡ false → lt x z ≡ false
not_below X Y Z p q = to_height X Z false (not_trans (height X) (height Y) (height Z) (by_height X Y false p) (by_height Y Z false q))

-- what does not come before another is not less than it
not_less : {x y : Float} → Number x → Number y → precedes x y ≡ false → lt x y ≡ false
not_less {x} {y} X Y p =
    to_height X Y false (le-ltb (height X) (height Y) (place_level binary64 y x (place binary64 y Y.value Y.is) (place binary64 x X.value X.is)
    (ltb-false (spot X) (spot Y) (by_spot X Y false p))))

irreflexive : {x : Float} → Number x → precedes x x ≡ false
irreflexive {x} X = go (precedes x x) refl
  where
    go : (b : Bool) → precedes x x ≡ b → b ≡ false
    go true p = absurd (subst T (sym p ∙ ordered.one_way X X p) tt)
    go false p = refl

module _ {x y : Float} (X : Number x) (Y : Number y) where
  pub min_below : lt x (min_of x y) ≡ false
  unfolding min_of
  min_below = rw X.is (by_test (λ b. lt x (cond b y x) ≡ false) (precedes y x)
      (λ p. not_less X Y (ordered.one_way Y X p)) (λ p. not_less X X (irreflexive X)))

  pub max_above : lt (max_of x y) x ≡ false
  unfolding max_of
  max_above = rw X.is (by_test (λ b. lt (cond b y x) x ≡ false) (precedes x y)
      (λ p. not_less Y X (ordered.one_way X Y p)) (λ p. not_less X X (irreflexive X)))
