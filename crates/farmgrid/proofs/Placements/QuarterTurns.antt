-- Quarter turns in whole numbers. The idea: each row and column is a 1 or a -1 at one place, so that a placement takes each axis from one axis and keeps
-- sizes but for its translation, and products of placements are placements. Assumes nothing.
use mathlib.Core.Path.{◌≡◌, sym, ap, ◌∙◌}
use Prim.Native.Nat.{ℕ, ◌+◌, ◌≤◌, ◌<◌}
use native.Mathlib.Omega.{arith}
use mathlib.Core.Bool.{Bool, true, false}
use lib.Dec.{lit<}
use lib.IntN.{ℤ, pos, nat_abs, ◌+ℤ◌, ◌-ℤ◌, ◌*ℤ◌}
use Rattle.whole.proofs.Integer.{of_self as self, of_pos, of_neg, of_eq, abs_sum, ◌⊞◌, ◌⊠◌}
use Rattle.placed.specs.Placement.{sizes, columnℤ, turnedℤ, movedℤ}
use Rattle.farmgrid.specs.Placement.{Within, QuarterTurn, PlacementWithin}
use Rattle.farmgrid.specs.Placement.{productℤ}
use Rattle.farmgrid.proofs.Numbers.WholeSigns.{flip, abs_flip, dot_flip, plus_zero, plus_one}
use Rattle.farmgrid.proofs.Placements.Singles.{three, four, Single, single, same_dot, dot_single, single_dot}

-- ---- exact operations that the laws alone speak of

abbrev pub transposeℤ : (ℕ → ℕ → ℤ) → ℕ → ℕ → ℤ
transposeℤ f i j = f j i

-- the rule of Sarrus, for the upper three by three
abbrev pub determinantℤ : (ℕ → ℕ → ℤ) → ℤ
determinantℤ f =
    f 0 0 *ℤ f 1 1 *ℤ f 2 2 +ℤ f 0 1 *ℤ f 1 2 *ℤ f 2 0 +ℤ f 0 2 *ℤ f 1 0 *ℤ f 2 1
    -ℤ f 0 0 *ℤ f 1 2 *ℤ f 2 1 -ℤ f 0 1 *ℤ f 1 0 *ℤ f 2 2 -ℤ f 0 2 *ℤ f 1 1 *ℤ f 2 0

-- ---- a quarter turn takes each axis from one axis, and to one axis

pub source : {f : ℕ → ℕ → ℤ} → QuarterTurn f → (j : ℕ) → j < 3 → Single (columnℤ f j)
source F j h = single (F.columns j h)

pub target : {f : ℕ → ℕ → ℤ} → QuarterTurn f → (i : ℕ) → i < 3 → Single (f i)
target F i h = single (F.rows i h)

-- its numbers are of size at most 1
pub turn_size : {f : ℕ → ℕ → ℤ} → QuarterTurn f → (i j : ℕ) → i < 3 → j < 3 → nat_abs (f i j) ≤ 1
turn_size {f} F i j h = let r = F.rows i h in three (λ j. nat_abs (f i j) ≤ 1) (omega arith) (omega arith) (omega arith) j

pub upper_size : {b : ℕ} {f : ℕ → ℕ → ℤ} → PlacementWithin b f → (i j : ℕ) → i < 3 → j < 4 → nat_abs (f i j) ≤ 1
upper_size {f = f} F i j h = four (λ j. nat_abs (f i j) ≤ 1) (λ j k. turn_size F.turn i j h k) (omega (arith, ap nat_abs (F.zeros i h))) j

-- a turned coordinate is the coordinate of its source, or that negated, and a moved one has the translation added
pub turned_is : {f : ℕ → ℕ → ℤ} (F : QuarterTurn f) (p : ℕ → ℤ) (j : ℕ) (h : j < 3)
    → turnedℤ f p j ≡ flip (source F j h).sign (p (source F j h).from)
turned_is F p j h = dot_single (source F j h) p

pub moved_is : {b : ℕ} {f : ℕ → ℕ → ℤ} (F : PlacementWithin b f) (p : ℕ → ℤ) (j : ℕ) (h : j < 3)
    → movedℤ f p j ≡ flip (source F.turn j h).sign (p (source F.turn j h).from) +ℤ f 3 j
moved_is {f = f} F p j h = ap (λ (z : ℤ). z +ℤ f 3 j) (turned_is F.turn p j h)

-- a turn keeps a bound of sizes, and a placement adds that of its translation
pub turned_within : {b : ℕ} {f : ℕ → ℕ → ℤ} {p : ℕ → ℤ} → QuarterTurn f → Within b p → Within b (turnedℤ f p)
turned_within {p = p} F P = record {
  size = λ j h.
      let s = source F j h in
      let l = P.size s.from s.below in
      omega (arith, ap nat_abs (turned_is F p j h), abs_flip s.sign (p s.from));
}

pub moved_within : {a b : ℕ} {f : ℕ → ℕ → ℤ} {p : ℕ → ℤ} → PlacementWithin a f → Within b p → Within (b + a) (movedℤ f p)
moved_within {f = f} {p = p} F P = record {
  size = λ j h.
      let l = (turned_within F.turn P).size j h in
      let l' = F.translation.size j h in
      omega (arith, abs_sum (turnedℤ f p j) (f 3 j));
}

-- a bound may be widened
pub widen : {a b : ℕ} {p : ℕ → ℤ} → a ≤ b → Within a p → Within b p
widen l P = record { size = λ i h. let s = P.size i h in omega arith }

pub widen_placement : {a b : ℕ} {f : ℕ → ℕ → ℤ} → a ≤ b → PlacementWithin a f → PlacementWithin b f
widen_placement l F = record { turn = F.turn; translation = widen l F.translation; zeros = F.zeros; last = F.last }

-- the last number of a turned direction is 0, and that of a moved point 1, by the last column alone
pub last_turned : (f : ℕ → ℕ → ℤ) → ((i : ℕ) → i < 3 → f i 3 ≡ pos 0) → (p : ℕ → ℤ) → turnedℤ f p 3 ≡ pos 0
last_turned f zeros p = same_dot p {q = columnℤ f 3} {q' = λ i. pos 0} zeros
    ∙ of_eq (self (p 0) ⊠ of_pos 0 ⊞ self (p 1) ⊠ of_pos 0 ⊞ self (p 2) ⊠ of_pos 0) (of_pos 0) (omega arith)

pub last_moved : (f : ℕ → ℕ → ℤ) → ((i : ℕ) → i < 3 → f i 3 ≡ pos 0) → f 3 3 ≡ pos 1 → (p : ℕ → ℤ) → movedℤ f p 3 ≡ pos 1
last_moved f zeros last p = rw (last_turned f zeros p, last)

-- ---- products

-- the rows of a product are the rows of its first factor turned, and the last one moved, by the second, by the last column of the first alone
module _ (f g : ℕ → ℕ → ℤ) where
  pub affine_turned : ((i : ℕ) → i < 3 → f i 3 ≡ pos 0) → (i j : ℕ) → i < 3 → productℤ f g i j ≡ turnedℤ g (f i) j
  affine_turned zeros i j h = ap (λ (z : ℤ). turnedℤ g (f i) j +ℤ z *ℤ g 3 j) (zeros i h) ∙ plus_zero (turnedℤ g (f i) j) (g 3 j)

  pub affine_moved : f 3 3 ≡ pos 1 → (j : ℕ) → productℤ f g 3 j ≡ movedℤ g (f 3) j
  affine_moved last j = ap (λ (z : ℤ). turnedℤ g (f 3) j +ℤ z *ℤ g 3 j) last ∙ plus_one (turnedℤ g (f 3) j) (g 3 j)

module _ {b : ℕ} {f : ℕ → ℕ → ℤ} (F : PlacementWithin b f) (g : ℕ → ℕ → ℤ) where
  pub product_turned : (i j : ℕ) → i < 3 → productℤ f g i j ≡ turnedℤ g (f i) j
  product_turned = affine_turned f g F.zeros

  pub product_moved : (j : ℕ) → productℤ f g 3 j ≡ movedℤ g (f 3) j
  product_moved = affine_moved f g F.last

pub same_sizes : (p q : ℕ → ℤ) → ((i : ℕ) → i < 3 → nat_abs (p i) ≡ nat_abs (q i)) → sizes p ≡ sizes q
same_sizes p q e t = e 0 (lit< tt) t + e 1 (lit< tt) t + e 2 (lit< tt) t

module _ {a b : ℕ} {f g : ℕ → ℕ → ℤ} (F : PlacementWithin a f) (G : PlacementWithin b g) where
  -- the product of two placements is a placement
  pub product_placement : PlacementWithin (a + b) (productℤ f g)
  product_placement = record {
    turn = record { rows = across; columns = down };
    translation = record { size = λ j h. let l = (moved_within G F.translation).size j h in omega (arith, ap nat_abs (product_moved F g j)) };
    zeros = λ i h. product_turned F g i 3 h ∙ last_turned g G.zeros (f i);
    last = product_moved F g 3 ∙ last_moved g G.zeros G.last (f 3);
  }
    where
      across : (i : ℕ) → i < 3 → sizes (productℤ f g i) ≡ 1
      across i h =
          let s = target F.turn i h in
          let e : (j : ℕ) → productℤ f g i j ≡ flip s.sign (g s.from j) = λ j. product_turned F g i j h ∙ single_dot s (columnℤ g j) in
          same_sizes (productℤ f g i) (g s.from) (λ j l. ap nat_abs (e j) ∙ abs_flip s.sign (g s.from j))
          ∙ G.turn.rows s.from s.below

      down : (j : ℕ) → j < 3 → sizes (columnℤ (productℤ f g) j) ≡ 1
      down j h =
          let s = source G.turn j h in
          let e : (i : ℕ) → i < 3 → productℤ f g i j ≡ flip s.sign (f i s.from) = λ i l. product_turned F g i j l ∙ dot_single s (f i) in
          same_sizes (columnℤ (productℤ f g) j) (columnℤ f s.from) (λ i l. ap nat_abs (e i l) ∙ abs_flip s.sign (f i s.from))
          ∙ F.turn.columns s.from s.below

  -- the product moves a point by the first placement, and then by the second
  pub product_moves : (p : ℕ → ℤ) (j : ℕ) → j < 3 → movedℤ (productℤ f g) p j ≡ movedℤ g (movedℤ f p) j
  product_moves p j h =
      let s = source G.turn j h in
      let e : (i : ℕ) → i < 3 → productℤ f g i j ≡ flip s.sign (f i s.from) = λ i l. product_turned F g i j l ∙ dot_single s (f i) in
      let l : productℤ f g 3 j ≡ flip s.sign (f 3 s.from) +ℤ g 3 j = product_moved F g j ∙ moved_is G (f 3) j h in
      (λ t. same_dot p {q = columnℤ (productℤ f g) j} {q' = λ i. flip s.sign (f i s.from)} e t +ℤ l t)
      ∙ ap (λ (z : ℤ). z +ℤ (flip s.sign (f 3 s.from) +ℤ g 3 j)) (dot_flip s.sign p (columnℤ f s.from))
      ∙ regroup s.sign (turnedℤ f p s.from) (f 3 s.from) (g 3 j)
      ∙ sym (moved_is G (movedℤ f p) j h)
    where
      regroup : (s : Bool) (a b c : ℤ) → flip s a +ℤ (flip s b +ℤ c) ≡ flip s (a +ℤ b) +ℤ c
      regroup false a b c = of_eq (self a ⊞ (self b ⊞ self c)) (self a ⊞ self b ⊞ self c) (omega arith)
      regroup true a b c = of_eq (of_neg (self a) ⊞ (of_neg (self b) ⊞ self c)) (of_neg (self a ⊞ self b) ⊞ self c) (omega arith)
