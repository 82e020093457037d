-- The determinant of a quarter turn is 1 or -1, and each cofactor of its three by three is the number at its place, times the determinant.
-- The idea: there are 48 quarter turns; one closed test over all rows with a 1 or a -1 is computed. Assumes nothing.
use mathlib.Core.Path.{◌≡◌, sym, ap, subst}
use Prim.Native.Nat.{ℕ, ◌+◌, ◌*◌, ◌%◌, ◌<◌}
use mathlib.Core.Bool.{Bool, true, false, not, ◌&&◌, ◌||◌, cond}
use mathlib.Core.List.{[], ◌∷◌}
use lib.ListN.{get_or}
use lib.Dec.{T, eqb, eqb→eq, lit<}
use lib.IntN.{ℤ, pos, negsuc, ◌+ℤ◌, ◌-ℤ◌, ◌*ℤ◌}
use lib.Signed.{non_neg}
use lib.Ieee.Fits.{and_l, and_r, and_i, eq→eqb}
use Rattle.number.specs.Grid.{signed}
use Rattle.matrix.specs.Inverse.{skipping}
use Rattle.whole.specs.Plane.{dotℤ}
use Rattle.placed.specs.Placement.{sizes, columnℤ}
use Rattle.farmgrid.specs.Placement.{QuarterTurn}
use Rattle.farmgrid.proofs.Numbers.WholeSigns.{flip}
use Rattle.farmgrid.proofs.Placements.Singles.{three, unit, Single}
use Rattle.farmgrid.proofs.Placements.QuarterTurns.{determinantℤ, target}

-- ---- determinants in whole numbers, as `Inverse` has them in floats

abbrev pub plusℤ : Bool → ℤ → ℤ → ℤ
plusℤ false x y = x +ℤ y
plusℤ true x y = x -ℤ y

abbrev pub expandedℤ : Bool → (ℕ → ℕ → ℤ) → ℤ
expandedℤ s e =
    let t1 = flip s (e 0 0) *ℤ e 1 1 *ℤ e 2 2 in
    let t2 = plusℤ (not s) t1 (e 0 0 *ℤ e 1 2 *ℤ e 2 1) in
    let t3 = plusℤ (not s) t2 (e 1 0 *ℤ e 0 1 *ℤ e 2 2) in
    let t4 = plusℤ s t3 (e 1 0 *ℤ e 0 2 *ℤ e 2 1) in
    let t5 = plusℤ s t4 (e 2 0 *ℤ e 0 1 *ℤ e 1 2) in
    plusℤ (not s) t5 (e 2 0 *ℤ e 0 2 *ℤ e 1 1)

abbrev pub odd : ℕ → Bool
odd n = eqb (n % 2) 1

abbrev pub cofactorℤ : (ℕ → ℕ → ℤ) → ℕ → ℕ → ℤ
cofactorℤ f i j = expandedℤ (odd (i + j)) (λ r c. f (skipping i r) (skipping j c))

-- two by two: of the first two rows, without column k
abbrev pub minor : (ℕ → ℕ → ℤ) → ℕ → ℤ
minor e k = e 0 (skipping k 0) *ℤ e 1 (skipping k 1) -ℤ e 1 (skipping k 0) *ℤ e 0 (skipping k 1)

-- the cofactors of the upper three by three
abbrev pub cofactor3 : (ℕ → ℕ → ℤ) → ℕ → ℕ → ℤ
cofactor3 f i k = flip (odd (i + k)) (minor (λ r. f (skipping i r)) k)

-- ---- tests over all signs, over all axes, and of an implication

abbrev eq_z : ℤ → ℤ → Bool
eq_z (pos a) (pos b) = eqb a b
eq_z (pos a) (negsuc b) = false
eq_z (negsuc a) (pos b) = false
eq_z (negsuc a) (negsuc b) = eqb a b

eq_z_is_lem : (a b : ℤ) → T (eq_z a b) → a ≡ b
eq_z_is_lem (pos a) (pos b) t = ap pos (eqb→eq a b t)
eq_z_is_lem (pos a) (negsuc b) t = absurd t
eq_z_is_lem (negsuc a) (pos b) t = absurd t
eq_z_is_lem (negsuc a) (negsuc b) t = ap negsuc (eqb→eq a b t)

abbrev both : (Bool → Bool) → Bool
both p = p true && p false

both_at : (p : Bool → Bool) → T (both p) → (s : Bool) → T (p s)
both_at p t true = and_l (p true) (p false) t
both_at p t false = and_r (p true) (p false) t

abbrev each : (ℕ → Bool) → Bool
each p = p 0 && p 1 && p 2

each_at : (p : ℕ → Bool) → T (each p) → (k : ℕ) → k < 3 → T (p k)
each_at p t =
    let l = and_l (p 0 && p 1) (p 2) t in three (λ k. T (p k)) (and_l (p 0) (p 1) l) (and_r (p 0) (p 1) l) (and_r (p 0 && p 1) (p 2) t)

each_all : (p : ℕ → Bool) → ((k : ℕ) → k < 3 → T (p k)) → T (each p)
each_all p h = and_i (p 0 && p 1) (p 2) (and_i (p 0) (p 1) (h 0 (lit< tt)) (h 1 (lit< tt))) (h 2 (lit< tt))

if_then : (u w : Bool) → T (not u || w) → T u → T w
if_then true w t r = t
if_then false w t r = absurd r

-- ---- all quarter turns

-- the determinant is negative: "mirrors count"
abbrev pub mirrored : (ℕ → ℕ → ℤ) → Bool
mirrored f = not (non_neg (determinantℤ f))

-- three ways to the determinant: by the rule of Sarrus, expanded as `Inverse` does it, and the first row times its cofactors
abbrev pub determinants : (ℕ → ℕ → ℤ) → ℕ → ℤ
determinants f n = get_or (determinantℤ f ∷ expandedℤ false f ∷ dotℤ (f 0) (cofactor3 f 0) ∷ []) n (pos 0)

-- each is 1, or -1 where f is mirrored
abbrev is_unit : (ℕ → ℕ → ℤ) → ℕ → Bool
is_unit f n = eq_z (determinants f n) (signed (mirrored f) 1)

-- a cofactor is the number at its place, times the determinant
abbrev is_plain : (ℕ → ℕ → ℤ) → ℕ → ℕ → Bool
is_plain f i k = eq_z (cofactor3 f i k) (flip (mirrored f) (f i k))

abbrev claims : (ℕ → ℕ → ℤ) → Bool
claims f = each (is_unit f) && each (λ i. each (is_plain f i))

-- one 1 or -1 in each column
abbrev upright : (ℕ → ℕ → ℤ) → Bool
upright f = each (λ j. eqb (sizes (columnℤ f j)) 1)

abbrev test : (ℕ → ℕ → ℤ) → Bool
test f = not (upright f) || claims f

-- three rows with a 1 or a -1 each, of which the first, the first two, and all are given
abbrev rows : Bool → ℕ → Bool → ℕ → Bool → ℕ → ℕ → ℕ → ℤ
rows s k s' k' s'' k'' i = cond (eqb i 0) (unit s k) (cond (eqb i 1) (unit s' k') (unit s'' k''))

abbrev third : Bool → ℕ → Bool → ℕ → Bool → Bool
third s k s' k' s'' = each (λ k''. test (rows s k s' k' s'' k''))

abbrev second : Bool → ℕ → Bool → Bool
second s k s' = each (λ k'. both (third s k s' k'))

abbrev first : Bool → Bool
first s = each (λ k. both (second s k))

all_rows : T (both first)
all_rows = tt

-- the nine numbers that the test reads
abbrev nine : ℤ → ℤ → ℤ → ℤ → ℤ → ℤ → ℤ → ℤ → ℤ → ℕ → ℕ → ℤ
nine a b c d e f g h k i j = get_or (a ∷ b ∷ c ∷ d ∷ e ∷ f ∷ g ∷ h ∷ k ∷ []) (i * 3 + j) (pos 0)

own : {p : ℕ → ℤ} (s : Single p) (i : ℕ) → i < 3 → unit s.sign s.from i ≡ p i
own s i h = sym (s.is i h)

module _ {f : ℕ → ℕ → ℤ} (F : QuarterTurn f) where
  passed : T (test f)
  passed =
      let a = target F 0 (lit< tt) in
      let b = target F 1 (lit< tt) in
      let c = target F 2 (lit< tt) in
      let t1 = each_at (λ k. both (second a.sign k)) (both_at first all_rows a.sign) a.from a.below in
      let t2 = each_at (λ k. both (third a.sign a.from b.sign k))
      (both_at (second a.sign a.from) t1 b.sign) b.from b.below in
      let t3 = each_at (λ k. test (rows a.sign a.from b.sign b.from c.sign k))
      (both_at (third a.sign a.from b.sign b.from) t2 c.sign) c.from c.below in
      subst (λ (g : ℕ → ℕ → ℤ). T (test g)) (λ t. nine
      (own a 0 (lit< tt) t) (own a 1 (lit< tt) t) (own a 2 (lit< tt) t)
      (own b 0 (lit< tt) t) (own b 1 (lit< tt) t) (own b 2 (lit< tt) t)
      (own c 0 (lit< tt) t) (own c 1 (lit< tt) t) (own c 2 (lit< tt) t)) t3

  found : T (claims f)
  found = if_then (upright f) (claims f) passed
      (each_all (λ j. eqb (sizes (columnℤ f j)) 1) (λ j h. eq→eqb {a = sizes (columnℤ f j)} {b = 1} (F.columns j h)))

  -- the determinant of a quarter turn, however it is expanded
  pub determinants_are : (n : ℕ) → n < 3 → determinants f n ≡ signed (mirrored f) 1
  determinants_are n h = eq_z_is_lem (determinants f n) (signed (mirrored f) 1)
      (each_at (is_unit f) (and_l (each (is_unit f)) (each (λ i. each (is_plain f i))) found) n h)

  pub cofactor3_is : (i k : ℕ) → i < 3 → k < 3 → cofactor3 f i k ≡ flip (mirrored f) (f i k)
  cofactor3_is i k h l = eq_z_is_lem (cofactor3 f i k) (flip (mirrored f) (f i k))
      (each_at (is_plain f i) (each_at (λ i. each (is_plain f i)) (and_r (each (is_unit f)) (each (λ i. each (is_plain f i))) found) i h) k l)
