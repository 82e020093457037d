-- A point on three planes whose normals' determinant is not 0 is their vertex: Cramer's rule, in whole numbers. The determinant changes its sign where two planes
-- change places. The idea: along one axis, the three equations times the three minors add up to the determinant times the coordinate, since the minors
-- cancel along the other two axes. The axes are alike, so that it is done once, over nine numbers.
use mathlib.Core.Path.{◌≡◌, sym, ◌∙◌}
use Prim.Native.Nat.{ℕ, zero, suc, ◌<◌}
use native.Mathlib.Omega.{arith}
use lib.IntN.{ℤ, pos, neg_ℤ, ◌+ℤ◌, ◌-ℤ◌, ◌*ℤ◌, *ℤ_comm}
use Rattle.whole.specs.Plane.{WholePlane, dotℤ}
use Rattle.whole.proofs.Integer.{of_self as self, of_pos, of_neg, of_eq, eq_of, times_assoc, ◌⊞◌, ◌⊟◌, ◌⊠◌}
use Rattle.exact.specs.ExactPoint.{ExactPoint}
use Rattle.exact.specs.Vertex.{minor, cross, determinant, vertex_at}
use Rattle.exact.proofs.Crossing.{On}

-- ---- products of three
abbrev trip : ℤ → ℤ → ℤ → ℤ
trip a b c = a *ℤ b *ℤ c

times_minus : (x y z : ℤ) → x *ℤ (y -ℤ z) ≡ x *ℤ y -ℤ x *ℤ z
times_minus x y z = of_eq (self x ⊠ (self y ⊟ self z)) (self x ⊠ self y ⊟ self x ⊠ self z) (omega arith)

apart : (x a b c d : ℤ) → x *ℤ minor a b c d ≡ trip x a d -ℤ trip x b c
apart x a b c d = times_minus x (a *ℤ d) (b *ℤ c) ∙ (λ t. sym (times_assoc x a d) t -ℤ sym (times_assoc x b c) t)

swap : (a b c : ℤ) → trip a b c ≡ trip b a c
swap a b c t = *ℤ_comm a b t *ℤ c

last : (a b c : ℤ) → trip a b c ≡ trip a c b
last a b c = times_assoc a b c ∙ (λ t. a *ℤ *ℤ_comm b c t) ∙ sym (times_assoc a c b)

ends : (a b c : ℤ) → trip a b c ≡ trip c b a
ends a b c = swap a b c ∙ last b a c ∙ swap b c a

cancel : (x y z : ℤ) → x -ℤ y +ℤ (z -ℤ x) +ℤ (y -ℤ z) ≡ pos 0
cancel x y z = of_eq (self x ⊟ self y ⊞ (self z ⊟ self x) ⊞ (self y ⊟ self z)) (of_pos 0) (omega arith)

cancel' : (x y z : ℤ) → x -ℤ y +ℤ (y -ℤ z) +ℤ (z -ℤ x) ≡ pos 0
cancel' x y z = of_eq (self x ⊟ self y ⊞ (self y ⊟ self z) ⊞ (self z ⊟ self x)) (of_pos 0) (omega arith)

-- ---- three minors of two columns: times the numbers of either column they cancel
first_column : (p p' q q' r r' : ℤ) → p *ℤ minor q q' r r' +ℤ q *ℤ minor r r' p p' +ℤ r *ℤ minor p p' q q' ≡ pos 0
first_column p p' q q' r r' =
    (λ t. apart p q q' r r' t +ℤ apart q r r' p p' t +ℤ apart r p p' q q' t)
    ∙ (λ t. trip p q r' -ℤ trip p q' r +ℤ (trip q r p' -ℤ (ends q r' p ∙ last p r' q) t) +ℤ ((swap r p q' ∙ last p r q') t -ℤ (last r p' q ∙ swap r q p') t))
    ∙ cancel (trip p q r') (trip p q' r) (trip q r p')

second_column : (p p' q q' r r' : ℤ) → p' *ℤ minor q q' r r' +ℤ q' *ℤ minor r r' p p' +ℤ r' *ℤ minor p p' q q' ≡ pos 0
second_column p p' q q' r r' =
    (λ t. apart p' q q' r r' t +ℤ apart q' r r' p p' t +ℤ apart r' p p' q q' t)
    ∙ (λ t. trip p' q r' -ℤ trip p' q' r +ℤ ((ends q' r p' ∙ last p' r q') t -ℤ (swap q' r' p ∙ last r' q' p) t) +ℤ (trip r' p q' -ℤ (swap r' p' q ∙ last p' r' q) t))
    ∙ cancel' (trip p' q r') (trip p' q' r) (trip r' p q')

-- ---- Cramer's rule along one axis: rows a, b, c and the unknown x x' x''
module _ (a a' a'' b b' b'' c c' c'' x x' x'' : ℤ) where
  abbrev u : ℤ
  u = minor b' b'' c' c''

  abbrev v : ℤ
  v = minor c' c'' a' a''

  abbrev w : ℤ
  w = minor a' a'' b' b''

  -- the determinant, by its first column
  abbrev Δ : ℤ
  Δ = a *ℤ u +ℤ b *ℤ v +ℤ c *ℤ w

  row : (p p' p'' m : ℤ) → m *ℤ (p *ℤ x +ℤ p' *ℤ x' +ℤ p'' *ℤ x'') ≡ p *ℤ m *ℤ x +ℤ p' *ℤ m *ℤ x' +ℤ p'' *ℤ m *ℤ x''
  row p p' p'' m =
      spread m (p *ℤ x) (p' *ℤ x') (p'' *ℤ x'')
      ∙ (λ t. one p x t +ℤ one p' x' t +ℤ one p'' x'' t)
    where
      spread : (m y z s : ℤ) → m *ℤ (y +ℤ z +ℤ s) ≡ m *ℤ y +ℤ m *ℤ z +ℤ m *ℤ s
      spread m y z s = of_eq (self m ⊠ (self y ⊞ self z ⊞ self s)) (self m ⊠ self y ⊞ self m ⊠ self z ⊞ self m ⊠ self s) (omega arith)

      one : (p x : ℤ) → m *ℤ (p *ℤ x) ≡ p *ℤ m *ℤ x
      one p x = sym (times_assoc m p x) ∙ swap m p x

  -- columns of sums instead of rows
  gather : (p q r p' q' r' p'' q'' r'' : ℤ)
      → p *ℤ x +ℤ p' *ℤ x' +ℤ p'' *ℤ x'' +ℤ (q *ℤ x +ℤ q' *ℤ x' +ℤ q'' *ℤ x'') +ℤ (r *ℤ x +ℤ r' *ℤ x' +ℤ r'' *ℤ x'')
      ≡ (p +ℤ q +ℤ r) *ℤ x +ℤ (p' +ℤ q' +ℤ r') *ℤ x' +ℤ (p'' +ℤ q'' +ℤ r'') *ℤ x''
  gather p q r p' q' r' p'' q'' r'' = sym (
      (λ t. column p q r x t +ℤ column p' q' r' x' t +ℤ column p'' q'' r'' x'' t)
      ∙ turn (p *ℤ x) (q *ℤ x) (r *ℤ x) (p' *ℤ x') (q' *ℤ x') (r' *ℤ x') (p'' *ℤ x'') (q'' *ℤ x'') (r'' *ℤ x''))
    where
      column : (p q r x : ℤ) → (p +ℤ q +ℤ r) *ℤ x ≡ p *ℤ x +ℤ q *ℤ x +ℤ r *ℤ x
      column p q r x = of_eq ((self p ⊞ self q ⊞ self r) ⊠ self x) (self p ⊠ self x ⊞ self q ⊠ self x ⊞ self r ⊠ self x) (omega arith)

      turn : (p q r p' q' r' p'' q'' r'' : ℤ)
          → p +ℤ q +ℤ r +ℤ (p' +ℤ q' +ℤ r') +ℤ (p'' +ℤ q'' +ℤ r'') ≡ p +ℤ p' +ℤ p'' +ℤ (q +ℤ q' +ℤ q'') +ℤ (r +ℤ r' +ℤ r'')
      turn p q r p' q' r' p'' q'' r'' = of_eq
          (self p ⊞ self q ⊞ self r ⊞ (self p' ⊞ self q' ⊞ self r') ⊞ (self p'' ⊞ self q'' ⊞ self r''))
          (self p ⊞ self p' ⊞ self p'' ⊞ (self q ⊞ self q' ⊞ self q'') ⊞ (self r ⊞ self r' ⊞ self r'')) (omega arith)

  zeros : (y : ℤ) → y *ℤ x +ℤ pos 0 *ℤ x' +ℤ pos 0 *ℤ x'' ≡ y *ℤ x
  zeros y = of_eq (self y ⊠ self x ⊞ of_pos 0 ⊠ self x' ⊞ of_pos 0 ⊠ self x'') (self y ⊠ self x) (omega arith)

  pub cramer_axis : u *ℤ (a *ℤ x +ℤ a' *ℤ x' +ℤ a'' *ℤ x'') +ℤ v *ℤ (b *ℤ x +ℤ b' *ℤ x' +ℤ b'' *ℤ x'') +ℤ w *ℤ (c *ℤ x +ℤ c' *ℤ x' +ℤ c'' *ℤ x'')
      ≡ Δ *ℤ x
  cramer_axis =
      (λ t. row a a' a'' u t +ℤ row b b' b'' v t +ℤ row c c' c'' w t)
      ∙ gather (a *ℤ u) (b *ℤ v) (c *ℤ w) (a' *ℤ u) (b' *ℤ v) (c' *ℤ w) (a'' *ℤ u) (b'' *ℤ v) (c'' *ℤ w)
      ∙ (λ t. Δ *ℤ x +ℤ first_column a' a'' b' b'' c' c'' t *ℤ x' +ℤ second_column a' a'' b' b'' c' c'' t *ℤ x'')
      ∙ zeros Δ

  -- the determinant by the last row is the same
  pub by_row : Δ ≡ c *ℤ w +ℤ c' *ℤ minor a'' a b'' b +ℤ c'' *ℤ minor a a' b b'
  by_row =
      (λ t. apart a b' b'' c' c'' t +ℤ apart b c' c'' a' a'' t +ℤ c *ℤ w)
      ∙ regroup (trip a b' c'') (trip a b'' c') (trip b c' a'') (trip b c'' a') (c *ℤ w)
      ∙ sym (
      (λ t. c *ℤ w +ℤ apart c' a'' a b'' b t +ℤ apart c'' a a' b b' t)
      ∙ (λ t. c *ℤ w +ℤ ((last c' a'' b ∙ swap c' b a'') t -ℤ (swap c' a b'' ∙ last a c' b'') t)
      +ℤ ((swap c'' a b' ∙ last a c'' b') t -ℤ (last c'' a' b ∙ swap c'' b a') t)))
    where
      regroup : (p q r s y : ℤ) → p -ℤ q +ℤ (r -ℤ s) +ℤ y ≡ y +ℤ (r -ℤ q) +ℤ (p -ℤ s)
      regroup p q r s y = of_eq (self p ⊟ self q ⊞ (self r ⊟ self s) ⊞ self y) (self y ⊞ (self r ⊟ self q) ⊞ (self p ⊟ self s)) (omega arith)

-- ---- three planes
by_columns : (x y z : ℤ) (p q : ℕ → ℤ) → x *ℤ cross p q 0 +ℤ y *ℤ cross p q 1 +ℤ z *ℤ cross p q 2
    ≡ x *ℤ minor (p 1) (q 1) (p 2) (q 2) +ℤ y *ℤ minor (p 2) (q 2) (p 0) (q 0) +ℤ z *ℤ minor (p 0) (q 0) (p 1) (q 1)
by_columns x y z p q t =
    x *ℤ (p 1 *ℤ q 2 -ℤ *ℤ_comm (p 2) (q 1) t) +ℤ y *ℤ (p 2 *ℤ q 0 -ℤ *ℤ_comm (p 0) (q 2) t) +ℤ z *ℤ (p 0 *ℤ q 1 -ℤ *ℤ_comm (p 1) (q 0) t)

-- the cross product is perpendicular to both
pub cross_first : (p q : ℕ → ℤ) → dotℤ p (cross p q) ≡ pos 0
cross_first p q = by_columns (p 0) (p 1) (p 2) p q ∙ first_column (p 0) (q 0) (p 1) (q 1) (p 2) (q 2)

pub cross_second : (p q : ℕ → ℤ) → dotℤ q (cross p q) ≡ pos 0
cross_second p q = by_columns (q 0) (q 1) (q 2) p q ∙ second_column (p 0) (q 0) (p 1) (q 1) (p 2) (q 2)

on_is : {P : WholePlane} {X : ExactPoint} → On P X → dotℤ P.normal X.numbers ≡ pos X.k *ℤ P.distance
on_is {P} {X} h = same (dotℤ P.normal X.numbers) (pos X.k *ℤ P.distance) h.level
  where
    same : (y z : ℤ) → y -ℤ z ≡ pos 0 → y ≡ z
    same y z e = of_eq (self y) (self z) (omega (arith, eq_of (self y ⊟ self z) (of_pos 0) e))

turn : (p q r : ℤ) → q +ℤ r +ℤ p ≡ p +ℤ q +ℤ r
turn p q r = of_eq (self q ⊞ self r ⊞ self p) (self p ⊞ self q ⊞ self r) (omega arith)

module _ (A B C : WholePlane) (X : ExactPoint) (g : On A X) (h : On B X) (i : On C X) where
  abbrev a : ℕ → ℤ
  a = A.normal

  abbrev b : ℕ → ℤ
  b = B.normal

  abbrev c : ℕ → ℤ
  c = C.normal

  abbrev x : ℕ → ℤ
  x = X.numbers

  -- k times the vertex, by what the planes' equations say
  scaled : (u v w : ℤ) → u *ℤ dotℤ a x +ℤ v *ℤ dotℤ b x +ℤ w *ℤ dotℤ c x
      ≡ pos X.k *ℤ (u *ℤ A.distance +ℤ v *ℤ B.distance +ℤ w *ℤ C.distance)
  scaled u v w = rw (on_is g, on_is h, on_is i) (out A.distance B.distance C.distance)
    where
      one : (u d : ℤ) → u *ℤ (pos X.k *ℤ d) ≡ pos X.k *ℤ (u *ℤ d)
      one u d = sym (times_assoc u (pos X.k) d) ∙ swap u (pos X.k) d ∙ times_assoc (pos X.k) u d

      gathered : (y z s : ℤ) → pos X.k *ℤ y +ℤ pos X.k *ℤ z +ℤ pos X.k *ℤ s ≡ pos X.k *ℤ (y +ℤ z +ℤ s)
      gathered y z s = of_eq (of_pos X.k ⊠ self y ⊞ of_pos X.k ⊠ self z ⊞ of_pos X.k ⊠ self s)
          (of_pos X.k ⊠ (self y ⊞ self z ⊞ self s)) (omega arith)

      out : (d e f : ℤ) → u *ℤ (pos X.k *ℤ d) +ℤ v *ℤ (pos X.k *ℤ e) +ℤ w *ℤ (pos X.k *ℤ f) ≡ pos X.k *ℤ (u *ℤ d +ℤ v *ℤ e +ℤ w *ℤ f)
      out d e f = (λ t. one u d t +ℤ one v e t +ℤ one w f t) ∙ gathered (u *ℤ d) (v *ℤ e) (w *ℤ f)

  pub cramer : (j : ℕ) → j < 3 → determinant A B C *ℤ x j ≡ pos X.k *ℤ vertex_at A B C j
  cramer zero l =
      sym (cramer_axis (a 0) (a 1) (a 2) (b 0) (b 1) (b 2) (c 0) (c 1) (c 2) (x 0) (x 1) (x 2)
      ∙ (λ t. by_row (a 0) (a 1) (a 2) (b 0) (b 1) (b 2) (c 0) (c 1) (c 2) (x 0) (x 1) (x 2) t *ℤ x 0))
      ∙ scaled (cross b c 0) (cross c a 0) (cross a b 0)
  cramer (suc zero) l =
      sym ((λ t. cross b c 1 *ℤ sym (turn (a 0 *ℤ x 0) (a 1 *ℤ x 1) (a 2 *ℤ x 2)) t +ℤ cross c a 1 *ℤ sym (turn (b 0 *ℤ x 0) (b 1 *ℤ x 1) (b 2 *ℤ x 2)) t
      +ℤ cross a b 1 *ℤ sym (turn (c 0 *ℤ x 0) (c 1 *ℤ x 1) (c 2 *ℤ x 2)) t)
      ∙ cramer_axis (a 1) (a 2) (a 0) (b 1) (b 2) (b 0) (c 1) (c 2) (c 0) (x 1) (x 2) (x 0)
      ∙ (λ t. (by_row (a 1) (a 2) (a 0) (b 1) (b 2) (b 0) (c 1) (c 2) (c 0) (x 1) (x 2) (x 0)
      ∙ turn (c 0 *ℤ cross a b 0) (c 1 *ℤ cross a b 1) (c 2 *ℤ cross a b 2)) t *ℤ x 1))
      ∙ scaled (cross b c 1) (cross c a 1) (cross a b 1)
  cramer (suc (suc zero)) l =
      sym ((λ t. cross b c 2 *ℤ turn (a 2 *ℤ x 2) (a 0 *ℤ x 0) (a 1 *ℤ x 1) t +ℤ cross c a 2 *ℤ turn (b 2 *ℤ x 2) (b 0 *ℤ x 0) (b 1 *ℤ x 1) t
      +ℤ cross a b 2 *ℤ turn (c 2 *ℤ x 2) (c 0 *ℤ x 0) (c 1 *ℤ x 1) t)
      ∙ cramer_axis (a 2) (a 0) (a 1) (b 2) (b 0) (b 1) (c 2) (c 0) (c 1) (x 2) (x 0) (x 1)
      ∙ (λ t. (by_row (a 2) (a 0) (a 1) (b 2) (b 0) (b 1) (c 2) (c 0) (c 1) (x 2) (x 0) (x 1)
      ∙ sym (turn (c 2 *ℤ cross a b 2) (c 0 *ℤ cross a b 0) (c 1 *ℤ cross a b 1))) t *ℤ x 2))
      ∙ scaled (cross b c 2) (cross c a 2) (cross a b 2)
  cramer (suc (suc (suc j))) l = absurd (omega arith)

-- where two of the planes change places, the determinant changes its sign
pub swapped : (A B C : WholePlane) → determinant A C B ≡ neg_ℤ (determinant A B C)
swapped A B C =
    let a : ℕ → ℤ = A.normal in
    let b : ℕ → ℤ = B.normal in
    let c : ℕ → ℤ = C.normal in
    (λ t. apart (b 0) (a 1) (a 2) (c 1) (c 2) t +ℤ apart (b 1) (a 2) (a 0) (c 2) (c 0) t +ℤ apart (b 2) (a 0) (a 1) (c 0) (c 1) t)
    ∙ (λ t. ends (b 0) (a 1) (c 2) t -ℤ ends (b 0) (a 2) (c 1) t +ℤ (ends (b 1) (a 2) (c 0) t -ℤ ends (b 1) (a 0) (c 2) t)
    +ℤ (ends (b 2) (a 0) (c 1) t -ℤ ends (b 2) (a 1) (c 0) t))
    ∙ regroup (trip (c 2) (a 1) (b 0)) (trip (c 1) (a 2) (b 0)) (trip (c 0) (a 2) (b 1)) (trip (c 2) (a 0) (b 1)) (trip (c 1) (a 0) (b 2)) (trip (c 0) (a 1) (b 2))
    ∙ sym (λ t. neg_ℤ (apart (c 0) (a 1) (a 2) (b 1) (b 2) t +ℤ apart (c 1) (a 2) (a 0) (b 2) (b 0) t +ℤ apart (c 2) (a 0) (a 1) (b 0) (b 1) t))
  where
    regroup : (p q r s u v : ℤ) → p -ℤ q +ℤ (r -ℤ s) +ℤ (u -ℤ v) ≡ neg_ℤ (v -ℤ r +ℤ (q -ℤ u) +ℤ (s -ℤ p))
    regroup p q r s u v = of_eq (self p ⊟ self q ⊞ (self r ⊟ self s) ⊞ (self u ⊟ self v)) (of_neg (self v ⊟ self r ⊞ (self q ⊟ self u) ⊞ (self s ⊟ self p))) (omega arith)
