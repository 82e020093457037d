-- What the grid operation accepts is a grid point. The idea: it is accepted only where all three coordinates are on the grid, and a whole number of that
-- size is a float without rounding.
use Rattle.std.specs.Prelude.{None, Option, Some}
use mathlib.Core.Path.{◌≡◌, refl, sym, ap, subst}
use mathlib.Core.Bool.{Bool, true, false, cond, false≢true}
use mathlib.Core.List.{List, [], ◌∷◌}
use Prim.Native.Nat.{ℕ, zero, suc, ◌*◌, ◌≤◌}
use native.Mathlib.Omega.{arith}
use lib.Dec.{T, leb, leb→le, eqb→eq}
use lib.ListN.{length}
use lib.IntN.{ℤ, pos, nat_abs}
use lib.Ieee.{Float, nan, inf, fin, binary64, up, down, of_int}
use Rattle.number.specs.Limits.{grid_limit}
use Rattle.number.specs.Answer.{Reply, refuse, replied, unless, has, leaving}
use Rattle.number.specs.Grid.{centimetres, whole_nearest, signed, placed, grid_coordinates, grid_numbers, grid_call}
use Rattle.number.specs.Slice.{at}
use Rattle.farmgrid.specs.Whole.{Whole}
use Rattle.farmgrid.specs.Survey.{GridPointOf, SurveyExact}
use Rattle.farmgrid.proofs.Numbers.Exact.{abs_signed, of_whole}
use Rattle.matrix.proofs.Axes.{along}

-- ---- one coordinate

abbrev whole_at : Option ℤ → ℤ
whole_at (Some z) = z
whole_at None = pos 0

abbrev on_grid : Option ℤ → Bool
on_grid (Some z) = true
on_grid None = false

-- what is on the grid is no larger than its limit
limited : (x : Float) (z : ℤ) → placed x ≡ Some z → nat_abs z ≤ grid_limit
unfolding placed
limited nan z e = absurd (false≢true (ap on_grid e))
limited (inf s) z e = absurd (false≢true (ap on_grid e))
limited (fin s m e) z h = go (leb n grid_limit) (leb→le n grid_limit) h
  where
    n : ℕ
    n = whole_nearest (m * up e) (down e)

    go : (b : Bool) → (T b → n ≤ grid_limit) → cond b (Some (signed s n)) None ≡ Some z → nat_abs z ≤ grid_limit
    go true l k = subst (λ (y : ℤ). nat_abs y ≤ grid_limit) (ap whole_at k) (subst (λ (i : ℕ). i ≤ grid_limit) (sym (abs_signed s n)) (l tt))
    go false l k = absurd (false≢true (ap on_grid k))

-- ---- three of them

-- one of three, by its number
abbrev three : {A : Type 0} → A → A → A → ℕ → A
three a b c zero = a
three a b c (suc zero) = b
three a b c (suc (suc i)) = c

module _ (x y z : Float) (out : List Float) where
  abbrev p : List Float
  p = x ∷ y ∷ z ∷ []

  abbrev answer : Bool → Bool → List (Option ℤ) → Reply Float
  answer inputs room cs = unless inputs (refuse 1 out) (unless room (refuse 2 out) (replied (grid_numbers cs) out))

  accepted : (i r : Bool) (a b c : Option ℤ) → placed (centimetres x) ≡ a → placed (centimetres y) ≡ b → placed (centimetres z) ≡ c
      → (answer i r (a ∷ b ∷ c ∷ [])).status ≡ 0 → GridPointOf p (answer i r (a ∷ b ∷ c ∷ [])).out
  unfolding grid_numbers
  accepted false r a b c f g h e = absurd (omega (arith, e))
  accepted true false a b c f g h e = absurd (omega (arith, e))
  accepted true true None b c f g h e = absurd (omega (arith, e))
  accepted true true (Some u) None c f g h e = absurd (omega (arith, e))
  accepted true true (Some u) (Some v) None f g h e = absurd (omega (arith, e))
  accepted true true (Some u) (Some v) (Some w) f g h e =
      let A = limited _ u f in
      let B = limited _ v g in
      let C = limited _ w h in
      record {
        point = three u v w;
        rule = along (λ i. placed (centimetres (at p i)) ≡ Some (three u v w i)) f g h;
        left = record {
          numbers = refl;
          point = record {
            numbers = record {
              at = along (λ i. Whole (at (of_int binary64 u ∷ of_int binary64 v ∷ of_int binary64 w ∷ []) i) (three u v w i))
                  (of_whole binary64 u (omega (arith, A))) (of_whole binary64 v (omega (arith, B))) (of_whole binary64 w (omega (arith, C)));
            };
            grid = record { size = along (λ i. nat_abs (three u v w i) ≤ grid_limit) A B C };
          };
        };
      }

-- a slice of another length is refused
short : (p out : List Float) → (length p ≡ 3 → ⊥) → (grid_call p out).status ≡ 0 → ⊥
unfolding grid_call leaving
short p out n e = go (has 3 p) (eqb→eq (length p) 3) e
  where
    rest : Reply Float
    rest = unless (has 3 out) (refuse 2 out) (replied (grid_numbers (grid_coordinates p)) out)

    go : (b : Bool) → (T b → length p ≡ 3) → (unless b (refuse 1 out) rest).status ≡ 0 → ⊥
    go true l k = n (l tt)
    go false l k = omega (arith, k)

pub survey_exact : SurveyExact
unfolding grid_call leaving
survey_exact [] out e = absurd (short [] out (λ l. omega (arith, l)) e)
survey_exact (x ∷ []) out e = absurd (short (x ∷ []) out (λ l. omega (arith, l)) e)
survey_exact (x ∷ y ∷ []) out e = absurd (short (x ∷ y ∷ []) out (λ l. omega (arith, l)) e)
survey_exact (x ∷ y ∷ z ∷ []) out e =
    accepted x y z out (has 3 (x ∷ y ∷ z ∷ [])) (has 3 out) (placed (centimetres x)) (placed (centimetres y)) (placed (centimetres z)) refl refl refl e
survey_exact (x ∷ y ∷ z ∷ w ∷ ws) out e = absurd (short (x ∷ y ∷ z ∷ w ∷ ws) out (λ l. omega (arith, l)) e)
