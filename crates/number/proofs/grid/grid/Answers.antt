-- `number::grid::grid` meets its contract: each way out is a law over plain lists. Assumes nothing.
use Rattle.std.proofs.Common.{◌≡◌, ℕ, List, [], ◌∷◌, length, ℤ, sym, refl, ap, ◌∙◌, arith, eq-eqb, ne_eqb, None, Option, Some}
use Rattle.std.proofs.lemmas.Result.{err_from_is_err_and}
use lib.Ieee.{Float, binary64, of_int}
use Rattle.number.specs.Answer.{Outcome, refused, outcome, and_then, Reply, refuse, write, replied, unless, has, leaving}
use Rattle.number.specs.Grid.{centimetres, placed, coordinate_of, in_front_of, grid_coordinates, grid_numbers, grid_call}
use Rattle.number.specs.Slice.{at}
use Rattle.number.proofs.Ways.{stops, passes}
use Rattle.number.proofs.Stores.{same_room}
use Rattle.number.proofs.grid.grid.Goals as goal

-- what the three coordinates decide
decided : List (Option ℤ) → List Float → Reply Float
decided cs out = replied (grid_numbers cs) out

call_is : (p out : List Float) → grid_call p out ≡ unless (has 3 p) (refuse 1 out) (unless (has 3 out) (refuse 2 out) (decided (grid_coordinates p) out))
unfolding grid_call leaving decided
call_is p out = refl

no_input : (p out : List Float) → (length p ≡ 3 → ⊥) → refuse 1 out ≡ grid_call p out
no_input p out n = stops (has 3 p) (refuse 1 out) _ (ne_eqb _ _ n) ∙ sym (call_is p out)

no_room : (p out : List Float) → length p ≡ 3 → (length out ≡ 3 → ⊥) → refuse 2 out ≡ grid_call p out
no_room p out e n =
    passes (has 3 p) (refuse 1 out) _ (refuse 2 out) (eq-eqb _ _ e) (stops (has 3 out) (refuse 2 out) _ (ne_eqb _ _ n)) ∙ sym (call_is p out)

place : List Float → ℕ → Option ℤ
place p i = placed (centimetres (at p i))

three : (p : List Float) → length p ≡ 3 → grid_coordinates p ≡ place p 0 ∷ place p 1 ∷ place p 2 ∷ []
unfolding place
three [] e = absurd (omega arith)
three (x ∷ []) e = absurd (omega arith)
three (x ∷ y ∷ []) e = absurd (omega arith)
three (x ∷ y ∷ z ∷ []) e = refl
three (x ∷ y ∷ z ∷ u ∷ p) e = absurd (omega arith)

-- a coordinate as the code has it: its number, or why it has none
abbrev number : Option ℤ → Outcome Float
number c = and_then (coordinate_of c) (λ z. outcome (of_int binary64 z))

abbrev front : Outcome Float → Outcome (List Float) → Outcome (List Float)
front x others = and_then x (λ y. and_then others (λ ys. outcome (y ∷ ys)))

front_is : (c : Option ℤ) (others : Outcome (List Float)) → front (number c) others ≡ in_front_of (coordinate_of c) others
front_is None others = refl
front_is (Some z) (refused k) = refl
front_is (Some z) (outcome xs) = refl

module _ (p out : List Float) (e : length p ≡ 3) (f : length out ≡ 3) where
  all : (a b c : Outcome Float) → a ≡ number (place p 0) → b ≡ number (place p 1) → c ≡ number (place p 2)
      → replied (front a (front b (front c (outcome [])))) out ≡ grid_call p out
  unfolding decided grid_numbers
  all a b c k l m =
      passes (has 3 p) (refuse 1 out) _ _ (eq-eqb _ _ e)
      (passes (has 3 out) (refuse 2 out) _ _ (eq-eqb _ _ f)
      ((λ i. replied (front (k i) (front (l i) (front (m i) (outcome [])))) out)
      ∙ ap (λ (n : Outcome (List Float)). replied (front (number (place p 0)) (front (number (place p 1)) n)) out) (front_is (place p 2) (outcome []))
      ∙ ap (λ (n : Outcome (List Float)). replied (front (number (place p 0)) n) out) (front_is (place p 1) _)
      ∙ ap (λ (n : Outcome (List Float)). replied n out) (front_is (place p 0) _)
      ∙ ap (λ (cs : List (Option ℤ)). replied (grid_numbers cs) out) (sym (three p e))))
      ∙ sym (call_is p out)

pub returns-then-p-ne-POINT_LENGTH : goal.returns-then-p-ne-POINT_LENGTH
returns-then-p-ne-POINT_LENGTH c = let a = c.args in no_input a.p.now a.out.now c.if-p-ne-POINT_LENGTH.true

pub returns-then-out-ne-POINT_LENGTH : goal.returns-then-out-ne-POINT_LENGTH
returns-then-out-ne-POINT_LENGTH c = let a = c.args in no_room a.p.now a.out.now c.if-p-ne-POINT_LENGTH.false c.if-out-ne-POINT_LENGTH.true

pub returns-in_err-coordinate : goal.returns-in_err-coordinate
unfolding place
returns-in_err-coordinate c =
    let p = err_from_is_err_and c.from_residual.result c.from_residual.ensures.1 in
    rw (p.1, p.2) (all c.args.p.now c.args.out.now c.if-p-ne-POINT_LENGTH.false c.if-out-ne-POINT_LENGTH.false _ _ _ c.in_err-coordinate.ensures refl refl)

pub returns-in_err-coordinate-2 : goal.returns-in_err-coordinate-2
unfolding place
returns-in_err-coordinate-2 c =
    let p = err_from_is_err_and c.from_residual-in_err-coordinate-2.result c.from_residual-in_err-coordinate-2.ensures.1 in
    rw (p.1, p.2) (all c.args.p.now c.args.out.now c.if-p-ne-POINT_LENGTH.false c.if-out-ne-POINT_LENGTH.false _ _ _ c.in_ok-coordinate.ensures c.in_err-coordinate-2.ensures refl)

pub returns-in_err-coordinate-3 : goal.returns-in_err-coordinate-3
unfolding place
returns-in_err-coordinate-3 c =
    let p = err_from_is_err_and c.from_residual-in_err-coordinate-3.result c.from_residual-in_err-coordinate-3.ensures.1 in
    rw (p.1, p.2) (all c.args.p.now c.args.out.now c.if-p-ne-POINT_LENGTH.false c.if-out-ne-POINT_LENGTH.false _ _ _ c.in_ok-coordinate.ensures c.in_ok-coordinate-2.ensures c.in_err-coordinate-3.ensures)

pub returns : goal.returns
unfolding place
returns c =
    let out = c.args.out.now in
    ap write (c.store.ensures ∙ same_room _ out (sym c.if-out-ne-POINT_LENGTH.false))
    ∙ all c.args.p.now out c.if-p-ne-POINT_LENGTH.false c.if-out-ne-POINT_LENGTH.false _ _ _ c.in_ok-coordinate.ensures c.in_ok-coordinate-2.ensures c.in_ok-coordinate-3.ensures
