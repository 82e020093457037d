-- `matrix_calls::inverse` meets its contract: the lengths by their tests, the reply by what the inverse came to. Assumes nothing.
use Rattle.std.specs.Prelude.{None, Option, Some}
use mathlib.Core.Path.{◌≡◌, refl, sym, ap, ◌∙◌}
use mathlib.Core.List.{List}
use native.Mathlib.Omega.{arith}
use lib.Ieee.{Float}
use Rattle.std.proofs.lemmas.Result.{err_from_is_err_and}
use Rattle.number.specs.declared.answer.Refusal.TheVariants.{Singular}
use Rattle.matrix.specs.declared.matrix.Mat4d.{Mat4d}
use Rattle.matrix.specs.Matrix.{matrix_of}
use Rattle.matrix.specs.Inverse.{inverse}
use Rattle.matrix.specs.MatrixCalls.{inverse_reply, inverse_call}
use Rattle.number.proofs.Ways.{no_input, no_room, left, written}
use Rattle.matrix.proofs.Given.{was_given, was_refused}
use Rattle.matrix.proofs.matrix_calls.inverse.Goals as goal

pub returns-in_err-matrix : goal.returns-in_err-matrix
unfolding inverse_call
returns-in_err-matrix c =
    let p = err_from_is_err_and c.from_residual.result c.from_residual.ensures.1 in
    let q = was_refused _ _ _ _ c.given.ensures c.in_err-matrix.was in
    rw (p.1, p.2, q.1) (no_input _ _ _ _ q.0)

pub returns-then-out-ne-MATRIX_LENGTH : goal.returns-then-out-ne-MATRIX_LENGTH
unfolding inverse_call
returns-then-out-ne-MATRIX_LENGTH c =
    let q = was_given _ _ _ _ c.given.ensures c.in_ok-matrix.was in
    no_room _ _ _ _ q.0 c.if-out-ne-MATRIX_LENGTH.true

-- the reply is that of what was found
found : (a out : List Float) (m : Mat4d) (v w : Option Mat4d) → m ≡ matrix_of a → v ≡ inverse m → v ≡ w → inverse_reply w out ≡ inverse_reply (inverse (matrix_of a)) out
found a out m v w p q r = ap (λ (i : Option Mat4d). inverse_reply i out) (sym r ∙ q ∙ ap inverse p)

pub returns-in_err-ok_or : goal.returns-in_err-ok_or
unfolding inverse_call
returns-in_err-ok_or c =
    let args = c.args in
    let p = err_from_is_err_and c.from_residual-in_err-ok_or.result c.from_residual-in_err-ok_or.ensures.1 in
    let none : c.inverse.result ≡ None = grind arith in
    let singular : c.in_err-ok_or.field-0.0 ≡ Singular = grind arith in
    let q = was_given _ _ _ _ c.given.ensures c.in_ok-matrix.was in
    rw (p.1, p.2, singular) (found args.m.now args.out.now _ _ None q.1 c.inverse.ensures none ∙ left _ _ _ _ q.0 c.if-out-ne-MATRIX_LENGTH.false)

pub returns : goal.returns
unfolding inverse_call
returns c =
    let args = c.args in
    let some : c.inverse.result ≡ Some c.in_ok-ok_or.field-0 = grind arith in
    let q = was_given _ _ _ _ c.given.ensures c.in_ok-matrix.was in
    written _ _ _ _ _ _ q.0 c.if-out-ne-MATRIX_LENGTH.false refl c.store.ensures (found args.m.now args.out.now _ _ (Some _) q.1 c.inverse.ensures some)
