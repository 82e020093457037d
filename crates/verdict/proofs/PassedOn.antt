-- What a `?` passes on where its call is refused: the same refusal. Assumes nothing.
use Rattle.std.proofs.Common.{◌≡◌, List}
use Rattle.std.specs.Prelude.{Result, ⊤}
use Rattle.std.specs.Result.{IsErrAnd, IfErr}
use Rattle.std.proofs.lemmas.Result.{err_from_is_err_and}
use Rattle.number.specs.declared.answer.Refusal.{Refusal}
use Rattle.number.specs.Answer.{Outcome, refused, number_of, outcome_of, Reply, refuse, reply}

pub passed_on : {A : Type 0} (r : Result A Refusal) (e : Refusal) {o : Outcome A} → IsErrAnd r (λ y. y ≡ e) → refused (number_of e) ≡ o → outcome_of r ≡ o
passed_on r e is h = let p = err_from_is_err_and r is in rw (p.1, p.2) h

pub passed_on_err : {A B : Type 0} (r : Result A Refusal) (e : Refusal) {o : Outcome B} → IsErrAnd r (λ y. y ≡ e) → refused (number_of e) ≡ o → IfErr r (λ y. refused (number_of y) ≡ o)
passed_on_err r e is h = let p = err_from_is_err_and r is in rw (p.1, p.2) h

-- with a slice that is left alone
pub passed_on_reply : {A : Type 0} (r : Result ⊤ Refusal) (e : Refusal) (out : List A) {o : Reply A} → IsErrAnd r (λ y. y ≡ e) → refuse (number_of e) out ≡ o → reply r out ≡ o
passed_on_reply r e out is h = let p = err_from_is_err_and r is in rw (p.1, p.2) h
