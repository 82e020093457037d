-- `Boxes::all_flagged` meets its contract: the flag of each record is asked. Assumes nothing.
use Rattle.std.proofs.Common.{◌≡◌, ℕ, zero, suc, ◌+◌, ◌*◌, Bool, true, false, ◌&&◌, List, sym, refl, ap, ◌∙◌, rules, arith}
use borrow.Author.Tests.{tests}
use lib.Ieee.{Float}
use Rattle.std.proofs.lemmas.Iterator.{cases_from_all, YieldsList-from_range}
use Rattle.number.specs.Limits.{box_length, flag_place}
use Rattle.number.specs.Slice.{at}
use Rattle.number.specs.Every.{every}
use Rattle.number.specs.Tabulate.{tabulate}
use Rattle.number.specs.Records.{record_at}
use Rattle.number.proofs.Records.{number_at_lem}
use Rattle.verdict.specs.BBox.{is_flag}
use Rattle.verdict.specs.BBoxCalls.{flagged}
use Rattle.verdict.proofs.Over.{all_over}
use Rattle.group.proofs.group.Boxes.all_flagged.Goals as goal

-- the flag of record i stands where it is read
read : (s : List Float) (i : ℕ) → is_flag (at s (i * box_length + flag_place)) ≡ flagged (record_at box_length s i)
read s i = ap is_flag (sym (number_at_lem box_length s i flag_place (omega arith)))

-- a test of each place is one of each record
over : {A B : Type 0} (t : A → Bool) (u : B → Bool) (f : ℕ → A) (g : ℕ → B) (n : ℕ) → ((i : ℕ) → t (f i) ≡ u (g i)) → every t (tabulate f n) ≡ every u (tabulate g n)
unfolding every tabulate
over t u f g zero h = refl
over t u f g (suc n) h = λ j. h 0 j && over t u (λ i. f (suc i)) (λ i. g (suc i)) n (λ i. h (suc i)) j

pub returns : goal.returns
returns c =
    let b = c.args.self in
    let test : ℕ → Bool = λ i. is_flag (at b.numbers.now (i * box_length + flag_place)) in
    all_over test (λ i. i) b.count _
    (cases_from_all _ _ _ (λ (k : ℕ). test k ≡ true) (λ (k : ℕ). test k ≡ false) c.all.ensures.ran
    (YieldsList-from_range 0 b.count b.count refl (omega arith)) (λ x q k. search (rules, tests)) (λ x q k. search (rules, tests)))
    ∙ over test flagged (λ i. i) (record_at box_length b.numbers.now) b.count (read b.numbers.now)
