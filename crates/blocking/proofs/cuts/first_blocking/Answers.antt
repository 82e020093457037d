-- `first_blocking` meets its contract: no place before what is found leaves some of the segment. Assumes nothing.
use Rattle.std.proofs.Common.{◌≡◌, ℕ, ◌<◌, ◌≤◌, Bool, true, false, Option, None, Some, sym, rules, arith}
use borrow.Author.Tests.{tests}
use Rattle.std.specs.Option.{MatchOption}
use Rattle.std.proofs.lemmas.Iterator.{first_from_Range}
use Rattle.number.specs.Places.{places_below, first_of}
use Rattle.number.proofs.PlacesBelow.{finds}
use Rattle.blocking.specs.Steps.{leave_without}
use Rattle.blocking.proofs.cuts.first_blocking.Goals as goal

found : (t : ℕ → Bool) (n : ℕ) (r : Option ℕ) → MatchOption r ((k : ℕ) → 0 ≤ k → k < n → t k ≡ false) (λ i. (0 ≤ i) × (i < n) × (t i ≡ true) × ((k : ℕ) → 0 ≤ k → k < i → t k ≡ false))
    → r ≡ first_of (places_below n t)
found t n None h = sym (finds t n None (λ k l. h k (omega arith) l))
found t n (Some i) h = sym (finds t n (Some i) (record { place = h.1; passes = h.2; before = λ k l. h.3 k (omega arith) l }))

pub returns : goal.returns
returns c =
    let g = c.args in
    found (leave_without g.cuts) g.count _
    (first_from_Range _ _ _ _ (λ (k : ℕ). leave_without g.cuts k ≡ true) (λ (k : ℕ). leave_without g.cuts k ≡ false) c.find.ensures.ran (λ x q k. search (rules, tests)) (λ x q k. search (rules, tests)))
