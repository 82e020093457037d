-- `text::put_decimal` meets its contract: one digit, two, or none. Assumes nothing.
use mathlib.Core.Path.{◌≡◌, sym}
use mathlib.Core.Bool.{Bool, cond}
use mathlib.Core.List.{List, [], ◌∷◌}
use Prim.Native.Nat.{ℕ, ◌+◌, ◌/◌, ◌%◌, ◌<◌, ◌≤◌}
use borrow.Author.Tests.{lt-ltb, le-ltb}
use lib.Dec.{ltb}
use Rattle.farm.specs.Text.{decimal}
use Rattle.farm.proofs.Texts.{puts_meant, none_put}
use Rattle.farm.proofs.text.put_decimal.Goals as goal

module _ (n : ℕ) where
  abbrev by : Bool → Bool → List ℕ
  by b c = cond b ((48 + n) ∷ []) (cond c ((48 + n / 10) ∷ (48 + n % 10) ∷ []) [])

  one : n < 10 → (48 + n) ∷ [] ≡ decimal n
  unfolding decimal
  one h = sym (λ k. by (lt-ltb n 10 h k) (ltb n 100))

  two : 10 ≤ n → n < 100 → (48 + n / 10) ∷ (48 + n % 10) ∷ [] ≡ decimal n
  unfolding decimal
  two h l = sym (λ k. by (le-ltb n 10 h k) (lt-ltb n 100 l k))

  no_digit : 10 ≤ n → 100 ≤ n → [] ≡ decimal n
  unfolding decimal
  no_digit h l = sym (λ k. by (le-ltb n 10 h k) (le-ltb n 100 l k))

pub returns-then-n-lt10 : goal.returns-then-n-lt10
returns-then-n-lt10 c =
    let g = c.args in
    puts_meant g.text.now g.at _ _ _ _ (one g.n c.if-n-lt10.true) c.put.ensures

pub returns-then-n-lt100 : goal.returns-then-n-lt100
returns-then-n-lt100 c =
    let g = c.args in
    puts_meant g.text.now g.at _ _ _ _ (two g.n c.if-n-lt10.false c.if-n-lt100.true) c.put-then-n-lt100.ensures

pub returns : goal.returns
returns c =
    let g = c.args in
    puts_meant g.text.now g.at _ _ _ _ (no_digit g.n c.if-n-lt10.false c.if-n-lt100.false) (none_put g.text.now g.at)
