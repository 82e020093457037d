-- `Cut::without` meets its contract: by its test of the place. Assumes nothing.
use Rattle.std.proofs.Common.{◌≡◌, ℕ, Bool, cond, sym, ap}
use Rattle.blocking.specs.declared.cuts.Cut.{Cut}
use Rattle.blocking.specs.Steps.{is_at, furthest_without}

by : (s : Cut) (i : ℕ) (b : Bool) → is_at s.place i ≡ b → cond b s.next s.furthest ≡ furthest_without s i
by s i b e = sym (ap (λ (t : Bool). cond t s.next s.furthest) e)
