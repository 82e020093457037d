-- Slots, filled one after the other. Assumes nothing.
use Rattle.std.proofs.Common.{◌≡◌, ℕ, ◌+◌, ◌-◌, ◌≤◌, List, length, ap, ◌∙◌, arith, length-append}
use lib.ListN.{length-replicate}
use Rattle.number.specs.Slots.{unused, slots_of}

-- there are as many slots however many are filled
pub length_slots : (n : ℕ) (l : List ℕ) → length l ≤ n → length (slots_of n l) ≡ n
length_slots n l h = length-append l _ ∙ ap (λ (k : ℕ). length l + k) (length-replicate (n - length l) unused) ∙ omega arith
