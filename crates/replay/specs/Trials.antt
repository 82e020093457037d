-- The calls that a record is tried with. Definitions only.
use Rattle.std.specs.Prelude.{ℕ, ◌+◌, ◌*◌, ◌/◌, ◌%◌, Bool, true, cond, ◌&&◌, List, replicate, ◌==◌, from_bits, Float}
use Rattle.std.specs.Float.{binary64}
use Rattle.replay.specs.Lengths.{is_lent, shorter, longer, refusal_at}
use Rattle.replay.specs.Same.{all_same}
use Rattle.replay.specs.declared.trials.Trial.{Trial}
use Rattle.replay.specs.declared.trials.Trial.TheVariants.{Recorded, Shorter, Longer}

-- 192 times 12345
abbrev pub blank : List Float
blank = replicate 192 (from_bits binary64 0x40c8_1c80_0000_0000)

-- the trials by their numbers: the last is the call as it was recorded
abbrev pub trial_number : Trial → ℕ
trial_number (Shorter i) = 2 * i
trial_number (Longer i) = 2 * i + 1
trial_number Recorded = 10

-- trials 2 i and 2 i + 1 have a number less and one more at the place i, if a slice is lent there
unfoldable pub tried : List ℕ → ℕ → List ℕ
tried n t = cond (is_lent n (t / 2)) (cond (t % 2 == 0) (shorter n (t / 2)) (longer n (t / 2))) n

-- a wrong length is refused and leaves the result as it was
abbrev pub refused_at : ℕ → ℕ → List Float → Bool
refused_at i got left = got == refusal_at i && all_same true left blank

-- a wrong length is refused and leaves the result as it was; a trial of the right lengths answers as was recorded
unfoldable pub accepted : List ℕ → ℕ → Bool → ℕ → List Float → ℕ → List Float → Bool
accepted n t signed status answer got left = cond (is_lent n (t / 2)) (got == refusal_at (t / 2) && all_same true left blank) (got == status && all_same signed left answer)
