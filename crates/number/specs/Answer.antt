-- What a call answers, by the numbers of the refusals. Definitions only.
use Rattle.std.specs.Prelude.{ℕ, Bool, true, false, List, length, ◌==◌, Option, Some, None, Result, Ok, Err, ⊤}
use Rattle.number.specs.declared.answer.Refusal.{Refusal}
use Rattle.number.specs.declared.answer.Refusal.TheVariants.{InputLength, OutputLength, Kind, Singular, Miss, NotAProjection, OffGrid, NotFinite, Directory, SectionLength, GroupSize, PlaneCount, MissingNumber, InView}
use Rattle.number.specs.Slots.{unused}

-- the number of each refusal
abbrev pub number_of : Refusal → ℕ
number_of InputLength = 1
number_of OutputLength = 2
number_of Kind = 3
number_of Singular = 4
number_of Miss = 5
number_of NotAProjection = 6
number_of OffGrid = 7
number_of NotFinite = 8
number_of Directory = 9
number_of SectionLength = 10
number_of GroupSize = 11
number_of PlaneCount = 12
number_of MissingNumber = 13
number_of InView = 14

-- ---- an operation that writes its result into a lent slice

-- What such a call leaves: 0 or the number of its refusal, and what the slice holds afterwards.
-- Its numbers are values: where the result has a NaN, the slice may hold any NaN.
pub record Reply (A : Type 0) : Type 0 where
  pub status : ℕ
  pub out : List A

abbrev pub answered : {A : Type 0} → ℕ → List A → Reply A
answered n out = record { status = n; out = out }

-- A refusal preserves the slice: as values it is equal to what it was, so that a NaN is still a NaN. That the bits of a NaN stay too is what the code does,
-- since no refusal stores.
abbrev pub refuse : {A : Type 0} → ℕ → List A → Reply A
refuse n out = answered n out

abbrev pub write : {A : Type 0} → List A → Reply A
write v = answered 0 v

-- the number of such an answer
abbrev pub status_of : Result ⊤ Refusal → ℕ
status_of (Ok done) = 0
status_of (Err r) = number_of r

abbrev pub reply : {A : Type 0} → Result ⊤ Refusal → List A → Reply A
reply a out = answered (status_of a) out

-- ---- an operation that answers with a lone number, or with a yes or a no

-- What such a call comes to: the number of its refusal, or its result.
pub data Outcome (A : Type 0) : Type 0 where
  refused : ℕ → Outcome A
  outcome : A → Outcome A

-- what comes of a result; a refusal stays
abbrev pub and_then : {A B : Type 0} → Outcome A → (A → Outcome B) → Outcome B
and_then (refused k) f = refused k
and_then (outcome x) f = f x

abbrev pub outcome_of : {A : Type 0} → Result A Refusal → Outcome A
outcome_of (Ok x) = outcome x
outcome_of (Err r) = refused (number_of r)

-- What such a call leaves where its result goes through a reference: 0 or the number of its refusal, and what stands there afterwards.
pub record Lone (A : Type 0) : Type 0 where
  pub status : ℕ
  pub value : A

abbrev pub lone : {A : Type 0} → ℕ → A → Lone A
lone n x = record { status = n; value = x }

-- a refusal preserves what was there, in the same sense
abbrev pub put : {A : Type 0} → Outcome A → A → Lone A
put (refused n) before = lone n before
put (outcome x) before = lone 0 x

-- 1 for a yes and 0 for a no
abbrev pub put_verdict : Outcome Bool → ℕ → Lone ℕ
put_verdict (refused n) before = lone n before
put_verdict (outcome true) before = lone 0 1
put_verdict (outcome false) before = lone 0 0

-- the place, and the number of an unused slot for none
abbrev pub put_place : Outcome (Option ℕ) → ℕ → Lone ℕ
put_place (refused n) before = lone n before
put_place (outcome (Some i)) before = lone 0 i
put_place (outcome None) before = lone 0 unused

-- ---- the order of refusals: the first test that fails decides

abbrev pub unless : {A : Type 0} → Bool → A → A → A
unless true refusal rest = rest
unless false refusal rest = refusal

-- a slice has the length of its record
abbrev pub has : {A : Type 0} → ℕ → List A → Bool
has n s = length s == n

-- An operation that leaves a reply once its inputs have their lengths, and out the length n: "1, then 2".
unfoldable pub leaving : {A : Type 0} → Bool → ℕ → Reply A → List A → Reply A
leaving inputs n done out = unless inputs (refuse 1 out) (unless (has n out) (refuse 2 out) done)

-- one that then writes its result into out
abbrev pub writing : {A : Type 0} → Bool → ℕ → List A → List A → Reply A
writing inputs n v out = leaving inputs n (write v) out

-- one that may be refused once more before it writes its result
abbrev pub replied : {A : Type 0} → Outcome (List A) → List A → Reply A
replied (refused k) out = refuse k out
replied (outcome v) out = write v

abbrev pub attempting : {A : Type 0} → Bool → ℕ → Outcome (List A) → List A → Reply A
attempting inputs n o out = leaving inputs n (replied o out) out

-- One whose result comes back in its answer: "where no slice is lent for a result, 2 is skipped".
unfoldable pub answering : {A : Type 0} → Bool → A → Outcome A
answering inputs x = unless inputs (refused 1) (outcome x)
