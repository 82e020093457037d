-- `number::parts::Scaled::root_digits` meets its contract: the laws of `proofs/RootBits.antt`, at what the search found, or beside a power of 4.
-- There the significand is 2 ^ 52 + k, and the whole root of the number searched 2 ^ 53 + k - 1, or it is 2 ^ 53 - k, and the whole root 2 ^ 54 - k - 1: the
-- square of what follows it is beyond the number searched by the square of k. Something is left, except where k is 0, and a half stands for it. Assumes nothing.
use Rattle.std.proofs.Common.{◌≡◌, ℕ, zero, suc, ◌+◌, ◌-◌, ◌*◌, ◌/◌, ◌%◌, ◌^◌, ◌<◌, ◌≤◌, true, ◌&&◌, ltb, sym, ap, ◌∙◌, subst, le_of_lt, mul-le-mul, mul-pos, arith, ltb-true}
use lib.Ieee.Nearest.{closest}
use Rattle.std.specs.Int.{from_bool}
use Rattle.number.specs.declared.root.WholeRoot.{WholeRoot}
use Rattle.number.specs.Root.{root_of, rest_of}
use Rattle.number.specs.Search.{RootFound}
use Rattle.number.proofs.Rounding.{nearest_shift}
use Rattle.number.proofs.RootBits.{shifted, shifted_ge, shifted_lt, halved, small}
use Rattle.number.proofs.RootRounding.{rest_none, rest_some}
use Rattle.number.proofs.Search.{found_root, found_rest}
use Rattle.number.proofs.Tests.{both_hold}
use Rattle.number.proofs.WholeRoot.{root_unique}
use Rattle.number.proofs.parts.Scaled.root_digits.Goals as goal

-- the rounded digits of the root of the number N searched
abbrev digits : ℕ → ℕ
digits N = closest (2 * root_of N + rest_of (root_of N) N) 4

-- by the whole root and the rest, where they are known
at_root : (N r i : ℕ) → root_of N ≡ r → rest_of r N ≡ i → closest (2 * r + i) 4 ≡ digits N
at_root N r i e f = ap (λ (j : ℕ). closest (2 * r + j) 4) (sym f) ∙ ap (λ (j : ℕ). closest (2 * j + rest_of j N) 4) (sym e)

-- a whole root with something left
between : (N r : ℕ) → r * r < N → N < suc r * suc r → suc r / 2 ≡ digits N
between N r l g = half ∙ at_root N r 1 (root_unique N r (le_of_lt l) g) (rest_some r N l)
  where
    half : suc r / 2 ≡ closest (2 * r + 1) 4
    half = sym (sym (nearest_shift (2 * r + 1) 2 (omega arith)) ∙ omega arith)

-- ---- to both sides of a power of 4
-- the square that the bound keeps small
square_most : (k : ℕ) → k ≤ 2 ^ 26 → k * k ≤ 2 ^ 52
square_most k h = mul-le-mul {n₁ = k} {m₁ = k} {n₂ = 2 ^ 26} {m₂ = 2 ^ 26} h h

-- from it on
above : (m k : ℕ) → m ≡ 2 ^ 52 + k → k < 2 ^ 26 → (2 ^ 52 + m) / 2 ≡ digits (m * 2 * 2 ^ 53)
above m zero e h =
    let same : (2 ^ 52 + m) / 2 ≡ 2 ^ 52 = omega arith in
    same ∙ at_root (m * 2 * 2 ^ 53) (2 ^ 53) 0 (root_unique (m * 2 * 2 ^ 53) (2 ^ 53) (omega arith) (omega arith)) (rest_none (2 ^ 53) (m * 2 * 2 ^ 53) (omega arith))
above m (suc k) e h =
    let s = square_most k (omega arith) in
    ap (λ (i : ℕ). i / 2) {x = 2 ^ 52 + m} {y = suc (2 ^ 53 + k)} (omega arith) ∙ between (m * 2 * 2 ^ 53) (2 ^ 53 + k) (omega arith) (omega arith)

-- below it
below : (m k r : ℕ) → m + k ≡ 2 ^ 53 → 0 < k → k < 2 ^ 26 → r + suc k ≡ 2 ^ 54 → (2 ^ 53 + m) / 2 ≡ digits (m * 4 * 2 ^ 53)
below m k r e K h f =
    let s = square_most (suc k) h in
    let z = mul-pos K K in
    let x = squared r (suc k) f in
    let y = squared (suc r) k (omega arith) in
    ap (λ (i : ℕ). i / 2) {x = 2 ^ 53 + m} {y = suc r} (omega arith) ∙ between (m * 4 * 2 ^ 53) r (omega arith) (omega arith)
  where
    -- (2 ^ 54 - s)²
    squared : (r s : ℕ) → r + s ≡ 2 ^ 54 → r * r + 2 ^ 55 * s ≡ 2 ^ 108 + s * s
    squared r s f = let x = ap (λ (i : ℕ). i * i) f in let y = ap (λ (i : ℕ). i * s) f in omega arith

-- that power's significand: an odd scale has it above those of 53 digits
abbrev power : ℕ → ℕ
power o = 2 ^ 52 * 2 ^ o % 2 ^ 64

beside : (m o : ℕ) → 2 ^ 52 ≤ m → m < 2 ^ 53 → o < 2 → power o < m + 2 ^ 26 → m < power o + 2 ^ 26 → (power o + m) / 2 ≡ digits (m * 2 ^ (1 + o) * 2 ^ 53)
beside m zero lo hi h l g = above m (m - 2 ^ 52) (omega arith) (omega arith)
beside m (suc zero) lo hi h l g = below m (2 ^ 53 - m) (2 ^ 53 + m - 1) (omega arith) (omega arith) (omega arith) (omega arith)
beside m (suc (suc o)) lo hi h l g = absurd (omega arith)

-- what the test says
tested : (m u : ℕ) → (ltb u (m + 2 ^ 26) && ltb m (u + 2 ^ 26)) ≡ true → (u < m + 2 ^ 26) × (m < u + 2 ^ 26)
tested m u e =
    let t = both_hold (ltb u (m + 2 ^ 26)) (ltb m (u + 2 ^ 26)) e in
    (ltb-true u (m + 2 ^ 26) t.0, ltb-true m (u + 2 ^ 26) t.1)

-- what the search finds, with the half that stands for the rest
module _ (m w : ℕ) (lo : 2 ^ 52 ≤ m) (hi : m < 2 ^ 53) (r : WholeRoot) (f : RootFound (m * 2 ^ (1 + w % 2) % 2 ^ 64 * 2 ^ 53) r) where
  abbrev searched : ℕ
  searched = m * 2 ^ (1 + w % 2) * 2 ^ 53

  found : 2 * r.root + from_bool r.inexact ≡ 2 * root_of searched + rest_of (root_of searched) searched
  found = halved m w lo hi r.root (from_bool r.inexact) (found_root _ r f, found_rest _ r f)

  found_lt : 2 * r.root + from_bool r.inexact < 2 ^ 55
  found_lt = subst (λ (i : ℕ). i < 2 ^ 55) (sym found) (small m w lo hi)

pub returns-then-square-self : goal.returns-then-square-self
returns-then-square-self c =
    let a = c.args.self in
    let p = c.args.self.digits in
    let t = tested a.significand (power (a.scale % 2)) c.if-square-self.true in
    beside a.significand (a.scale % 2) p.0 p.1 (omega arith) t.0 t.1

-- ---- by the search
pub overflow_add-found : goal.overflow_add-found
overflow_add-found c = omega (arith, found_lt _ _ c.args.self.digits.0 c.args.self.digits.1 _ c.search-found.ensures)

pub search-found-requires : goal.search-found-requires
search-found-requires c =
    let a = c.args.self in
    let p = c.args.self.digits in
    subst (λ (i : ℕ). (2 ^ 53 ≤ i) × (i < 2 ^ 55)) (sym (shifted a.significand a.scale p.0 p.1))
    (shifted_ge a.significand a.scale p.0 p.1, shifted_lt a.significand a.scale p.0 p.1)

pub nearest-requires : goal.nearest-requires
nearest-requires c = (omega arith, omega arith, omega (arith, found_lt _ _ c.args.self.digits.0 c.args.self.digits.1 _ c.search-found.ensures))

pub returns : goal.returns
returns c =
    let r = c.search-found.result in
    c.nearest.ensures ∙ ap (λ (i : ℕ). closest (2 * r.root + i) 4) c.from.ensures
    ∙ ap (λ (i : ℕ). closest i 4) (found _ _ c.args.self.digits.0 c.args.self.digits.1 r c.search-found.ensures)
