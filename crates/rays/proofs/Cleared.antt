-- Zeros for each miss, ray by ray: what is in front and what is left to clear make all. Assumes nothing.
use mathlib.Core.Path.{◌≡◌, refl, sym, ap, ◌∙◌}
use mathlib.Core.Bool.{Bool, true, false, cond}
use mathlib.Core.List.{List, ◌++◌, append-nil, append_assoc}
use Prim.Native.Nat.{ℕ, suc, ◌+◌, ◌*◌, ◌<◌, ◌≤◌}
use native.Mathlib.Numerals.{add-one}
use native.Mathlib.Nat.{mul-le-mul_right}
use native.Mathlib.Omega.{arith}
use lib.Dec.{eqb}
use lib.ListN.{length, length-append, length-drop, take, drop, get_or, drop_of_length-le}
use lib.Seq.{length-take-le, take_all, take_at, drop_at, take-add, drop-drop, drop-cons}
use lib.Ieee.{Float}
use Rattle.number.specs.Limits.{hit_length}
use Rattle.rays.specs.Rays.{no_hit}
use Rattle.rays.specs.Steps.{cleared}

abbrev pub all_cleared : List ℕ → List Float → ℕ → List Float
all_cleared slots out i = take (i * hit_length) out ++ cleared (drop i slots) (drop (i * hit_length) out)

-- with zeros at the place of ray i
abbrev pub zeroed : List Float → ℕ → List Float
zeroed out i = take (i * hit_length) out ++ no_hit ++ drop (i * hit_length + hit_length) out

front_length : (out : List Float) (i : ℕ) → i * hit_length + hit_length ≤ length out → length (take (i * hit_length) out ++ no_hit) ≡ (i + 1) * hit_length
front_length out i h = omega (arith, length-append (take (i * hit_length) out) no_hit, length-take-le (i * hit_length) out (omega arith))

pub left_length : (out : List Float) (i : ℕ) (b : Bool) → i * hit_length + hit_length ≤ length out → length (cond b out (zeroed out i)) ≡ length out
left_length out i true h = refl
left_length out i false h =
    omega (arith, length-append (take (i * hit_length) out ++ no_hit) (drop (i * hit_length + hit_length) out), front_length out i h, length-drop (i * hit_length + hit_length) out)

step : (ks : List ℕ) (out : List Float) (i : ℕ) (b : Bool) → i * hit_length + hit_length ≤ length out
    → take ((i + 1) * hit_length) (cond b out (zeroed out i)) ++ cleared ks (drop ((i + 1) * hit_length) (cond b out (zeroed out i)))
    ≡ take (i * hit_length) out ++ (cond b (take hit_length (drop (i * hit_length) out)) no_hit ++ cleared ks (drop hit_length (drop (i * hit_length) out)))
step ks out i true h =
    let e : (i + 1) * hit_length ≡ i * hit_length + hit_length = omega arith in
    (λ t. take (e t) out ++ cleared ks (drop (e t) out))
    ∙ (λ t. take-add (i * hit_length) hit_length out t ++ cleared ks (sym (drop-drop hit_length (i * hit_length) out) t))
    ∙ append_assoc (take (i * hit_length) out) (take hit_length (drop (i * hit_length) out)) (cleared ks (drop hit_length (drop (i * hit_length) out)))
step ks out i false h =
    let front = take (i * hit_length) out ++ no_hit in
    let back = drop (i * hit_length + hit_length) out in
    (λ t. take_at front back ((i + 1) * hit_length) (front_length out i h) t ++ cleared ks ((drop_at front back ((i + 1) * hit_length) (front_length out i h) ∙ sym (drop-drop hit_length (i * hit_length) out)) t))
    ∙ append_assoc (take (i * hit_length) out) no_hit (cleared ks (drop hit_length (drop (i * hit_length) out)))

pub one_cleared : (slots : List ℕ) (out : List Float) (i : ℕ) → i < length slots → i * hit_length + hit_length ≤ length out
    → all_cleared slots (cond (eqb (get_or slots i 0) 0) out (zeroed out i)) (i + 1) ≡ all_cleared slots out i
one_cleared slots out i h g =
    let k = get_or slots i 0 in
    ap (λ (j : ℕ). take ((i + 1) * hit_length) (cond (eqb k 0) out (zeroed out i)) ++ cleared (drop j slots) (drop ((i + 1) * hit_length) (cond (eqb k 0) out (zeroed out i)))) (add-one i)
    ∙ step (drop (suc i) slots) out i (eqb k 0) g
    ∙ sym (ap (λ (ks : List ℕ). take (i * hit_length) out ++ cleared ks (drop (i * hit_length) out)) (drop-cons slots i 0 h))

pub all_passed : (slots : List ℕ) (out : List Float) (i : ℕ) → length out ≡ length slots * hit_length → length slots ≤ i → out ≡ all_cleared slots out i
all_passed slots out i room h =
    sym
    (ap (λ (ks : List ℕ). take (i * hit_length) out ++ cleared ks (drop (i * hit_length) out)) (drop_of_length-le slots {i = i} h) ∙ append-nil (take (i * hit_length) out)
    ∙ take_all (i * hit_length) out (omega (arith, room, mul-le-mul_right hit_length h)))
