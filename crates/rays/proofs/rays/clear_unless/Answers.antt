-- `rays::clear_unless` meets its contract: by its test, and five zeros in the place of five numbers. Assumes nothing.
use mathlib.Core.Path.{◌≡◌, sym, ap, ◌∙◌}
use mathlib.Core.Bool.{Bool, false, cond}
use mathlib.Core.List.{List, ◌++◌, append_assoc}
use Prim.Native.Nat.{ℕ, ◌+◌, ◌-◌, ◌≤◌}
use native.Mathlib.Omega.{arith}
use borrow.Author.Tests.{ne_eqb}
use borrow.Rule.Slice.PartMut.{put_mid, Post-is}
use lib.ListN.{length, length-drop, take, drop, replicate}
use lib.Seq.{length-take-le}
use lib.Ieee.{Float}
use Rattle.number.specs.Limits.{hit_length}
use Rattle.matrix.proofs.Literals.{zero_bits}
use Rattle.rays.proofs.rays.clear_unless.Goals as goal

filled : (out v : List Float) (from : ℕ) (z : Float) → from + hit_length ≤ length out → v ≡ replicate (length (take (from + hit_length - from) (drop from out))) z
    → put_mid from (from + hit_length - from) out v ≡ take from out ++ replicate hit_length z ++ drop (from + hit_length) out
filled out v from z h e =
    let k : from + hit_length - from ≡ hit_length = omega arith in
    let n : length (take (from + hit_length - from) (drop from out)) ≡ hit_length =
    length-take-le (from + hit_length - from) (drop from out) (omega (arith, length-drop from out)) ∙ k in
    ap (λ (l : List Float). take from out ++ (v ++ l)) (Post-is from (from + hit_length) out (omega arith))
    ∙ sym (append_assoc (take from out) v (drop (from + hit_length) out))
    ∙ ap (λ (l : List Float). take from out ++ l ++ drop (from + hit_length) out) (e ∙ ap (λ (m : ℕ). replicate m z) n)

chosen : (b : Bool) (x y : List Float) → b ≡ false → y ≡ cond b x y
chosen b x y e = ap (λ (z : Bool). cond z x y) (sym e)

pub returns-then-slot-ne0 : goal.returns-then-slot-ne0
returns-then-slot-ne0 c =
    let a = c.args in
    filled a.out.now _ a.from _ c.requires (c.fill.ensures.after (λ y e. e))
    ∙ ap (λ (z : Float). take a.from a.out.now ++ replicate hit_length z ++ drop (a.from + hit_length) a.out.now) zero_bits
    ∙ chosen _ a.out.now _ (ne_eqb _ _ c.if-slot-ne0.true)
