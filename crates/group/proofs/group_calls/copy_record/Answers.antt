-- `copy_record` meets its contract: a number more, and at the end all. Assumes nothing.
use Rattle.std.proofs.Common.{◌≡◌, ℕ, ◌+◌, ◌<◌, ◌≤◌, List, ◌++◌, length, get_or, take, drop, set, sym, refl, ap, ◌∙◌, add-one, arith, length-set, take_all, drop_of_length-le, append-nil}
use lib.Seq.{paste, paste-zero, paste-suc}
use lib.Ieee.{Float, nan}
use Rattle.group.proofs.group_calls.copy_record.Goals as goal

turn : (from out₀ out : List Float) (i : ℕ) → i < length from → i < length out₀ → out ≡ paste out₀ 0 from i → set out i (get_or from i nan) ≡ paste out₀ 0 from (i + 1)
turn from out₀ out i h k e =
    let here : i ≡ 0 + i = omega arith in
    ap (λ (n : ℕ). set out n (get_or from i nan)) here ∙ ap (λ (l : List Float). set l (0 + i) (get_or from i nan)) e ∙ paste-suc out₀ 0 from i nan (omega (arith, k)) h
    ∙ ap (paste out₀ 0 from) (sym (add-one i))

whole : (from out₀ out : List Float) (i : ℕ) → length from ≡ length out₀ → i ≡ length from → out ≡ paste out₀ 0 from i → out ≡ from
whole from out₀ out i h k e =
    e ∙ ap (paste out₀ 0 from) k ∙ ap (λ (l : List Float). l ++ drop (0 + length from) out₀) (take_all (length from) from (omega arith))
    ∙ ap (λ (l : List Float). from ++ l) (drop_of_length-le out₀ {i = 0 + length from} (omega (arith, h))) ∙ append-nil from

pub loop-i-init : goal.loop-i-init
loop-i-init c = (paste-zero c.args.to.now 0 c.args.from.now, refl)

pub loop-i-preserved : goal.loop-i-preserved
loop-i-preserved c =
    let l = c.loop-i in
    (turn _ _ l.to l.i (omega (arith, c.requires.0)) (omega (arith, c.requires.1)) l.invariant.0, simp length-set l.invariant.1)

pub returns : goal.returns
returns c =
    let l = c.loop-i in
    let g = c.args in
    whole g.from.now g.to.now l.to l.i (omega (arith, c.requires.0, c.requires.1)) (omega (arith, c.requires.0)) l.invariant.0
