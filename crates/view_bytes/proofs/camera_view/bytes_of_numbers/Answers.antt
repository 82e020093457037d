-- `bytes_of_numbers` meets its contract: the bytes of a number more, and room for all. Assumes nothing.
use mathlib.Core.Path.{◌≡◌, sym, ap, subst, ◌∙◌}
use mathlib.Core.List.{List, []}
use Prim.Native.Nat.{ℕ}
use native.Mathlib.Omega.{arith}
use lib.ListN.{length, take}
use lib.Seq.{take-length}
use Rattle.farm.specs.Text.{Added}
use Rattle.farm.proofs.Texts.{none_added, added_then, added_meant, whole}
use Rattle.view_bytes.proofs.NumberBytes.{bytes, are_bytes, as_many, next, none}
use Rattle.view_bytes.proofs.camera_view.bytes_of_numbers.Goals as goal

pub loop-x-init : goal.loop-x-init
loop-x-init c = added_meant [] _ (none c.args.numbers.now) (subst (λ (t : List ℕ). Added [] [] t) (sym c.new-text.ensures) (none_added []))

pub loop-x-preserved : goal.loop-x-preserved
loop-x-preserved c =
    let s = c.args.numbers.now in
    added_meant _ _ (next s c.loop-x.x-index (omega arith))
    (added_then c.loop-x.invariant (added_meant _ _ (c.to_le_bytes.ensures ∙ are_bytes _ _ (omega (arith, c.to_bits-bits.ensures))) c.push.ensures.added))

pub returns : goal.returns
returns c =
    let s = c.args.numbers.now in
    let e : c.loop-x.x-index ≡ length s = omega arith in
    whole (added_meant _ _ (ap (λ (n : ℕ). bytes (take n s)) e ∙ ap bytes (take-length s)) c.loop-x.invariant) (omega (arith, as_many s, c.requires))
