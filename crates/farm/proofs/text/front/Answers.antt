-- `text::front` meets its contract: bytes that are no more than asked are their own front. Assumes nothing.
use mathlib.Core.Path.{◌≡◌, refl, sym}
use mathlib.Core.List.{List}
use Prim.Native.Nat.{ℕ, ◌<◌}
use native.Mathlib.Omega.{arith}
use lib.ListN.{length, take}
use lib.Seq.{length-take-le, take_all}
use Rattle.farm.proofs.text.front.Goals as goal

whole : (s : List ℕ) (n : ℕ) → length s < n → s ≡ take n s
whole s n h = sym (take_all n s (omega (arith, h)))

pub returns-then-bytes-size : goal.returns-then-bytes-size
returns-then-bytes-size c = whole _ _ c.if-bytes-size.true

pub slice_bounds-result-end : goal.slice_bounds-result-end
slice_bounds-result-end c = sym (length-take-le _ _ (omega (arith, c.if-bytes-size.false)))

pub returns : goal.returns
returns c = refl
