-- `Ranges::list` meets its contract: the places stand in front, and what is behind them is unused. Assumes nothing.
use mathlib.Core.Path.{◌≡◌, ap, ◌∙◌}
use mathlib.Core.List.{List, [], ◌++◌, append-nil}
use Prim.Native.Nat.{ℕ, ◌-◌, ◌≤◌}
use native.Mathlib.Omega.{arith}
use borrow.Rule.Slice.PartMut.{put_mid, post_of, Post-is}
use lib.ListN.{length, length-drop, take, drop, replicate}
use lib.Seq.{drop-length, length-take-le}
use lib.Ieee.{Float}
use Rattle.number.specs.Slots.{unused}
use Rattle.matrix.specs.declared.vec.Vec3d.{Vec3d}
use Rattle.nearest.specs.Nearest.{range_count, is_within, places_within}
use Rattle.number.proofs.PlacesBelow.{as_many, no_more}
use Rattle.nearest.proofs.nearest.Ranges.list.Goals as goal

few : (s : List Float) (p : Vec3d) (limit : Float) → length (places_within s p limit) ≤ range_count s
unfolding places_within
few s p limit = omega (arith, as_many (range_count s) (is_within s p limit), no_more (range_count s) (is_within s p limit))

cleared : (out v : List ℕ) (from : ℕ) → from ≤ length out → v ≡ replicate (length (take (length out - from) (drop from out))) unused
    → put_mid from (length out - from) out v ≡ take from out ++ replicate (length out - from) unused
cleared out v from h e =
    let n : length (take (length out - from) (drop from out)) ≡ length out - from =
    length-take-le (length out - from) (drop from out) (omega (arith, length-drop from out)) in
    let rest : post_of from (length out - from) out ≡ [] = Post-is from (length out) out h ∙ drop-length out in
    ap (λ (l : List ℕ). take from out ++ (v ++ l)) rest ∙ ap (λ (l : List ℕ). take from out ++ l) (append-nil v ∙ e ∙ ap (λ (k : ℕ). replicate k unused) n)

pub returns : goal.returns
returns c =
    let f = c.places_within-found in
    let a = c.args in
    let room = f.ensures.2 ∙ c.requires in (
      f.ensures.0,
      cleared f.new.out _ f.result (omega (arith, f.ensures.0, room, few a.self.numbers.now a.p a.limit)) (c.fill.ensures.after (λ y e. e))
          ∙ (λ i. f.ensures.1 i ++ replicate (room i - f.ensures.0 i) unused),
    )
