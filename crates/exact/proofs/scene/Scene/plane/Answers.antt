-- `plane` meets its contract: four numbers from the place where the plane begins. Assumes nothing.
use mathlib.Core.Path.{◌≡◌}
use Prim.Native.Nat.{◌+◌}
use borrow.Author.Rules.{rules}
use Rattle.whole.specs.SegmentCall.{number_at}
use Rattle.exact.proofs.Reading.{plane_given, plane_read}
use Rattle.exact.proofs.scene.Scene.plane.Goals as goal

pub returns : goal.returns
returns c =
    let s = c.args.self.now in
    let v = s.view.numbers.now in
    let from = c.view_length-from.result in
    let x : c.from.result ≡ number_at v from = search rules in
    let y : c.from-2.result ≡ number_at v (from + 1) = search rules in
    let z : c.from-3.result ≡ number_at v (from + 2) = search rules in
    let d : c.from-4.result ≡ number_at v (from + 3) = search rules in
    plane_read v c.args.i from c.view_length-from.ensures (plane_given v s.bounds.now s.view.count s.constraints c.args.i c.requires) _ _ _ _ x y z d
