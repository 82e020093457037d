-- `face` meets its contract: a face at a least coordinate, and one at a greatest. Assumes nothing.
use mathlib.Core.Path.{◌≡◌, ◌∙◌}
use Prim.Native.Nat.{◌-◌}
use native.Mathlib.Omega.{arith}
use borrow.Author.Rules.{rules}
use Rattle.whole.specs.SegmentCall.{number_at}
use Rattle.exact.proofs.Reading.{lower_read, upper_read, face_given, along_is, against_is}
use Rattle.exact.proofs.scene.Scene.face.Goals as goal

pub returns-then-i-lt3 : goal.returns-then-i-lt3
returns-then-i-lt3 c =
    let s = c.args.self.now in
    let i = c.args.i in
    let d : c.from-at.result ≡ number_at s.bounds.now i = search rules in
    lower_read s.bounds.now i (face_given s.view.numbers.now s.bounds.now s.view.count s.constraints i c.requires) c.axis.result c.from-at.result d c.if-i-lt3.true
    (c.axis.ensures ∙ along_is i c.if-i-lt3.true)

pub returns : goal.returns
returns c =
    let s = c.args.self.now in
    let i = c.args.i in
    let d : c.from-at.result ≡ number_at s.bounds.now i = search rules in
    upper_read s.bounds.now i (face_given s.view.numbers.now s.bounds.now s.view.count s.constraints i c.requires) c.axis-2.result c.from-at.result d c.if-i-lt3.false
    (c.axis-2.ensures ∙ against_is (i - 3) (omega arith))
