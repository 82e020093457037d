-- `intersects_bbox` meets its contract: what the checks refuse, and what the search leaves. Assumes nothing.
use mathlib.Core.Path.{◌∙◌}
use mathlib.Core.List.{[], ◌∷◌}
use lib.Dec.{lit≤}
use lib.ListN.{length}
use Rattle.exact.proofs.Machine.{known}
use Rattle.exact.proofs.Calls.{passed, decided, none_shares, it_shares}
use Rattle.exact.proofs.bbox.intersects_bbox.Goals as goal

pub returns-then-not-reaches : goal.returns-then-not-reaches
returns-then-not-reaches c =
    let w = c.args.witness.now in
    let s = c.in_ok-scene.scene in
    let h = c.in_ok-scene.ensures in
    decided c.args.view.now c.args.bounds.now w w s.view.count _ h.2 _ _ h.0 h.1
    (none_shares s.view.numbers.now s.bounds.now w s.view.count (c.reaches.ensures c.if-not-reaches.true))

pub returns-in_default : goal.returns-in_default
returns-in_default c =
    let w = c.args.witness.now in
    let s = c.in_ok-scene.scene in
    let h = c.in_ok-scene.ensures in
    decided c.args.view.now c.args.bounds.now w w s.view.count _ h.2 _ _ h.0 h.1
    (none_shares s.view.numbers.now s.bounds.now w s.view.count c.in_default.ensures)

pub copy_from_slice-requires : goal.copy_from_slice-requires
copy_from_slice-requires c =
    let a = c.args in
    (passed a.view.now a.bounds.now (length a.witness.now) c.in_ok-scene.scene.view.count c.in_ok-scene.ensures.2).roomy

pub returns : goal.returns
returns c =
    let w = c.args.witness.now in
    let s = c.in_ok-scene.scene in
    let h = c.in_ok-scene.ensures in
    let p = c.in-Some.p in
    let f = c.in-Some.ensures in
    let x = (known (lit≤ tt) p.numbers.x f.small.numbers.x).is in
    let y = (known (lit≤ tt) p.numbers.y f.small.numbers.y).is in
    let z = (known (lit≤ tt) p.numbers.z f.small.numbers.z).is in
    let k = (known (lit≤ tt) p.k f.small.k).is in
    decided c.args.view.now c.args.bounds.now w _ s.view.count _ h.2 _ _ h.0 h.1
    (it_shares s.view.numbers.now s.bounds.now w s.view.count p f _ (c.copy_from_slice.ensures.after ∙ (λ t. x t ∷ y t ∷ z t ∷ k t ∷ [])))
