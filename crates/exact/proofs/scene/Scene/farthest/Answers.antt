-- `farthest` meets its contract: along each axis the coordinate that is picked. Assumes nothing.
use Rattle.exact.proofs.Farthest.{farthest_read}
use Rattle.exact.proofs.scene.Scene.farthest.Goals as goal

pub returns : goal.returns
returns c =
    let s = c.args.self.now in
    farthest_read s.bounds.now s.box_on_grid c.args.normal c.requires _ _ _ c.pick.ensures c.pick-2.ensures c.pick-3.ensures
