-- `load_section` meets its contract by what it calls: the room takes the section. Assumes nothing.
use mathlib.Core.Path.{◌≡◌, sym, ap}
use Prim.Native.Nat.{ℕ, ◌/◌, ◌≤◌}
use native.Mathlib.Omega.{arith}
use lib.Seq.{length-take-le}
use Rattle.farm.specs.declared.directory.Section.{Section}
use Rattle.farm.proofs.Rooms.{section_loaded}
use Rattle.farm.proofs.directory.Directory.load_section.Goals as goal

abbrev many : Section → ℕ
many s = s.size / 8

fits : (s t : Section) (n : ℕ) → s ≡ t → many t ≤ n → many s ≤ n
fits s t n q h = omega (arith, h, ap many q)

pub slice_bounds-load-end : goal.slice_bounds-load-end
slice_bounds-load-end c =
    fits _ _ _ c.section-found.ensures c.requires.1

pub slice_bounds-load-end-2 : goal.slice_bounds-load-end-2
slice_bounds-load-end-2 c =
    sym (length-take-le _ c.args.room.now (fits _ _ _ c.section-found.ensures c.requires.1))

pub returns : goal.returns
returns c =
    let g = c.args in
    let q = c.section-found.ensures in
    (ap many q, section_loaded g.self.now.file.now g.self.now.formed g.i c.requires.0 _ q g.room.now (fits _ _ _ q c.requires.1) _ c.load.ensures)
