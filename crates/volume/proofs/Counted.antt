-- How many numbers a volume's record has. Assumes nothing.
use mathlib.Core.Path.{◌≡◌, ap}
use mathlib.Core.List.{List, flat_map}
use lib.ListN.{length}
use lib.Ieee.{Float}
use Rattle.number.specs.Tabulate.{tabulate}
use Rattle.number.specs.Limits.{fewest_planes}
use Rattle.matrix.specs.declared.matrix.Mat4d.{Mat4d}
use Rattle.verdict.specs.View.{volume_length}
use Rattle.volume.specs.Volume.{numbers}

pub count : (m inverse : Mat4d) (s : List Float) → s ≡ numbers m inverse → length s ≡ volume_length fewest_planes
unfolding numbers tabulate flat_map
count m inverse s e = ap length e
