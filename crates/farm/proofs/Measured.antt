-- The volume of a file that has passed the checks of its directory, of its count of planes and of its sizes. Assumes nothing.
use mathlib.Core.Path.{◌≡◌, refl, sym, ap, ◌∙◌}
use mathlib.Core.List.{List}
use Prim.Native.Nat.{ℕ, ◌/◌, ◌≤◌}
use native.Mathlib.Omega.{arith}
use lib.ListN.{length}
use lib.Ieee.{Float}
use Rattle.number.specs.Limits.{fewest_planes, most_planes}
use Rattle.number.specs.Answer.{outcome}
use Rattle.number.specs.Slice.{at}
use Rattle.number.specs.Bytes.{f64_at}
use Rattle.number.proofs.Words.{as_many, number_at_lem}
use Rattle.verdict.specs.View.{volume_length, plane_count_of, planes_held}
use Rattle.verdict.proofs.PlaneCount.{a_count, count_within}
use Rattle.verdict.proofs.PlanesHeld.{all_held}
use Rattle.farm.specs.Directory.{volume_section, numbers_of}
use Rattle.farm.specs.FarmFile.{count_number, plane_count}
use Rattle.farm.specs.Steps.{Measured}
use Rattle.farm.proofs.Placed.{volume_sized}

module _ (b : List ℕ) (r : Measured b) where
  abbrev volume : List Float
  volume = numbers_of b (volume_section b)

  said : outcome (plane_count b) ≡ plane_count_of (count_number b)
  said = a_count (count_number b) (plane_count b) r.count refl

  pub within : (fewest_planes ≤ plane_count b) × (plane_count b ≤ most_planes)
  within = count_within (count_number b) (plane_count b) (sym said)

  volume_numbers : (volume_section b).size / 8 ≡ volume_length (plane_count b)
  volume_numbers = let e = volume_sized b r.sizes in omega (arith, e)

  pub volume_length_lem : length volume ≡ volume_length (plane_count b)
  volume_length_lem = as_many b _ _ ∙ volume_numbers

  count_first : at volume 0 ≡ count_number b
  count_first =
      number_at_lem b (volume_section b).offset ((volume_section b).size / 8) 0 (omega (arith, volume_numbers))
      ∙ ap (f64_at b) (omega arith)

  -- the record holds the planes that its count says
  pub held : outcome (plane_count b) ≡ planes_held volume
  held =
      all_held volume (omega (arith, volume_length_lem, within)) (plane_count b)
      (said ∙ ap plane_count_of (sym count_first)) volume_length_lem
