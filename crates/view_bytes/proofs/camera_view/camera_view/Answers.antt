-- `camera_view` meets its contract: the numbers of a volume have their bytes, and a refusal has its line. Assumes nothing.
use Rattle.std.specs.Prelude.{⊤, Err, Ok, Result}
use mathlib.Core.Path.{◌≡◌, refl, sym, ap, ◌∙◌}
use mathlib.Core.List.{List, flat_map}
use Prim.Native.Nat.{ℕ}
use lib.ListN.{replicate}
use lib.Ieee.{Float, binary64, of_bits}
use Rattle.number.specs.Answer.{reply, number_of}
use Rattle.number.specs.declared.answer.Refusal.{Refusal}
use Rattle.number.specs.declared.answer.Refusal.TheVariants.{InputLength, OutputLength, Kind, Singular, Miss, NotAProjection, OffGrid, NotFinite, Directory, SectionLength, GroupSize, PlaneCount, MissingNumber, InView}
use Rattle.matrix.proofs.Literals.{zero_bits}
use Rattle.farm.specs.Text.{refused_line}
use Rattle.view_bytes.specs.CameraView.{number_bytes, volume_sent, sent_back, camera_view}
use Rattle.view_bytes.proofs.camera_view.camera_view.Goals as goal

-- no refusal has the number 0
line : (r : Refusal) (v : List Float) → refused_line (number_of r) ≡ sent_back (reply (Err r) v)
unfolding sent_back
line InputLength v = refl
line OutputLength v = refl
line Kind v = refl
line Singular v = refl
line Miss v = refl
line NotAProjection v = refl
line OffGrid v = refl
line NotFinite v = refl
line Directory v = refl
line SectionLength v = refl
line GroupSize v = refl
line PlaneCount v = refl
line MissingNumber v = refl
line InView v = refl

-- what was answered and left
module _ (b : List ℕ) (a : Result ⊤ Refusal) (v : List Float) (e : reply a v ≡ volume_sent b (replicate 49 (of_bits binary64 0))) where
  sent : sent_back (reply a v) ≡ camera_view b
  unfolding camera_view
  sent = ap sent_back e ∙ ap (λ (z : Float). sent_back (volume_sent b (replicate 49 z))) zero_bits

  numbers : a ≡ Ok tt → flat_map number_bytes v ≡ camera_view b
  unfolding sent_back
  numbers q = sym (ap (λ (x : Result ⊤ Refusal). sent_back (reply x v)) q) ∙ sent

  refusal : (r : Refusal) → a ≡ Err r → refused_line (number_of r) ≡ camera_view b
  refusal r q = line r v ∙ sym (ap (λ (x : Result ⊤ Refusal). sent_back (reply x v)) q) ∙ sent

pub returns-in-Ok : goal.returns-in-Ok
returns-in-Ok c = c.bytes_of_numbers.ensures ∙ numbers _ _ _ c.volume_sent.ensures c.in-Ok.is

pub returns-in-Err : goal.returns-in-Err
returns-in-Err c = c.refused.ensures ∙ refusal c.args.file.now _ _ c.volume_sent.ensures _ c.in-Err.is
