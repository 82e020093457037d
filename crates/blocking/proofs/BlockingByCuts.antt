-- The blocking plane is the first without which the cuts leave some of the segment. Assumes nothing.
use mathlib.Core.Path.{◌≡◌, sym, ◌∙◌}
use Prim.Native.Nat.{ℕ}
use Rattle.number.specs.Places.{places_below, first_of}
use Rattle.number.specs.Tabulate.{tabulate}
use Rattle.number.proofs.Tabulate.{as_many}
use Rattle.matrix.specs.declared.vec.Vec3d.{Vec3d}
use Rattle.verdict.specs.declared.plane.Plane.{Plane}
use Rattle.blocking.specs.Blocking.{without, seen_without, blocking_plane}
use Rattle.blocking.specs.Steps.{cut_at_start, cut_at_end, furthest_without, cut_below, cuts_below, leave_without}
use Rattle.blocking.proofs.Reached.{reaches}
use Rattle.blocking.proofs.Furthest.{held}
use Rattle.blocking.proofs.Without.{every_other}
use Rattle.blocking.proofs.SpanByCuts.{segment_by_cuts}

module _ (f : ℕ → Plane) (a b : Vec3d) (n : ℕ) where
  seen_without_lem : (j : ℕ) → seen_without (tabulate f n) a b j ≡ leave_without (cuts_below f a b n) j
  unfolding seen_without
  seen_without_lem j =
      segment_by_cuts a b (without j (tabulate f n)) (furthest_without (cut_below (λ i. cut_at_start a b (f i)) n) j) (furthest_without (cut_below (λ i. cut_at_end a b (f i)) n) j)
      (λ z. (held (λ i. cut_at_start a b (f i)) n).reached j z ∙ sym (every_other (λ p. reaches z (cut_at_start a b p)) f n j))
      (λ z. (held (λ i. cut_at_end a b (f i)) n).reached j z ∙ sym (every_other (λ p. reaches z (cut_at_end a b p)) f n j))

  pub blocking_by_cuts : blocking_plane (tabulate f n) a b ≡ first_of (places_below n (leave_without (cuts_below f a b n)))
  unfolding blocking_plane
  blocking_by_cuts = λ i. first_of (places_below (as_many f n i) (λ j. seen_without_lem j i))
