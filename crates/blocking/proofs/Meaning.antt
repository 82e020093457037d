-- What the answers mean (`specs/Meaning.antt`): a search from place to place ends with the first that passes, or nowhere. Assumes nothing.
use Rattle.std.specs.Prelude.{None, Option, Some, ℕ}
use mathlib.Core.Path.{◌≡◌, sym, subst}
use mathlib.Core.List.{List}
use Prim.Native.Nat.{ℕ}
use lib.Dec.{T}
use lib.ListN.{length}
use lib.Ieee.Bits.{is_true}
use Rattle.number.proofs.Comparisons.{refuted}
use Rattle.number.proofs.PlacesBelow.{First, IsFirst, finds, is_first}
use Rattle.matrix.specs.declared.vec.Vec3d.{Vec3d}
use Rattle.verdict.specs.declared.plane.Plane.{Plane}
use Rattle.blocking.specs.Blocking.{seen_without, blocking_plane}
use Rattle.blocking.specs.Meaning.{IsBlocking, BlockingMeans, NoneMeans}

module _ (ps : List Plane) (a b : Vec3d) where
  known : (f : Option ℕ) → blocking_plane ps a b ≡ f → IsFirst (seen_without ps a b) (length ps) f
  unfolding blocking_plane
  known f e = subst (IsFirst (seen_without ps a b) (length ps)) e (is_first (seen_without ps a b) (length ps))

  is_found : (f : Option ℕ) → IsFirst (seen_without ps a b) (length ps) f → blocking_plane ps a b ≡ f
  unfolding blocking_plane
  is_found f h = finds (seen_without ps a b) (length ps) f h

  told : (i : ℕ) → First (seen_without ps a b) (length ps) i → IsBlocking ps a b i
  told i h = record { place = h.place; seen = subst T (sym h.passes) tt; lowest = λ j l t. subst T (h.before j l) t }

  first : (i : ℕ) → IsBlocking ps a b i → First (seen_without ps a b) (length ps) i
  first i h = record { place = h.place; passes = is_true (seen_without ps a b i) h.seen; before = λ j l. refuted (seen_without ps a b j) (h.lowest j l) }

pub blocking_means : BlockingMeans
blocking_means ps a b i = (λ e. told ps a b i (known ps a b (Some i) e), λ h. is_found ps a b (Some i) (first ps a b i h))

pub none_means : NoneMeans
none_means ps a b = (λ e i l t. subst T (known ps a b None e i l) t, λ h. is_found ps a b None (λ i l. refuted (seen_without ps a b i) (h i l)))
