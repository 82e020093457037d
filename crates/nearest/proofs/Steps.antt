-- The search over ranges, as the code holds it: a place and the squared distance there, or nothing; one range more keeps what is known of it. Assumes nothing.
use Rattle.std.specs.Prelude.{None, Option, Some, ℕ}
use mathlib.Core.Path.{◌≡◌, refl, sym, ap, ◌∙◌}
use mathlib.Core.Bool.{Bool, true, false, not, cond, ◌&&◌, ◌||◌}
use mathlib.Core.List.{List}
use Prim.Native.Nat.{ℕ, ◌+◌}
use native.Mathlib.Omega.{arith}
use lib.Ieee.{Float, lt, ne, is_nan}
use Rattle.number.proofs.Nan.{is_nan_lem}
use Rattle.matrix.specs.Range.{is_empty}
use Rattle.matrix.specs.declared.vec.Vec3d.{Vec3d}
use Rattle.nearest.specs.declared.nearest.Nearest.{Nearest}
use Rattle.nearest.specs.Nearest.{range_count, range_at, distance_at, is_candidate, is_nearer, is_nearest, nearest_of}
use Rattle.nearest.specs.Steps.{nearer, with_range, place_of}
use Rattle.nearest.proofs.First.{Searched, skipped, begun, kept, moved, finds}
use Rattle.nearest.proofs.Distances.{one_way, through}

pub a_nan : (d : Float) → ne d d ≡ true → is_nan d ≡ true
unfolding is_nan
a_nan d h = ap is_nan (is_nan_lem d h)

module _ (s : List Float) (p : Vec3d) where
  -- the number of what is found is the distance there
  abbrev Known : Option Nearest → Type 0
  Known None = Unit {0}
  Known (Some n) = n.distance ≡ distance_at s p n.place

  pub record Held (i : ℕ) (f : Option Nearest) : Type 0 where
    pub known : Known f
    pub searched : Searched (is_candidate s p) (is_nearer s p) i (place_of f)

  pub at_first : Held 0 None
  at_first = record { known = tt; searched = λ j l. absurd (omega arith) }

  -- ---- one range more

  skip : (i : ℕ) (f : Option Nearest) → Held i f → is_candidate s p i ≡ false → Held (i + 1) f
  skip i f h e = record { known = h.known; searched = skipped _ _ (one_way s p) (through s p) i (place_of f) h.searched e }

  abbrev here : ℕ → Nearest
  here i = record { place = i; distance = distance_at s p i }

  -- the range at i is a candidate
  tried : (i : ℕ) (f : Option Nearest) → Held i f → is_candidate s p i ≡ true → Held (i + 1) (nearer f (here i))
  unfolding is_nearer
  tried i None h c = record { known = refl; searched = begun _ _ (one_way s p) (through s p) i h.searched c }
  tried i (Some n) h c = go (lt (distance_at s p i) n.distance) refl
    where
      same : lt (distance_at s p i) n.distance ≡ is_nearer s p i n.place
      same = ap (λ (x : Float). lt (distance_at s p i) x) h.known

      go : (t : Bool) → lt (distance_at s p i) n.distance ≡ t → Held (i + 1) (cond t (Some (here i)) (Some n))
      go true e = record { known = refl; searched = moved _ _ (one_way s p) (through s p) i n.place h.searched c (sym same ∙ e) }
      go false e = record { known = h.known; searched = kept _ _ (one_way s p) (through s p) i n.place h.searched (sym same ∙ e) }

  pub next : (i : ℕ) (f : Option Nearest) → Held i f → Held (i + 1) (with_range f (range_at s i) p i)
  unfolding with_range is_candidate
  next i f h = go (is_empty (range_at s i)) (is_nan (distance_at s p i)) refl refl
    where
      go : (a b : Bool) → is_empty (range_at s i) ≡ a → is_nan (distance_at s p i) ≡ b → Held (i + 1) (cond (a || b) f (nearer f (here i)))
      go true b e g = skip i f h (λ k. not (e k) && not (is_nan (distance_at s p i)))
      go false true e g = skip i f h (λ k. not (e k) && not (g k))
      go false false e g = tried i f h (λ k. not (e k) && not (g k))

  -- ---- at the end

  pub at_last : (f : Option Nearest) → Held (range_count s) f → place_of f ≡ nearest_of s p
  unfolding nearest_of is_nearest
  at_last f h = sym (finds (is_candidate s p) (is_nearer s p) (one_way s p) (through s p) (range_count s) (place_of f) h.searched)
