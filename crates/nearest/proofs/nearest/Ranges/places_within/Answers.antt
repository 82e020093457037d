-- `Ranges::places_within` meets its contract: the slots in front hold the places found, and one range more adds its place or none. Assumes nothing.
use mathlib.Core.Path.{◌≡◌, refl, sym, ap, ◌∙◌, subst}
use mathlib.Core.Bool.{Bool, true, false, not, ◌&&◌}
use mathlib.Core.List.{List, [], ◌∷◌, ◌++◌}
use Prim.Native.Nat.{ℕ, suc, ◌+◌, ◌<◌}
use native.Mathlib.Numerals.{add-one}
use native.Mathlib.Omega.{arith}
use native.Mathlib.Nat.{le_refl}
use lib.ListN.{length, length-append, take, set, length-set}
use lib.Seq.{take-suc-set, take-set-le}
use lib.Ieee.{Float, le}
use mir.Val.{bool_byte}
use Rattle.matrix.specs.Range.{is_empty, distance_squared}
use Rattle.matrix.specs.declared.vec.Vec3d.{Vec3d}
use Rattle.matrix.specs.declared.range.Range3d.{Range3d}
use Rattle.number.specs.Places.{places_below}
use Rattle.nearest.specs.Nearest.{range_count, range_at, is_within, places_within}
use Rattle.number.proofs.PlacesBelow.{next_passes, next_fails}
use Rattle.nearest.proofs.nearest.Ranges.places_within.Invariants.{Listed}
use Rattle.nearest.proofs.nearest.Ranges.places_within.Goals as goal

add_zero : (n : ℕ) → n + 0 ≡ n
add_zero n = omega arith

-- one range more
next : (test : ℕ → Bool) (i count found : ℕ) (out : List ℕ) (b : Bool) → Listed test i count found out → i < count → b ≡ test i
    → Listed test (i + 1) count (found + bool_byte b) (set out found i)
next test i count found out b s l e = subst (λ (n : ℕ). Listed test n count (found + bool_byte b) (set out found i)) (sym (add-one i)) (go b e)
  where
    room : length (set out found i) ≡ count
    room = length-set out found i ∙ s.room

    go : (b : Bool) → b ≡ test i → Listed test (suc i) count (found + bool_byte b) (set out found i)
    go true e = record {
      number = ap (λ (n : ℕ). n + 1) s.number ∙ sym (ap length (next_passes i test (sym e)) ∙ length-append (places_below i test) (i ∷ []));
      front = ap (λ (n : ℕ). take n (set out found i)) (add-one found) ∙ take-suc-set out found i (let k = s.few in omega (arith, s.room)) ∙ ap (λ (m : List ℕ). m ++ (i ∷ [])) s.front ∙ sym (next_passes i test (sym e));
      few = let k = s.few in omega arith;
      room = room;
    }
    go false e = record {
      number = add_zero found ∙ s.number ∙ sym (ap length (next_fails i test (sym e)));
      front = ap (λ (n : ℕ). take n (set out found i)) (add_zero found) ∙ take-set-le found out found i (le_refl found) ∙ s.front ∙ sym (next_fails i test (sym e));
      few = let k = s.few in omega arith;
      room = room;
    }

within_at : (s : List Float) (p : Vec3d) (limit : Float) (i : ℕ) (r : Range3d) → r ≡ range_at s i
    → (not (is_empty r) && le (distance_squared r p) limit) ≡ is_within s p limit i
unfolding is_within
within_at s p limit i r e = ap (λ (r : Range3d). not (is_empty r) && le (distance_squared r p) limit) e

all_passed : (s : List Float) (p : Vec3d) (limit : Float) (i count found : ℕ) (out : List ℕ) → i ≡ range_count s → Listed (is_within s p limit) i count found out
    → (found ≡ length (places_within s p limit)) × (take found out ≡ places_within s p limit) × (length out ≡ count)
unfolding places_within
all_passed s p limit i count found out e h =
    let same : places_below i (is_within s p limit) ≡ places_below (range_count s) (is_within s p limit) = ap (λ (n : ℕ). places_below n (is_within s p limit)) e in
    (h.number ∙ ap length same, h.front ∙ same, h.room)

pub loop-i-init : goal.loop-i-init
unfolding places_below
loop-i-init c = record { number = refl; front = refl; few = omega arith; room = refl }

pub loop-i-preserved : goal.loop-i-preserved
loop-i-preserved c =
    let l = c.loop-i in
    let a = c.args in
    subst (λ (b : ℕ). Listed (is_within a.self.numbers.now a.p a.limit) (l.i + 1) (length a.out.now) (l.found + b) (set l.out l.found l.i)) (sym c.from-found.ensures)
    (next _ l.i _ l.found l.out c.is_within.result l.invariant (omega (arith, c.requires.0, c.requires.1)) (c.is_within.ensures ∙ within_at a.self.numbers.now a.p a.limit l.i _ c.range.ensures))

pub returns : goal.returns
returns c =
    let l = c.loop-i in
    let a = c.args in
    all_passed a.self.numbers.now a.p a.limit l.i (length a.out.now) l.found l.out (omega (arith, c.requires.0)) l.invariant
