-- `Range3d::store_corners` meets its contract: the two parts stored are the numbers of the corners. Assumes nothing.
use mathlib.Core.Path.{◌≡◌, refl, sym, ap, ◌∙◌}
use mathlib.Core.List.{List, [], ◌∷◌, ◌++◌}
use Prim.Native.Nat.{◌+◌}
use lib.ListN.{length}
use lib.Ieee.{Float}
use Rattle.number.specs.Slice.{at, stored, stored_at}
use Rattle.number.proofs.Stores.{other_length, same_room, in_two_parts}
use Rattle.matrix.specs.declared.vec.Vec3d.{Vec3d}
use Rattle.matrix.specs.Vec.{vec3}
use Rattle.matrix.specs.Range.{range_of, range, corners}
use Rattle.matrix.proofs.range.Range3d.store_corners.Goals as goal

module _ (x y z : Float) (max : Vec3d) where
  abbrev others : List Float
  others =
      x ∷ y ∷ z ∷ max.x ∷ y ∷ z ∷ x ∷ max.y ∷ z ∷ max.x ∷ max.y ∷ z
      ∷ x ∷ y ∷ max.z ∷ max.x ∷ y ∷ max.z ∷ x ∷ max.y ∷ []

  abbrev last : List Float
  last = max.z ∷ max.x ∷ max.y ∷ max.z ∷ []

  parts : others ++ last ≡ corners (range (record { x = x; y = y; z = z }) max) 8
  unfolding corners
  parts = refl

other_room : (s out : List Float) → (length out ≡ 24 → ⊥) → out ≡ stored (corners (range_of s) 8) out
unfolding corners
other_room s out n = sym (other_length (corners (range_of s) 8) out (λ e. n (sym e)))

filled : (s out first second : List Float) (x y z : Float) (max : Vec3d) → length out ≡ 24
    → z ≡ at s 2 → max ≡ vec3 (λ i. at s (3 + i)) → first ≡ stored_at (last x y z max) 20 out
    → x ≡ at s 0 → y ≡ at s 1 → second ≡ stored_at (others x y z max) 0 first → second ≡ stored (corners (range_of s) 8) out
unfolding corners
filled s out first second x y z max e c m p a b q =
    q ∙ ap (stored_at (others x y z max) 0) p ∙ in_two_parts (others x y z max) (last x y z max) out (sym e)
    ∙ parts x y z max ∙ rw (a, b, c, m) (sym (same_room (corners (range_of s) 8) out (sym e)))

pub returns-then-out-ne-CORNERS_LENGTH : goal.returns-then-out-ne-CORNERS_LENGTH
returns-then-out-ne-CORNERS_LENGTH c =
    let given = c.args in
    other_room given.s.now given.out.now c.if-out-ne-CORNERS_LENGTH.true

pub returns : goal.returns
returns c =
    let given = c.args in
    filled given.s.now given.out.now _ _ _ _ _ _ c.if-out-ne-CORNERS_LENGTH.false c.at-z.ensures c.load_at-max.ensures c.store_at.ensures
    c.at-x.ensures c.at-y.ensures c.store_at-2.ensures
