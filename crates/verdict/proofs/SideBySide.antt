-- Planes held in rows: those of a record that was gathered into them, one plane more, and what follows for the verdicts. Assumes nothing.
use Rattle.std.proofs.Common.{◌≡◌, ℕ, zero, suc, ◌+◌, ◌<◌, ◌≤◌, Bool, true, List, length, set, replicate, sym, refl, ap, ◌∙◌, subst, ⊎_elim, eq-or-lt_of_le, add-one, arith, length-set, get_or-set_other, get_or-set_same, eq-eqb}
use lib.ListN.{length-replicate}
use lib.Ieee.{Float, binary64, nan, of_bits}
use Rattle.number.specs.Limits.{plane_length, most_planes}
use Rattle.number.specs.Answer.{Outcome, refused, outcome, unless, has}
use Rattle.number.specs.Slice.{at}
use Rattle.number.proofs.Tabulate.{same_values}
use Rattle.verdict.specs.declared.plane.Plane.{Plane}
use Rattle.verdict.specs.Plane.{plane}
use Rattle.verdict.specs.View.{plane_start, plane_at, planes_of, planes_held}
use Rattle.verdict.specs.Rows.{rows_length, row_place, InRows, with_plane, with_planes, rows_loaded, plane_in_rows, planes_in_rows}
use Rattle.verdict.specs.Frustum.{point_in_view, segment_in_view, triangle_in_view, box_in_view}
use Rattle.verdict.specs.SideBySide.{EveryPlace, PlanesEqual, SameVerdicts, VerdictsAgree, BeyondUnread}
use Rattle.verdict.proofs.PlanesHeld.{held}

-- a number of the first row stands at the plane's own place
pub first_row : (i : ℕ) → row_place 0 i ≡ i
first_row i = omega arith

-- ---- planes with the same numbers

-- number j of a plane that f gives by its four
abbrev numbered : (ℕ → Float) → Plane
numbered f = plane (record { x = f 0; y = f 1; z = f 2 }) (f 3)

same_plane : (f g : ℕ → Float) → ((j : ℕ) → j < plane_length → f j ≡ g j) → numbered f ≡ numbered g
same_plane f g h =
    let x = h 0 (omega arith) in
    let y = h 1 (omega arith) in
    let z = h 2 (omega arith) in
    let d = h 3 (omega arith) in
    λ t. plane (record { x = x t; y = y t; z = z t }) (d t)

pub planes_equal : PlanesEqual
unfolding InRows
planes_equal v l n i h below = same_plane (λ j. at l (row_place j i)) (λ j. at v (plane_start i + j)) (λ j. h i j below)

planes_in_lem : (v l : List Float) (n : ℕ) → InRows v n l → planes_in_rows l n ≡ planes_of v n
planes_in_lem v l n h = same_values (plane_in_rows l) (plane_at v) n (λ i below. planes_equal v l n i h below)

-- ---- the verdicts

one_answer : (ps qs : List Plane) → ps ≡ qs → SameVerdicts ps qs
one_answer ps qs e = record {
  point = λ p. ap (λ (l : List Plane). point_in_view l p) e;
  segment = λ a b. ap (λ (l : List Plane). segment_in_view l a b) e;
  triangle = λ rs a b c. ap (λ (l : List Plane). triangle_in_view l rs a b c) e;
  box = λ b. ap (λ (l : List Plane). box_in_view l b) e;
}

pub verdicts_agree : VerdictsAgree
verdicts_agree v l n h = one_answer (planes_in_rows l n) (planes_of v n) (planes_in_lem v l n h)

pub beyond_unread : BeyondUnread
beyond_unread l k n h =
    one_answer (planes_in_rows l n) (planes_in_rows k n)
    (same_values (plane_in_rows l) (plane_in_rows k) n (λ i below. same_plane (λ j. at l (row_place j i)) (λ j. at k (row_place j i)) (λ j. h i j below)))

-- ---- one plane more: its four numbers are stored, each in its row

-- number j of a plane
abbrev part : Plane → ℕ → Float
part p zero = p.normal.x
part p (suc zero) = p.normal.y
part p (suc (suc zero)) = p.normal.z
part p (suc (suc (suc j))) = p.distance

part_at : (v : List Float) (i j : ℕ) → j < plane_length → part (plane_at v i) j ≡ at v (plane_start i + j)
part_at v i zero h = refl
part_at v i (suc zero) h = refl
part_at v i (suc (suc zero)) h = refl
part_at v i (suc (suc (suc zero))) h = refl
part_at v i (suc (suc (suc (suc j)))) h = absurd (omega arith)

module _ (l : List Float) (i : ℕ) (p : Plane) where
  abbrev with_x : List Float
  with_x = set l i p.normal.x

  abbrev with_y : List Float
  with_y = set with_x (row_place 1 i) p.normal.y

  abbrev with_z : List Float
  with_z = set with_y (row_place 2 i) p.normal.z

  abbrev with_plane_lem : List Float
  with_plane_lem = with_plane l i p

  same_room : length with_plane_lem ≡ length l
  same_room =
      length-set with_z (row_place 3 i) p.distance ∙ length-set with_y (row_place 2 i) p.normal.z
      ∙ length-set with_x (row_place 1 i) p.normal.y ∙ length-set l i p.normal.x

  -- what stands elsewhere
  kept : (q : ℕ) → ((j : ℕ) → j < plane_length → q ≡ row_place j i → ⊥) → at with_plane_lem q ≡ at l q
  kept q other =
      get_or-set_other with_z (row_place 3 i) q p.distance nan (other 3 (omega arith)) ∙ get_or-set_other with_y (row_place 2 i) q p.normal.z nan (other 2 (omega arith))
      ∙ get_or-set_other with_x (row_place 1 i) q p.normal.y nan (other 1 (omega arith)) ∙ get_or-set_other l i q p.normal.x nan (λ e. other 0 (omega arith) (omega (arith, e)))

  module _ (room : length l ≡ rows_length) (fits : i < most_planes) where
    own : (j : ℕ) → j < plane_length → at with_plane_lem (row_place j i) ≡ part p j
    own zero h =
        ap (at with_plane_lem) (first_row i)
        ∙ get_or-set_other with_z (row_place 3 i) i p.distance nan (λ e. omega arith)
        ∙ get_or-set_other with_y (row_place 2 i) i p.normal.z nan (λ e. omega arith)
        ∙ get_or-set_other with_x (row_place 1 i) i p.normal.y nan (λ e. omega arith)
        ∙ get_or-set_same l i p.normal.x nan (omega arith)
    own (suc zero) h =
        get_or-set_other with_z (row_place 3 i) (row_place 1 i) p.distance nan (λ e. omega arith)
        ∙ get_or-set_other with_y (row_place 2 i) (row_place 1 i) p.normal.z nan (λ e. omega arith)
        ∙ get_or-set_same with_x (row_place 1 i) p.normal.y nan (omega (arith, length-set l i p.normal.x))
    own (suc (suc zero)) h =
        get_or-set_other with_z (row_place 3 i) (row_place 2 i) p.distance nan (λ e. omega arith)
        ∙ get_or-set_same with_y (row_place 2 i) p.normal.z nan (omega (arith, length-set l i p.normal.x, length-set with_x (row_place 1 i) p.normal.y))
    own (suc (suc (suc zero))) h =
        get_or-set_same with_z (row_place 3 i) p.distance nan
        (omega (arith, length-set l i p.normal.x, length-set with_x (row_place 1 i) p.normal.y, length-set with_y (row_place 2 i) p.normal.z))
    own (suc (suc (suc (suc j)))) h = absurd (omega arith)

    one_more : (v : List Float) → InRows v i l → p ≡ plane_at v i → InRows v (suc i) with_plane_lem
    unfolding InRows
    one_more v h e k j below in-plane = ⊎_elim here before (eq-or-lt_of_le (omega arith))
      where
        here : k ≡ i → at with_plane_lem (row_place j k) ≡ at v (plane_start k + j)
        here same = subst (λ (n : ℕ). at with_plane_lem (row_place j n) ≡ at v (plane_start n + j)) (sym same)
            (own j in-plane ∙ ap (λ (q : Plane). part q j) e ∙ part_at v i j in-plane)

        before : k < i → at with_plane_lem (row_place j k) ≡ at v (plane_start k + j)
        before less = kept (row_place j k) (λ m four same. omega arith) ∙ h k j less in-plane

-- ---- the first planes of a record

module _ (v l : List Float) where
  pub next_put : (i : ℕ) (k : List Float) (p : Plane) → k ≡ with_planes v i l → p ≡ plane_at v i → with_plane k i p ≡ with_planes v (i + 1) l
  unfolding with_planes
  next_put i k p e f = (λ t. with_plane (e t) i (f t)) ∙ sym (ap (λ (n : ℕ). with_planes v n l) (add-one i))

  room_kept : (n : ℕ) → length (with_planes v n l) ≡ length l
  unfolding with_planes
  room_kept zero = refl
  room_kept (suc n) = same_room (with_planes v n l) n (plane_at v n) ∙ room_kept n

  module _ (room : length l ≡ rows_length) where
    in_rows : (n : ℕ) → n ≤ most_planes → InRows v n (with_planes v n l)
    unfolding InRows with_planes
    in_rows zero h = λ i j below. absurd (omega arith)
    in_rows (suc n) h = one_more (with_planes v n l) n (plane_at v n) (room_kept n ∙ room) (omega arith) v (in_rows n (omega arith)) refl

    pub same_planes : (n : ℕ) (k : List Float) → n ≤ most_planes → k ≡ with_planes v n l → planes_in_rows k n ≡ planes_of v n
    same_planes n k h e = ap (λ (r : List Float). planes_in_rows r n) e ∙ planes_in_lem v (with_planes v n l) n (in_rows n h)

  behind : (n i j : ℕ) → n ≤ i → i < most_planes → at (with_planes v n l) (row_place j i) ≡ at l (row_place j i)
  unfolding with_planes
  behind zero i j h most = refl
  behind (suc n) i j h most = kept (with_planes v n l) n (plane_at v n) (row_place j i) (λ m four same. omega arith) ∙ behind n i j (omega arith) most

pub every_place : EveryPlace
every_place v l n room most = (in_rows v l room n most, λ i j. behind v l n i j)

-- ---- what a record leaves

module _ (v l : List Float) (o : Outcome ℕ) where
  pub kept_of_refused : (k : ℕ) → refused k ≡ o → l ≡ rows_loaded o v l
  kept_of_refused k e = ap (λ (x : Outcome ℕ). rows_loaded x v l) e

  pub by_room : (n : ℕ) (b : Bool) → outcome n ≡ o → has rows_length l ≡ b → unless b l (with_planes v n l) ≡ rows_loaded o v l
  by_room n b e f = sym (ap (λ (c : Bool). unless c l (with_planes v n l)) f) ∙ ap (λ (x : Outcome ℕ). rows_loaded x v l) e

-- what is read of rows that were all zeros before, once the first n planes of a record are gathered
pub gathered : (v k : List Float) (n m : ℕ) → n ≤ most_planes → k ≡ with_planes v n (replicate rows_length (of_bits binary64 0)) → m ≡ n → planes_in_rows k m ≡ planes_of v n
gathered v k n m h e f =
    ap (planes_in_rows k) f ∙ same_planes v (replicate rows_length (of_bits binary64 0)) (length-replicate rows_length (of_bits binary64 0)) n k h e

-- and once a record is loaded
pub loaded : (n : ℕ) (v k : List Float) (m : ℕ) → outcome n ≡ planes_held v → k ≡ rows_loaded (planes_held v) v (replicate rows_length (of_bits binary64 0)) → m ≡ n → planes_in_rows k m ≡ planes_of v n
loaded n v k m e f g =
    let l = replicate rows_length (of_bits binary64 0) in
    gathered v k n m (held v n e).most (f ∙ sym (by_room v l (planes_held v) n true e (eq-eqb _ _ (length-replicate rows_length (of_bits binary64 0))))) g
