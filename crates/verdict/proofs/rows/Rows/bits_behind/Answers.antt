-- `Rows::bits_behind` meets its contract: the bits are those of the planes passed. Assumes nothing.
use Rattle.std.proofs.Common.{◌≡◌, ℕ, ◌+◌, ◌^◌, Bool, true, false, cond, not, List, sym, refl, ap, ◌∙◌, add-one, arith}
use lib.Ieee.{Float}
use Rattle.number.proofs.Tabulate.{as_many}
use Rattle.number.specs.Places.{places_below}
use Rattle.matrix.specs.declared.matrix.Mat4d.{Mat4d}
use Rattle.matrix.specs.declared.range.Range3d.{Range3d}
use Rattle.verdict.specs.declared.plane.Plane.{Plane}
use Rattle.verdict.specs.declared.bbox.BBox3d.{BBox3d}
use Rattle.verdict.specs.Plane.{reaches_positive_side, under_inverse_transpose}
use Rattle.verdict.specs.Rows.{plane_in_rows, planes_in_rows}
use Rattle.verdict.specs.Frustum.{into_space_of}
use Rattle.verdict.specs.PlanesBehind.{is_behind, bits_at, places_behind, blocking_planes}
use Rattle.verdict.proofs.PlanesBehind.{bits, one_more, below, same_places, behind_is}
use Rattle.verdict.proofs.rows.Rows.bits_behind.Invariants.{behind}
use Rattle.verdict.proofs.rows.Rows.bits_behind.Goals as goal
use Rattle.verdict.proofs.rows.Rows.bits_behind.Goals.{then-not-reaches, else-not-reaches}

-- what is answered of n planes and a box
module _ (l : List Float) (n : ℕ) (b : BBox3d) where
  all_bits : bits (behind l (into_space_of b) b.range) n ≡ blocking_planes (planes_in_rows l n) b
  unfolding blocking_planes places_behind
  all_bits =
      ap bits_at (same_places n (behind l (into_space_of b) b.range) (is_behind (planes_in_rows l n) b) (λ i h. sym (behind_is b (plane_in_rows l) n i (plane_in_rows l i) h refl)))
      ∙ ap (λ (k : ℕ). bits (is_behind (planes_in_rows l n) b) k) (sym (as_many (plane_in_rows l) n))

  in_space : (m : Mat4d) (r : Range3d) (k : ℕ) → (m ≡ into_space_of b) × (r ≡ b.range) → k ≡ bits (behind l m r) n → k ≡ blocking_planes (planes_in_rows l n) b
  in_space m r k s h = h ∙ (λ t. bits (behind l (s.0 t) (s.1 t)) n) ∙ all_bits

-- one plane more
next : (t : ℕ → Bool) (i m k : ℕ) (z : Bool) → m ≡ bits t i → z ≡ t i → k ≡ m + cond z (2 ^ i) 0 → k ≡ bits t (i + 1)
next t i m k z e f g = g ∙ (λ j. e j + cond (f j) (2 ^ i) 0) ∙ sym (one_more t i) ∙ ap (bits t) (sym (add-one i))

pub loop-i-init : goal.loop-i-init
unfolding bits_at places_below
loop-i-init c = refl

pub with_bit-bits-requires : goal.with_bit-bits-requires
with_bit-bits-requires c =
    let l = c.loop-i in
    (omega (arith, l.invariant, below (behind c.args.self.now.numbers c.of-space.result.into c.of-space.result.range) l.i), omega (arith, c.args.self.now.room))

pub loop-i-preserved : goal.loop-i-preserved
loop-i-preserved c =
    let l = c.loop-i in
    let s = c.of-space.result in
    let is : not c.reaches.result ≡ behind c.args.self.now.numbers s.into s.range l.i =
    ap not (c.reaches.ensures ∙ ap (λ (p : Plane). reaches_positive_side (under_inverse_transpose s.into p) s.range) c.plane.ensures) in
    elim c.if-not-reaches.branch [
      | then-not-reaches w ↦ next (behind c.args.self.now.numbers s.into s.range) l.i _ _ true l.invariant (sym (ap not w.if-not-reaches.true) ∙ is) (w.bits-is ∙ w.with_bit-bits.ensures)
      | else-not-reaches w ↦ next (behind c.args.self.now.numbers s.into s.range) l.i _ _ false l.invariant (sym (ap not w.if-not-reaches.false) ∙ is) (w.bits-is ∙ omega arith)
    ]

pub returns : goal.returns
returns c =
    let l = c.loop-i in
    let rows = c.args.self.now in
    let s = c.of-space.result in
    let e : l.i ≡ rows.count = omega arith in
    in_space rows.numbers rows.count c.load.result s.into s.range l.bits c.of-space.ensures (l.invariant ∙ ap (bits (behind rows.numbers s.into s.range)) e)
    ∙ ap (λ (b : BBox3d). blocking_planes (planes_in_rows rows.numbers rows.count) b) c.load.ensures
