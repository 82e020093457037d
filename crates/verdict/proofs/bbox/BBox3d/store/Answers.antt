-- `BBox3d::store` meets its contract: its range, its matrix and its flag, one behind another. Assumes nothing.
use Rattle.std.proofs.Common.{◌≡◌, Bool, cond, List, [], ◌∷◌, ◌++◌, length, take, drop, set, sym, refl, ap, ◌∙◌, eq-eqb, arith, length-drop, length-take-le}
use borrow.Rule.Slice.PartMut.{put_mid, Post-is}
use lib.Ieee.{Float}
use Rattle.number.specs.Slice.{stored}
use Rattle.matrix.specs.Matrix.{entries}
use Rattle.matrix.specs.Range.{bounds}
use Rattle.verdict.specs.BBox.{numbers, flag_of}
use Rattle.verdict.specs.declared.bbox.BBox3d.{BBox3d}
use Rattle.verdict.proofs.Flags.{flag_number}
use Rattle.verdict.proofs.bbox.BBox3d.store.Goals as goal

-- a slice of one number
one : (l : List Float) (f : Float) → length l ≡ 1 → set l 0 f ≡ f ∷ []
one [] f e = absurd (omega arith)
one (x ∷ []) f e = refl
one (x ∷ y ∷ l) f e = absurd (omega arith)

-- what is stored into a slice of its length
filled : (v part out : List Float) → length v ≡ length part → out ≡ stored v part → out ≡ v
filled v part out e h = h ∙ ap (λ (b : Bool). cond b v part) (eq-eqb _ _ e)

module _ (b : BBox3d) (out : List Float) (room : length out ≡ 23) where
  abbrev behind : List Float → List Float
  behind range = range ++ drop 6 out

  placed : (range matrix : List Float) (f : Float) → range ≡ stored (bounds b.range) (take 6 out) → matrix ≡ stored (entries b.matrix) (take 16 (drop 6 (behind range))) → f ≡ flag_of b.flag
      → set (put_mid 6 16 (behind range) matrix) 22 f ≡ stored (numbers b) out
  placed range matrix f p q r =
      let first : range ≡ bounds b.range = filled _ _ _ (sym (length-take-le 6 out (omega arith))) p in
      let rest : length (drop 6 out) ≡ 17 = omega (arith, length-drop 6 out) in
      let second : matrix ≡ entries b.matrix =
      filled _ _ _ (sym (length-take-le 16 (drop 6 out) (omega arith))) (q ∙ ap (λ (l : List Float). stored (entries b.matrix) (take 16 (drop 6 (behind l)))) first) in
      (λ t. set (put_mid 6 16 (behind (first t)) (second t)) 22 (r t))
      ∙ ap (λ (l : List Float). set (bounds b.range ++ (entries b.matrix ++ l)) 22 (flag_of b.flag)) (Post-is 6 22 (behind (bounds b.range)) (omega arith))
      ∙ ap (λ (l : List Float). bounds b.range ++ entries b.matrix ++ l) (one (drop 16 (drop 6 out)) (flag_of b.flag) (omega (arith, length-drop 16 (drop 6 out))))
      ∙ sym (filled (numbers b) out _ (sym room) refl)

pub returns-then-out-eq-BOX_LENGTH : goal.returns-then-out-eq-BOX_LENGTH
returns-then-out-eq-BOX_LENGTH c =
    let a = c.args in
    placed a.self a.out.now c.if-out-eq-BOX_LENGTH.true _ _ _ c.store.ensures c.store-then-out-eq-BOX_LENGTH.ensures (c.from.ensures ∙ flag_number a.self.flag)
