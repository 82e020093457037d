-- `Space::settled` meets its contract, call by call. Assumes nothing.
use Rattle.std.proofs.Common.{◌≡◌, Bool, true, false, not, cond, ◌&&◌, None, Some, sym, refl, ap, ◌∙◌}
use lib.Ieee.{Float, binary64, of_bits, lt}
use Rattle.number.specs.Arithmetic.{◌⊕◌, ◌⊗◌, abs_of}
use Rattle.matrix.specs.Range.{is_empty}
use Rattle.matrix.specs.Vec.{dot}
use Rattle.matrix.specs.declared.vec.Vec4d.{Vec4d}
use Rattle.matrix.specs.declared.range.Range3d.{Range3d}
use Rattle.verdict.specs.Plane.{end_toward}
use Rattle.verdict.specs.Steps.Filter.{normal_of, extent_of, is_reached, is_missed, settled_of}
use Rattle.verdict.proofs.Literals.{short_bits, long_bits, least_bits, most_bits, part_bits, three_bits}
use Rattle.verdict.proofs.reach.Space.settled.Goals as goal

module _ (e : Vec4d) (r : Range3d) where
  -- by what each call answers
  module _ (cx cy cz q s d : Float)
      (CX : cx ≡ end_toward e.x r.min.x r.max.x) (CY : cy ≡ end_toward e.y r.min.y r.max.y) (CZ : cz ≡ end_toward e.z r.min.z r.max.z)
      (Q : q ≡ dot (normal_of e) (normal_of e)) (S : s ≡ extent_of r) (D : d ≡ abs_of e.w) where
    abbrev estimate : Float
    estimate = e.x ⊗ cx ⊕ e.y ⊗ cy ⊕ e.z ⊗ cz ⊕ e.w

    abbrev error : Float
    error = (s ⊗ (of_bits binary64 0x4008_0000_0000_0000 ⊕ q) ⊕ d) ⊗ of_bits binary64 0x3da5_fd7f_e179_6495

    abbrev sure : Bool
    sure =
        lt s (of_bits binary64 0x43ab_c16d_674e_c800) && lt (of_bits binary64 0x3e11_2e0b_e826_d695 ⊗ of_bits binary64 0x3e11_2e0b_e826_d695) q
        && lt q (of_bits binary64 0x43ab_c16d_674e_c800 ⊗ of_bits binary64 0x43ab_c16d_674e_c800)
        && lt (of_bits binary64 0x2d40_4bd9_8499_0e6f) (s ⊗ (of_bits binary64 0x4008_0000_0000_0000 ⊕ q) ⊕ d)
        && lt (s ⊗ (of_bits binary64 0x4008_0000_0000_0000 ⊕ q) ⊕ d) (of_bits binary64 0x529f_6b0f_0929_59c7)

    told : (z : Bool) → z ≡ is_empty r → cond (sure && is_reached error estimate) (Some (not z)) (cond (sure && is_missed error estimate) (Some false) None) ≡ settled_of e r
    unfolding settled_of
    told z Z = rw (Q, S, D, CX, CY, CZ, Z, three_bits, short_bits, long_bits, least_bits, most_bits, part_bits)

    pub ahead : (z : Bool) → z ≡ is_empty r → (sure && is_reached error estimate) ≡ true → Some (not z) ≡ settled_of e r
    ahead z Z h = sym (ap (λ (b : Bool). cond b (Some (not z)) (cond (sure && is_missed error estimate) (Some false) None)) h) ∙ told z Z

    pub behind : (sure && is_reached error estimate) ≡ false → (sure && is_missed error estimate) ≡ true → Some false ≡ settled_of e r
    behind h k = sym (λ t. cond (h t) (Some (not (is_empty r))) (cond (k t) (Some false) None)) ∙ told _ refl

    pub untold : (sure && is_reached error estimate) ≡ false → (sure && is_missed error estimate) ≡ false → None ≡ settled_of e r
    untold h k = sym (λ t. cond (h t) (Some (not (is_empty r))) (cond (k t) (Some false) None)) ∙ told _ refl

pub returns-then-trusted-error : goal.returns-then-trusted-error
returns-then-trusted-error c =
    ahead _ _ _ _ _ _ _ _ c.end_toward.ensures c.end_toward-2.ensures c.end_toward-3.ensures c.dot-square.ensures c.args.self.now.size c.abs.ensures _ c.is_empty.ensures c.if-trusted-error.true

pub returns-then-trusted-estimate : goal.returns-then-trusted-estimate
returns-then-trusted-estimate c =
    behind _ _ _ _ _ _ _ _ c.end_toward.ensures c.end_toward-2.ensures c.end_toward-3.ensures c.dot-square.ensures c.args.self.now.size c.abs.ensures c.if-trusted-error.false c.if-trusted-estimate.true

pub returns : goal.returns
returns c =
    untold _ _ _ _ _ _ _ _ c.end_toward.ensures c.end_toward-2.ensures c.end_toward-3.ensures c.dot-square.ensures c.args.self.now.size c.abs.ensures c.if-trusted-error.false c.if-trusted-estimate.false
