-- `number::grid::whole` meets its contract: by its bits the number is off the grid, below a half, or a fraction whose unit is 2 ^ (1126 - scale).
-- Assumes nothing.
use Rattle.std.proofs.Common.{◌≡◌, ℕ, zero, suc, ◌-◌, ◌*◌, ◌^◌, ◌<◌, ◌≤◌, Bool, true, false, T, ltb, ℤ, pos, negsuc, ◌-ℤ◌, neg_ℤ, sym, refl, ap, ◌∙◌, subst, le_trans, le_of_eq, lt_of_lt_of_le, zero-lt-suc, arith, lt→ltb, pow_pos, pow-add, w32, SFits, to_z, rules, None, Some}
use native.Mathlib.Decide.{dec_lt}
use native.Mathlib.Nat.{pow-succ', mul-lt-mul_of_pos_left}
use lib.IntN.{+ℤ_idl}
use lib.Ieee.{Float, binary64, fits}
use lib.Ieee.Bits.{is_true}
use lib.Ieee.Nearest.{closest}
use mir.Val.{sel}
use mir.ValLaws.{to_z-of_z}
use Rattle.number.specs.Limits.{grid_limit}
use Rattle.number.specs.Steps.Magnitude.{units_of}
use Rattle.number.specs.Grid.{whole_nearest, placed}
use Rattle.number.proofs.Centimetres.{whole_ge, whole_zero, coordinate, placed_value, placed_nan, placed_inf, off, on, zero_on, units_ge, units_lt, scale_ge, scale_lt, same_fraction}
use Rattle.number.proofs.Nan.{nan_is}
use Rattle.number.proofs.Reading.{infinite, value}
use Rattle.number.specs.declared.parts.Parts.{Parts}
use Rattle.number.specs.declared.parts.Scaled.{Scaled}
use Rattle.number.specs.Steps.Magnitude.{Normalised, PartsOf}
use Rattle.number.proofs.grid.whole.Goals as goal

module _ (x : Float) (h : T (fits binary64 x)) (p : Parts) (i : PartsOf x p) where
  abbrev rounded : ℕ
  rounded = whole_nearest (units_of binary64 p.magnitude.bits) (2 ^ 1074)

  finite : p.magnitude.bits < 2047 * 2 ^ 52 → placed x ≡ coordinate p.negative rounded
  finite l = placed_value x p.negative (units_of binary64 p.magnitude.bits) (value x h p i l)

  large : 0x4100_0000_0000_0000 ≤ p.magnitude.bits → None ≡ placed x
  large l = elim (dec_lt p.magnitude.bits (2047 * 2 ^ 52)) [
    | yes s ↦ off p.negative rounded (le_trans (omega arith) (whole_ge (2 ^ 17) (units_of binary64 p.magnitude.bits) (2 ^ 1074) (pow_pos 1074)
        (le_trans (le_of_eq (sym (pow-add 2 17 1074))) (units_ge p.magnitude.bits 1039 l)))) ∙ sym (finite s)
    | no g ↦ placed_inf x p.negative (infinite x h p i (omega arith))
  ]

  small : p.magnitude.bits < 0x3fe0_0000_0000_0000 → Some (pos 0) ≡ placed x
  small l =
      zero_on p.negative ∙ ap (coordinate p.negative) (sym (whole_zero (units_of binary64 p.magnitude.bits) (2 ^ 1074) (pow_pos 1074)
      (lt_of_lt_of_le (mul-lt-mul_of_pos_left (units_lt p.magnitude.bits 1021 l) (zero-lt-suc 1)) (le_of_eq (sym (pow-succ' 2 1073))))))
      ∙ sym (finite (omega arith))

  between : (s : Bool) (k : ℕ) → p.magnitude.bits < 0x4100_0000_0000_0000 → p.negative ≡ s → k ≡ rounded → coordinate s k ≡ placed x
  between s k l e f = ap (coordinate s) f ∙ ap (λ (b : Bool). coordinate b rounded) (sym e) ∙ sym (finite (omega arith))

-- ---- the signed result
to_integer : (k : ℕ) → k ≤ grid_limit → to_z w32 k ≡ pos k
to_integer k h = ap (λ (b : Bool). sel b (pos k) (negsuc (2 ^ 32 - suc k))) (is_true (ltb k (2 ^ 31)) (lt→ltb k (2 ^ 31) (omega arith)))

minus_is : (k : ℕ) → k ≤ grid_limit → pos 0 -ℤ to_z w32 k ≡ neg_ℤ (pos k)
minus_is k h = ap (λ (z : ℤ). pos 0 -ℤ z) (to_integer k h) ∙ +ℤ_idl (neg_ℤ (pos k))

minus_fits : (k : ℕ) → k ≤ grid_limit → SFits w32 (neg_ℤ (pos k))
minus_fits zero h = record { sfits = omega arith }
minus_fits (suc k) h = record { sfits = omega arith }

-- the scale, and the fraction that is rounded
record Fraction (b : ℕ) (m w : ℕ) : Type 0 where
  least : 1073 ≤ w
  most : w < 1091
  same : closest m (2 ^ (1126 - w)) ≡ whole_nearest (units_of binary64 b) (2 ^ 1074)

fraction : (b : ℕ) (p : Scaled) → Normalised b p → 0x3fe0_0000_0000_0000 ≤ b → b < 0x4100_0000_0000_0000 → Fraction b p.significand p.scale
fraction b p h g l =
    let n = units_of binary64 b in
    let lo = scale_ge p.significand p.scale n h.leading h.digits h.value 1073 (units_ge b 1021 g) in
    let hi = scale_lt p.significand p.scale n h.leading h.digits h.value 1091 (units_lt b 1039 l) in
    record { least = lo; most = hi; same = same_fraction p.significand p.scale n h.leading h.digits h.value (1126 - p.scale) (omega arith) }

pub returns-in_err-parts : goal.returns-in_err-parts
returns-in_err-parts c = let x = c.args.x in rw c.from_residual.ensures (placed_nan x (nan_is x c.in_err-parts.ensures))

pub returns-then-magnitude-ge4683743612465315840 : goal.returns-then-magnitude-ge4683743612465315840
returns-then-magnitude-ge4683743612465315840 c = large c.args.x (search rules) _ c.in_ok-parts.ensures c.if-magnitude-ge4683743612465315840.true

pub returns-then-magnitude-lt4602678819172646912 : goal.returns-then-magnitude-lt4602678819172646912
returns-then-magnitude-lt4602678819172646912 c = small c.args.x (search rules) _ c.in_ok-parts.ensures c.if-magnitude-lt4602678819172646912.true

pub nearest-size-requires : goal.nearest-size-requires
nearest-size-requires c =
    let s = fraction _ _ c.scaled-scaled.ensures c.if-magnitude-lt4602678819172646912.false c.if-magnitude-ge4683743612465315840.false in
    (omega (arith, s.most), omega (arith, s.least), omega (arith, c.scaled-scaled.ensures.digits))

pub returns-then-size-gt-GRID_LIMIT : goal.returns-then-size-gt-GRID_LIMIT
returns-then-size-gt-GRID_LIMIT c =
    let k = c.nearest-size.result in
    off _ k c.if-size-gt-GRID_LIMIT.true
    ∙ between c.args.x (search rules) _ c.in_ok-parts.ensures _ k c.if-magnitude-ge4683743612465315840.false refl
    (c.nearest-size.ensures ∙ (fraction _ _ c.scaled-scaled.ensures c.if-magnitude-lt4602678819172646912.false c.if-magnitude-ge4683743612465315840.false).same)

pub returns-then-parts : goal.returns-then-parts
returns-then-parts c =
    let k = c.nearest-size.result in
    let m = minus_is k c.if-size-gt-GRID_LIMIT.false in
    ap Some (to_z-of_z w32 _ (subst (SFits w32) (sym m) (minus_fits k c.if-size-gt-GRID_LIMIT.false)) ∙ m)
    ∙ on true k c.if-size-gt-GRID_LIMIT.false
    ∙ between c.args.x (search rules) _ c.in_ok-parts.ensures true k c.if-magnitude-ge4683743612465315840.false c.if-parts.true
    (c.nearest-size.ensures ∙ (fraction _ _ c.scaled-scaled.ensures c.if-magnitude-lt4602678819172646912.false c.if-magnitude-ge4683743612465315840.false).same)

pub returns-else-parts : goal.returns-else-parts
returns-else-parts c =
    let k = c.nearest-size.result in
    ap Some (to_integer k c.if-size-gt-GRID_LIMIT.false)
    ∙ on false k c.if-size-gt-GRID_LIMIT.false
    ∙ between c.args.x (search rules) _ c.in_ok-parts.ensures false k c.if-magnitude-ge4683743612465315840.false c.if-parts.false
    (c.nearest-size.ensures ∙ (fraction _ _ c.scaled-scaled.ensures c.if-magnitude-lt4602678819172646912.false c.if-magnitude-ge4683743612465315840.false).same)
