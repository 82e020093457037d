-- The planes of a view that pass a test, as the bits of a number. Assumes nothing.
use Rattle.std.proofs.Common.{◌≡◌, ℕ, ◌+◌, ◌-◌, ◌*◌, ◌/◌, ◌%◌, ◌^◌, ◌<◌, Bool, true, false, ◌&&◌, ◌||◌, eqb, List, [], ◌∷◌, length, sym, refl, ap, ◌∙◌, ap₂, pow-suc, arith, pow_pos, eq-eqb, ne_eqb, eqb-true}
use borrow.Author.Tests.{eqb-false}
use lib.Bits.{bit_and, bit_or, and_block, or_block}
use Rattle.number.specs.Every.{every}
use Rattle.verdict.specs.declared.plane.Plane.{Plane}
use Rattle.verdict.specs.Steps.Passes.{bit, mask_of}

pub bit_small : (b : Bool) → bit b < 2
bit_small true = omega arith
bit_small false = omega arith

-- ---- one plane more

pub lowest : (m : ℕ) (b : Bool) → eqb ((m * 2 + bit b) % 2) 1 ≡ b
lowest m true = eq-eqb ((m * 2 + 1) % 2) 1 (omega arith)
lowest m false = ne_eqb ((m * 2 + 0) % 2) 1 (λ e. omega arith)

pub others : (m : ℕ) (b : Bool) → (m * 2 + bit b) / 2 ≡ m
others m true = omega arith
others m false = omega arith

-- ---- all bits are ones where every plane passes

same_test : (a b c d : ℕ) (z : Bool) → eqb a b ≡ z → (a ≡ b → c ≡ d) → (c ≡ d → a ≡ b) → z ≡ eqb c d
same_test a b c d true e f g = sym (eq-eqb c d (f (eqb-true a b e)))
same_test a b c d false e f g = sym (ne_eqb c d (λ h. eqb-false a b e (g h)))

more_ones : (m n : ℕ) (b : Bool) → 0 < n → (b && eqb m (n - 1)) ≡ eqb (m * 2 + bit b) (n * 2 - 1)
more_ones m n true h = same_test m (n - 1) (m * 2 + 1) (n * 2 - 1) (eqb m (n - 1)) refl (λ e. omega arith) (λ e. omega arith)
more_ones m n false h = sym (ne_eqb (m * 2 + 0) (n * 2 - 1) (λ e. omega arith))

module _ (test : Plane → Bool) where
  pub below : (ps : List Plane) → mask_of test ps < 2 ^ length ps
  unfolding mask_of
  below [] = omega arith
  below (p ∷ ps) = omega (arith, below ps, bit_small (test p), pow-suc 2 (length ps))

  pub ones : (ps : List Plane) → every test ps ≡ eqb (mask_of test ps) (2 ^ length ps - 1)
  unfolding every mask_of
  ones [] = refl
  ones (p ∷ ps) =
      ap (λ (z : Bool). test p && z) (ones ps) ∙ more_ones (mask_of test ps) (2 ^ length ps) (test p) (pow_pos (length ps))
      ∙ ap (λ (n : ℕ). eqb (mask_of test ps * 2 + bit (test p)) (n - 1)) (sym (pow-suc 2 (length ps)))

-- ---- two tests at once

module _ (f g : Plane → Bool) (op : ℕ → ℕ → ℕ) (of : Bool → Bool → Bool)
    (block : (k a b r s : ℕ) → r < 2 ^ k → s < 2 ^ k → op (a * 2 ^ k + r) (b * 2 ^ k + s) ≡ op a b * 2 ^ k + op r s)
    (bits : (x y : Bool) → op (bit x) (bit y) ≡ bit (of x y)) (none : op 0 0 ≡ 0) where
  joined : (ps : List Plane) → op (mask_of f ps) (mask_of g ps) ≡ mask_of (λ p. of (f p) (g p)) ps
  unfolding mask_of
  joined [] = none
  joined (p ∷ ps) =
      block 1 (mask_of f ps) (mask_of g ps) (bit (f p)) (bit (g p)) (bit_small (f p)) (bit_small (g p))
      ∙ ap₂ (λ (m b : ℕ). m * 2 + b) (joined ps) (bits (f p) (g p))

either_bit : (x y : Bool) → bit_or (bit x) (bit y) ≡ bit (x || y)
either_bit true true = refl
either_bit true false = refl
either_bit false true = refl
either_bit false false = refl

both_bits : (x y : Bool) → bit_and (bit x) (bit y) ≡ bit (x && y)
both_bits true true = refl
both_bits true false = refl
both_bits false true = refl
both_bits false false = refl

pub either : (f g : Plane → Bool) (ps : List Plane) → bit_or (mask_of f ps) (mask_of g ps) ≡ mask_of (λ p. f p || g p) ps
either f g = joined f g bit_or ◌||◌ or_block either_bit refl

pub both : (f g : Plane → Bool) (ps : List Plane) → bit_and (mask_of f ps) (mask_of g ps) ≡ mask_of (λ p. f p && g p) ps
both f g = joined f g bit_and ◌&&◌ and_block both_bits refl
