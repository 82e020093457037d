-- `number::root::PartialRoot::tried` meets its contract: the difference, which may wrap, has no top bit where what is left reaches the trial; and such a step
-- keeps what holds after a bit. Assumes nothing.
use Rattle.std.proofs.Common.{◌≡◌, ℕ, ◌+◌, ◌-◌, ◌*◌, ◌/◌, ◌%◌, ◌^◌, ◌<◌, ◌≤◌, Bool, true, false, cond, not, T, ltb, leb, sym, refl, ap, ◌∙◌, subst, arith, ltb→lt, leb→le, nltb→le}
use lib.Dec.{nleb→lt}
use Rattle.number.specs.Search.{AfterBit}
use Rattle.number.specs.declared.root.PartialRoot.{PartialRoot}
use Rattle.number.proofs.Search.{next}
use Rattle.number.proofs.root.PartialRoot.tried.Goals as goal

same : (a b c l : ℕ) → a ≡ b → c ≡ l → ◌≡◌ {A = PartialRoot} (record { trial = a; left = c }) (record { trial = b; left = l })
same a b c l p q = λ i. record { trial = p i; left = q i }

-- the difference, as it wraps
module _ (left t : ℕ) (T' : t < 2 ^ 63) (L : left < 2 ^ 63) where
  abbrev d : ℕ
  d = (left + (2 ^ 64 - t)) % 2 ^ 64

  difference : t ≤ left → d ≡ left - t
  difference g = omega arith

  borrowed : left < t → 2 ^ 63 ≤ d
  borrowed g = omega arith

  -- of two candidates the same, by either test
  chosen : (kept refused : ℕ) → ◌≡◌ {A = PartialRoot} (record { trial = cond (ltb d (2 ^ 63)) kept refused; left = 2 * cond (ltb d (2 ^ 63)) d left })
      (cond (leb t left) (record { trial = kept; left = 2 * (left - t) }) (record { trial = refused; left = 2 * left }))
  chosen kept refused = go (ltb d (2 ^ 63)) (leb t left) (ltb→lt d (2 ^ 63)) (nltb→le d (2 ^ 63)) (leb→le t left) (nleb→lt t left)
    where
      go : (z w : Bool) → (T z → d < 2 ^ 63) → (T (not z) → 2 ^ 63 ≤ d) → (T w → t ≤ left) → (T (not w) → left < t)
          → ◌≡◌ {A = PartialRoot} (record { trial = cond z kept refused; left = 2 * cond z d left })
          (cond w (record { trial = kept; left = 2 * (left - t) }) (record { trial = refused; left = 2 * left }))
      go true true a b l g = same _ _ _ _ refl (ap (λ (i : ℕ). 2 * i) (difference (l tt)))
      go true false a b l g = absurd (let x = a tt in let y = borrowed (g tt) in omega arith)
      go false true a b l g = absurd (let x = b tt in let y = difference (l tt) in omega arith)
      go false false a b l g = refl

pub returns : goal.returns
returns c =
    let a = c.args in
    let p = c.requires in
    let e = same _ _ _ _ c.either.ensures (ap (λ (i : ℕ). 2 * i) c.either-2.ensures) ∙ chosen a.self.left a.self.trial (omega (arith, p.1)) p.2 _ _ in
    record { is = e; next = λ n h s. subst (AfterBit n (a.bit / 2)) (sym e) (next n a.bit a.self h s) }
