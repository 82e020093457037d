-- Of the first n planes, how far those but one cut from an end: what reaches it is what reaches each of them. The idea: one plane more either cuts further than all
-- before it, which then are the others, or it is one of the others itself. Assumes nothing.
use mathlib.Core.Path.{◌≡◌, refl, sym, ap, ◌∙◌, subst}
use mathlib.Core.Bool.{Bool, true, false, not, cond, ◌&&◌, ◌||◌, and_comm, and-true}
use Rattle.std.specs.Prelude.{Option, None, Some}
use Prim.Native.Nat.{ℕ, zero, suc, ◌<◌}
use native.Mathlib.Omega.{arith}
use borrow.Author.Tests.{eqb-true, eqb-false, eq-eqb, ne_eqb}
use lib.Dec.{eqb}
use lib.Ieee.{Float, inf, lt, is_nan}
use Rattle.number.specs.Arithmetic.{upper_of}
use Rattle.number.specs.Every.{every_below}
use Rattle.number.proofs.Comparisons.{less_one_way, not_less_through}
use Rattle.blocking.specs.declared.cuts.Cut.{Cut}
use Rattle.blocking.specs.Steps.{with_cut, cut_below, is_at, furthest_without}
use Rattle.blocking.proofs.Reached.{reaches, nothing_before, not_past, a_number, upper_reached}

-- a choice between two of which each will do
by_test : (P : Float → Type 0) (b : Bool) (x y : Float) → P x → P y → P (cond b x y)
by_test P true x y p q = p
by_test P false x y p q = q

-- a place is one of the first n, if it is any
abbrev pub Below : ℕ → Option ℕ → Type 0
Below n None = Unit {0}
Below n (Some p) = p < n

module _ (f : ℕ → Float) where
  -- each of the first n but that at j is reached
  abbrev others : ℕ → ℕ → Float → Bool
  others n j y = every_below n (λ k. eqb k j || reaches y (f k))

  -- what is known of the cut of the first n
  pub record Held (n : ℕ) (c : Cut) : Type 0 where
    pub place : Below n c.place
    pub number : is_nan c.furthest ≡ false
    pub next_number : is_nan c.next ≡ false
    pub order : lt c.furthest c.next ≡ false
    pub reached : (j : ℕ) (y : Float) → reaches y (furthest_without c j) ≡ others n j y

  -- the next place is another
  elsewhere : (n : ℕ) (p : Option ℕ) → Below n p → is_at p n ≡ false
  elsewhere n None l = refl
  elsewhere n (Some p) l = ne_eqb n p (λ e. omega arith)

  module _ (n : ℕ) (c : Cut) (H : Held n c) where
    -- without the next place all before it cut
    before : (y : Float) → reaches y c.furthest ≡ others n n y
    before y = ap (λ (b : Bool). reaches y (cond b c.next c.furthest)) (sym (elsewhere n c.place H.place)) ∙ H.reached n y

    -- one place more, for each that is left out
    more_is : (d : Cut) → ((y : Float) → reaches y (furthest_without d n) ≡ reaches y c.furthest)
        → ((j : ℕ) → eqb j n ≡ false → (y : Float) → reaches y (furthest_without d j) ≡ (reaches y (furthest_without c j) && reaches y (f n)))
        → (j : ℕ) (y : Float) → reaches y (furthest_without d j) ≡ others (suc n) j y
    unfolding every_below
    more_is d p q j y = go (eqb j n) refl
      where
        go : (b : Bool) → eqb j n ≡ b → reaches y (furthest_without d j) ≡ (others n j y && (eqb n j || reaches y (f n)))
        go true e =
            subst (λ (k : ℕ). reaches y (furthest_without d k) ≡ (others n k y && (eqb n k || reaches y (f n)))) (sym (eqb-true j n e))
            (p y ∙ before y ∙ sym (and-true (others n n y)) ∙ ap (λ (b : Bool). others n n y && (b || reaches y (f n))) (sym (eq-eqb n n refl)))
        go false e =
            q j e y ∙ ap (λ (b : Bool). b && reaches y (f n)) (H.reached j y)
            ∙ ap (λ (b : Bool). others n j y && (b || reaches y (f n))) (sym (ne_eqb n j (λ k. eqb-false j n e (sym k))))

    -- the plane at n cuts further than those before it
    further : lt c.furthest (f n) ≡ true → Held (suc n) (record { furthest = f n; place = Some n; next = c.furthest })
    further e = record {
      place = omega arith;
      number = a_number c.furthest (f n) e;
      next_number = H.number;
      order = back;
      reached = more_is (record { furthest = f n; place = Some n; next = c.furthest })
          (λ y. ap (λ (b : Bool). reaches y (cond b c.furthest (f n))) (eq-eqb n n refl))
          (λ j k y. ap (λ (b : Bool). reaches y (cond b c.furthest (f n))) k ∙ taken j y);
    }
      where
        back : lt (f n) c.furthest ≡ false
        back = less_one_way c.furthest (f n) e

        taken : (j : ℕ) (y : Float) → reaches y (f n) ≡ (reaches y (furthest_without c j) && reaches y (f n))
        taken j y =
            not_past y (f n) (furthest_without c j) (a_number c.furthest (f n) e)
            (by_test (λ x. lt (f n) x ≡ false) (is_at c.place j) c.next c.furthest
            (not_less_through (f n) c.furthest c.next H.number back H.order) back)
            ∙ and_comm (reaches y (f n)) (reaches y (furthest_without c j))

    -- and here it does not
    no_further : lt c.furthest (f n) ≡ false → Held (suc n) (record { furthest = c.furthest; place = c.place; next = upper_of c.next (f n) })
    no_further e = record {
      place = still c.place H.place;
      number = H.number;
      next_number = next (lt c.next (f n)) refl;
      order = by_test (λ x. lt c.furthest x ≡ false) (lt c.next (f n)) (f n) c.next e H.order;
      reached = more_is (record { furthest = c.furthest; place = c.place; next = upper_of c.next (f n) })
          (λ y. ap (λ (b : Bool). reaches y (cond b (upper_of c.next (f n)) c.furthest)) (elsewhere n c.place H.place))
          (λ j k y. left (is_at c.place j) y);
    }
      where
        still : (p : Option ℕ) → Below n p → Below (suc n) p
        still None l = l
        still (Some p) l = omega arith

        next : (b : Bool) → lt c.next (f n) ≡ b → is_nan (cond b (f n) c.next) ≡ false
        next true k = a_number c.next (f n) k
        next false k = H.next_number

        left : (b : Bool) (y : Float) → reaches y (cond b (upper_of c.next (f n)) c.furthest) ≡ (reaches y (cond b c.next c.furthest) && reaches y (f n))
        left true y = upper_reached y c.next (f n) H.next_number
        left false y = not_past y c.furthest (f n) H.number e

    one_more : Held (suc n) (with_cut c (f n) n)
    unfolding with_cut
    one_more = go (lt c.furthest (f n)) refl
      where
        go : (b : Bool) → lt c.furthest (f n) ≡ b
            → Held (suc n) (cond b (record { furthest = f n; place = Some n; next = c.furthest }) (record { furthest = c.furthest; place = c.place; next = upper_of c.next (f n) }))
        go true e = further e
        go false e = no_further e

  pub held : (n : ℕ) → Held n (cut_below f n)
  unfolding cut_below every_below is_nan
  held zero = record {
    place = tt;
    number = refl;
    next_number = refl;
    order = nothing_before (inf true);
    reached = λ j y. by_test (λ x. reaches y x ≡ true) false (inf true) (inf true) (ap not (nothing_before y)) (ap not (nothing_before y));
  }
  held (suc n) = one_more n (cut_below f n) (held n)
