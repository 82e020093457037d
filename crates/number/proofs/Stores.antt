-- What a slice holds after numbers were stored into it, by its length. Assumes nothing.
use Rattle.std.proofs.Common.{◌≡◌, ℕ, ◌+◌, ◌≤◌, Bool, true, false, cond, T, eqb, leb, List, ◌++◌, length, take, drop, refl, ap, ◌∙◌, append-nil, arith, le→leb, eqb→eq, leb→le, length-append, drop_of_length-le, length-take-le, drop_at}
use lib.Ieee.{Float}
use lib.Ieee.Bits.{is_true}
use lib.Ieee.Fits.{eq→eqb}
use Rattle.number.specs.Slice.{stored_at, stored}

-- a choice by a test that fails
refused : {A : Type 0} (b : Bool) (x y : A) → (T b → ⊥) → cond b x y ≡ y
refused true x y n = absurd (n tt)
refused false x y n = refl

pub other_length : (v out : List Float) → (length v ≡ length out → ⊥) → stored v out ≡ out
other_length v out n = refused (eqb (length v) (length out)) v out (λ t. n (eqb→eq (length v) (length out) t))

pub same_room : (v out : List Float) → length v ≡ length out → stored v out ≡ v
same_room v out e = ap (λ (b : Bool). cond b v out) (is_true (eqb (length v) (length out)) (eq→eqb e))

module _ (v : List Float) (n : ℕ) (out : List Float) where
  pub no_room_there : (n + length v ≤ length out → ⊥) → stored_at v n out ≡ out
  no_room_there f = refused (leb (n + length v) (length out)) (take n out ++ v ++ drop (n + length v) out) out (λ t. f (leb→le (n + length v) (length out) t))

  pub room_there : n + length v ≤ length out → stored_at v n out ≡ take n out ++ v ++ drop (n + length v) out
  room_there h = ap (λ (b : Bool). cond b (take n out ++ v ++ drop (n + length v) out) out) (is_true (leb (n + length v) (length out)) (le→leb (n + length v) (length out) h))

pub stored_all : (v out : List Float) → length v ≡ length out → stored_at v 0 out ≡ v
stored_all v out e = room_there v 0 out (omega (arith, e)) ∙ ap (λ (l : List Float). v ++ l) (drop_of_length-le out {i = 0 + length v} (omega (arith, e))) ∙ append-nil v

-- a slice filled in two parts, the second of them first
pub in_two_parts : (a b out : List Float) → length a + length b ≡ length out → stored_at a 0 (stored_at b (length a) out) ≡ a ++ b
in_two_parts a b out e =
    let n = length a in
    let kept = length-take-le n out (omega (arith, e)) in
    let second : stored_at b n out ≡ take n out ++ b =
    room_there b n out (omega (arith, e)) ∙ ap (λ (l : List Float). take n out ++ b ++ l) (drop_of_length-le out {i = n + length b} (omega (arith, e))) ∙ append-nil (take n out ++ b) in
    ap (stored_at a 0) second
    ∙ room_there a 0 (take n out ++ b) (omega (arith, length-append (take n out) b, kept))
    ∙ ap (λ (l : List Float). a ++ l) (drop_at (take n out) b (0 + n) (omega (arith, kept)))
