-- Bytes put into a text or pushed to one, one part behind the other; lines one behind the other. Assumes nothing.
use mathlib.Core.Path.{◌≡◌, refl, sym, ap, subst, ◌∙◌}
use mathlib.Core.Bool.{Bool, true, false, cond}
use mathlib.Core.List.{List, [], ◌∷◌, ◌++◌, append_assoc, append-nil}
use Prim.Native.Nat.{ℕ, zero, suc, ◌+◌, ◌-◌, ◌*◌, ◌/◌, ◌%◌, ◌≤◌, ◌<◌}
use native.Mathlib.Omega.{arith}
use borrow.Author.Tests.{ltb-true, ltb-false, le-leb, lt-leb}
use lib.Dec.{ltb, leb}
use lib.ListN.{length, length-append, length-drop, take, drop, take-append-drop, replicate}
use lib.Seq.{length-take-le, take_at, drop_at, drop-append-add, drop-drop}
use Rattle.farm.specs.Text.{decimal, lines_from, inserted, Puts, text_room, padded, Added, Pushed}
use Rattle.farm.specs.Lines.{yes_or_no, line}
use Rattle.farm.specs.Steps.{Put, line_room}

-- ---- what is put

module _ (t : List ℕ) (at : ℕ) (h : at ≤ length t) (a b : List ℕ) where
  as_long : length (take at t ++ a) ≡ at + length a
  as_long = length-append (take at t) a ∙ ap (λ (n : ℕ). n + length a) (length-take-le at t h)

  rest : drop (at + length a + length b) (inserted t at a) ≡ drop (at + length (a ++ b)) t
  rest =
      let d = drop (at + length a) t in
      let e : at + length a + length b ≡ at + length (a ++ b) = omega (arith, length-append a b) in
      ap (λ (n : ℕ). drop (n + length b) (take at t ++ a ++ d)) (sym as_long)
      ∙ drop-append-add (take at t ++ a) d (length b) ∙ drop-drop (length b) (at + length a) t
      ∙ ap (λ (n : ℕ). drop n t) e

  -- one part, and the next behind it
  pub both : inserted (inserted t at a) (at + length a) b ≡ inserted t at (a ++ b)
  both =
      ap (λ (l : List ℕ). l ++ b ++ drop (at + length a + length b) (inserted t at a)) (take_at (take at t ++ a) (drop (at + length a) t) (at + length a) as_long)
      ∙ ap (λ (l : List ℕ). take at t ++ a ++ b ++ l) rest
      ∙ ap (λ (l : List ℕ). l ++ drop (at + length (a ++ b)) t) (append_assoc (take at t) a b)

pub length_inserted : (t : List ℕ) (at : ℕ) (a : List ℕ) → at + length a ≤ length t → length (inserted t at a) ≡ length t
length_inserted t at a h =
    let front = as_long t at (omega (arith, h)) a [] in
    length-append (take at t ++ a) (drop (at + length a) t) ∙ omega (arith, front, length-drop (at + length a) t)

-- what was put in front of a text is the front of it
pub in_front : (t s : List ℕ) (n : ℕ) → n ≡ length s → take n (inserted t 0 s) ≡ s
in_front t s n e = take_at s (drop (0 + length s) t) n (sym e)

-- ---- what is added

pub none_added : (t : List ℕ) → Added t [] t
none_added t = record { room = λ h. sym (append-nil t) }

-- one part, and the next behind it
pub added_then : {t a l b m : List ℕ} → Added t a l → Added l b m → Added t (a ++ b) m
added_then {t} {a} {l} {b} {m} p q =
    record {
      room = λ h.
          let e : l ≡ t ++ a = p.room (omega (arith, h, length-append a b)) in
          let f : m ≡ l ++ b = q.room (omega (arith, h, length-append a b, ap length e, length-append t a)) in
          f ∙ ap (λ (x : List ℕ). x ++ b) e ∙ append_assoc t a b;
    }

pub added_meant : {t l : List ℕ} (a b : List ℕ) → a ≡ b → Added t a l → Added t b l
added_meant {t} {l} a b e p = record { room = λ h. p.room (omega (arith, h, ap length e)) ∙ ap (λ (x : List ℕ). t ++ x) e }

pub pushed_meant : {t l : List ℕ} (a b : List ℕ) → a ≡ b → Pushed t a l → Pushed t b l
pushed_meant {t} {l} a b e p = subst (λ (x : List ℕ). Pushed t x l) e p

pub none_pushed : (t : List ℕ) → Pushed t [] t
none_pushed t = record { added = none_added t; full = λ h. refl }

-- what an empty text holds then
pub whole : {a l : List ℕ} → Added [] a l → length a ≤ text_room → l ≡ a
whole p h = p.room (omega (arith, h))

-- ---- lines

pub short_decimal : (n : ℕ) → length (decimal n) ≤ 2
unfolding decimal
short_decimal n = by_digits (ltb n 10) (ltb n 100)
  where
    by_digits : (b c : Bool) → length (cond b ((48 + n) ∷ []) (cond c ((48 + n / 10) ∷ (48 + n % 10) ∷ []) [])) ≤ 2
    by_digits true c = omega arith
    by_digits false true = omega arith
    by_digits false false = omega arith

module _ {A : Type 0} (line : ℕ → A → List ℕ) where
  lines_both : (k : ℕ) (a b : List A) → lines_from line k (a ++ b) ≡ lines_from line k a ++ lines_from line (k + length a) b
  unfolding lines_from
  lines_both k [] b = let e : k ≡ k + 0 = omega arith in ap (λ (n : ℕ). lines_from line n b) e
  lines_both k (x ∷ a) b =
      let e : suc k + length a ≡ k + suc (length a) = omega arith in
      ap (λ (l : List ℕ). line k x ++ l) (lines_both (suc k) a b ∙ ap (λ (n : ℕ). lines_from line (suc k) a ++ lines_from line n b) e)
      ∙ sym (append_assoc (line k x) (lines_from line (suc k) a) (lines_from line (k + suc (length a)) b))

  -- one line more
  pub lines_more : (k : ℕ) (xs : List A) (x : A) → lines_from line k (xs ++ (x ∷ [])) ≡ lines_from line k xs ++ line (k + length xs) x
  unfolding lines_from
  lines_more k xs x = lines_both k xs (x ∷ []) ∙ ap (λ (l : List ℕ). lines_from line k xs ++ l) (append-nil (line (k + length xs) x))

pub short_line : (k : ℕ) (v : Bool) → length (line k v) ≤ line_room
unfolding line
short_line k true = omega (arith, length-append (decimal k) (yes_or_no true), short_decimal k)
short_line k false = omega (arith, length-append (decimal k) (yes_or_no false), short_decimal k)

pub short_lines : (k : ℕ) (vs : List Bool) → length (lines_from line k vs) ≤ line_room * length vs
unfolding lines_from
short_lines k [] = omega arith
short_lines k (v ∷ vs) = omega (arith, length-append (line k v) (lines_from line (suc k) vs), short_line k v, short_lines (suc k) vs)

-- bytes in place of as many of a text, from a place on
pub part_put : (t : List ℕ) (at : ℕ) (s ys : List ℕ) → ys ≡ s → take at t ++ (ys ++ drop (at + length s - at) (drop at t)) ≡ inserted t at s
part_put t at s ys e =
    let n : at + length s - at ≡ length s = omega arith in
    ap (λ (l : List ℕ). take at t ++ (l ++ drop (at + length s - at) (drop at t))) e ∙ ap (λ (k : ℕ). take at t ++ (s ++ drop k (drop at t))) n
    ∙ sym (append_assoc (take at t) s (drop (length s) (drop at t))) ∙ ap (λ (l : List ℕ). take at t ++ s ++ l) (drop-drop (length s) at t)

-- ---- what putting answers and leaves

module _ (t : List ℕ) (at : ℕ) (a : List ℕ) (r : ℕ) (l : List ℕ) (p : Put t at a r l) where
  pub put_then : (b : List ℕ) (r' : ℕ) (l' : List ℕ) → at ≤ length t → Put l r b r' l' → Put t at (a ++ b) r' l'
  put_then b r' l' h q = (
    omega (arith, p.0, q.0, length-append a b),
    q.1 ∙ ap (λ (x : List ℕ). inserted x r b) p.1 ∙ ap (λ (n : ℕ). inserted (inserted t at a) n b) p.0 ∙ both t at h a b,
  )

  pub put_meant : (s : List ℕ) → a ≡ s → Put t at s r l
  put_meant s e = (p.0 ∙ ap (λ (x : List ℕ). at + length x) e, p.1 ∙ ap (inserted t at) e)

  pub put_length : at + length a ≤ length t → length l ≡ length t
  put_length h = ap length p.1 ∙ length_inserted t at a h

module _ (t : List ℕ) (at : ℕ) (s : List ℕ) where
  -- with room for the bytes they are put
  pub has_room_lem : (r : ℕ) (l : List ℕ) → at + length s ≤ length t → Puts t at s r l → Put t at s r l
  has_room_lem r l h p =
      let e = le-leb _ _ h in
      (p.0 ∙ ap (λ (b : Bool). cond b (at + length s) at) e, p.1 ∙ ap (λ (b : Bool). cond b (inserted t at s) t) e)

  pub puts_room : (r : ℕ) (l : List ℕ) → at + length s ≤ length t → Put t at s r l → Puts t at s r l
  puts_room r l h p =
      let e = le-leb _ _ h in
      (p.0 ∙ sym (ap (λ (b : Bool). cond b (at + length s) at) e), p.1 ∙ sym (ap (λ (b : Bool). cond b (inserted t at s) t) e))

  -- without room nothing is
  pub no_room : length t < at + length s → Puts t at s at t
  no_room h = let e = lt-leb _ _ h in (sym (ap (λ (b : Bool). cond b (at + length s) at) e), sym (ap (λ (b : Bool). cond b (inserted t at s) t) e))

  pub puts_meant : (u : List ℕ) (r : ℕ) (l : List ℕ) → s ≡ u → Puts t at s r l → Puts t at u r l
  puts_meant u r l e p = subst (λ (x : List ℕ). Puts t at x r l) e p

-- bytes behind those that were put, with room for both
module _ (t : List ℕ) (at : ℕ) (a : List ℕ) (r : ℕ) (l : List ℕ) (p : Put t at a r l) where
  pub put_next : (b : List ℕ) (r' : ℕ) (l' : List ℕ) → at + length a + length b ≤ length t → Puts l r b r' l' → Put t at (a ++ b) r' l'
  put_next b r' l' h q =
      put_then t at a r l p b r' l' (omega (arith, h)) (has_room_lem l r b r' l' (omega (arith, h, p.0, put_length t at a r l p (omega (arith, h)))) q)

-- no bytes are put anywhere
pub none_put : (t : List ℕ) (at : ℕ) → Puts t at [] at t
none_put t at = go (leb (at + 0) (length t))
  where
    same : t ≡ inserted t at []
    same =
        let e : at + 0 ≡ at = omega arith in
        sym (ap (λ (k : ℕ). take at t ++ [] ++ drop k t) e ∙ ap (λ (l : List ℕ). l ++ drop at t) (append-nil (take at t)) ∙ take-append-drop at t)

    go : (b : Bool) → (at ≡ cond b (at + 0) at) × (t ≡ cond b (inserted t at []) t)
    go true = (omega arith, same)
    go false = (refl, refl)

-- ---- a text with zeros behind it, to whose end bytes are put

length_zeros : (n : ℕ) → length {A = ℕ} (replicate n 0) ≡ n
length_zeros zero = refl
length_zeros (suc n) = ap suc (length_zeros n)

fewer_zeros : (k n : ℕ) → drop {A = ℕ} k (replicate n 0) ≡ replicate (n - k) 0
fewer_zeros zero n = let e : n ≡ n - 0 = omega arith in ap (λ (m : ℕ). replicate m 0) e
fewer_zeros (suc k) zero = let e : 0 ≡ 0 - suc k = omega arith in ap (λ (m : ℕ). replicate m 0) e
fewer_zeros (suc k) (suc n) = let e : n - k ≡ suc n - suc k = omega arith in fewer_zeros k n ∙ ap (λ (m : ℕ). replicate m 0) e

module _ (t : List ℕ) (n : ℕ) (h : n ≤ text_room) (e : length t ≡ text_room) (z : padded (take n t) ≡ t) (s : List ℕ) (r : ℕ) (l : List ℕ) (p : Puts t n s r l) where
  front_length : length (take n t) ≡ n
  front_length = length-take-le n t (omega (arith, h, e))

  put_there : n + length s ≤ text_room → Put t n s r l
  put_there g = has_room_lem t n s r l (omega (arith, g, e)) p

  left_alone : text_room < n + length s → (r ≡ n) × (l ≡ t)
  left_alone g =
      let f = lt-leb (n + length s) (length t) (omega (arith, g, e)) in
      (p.0 ∙ ap (λ (b : Bool). cond b (n + length s) n) f, p.1 ∙ ap (λ (b : Bool). cond b (inserted t n s) t) f)

  shown_then : n + length s ≤ text_room → take r l ≡ take n t ++ s
  shown_then g =
      let q = put_there g in
      ap (take r) q.1 ∙ ap (λ (k : ℕ). take k (inserted t n s)) q.0
      ∙ take_at (take n t ++ s) (drop (n + length s) t) (n + length s) (as_long t n (omega (arith, h, e)) s [])

  zeros_behind : drop n t ≡ replicate (text_room - n) 0
  zeros_behind =
      ap (drop n) (sym z) ∙ drop_at (take n t) (replicate (text_room - length (take n t)) 0) n front_length
      ∙ ap (λ (k : ℕ). replicate (text_room - k) 0) front_length

  -- it is that text with the bytes behind it, and without room for them as it was
  pub pushed_by_put : Pushed (take n t) s (take r l)
  pushed_by_put =
      record {
        added = record { room = λ g. shown_then (omega (arith, g, front_length)) };
        full = λ g. let q = left_alone (omega (arith, g, front_length)) in ap (take r) q.1 ∙ ap (λ (k : ℕ). take k t) q.0;
      }

  abbrev Kept : Type 0
  Kept = (r ≤ text_room) × (length l ≡ text_room) × (padded (take r l) ≡ l)

  put_kept : n + length s ≤ text_room → Kept
  put_kept g =
      let q = put_there g in
      let c : length (take n t ++ s) ≡ n + length s = as_long t n (omega (arith, h, e)) s [] in
      let d : replicate (text_room - length (take n t ++ s)) 0 ≡ drop (n + length s) t =
      ap (λ (k : ℕ). replicate k 0) (omega (arith, c)) ∙ sym (fewer_zeros (length s) (text_room - n))
      ∙ ap (drop (length s)) (sym zeros_behind) ∙ drop-drop (length s) n t in (
        omega (arith, g, q.0),
        ap length q.1 ∙ length_inserted t n s (omega (arith, g, e)) ∙ e,
        ap padded (shown_then g) ∙ ap (λ (x : List ℕ). (take n t ++ s) ++ x) d ∙ sym q.1,
      )

  left_kept : text_room < n + length s → Kept
  left_kept g =
      let q = left_alone g in (
        omega (arith, h, q.0),
        ap length q.1 ∙ e,
        ap (λ (x : List ℕ). padded (take r x)) q.1 ∙ ap (λ (k : ℕ). padded (take k t)) q.0 ∙ z ∙ sym q.1,
      )

  pub kept_by_put : (r ≤ text_room) × (length l ≡ text_room) × (padded (take r l) ≡ l)
  kept_by_put = by_room (ltb text_room (n + length s)) refl
    where
      by_room : (b : Bool) → ltb text_room (n + length s) ≡ b → Kept
      by_room true f = left_kept (ltb-true text_room (n + length s) f)
      by_room false f = put_kept (ltb-false text_room (n + length s) f)
