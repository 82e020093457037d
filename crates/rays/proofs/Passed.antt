-- What comes of the rays, filled in ray by ray: those passed and those left make all. Assumes nothing.
use Rattle.std.specs.Prelude.{None, Option, Some, Result, Ok, Err}
use mathlib.Core.Path.{◌≡◌, refl, sym, ap, ◌∙◌}
use mathlib.Core.Bool.{Bool, true, false, cond}
use mathlib.Core.List.{List, [], ◌∷◌, ◌++◌, map, flatten, append-nil, append_assoc}
use Prim.Native.Nat.{ℕ, ◌+◌, ◌*◌, ◌<◌, ◌≤◌}
use native.Mathlib.Numerals.{add-one}
use native.Mathlib.Nat.{mul-le-mul_right}
use native.Mathlib.Omega.{arith}
use lib.Dec.{eqb}
use lib.ListN.{length, length-append, length-drop, take, drop, set}
use lib.Seq.{length-take-le, take-suc-set, take_all, take_at, take-append-le, drop-append-le}
use lib.Ieee.{Float}
use Rattle.number.specs.Limits.{ray_length, hit_length}
use Rattle.number.specs.Answer.{answered, unless}
use Rattle.number.specs.Records.{record_at, records}
use Rattle.number.proofs.Tabulate.{next, none}
use Rattle.number.proofs.ListLoops.{filled, one_filled, all_filled}
use Rattle.number.specs.declared.answer.Refusal.{Refusal}
use Rattle.number.specs.declared.answer.Refusal.TheVariants.{Miss}
use Rattle.verdict.specs.Ray.{triangle_numbers, hit_in}
use Rattle.verdict.specs.declared.ray.Meeting.{Meeting}
use Rattle.verdict.specs.declared.ray.TriangleHit.{TriangleHit}
use Rattle.rays.specs.Rays.{no_hit, landed, hit_numbers}
use Rattle.rays.specs.Steps.{hit_status, meeting_numbers, cleared}

-- ---- what a meeting comes to

decided : (b : Bool) (h : TriangleHit) → landed (unless b (Err Miss) (Ok h)) ≡ answered (hit_status b) (cond (eqb (hit_status b) 0) (triangle_numbers h) no_hit)
decided true h = refl
decided false h = refl

comes_to : (m : Meeting) (h : Result TriangleHit Refusal) → hit_in m ≡ h → landed h ≡ answered (hit_status m.hit) (cond (eqb (hit_status m.hit) 0) (meeting_numbers m) no_hit)
comes_to m h e = sym (ap landed e) ∙ decided m.hit m.numbers

-- ---- cleared, with one ray more

one_more : (ks : List ℕ) (k : ℕ) (a v : List Float) → length a ≡ length ks * hit_length → length v ≡ hit_length
    → cleared (ks ++ (k ∷ [])) (a ++ v) ≡ cleared ks a ++ cond (eqb k 0) v no_hit
one_more [] k [] v p q =
    append-nil (cond (eqb k 0) (take hit_length v) no_hit) ∙ ap (λ (l : List Float). cond (eqb k 0) l no_hit) (take_all hit_length v (omega (arith, q)))
one_more [] k (x ∷ a) v p q = absurd (omega (arith, p))
one_more (j ∷ ks) k a v p q =
    let l = length-drop hit_length a in
    (λ t. cond (eqb j 0) (take-append-le hit_length a v (omega (arith, p)) t) no_hit ++ cleared (ks ++ (k ∷ [])) (drop-append-le hit_length a v (omega (arith, p)) t))
    ∙ ap (λ (r : List Float). cond (eqb j 0) (take hit_length a) no_hit ++ r) (one_more ks k (drop hit_length a) v (omega (arith, p, l)) q)
    ∙ sym (append_assoc (cond (eqb j 0) (take hit_length a) no_hit) (cleared ks (drop hit_length a)) (cond (eqb k 0) v no_hit))

-- ---- the loop

module _ (f : List Float → Result TriangleHit Refusal) (n : ℕ) (s : List Float) where
  abbrev rays : List (List Float)
  rays = records ray_length n s

  abbrev told : List Float → ℕ
  told r = (landed (f r)).status

  -- with the slots, and the numbers, of the rays from i on behind those in front
  abbrev pub all_slots : List ℕ → ℕ → List ℕ
  all_slots slots i = filled told rays slots i

  abbrev pub all_numbers_lem : List ℕ → List Float → ℕ → List Float
  all_numbers_lem slots out i = cleared (take i slots) (take (i * hit_length) out) ++ hit_numbers (map f (drop i rays))

  -- the numbers of ray i, stored at their place
  abbrev pub stored_hit : List Float → ℕ → Meeting → List Float
  stored_hit out i m = take (i * hit_length) out ++ meeting_numbers m ++ drop (i * hit_length + hit_length) out

  front_length : (out : List Float) (i : ℕ) (m : Meeting) → i * hit_length + hit_length ≤ length out → length (take (i * hit_length) out ++ meeting_numbers m) ≡ (i + 1) * hit_length
  front_length out i m h = omega (arith, length-append (take (i * hit_length) out) (meeting_numbers m), length-take-le (i * hit_length) out (omega arith))

  pub stored_length : (out : List Float) (i : ℕ) (m : Meeting) → i * hit_length + hit_length ≤ length out → length (stored_hit out i m) ≡ length out
  stored_length out i m h =
      omega (arith, length-append (take (i * hit_length) out ++ meeting_numbers m) (drop (i * hit_length + hit_length) out), front_length out i m h, length-drop (i * hit_length + hit_length) out)

  module _ (slots : List ℕ) (i k : ℕ) (m : Meeting) (h : i < length slots) (j : i < n) (z : k ≡ hit_status m.hit) (e : hit_in m ≡ f (record_at ray_length s i)) where
    next_ray : drop i rays ≡ record_at ray_length s i ∷ drop (i + 1) rays
    next_ray = next (record_at ray_length s) n i _ j refl

    pub slot_passed : all_slots (set slots i k) (i + 1) ≡ all_slots slots i
    slot_passed = one_filled told rays slots i (record_at ray_length s i) k h next_ray (z ∙ sym (ap (λ r. r.status) (comes_to m (f (record_at ray_length s i)) e)))

    pub number_passed : (out : List Float) → i * hit_length + hit_length ≤ length out → all_numbers_lem (set slots i k) (stored_hit out i m) (i + 1) ≡ all_numbers_lem slots out i
    unfolding flatten
    number_passed out g =
        let front_slots = ap (λ (j : ℕ). take j (set slots i k)) (add-one i) ∙ take-suc-set slots i k h in
        let front = take_at (take (i * hit_length) out ++ meeting_numbers m) (drop (i * hit_length + hit_length) out) ((i + 1) * hit_length) (front_length out i m g) in
        let even : length (take (i * hit_length) out) ≡ length (take i slots) * hit_length =
        omega (arith, length-take-le (i * hit_length) out (omega arith), length-take-le i slots (omega arith)) in
        let left = hit_numbers (map f (drop (i + 1) rays)) in
        (λ t. cleared (front_slots t) (front t) ++ left)
        ∙ ap (λ (a : List Float). a ++ left) (one_more (take i slots) k (take (i * hit_length) out) (meeting_numbers m) even refl)
        ∙ append_assoc (cleared (take i slots) (take (i * hit_length) out)) (cond (eqb k 0) (meeting_numbers m) no_hit) left
        ∙ ap (λ (v : List Float). cleared (take i slots) (take (i * hit_length) out) ++ (v ++ left))
        (ap (λ (x : ℕ). cond (eqb x 0) (meeting_numbers m) no_hit) z ∙ sym (ap (λ r. r.out) (comes_to m (f (record_at ray_length s i)) e)))
        ∙ sym (ap (λ (rs : List (List Float)). cleared (take i slots) (take (i * hit_length) out) ++ hit_numbers (map f rs)) next_ray)

  pub slots_passed : (slots : List ℕ) (i : ℕ) → length slots ≡ n → n ≤ i → slots ≡ all_slots slots i
  slots_passed slots i room h = all_filled told rays slots i (omega (arith, room)) (none (record_at ray_length s) n i h)

  pub numbers_passed : (slots : List ℕ) (out : List Float) (i : ℕ) → length slots ≡ n → length out ≡ n * hit_length → n ≤ i → cleared slots out ≡ all_numbers_lem slots out i
  unfolding flatten
  numbers_passed slots out i many room h =
      sym
      (ap (λ (rs : List (List Float)). cleared (take i slots) (take (i * hit_length) out) ++ hit_numbers (map f rs)) (none (record_at ray_length s) n i h)
      ∙ append-nil (cleared (take i slots) (take (i * hit_length) out))
      ∙ (λ t. cleared (take_all i slots (omega arith) t) (take_all (i * hit_length) out (omega (arith, room, mul-le-mul_right hit_length h)) t)))
