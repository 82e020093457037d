-- Bytes as whole numbers, and numbers put from bytes one after the other. Assumes nothing.
use Rattle.std.proofs.Common.{◌≡◌, ℕ, zero, suc, ◌+◌, ◌-◌, ◌*◌, ◌<◌, ◌≤◌, Bool, cond, List, [], ◌∷◌, ◌++◌, length, get_or, take, drop, set, None, Option, Some, MatchOption, sym, refl, ap, ◌∙◌, append_assoc, add-one, arith, drop-cons, le-leb, take_all, length-take-le, length-drop, drop-drop, ◌/◌}
use borrow.Author.Tests.{lt-leb}
use native.Mathlib.Nat.{pow-succ'}
use Rattle.std.specs.Simd.{first_chunks}
use Rattle.std.specs.Int.{byte_worth, sum_through}
use lib.Seq.{set_at}
use lib.Ieee.{Float, nan}
use Rattle.number.specs.Bytes.{little_endian, word_at, f64_at, numbers_at, loaded}

-- ---- words

-- one byte more, at the end
worth_more : (k x : ℕ) → byte_worth (suc k) x ≡ 256 * byte_worth k x
worth_more zero x = omega arith
worth_more (suc k) x = let e = ap (λ (p : ℕ). x * p) (pow-succ' 256 (suc k)) in omega (arith, e)

last_byte : (w : List ℕ) (k : ℕ) → little_endian (take (suc k) w) ≡ little_endian (take k w) + byte_worth k (get_or w k 0)
unfolding little_endian
last_byte [] zero = refl
last_byte [] (suc k) = omega arith
last_byte (b ∷ w) zero = omega arith
last_byte (b ∷ w) (suc k) = omega (arith, last_byte w k, worth_more k (get_or w k 0))

-- the bytes in their places, the lowest first
pub in_places : (w : List ℕ) (k : ℕ) → sum_through (λ i. byte_worth i (get_or w i 0)) k ≡ little_endian (take (suc k) w)
unfolding little_endian
in_places w zero = omega (arith, last_byte w 0)
in_places w (suc k) = ap (λ (n : ℕ). n + byte_worth (suc k) (get_or w (suc k) 0)) (in_places w k) ∙ sym (last_byte w (suc k))

module _ (b : List ℕ) (i n : ℕ) where
  pub is_there : i + n ≤ length b → little_endian (take n (drop i b)) ≡ word_at n b i
  unfolding word_at
  is_there h = sym (ap (λ (t : Bool). cond t (little_endian (take n (drop i b))) 0) (le-leb _ _ h))

  pub not_there : length b < i + n → 0 ≡ word_at n b i
  unfolding word_at
  not_there h = sym (ap (λ (t : Bool). cond t (little_endian (take n (drop i b))) 0) (lt-leb _ _ h))

-- what is read of n bytes, where they are all there, and 0 where not
pub read : (b : List ℕ) (i n x none : ℕ) (r : Option (List ℕ)) → none ≡ 0 → MatchOption r (length b < i + suc n) (λ w. (i + suc n ≤ length b) × (w ≡ take (suc n) (drop i b)))
    → MatchOption r (x ≡ none) (λ w. x ≡ sum_through (λ k. byte_worth k (get_or w k 0)) n) → x ≡ word_at (suc n) b i
read b i n x none None o h e = e ∙ o ∙ not_there b i (suc n) h
read b i n x none (Some w) o h e =
    e ∙ in_places w n
    ∙ ap (λ (l : List ℕ). little_endian l) (take_all (suc n) w (omega (arith, ap length h.1, length-take-le (suc n) (drop i b), length-drop i b)) ∙ h.1)
    ∙ is_there b i (suc n) h.0

-- the bytes from a place on, eight at a time
chunk_at : (n k : ℕ) (l : List ℕ) (j : ℕ) (d : List ℕ) → j < k → get_or (first_chunks n k l) j d ≡ take n (drop (n * j) l)
chunk_at n zero l j d h = absurd (omega arith)
chunk_at n (suc k) l zero d h = ap (λ (i : ℕ). take n (drop i l)) {x = 0} {y = n * 0} (omega arith)
chunk_at n (suc k) l (suc j) d h =
    chunk_at n k (drop n l) j d (omega arith) ∙ ap (take n) (drop-drop (n * j) n l) ∙ ap (λ (i : ℕ). take n (drop i l)) {x = n + n * j} {y = n * suc j} (omega arith)

pub eighth : (b : List ℕ) (words : List (List ℕ)) (i k n x : ℕ) (d : List ℕ)
    → words ≡ first_chunks 8 (length (take (length b - i) (drop i b)) / 8) (take (length b - i) (drop i b))
    → i ≤ length b → n ≤ (length b - i) / 8 → k < n → x ≡ sum_through (λ n. byte_worth n (get_or (get_or words k d) n 0)) 7 → x ≡ word_at 8 b (i + 8 * k)
eighth b words i k n x d p g m h e =
    let chunks = first_chunks 8 (length (drop i b) / 8) (drop i b) in
    let whole : take (length b - i) (drop i b) ≡ drop i b = take_all _ _ (omega (arith, length-drop i b)) in
    let front : words ≡ chunks = rw whole at p in
    let word : get_or words k d ≡ take 8 (drop (i + 8 * k) b) =
    ap (λ (l : List (List ℕ)). get_or l k d) front
    ∙ chunk_at 8 (length (drop i b) / 8) (drop i b) k d (omega (arith, length-drop i b))
    ∙ ap (take 8) (drop-drop (8 * k) i b) in
    e ∙ in_places (get_or words k d) 7
    ∙ ap (λ (l : List ℕ). little_endian l) (take_all 8 (get_or words k d) (omega (arith, ap length word, length-take-le 8 (drop (i + 8 * k) b), length-drop (i + 8 * k) b)) ∙ word)
    ∙ is_there b (i + 8 * k) 8 (omega arith)

-- ---- numbers, one after the other

pub as_many : (b : List ℕ) (i n : ℕ) → length (numbers_at b i n) ≡ n
unfolding numbers_at
as_many b i zero = refl
as_many b i (suc n) = ap suc (as_many b (i + 8) n)

last_number : (b : List ℕ) (i n : ℕ) → numbers_at b i (suc n) ≡ numbers_at b i n ++ (f64_at b (i + 8 * n) ∷ [])
unfolding numbers_at
last_number b i zero = ap (λ (k : ℕ). f64_at b k ∷ []) (omega arith)
last_number b i (suc n) =
    let e : i + 8 + 8 * n ≡ i + 8 * suc n = omega arith in
    ap (λ (l : List Float). f64_at b i ∷ l) (last_number b (i + 8) n ∙ ap (λ (k : ℕ). numbers_at b (i + 8) n ++ (f64_at b k ∷ [])) e)

pub number_at_lem : (b : List ℕ) (i n k : ℕ) → k < n → get_or (numbers_at b i n) k nan ≡ f64_at b (i + 8 * k)
unfolding numbers_at
number_at_lem b i (suc n) zero h = ap (f64_at b) (omega arith)
number_at_lem b i (suc n) (suc k) h = number_at_lem b (i + 8) n k (omega arith) ∙ ap (f64_at b) (omega arith)
number_at_lem b i zero k h = absurd (omega arith)

module _ (b : List ℕ) (i : ℕ) (out : List Float) where
  -- the first n places hold numbers from the bytes
  abbrev pub filled : ℕ → List Float
  filled n = numbers_at b i n ++ drop n out

  pub none_filled : out ≡ filled 0
  unfolding numbers_at
  none_filled = refl

  pub one_more : (n : ℕ) (l : List Float) (x : Float) → n < length out → l ≡ filled n → x ≡ f64_at b (i + 8 * n) → set l n x ≡ filled (n + 1)
  one_more n l x h e p =
      ap (λ (t : List Float). set t n x) (e ∙ ap (λ (t : List Float). numbers_at b i n ++ t) (drop-cons out n nan h))
      ∙ set_at (numbers_at b i n) (get_or out n nan) (drop (suc n) out) x n (as_many b i n)
      ∙ ap (λ (y : Float). numbers_at b i n ++ y ∷ drop (suc n) out) p
      ∙ sym (append_assoc (numbers_at b i n) (f64_at b (i + 8 * n) ∷ []) (drop (suc n) out))
      ∙ ap (λ (t : List Float). t ++ drop (suc n) out) (sym (last_number b i n))
      ∙ ap filled (sym (add-one n))

  pub all_there : i + 8 * length out ≤ length b → loaded b i out ≡ numbers_at b i (length out)
  all_there h = ap (λ (t : Bool). cond t (numbers_at b i (length out)) out) (le-leb _ _ h)
