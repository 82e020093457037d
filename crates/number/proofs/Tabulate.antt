-- The values of a function below a limit, read one after another by their places. Assumes nothing.
use Rattle.std.proofs.Common.{◌≡◌, ℕ, zero, suc, ◌+◌, ◌-◌, ◌<◌, ◌≤◌, Bool, true, List, [], ◌∷◌, ◌++◌, map, length, take, drop, sym, refl, ap, ◌∙◌, ap₂, add-one, arith, length-drop, drop_of_length-le}
use Rattle.number.specs.Every.{every}
use Rattle.number.specs.Tabulate.{tabulate}
use Rattle.number.proofs.Tests.{both_hold}

module _ {A : Type 0} where
  pub as_many : (f : ℕ → A) (n : ℕ) → length (tabulate f n) ≡ n
  unfolding tabulate
  as_many f zero = refl
  as_many f (suc n) = ap suc (as_many (λ i. f (suc i)) n)

  from : (f : ℕ → A) (n i : ℕ) → i < n → drop i (tabulate f n) ≡ f i ∷ drop (suc i) (tabulate f n)
  unfolding tabulate
  from f (suc n) zero h = refl
  from f (suc n) (suc i) h = from (λ j. f (suc j)) n i (omega arith)
  from f zero i h = absurd (omega arith)

  -- behind the first i of them comes that at i
  pub next : (f : ℕ → A) (n i : ℕ) (x : A) → i < n → x ≡ f i → drop i (tabulate f n) ≡ x ∷ drop (i + 1) (tabulate f n)
  next f n i x h e = from f n i h ∙ (λ t. sym e t ∷ drop (sym (add-one i) t) (tabulate f n))

  -- behind all of them comes none
  pub none : (f : ℕ → A) (n i : ℕ) → n ≤ i → drop i (tabulate f n) ≡ []
  none f n i e = drop_of_length-le (tabulate f n) {i = i} (omega (arith, as_many f n))

  pub left_count : (f : ℕ → A) (n i : ℕ) → length (drop i (tabulate f n)) ≡ n - i
  left_count f n i = length-drop i (tabulate f n) ∙ ap (λ (k : ℕ). k - i) (as_many f n)

  -- one more is put behind those before it
  pub last : (f : ℕ → A) (n : ℕ) → tabulate f (suc n) ≡ tabulate f n ++ (f n ∷ [])
  unfolding tabulate
  last f zero = refl
  last f (suc n) = ap (λ (l : List A). f 0 ∷ l) (last (λ i. f (suc i)) n)

  -- the first k of them
  pub first : (f : ℕ → A) (n k : ℕ) → k ≤ n → take k (tabulate f n) ≡ tabulate f k
  unfolding tabulate
  first f n zero h = refl
  first f (suc n) (suc k) h = ap (λ (l : List A). f 0 ∷ l) (first (λ i. f (suc i)) n k (omega arith))
  first f zero (suc k) h = absurd (omega arith)

  -- two functions that have the same values below n
  pub same_values : (f g : ℕ → A) (n : ℕ) → ((i : ℕ) → i < n → f i ≡ g i) → tabulate f n ≡ tabulate g n
  unfolding tabulate
  same_values f g zero h = refl
  same_values f g (suc n) h = ap₂ (λ (x : A) (l : List A). x ∷ l) (h 0 (omega arith)) (same_values (λ i. f (suc i)) (λ i. g (suc i)) n (λ i l. h (suc i) (omega arith)))

  -- where all of them pass a test, that at i does
  pub passes_at : (test : A → Bool) (f : ℕ → A) (n : ℕ) → every test (tabulate f n) ≡ true → (i : ℕ) → i < n → test (f i) ≡ true
  unfolding tabulate every
  passes_at test f zero h i l = absurd (omega arith)
  passes_at test f (suc n) h zero l = (both_hold (test (f 0)) (every test (tabulate (λ j. f (suc j)) n)) h).0
  passes_at test f (suc n) h (suc i) l = passes_at test (λ j. f (suc j)) n (both_hold (test (f 0)) (every test (tabulate (λ j. f (suc j)) n)) h).1 i (omega arith)

-- two functions of the values that are the same at each
pub same_of_each : {A B : Type 0} (g h : A → B) (f : ℕ → A) (n : ℕ) → ((i : ℕ) → i < n → g (f i) ≡ h (f i)) → map g (tabulate f n) ≡ map h (tabulate f n)
unfolding tabulate
same_of_each g h f zero e = refl
same_of_each {A} {B} g h f (suc n) e = ap₂ (λ (x : B) (l : List B). x ∷ l) (e 0 (omega arith)) (same_of_each g h (λ i. f (suc i)) n (λ i l. e (suc i) (omega arith)))
