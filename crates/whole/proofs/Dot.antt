-- Dot products of whole numbers are commutative and linear. The idea: along each axis they are, and three sums are regrouped.
use mathlib.Core.Path.{◌≡◌, ◌∙◌}
use Prim.Native.Nat.{ℕ}
use native.Mathlib.Omega.{arith}
use lib.IntN.{ℤ, ◌+ℤ◌, ◌*ℤ◌, *ℤ_comm}
use Rattle.whole.proofs.Integer.{hi, lo, Of, of_self, of_sum, of_times, of_eq, times_sum}
use Rattle.whole.specs.Plane.{dotℤ}

pub dot_comm : (p q : ℕ → ℤ) → dotℤ p q ≡ dotℤ q p
dot_comm p q t = *ℤ_comm (p 0) (q 0) t +ℤ *ℤ_comm (p 1) (q 1) t +ℤ *ℤ_comm (p 2) (q 2) t

pub dot_sum : (n v w : ℕ → ℤ) → dotℤ n (λ i. v i +ℤ w i) ≡ dotℤ n v +ℤ dotℤ n w
dot_sum n v w = (λ t. along 0 t +ℤ along 1 t +ℤ along 2 t) ∙ regroup (n 0 *ℤ v 0) (n 1 *ℤ v 1) (n 2 *ℤ v 2) (n 0 *ℤ w 0) (n 1 *ℤ w 1) (n 2 *ℤ w 2)
  where
    along : (i : ℕ) → n i *ℤ (v i +ℤ w i) ≡ n i *ℤ v i +ℤ n i *ℤ w i
    along i = times_sum (n i) (v i) (w i)

    regroup : (a b c a' b' c' : ℤ) → a +ℤ a' +ℤ (b +ℤ b') +ℤ (c +ℤ c') ≡ a +ℤ b +ℤ c +ℤ (a' +ℤ b' +ℤ c')
    regroup a b c a' b' c' =
        let A = of_self a in
        let B = of_self b in
        let C = of_self c in
        let A' = of_self a' in
        let B' = of_self b' in
        let C' = of_self c' in
        of_eq (of_sum (of_sum (of_sum A A') (of_sum B B')) (of_sum C C')) (of_sum (of_sum (of_sum A B) C) (of_sum (of_sum A' B') C')) (omega arith)

pub dot_times : (n v : ℕ → ℤ) (k : ℤ) → dotℤ n (λ i. k *ℤ v i) ≡ k *ℤ dotℤ n v
dot_times n v k = (λ t. along 0 t +ℤ along 1 t +ℤ along 2 t) ∙ gather (n 0 *ℤ v 0) (n 1 *ℤ v 1) (n 2 *ℤ v 2)
  where
    K : Of (hi k) (lo k) k
    K = of_self k

    along : (i : ℕ) → n i *ℤ (k *ℤ v i) ≡ k *ℤ (n i *ℤ v i)
    along i =
        let N = of_self (n i) in
        let A = of_self (v i) in
        of_eq (of_times N (of_times K A)) (of_times K (of_times N A)) (omega arith)

    gather : (a b c : ℤ) → k *ℤ a +ℤ k *ℤ b +ℤ k *ℤ c ≡ k *ℤ (a +ℤ b +ℤ c)
    gather a b c =
        let A = of_self a in
        let B = of_self b in
        let C = of_self c in
        of_eq (of_sum (of_sum (of_times K A) (of_times K B)) (of_times K C)) (of_times K (of_sum (of_sum A B) C)) (omega arith)
