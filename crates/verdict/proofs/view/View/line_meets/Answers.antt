-- `View::line_meets` meets its contract: the rays asked decide. Assumes nothing.
use Rattle.std.proofs.Common.{◌≡◌, ℕ, zero, suc, ◌<◌, Bool, true, false, ◌||◌, List, length, sym, refl, ap, ◌∙◌, subst, rules, arith, zero-add}
use borrow.Author.Tests.{tests}
use Rattle.std.specs.Bool.{MatchBool}
use Rattle.std.specs.List.{range_with_len, AllWithin, HoldsAt}
use Rattle.std.proofs.lemmas.Iterator.{cases_from_any, YieldsList-from_range}
use Rattle.std.proofs.lemmas.List.FromFn.{get_or-range_with_len, length-range_with_len}
use Rattle.number.specs.Tabulate.{tabulate}
use Rattle.number.proofs.Tabulate.{first}
use Rattle.matrix.specs.declared.vec.Vec3d.{Vec3d}
use Rattle.verdict.specs.declared.ray.Ray.{Ray}
use Rattle.verdict.specs.Ray.{triangle_hit}
use Rattle.verdict.specs.View.{ray_count, ray_at}
use Rattle.verdict.specs.Frustum.{is_hit, some_hit}
use Rattle.verdict.proofs.view.View.line_meets.Goals as goal

module _ (a b c : Vec3d) where
  none_hits : (f : ℕ → Ray) (n : ℕ) → ((k : ℕ) → k < n → is_hit (triangle_hit (f k) a b c) ≡ false) → some_hit (tabulate f n) a b c ≡ false
  unfolding some_hit tabulate
  none_hits f zero h = refl
  none_hits f (suc n) h = rw (h 0 (omega arith)) (none_hits (λ i. f (suc i)) n (λ k l. h (suc k) (omega arith)))

  one_hits : (f : ℕ → Ray) (n k : ℕ) → k < n → is_hit (triangle_hit (f k) a b c) ≡ true → some_hit (tabulate f n) a b c ≡ true
  unfolding some_hit tabulate
  one_hits f zero k l h = absurd (omega arith)
  one_hits f (suc n) zero l h = ap (λ (z : Bool). z || some_hit (tabulate (λ i. f (suc i)) n) a b c) h
  one_hits f (suc n) (suc k) l h = either (is_hit (triangle_hit (f 0) a b c)) (one_hits (λ i. f (suc i)) n k (omega arith) h)
    where
      either : (z : Bool) {y : Bool} → y ≡ true → (z || y) ≡ true
      either true e = refl
      either false e = e

  at_place : (f : ℕ → Ray) (n k : ℕ) (z : Bool) → k < n → HoldsAt (λ j. is_hit (triangle_hit (f j) a b c) ≡ z) (range_with_len 0 n) k → is_hit (triangle_hit (f k) a b c) ≡ z
  at_place f n k z l h = subst (λ j. is_hit (triangle_hit (f j) a b c) ≡ z) (get_or-range_with_len 0 n k 0 l ∙ zero-add k) (h 0)

  any_hits : (f : ℕ → Ray) (n : ℕ) (r : Bool)
      → MatchBool r ((k : ℕ) × (k < length (range_with_len 0 n)) × HoldsAt (λ k. is_hit (triangle_hit (f k) a b c) ≡ true) (range_with_len 0 n) k)
      (AllWithin (λ k. is_hit (triangle_hit (f k) a b c) ≡ false) (range_with_len 0 n) 0 (length (range_with_len 0 n)))
      → r ≡ some_hit (tabulate f n) a b c
  any_hits f n true h =
      let l : h.0 < n = omega (arith, h.1, length-range_with_len 0 n) in
      sym (one_hits f n h.0 l (at_place f n h.0 true l h.2))
  any_hits f n false h =
      sym (none_hits f n (λ k l. at_place f n k false l (λ d. h k d (omega arith) (omega (arith, length-range_with_len 0 n)))))

pub returns : goal.returns
returns c =
    let a = c.args in
    let f = ray_at a.self.planes.numbers.now a.self.planes.count in
    any_hits a.p0 a.p1 a.p2 f a.lines _
    (cases_from_any _ _ _ (λ (k : ℕ). is_hit (triangle_hit (f k) a.p0 a.p1 a.p2) ≡ true) (λ (k : ℕ). is_hit (triangle_hit (f k) a.p0 a.p1 a.p2) ≡ false) c.any.ensures.ran
    (YieldsList-from_range 0 a.lines a.lines refl (omega arith)) (λ x q k. search (rules, tests)) (λ x q k. search (rules, tests)))
    ∙ sym (ap (λ (rs : List Ray). some_hit rs a.p0 a.p1 a.p2) (first f ray_count a.lines c.requires))
