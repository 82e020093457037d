-- The ways out of the operation on groups, one for each refusal and one for a result. Assumes nothing.
use Rattle.std.specs.Prelude.{Ok}
use mathlib.Core.Path.{◌≡◌, refl, sym, ap, ◌∙◌}
use mathlib.Core.Bool.{Bool, true, false, not, cond, ◌&&◌}
use mathlib.Core.List.{List}
use Prim.Native.Nat.{ℕ, suc, ◌-◌, ◌%◌, ◌<◌, ◌≤◌}
use native.Mathlib.Omega.{arith}
use borrow.Author.Tests.{eq-eqb, ne_eqb, lt-ltb, le-leb, lt-leb}
use lib.Dec.{ltb, leb}
use lib.ListN.{length, drop}
use lib.Seq.{take_all}
use lib.Ieee.{Float}
use Rattle.number.specs.Limits.{box_length}
use Rattle.number.specs.Answer.{Reply, refuse, write, reply, unless, has}
use Rattle.number.specs.Tabulate.{tabulate}
use Rattle.number.specs.Records.{record_at, records, record_count, records_of, is_whole}
use Rattle.number.specs.Slice.{stored}
use Rattle.number.proofs.Records.{whole_count}
use Rattle.verdict.specs.BBox.{box_of, numbers}
use Rattle.verdict.proofs.Flags.{negated}
use Rattle.group.specs.Group.{combined_with, grouped, is_group, all_flagged, group_call}

-- ---- what is written

-- "A single box comes back as it is."
pub single : (s : List Float) → record_count box_length s ≡ 1 → length s % box_length ≡ 0 → s ≡ grouped (records_of box_length s)
unfolding tabulate grouped
single s e m =
    let l : length s ≤ box_length = omega (arith, whole_count box_length s m) in
    sym (ap (λ (n : ℕ). grouped (records box_length n s)) e ∙ take_all box_length s l)

pub several : (n : ℕ) (s : List Float) → 2 ≤ n → numbers (combined_with (box_of (record_at box_length s 0)) (drop 1 (records box_length n s))) ≡ grouped (records box_length n s)
unfolding tabulate grouped combined_with
several n s h =
    let e : n ≡ suc (suc (n - 2)) = omega arith in
    ap (λ (k : ℕ). numbers (combined_with (box_of (record_at box_length s 0)) (drop 1 (records box_length k s)))) e ∙ sym (ap (λ (k : ℕ). grouped (records box_length k s)) e)

-- ---- the ways

abbrev in_group : ℕ → Bool
in_group n = ltb 0 n && leb n 5888

module _ (s out : List Float) where
  abbrev answer : Bool → Bool → Bool → Bool → Reply Float
  answer group whole room flags =
      unless group (refuse 11 out)
      (unless whole (refuse 1 out) (unless room (refuse 2 out) (unless flags (refuse 3 out) (write (grouped (records_of box_length s))))))

  by : (group whole room flags : Bool) → is_group s ≡ group → is_whole box_length s ≡ whole → has box_length out ≡ room → all_flagged (records_of box_length s) ≡ flags
      → answer group whole room flags ≡ group_call s out
  unfolding group_call
  by group whole room flags p q r t = sym (λ i. answer (p i) (q i) (r i) (t i))

  pub empty : length s ≡ 0 → refuse 11 out ≡ group_call s out
  empty e = by false (is_whole box_length s) (has box_length out) (all_flagged (records_of box_length s)) (ap in_group e) refl refl refl

  pub long : (length s ≡ 0 → ⊥) → 5888 < length s → refuse 11 out ≡ group_call s out
  long n l =
      by false (is_whole box_length s) (has box_length out) (all_flagged (records_of box_length s))
      (λ i. lt-ltb 0 (length s) (omega arith) i && lt-leb (length s) 5888 l i) refl refl refl

  module _ (n : length s ≡ 0 → ⊥) (l : length s ≤ 5888) where
    group : is_group s ≡ true
    group i = lt-ltb 0 (length s) (omega arith) i && le-leb (length s) 5888 l i

    pub uneven : (length s % box_length ≡ 0 → ⊥) → refuse 1 out ≡ group_call s out
    uneven m = by true false (has box_length out) (all_flagged (records_of box_length s)) group (ne_eqb _ _ m) refl refl

    module _ (m : length s % box_length ≡ 0) where
      pub no_room : (length out ≡ box_length → ⊥) → refuse 2 out ≡ group_call s out
      no_room r = by true true false (all_flagged (records_of box_length s)) group (eq-eqb _ _ m) (ne_eqb _ _ r) refl

      module _ (r : length out ≡ box_length) (z : Bool) (q : z ≡ all_flagged (records_of box_length s)) where
        pub no_flag : not z ≡ true → refuse 3 out ≡ group_call s out
        no_flag e = by true true true false group (eq-eqb _ _ m) (eq-eqb _ _ r) (sym q ∙ negated z true e)

        -- the numbers v are stored into the slice
        pub written : not z ≡ false → (v x : List Float) → length v ≡ box_length → x ≡ stored v out → v ≡ grouped (records_of box_length s) → reply (Ok tt) x ≡ group_call s out
        written e v x k d g =
            ap write (d ∙ ap (λ (t : Bool). cond t v out) (eq-eqb _ _ (k ∙ sym r)) ∙ g)
            ∙ by true true true true group (eq-eqb _ _ m) (eq-eqb _ _ r) (sym q ∙ negated z false e)
