-- `farm_file::judge_by` meets its contract: each check by its test, in their order, and what is left by what it calls. Assumes nothing.
use Rattle.std.proofs.lemmas.Result.{err_from_is_err_and}
use mathlib.Core.Path.{◌≡◌, sym, ap, subst, ◌∙◌}
use mathlib.Core.Bool.{Bool, true, false}
use mathlib.Core.List.{List}
use Prim.Native.Nat.{ℕ, ◌<◌, ◌≤◌}
use native.Mathlib.Omega.{arith}
use borrow.Author.Tests.{le-leb, lt-leb, eq-eqb, ne_eqb}
use lib.ListN.{length}
use lib.Ieee.{Float}
use Rattle.number.specs.Limits.{largest_file}
use Rattle.number.specs.Answer.{Outcome, refused, outcome, and_then}
use Rattle.farm.specs.Directory.{well_formed, file_numbers, InFront}
use Rattle.farm.specs.FarmFile.{checked_file, slot_count, listing, listed, farm_file_call, sized_planes}
use Rattle.farm.specs.Steps.{boxes_seen, JudgedBy}
use Rattle.farm.proofs.Answers.{planes_decide}
use Rattle.farm.proofs.farm_file.judge_by.Goals as goal

module _ (b out : List ℕ) where
  too_large : largest_file < length b → listing (refused 1) out ≡ farm_file_call b out
  unfolding farm_file_call
  too_large h = let e = lt-leb (length b) largest_file h in rw e

  module _ (p : length b ≤ largest_file) where
    no_room : (length out ≡ slot_count → ⊥) → listing (refused 2) out ≡ farm_file_call b out
    unfolding farm_file_call
    no_room h = let e = le-leb (length b) largest_file p in let f = ne_eqb (length out) slot_count h in rw (e, f)

    module _ (q : length out ≡ slot_count) where
      left : listed (checked_file b) out ≡ farm_file_call b out
      unfolding farm_file_call
      left = let e = le-leb (length b) largest_file p in let f = eq-eqb (length out) slot_count q in rw (e, f)

      malformed : well_formed b ≡ false → listing (refused 9) out ≡ farm_file_call b out
      unfolding checked_file
      malformed w = rw (← left, w)

      by_planes : well_formed b ≡ true → (o : Outcome ℕ) → o ≡ sized_planes b → listed (and_then o (λ n. boxes_seen b)) out ≡ farm_file_call b out
      by_planes w o e = ap (λ (x : Outcome (List Bool)). listed x out) (planes_decide b w o e) ∙ left

      -- the same of bytes that are the file's
      by_sections : (d : List ℕ) → d ≡ b → well_formed d ≡ true → (o : Outcome ℕ) → o ≡ sized_planes d → listed (and_then o (λ n. boxes_seen d)) out ≡ farm_file_call b out
      by_sections d e w o f =
          subst (λ (x : List ℕ). listed (and_then o (λ n. boxes_seen x)) out ≡ farm_file_call b out) (sym e)
          (by_planes (subst (λ (x : List ℕ). well_formed x ≡ true) e w) o (f ∙ ap sized_planes e))

module _ (b : List ℕ) (room : List Float) (out : List ℕ) where
  stopped : (k : ℕ) → listing (refused k) out ≡ farm_file_call b out → JudgedBy b out (refused k) room out
  stopped k e = record { call = e; kept = λ n f. let z : ◌≡◌ {A = ℕ} 0 1 = cc in absurd (omega (arith, z)) }

pub returns-then-file-gt-LARGEST_FILE : goal.returns-then-file-gt-LARGEST_FILE
returns-then-file-gt-LARGEST_FILE c =
    let g = c.args in
    stopped g.file.now g.room.now g.out.now 1 (too_large g.file.now g.out.now c.if-file-gt-LARGEST_FILE.true)

pub returns-then-out-ne-SLOT_COUNT : goal.returns-then-out-ne-SLOT_COUNT
returns-then-out-ne-SLOT_COUNT c =
    let g = c.args in
    stopped g.file.now g.room.now g.out.now 2 (no_room g.file.now g.out.now c.if-file-gt-LARGEST_FILE.false c.if-out-ne-SLOT_COUNT.true)

pub returns-in_default : goal.returns-in_default
returns-in_default c =
    let g = c.args in
    stopped g.file.now g.room.now g.out.now 9 (malformed g.file.now g.out.now c.if-file-gt-LARGEST_FILE.false c.if-out-ne-SLOT_COUNT.false c.in_default.ensures)

pub returns-in_err-sections : goal.returns-in_err-sections
returns-in_err-sections c =
    let g = c.args in
    let p = err_from_is_err_and c.from_residual.result c.from_residual.ensures.1 in
    rw (p.1, p.2) (
    stopped g.file.now g.room.now g.out.now _
    (by_sections g.file.now g.out.now c.if-file-gt-LARGEST_FILE.false c.if-out-ne-SLOT_COUNT.false _ c.in-Some.ensures c.in-Some.directory.formed _ c.in_err-sections.ensures))

pub returns : goal.returns
returns c =
    let g = c.args in
    let s = c.in_ok-sections.sections in
    let e : s.directory.file.now ≡ g.file.now = c.in_ok-sections.ensures.1 ∙ c.in-Some.ensures in
    record {
      call = c.answer.ensures.0
          ∙ by_sections g.file.now g.out.now c.if-file-gt-LARGEST_FILE.false c.if-out-ne-SLOT_COUNT.false _ e s.directory.formed (outcome s.planes) (c.in_ok-sections.ensures.0 ∙ ap sized_planes (sym c.in_ok-sections.ensures.1));
      kept = λ n f. subst (λ (x : List ℕ). InFront (file_numbers x) c.answer.new.room) e c.answer.ensures.1;
    }
