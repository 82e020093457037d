-- `directory::is_well_formed` meets its contract, test by test. Assumes nothing.
use mathlib.Core.Path.{◌≡◌, ap}
use mathlib.Core.Bool.{Bool, false, ◌&&◌}
use mathlib.Core.List.{List}
use Prim.Native.Nat.{ℕ, ◌<◌, ◌≤◌}
use native.Mathlib.Omega.{arith}
use borrow.Author.Tests.{le-leb, lt-leb}
use lib.Dec.{leb}
use lib.ListN.{length}
use Rattle.number.specs.Limits.{fewest_sections, most_sections}
use Rattle.farm.specs.Directory.{section_count, sections_from, directory_end, in_order, well_formed}
use Rattle.farm.proofs.directory.is_well_formed.Goals as goal

module _ (b : List ℕ) (n : ℕ) (q : n ≡ section_count b) where
  abbrev ordered : Bool
  ordered = in_order (directory_end n) (length b) (sections_from b 0 n)

  is : (leb 4 (length b) && leb fewest_sections n && leb n most_sections && leb (directory_end n) (length b) && ordered) ≡ well_formed b
  unfolding well_formed
  is =
      ap (λ (k : ℕ). leb 4 (length b) && leb fewest_sections k && leb k most_sections && leb (directory_end k) (length b)
      && in_order (directory_end k) (length b) (sections_from b 0 k)) q

  module _ (p : 4 ≤ length b) where
    few : n < fewest_sections → false ≡ well_formed b
    few h = let e = le-leb 4 (length b) p in let f = lt-leb fewest_sections n h in rw (← is, e, f)

    module _ (g : fewest_sections ≤ n) where
      many : most_sections < n → false ≡ well_formed b
      many h = let e = le-leb 4 (length b) p in let f = le-leb fewest_sections n g in let k = lt-leb n most_sections h in rw (← is, e, f, k)

      module _ (m : n ≤ most_sections) where
        cut : length b < directory_end n → false ≡ well_formed b
        cut h =
            let e = le-leb 4 (length b) p in
            let f = le-leb fewest_sections n g in
            let k = le-leb n most_sections m in
            let l = lt-leb (directory_end n) (length b) h in rw (← is, e, f, k, l)

        left : directory_end n ≤ length b → (r : Bool) → r ≡ ordered → r ≡ well_formed b
        left h r o =
            let e = le-leb 4 (length b) p in
            let f = le-leb fewest_sections n g in
            let k = le-leb n most_sections m in
            let l = le-leb (directory_end n) (length b) h in rw (← is, e, f, k, l) o

short : (b : List ℕ) → length b < 4 → false ≡ well_formed b
unfolding well_formed
short b h = let e = lt-leb 4 (length b) h in rw e

pub returns-then-file-lt-WORD_SIZE : goal.returns-then-file-lt-WORD_SIZE
returns-then-file-lt-WORD_SIZE c = short _ c.if-file-lt-WORD_SIZE.true

pub returns-then-count-lt-FEWEST_SECTIONS : goal.returns-then-count-lt-FEWEST_SECTIONS
returns-then-count-lt-FEWEST_SECTIONS c = few _ c.word_32-sections.result c.word_32-sections.ensures c.if-file-lt-WORD_SIZE.false c.if-count-lt-FEWEST_SECTIONS.true

pub returns-then-count-gt-MOST_SECTIONS : goal.returns-then-count-gt-MOST_SECTIONS
returns-then-count-gt-MOST_SECTIONS c = many _ c.word_32-sections.result c.word_32-sections.ensures c.if-file-lt-WORD_SIZE.false c.if-count-lt-FEWEST_SECTIONS.false c.if-count-gt-MOST_SECTIONS.true

pub returns-then-file-entry_at : goal.returns-then-file-entry_at
returns-then-file-entry_at c =
    cut _ c.word_32-sections.result c.word_32-sections.ensures c.if-file-lt-WORD_SIZE.false c.if-count-lt-FEWEST_SECTIONS.false c.if-count-gt-MOST_SECTIONS.false (omega (arith, c.if-file-entry_at.true, c.entry_at.ensures))

pub returns : goal.returns
returns c =
    left _ c.word_32-sections.result c.word_32-sections.ensures c.if-file-lt-WORD_SIZE.false c.if-count-lt-FEWEST_SECTIONS.false c.if-count-gt-MOST_SECTIONS.false (omega (arith, c.if-file-entry_at.false, c.entry_at.ensures)) _ c.in_order.ensures
