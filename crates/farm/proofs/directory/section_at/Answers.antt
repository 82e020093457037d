-- `directory::section_at` meets its contract by what it calls. Assumes nothing.
use mathlib.Core.Path.{◌≡◌, ap, ◌∙◌}
use Prim.Native.Nat.{ℕ}
use native.Mathlib.Omega.{arith}
use Rattle.number.specs.Bytes.{word_at}
use Rattle.farm.specs.declared.directory.Section.{Section}
use Rattle.farm.proofs.directory.section_at.Goals as goal

same : (a b c d : ℕ) → a ≡ c → b ≡ d → ◌≡◌ {A = Section} (record { offset = a; size = b }) (record { offset = c; size = d })
same a b c d p q = rw (p, q)

pub returns : goal.returns
returns c =
    let b = c.args.file.now in
    let e = c.entry_at-entry.ensures in
    same _ _ _ _ (c.word_32.ensures ∙ ap (word_at 4 b) e) (c.word_32-2.ensures ∙ ap (word_at 4 b) (omega (arith, e)))
