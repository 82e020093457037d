-- `push_line` meets its contract: the number, and a word behind it. Assumes nothing.
use mathlib.Core.Path.{◌≡◌}
use Rattle.farm.specs.Lines.{yes_or_no, line}
use Rattle.farm.proofs.Texts.{added_then, added_meant}
use Rattle.farm.proofs.lines.push_line.Goals as goal
use Rattle.farm.proofs.lines.push_line.Goals.{then-yes, else-yes}

pub returns : goal.returns
unfolding line
returns c =
    let word : c.if-yes.push.now ≡ yes_or_no c.args.yes = elim c.if-yes.branch [ then-yes w ↦ cc | else-yes w ↦ cc ] in
    added_then c.push_decimal.ensures.added (added_meant _ _ word c.push.ensures.added)
