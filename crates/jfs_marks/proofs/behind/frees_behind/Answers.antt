use Rattle.std.proofs.Common.{◌≡◌, ◌∙◌, sym, ap, false, rules}
use Rattle.jfs_marks.specs.Behind.{takes_some}
use Rattle.jfs_marks.proofs.NoneTaken.{takes_none}
use Rattle.jfs_marks.proofs.behind.frees_behind.Goals as goal

pub returns-then-not-takes_some : goal.returns-then-not-takes_some
returns-then-not-takes_some c =
    let none : c.takes_some.result ≡ false = search rules in
    sym (takes_none c.args.tx.now (ap takes_some (sym c.as_slice-edits.ensures) ∙ sym c.takes_some.ensures ∙ none))
