use Rattle.std.proofs.Common.{sym, ap, ◌∙◌, refl}
use Rattle.std.proofs.lemmas.List.{nil_from_length}
use Rattle.jfs_script.specs.Lines.{without_return}
use Rattle.jfs_script.proofs.Lines.{without_return-yes, without_return-no}
use Rattle.jfs_script.proofs.reader.without_return.Goals as goal

pub returns-in_default : goal.returns-in_default
unfolding without_return
returns-in_default c = rw (nil_from_length c.args.bytes.now c.in_default.ensures.cases) refl

pub returns-then-last-eq13 : goal.returns-then-last-eq13
returns-then-last-eq13 c =
    rw (c.in-Some.ensures.cases.0, c.if-last-eq13.true, without_return-yes) refl

pub returns-else-last-eq13 : goal.returns-else-last-eq13
returns-else-last-eq13 c =
    c.in-Some.ensures.cases.0 ∙ sym (without_return-no c.in-Some.front.now c.in-Some.last.now c.if-last-eq13.false) ∙ ap without_return (sym c.in-Some.ensures.cases.0)
