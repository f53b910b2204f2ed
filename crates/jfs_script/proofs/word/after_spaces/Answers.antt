use Rattle.std.proofs.Common.{sym, ◌∙◌}
use Rattle.jfs_script.proofs.Words.{stays, drops, none_left}
use Rattle.jfs_script.proofs.word.after_spaces.Goals as goal

pub returns-then-first-ne32-clause-rest : goal.returns-then-first-ne32-clause-rest
returns-then-first-ne32-clause-rest c =
    sym (stays c.loop-first.rest.now c.in-Some.after.now c.in-Some.first.now c.in-Some.ensures.cases.0 c.if-first-ne32.true) ∙ c.loop-first.invariant

pub loop-first-preserved : goal.loop-first-preserved
loop-first-preserved c =
    sym (drops c.loop-first.rest.now c.in-Some.after.now c.in-Some.first.now c.in-Some.ensures.cases.0 c.if-first-ne32.false) ∙ c.loop-first.invariant

pub returns-clause-rest : goal.returns-clause-rest
returns-clause-rest c = sym (none_left c.loop-first.rest.now c.in_default.ensures.cases) ∙ c.loop-first.invariant
