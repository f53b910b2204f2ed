use Rattle.std.proofs.Common.{sym, ◌∙◌, arith}
use Rattle.jfs_bmap.specs.Set.{taken_at}
use Rattle.jfs_bmap.proofs.Views.{length-cleared, taken_at-cleared}
use Rattle.jfs_bmap.proofs.Disowned.{full_one, full_held, cleared-free}
use Rattle.jfs_bmap.proofs.disown.disown_one.Goals as goal

pub clear-requires-clause-taken : goal.clear-requires-clause-taken
clear-requires-clause-taken c = full_one (taken_at c.args.owned.now) c.args.b (sym c.is_taken.ensures ∙ c.if-is_taken.true)

pub clear-requires-then-is_taken-clause-taken : goal.clear-requires-then-is_taken-clause-taken
clear-requires-then-is_taken-clause-taken c = full_one (taken_at c.args.held.now) c.args.b (c.requires.are_held c.args.b (sym c.is_taken.ensures ∙ c.if-is_taken.true))

pub returns-then-is_taken-clause-blocks : goal.returns-then-is_taken-clause-blocks
returns-then-is_taken-clause-blocks c = rw c.clear-then-is_taken.ensures (length-cleared c.args.b 1 c.args.held.now)

pub returns-then-is_taken-clause-held : goal.returns-then-is_taken-clause-held
returns-then-is_taken-clause-held c x =
    let full = full_one (taken_at c.args.owned.now) c.args.b (sym c.is_taken.ensures ∙ c.if-is_taken.true) in
    rw c.clear-then-is_taken.ensures (taken_at-cleared c.args.b 1 c.args.held.now x (omega (arith, c.requires.within, c.requires.same)) ∙ full_held (taken_at c.args.owned.now) c.args.b 1 x (taken_at c.args.held.now x) full)

pub returns-else-is_taken-clause-owned : goal.returns-else-is_taken-clause-owned
returns-else-is_taken-clause-owned c = cleared-free c.args.b c.args.owned.now c.requires.within (sym c.is_taken.ensures ∙ c.if-is_taken.false)
