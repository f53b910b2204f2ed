use Rattle.std.proofs.Common.{◌+◌, ◌≤◌, ◌∙◌, length, refl, sym, arith}
use Rattle.jfs_bmap.specs.Set.{taken_at}
use Rattle.jfs_bmap.specs.Freed.{entry_at}
use Rattle.jfs_bmap.proofs.Views.{length-cleared, taken_at-cleared}
use Rattle.jfs_bmap.proofs.States.{full_run-from}
use Rattle.jfs_bmap.proofs.PartByPart.{cleared-none, cleared-more}
use Rattle.jfs_bmap.proofs.Disowned.{full_block, full_held, none_held, held-next, still_held, none_entries, entries-next, full_entries}
use Rattle.jfs_bmap.proofs.disown.disown.Goals as goal

pub clear-requires-then-is_full-clause-taken : goal.clear-requires-then-is_full-clause-taken
clear-requires-then-is_full-clause-taken c =
    let run = c.args.run in
    full_run-from (taken_at c.args.held.now) run.first run.blocks (λ b r. c.requires.are_held b (full_block (taken_at c.args.owned.now) run.first run.blocks b (sym c.is_full.ensures ∙ c.if-is_full.true) r))

pub loop-i-init : goal.loop-i-init
loop-i-init c =
    let run = c.args.run in
    record {
      owned = sym (cleared-none run.first c.args.owned.now);
      blocks = refl;
      held = λ b. none_held run.first b (taken_at c.args.owned.now b) (taken_at c.args.held.now b);
      entries = λ b. none_entries run.first b (taken_at c.args.owned.now b) run.entry (entry_at c.args.entries.now b);
    }

pub disown_one-requires-clause-within : goal.disown_one-requires-clause-within
disown_one-requires-clause-within c = rw c.loop-i.invariant.owned (omega (arith, length-cleared c.args.run.first c.loop-i.i c.args.owned.now))

pub disown_one-requires-clause-same : goal.disown_one-requires-clause-same
disown_one-requires-clause-same c = rw c.loop-i.invariant.owned (c.loop-i.invariant.blocks ∙ c.requires.same ∙ sym (length-cleared c.args.run.first c.loop-i.i c.args.owned.now))

pub disown_one-requires-clause-are_held : goal.disown_one-requires-clause-are_held
disown_one-requires-clause-are_held c b owned =
    c.loop-i.invariant.held b
    ∙ still_held c.args.run.first c.loop-i.i c.args.owned.now b (taken_at c.args.held.now b) (omega (arith, c.requires.within)) (c.requires.are_held b) (rw c.loop-i.invariant.owned at owned)

pub disown_one-requires-clause-table : goal.disown_one-requires-clause-table
disown_one-requires-clause-table c = rw c.loop-i.invariant.owned (omega (arith, length-cleared c.args.run.first c.loop-i.i c.args.owned.now, c.loop-i.auto.entries))

pub loop-i-preserved : goal.loop-i-preserved
loop-i-preserved c =
    let run = c.args.run in
    let within : run.first + (c.loop-i.i + 1) ≤ length c.args.owned.now = omega arith in
    record {
      owned = cleared-more run.first c.loop-i.i 1 (run.first + c.loop-i.i) c.args.owned.now c.loop-i.owned c.disown_one.new.owned refl (omega arith) c.loop-i.invariant.owned c.disown_one.ensures.owned;
      blocks = c.disown_one.ensures.blocks ∙ c.loop-i.invariant.blocks;
      held = λ b. c.disown_one.ensures.held b ∙ rw (c.loop-i.invariant.owned, c.loop-i.invariant.held b) (held-next run.first c.loop-i.i c.args.owned.now b (taken_at c.args.held.now b) within);
      entries = λ b. c.disown_one.ensures.entries b ∙ rw (c.loop-i.invariant.owned, c.loop-i.invariant.entries b) (entries-next run.first c.loop-i.i c.args.owned.now b run.entry (entry_at c.args.entries.now b) within);
    }

pub returns-then-is_full-clause-blocks : goal.returns-then-is_full-clause-blocks
returns-then-is_full-clause-blocks c = rw c.clear-then-is_full.ensures (length-cleared c.args.run.first c.args.run.blocks c.args.held.now)

pub returns-then-is_full-clause-held : goal.returns-then-is_full-clause-held
returns-then-is_full-clause-held c b =
    let run = c.args.run in
    rw c.clear-then-is_full.ensures (taken_at-cleared run.first run.blocks c.args.held.now b (omega (arith, c.requires.within, c.requires.same)) ∙ full_held (taken_at c.args.owned.now) run.first run.blocks b (taken_at c.args.held.now b) (sym c.is_full.ensures ∙ c.if-is_full.true))

pub returns-then-is_full-clause-entries : goal.returns-then-is_full-clause-entries
returns-then-is_full-clause-entries c b =
    let run = c.args.run in
    c.fill_entries.ensures b ∙ full_entries (taken_at c.args.owned.now) run.first run.blocks b run.entry (entry_at c.args.entries.now b) (sym c.is_full.ensures ∙ c.if-is_full.true)
