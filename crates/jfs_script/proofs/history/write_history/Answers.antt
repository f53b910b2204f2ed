use Rattle.std.proofs.Common.{◌++◌, refl}
use Rattle.jfs_script.specs.History.{history_text}
use Rattle.jfs_script.proofs.Histories.{goes_on, none_left}
use Rattle.jfs_script.proofs.history.write_history.Goals as goal

pub loop-entry-init : goal.loop-entry-init
loop-entry-init c = record { place = refl; rises = c.requires; text = refl }

pub loop-entry-preserved : goal.loop-entry-preserved
loop-entry-preserved c =
    let whole = c.args.into.now.items ++ history_text 1 c.args.told.now c.args.history.now in
    goes_on c.loop-entry.number c.loop-entry.entry-index c.loop-entry.rest.now c.after-later.result.now c.args.history.now c.entry-item.result c.loop-entry.into.items c.write_entry.new.into.items whole
    c.loop-entry.invariant c.loop-entry-test.true c.entry-item.is c.after-later.ensures c.in_ok-write_entry.ensures

pub returns : goal.returns
returns c =
    none_left c.loop-entry.number c.loop-entry.entry-index c.loop-entry.rest.now c.args.history.now c.loop-entry.into.items (c.args.into.now.items ++ history_text 1 c.args.told.now c.args.history.now)
    c.loop-entry.invariant c.loop-entry-test.false
