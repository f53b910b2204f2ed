use Rattle.std.proofs.Common.{◌+◌, drop}
use Rattle.jfs_records.specs.Redo.{all_of}
use Rattle.jfs_redo_steps.proofs.Runs.{all_front, extents_on}
use Rattle.jfs_redo_steps.proofs.extents.redo_extents.Goals as goal

pub loop-tx-preserved : goal.loop-tx-preserved
loop-tx-preserved c =
    let i = c.loop-tx.tx-index in
    let txs = c.args.transactions.now in
    extents_on (all_of txs) (all_of (drop i txs)) c.tx-item.result (all_of (drop (i + 1) txs)) c.args.extents.now c.loop-tx.extents c.put_tx.new.extents
    (all_front txs i c.tx-item.result c.loop-tx-test.true c.tx-item.is) c.loop-tx.invariant c.put_tx.ensures
