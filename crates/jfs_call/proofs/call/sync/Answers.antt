use Rattle.std.proofs.Common.{Ok, Err}
use Rattle.jfs_call.proofs.call.sync.Goals as goal

pub returns-in-Ok : goal.returns-in-Ok
returns-in-Ok g c = record {
  mid = c.sync_low.new.self;
  synced = Ok tt;
  is = record { sync = c.in-Ok.ensures.sync; alone = c.sync_low.ensures.alone; kept = c.sync_low.ensures.kept; halts = c.in-Ok.ensures.halts; cause = c.in-Ok.ensures.cause };
  told = c.reply_with.ensures;
}

pub returns-in-Err : goal.returns-in-Err
returns-in-Err g c = record {
  mid = c.sync_low.new.self;
  synced = Err c.in-Err.fault;
  is = record { sync = c.in-Err.ensures.sync; alone = c.sync_low.ensures.alone; kept = c.sync_low.ensures.kept; halts = c.in-Err.ensures.halts; cause = c.in-Err.ensures.cause };
  told = c.refuse.ensures;
}
