use Rattle.jfs_call.proofs.Asked.{may_reserve}
use Rattle.jfs_call.proofs.asking.FileAskAsks.ask.Goals as goal

pub returns-clause-reserves : goal.returns-clause-reserves
returns-clause-reserves g c = may_reserve c.args.maps.now c.file_call.new.maps c.file_call.result c.file_call.ensures.kept
