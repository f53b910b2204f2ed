use Rattle.jfs_dmapctl.proofs.Same.{controls-same}
use Rattle.jfs_dmapctl.proofs.law.controls_agree.Goals as goal

pub returns : goal.returns
returns c = controls-same
