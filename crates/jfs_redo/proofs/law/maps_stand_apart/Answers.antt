use Rattle.jfs_redo.proofs.Apart.{stand_apart, name_once}
use Rattle.jfs_redo.proofs.law.maps_stand_apart.Goals as goal

pub returns-clause-apart : goal.returns-clause-apart
returns-clause-apart c = stand_apart

pub returns-clause-once : goal.returns-clause-once
returns-clause-once c = name_once
