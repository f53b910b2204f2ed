use Rattle.jfs_logpages.proofs.WrittenRecords.{records_are_read, length-log}
use Rattle.jfs_logpages.proofs.OneReading.{only_reading}
use Rattle.jfs_logpages.proofs.Stops.{met-once}
use Rattle.jfs_logpages.proofs.Fronts.{group_front}
use Rattle.jfs_logpages.proofs.law.records_are_read.Goals as goal

pub returns-clause-read : goal.returns-clause-read
returns-clause-read c = records_are_read

pub returns-clause-only : goal.returns-clause-only
returns-clause-only c = only_reading

pub returns-clause-one : goal.returns-clause-one
returns-clause-one c = met-once

pub returns-clause-front : goal.returns-clause-front
returns-clause-front c = group_front

pub returns-clause-sizes : goal.returns-clause-sizes
returns-clause-sizes c = length-log
