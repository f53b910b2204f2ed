-- What a volume is asked.
use Rattle.jfs_bits.specs.declared.descriptor.Moment.{Moment}
use Rattle.jfs_files.specs.declared.outcome.FileOutcome.{FileOutcome}
use Rattle.jfs_plain.specs.declared.call.Request.{Request}

-- what a call does at this moment, and the answer
pub record Question : Type 0 where
  pub request : Request
  pub now : Moment
  pub answer : FileOutcome
