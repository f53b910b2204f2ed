-- An entry of the list that all clients' calls make.
use Rattle.std.specs.Prelude.{List, Option}
use Rattle.jfs_bits.specs.declared.descriptor.Moment.{Moment}
use Rattle.jfs_plain.specs.declared.call.Entry.{Entry}
use Rattle.jfs_records.specs.Records.{Noted}

-- A call with its reply, and the moment that it was handed. In the log it has its transaction, each edit with what its record names beside it, or nothing.
pub record Recorded : Type 0 where
  pub entry : Entry
  pub now : Moment
  pub noted : Option (List Noted)
