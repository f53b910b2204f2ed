use Rattle.std.proofs.Common.{◌≡◌, take}
use Rattle.jfs_logfmt_rows.proofs.written.blob_of.Given as goal

abbrev pub invariant-loop-byte : goal.invariant-loop-byte
invariant-loop-byte l = l.blob ≡ take l.byte-index l.bytes
