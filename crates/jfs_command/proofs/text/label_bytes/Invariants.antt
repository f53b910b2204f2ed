use Rattle.std.proofs.Common.{◌≡◌, take}
use Rattle.std.specs.List.{flat_map}
use Rattle.jfs_command.specs.Text.{label_byte}
use Rattle.jfs_command.proofs.text.label_bytes.Given as goal

abbrev pub invariant-loop-byte : goal.invariant-loop-byte
invariant-loop-byte l = l.out.items ≡ flat_map label_byte (take l.byte-index l.bytes)
