use Rattle.std.proofs.Common.{◌≡◌, ◌++◌, ◌-◌}
use Rattle.jfs_plain.specs.Step.{bytes_from}
use Rattle.jfs_image.specs.View.{image_of}
use Rattle.jfs_image.specs.Held.{byte_in_file}
use Rattle.jfs_image.proofs.content.stored_bytes.Given as goal

abbrev pub invariant-loop-i : goal.invariant-loop-i
invariant-loop-i l = l.bytes.items ++ bytes_from (byte_in_file (image_of l.view) l.extents) l.i (l.count - l.i) ≡ bytes_from (byte_in_file (image_of l.view) l.extents) 0 l.count
