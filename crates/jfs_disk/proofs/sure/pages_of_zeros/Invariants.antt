use Rattle.std.proofs.Common.{◌≡◌}
use Rattle.jfs_disk.specs.Image.{zeros}
use Rattle.jfs_disk.specs.Pages.{contents}
use Rattle.jfs_disk.proofs.sure.pages_of_zeros.Given as goal

abbrev pub invariant-loop : goal.invariant-loop
invariant-loop l = contents l.pages.items ≡ zeros l.counter
