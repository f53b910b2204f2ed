use Rattle.jfs_disk.specs.Pages.{contents}
use Rattle.jfs_core.proofs.Mounting.{AreMounted}
use Rattle.jfs_core.proofs.state.CoreState.new.Given as goal

abbrev pub invariant-loop-page : goal.invariant-loop-page
invariant-loop-page l = AreMounted (contents l.low) l.page-index (contents l.mounted) l.slots.items
