use Rattle.std.proofs.Common.{◌≡◌, drop}
use Rattle.jfs_core.specs.Image.{page_after}
use Rattle.jfs_core.proofs.replay.replay.Given as goal

abbrev pub invariant-loop-entry : goal.invariant-loop-entry
invariant-loop-entry l = page_after l.n (drop l.entry-index l.history) l.page.0 ≡ page_after l.n l.history l.fn.page.0
