use Rattle.std.proofs.Common.{◌<◌, ◌≤◌}
use Rattle.jfs_redo_steps.specs.ByPage.{HasRange}
use Rattle.jfs_redo_steps.proofs.index.add_range.Given as goal

abbrev pub invariant-loop-page : goal.invariant-loop-page
invariant-loop-page l = (l.fn.first ≤ l.page) × (l.fn.first < l.page → l.page ≤ l.stop) × HasRange l.count l.fn.first l.page l.edit l.fn.index.items l.index.items
