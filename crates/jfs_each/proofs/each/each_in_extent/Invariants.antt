use Rattle.std.proofs.Common.{◌≡◌, ◌+◌, ◌*◌, ◌/◌, ◌%◌, Some}
use Rattle.jfs_disk.specs.Image.{page_of}
use Rattle.jfs_each.specs.Each.{live_in, Visits}
use Rattle.jfs_each.proofs.each.each_in_extent.Given as goal

abbrev pub invariant-loop-d : goal.invariant-loop-d
invariant-loop-d g l = record {
  blocks : g.V.PageView.block_count l.view ≡ g.V.PageView.block_count l.initial.view;
  device : g.V.PageView.device l.view ≡ g.V.PageView.device l.initial.view;
  count : g.V.PageView.faults l.view ≡ g.V.PageView.faults l.initial.view;
  image : g.V.PageView.tells → g.V.PageView.image l.view ≡ g.V.PageView.image l.initial.view;
  visits : g.V.PageView.tells → Visits (g.W.EachInode.sees (g.V.PageView.block_count l.initial.view) (g.V.PageView.image l.initial.view))
      (λ n. live_in (page_of (g.V.PageView.image l.initial.view)) n (Some (l.first + n % 32 / 8))) (32 * l.e) (8 * l.d) l.initial.visitor l.visitor;
}
