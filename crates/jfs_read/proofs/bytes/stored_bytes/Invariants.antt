use Rattle.std.proofs.Common.{◌≡◌, ◌≤◌, ◌+◌, ◌-◌, ◌/◌}
use Rattle.jfs_disk.specs.Image.{page_of}
use Rattle.jfs_plain.specs.Step.{bytes_from}
use Rattle.jfs_read.specs.Read.{byte_on_way, broken_in, touched}
use Rattle.jfs_read.proofs.bytes.stored_bytes.Given as goal

abbrev pub invariant-loop-done : goal.invariant-loop-done
invariant-loop-done g l = record {
  most : l.done ≤ l.fn.count;
  image : g.V.PageView.tells → g.V.PageView.image l.view ≡ g.V.PageView.image l.initial.view;
  count_of_blocks : g.V.PageView.block_count l.view ≡ g.V.PageView.block_count l.initial.view;
  device : g.V.PageView.device l.view ≡ g.V.PageView.device l.initial.view;
  faults : g.V.PageView.faults l.view ≡ g.V.PageView.faults l.initial.view;
  bytes : g.V.PageView.tells → l.bytes ≡ bytes_from (byte_on_way (g.V.PageView.block_count l.initial.view) (page_of (g.V.PageView.image l.initial.view)) l.fn.at.inode) l.fn.offset l.done;
  ways : g.V.PageView.tells → broken_in (g.V.PageView.block_count l.initial.view) (page_of (g.V.PageView.image l.initial.view)) l.fn.at.inode (l.fn.offset / 4096) (touched l.fn.offset l.fn.count)
      ≡ broken_in (g.V.PageView.block_count l.initial.view) (page_of (g.V.PageView.image l.initial.view)) l.fn.at.inode ((l.fn.offset + l.done) / 4096) (touched (l.fn.offset + l.done) (l.fn.count - l.done));
}

abbrev pub decreases-loop-done : goal.decreases-loop-done
decreases-loop-done g l = l.fn.count - l.done
