use Rattle.std.proofs.Common.{◌+◌, ◌-◌, ◌*◌, get_or, take, drop}
use Rattle.jfs_bits.specs.Bits.{is_taken}
use Rattle.jfs_iag.specs.Iag.{no_run}
use Rattle.jfs_iag.proofs.Carried.{iag-carried}
use Rattle.jfs_imap.proofs.Listed.{same-part}
use Rattle.jfs_imap.proofs.pages.write_part.Goals as goal

pub returns : goal.returns
returns c =
    let k = c.args.k in
    iag-carried (is_taken (take (512 * k + 512 - 512 * k) (drop (512 * k) c.args.set.now))) (λ i. is_taken c.args.set.now (4096 * k + i)) (λ e. get_or (take (128 * k + 128 - 128 * k) (drop (128 * k) c.args.extents.now)) e no_run) (λ e. get_or c.args.extents.now (128 * k + e) no_run) k c.args.start c.args.links c.iag_with_links.new.page.0 (same-part c.args.set.now c.args.extents.now k) c.iag_with_links.ensures
