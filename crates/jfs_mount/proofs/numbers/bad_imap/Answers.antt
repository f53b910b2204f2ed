use Rattle.std.proofs.Common.{sym, ◌∙◌, ◌+◌, is_some, arith}
use Rattle.jfs_reader.specs.objects.specs.Contents.{block_of}
use Rattle.jfs_mount.proofs.Passed.{all_pass}
use Rattle.jfs_mount.proofs.Rows.{counted, imap_holds, imap_breaks}
use Rattle.jfs_mount.proofs.numbers.bad_imap.Goals as goal

pub returns-then-covered-pages-clause-finds : goal.returns-then-covered-pages-clause-finds
returns-then-covered-pages-clause-finds c s is =
    let from = c.from-pages.ensures in imap_holds s c.args.maps.now is (c.from-pages.result + 1) c.covered-covered.result (omega (arith, from))
    (counted (c.from-pages.result + 1) c.covered-covered.result c.args.maps.now.inodes.extents c.as_slice.result.now c.as_slice.ensures c.covered-covered.ensures) c.if-covered-pages.true

pub returns-then-covered-pages-clause-covered : goal.returns-then-covered-pages-clause-covered
returns-then-covered-pages-clause-covered c none j l =
    let from = c.from-pages.ensures in all_pass (λ j. is_some (block_of c.args.maps.now.inodes.extents j)) (c.from-pages.result + 1) j
    (sym (counted (c.from-pages.result + 1) c.covered-covered.result c.args.maps.now.inodes.extents c.as_slice.result.now c.as_slice.ensures c.covered-covered.ensures) ∙ c.if-covered-pages.true)
    (omega (arith, from, l))

pub returns-clause-finds : goal.returns-clause-finds
returns-clause-finds c s is =
    let from = c.from-pages.ensures in imap_breaks s c.args.maps.now is (c.from-pages.result + 1) c.covered-covered.result (omega (arith, from))
    (counted (c.from-pages.result + 1) c.covered-covered.result c.args.maps.now.inodes.extents c.as_slice.result.now c.as_slice.ensures c.covered-covered.ensures) c.if-covered-pages.false
