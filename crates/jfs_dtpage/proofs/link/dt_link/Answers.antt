use Rattle.std.proofs.Common.{arith}
use Rattle.jfs_dtpage.proofs.Kept.{kept_both, kept_wider}
use Rattle.jfs_dtpage.proofs.Same.{entries_alike, page_alike, linked_alike, linked_head}
use Rattle.jfs_dtpage.specs.declared.head.DtForm.TheVariants.{Full}
use Rattle.jfs_dtpage.proofs.link.dt_link.Goals as goal

pub returns : goal.returns
returns c =
    let old = c.args.bytes.now in
    let mid = c.put_neighbour.new.bytes in
    let new = c.put_neighbour-2.new.bytes in
    let kept = kept_both 0 16 old mid new (kept_wider 0 8 0 16 old mid (omega arith) (omega arith) c.put_neighbour.ensures.kept) (kept_wider 8 8 0 16 mid new (omega arith) (omega arith) c.put_neighbour-2.ensures.kept) in
    let alike = linked_alike old new c.requires.page kept in
    record {
      sound = page_alike Full old new c.requires.page alike;
      entries = entries_alike Full old new c.requires.page alike;
      head = linked_head old mid new c.args.next c.args.prev c.put_neighbour.ensures.value c.put_neighbour.ensures.kept c.put_neighbour-2.ensures.value c.put_neighbour-2.ensures.kept;
    }
