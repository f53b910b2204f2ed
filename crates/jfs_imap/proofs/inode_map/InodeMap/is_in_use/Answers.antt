use Rattle.std.proofs.Common.{◌*◌, ◌/◌, ◌∙◌, sym, arith}
use Rattle.jfs_imap.proofs.Marks.{bit-at}
use Rattle.jfs_imap.proofs.Kept.{past-unused}
use Rattle.std.proofs.lemmas.Bool.{le-ltb}
use Rattle.jfs_imap.proofs.inode_map.InodeMap.is_in_use.Goals as goal

pub returns-then-n-self : goal.returns-then-n-self
returns-then-n-self c =
    let i = c.self.inside in
    rw (← c.self.view_is) (rw c.as_slice.ensures.value at c.bit.ensures ∙ sym (bit-at (4096 * i.iags) i.set.items c.args.n (omega arith)))

pub returns-else-n-self : goal.returns-else-n-self
returns-else-n-self c =
    let i = c.self.inside in
    rw (← c.self.view_is) (le-ltb (c.args.n / 4096) i.iags c.if-n-self.false ∙ sym (past-unused i.set.items i.extents.items i.iags i.agsize i.numag c.args.n c.if-n-self.false))
