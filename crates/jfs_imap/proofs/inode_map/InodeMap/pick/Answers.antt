use Rattle.std.proofs.Common.{◌≡◌, ◌*◌}
use Rattle.jfs_bits.specs.Field.{field_of}
use Rattle.jfs_imap.proofs.Kept.{first-free, clear-there, needs-extent, no-inodes}
use Rattle.jfs_imap.proofs.inode_map.InodeMap.pick.Goals as goal

pub first_clear-requires : goal.first_clear-requires
first_clear-requires c =
    let i = c.self.inside in
    let word : c.get_u32-word.result ≡ field_of i.set.items (4 * c.in-Some.e) 4 = rw c.as_slice.ensures.value at c.get_u32-word.ensures.value in
    clear-there i.iags i.numag i.set.items i.extents.items i.free i.places c.in-Some.e c.get_u32-word.result c.self.invariant c.in-Some.ensures word

pub returns-in-Some : goal.returns-in-Some
returns-in-Some c =
    let i = c.self.inside in
    let word : c.get_u32-word.result ≡ field_of i.set.items (4 * c.in-Some.e) 4 = rw c.as_slice.ensures.value at c.get_u32-word.ensures.value in
    let clear = rw word at c.first_clear.ensures.free in
    let before = rw word at c.first_clear.ensures.before in
    rw (← c.self.view_is) (first-free i.iags i.numag i.agsize i.set.items i.extents.items i.free i.places c.in-Some.e c.first_clear.result c.self.invariant c.in-Some.ensures c.first_clear.ensures.within clear before)

pub returns-in-Some-first : goal.returns-in-Some-first
returns-in-Some-first c =
    let i = c.self.inside in
    rw (← c.self.view_is) (needs-extent i.iags i.numag i.agsize i.set.items i.extents.items i.free i.places c.in-Some-first.place c.self.invariant c.in_default.ensures c.in-Some-first.ensures)

pub returns-in-None : goal.returns-in-None
returns-in-None c =
    let i = c.self.inside in
    rw (← c.self.view_is) (no-inodes i.iags i.numag i.agsize i.set.items i.extents.items i.free i.places c.self.invariant c.in_default.ensures c.in-None.ensures)
