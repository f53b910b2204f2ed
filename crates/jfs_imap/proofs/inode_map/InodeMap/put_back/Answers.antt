use Rattle.std.proofs.Common.{◌≡◌, ◌≢◌, ◌*◌, ◌/◌, ◌<◌, ◌∙◌, ◌++◌, ◌&&◌, not, true, ℕ, List, length, get_or, take, drop, sym, ap, arith}
use Rattle.jfs_bits.specs.Bits.{is_taken, is_in_run}
use Rattle.jfs_bits.specs.declared.descriptor.Pxd.{Pxd}
use Rattle.jfs_iag.specs.Iag.{no_run}
use Rattle.jfs_iag.specs.Canonical.{has_free}
use Rattle.jfs_imap.specs.Inodes.{inodes_of, is_used}
use Rattle.jfs_imap.proofs.Kept.{used-within}
use Rattle.jfs_imap.proofs.Changed.{kept-changed, put-whole, one-cleared, here-cleared, put-view}
use Rattle.jfs_imap.proofs.inode_map.InodeMap.put_back.Goals as goal

used : (c : goal.After-set) → is_used (inodes_of c.self.inside.set.items c.self.inside.extents.items c.self.inside.iags c.self.inside.agsize c.self.inside.numag) c.args.n ≡ true
used c = rw (← c.self.view_is) at (sym c.is_in_use.ensures ∙ c.if-not-is_in_use.false)

within : (c : goal.After-set) → c.args.n < 4096 * c.self.inside.iags
within c = let i = c.self.inside in used-within i.set.items i.extents.items i.iags i.agsize i.numag c.args.n (used c)

pub clear_run-requires-clause-within : goal.clear_run-requires-clause-within
clear_run-requires-clause-within c =
    let i = c.self.inside in
    let h = used-within i.set.items i.extents.items i.iags i.agsize i.numag c.args.n (rw (← c.self.view_is) at (sym c.is_in_use.ensures ∙ c.if-not-is_in_use.false)) in
    omega (arith, h, c.self.invariant.set_size, ap (λ (z : List ℕ). length z) c.as_mut_slice.ensures.value)

pub extent_has_free-free-requires-clause-set : goal.extent_has_free-free-requires-clause-set
extent_has_free-free-requires-clause-set c =
    let i = c.self.inside in
    let h = used-within i.set.items i.extents.items i.iags i.agsize i.numag c.args.n (rw (← c.self.view_is) at (sym c.is_in_use.ensures ∙ c.if-not-is_in_use.false)) in
    let whole = put-whole i.set.len c.clear_run.new.map i.set.items (omega arith) in
    omega (arith, h, c.self.invariant.set_size, ap (λ (z : List ℕ). length z) (c.as_slice.ensures.value ∙ whole))

pub extent_has_free-free-requires-clause-extents : goal.extent_has_free-free-requires-clause-extents
extent_has_free-free-requires-clause-extents c =
    let i = c.self.inside in
    let h = used-within i.set.items i.extents.items i.iags i.agsize i.numag c.args.n (rw (← c.self.view_is) at (sym c.is_in_use.ensures ∙ c.if-not-is_in_use.false)) in
    omega (arith, h, c.self.invariant.extents_size, ap (λ (z : List Pxd). length z) c.as_slice-2.ensures.value)

pub set-requires : goal.set-requires
set-requires c =
    let i = c.self.inside in
    let h = used-within i.set.items i.extents.items i.iags i.agsize i.numag c.args.n (rw (← c.self.view_is) at (sym c.is_in_use.ensures ∙ c.if-not-is_in_use.false)) in
    omega (arith, h, c.self.invariant.free_room)

whole : (c : goal.After-set) → take c.self.inside.set.len (c.clear_run.new.map ++ drop (length c.clear_run.new.map) c.self.inside.set.items) ≡ c.clear_run.new.map
whole c = put-whole c.self.inside.set.len c.clear_run.new.map c.self.inside.set.items (omega arith)

bits : (c : goal.After-set) (b : ℕ) → is_taken c.clear_run.new.map b ≡ (not (is_in_run c.args.n 1 b) && is_taken c.self.inside.set.items b)
bits c b = rw c.as_mut_slice.ensures.value at (c.clear_run.ensures b)

stays : (c : goal.After-set) (b : ℕ) → b ≢ c.args.n → is_taken c.clear_run.new.map b ≡ is_taken c.self.inside.set.items b
stays c b other = bits c b ∙ one-cleared c.args.n b (is_taken c.self.inside.set.items b) other

apart : (n b : ℕ) → b / 32 ≢ n / 32 → b ≢ n
apart n b other same = other (ap (λ (z : ℕ). z / 32) same)

pub invariant_of-self : goal.invariant_of-self
invariant_of-self c =
    let i = c.self.inside in
    let k = c.self.invariant in
    let free : c.extent_has_free-free.result ≡ has_free (is_taken c.clear_run.new.map) (λ e. get_or i.extents.items e no_run) (c.args.n / 32) =
    c.extent_has_free-free.ensures ∙ ap (λ (z : List ℕ). has_free (is_taken z) (λ e. get_or c.as_slice-2.result.now e no_run) (c.args.n / 32)) (c.as_slice.ensures.value ∙ whole c) ∙ ap (λ (z : List Pxd). has_free (is_taken c.clear_run.new.map) (λ e. get_or z e no_run) (c.args.n / 32)) c.as_slice-2.ensures.value in
    rw (whole c, c.set.ensures)
    (kept-changed i.iags i.numag i.set.items c.clear_run.new.map i.extents.items i.free i.places (c.args.n / 32) c.extent_has_free-free.result k (omega (arith, k.set_size)) (omega (arith, within c, k.free_room)) free (λ b other. stays c b (apart c.args.n b other)))

pub returns : goal.returns
returns c =
    let i = c.self.inside in
    rw (← c.self.view_is)
    (ap (λ (z : List ℕ). inodes_of z i.extents.items i.iags i.agsize i.numag) (whole c)
    ∙ put-view i.set.items c.clear_run.new.map i.extents.items i.iags i.agsize i.numag c.args.n c.if-n-lt4.false (used c) (within c) (bits c c.args.n ∙ here-cleared c.args.n (is_taken i.set.items c.args.n)) (stays c))
