use Rattle.std.proofs.Common.{◌≡◌, ◌*◌, ◌<◌, ◌∙◌, ◌++◌, ◌&&◌, not, false, ℕ, List, length, get_or, take, drop, set, refl, ap, arith}
use Rattle.jfs_bits.specs.Bits.{is_taken, is_in_run}
use Rattle.jfs_iag.specs.Iag.{no_run}
use Rattle.jfs_iag.specs.Canonical.{is_there}
use Rattle.jfs_imap.specs.Inodes.{inodes_of}
use Rattle.jfs_imap.proofs.Kept.{place-there, place-taken}
use Rattle.jfs_imap.proofs.Changed.{kept-extent, put-whole, extent-view}
use Rattle.jfs_imap.proofs.inode_map.InodeMap.add_extent.Goals as goal

whole : (c : goal.After-set-in-Some) → take c.self.inside.set.len (c.clear_run.new.map ++ drop (length c.clear_run.new.map) c.self.inside.set.items) ≡ c.clear_run.new.map
whole c = put-whole c.self.inside.set.len c.clear_run.new.map c.self.inside.set.items (omega arith)

place : (c : goal.After-set-in-Some) → (c.in-Some.e < length c.self.inside.extents.items) × (is_there (get_or c.self.inside.extents.items c.in-Some.e no_run) ≡ false)
place c = let i = c.self.inside in place-there i.iags i.numag i.set.items i.extents.items i.free i.places c.in-Some.e c.self.invariant c.in-Some.ensures.1

bits : (c : goal.After-set-in-Some) (b : ℕ) → is_taken c.clear_run.new.map b ≡ (not (is_in_run (32 * c.in-Some.e) 32 b) && is_taken c.self.inside.set.items b)
bits c b = rw c.as_mut_slice.ensures.value at (c.clear_run.ensures b)

pub invariant_of-self : goal.invariant_of-self
invariant_of-self c =
    let i = c.self.inside in
    let k = c.self.invariant in
    rw (whole c, c.set.ensures, c.set-in-Some.ensures)
    (kept-extent i.iags i.numag i.set.items c.clear_run.new.map i.extents.items i.free i.places c.in-Some.e c.args.at k (place c).0 c.requires.extent.0 c.requires.extent.1 (omega (arith, k.set_size)) (bits c))

pub returns : goal.returns
returns c =
    let i = c.self.inside in
    let p = place c in
    rw (← c.self.view_is) (
      c.in-Some.e,
      (p.0, p.1, λ q h. place-taken i.iags i.numag i.set.items i.extents.items i.free i.places q c.self.invariant (c.in-Some.ensures.2 q h) (omega (arith, h, p.0))),
      refl,
      ap (λ (z : List ℕ). inodes_of z (set i.extents.items c.in-Some.e c.args.at) i.iags i.agsize i.numag) (whole c)
          ∙ extent-view i.set.items c.clear_run.new.map i.extents.items i.iags i.agsize i.numag c.in-Some.e c.args.at (bits c),
    )
