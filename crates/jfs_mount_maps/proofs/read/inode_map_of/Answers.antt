use Rattle.std.proofs.Common.{◌≡◌, ◌<◌, ◌*◌, ◌∙◌, ◌&&◌, ℕ, List, Option, length, map, is_some, sym, ap, ap₂, arith}
use Rattle.jfs_bits.specs.Bits.{is_taken}
use Rattle.jfs_imap.specs.Inodes.{Inodes, inodes_of}
use Rattle.jfs_imap.proofs.Changed.{put-whole}
use Rattle.jfs_sets.specs.objects.specs.Volume.{home}
use Rattle.jfs_sets.specs.Sets.{extent_from}
use Rattle.jfs_mount_maps.specs.Maps.{groups_of}
use Rattle.jfs_mount_maps.proofs.Inodes.{places_within, inodes_are}
use Rattle.jfs_mount_maps.proofs.read.inode_map_of.Goals as goal

pub returns-in-Ok-clause-within : goal.returns-in-Ok-clause-within
returns-in-Ok-clause-within g c = places_within (g.V.PageView.block_count c.args.view.now) c.args.mounted.now.places.items c.in-Ok.map
    (ap (λ (m : Inodes). m.extents) c.in-Ok.ensures ∙ ap (λ (xs : List (Option ℕ)). map extent_from xs) c.as_slice-places.ensures.value) c.requires.mounted.fit

pub returns-in-Ok-clause-inodes : goal.returns-in-Ok-clause-inodes
returns-in-Ok-clause-inodes g c = λ told s geo mounts.
    let places = c.args.mounted.now.places.items in
    let maps = c.args.mounted.now.maps in
    let set = c.in_ok-set.set.items in
    let kept = c.as_slice.result.now in
    let size : length c.keep_placed.new.set ≡ c.in_ok-set.set.len = c.keep_placed.ensures.size ∙ ap (λ (xs : List ℕ). length xs) c.as_mut_slice.ensures.value ∙ sym c.in_ok-set.set.ok.0 in
    let whole : kept ≡ c.keep_placed.new.set = c.as_slice.ensures.value ∙ put-whole c.in_ok-set.set.len c.keep_placed.new.set c.in_ok-set.set.items size in
    let bits : (n : ℕ) → n < 32 * length places → is_taken kept n ≡ (is_some (home places n) && is_taken set n) = λ n l.
    ap (λ (xs : List ℕ). is_taken xs n) whole
    ∙ c.keep_placed.ensures.bits n (omega (arith, l, ap (λ (xs : List (Option ℕ)). length xs) c.as_slice-places.ensures.value))
    ∙ ap₂ (λ (ps : List (Option ℕ)) (xs : List ℕ). is_some (home ps n) && is_taken xs n) c.as_slice-places.ensures.value c.as_mut_slice.ensures.value in
    c.in-Ok.ensures
    ∙ ap (λ (ps : List (Option ℕ)). inodes_of kept (map extent_from ps) maps.inodes.iags c.args.layout.agsize (groups_of c.args.layout)) c.as_slice-places.ensures.value
    ∙ inodes_are s c.args.layout (g.V.PageView.image c.args.view.now) maps places set kept geo (c.in_ok-set.ensures.used told) mounts.0 mounts.2 c.requires.mounted.all bits
