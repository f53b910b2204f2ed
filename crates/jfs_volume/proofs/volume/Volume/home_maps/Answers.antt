use Rattle.std.proofs.Common.{◌≡◌, List, length, ap, ◌∙◌, subst}
use Rattle.jfs_map_files.specs.declared.map_file.MapFiles.{MapFiles}
use Rattle.jfs_halves.specs.Parts.{Parts}
use Rattle.jfs_halves.specs.Change.{after}
use Rattle.jfs_volume.specs.MapsHome.{MapPage, stale_block_pages, stale_inode_pages, GoHome}
use Rattle.jfs_volume.specs.Written.{writes}
use Rattle.jfs_volume.proofs.MapsWritten.{maps-then, maps-stop}
use Rattle.jfs_volume.proofs.Showing.{shows-first, shows-then, places-then}
use Rattle.jfs_volume.proofs.volume.Volume.home_maps.Goals as goal

pub returns-in-Ok-clause-home : goal.returns-in-Ok-clause-home
returns-in-Ok-clause-home g c seen asked told crashes half s =
    let p = c.args.self.now in
    let mid = c.home_block_map.new.self in
    let new = c.home_inode_map.new.self in
    let one = c.in-Ok.ensures in
    let w = one.home seen asked told crashes half s in
    maps-then seen asked (stale_block_pages (length p.map.states) p.files.blocks) (stale_inode_pages p.files.inodes) p mid new half c.home_inode_map.result (ap (λ (q : Parts). q.map) one.memory) (ap (λ (q : Parts). q.inodes) one.memory) w
    (subst (λ (ts : List MapPage). GoHome seen asked ts mid new (after half (writes w.pages)) c.home_inode_map.result) (ap (λ (f : MapFiles). stale_inode_pages f.inodes) one.written)
    (c.home_inode_map.ensures.home seen asked told crashes (after half (writes w.pages)) w.moves.stands))

pub returns-in-Err-clause-home : goal.returns-in-Err-clause-home
returns-in-Err-clause-home g c seen asked told crashes half s =
    let p = c.args.self.now in
    maps-stop seen asked (stale_block_pages (length p.map.states) p.files.blocks) (stale_inode_pages p.files.inodes) p c.home_block_map.new.self half c.in-Err.fault (c.in-Err.ensures.home seen asked told crashes half s)

pub returns-in-Err-clause-shows : goal.returns-in-Err-clause-shows
returns-in-Err-clause-shows g c t =
    let one = c.in-Err.ensures in
    shows-first c.args.self.now c.home_block_map.new.self c.args.self.now.view one.stale.1 one.stale.0 (one.spoils t)

pub returns-in-Ok-clause-shows : goal.returns-in-Ok-clause-shows
returns-in-Ok-clause-shows g c t =
    let p = c.args.self.now in
    let mid = c.home_block_map.new.self in
    let new = c.home_inode_map.new.self in
    let one = c.in-Ok.ensures in
    let two = c.home_inode_map.ensures in
    let inodes : mid.inodes ≡ p.inodes = ap (λ (q : Parts). q.inodes) one.memory in
    shows-then p new mid.view c.home_inode_map.result mid.files one.written
    (ap (λ (q : Parts). q.map) two.memory ∙ ap (λ (q : Parts). q.map) one.memory)
    (ap (λ (q : Parts). q.inodes) two.memory ∙ inodes)
    (one.shows t) (rw inodes at (two.shows t)) two.written (two.spoils t) two.stale

pub returns-in-Ok-clause-places : goal.returns-in-Ok-clause-places
returns-in-Ok-clause-places g c =
    let one = c.in-Ok.ensures in
    let two = c.home_inode_map.ensures in
    places-then c.args.self.now c.home_inode_map.new.self c.home_block_map.new.self.view c.home_inode_map.result c.home_block_map.new.self.files one.written two.written two.stale
