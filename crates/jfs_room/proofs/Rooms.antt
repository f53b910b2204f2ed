-- The whole room.
use Rattle.std.proofs.Common.{◌≡◌, refl, sym, ap, ◌∙◌, ℕ, ◌%◌, ◌&&◌, List, Option, Some, None}
use Rattle.jfs_inode.specs.declared.fields.Dinode.{Dinode}
use Rattle.jfs_way.specs.dtree.specs.Room.{is_deep}
use Rattle.jfs_way.specs.objects.specs.Volume.{slot_of}
use Rattle.jfs_way.specs.objects.specs.Objects.{Object, objects, spelled, has_names}
use Rattle.jfs_way.specs.meaning.specs.Readers.{readers, root_of}
use Rattle.jfs_way.specs.meaning.specs.Room.{is_deep_in, room_on}
use Rattle.jfs_way.specs.Volume.{volume_of}
use Rattle.jfs_way.specs.declared.object.Held.{Held}
use Rattle.jfs_way.proofs.Places.{home_is}
use Rattle.jfs_way.proofs.Nodes.{there}
use Rattle.jfs_room.specs.Laws.{blocks_in, picked, deep_by_root, DeepLaw, HeldLaw, RoomLaw}
use Rattle.jfs_room.proofs.Blocks.{free_is, runs_are}
use Rattle.jfs_room.proofs.Fresh.{fresh_is}

deep_is : (blocks : ℕ) (page : ℕ → List ℕ) (x : Option Object) (name : List ℕ) → is_deep_in (readers blocks) page x name ≡ deep_by_root blocks page x name
deep_is blocks page None name = refl
deep_is blocks page (Some o) name = refl

pub deep_law : DeepLaw
deep_law blocks log_pages v dir name = deep_is blocks v.page (objects (readers blocks) v dir) name

-- what a walk gave is the object with its number
held_is : (blocks : ℕ) (pages : ℕ → List ℕ) (o : Held) (d : Dinode) (name : List ℕ) → o.inode ≡ d
    → deep_by_root blocks pages (Some (spelled (readers blocks) pages d)) name ≡ (has_names o.inode && is_deep blocks pages (root_of o.inode) name)
unfolding spelled
held_is blocks pages o d name e = ap (λ (d : Dinode). has_names d && is_deep blocks pages (root_of d) name) (sym e)

pub held_law : HeldLaw
held_law blocks log_pages pages area m inodes o name c held shown is_there =
    let v = volume_of pages area m inodes in
    let inode = slot_of (pages o.page) (o.number % 8) in
    deep_law blocks log_pages v o.number name
    ∙ ap (λ x. deep_by_root blocks pages x name) (there blocks v c o.number o.page (home_is inodes o.number ∙ held.home) is_there)
    ∙ held_is blocks pages o inode name shown

pub room_law : RoomLaw
room_law page area m inodes a none pick run is tells log_pages =
    let r = readers (blocks_in m) in
    let v = volume_of page area m inodes in
    let free = free_is r page area m inodes a in
    let fresh = fresh_is r page area m inodes a (blocks_in m) pick is ∙ ap (picked pick) ((runs_are r page area m inodes a run tells).same none) in
    λ i. record { limit = (room_on r v (blocks_in m) log_pages).limit; free = free i; deep = λ dir name. deep_law (blocks_in m) log_pages v dir name i; inode = fresh i }
