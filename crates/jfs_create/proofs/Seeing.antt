-- What is looked at before an object is made, as the plain step looks at it.
use Rattle.std.proofs.Common.{◌≡◌, refl, sym, ap, ◌∙◌, subst, inr, ℕ, Bool, true, false, ◌&&◌, List, Option, Result, Ok, Err}
use Rattle.jfs_bits.specs.declared.descriptor.Moment.{Moment}
use Rattle.jfs_disk.specs.Image.{Image, page_of}
use Rattle.jfs_imap.specs.Inodes.{Inodes}
use Rattle.jfs_bmap.specs.States.{Blocks, unowned_count}
use Rattle.jfs_dtree.specs.Room.{is_deep, DeepIs, deep_on_way}
use Rattle.jfs_plain.specs.Tree.{Tree, Place, new_place, place_at}
use Rattle.jfs_plain.specs.Step.{Room, links_in, links_of}
use Rattle.jfs_plain.specs.declared.node.Node.{Node}
use Rattle.jfs_plain.specs.declared.refusal.Refusal.{Refusal}
use Rattle.jfs_plain.specs.declared.refusal.Refusal.TheVariants.{TooManyLinks, TooDeep}
use Rattle.jfs_link.specs.objects.specs.Volume.{Volume}
use Rattle.jfs_link.specs.objects.specs.Objects.{has_names}
use Rattle.jfs_link.specs.objects.specs.Owners.{Agrees}
use Rattle.jfs_link.specs.meaning.specs.Consistent.{IsConsistent}
use Rattle.jfs_link.specs.meaning.specs.Readers.{readers, root_of}
use Rattle.jfs_link.specs.meaning.specs.Room.{room_on}
use Rattle.jfs_link.specs.room.specs.Laws.{blocks_in}
use Rattle.jfs_link.specs.room.proofs.Rooms.{held_law}
use Rattle.jfs_link.specs.claim.specs.Look.{IsAtRest, WhateverInodes, IfAtRest, TellsSpace, TellsInode, LooksFor, space_for}
use Rattle.jfs_link.specs.claim.specs.declared.look.FreshInode.{FreshInode}
use Rattle.jfs_link.specs.way.specs.Answer.{Follows}
use Rattle.jfs_link.specs.way.specs.Volume.{volume_of}
use Rattle.jfs_link.specs.way.specs.Walk.{IsHeld, IsShown, tree_in}
use Rattle.jfs_link.specs.way.specs.declared.object.Held.{Held}
use Rattle.jfs_link.specs.steps.specs.Place.{last_of, new_place_of, IsPlace}
use Rattle.jfs_link.specs.steps.proofs.LastNames.{IsDirectory, directory_is}
use Rattle.jfs_create.specs.Look.{too_many, IsFree, Barred}
use Rattle.jfs_create.specs.Makes.{plain_of}
use Rattle.jfs_create.specs.declared.new.NewObject.{NewObject}
use Rattle.jfs_create.proofs.Outcomes as outcomes

-- what a call said of the view after another, said of the one before
pub deep_back : (b now : ℕ) (image shown : Image) (root held name last : List ℕ) (deep : Bool) → now ≡ b → shown ≡ image → root ≡ held → name ≡ last → DeepIs now (page_of shown) root name deep → DeepIs b (page_of image) held last deep
deep_back b now image shown root held name last deep same_count same_image is called h =
    subst (λ (bytes : List ℕ). DeepIs b (page_of image) bytes last deep) is
    (subst (λ (units : List ℕ). DeepIs b (page_of image) root units deep) called
    (subst (λ (i : Image). DeepIs b (page_of i) root name deep) same_image
    (subst (λ (k : ℕ). DeepIs k (page_of shown) root name deep) same_count h)))

pub way_deep : (b now : ℕ) (image shown : Image) (root held name last : List ℕ) (deep : Bool) → now ≡ b → shown ≡ image → root ≡ held → name ≡ last → deep ≡ deep_on_way now (page_of shown) root name → deep_on_way b (page_of image) held last ≡ deep
way_deep b now image shown root held name last deep same_count same_image is called h = sym (h ∙ ap (λ (k : ℕ). deep_on_way k (page_of shown) root name) same_count ∙ ap (λ (i : Image). deep_on_way b (page_of i) root name) same_image
    ∙ ap (λ (bytes : List ℕ). deep_on_way b (page_of image) bytes name) is ∙ ap (deep_on_way b (page_of image) held) called)

pub barred_deep : (blocks : ℕ) (pages : ℕ → List ℕ) (map : Blocks) (inodes : Inodes) (path : List (List ℕ)) (object : NewObject) (dir : Held) (fresh : FreshInode) → new_place_of blocks pages inodes path ≡ Ok dir → too_many object dir.inode.nlink ≡ false
    → space_for (unowned_count map) 12 ≡ Ok tt → LooksFor map inodes (Ok fresh) → deep_on_way blocks pages (root_of dir.inode) (last_of path) ≡ true → Barred blocks pages map inodes path object (TooDeep dir.number)
barred_deep blocks pages map inodes path object dir fresh place links space inode deep = inr (inr (dir, place, inr (links, inr (space, inr (fresh, inode, deep, refl)))))

module _ (blocks : ℕ) (pages : ℕ → List ℕ) (map : Blocks) (inodes : Inodes) (many : blocks_in map ≡ blocks) (rest : IsAtRest map inodes) (area : ℕ → ℕ) (con : IsConsistent (readers blocks) (volume_of pages area map inodes)) (log_pages : ℕ) where
  abbrev v : Volume
  v = volume_of pages area map inodes

  abbrev t : Tree
  t = tree_in blocks pages area map inodes

  abbrev space : Room
  space = room_on (readers blocks) v blocks log_pages

  agrees : Agrees (readers (blocks_in map)) v
  agrees = subst (λ (k : ℕ). Agrees (readers k) v) (sym many) con.sound.agrees

  in_room : (fact : Room → Type 0) → fact (room_on (readers (blocks_in map)) v (blocks_in map) log_pages) → fact space
  in_room fact h = subst (λ (k : ℕ). fact (room_on (readers k) v k log_pages)) many h

  space_told : (r : Result (Unit {0}) Refusal) → WhateverInodes map (λ room. TellsSpace room 12 r) → TellsSpace space 12 r
  space_told r h = in_room (λ room. TellsSpace room 12 r) (h pages area inodes agrees log_pages)

  inode_told : (r : Result FreshInode Refusal) → IfAtRest map inodes (λ room. TellsInode room r) → TellsInode space r
  inode_told r h = in_room (λ room. TellsInode room r) (h rest pages area agrees log_pages)

  module _ (path : List (List ℕ)) (dir : Held) (held : IsHeld blocks inodes dir) (shown : IsShown pages dir) (is_dir : has_names dir.inode ≡ true) (f : Follows (IsPlace t path) (new_place t path) (Ok dir)) (object : NewObject) (now : Moment) where
    abbrev name : List ℕ
    name = last_of path

    place : new_place t path ≡ Ok (place_at dir.number name)
    place = f.1 ∙ ap (λ (p : Place). Ok p) f.2.0

    directory : IsDirectory blocks pages t dir
    directory = directory_is blocks pages area map inodes con dir held shown f.2.1 is_dir

    links_are : links_of t dir.number ≡ dir.inode.nlink
    links_are = ap (λ (o : Option Node). links_in o) directory.there ∙ directory.links_are

    links_told : (x : Bool) → too_many object dir.inode.nlink ≡ x → too_many object (links_of t dir.number) ≡ x
    links_told x h = ap (too_many object) links_are ∙ h

    pub full : too_many object dir.inode.nlink ≡ true → plain_of object space t path now ≡ Err TooManyLinks
    full h = outcomes.full object space t path now dir.number name place (links_told true h)

    module _ (links : too_many object dir.inode.nlink ≡ false) where
      pub short : (why : Refusal) → WhateverInodes map (λ room. TellsSpace room 12 (Err why)) → plain_of object space t path now ≡ Err why
      short why h = let s = space_told (Err why) h in outcomes.short object space t path now dir.number name place (links_told false links) s.0 ∙ ap (λ (w : Refusal). Err w) (sym s.1)

      module _ (found : WhateverInodes map (λ room. TellsSpace room 12 (Ok tt))) where
        pub none : (why : Refusal) → IfAtRest map inodes (λ room. TellsInode room (Err why)) → plain_of object space t path now ≡ Err why
        none why h = let s = inode_told (Err why) h in outcomes.no_inode object space t path now dir.number name place (links_told false links) (space_told (Ok tt) found) s.0 ∙ ap (λ (w : Refusal). Err w) (sym s.1)

        module _ (fresh : FreshInode) (number : IfAtRest map inodes (λ room. TellsInode room (Ok fresh))) where
          deep_told : (x : Bool) → DeepIs blocks pages (root_of dir.inode) name x → space.deep dir.number name ≡ x
          deep_told x h = held_law blocks log_pages pages area map inodes dir name con held shown f.2.1 ∙ ap (λ (y : Bool). y && is_deep blocks pages (root_of dir.inode) name) is_dir ∙ h directory.names directory.spelled

          pub deep : DeepIs blocks pages (root_of dir.inode) name true → plain_of object space t path now ≡ Err (TooDeep dir.number)
          deep h = outcomes.deep object space t path now dir.number name place (links_told false links) (space_told (Ok tt) found) fresh.number (inode_told (Ok fresh) number) (deep_told true h)

          pub free : DeepIs blocks pages (root_of dir.inode) name false → IsFree object space t path (record { dir = dir; fresh = fresh })
          free h = record {
            place = place;
            there = f.2.1;
            links = links_told false links;
            space = space_told (Ok tt) found;
            inode = inode_told (Ok fresh) number;
            deep = deep_told false h;
          }
