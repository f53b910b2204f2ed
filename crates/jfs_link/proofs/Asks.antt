-- What is asked of a consistent volume, and what the plain step asks.
use Rattle.std.proofs.Common.{◌≡◌, ◌≤◌, refl, sym, ap, ◌∙◌, subst, inl, inr, ℕ, Bool, true, false, ◌&&◌, ◌-◌, ◌<◌, arith, List, [], length, get_or, Some, Result, Ok, Err}
use Rattle.std.proofs.lemmas.Bool.{le-leb}
use Rattle.std.proofs.lemmas.Bool.Decides.{nat_tests}
use Rattle.std.proofs.lemmas.List.{get_or_read_under}
use Rattle.std.specs.Prelude.{nat_le}
use Rattle.jfs_disk.specs.Image.{Image, page_of}
use Rattle.jfs_inode.specs.declared.fields.Dinode.{Dinode}
use Rattle.jfs_imap.specs.Inodes.{Inodes}
use Rattle.jfs_bmap.specs.States.{Blocks}
use Rattle.jfs_name.specs.declared.name.NameEntry.{NameEntry}
use Rattle.jfs_name.specs.Directory.{named}
use Rattle.jfs_lead_steps.specs.dtree.specs.Room.{is_deep, DeepIs}
use Rattle.jfs_lead_steps.specs.dtree.specs.Spells.{spells_names}
use Rattle.jfs_plain.specs.Tree.{Tree, Place, walk, root, new_place, place_at, is_dir, enter, wanted}
use Rattle.jfs_plain.specs.Step.{Room, is_short, is_full}
use Rattle.jfs_plain.specs.declared.node.Node.{Node}
use Rattle.jfs_plain.specs.declared.refusal.Refusal.{Refusal}
use Rattle.jfs_plain.specs.declared.refusal.Refusal.TheVariants.{IsDir, TooManyLinks, TooDeep}
use Rattle.jfs_lead_steps.specs.objects.specs.Objects.{has_names}
use Rattle.jfs_lead_steps.specs.objects.specs.Owners.{Agrees}
use Rattle.jfs_lead_steps.specs.meaning.specs.Readers.{readers, root_of}
use Rattle.jfs_lead_steps.specs.meaning.specs.Room.{room_on}
use Rattle.jfs_lead_steps.specs.meaning.specs.Consistent.{IsConsistent}
use Rattle.jfs_claim.specs.room.proofs.Rooms.{held_law}
use Rattle.jfs_steps.specs.way.specs.Answer.{Follows}
use Rattle.jfs_steps.specs.way.specs.Volume.{volume_of}
use Rattle.jfs_steps.specs.way.specs.Walk.{IsHeld, IsShown, IsThere, IsOf, tree_in}
use Rattle.jfs_steps.specs.way.specs.declared.object.Held.{Held}
use Rattle.jfs_steps.specs.way.proofs.Nodes.{in_directory}
use Rattle.jfs_steps.specs.Place.{last_of, IsPlace}
use Rattle.jfs_claim.specs.Look.{WhateverInodes, TellsSpace}
use Rattle.jfs_place.proofs.HeldNode.{stood, held_node, node_there, node_links, node_kind}
use Rattle.jfs_link.specs.Link.{MayLink, RefusesLink}
use Rattle.jfs_link.proofs.PlainTree.{no_object, of_directory, no_place, full, short, deep}

-- what is told of the space, told of the room
pub space_by : (blocks : ℕ) (pages : ℕ → List ℕ) (area : ℕ → ℕ) (bm : Blocks) (inodes : Inodes) → length bm.states ≡ blocks → IsConsistent (readers blocks) (volume_of pages area bm inodes) → (result : Result (Unit {0}) Refusal)
    → WhateverInodes bm (λ room. TellsSpace room 8 result) → (log_pages : ℕ) → TellsSpace (room_on (readers blocks) (volume_of pages area bm inodes) blocks log_pages) 8 result
space_by blocks pages area bm inodes size con result tells log_pages = subst (λ (k : ℕ). TellsSpace (room_on (readers k) (volume_of pages area bm inodes) k log_pages) 8 result) size
    (tells pages area inodes (subst (λ (k : ℕ). Agrees (readers k) (volume_of pages area bm inodes)) (sym size) con.sound.agrees) log_pages)

module _ (blocks : ℕ) (pages : ℕ → List ℕ) (area : ℕ → ℕ) (bm : Blocks) (inodes : Inodes) (con : IsConsistent (readers blocks) (volume_of pages area bm inodes)) where
  abbrev t : Tree
  t = tree_in blocks pages area bm inodes

  -- the names of a directory that was walked to
  pub names_of : (o : Held) → IsHeld blocks inodes o → IsShown pages o → IsThere t o.number → has_names o.inode ≡ true → (es : List NameEntry) × (spells_names blocks pages (root_of o.inode) ≡ Ok es)
  names_of o held shown there e = let d = in_directory blocks (volume_of pages area bm inodes) con o.number o.page (stood blocks pages area bm inodes con o held shown there) there (ap has_names (sym shown) ∙ e) in
      (d.0, ap (λ (x : Dinode). spells_names blocks pages (root_of x)) shown ∙ d.1)

  -- what they lead to
  pub enters_names : (o : Held) (held : IsHeld blocks inodes o) (shown : IsShown pages o) (there : IsThere t o.number) (e : has_names o.inode ≡ true) (name : List ℕ) → enter t o.number name ≡ wanted (named name (names_of o held shown there e).0)
  unfolding names_of
  enters_names o held shown there e name = (in_directory blocks (volume_of pages area bm inodes) con o.number o.page (stood blocks pages area bm inodes con o held shown there) there (ap has_names (sym shown) ∙ e)).2 name

  -- whether it is too deep, told of the room
  pub deep_by : (o : Held) → IsHeld blocks inodes o → IsShown pages o → IsThere t o.number → has_names o.inode ≡ true → (name : List ℕ) (x : Bool) → DeepIs blocks pages (root_of o.inode) name x
      → (log_pages : ℕ) → (room_on (readers blocks) (volume_of pages area bm inodes) blocks log_pages).deep o.number name ≡ x
  deep_by o held shown there e name x told log_pages = held_law blocks log_pages pages area bm inodes o name con held shown there
      ∙ ap (λ (y : Bool). y && is_deep blocks pages (root_of o.inode) name) e ∙ (let es = names_of o held shown there e in told es.0 es.1)

  module _ (room : Room) (from to : List (List ℕ)) (object : Held) (held : IsHeld blocks inodes object) (shown : IsShown pages object) (f : Follows {X = ℕ} {Y = Held} (IsOf t) (walk t root from) (Ok object)) where
    pub walked : walk t root from ≡ Ok object.number
    walked = f.1 ∙ ap (λ (n : ℕ). Ok n) f.2.0

    pub there : IsThere t object.number
    there = subst (IsThere t) f.2.0 f.2.1

    node : Node
    node = held_node blocks pages area bm inodes con object held shown there

    is_node : t.nodes object.number ≡ Some node
    unfolding node
    is_node = node_there blocks pages area bm inodes con object held shown there

    kind_is : (x : Bool) → has_names object.inode ≡ x → is_dir node.kind ≡ x
    unfolding node
    kind_is x e = node_kind blocks pages area bm inodes con object held shown there x e

    links_are : node.links ≡ object.inode.nlink
    unfolding node
    links_are = node_links blocks pages area bm inodes con object held shown there

    pub directory_refused : has_names object.inode ≡ true → RefusesLink from to IsDir room t
    directory_refused e = inl (λ now. of_directory t room from to now object.number node walked is_node (kind_is true e))

    module _ (file : has_names object.inode ≡ false) where
      pub place_refused : (why : Refusal) → Follows {X = Place} {Y = Held} (IsPlace t to) (new_place t to) (Err why) → RefusesLink from to why room t
      place_refused why (inl e) = inl (λ now. no_place t room from to now object.number node walked is_node (kind_is false file) why e)
      place_refused why (inr e) = inr e

      module _ (dir : Held) (g : Follows {X = Place} {Y = Held} (IsPlace t to) (new_place t to) (Ok dir)) where
        pub placed : new_place t to ≡ Ok (place_at dir.number (last_of to))
        placed = g.1 ∙ ap (λ (p : Place). Ok p) g.2.0

        pub links_refused : 65535 ≤ object.inode.nlink → RefusesLink from to TooManyLinks room t
        links_refused l = inl (λ now. full t room from to now object.number node walked is_node (kind_is false file) (place_at dir.number (last_of to)) placed (ap (λ (k : ℕ). is_full k) links_are ∙ le-leb 65535 object.inode.nlink l))

        few_is : is_full object.inode.nlink ≡ false → is_full node.links ≡ false
        few_is e = ap (λ (k : ℕ). is_full k) links_are ∙ e

        pub space_refused : is_full object.inode.nlink ≡ false → (why : Refusal) → TellsSpace room 8 (Err why) → RefusesLink from to why room t
        space_refused few why tells = inl (λ now. short t room from to now object.number node walked is_node (kind_is false file) (place_at dir.number (last_of to)) placed (few_is few) tells.0 ∙ ap (λ (w : Refusal). Err w) (sym tells.1))

        pub depth_refused : is_full object.inode.nlink ≡ false → is_short room 8 ≡ false → room.deep dir.number (last_of to) ≡ true → RefusesLink from to (TooDeep dir.number) room t
        depth_refused few space is = inl (λ now. deep t room from to now object.number node walked is_node (kind_is false file) (place_at dir.number (last_of to)) placed (few_is few) space is)

        pub may_link : IsThere t dir.number → is_short room 8 ≡ false → room.deep dir.number (last_of to) ≡ false → MayLink from to object dir room t
        may_link dir_there space depth = record { walked = walked; there = there; placed = placed; dir_there = dir_there; space = space; takes_name = depth }

  -- nothing is refused where the root can't be walked from
  pub walk_refused : (room : Room) (from to : List (List ℕ)) (why : Refusal) → Follows {X = ℕ} {Y = Held} (IsOf t) (walk t root from) (Err why) → RefusesLink from to why room t
  walk_refused room from to why (inl e) = inl (λ now. no_object t room from to now why e)
  walk_refused room from to why (inr e) = inr e

-- a path's last name
pub last_is : (path : List (List ℕ)) (name : List ℕ) → 0 < length path → name ≡ get_or path (length path - 1) name → name ≡ last_of path
last_is path name some h = get_or_read_under path (length path - 1) (length path) name [] h (omega (arith, some)) refl

pub not_full : (links : ℕ) → links < 65535 → is_full links ≡ false
not_full links l = lt-leb-false links l
  where
    lt-leb-false : (k : ℕ) → k < 65535 → nat_le 65535 k ≡ false
    lt-leb-false k h = grind (arith, nat_tests)

-- what was said of the view after another call, of the one before
pub back : (R : ℕ → (ℕ → List ℕ) → List ℕ → Type 0) (b now : ℕ) (image shown : Image) (name told : List ℕ) → now ≡ b → shown ≡ image → told ≡ name → R now (page_of shown) told → R b (page_of image) name
back R b now image shown name told e f h x = subst (λ (n : List ℕ). R b (page_of image) n) h (subst (λ (i : Image). R b (page_of i) told) f (subst (λ (k : ℕ). R k (page_of shown) told) e x))
