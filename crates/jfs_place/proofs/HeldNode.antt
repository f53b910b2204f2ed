-- The node that a held inode is in the tree of a consistent volume.
use Rattle.std.proofs.Common.{◌≡◌, refl, sym, ap, ◌∙◌, ℕ, ◌%◌, Bool, true, false, if◌then◌else◌, List, [], map, Option, Some, None, Result, Err}
use Rattle.jfs_inode.specs.declared.fields.Dinode.{Dinode}
use Rattle.jfs_imap.specs.Inodes.{Inodes}
use Rattle.jfs_way.specs.bmap.specs.States.{Blocks}
use Rattle.jfs_name.specs.Directory.{named}
use Rattle.jfs_plain.specs.Tree.{is_dir, enter_from, wanted}
use Rattle.jfs_plain.specs.declared.node.Node.{Node}
use Rattle.jfs_plain.specs.declared.refusal.Refusal.{Refusal}
use Rattle.jfs_plain.specs.declared.refusal.Refusal.TheVariants.{NotDir}
use Rattle.jfs_way.specs.objects.specs.Readers.{Readers}
use Rattle.jfs_way.specs.objects.specs.Volume.{Volume, home, slot_of}
use Rattle.jfs_way.specs.objects.specs.Objects.{Object, spelled, has_names}
use Rattle.jfs_way.specs.objects.specs.Image.{extent_place}
use Rattle.jfs_way.specs.meaning.specs.Readers.{readers}
use Rattle.jfs_way.specs.meaning.specs.Node.{node_with, target_in}
use Rattle.jfs_way.specs.meaning.specs.Tree.{tree_on}
use Rattle.jfs_way.specs.meaning.specs.Consistent.{IsConsistent}
use Rattle.jfs_way.specs.Volume.{volume_of}
use Rattle.jfs_way.specs.Walk.{IsHeld, IsShown, IsThere, tree_in}
use Rattle.jfs_way.specs.declared.object.Held.{Held}
use Rattle.jfs_way.proofs.Places.{home_is}
use Rattle.jfs_way.proofs.Nodes.{inode_is, whole, node_is, in_directory, in_other}

is_named : (node : Node) (y : Option ℕ) → (if is_dir node.kind then wanted (named [] node.names) else Err NotDir) ≡ wanted y → is_dir node.kind ≡ true
is_named node y h = by (is_dir node.kind) (wanted (named [] node.names)) refl h
  where
    no : (y : Option ℕ) → Err NotDir ≡ wanted y → ⊥
    no None h = cc (h)
    no (Some k) h = cc (h)

    by : (x : Bool) (w : Result ℕ Refusal) → is_dir node.kind ≡ x → (if x then w else Err NotDir) ≡ wanted y → is_dir node.kind ≡ true
    by true w e h = e
    by false w e h = absurd (no y h)

is_other : (node : Node) → (if is_dir node.kind then wanted (named [] node.names) else Err NotDir) ≡ Err NotDir → is_dir node.kind ≡ false
is_other node h = by (is_dir node.kind) (named [] node.names) refl h
  where
    by : (x : Bool) (y : Option ℕ) → is_dir node.kind ≡ x → (if x then wanted y else Err NotDir) ≡ Err NotDir → is_dir node.kind ≡ false
    by true None e h = absurd (cc (h))
    by true (Some k) e h = absurd (cc (h))
    by false y e h = e

module _ (blocks : ℕ) (pages : ℕ → List ℕ) (area : ℕ → ℕ) (bm : Blocks) (inodes : Inodes) (con : IsConsistent (readers blocks) (volume_of pages area bm inodes))
    (o : Held) (held : IsHeld blocks inodes o) (shown : IsShown pages o) (there : IsThere (tree_in blocks pages area bm inodes) o.number) where
  abbrev r : Readers
  r = readers blocks

  abbrev v : Volume
  v = volume_of pages area bm inodes

  abbrev ob : Object
  ob = spelled r pages (slot_of (pages o.page) (o.number % 8))

  pub stood : home (map extent_place inodes.extents) o.number ≡ Some o.page
  stood = home_is inodes o.number ∙ held.home

  pub held_node : Node
  held_node = node_with ob.inode (target_in r pages ob) (whole blocks v con o.number o.page stood there).names

  pub node_there : (tree_on r v).nodes o.number ≡ Some held_node
  unfolding held_node
  node_there = node_is blocks v con o.number o.page stood there

  -- its link count is the inode's
  pub node_links : held_node.links ≡ o.inode.nlink
  unfolding held_node
  node_links = ap (λ (d : Dinode). d.nlink) (inode_is blocks v con (slot_of (pages o.page) (o.number % 8)) ∙ sym shown)

  -- it is a directory where the inode is one
  pub node_kind : (x : Bool) → has_names o.inode ≡ x → is_dir held_node.kind ≡ x
  node_kind true e = is_named held_node (named [] (in_directory blocks v con o.number o.page stood there names).0) (sym (ap (λ (x : Option Node). enter_from x []) node_there) ∙ (in_directory blocks v con o.number o.page stood there names).2 [])
    where
      names : has_names (slot_of (pages o.page) (o.number % 8)) ≡ true
      names = ap has_names (sym shown) ∙ e
  node_kind false e = is_other held_node (sym (ap (λ (x : Option Node). enter_from x []) node_there) ∙ in_other blocks v con o.number o.page stood there (ap has_names (sym shown) ∙ e) [])
