-- A directory gains a name: what its tree's call and its inode's lines do together.
use Rattle.std.specs.Prelude.{◌≡◌, ◌⊎◌, ◌<◌, ◌≤◌, ℕ, ◌+◌, ◌%◌, ◌^◌, true, false, List, [], ◌++◌, length, Some, Ok, Err}
use Rattle.std.specs.Option.{option_map}
use Rattle.jfs_bits.specs.Field.{put_bytes}
use Rattle.jfs_bits.specs.declared.descriptor.Pxd.{Pxd}
use Rattle.jfs_bits.specs.declared.rule.PageKind.TheVariants as kinds
use Rattle.jfs_inode.specs.declared.fields.Dinode.{Dinode}
use Rattle.jfs_name.specs.declared.name.NameEntry.{NameEntry}
use Rattle.jfs_ranges.specs.Laid.{put_tx}
use Rattle.jfs_ranges.specs.declared.edit.Edit.{Edit}
use Rattle.jfs_way.specs.page_tree.specs.Changes.{TellsTaken}
use Rattle.jfs_way.specs.page_tree.specs.Edit.{count_in}
use Rattle.jfs_way.specs.page_tree.specs.Form.{AllBelow}
use Rattle.jfs_way.specs.page_tree.specs.Fresh.{blocks_of}
use Rattle.jfs_way.specs.dtree.specs.Spells.{spells_names, broken_for}
use Rattle.jfs_way.specs.dtree.specs.Parent.{parent_of}
use Rattle.jfs_way.specs.dtree.specs.Adding.{AddsName, RefusesName, AddTellsWay, ClashesFor}
use Rattle.jfs_way.specs.dtree.specs.declared.error.DtError.{DtError}
use Rattle.jfs_way.specs.plain.specs.declared.refusal.Refusal.{Refusal}
use Rattle.jfs_way.specs.Answer.{is_open, names_refusal}
use Rattle.jfs_way.specs.plain.specs.Moves.{gains}
use Rattle.jfs_way.specs.plain.specs.declared.node.Node.{Node}
use Rattle.jfs_way.specs.objects.specs.Volume.{Volume, home}
use Rattle.jfs_way.specs.objects.specs.Objects.{objects, spelled, has_names, is_live}
use Rattle.jfs_way.specs.objects.specs.Owners.{IsSound}
use Rattle.jfs_way.specs.objects.specs.Changes.{put, SetsObject}
use Rattle.jfs_way.specs.meaning.specs.Contents.{byte_in}
use Rattle.jfs_way.specs.meaning.specs.Node.{node_of}
use Rattle.jfs_way.specs.meaning.specs.Readers.{readers, root_of}
use Rattle.jfs_way.specs.meaning.specs.Tree.{node_on, byte_on}
use Rattle.jfs_way.specs.declared.object.Held.{Held}
use Rattle.jfs_steps.specs.Put.{AddsInode, TellsLines}
use Rattle.jfs_steps.specs.After.{used_after}
use Rattle.jfs_steps.specs.declared.gain.Gain.{Gain}

-- The directory's inode with another root and so many links, written now: it has so many blocks more, in 64 bits.
abbrev pub with_root : Dinode → List ℕ → Gain → ℕ → Dinode
with_root d root gain more = record d { rest = put_bytes 96 root d.rest; nblocks = (d.nblocks + more) % 2 ^ 64; nlink = gain.links; mtime = gain.now; ctime = gain.now }

abbrev pub entry_of : List ℕ → Gain → NameEntry
entry_of name gain = record { name = name; inode = gain.inode }

-- Its tree gets the name, by edits of its pages that take free blocks in their order, and then its inode gets the root that the tree has then, and the new link count.
pub record GainsName (blocks : ℕ) (pages : ℕ → List ℕ) (dir : Held) (name : List ℕ) (gain : Gain) (free left : List Pxd) (tx : List Edit) : Type 0 where
  pub root : List ℕ
  pub mid : List Edit
  pub width : length root ≡ 288
  pub size : length dir.inode.rest ≡ 384
  pub parent : parent_of root ≡ parent_of (root_of dir.inode)
  pub adds : AddsName blocks pages (entry_of name gain) (root_of dir.inode) root (blocks_of free) (blocks_of left) [] mid
  pub edits : TellsTaken blocks kinds.Dtree pages (blocks_of free) (blocks_of left) [] mid
  pub puts : AddsInode blocks pages dir.page dir.number (with_root dir.inode root gain (length edits.0)) mid tx
  pub lines : TellsLines blocks pages dir.page mid tx

-- Blocks were taken from the front, and the others are left.
abbrev pub TakesFront : List ℕ → List ℕ → Type 0
TakesFront free left = (taken : List ℕ) × (free ≡ taken ++ left)

-- It is refused for faults and want of memory; else as the directory's tree refuses it, and a page that is named is the first on the name's way that breaks a rule, or one at which the name clashes.
abbrev pub GainRefused : ℕ → (ℕ → List ℕ) → Held → List ℕ → Gain → List Pxd → Refusal → Type 0
GainRefused blocks pages dir name gain free why = (is_open why ≡ true) ⊎ ((e : DtError) × (why ≡ names_refusal dir.number dir.page e) × RefusesName blocks pages (entry_of name gain) (root_of dir.inode) (blocks_of free) e
    × AddTellsWay (broken_for blocks pages (root_of dir.inode) name) (ClashesFor blocks pages (entry_of name gain) (root_of dir.inode)) (Err e))

-- ---- what that does to a volume

-- A step sets an object: its edits change the pages and the blocks in use, and its inode is in use.
abbrev pub after_set : ℕ → List Edit → ℕ → Volume → Volume
after_set blocks tx n v = record v { page = put_tx blocks tx v.page; used = used_after tx v.used; in_use = put n true v.in_use }

-- a node with so many links
abbrev pub linked : ℕ → Node → Node
linked links o = record o { links = links }

-- The directory is set: in the tree it gains the name, is written now and has so many links; it holds no bytes, as before.
pub record IsGained (blocks : ℕ) (v w : Volume) (n : ℕ) (set : Dinode) (mid : ℕ → List ℕ) (taken : List ℕ) (name : List ℕ) (gain : Gain) : Type 0 where
  pub sets : SetsObject (readers blocks) v w n set mid taken []
  pub node : node_of (readers blocks) mid (spelled (readers blocks) mid set) ≡ option_map (λ o. linked gain.links (gains (entry_of name gain) gain.now o)) (node_on (readers blocks) v n)
  pub bytes : (i : ℕ) → byte_in (readers blocks) mid (Some (spelled (readers blocks) mid set)) i ≡ byte_on (readers blocks) v n i

-- A directory on a sound volume, whose tree spells these names; and free blocks for its pages, each once.
pub record CanGain (blocks : ℕ) (v : Volume) (dir : Held) (es : List NameEntry) (free : List Pxd) : Type 0 where
  pub sound : IsSound (readers blocks) v
  pub whole : (b : ℕ) → b < blocks → length (v.page b) ≡ 4096
  pub used_within : (b : ℕ) → v.used b ≡ true → b < blocks
  pub at : home v.extents dir.number ≡ Some dir.page
  pub was : objects (readers blocks) v dir.number ≡ Some (spelled (readers blocks) v.page dir.inode)
  pub is_dir : has_names dir.inode ≡ true
  pub names : spells_names blocks v.page (root_of dir.inode) ≡ Ok es
  pub once : (b : ℕ) → count_in b (blocks_of free) ≤ 1
  pub free_within : AllBelow blocks (blocks_of free)
  pub fresh : (b : ℕ) → 0 < count_in b (blocks_of free) → v.used b ≡ false

-- A directory that gains a name by its tree's call and its inode's lines, and has a link left, gains it in the tree.
abbrev pub GainLaw : Type 0
GainLaw = (blocks : ℕ) (v : Volume) (dir : Held) (es : List NameEntry) (name : List ℕ) (gain : Gain) (free left : List Pxd) (tx : List Edit) → CanGain blocks v dir es free
    → (g : GainsName blocks v.page dir name gain free left tx) → is_live dir.number (with_root dir.inode g.root gain (length g.edits.0)) ≡ true
    → IsGained blocks v (after_set blocks tx dir.number v) dir.number (with_root dir.inode g.root gain (length g.edits.0)) (put_tx blocks g.mid v.page) g.edits.0 name gain
