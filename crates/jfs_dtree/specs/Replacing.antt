-- A name that is led to another inode.
use Rattle.std.specs.Prelude.{◌≡◌, ◌⊎◌, ◌<◌, ◌≤◌, ℕ, zero, suc, if◌then◌else◌, List, map, Option, Some, None, Result, Ok, Err}
use Rattle.jfs_bits.specs.declared.rule.PageKind.TheVariants.{Dtree}
use Rattle.jfs_name.specs.declared.name.NameEntry.{NameEntry}
use Rattle.jfs_name.specs.Directory.{is_same, named, with_inode}
use Rattle.jfs_ranges.specs.declared.edit.Edit.{Edit}
use Rattle.jfs_ranges.specs.Apply.{apply_tx}
use Rattle.jfs_dtpage.specs.Slots.{Kept}
use Rattle.jfs_tree.specs.Walk.{Node, Leaf, Inner, Broken, Scale}
use Rattle.jfs_tree.specs.Path.{further, way_of}
use Rattle.jfs_tree.specs.Fresh.{LeadsTo, after_tx}
use Rattle.jfs_tree.specs.Tell.{LeavesOthers, TellsRuns}
use Rattle.jfs_dtpage.specs.declared.head.DtForm.TheVariants.{Full}
use Rattle.jfs_dtree.specs.Node.{name_scale, dt_node}
use Rattle.jfs_dtree.specs.Spells.{page_nodes, spells_names, owned_pages}
use Rattle.jfs_dtree.specs.declared.error.DtError.{DtError}
use Rattle.jfs_dtree.specs.declared.error.DtError.TheVariants.{View, Bad, Exists, Missing, TooDeep}

-- A root that spelled these names spells them with another inode under one of them, in its place. It has the pages that it had, and each page of the file system that isn't one of them
-- keeps its bytes.
pub record LeadsElsewhere (blocks : ℕ) (name : List ℕ) (inode : ℕ) (es : List NameEntry) (pages later : ℕ → List ℕ) (root after : List ℕ) : Type 0 where
  pub spelled : spells_names blocks later after ≡ Ok (with_inode name inode es)
  pub owned : (n : ℕ) → owned_pages blocks later after n ≡ owned_pages blocks pages root n
  pub keeps : (n : ℕ) → n < blocks → owned_pages blocks pages root n ≡ 0 → later n ≡ pages n

-- Whatever names the root spelled, this one named the old inode: where the edits before lead to the pages that the view shows, all edits lead to pages in which it names the new one.
abbrev pub ReplacesName : ℕ → (ℕ → List ℕ) → List ℕ → ℕ → List ℕ → List ℕ → List Edit → List Edit → ℕ → Type 0
ReplacesName blocks pages name inode root after tx later old = (es : List NameEntry) → spells_names blocks pages root ≡ Ok es → (named name es ≡ Some old)
    × ((base : ℕ → List ℕ) → LeadsTo blocks base tx pages → LeadsElsewhere blocks name inode es pages (after_tx base later) root after)

-- Four bytes behind a header change, those of an inode, and nothing else.
abbrev pub ChangesInode : List ℕ → List ℕ → Type 0
ChangesInode old new = (at : ℕ) × (32 ≤ at) × Kept at 4 old new

-- One page of the file system has another inode in one place, and the runs of its lines that changed are told, each as long as can be.
pub record ChangesPage (blocks : ℕ) (pages : ℕ → List ℕ) (tx later : List Edit) : Type 0 where
  pub page : ℕ
  pub bytes : List ℕ
  pub within : page < blocks
  pub change : ChangesInode (pages page) bytes
  pub told : TellsRuns page Dtree (pages page) bytes tx later

-- What changes: an inode in the root, and then nothing is told; or one in a page, and then the root stays.
abbrev pub ChangesOnePlace : ℕ → (ℕ → List ℕ) → List ℕ → List ℕ → List Edit → List Edit → Type 0
ChangesOnePlace blocks pages root after tx later = (ChangesInode root after × (later ≡ tx)) ⊎ ((after ≡ root) × ChangesPage blocks pages tx later)

-- what the name's way leads to decides: its inode is answered, or the name is missing
abbrev pub FollowsWay : Option ℕ → Result ℕ DtError → Type 0
FollowsWay found (Ok old) = found ≡ Some old
FollowsWay found (Err (View e)) = Unit {0}
FollowsWay found (Err (Bad page rule)) = Unit {0}
FollowsWay found (Err Exists) = ⊥
FollowsWay found (Err Missing) = found ≡ None
FollowsWay found (Err TooDeep) = ⊥

-- ---- parts of the call, for the prover alone

-- an entry, led to another inode where it has the name
abbrev pub led : List ℕ → ℕ → NameEntry → NameEntry
led name inode e = if is_same e.name name then record e { inode = inode } else e

-- the leaf at the end of a way, from a page on
abbrev pub end_at : {P E : Type 0} → Scale P E → P → (ℕ → Option ℕ) → ℕ → Node P E → Option ℕ
end_at s at below page (Leaf es) = Some page
end_at s at below page (Inner cs) = further below (way_of s at (Inner cs))
end_at s at below page (Broken rule) = None

unfoldable pub end_below : {P E : Type 0} → Scale P E → (ℕ → Node P E) → P → ℕ → ℕ → Option ℕ
end_below s nodes at zero page = None
end_below s nodes at (suc most) page = end_at s at (end_below s nodes at most) page (nodes page)

-- a page whose entry of the name is led to the inode, and what is told of it
pub record LeadsPage (n : ℕ) (old name : List ℕ) (inode : ℕ) (tx later : List Edit) : Type 0 where
  pub bytes : List ℕ
  pub node : (blocks : ℕ) (es : List NameEntry) → dt_node Full blocks old ≡ Leaf es → dt_node Full blocks bytes ≡ Leaf (map (led name inode) es)
  pub change : ChangesInode old bytes
  pub runs : TellsRuns n Dtree old bytes tx later
  pub told : (content : List ℕ) → apply_tx n tx content ≡ old → apply_tx n later content ≡ bytes
  pub others : LeavesOthers n tx later

-- the leaf at the end of the way from a page on is such a page
abbrev pub LeadsBelow : ℕ → (ℕ → List ℕ) → List ℕ → ℕ → ℕ → List Edit → List Edit → Type 0
LeadsBelow blocks pages name inode page tx later = (n : ℕ) × (n < blocks) × (end_below name_scale (page_nodes blocks pages) name 7 page ≡ Some n) × LeadsPage n (pages n) name inode tx later

-- a page can't be read, memory ran out, or the way ends nowhere
abbrev pub EndsNowhere : Option ℕ → DtError → Type 0
EndsNowhere end (View e) = Unit {0}
EndsNowhere end (Bad page rule) = ⊥
EndsNowhere end Exists = ⊥
EndsNowhere end Missing = end ≡ None
EndsNowhere end TooDeep = ⊥
