-- What of a page of a directory tree stays while names come and go. (JFS Layout, dtree: `dtpage_t`, `dtroot_t`.)
use Rattle.std.specs.Prelude.{ℕ, List, [], ◌∷◌}
use Rattle.jfs_name.specs.declared.name.NameEntry.{NameEntry}
use Rattle.jfs_ranges.specs.declared.edit.Edit.{Edit}
use Rattle.jfs_dtpage.specs.declared.head.DtForm.{DtForm}
use Rattle.jfs_dtpage.specs.declared.head.DtForm.TheVariants.{Full}
use Rattle.jfs_dtpage.specs.declared.head.Place.{Place}
use Rattle.jfs_dtpage.specs.declared.head.Place.TheVariants.{InInode, OnVolume}
use Rattle.jfs_dtpage.specs.Form.{head_of}
use Rattle.jfs_tree.specs.Frames.{FramesTold, KeepsFramesTold}
use Rattle.jfs_dtree.specs.Node.{name_scale, dt_node}
use Rattle.jfs_dtree.specs.Spells.{root_node}

-- a root's parent; a page's number of slots, the slot where its table begins, and its own descriptor
abbrev pub frame_in : Place → List ℕ
frame_in (InInode parent) = parent ∷ []
frame_in (OnVolume next prev maxslot stblindex at) = maxslot ∷ stblindex ∷ at.len ∷ at.addr ∷ []

abbrev pub frame_of : DtForm → List ℕ → List ℕ
frame_of form bytes = frame_in (head_of form bytes).place

-- a new page names itself: its own descriptor is one block at its own number
abbrev pub new_frame : ℕ → List ℕ
new_frame n = 128 ∷ 1 ∷ 1 ∷ n ∷ []

-- What pages have beside kind, count, links and entries stays, and each page that was taken names itself, where the free blocks aren't pages of the tree.
abbrev pub NamesPages : ℕ → (ℕ → List ℕ) → NameEntry → List ℕ → List ℕ → List ℕ → List Edit → List Edit → Type 0
NamesPages blocks pages x root free left tx later = FramesTold name_scale (dt_node Full blocks) (frame_of Full) new_frame blocks x pages (root_node blocks root) free left tx later

-- What each page has beside kind, count, links and entries stays.
abbrev pub KeepsPages : ℕ → (ℕ → List ℕ) → List Edit → List Edit → Type 0
KeepsPages blocks pages tx later = KeepsFramesTold (frame_of Full) blocks pages tx later
