-- What pages have beside entries, kind and links, their frame: a page that was taken names itself, and each other keeps its own.
use Rattle.std.specs.Prelude.{◌≡◌, ◌<◌, ℕ, List, Ok}
use Rattle.jfs_disk.specs.Image.{Image}
use Rattle.jfs_ranges.specs.declared.edit.Edit.{Edit}
use Rattle.jfs_tree.specs.Walk.{Node, Scale, times, walk}
use Rattle.jfs_tree.specs.Spells.{spells}
use Rattle.jfs_tree.specs.Edit.{IsApart, count_in}
use Rattle.jfs_tree.specs.Draft.{shown}
use Rattle.jfs_tree.specs.Fresh.{LeadsTo, after_tx}
use Rattle.jfs_tree.specs.Adds.{read_as}
use Rattle.jfs_tree.specs.Root.{IsSpare}
use Rattle.jfs_tree.specs.declared.draft.Drafted.{Drafted}

-- the page was one of the free ones, and isn't any more
abbrev pub IsTaken : List ℕ → List ℕ → ℕ → Type 0
IsTaken free left n = count_in n left < count_in n free

-- A page that was taken names itself, where the free blocks aren't pages of the tree, whatever list that the entry is apart from it spelled. Each page that wasn't taken keeps its frame.
pub record FramesNow {P E : Type 0} (s : Scale P E) (node : List ℕ → Node P E) (frame : List ℕ → List ℕ) (named : ℕ → List ℕ) (blocks : ℕ) (x : E) (pages later : ℕ → List ℕ) (root : Node P E) (free left : List ℕ) : Type 0 where
  pub taken : (es : List E) → spells s (read_as node pages) root ≡ Ok es → IsApart s x es → IsSpare s (read_as node pages) root free → (n : ℕ) → n < blocks → IsTaken free left n → frame (later n) ≡ named n
  pub others : (n : ℕ) → n < blocks → count_in n free ≡ count_in n left → frame (later n) ≡ frame (pages n)

-- so of the pages to which all edits lead, where the edits before lead to the pages that the view shows
abbrev pub FramesTold : {P E : Type 0} → Scale P E → (List ℕ → Node P E) → (List ℕ → List ℕ) → (ℕ → List ℕ) → ℕ → E → (ℕ → List ℕ) → Node P E → List ℕ → List ℕ → List Edit → List Edit → Type 0
FramesTold s node frame named blocks x pages root free left tx later = (base : ℕ → List ℕ) → LeadsTo blocks base tx pages → FramesNow s node frame named blocks x pages (after_tx base later) root free left

-- Where no page is taken, each page keeps its frame.
abbrev pub KeepsFramesTold : (List ℕ → List ℕ) → ℕ → (ℕ → List ℕ) → List Edit → List Edit → Type 0
KeepsFramesTold frame blocks pages tx later = (base : ℕ → List ℕ) → LeadsTo blocks base tx pages → (n : ℕ) → n < blocks → frame (after_tx base later n) ≡ frame (pages n)

-- ---- parts of a call, for the prover alone

-- all pages keep their frames
abbrev pub KeepsFrames : (List ℕ → List ℕ) → Image → List Drafted → List Drafted → Type 0
KeepsFrames frame image old new = (n : ℕ) → frame (shown new image n) ≡ frame (shown old image n)

-- and so where a page, which was read before, was changed
abbrev pub KeepsFramesAt : (List ℕ → List ℕ) → List ℕ → ℕ → List Drafted → List Drafted → Type 0
KeepsFramesAt frame bytes page old new = (image : Image) → frame bytes ≡ frame (shown old image page) → KeepsFrames frame image old new

-- a page that was taken names itself
abbrev pub NamesTaken : (List ℕ → List ℕ) → (ℕ → List ℕ) → List Drafted → List ℕ → List ℕ → Type 0
NamesTaken frame named new free left = (image : Image) (n : ℕ) → IsTaken free left n → frame (shown new image n) ≡ named n

-- a page, which was read before, took something, perhaps with a new page beside it
pub record TakesFramed (frame : List ℕ → List ℕ) (named : ℕ → List ℕ) (bytes : List ℕ) (page : ℕ) (old new : List Drafted) (free left : List ℕ) : Type 0 where
  pub taken : NamesTaken frame named new free left
  pub others : (image : Image) → frame bytes ≡ frame (shown old image page) → (n : ℕ) → count_in n free ≡ count_in n left → frame (shown new image n) ≡ frame (shown old image n)

-- the part of a tree below a page took an entry
pub record GrowsFramed {P E : Type 0} (s : Scale P E) (pages : ℕ → Node P E) (frame : List ℕ → List ℕ) (named : ℕ → List ℕ) (image : Image) (old new : List Drafted) (levels page : ℕ) (free left : List ℕ) : Type 0 where
  pub taken : (key : P) (n : ℕ) → times n (walk s pages levels (record { key = key; page = page })) ≡ 0 → IsTaken free left n → frame (shown new image n) ≡ named n
  pub others : (n : ℕ) → count_in n free ≡ count_in n left → frame (shown new image n) ≡ frame (shown old image n)

-- a whole tree took an entry
pub record FramesAlways {P E : Type 0} (s : Scale P E) (x : E) (pages : ℕ → Node P E) (root : Node P E) (frame : List ℕ → List ℕ) (named : ℕ → List ℕ) (image : Image) (old new : List Drafted) (free left : List ℕ) : Type 0 where
  pub taken : (es : List E) → spells s pages root ≡ Ok es → IsApart s x es → IsSpare s pages root free → (n : ℕ) → IsTaken free left n → frame (shown new image n) ≡ named n
  pub others : (n : ℕ) → count_in n free ≡ count_in n left → frame (shown new image n) ≡ frame (shown old image n)
