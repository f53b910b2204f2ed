-- Pages beside a way down a tree, and what stays where their links are set.
use Rattle.std.specs.Prelude.{◌≡◌, ◌<◌, ℕ, Bool, true, false, List, Option, Some, slice_get, IfSome}
use Rattle.jfs_disk.specs.Image.{Image}
use Rattle.jfs_tree.specs.Walk.{Child, Node}
use Rattle.jfs_tree.specs.Walking.{children_in}
use Rattle.jfs_tree.specs.Call.{nodes}
use Rattle.jfs_tree.specs.Draft.{shown}
use Rattle.jfs_tree.specs.Frames.{KeepsFrames}
use Rattle.jfs_tree.specs.declared.draft.Drafted.{Drafted}
use Rattle.jfs_tree.specs.declared.beside.Beside.{Beside}

-- a page that an inner page names
abbrev pub IsChild : {P E : Type 0} → Node P E → ℕ → Type 0
IsChild {P} node n = (i : ℕ) × (c : Child P) × (slice_get (children_in node) i ≡ Some c) × (c.page ≡ n)

-- a set of pages that has, with a page, all that it names
abbrev pub IsClosed : {P E : Type 0} → (ℕ → Node P E) → (ℕ → Bool) → Type 0
IsClosed pages own = (m n : ℕ) → own m ≡ true → IsChild (pages m) n → own n ≡ true

-- the page is in the set, where there is one
abbrev pub Has : (ℕ → Bool) → Option ℕ → Type 0
Has own page = IfSome page (λ n. own n ≡ true)

-- and so all pages beside each other
pub record HasAll (own : ℕ → Bool) (level : Beside) : Type 0 where
  pub before : Has own level.before
  pub here : own level.here ≡ true
  pub behind : Has own level.behind
  pub next : Has own level.next

-- they are pages of the volume
pub record AreBelow (blocks : ℕ) (level : Beside) : Type 0 where
  pub before : IfSome level.before (λ n. n < blocks)
  pub here : level.here < blocks
  pub behind : IfSome level.behind (λ n. n < blocks)
  pub next : IfSome level.next (λ n. n < blocks)

-- Links change nothing that is spelled: each page reads as before.
abbrev pub ReadsSame : {P E : Type 0} → (List ℕ → Node P E) → Image → List Drafted → List Drafted → Type 0
ReadsSame node image old new = (n : ℕ) → nodes node new image n ≡ nodes node old image n

-- only pages of the set changed
abbrev pub KeepsOff : Image → List Drafted → List Drafted → (ℕ → Bool) → Type 0
KeepsOff image old new own = (n : ℕ) → own n ≡ false → shown new image n ≡ shown old image n

-- The links of one page were set.
pub record LinksPage {P E : Type 0} (node : List ℕ → Node P E) (frame : List ℕ → List ℕ) (image : Image) (old new : List Drafted) (page : Option ℕ) : Type 0 where
  pub same : ReadsSame node image old new
  pub frames : KeepsFrames frame image old new
  pub keeps : (own : ℕ → Bool) → Has own page → KeepsOff image old new own

-- Links of pages beside each other were set, and of what they name.
pub record LinksLevel {P E : Type 0} (node : List ℕ → Node P E) (frame : List ℕ → List ℕ) (image : Image) (old new : List Drafted) (level : Beside) : Type 0 where
  pub same : ReadsSame node image old new
  pub frames : KeepsFrames frame image old new
  pub keeps : (own : ℕ → Bool) → IsClosed (nodes node old image) own → HasAll own level → KeepsOff image old new own

-- the children of a page, of which these are some
pub record NamesAll {P E : Type 0} (node : Node P E) (level : Beside) : Type 0 where
  pub before : IfSome level.before (IsChild node)
  pub here : IsChild node level.here
  pub behind : IfSome level.behind (IsChild node)
  pub next : IfSome level.next (IsChild node)

-- Links of pages below a root were set: nothing that is spelled changes, no frame does, and only pages that the root names, or they, changed.
pub record LinksTree {P E : Type 0} (node : List ℕ → Node P E) (frame : List ℕ → List ℕ) (image : Image) (old new : List Drafted) (root : Node P E) : Type 0 where
  pub same : ReadsSame node image old new
  pub frames : KeepsFrames frame image old new
  pub keeps : (own : ℕ → Bool) → IsClosed (nodes node old image) own → ((n : ℕ) → IsChild root n → own n ≡ true) → KeepsOff image old new own
