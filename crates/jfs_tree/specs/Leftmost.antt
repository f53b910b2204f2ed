-- The leftmost way of a tree: from the root down the first children. In the format the first key of an inner page on it is the least one.
use Rattle.std.specs.Prelude.{◌≡◌, ◌⊎◌, ℕ, zero, suc, Bool, true, List, [], ◌∷◌, Option, Some, None, ⊤}
use Rattle.jfs_disk.specs.Image.{Image}
use Rattle.jfs_ranges.specs.declared.edit.Edit.{Edit}
use Rattle.jfs_tree.specs.Walk.{Child, Node, Leaf, Inner, Broken, Scale, times, under}
use Rattle.jfs_tree.specs.Spells.{along_first, first_path}
use Rattle.jfs_tree.specs.Edit.{IsCons}
use Rattle.jfs_tree.specs.Form.{IsLeaf}
use Rattle.jfs_tree.specs.Draft.{shown}
use Rattle.jfs_tree.specs.Call.{nodes}
use Rattle.jfs_tree.specs.Frames.{KeepsFrames}
use Rattle.jfs_tree.specs.Fresh.{LeadsTo, after_tx}
use Rattle.jfs_tree.specs.Adds.{read_as}
use Rattle.jfs_tree.specs.declared.draft.Drafted.{Drafted}

-- an inner page's first stored key is the least one, and then this holds of its first child's page
abbrev pub LeastAbove : {P E : Type 0} → Scale P E → (ℕ → Type 0) → Node P E → Type 0
LeastAbove s below (Leaf es) = ⊤
LeastAbove s below (Inner []) = ⊤
LeastAbove s below (Inner (c ∷ cs)) = (c.key ≡ s.least) × below c.page
LeastAbove s below (Broken rule) = ⊤

-- on the way down the first children, so many levels long at most
unfoldable pub LeastDown : {P E : Type 0} → Scale P E → (ℕ → Node P E) → ℕ → Node P E → Type 0
LeastDown s pages zero node = ⊤
LeastDown s pages (suc most) node = LeastAbove s (λ n. LeastDown s pages most (pages n)) node

-- The first stored key of each inner page on the leftmost way is the least one. A tree has 8 levels at most, with its root.
abbrev pub IsLeftmost : {P E : Type 0} → Scale P E → (ℕ → Node P E) → Node P E → Type 0
IsLeftmost s pages root = LeastDown s pages 8 root

-- Where it held of a root and the pages that the view shows, and the edits before lead to these, it holds of the root and the pages to which all edits lead.
abbrev pub StaysLeftmost : {P E : Type 0} → Scale P E → (List ℕ → Node P E) → ℕ → (ℕ → List ℕ) → Node P E → Node P E → List Edit → List Edit → Type 0
StaysLeftmost s node blocks pages root after tx later = IsLeftmost s (read_as node pages) root
    → (base : ℕ → List ℕ) → LeadsTo blocks base tx pages → IsLeftmost s (read_as node (after_tx base later)) after

-- ---- pages whose first key is made the least one

-- an inner page with the least key for its first child; another page as it is
abbrev pub lowest : {P E : Type 0} → Scale P E → Node P E → Node P E
lowest s (Leaf es) = Leaf es
lowest s (Inner cs) = Inner (under s.least cs)
lowest s (Broken rule) = Broken rule

-- an inner page's first key is the least one now, and this is its first child's page; another page stays as it is
abbrev pub LowersFirst : {P E : Type 0} → Scale P E → Node P E → Node P E → Option ℕ → Type 0
LowersFirst {P} s old new (Some page) = (c : Child P) × (cs : List (Child P)) × (old ≡ Inner (c ∷ cs)) × (new ≡ lowest s old) × (page ≡ c.page)
LowersFirst {P} s old new None = (new ≡ old) × ((c : Child P) (cs : List (Child P)) → old ≡ Inner (c ∷ cs) → ⊥)

-- ---- for the prover alone

-- the page stays as it is, or its first key is made the least one
abbrev pub IsLowered : {P E : Type 0} → Scale P E → Node P E → Node P E → Type 0
IsLowered s old new = (new ≡ old) ⊎ (new ≡ lowest s old)

-- from a page on, so many levels down: the first keys on the way are the least ones now, and no page off the way changed
pub record LowersBelow {P E : Type 0} (node : List ℕ → Node P E) (frame : List ℕ → List ℕ) (s : Scale P E) (image : Image) (old new : List Drafted) (most page : ℕ) : Type 0 where
  pub least : LeastDown s (nodes node new image) most (nodes node new image page)
  pub lowered : (n : ℕ) → IsLowered s (nodes node old image n) (nodes node new image n)
  pub frames : KeepsFrames frame image old new
  pub keeps : (n : ℕ) → times n (first_path (nodes node old image) most page) ≡ 0 → shown new image n ≡ shown old image n

-- and from a root on
pub record LowersTree {P E : Type 0} (node : List ℕ → Node P E) (frame : List ℕ → List ℕ) (s : Scale P E) (image : Image) (old new : List Drafted) (root after : Node P E) : Type 0 where
  pub least : IsLeftmost s (nodes node new image) after
  pub root_lowered : IsLowered s root after
  pub lowered : (n : ℕ) → IsLowered s (nodes node old image n) (nodes node new image n)
  pub frames : KeepsFrames frame image old new
  pub keeps : (n : ℕ) → times n (along_first (first_path (nodes node old image) 7) root) ≡ 0 → shown new image n ≡ shown old image n

-- no page changed but leaves, each into a leaf
abbrev pub LeavesAlone : {P E : Type 0} → (ℕ → Node P E) → (ℕ → Node P E) → Type 0
LeavesAlone old new = (n : ℕ) → (new n ≡ old n) ⊎ (IsLeaf (old n) × IsLeaf (new n))

-- a page stays, with those above it, or a page went
abbrev pub LeavesOrGoes : {P E : Type 0} → (ℕ → Node P E) → (ℕ → Node P E) → Bool → List ℕ → Type 0
LeavesOrGoes old new kept freed = ((kept ≡ true) × LeavesAlone old new) ⊎ IsCons freed

-- and so for a root
abbrev pub RootOrGoes : {P E : Type 0} → (ℕ → Node P E) → (ℕ → Node P E) → Node P E → Node P E → List ℕ → Type 0
RootOrGoes old new root after freed = (LeavesAlone old new × ((after ≡ root) ⊎ IsLeaf after)) ⊎ IsCons freed
