-- What a call takes out of a whole tree.
use Rattle.std.specs.Prelude.{◌≡◌, ◌⊎◌, ℕ, ◌+◌, Bool, true, false, List, [], ◌∷◌, ◌++◌, length, Option, IfSome, Ok}
use Rattle.jfs_disk.specs.Image.{Image, page_of}
use Rattle.jfs_tree.specs.Draft.{shown}
use Rattle.jfs_tree.specs.declared.draft.Drafted.{Drafted}
use Rattle.jfs_tree.specs.Walk.{Child, Node, Leaf, Inner, Scale, under}
use Rattle.jfs_tree.specs.Spells.{spells, footprint}
use Rattle.jfs_tree.specs.Edit.{IsCons, count_in, found_in}
use Rattle.jfs_tree.specs.Shrink.{TakenOut}

-- A root that spelled these entries spells all but one. The pages that its tree had more are free, and no page outside it changed.
pub record Removes {P E : Type 0} (s : Scale P E) (e : E) (es : List E) (old new : ℕ → Node P E) (root after : Node P E) (freed : List ℕ) : Type 0 where
  pub list : List E
  pub spelled : spells s new after ≡ Ok list
  pub gone : TakenOut e es list
  pub pages : (n : ℕ) → footprint s new after n + count_in n freed ≡ footprint s old root n
  pub keeps : (n : ℕ) → footprint s old root n ≡ 0 → new n ≡ old n

-- whatever list the root spells, the entry in it that shares a place with x was taken out
abbrev pub RemovesAlways : {P E : Type 0} → Scale P E → E → (ℕ → Node P E) → (ℕ → Node P E) → Node P E → Node P E → List ℕ → Option E → Type 0
RemovesAlways {E = E} s x old new root after freed found = (es : List E) → spells s old root ≡ Ok es
    → (found ≡ found_in s x es) × IfSome found (λ e. Removes s e es old new root after freed)

-- whatever list the root spells, a page that isn't in the tree keeps its bytes
abbrev pub KeepsOthers : {P E : Type 0} → Scale P E → (ℕ → Node P E) → Node P E → Image → List Drafted → Type 0
KeepsOthers {E = E} s pages root image drafts = (es : List E) → spells s pages root ≡ Ok es → (n : ℕ) → footprint s pages root n ≡ 0 → shown drafts image n ≡ page_of image n

-- for the prover alone: a root whose child at a place stayed, or went; one without children is a leaf without entries
abbrev pub RootLost : {P E : Type 0} → ℕ → Bool → Node P E → Node P E → Type 0
RootLost place true root after = after ≡ root
RootLost {P} place false root after = (front : List (Child P)) (t : Child P) (back : List (Child P)) → root ≡ Inner (front ++ t ∷ back) → length front ≡ place
    → ((front ++ back ≡ []) × (after ≡ Leaf [])) ⊎ ((cs : List (Child P)) × (after ≡ Inner cs) × IsCons cs × ((key : P) → under key cs ≡ under key (front ++ back)))
