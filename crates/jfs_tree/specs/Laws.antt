-- Laws of trees.
use Rattle.std.specs.Prelude.{◌≡◌, ◌<◌, ℕ, List}
use Rattle.jfs_tree.specs.Walk.{Node, Scale}
use Rattle.jfs_tree.specs.Spells.{spells, footprint}
use Rattle.jfs_tree.specs.Edit.{IsPoint}
use Rattle.jfs_tree.specs.Path.{found_on_way}
use Rattle.jfs_tree.specs.Root.{FindsAlways}

-- a tree's pages, as they read
abbrev pub as_nodes : {P E : Type 0} → (List ℕ → Node P E) → (ℕ → List ℕ) → ℕ → Node P E
as_nodes node pages n = node (pages n)

-- The frame law: pages that are the same on the footprint of a root give it the same list, or the same first broken rule, and the same footprint.
abbrev pub IsFramed : {P E : Type 0} → Scale P E → (List ℕ → Node P E) → (List ℕ → Node P E) → Type 0
IsFramed s top node = (old new : ℕ → List ℕ) (root : List ℕ) → ((n : ℕ) → 0 < footprint s (as_nodes node old) (top root) n → new n ≡ old n)
    → (spells s (as_nodes node new) (top root) ≡ spells s (as_nodes node old) (top root)) × ((n : ℕ) → footprint s (as_nodes node new) (top root) n ≡ footprint s (as_nodes node old) (top root) n)

-- The law of the way: what is found on the way to a place is what the list has there, wherever the root spells one.
abbrev pub IsFoundOnWay : {P E : Type 0} → Scale P E → Type 0
IsFoundOnWay {P} {E} s = (x : E) → IsPoint s x → (pages : ℕ → Node P E) (root : Node P E) → FindsAlways s x pages root (found_on_way s pages x root)
