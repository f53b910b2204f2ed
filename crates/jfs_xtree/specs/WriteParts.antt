-- What a call of several steps makes of a file's list, for the prover alone.
use Rattle.std.specs.Prelude.{◌≡◌, ℕ, List, Ok}
use Rattle.jfs_bits.specs.declared.extent.Xad.{Xad}
use Rattle.jfs_disk.specs.Image.{Image}
use Rattle.jfs_tree.specs.Walk.{Node}
use Rattle.jfs_tree.specs.Spells.{spells}
use Rattle.jfs_tree.specs.Root.{IsSpare}
use Rattle.jfs_tree.specs.Call.{nodes}
use Rattle.jfs_tree.specs.Draft.{shown}
use Rattle.jfs_tree.specs.Becomes.{Becomes}
use Rattle.jfs_tree.specs.declared.draft.Drafted.{Drafted}
use Rattle.jfs_xtpage.specs.declared.head.XtForm.TheVariants.{Full}
use Rattle.jfs_xtree.specs.Node.{xt_scale, xt_node}

-- the tree of a root, with these changed pages
abbrev pub drafted : ℕ → List Drafted → Image → ℕ → Node ℕ Xad
drafted blocks drafts image = nodes (xt_node Full blocks) drafts image

-- what a step makes of the list `es`, where it may: the list `list`
abbrev pub StepsTo : ℕ → Image → List Xad → List Xad → Node ℕ Xad → Node ℕ Xad → List Drafted → List Drafted → List ℕ → List ℕ → Type 0
StepsTo blocks image es list root after old new free left = spells xt_scale (drafted blocks old image) root ≡ Ok es → IsSpare xt_scale (drafted blocks old image) root free
    → Becomes xt_scale (xt_node Full blocks) list (shown old image) (shown new image) root after free left
