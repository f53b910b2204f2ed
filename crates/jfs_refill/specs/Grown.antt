-- A child whose page may have been split.
use Rattle.std.specs.Prelude.{ℕ, Bool, List, [], ◌∷◌, Option, Some, None}
use Rattle.jfs_bits.specs.declared.extent.Xad.{Xad}
use Rattle.jfs_tree.specs.declared.form.Sibling.{Sibling}
use Rattle.jfs_xtree.specs.Node.{child_entry, lowered}

-- A child's entry, and behind it that of the page that was split off it. The child's entry ends before the other one's key; where it is the first one of its page, at whose key nothing looks,
-- the key is made 0 for that.
abbrev pub grown_entries : Bool → Xad → Option (Sibling ℕ) → List Xad
grown_entries first child None = child ∷ []
grown_entries first child (Some s) = lowered first s.key child ∷ child_entry s.key s.page ∷ []
