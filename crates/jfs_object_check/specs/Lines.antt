-- The pages of a level, one after the other.
use Rattle.std.specs.Prelude.{◌≡◌, ◌<◌, ℕ, zero, suc, ◌+◌, true, if◌then◌else◌, List, [], ◌∷◌, length, get_or}
use Rattle.jfs_bits.specs.declared.extent.Xad.{Xad}
use Rattle.jfs_inode.specs.declared.fields.Dinode.{Dinode}
use Rattle.jfs_tree.specs.Walk.{Node}
use Rattle.jfs_tree.specs.Spells.{with_root}
use Rattle.jfs_tree.specs.Levels.{entry_count, level}
use Rattle.jfs_tree.specs.Walking.{rows_in}
use Rattle.jfs_xtpage.specs.declared.head.XtForm.TheVariants.{Root}
use Rattle.jfs_xtree.specs.Node.{xt_node}
use Rattle.jfs_xtree.specs.Spells.{page_nodes}
use Rattle.jfs_owners.specs.objects.specs.Objects.{has_extents}
use Rattle.jfs_owners.specs.objects.specs.Owners.{covers}
use Rattle.jfs_owners.specs.meaning.specs.Readers.{root_of}
use Rattle.jfs_owners.specs.Counts.{page_has}
use Rattle.jfs_owners.specs.findings.specs.declared.finding.Finding.{Finding}
use Rattle.jfs_owners.specs.findings.specs.declared.finding.FindingKind.TheVariants as kinds

-- this page of inode `n` is such a one
abbrev pub Tells : ℕ → (ℕ → Type 0) → Finding → Type 0
Tells n is f = (f.kind ≡ kinds.Thin) × (f.value ≡ n) × is f.page

-- it is that one of a list of pages, has few entries, and isn't the last one
abbrev pub IsThinAt : {P E : Type 0} → (ℕ → Node P E) → List ℕ → ℕ → ℕ → Type 0
IsThinAt nodes line j page = (suc j < length line) × (page ≡ get_or line j 0) × (entry_count (nodes page) < 64)

-- among so many at the front
abbrev pub IsThinOn : {P E : Type 0} → (ℕ → Node P E) → List ℕ → ℕ → ℕ → Type 0
IsThinOn nodes line i page = (j : ℕ) × (j < i) × IsThinAt nodes line j page

-- on one of so many levels
abbrev pub IsThinAbove : {P E : Type 0} → (ℕ → Node P E) → ℕ → ℕ → Type 0
IsThinAbove nodes depth page = (d : ℕ) × (d < depth) × IsThinOn nodes (level nodes d) (length (level nodes d)) page

-- the pages of a tree, with its root
abbrev pub tree_nodes : ℕ → (ℕ → List ℕ) → List ℕ → ℕ → Node ℕ Xad
tree_nodes blocks pages root = with_root (xt_node Root blocks root) (page_nodes blocks pages)

-- how often a leaf's extents have a block
abbrev pub rows_have : Node ℕ Xad → ℕ → ℕ
rows_have node b = covers b (rows_in node)

-- how often a page does, with its extents
abbrev pub page_holds : (ℕ → Node ℕ Xad) → ℕ → ℕ → ℕ
page_holds nodes n b = page_has n b + rows_have (nodes n) b

-- how often pages do
abbrev pub line_has : (ℕ → Node ℕ Xad) → List ℕ → ℕ → ℕ
line_has nodes [] b = 0
line_has nodes (n ∷ line) b = page_holds nodes n b + line_has nodes line b

-- how often so many levels do
unfoldable pub levels_have : (ℕ → Node ℕ Xad) → ℕ → ℕ → ℕ
levels_have nodes zero b = 0
levels_have nodes (suc depth) b = levels_have nodes depth b + line_has nodes (level nodes depth) b

-- ---- the extent tree of an inode, whether it breaks a rule or not

-- how often its first eight levels do
abbrev pub inode_has : ℕ → (ℕ → List ℕ) → Dinode → ℕ → ℕ
inode_has blocks pages d b = if has_extents d then levels_have (tree_nodes blocks pages (root_of d)) 8 b else 0

-- a page there with few entries that isn't the last of its level
abbrev pub IsThinLevel : ℕ → (ℕ → List ℕ) → ℕ → Dinode → Finding → Type 0
IsThinLevel blocks pages n d f = (has_extents d ≡ true) × Tells n (IsThinAbove (tree_nodes blocks pages (root_of d)) 8) f
