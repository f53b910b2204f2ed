-- What the parts of a volume hold: how often each of them names a block.
use Rattle.std.specs.Prelude.{◌≡◌, ℕ, ◌+◌, Bool, true, false, if◌then◌else◌, List, [], ◌∷◌, Result, Ok, Err}
use Rattle.jfs_bits.specs.declared.descriptor.Pxd.{Pxd}
use Rattle.jfs_bits.specs.declared.extent.Xad.{Xad}
use Rattle.jfs_bits.specs.declared.rule.Rule.{Rule}
use Rattle.jfs_inode.specs.declared.fields.Dinode.{Dinode}
use Rattle.jfs_name.specs.declared.name.NameEntry.{NameEntry}
use Rattle.jfs_ranges.specs.declared.view.ViewError.{ViewError}
use Rattle.jfs_ranges.specs.declared.view.ViewError.TheVariants as view
use Rattle.jfs_tree.specs.Walk.{Page, Key, Row, Fault, Marks, Scale, rows_of}
use Rattle.jfs_tree.specs.Spells.{tree_of}
use Rattle.jfs_tree.specs.Walking.{Meets}
use Rattle.jfs_tree.specs.declared.form.TreeError.{TreeError}
use Rattle.jfs_tree.specs.declared.form.TreeError.TheVariants.{View, Bad, Memory}
use Rattle.jfs_xtpage.specs.declared.head.XtForm.TheVariants as extents
use Rattle.jfs_xtree.specs.Node.{xt_scale, xt_node}
use Rattle.jfs_dtpage.specs.declared.head.DtForm.TheVariants as names
use Rattle.jfs_dtree.specs.Node.{name_scale, dt_node}
use Rattle.jfs_findings.specs.objects.specs.Readers.{Readers}
use Rattle.jfs_findings.specs.objects.specs.Volume.{Volume}
use Rattle.jfs_findings.specs.objects.specs.Objects.{objects, met, listed}
use Rattle.jfs_findings.specs.objects.specs.Owners.{unless_broken, entries, covers, dxd_has, run_has, fixed, holds, sum_below}

-- ---- trees

-- the walk through the extent tree of a root in an inode, on a volume whose file system part has so many blocks
abbrev pub extents_walk : ℕ → (ℕ → List ℕ) → List ℕ → Marks ℕ Xad
extents_walk blocks page root = tree_of xt_scale (λ b. xt_node extents.Full blocks (page b)) (xt_node extents.Root blocks root)

abbrev pub names_walk : ℕ → (ℕ → List ℕ) → List ℕ → Marks (List ℕ) NameEntry
names_walk blocks page root = tree_of name_scale (λ b. dt_node names.Full blocks (page b)) (dt_node names.Root blocks root)

-- An extent tree holds its pages and the blocks of its extents, a directory tree its pages; one that breaks a rule holds nothing.
abbrev pub extents_held : Marks ℕ Xad → ℕ → ℕ
extents_held walk b = unless_broken (listed xt_scale walk) (met walk b) + covers b (entries (listed xt_scale walk))

abbrev pub names_held : Marks (List ℕ) NameEntry → ℕ → ℕ
names_held walk b = unless_broken (listed name_scale walk) (met walk b)

-- what a walk meets in front of the first key or entry that doesn't rise and of the first broken rule
abbrev pub front : {P E : Type 0} → Scale P E → P → Marks P E → Marks P E
front s low [] = []
front s low (Page n ∷ ms) = Page n ∷ front s low ms
front s low (Key n k ∷ ms) = if s.le low k then Key n k ∷ front s k ms else []
front s low (Row n e ∷ ms) = if s.le low (s.from e) then Row n e ∷ front s (s.to e) ms else []
front s low (Fault n rule ∷ ms) = []

-- the pages and the blocks of extents there
abbrev pub extents_front : Marks ℕ Xad → ℕ → ℕ
extents_front walk b = met (front xt_scale xt_scale.least walk) b + covers b (rows_of (front xt_scale xt_scale.least walk))

abbrev pub attributes_of : Dinode → ℕ → ℕ
attributes_of d b = dxd_has d.acl b + dxd_has d.ea b

-- a visitor saw the whole of a tree that breaks no rule, and nothing of one that breaks a rule
abbrev pub Sees : {P E V : Type 0} → Scale P E → (V → ℕ → V → Type 0) → (V → ℕ → E → V → Type 0) → Marks P E → V → V → Bool → Type 0
Sees {P} s page row ms old new true = (listed s ms ≡ Ok (rows_of ms)) × ((end : P) × Meets s page row s.least old ms (Ok end) new)
Sees s page row ms old new false = ((fault : ℕ × Rule) × (listed s ms ≡ Err fault)) × (new ≡ old)

-- a visitor saw what stands in front of the first broken rule, which is all of a tree that breaks none
abbrev pub SeesFront : {P E V : Type 0} → Scale P E → (V → ℕ → V → Type 0) → (V → ℕ → E → V → Type 0) → Marks P E → V → V → Type 0
SeesFront {P} s page row ms old new = (end : P) × Meets s page row s.least old (front s s.least ms) (Ok end) new

-- a tree that breaks a rule isn't shown; whatever else ends a walk is the view's error
abbrev pub HandsOn : TreeError → Result Bool ViewError → Type 0
HandsOn (View e) (Ok shown) = ⊥
HandsOn (View e) (Err f) = f ≡ e
HandsOn (Bad page rule) (Ok shown) = shown ≡ false
HandsOn (Bad page rule) (Err f) = ⊥
HandsOn Memory (Ok shown) = ⊥
HandsOn Memory (Err f) = f ≡ view.Memory

-- ---- the fixed areas

-- pages 0 to 15, and the aggregate's second inode table and map
abbrev pub areas_have : Pxd → Pxd → ℕ → ℕ
areas_have table map b = run_has (record { len = 16; addr = 0 }) b + run_has table b + run_has map b

-- ---- the volume

-- how many owners a block has among the fixed parts and the objects with numbers below `n`
abbrev pub owned_below : Readers → Volume → ℕ → ℕ → ℕ
owned_below r v n b = fixed v b + sum_below n (λ k. holds r (objects r v k) b)
