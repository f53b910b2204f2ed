-- What a root in a directory's inode spells: the names in their order, each with its inode. (JFS White Paper, directory organization; JFS Layout: the root has 288 bytes.)
use Rattle.std.specs.Prelude.{◌≡◌, ℕ, List, Option, Some, None, Result, Ok, Err}
use Rattle.std.specs.Option.{option_map}
use Rattle.jfs_bits.specs.declared.rule.Rule.{Rule}
use Rattle.jfs_name.specs.declared.name.NameEntry.{NameEntry}
use Rattle.jfs_name.specs.Directory.{named}
use Rattle.jfs_disk.specs.declared.disk.Fault.{Fault}
use Rattle.jfs_ranges.specs.View.{CarriesCount}
use Rattle.jfs_dtpage.specs.declared.head.DtForm.TheVariants.{Root, Full}
use Rattle.jfs_tree.specs.Walk.{Node}
use Rattle.jfs_tree.specs.Spells.{spells, footprint}
use Rattle.jfs_tree.specs.Adds.{read_as}
use Rattle.jfs_tree.specs.Path.{broken_on_way, found_on_way}
use Rattle.jfs_tree.specs.Root.{NamesBroken}
use Rattle.jfs_tree.specs.declared.form.TreeError.TheVariants as tree
use Rattle.jfs_dtree.specs.Node.{name_scale, dt_node}
use Rattle.jfs_dtree.specs.declared.error.DtError.{DtError}
use Rattle.jfs_dtree.specs.declared.error.DtError.TheVariants.{View, Bad, Exists, Missing, TooDeep}

-- the root, and the pages below it, on a volume whose file system part has so many blocks
abbrev pub root_node : ℕ → List ℕ → Node (List ℕ) NameEntry
root_node blocks root = dt_node Root blocks root

abbrev pub page_nodes : ℕ → (ℕ → List ℕ) → ℕ → Node (List ℕ) NameEntry
page_nodes blocks pages = read_as (dt_node Full blocks) pages

-- the names, or the first broken rule and the page that breaks it
abbrev pub spells_names : ℕ → (ℕ → List ℕ) → List ℕ → Result (List NameEntry) (ℕ × Rule)
spells_names blocks pages root = spells name_scale (page_nodes blocks pages) (root_node blocks root)

-- the pages below it, which are its own
abbrev pub owned_pages : ℕ → (ℕ → List ℕ) → List ℕ → ℕ → ℕ
owned_pages blocks pages root = footprint name_scale (page_nodes blocks pages) (root_node blocks root)

-- the count of faults rises only with a fault, which carries the part and the count that it raised
abbrev pub CarriesDt : {T : Type 0} → Fault → Fault → Result T DtError → Type 0
CarriesDt before now (Ok it) = now ≡ before
CarriesDt {T} before now (Err (View e)) = CarriesCount {T = T} before now (Err e)
CarriesDt before now (Err (Bad page rule)) = now ≡ before
CarriesDt before now (Err Exists) = now ≡ before
CarriesDt before now (Err Missing) = now ≡ before
CarriesDt before now (Err TooDeep) = now ≡ before

-- a call that only looks names a page where it breaks a rule on the way down, and then the root spells no list
abbrev pub FailsWhereBad : (ℕ → Node (List ℕ) NameEntry) → Node (List ℕ) NameEntry → DtError → Type 0
FailsWhereBad pages root (View e) = Unit {0}
FailsWhereBad pages root (Bad page rule) = NamesBroken name_scale pages root (tree.Bad page rule)
FailsWhereBad pages root Exists = ⊥
FailsWhereBad pages root Missing = ⊥
FailsWhereBad pages root TooDeep = ⊥

-- the first broken rule on a name's way down, and the page that breaks it
abbrev pub broken_for : ℕ → (ℕ → List ℕ) → List ℕ → List ℕ → Option (ℕ × Rule)
broken_for blocks pages root name = broken_on_way name_scale (page_nodes blocks pages) name (root_node blocks root)

-- the inode that the leaf at the end of a name's way has under the name; it depends on the root and the pages of the way alone
abbrev pub found_for : ℕ → (ℕ → List ℕ) → List ℕ → List ℕ → Option ℕ
found_for blocks pages root name = option_map (λ (e : NameEntry). e.inode) (found_on_way name_scale (page_nodes blocks pages) (record { name = name; inode = 0 }) (root_node blocks root))

-- It is the inode that the name names, wherever the root spells names.
abbrev pub IsNamedOnWay : ℕ → (ℕ → List ℕ) → List ℕ → List ℕ → Type 0
IsNamedOnWay blocks pages root name = (es : List NameEntry) → spells_names blocks pages root ≡ Ok es → found_for blocks pages root name ≡ named name es

-- A page is named exactly where it is the first on the name's way that breaks a rule, and where none does, the call goes through or tells of names.
abbrev pub TellsWay : {T : Type 0} → Option (ℕ × Rule) → Result T DtError → Type 0
TellsWay first (Ok it) = first ≡ None
TellsWay first (Err (View e)) = Unit {0}
TellsWay first (Err (Bad page rule)) = first ≡ Some (page, rule)
TellsWay first (Err Exists) = first ≡ None
TellsWay first (Err Missing) = first ≡ None
TellsWay first (Err TooDeep) = first ≡ None

-- a call that reads the whole tree names the first broken rule and its page
abbrev pub NamesFirstBroken : (ℕ → Node (List ℕ) NameEntry) → Node (List ℕ) NameEntry → DtError → Type 0
NamesFirstBroken pages root (View e) = Unit {0}
NamesFirstBroken pages root (Bad page rule) = spells name_scale pages root ≡ Err (page, rule)
NamesFirstBroken pages root Exists = ⊥
NamesFirstBroken pages root Missing = ⊥
NamesFirstBroken pages root TooDeep = ⊥
