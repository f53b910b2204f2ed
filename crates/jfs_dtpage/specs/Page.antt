-- A page of a directory tree as its list of names, and its rules. (JFS White Paper, directory organization: names in sorted order, each gathered along a chain of slots.)
use Rattle.std.specs.Prelude.{◌≡◌, ◌⊎◌, ◌≤◌, ℕ, ◌+◌, ◌-◌, ◌*◌, ◌%◌, Bool, true, false, if◌then◌else◌, min, List, [], ◌∷◌, ◌++◌, map}
use Rattle.std.specs.List.{flat_map, AllByRecursion}
use Rattle.jfs_bits.specs.declared.descriptor.Pxd.{Pxd}
use Rattle.jfs_bits.specs.declared.rule.Rule.{Rule}
use Rattle.jfs_bits.specs.declared.rule.Rule.TheVariants as rules
use Rattle.jfs_bits.specs.Broken.{AllHold}
use Rattle.jfs_bits.specs.Field.{field_of}
use Rattle.jfs_bits.specs.Descriptor.{pxd_of}
use Rattle.jfs_dtpage.specs.declared.head.DtForm.{DtForm}
use Rattle.jfs_dtpage.specs.declared.head.DtForm.TheVariants.{Root, Full}
use Rattle.jfs_dtpage.specs.Form.{most_of, flag_of, count_of, free_of, first_free, is_leaf, table_at, is_usable, link_at, first_units, more_slots}
use Rattle.jfs_dtpage.specs.Slots.{chain_end, follow, behind, units_at, slots_at, gather, times}
use Rattle.jfs_dtpage.specs.Order.{IsRising}

-- ---- one entry, by its first slot

abbrev pub link_of : Bool → List ℕ → ℕ → ℕ
link_of leaf bytes slot = field_of bytes (32 * slot + link_at leaf) 1

abbrev pub length_of : Bool → List ℕ → ℕ → ℕ
length_of leaf bytes slot = field_of bytes (32 * slot + link_at leaf + 1) 1

-- its slots
unfoldable pub chain_of : Bool → List ℕ → ℕ → List ℕ
chain_of leaf bytes slot = slot ∷ follow bytes (link_of leaf bytes slot) (more_slots leaf (length_of leaf bytes slot))

-- its last slot names no other
unfoldable pub Ends : Bool → List ℕ → ℕ → Type 0
Ends leaf bytes slot = behind bytes (link_of leaf bytes slot) (more_slots leaf (length_of leaf bytes slot)) ≡ chain_end

-- its name
unfoldable pub name_of : Bool → List ℕ → ℕ → List ℕ
name_of leaf bytes slot =
    units_at bytes (32 * slot + link_at leaf + 2) (min (length_of leaf bytes slot) (first_units leaf))
    ++ gather bytes (link_of leaf bytes slot) (more_slots leaf (length_of leaf bytes slot)) (length_of leaf bytes slot - first_units leaf)

-- A leaf's entry is an inode's name; an inner page's is a child, with the key from which on its names stand.
pub data Entry : Type 0 where
  Named : ℕ → List ℕ → Entry
  Below : Pxd → List ℕ → Entry

abbrev pub name_in : Entry → List ℕ
name_in (Named inode name) = name
name_in (Below at name) = name

unfoldable pub entry_of : Bool → List ℕ → ℕ → Entry
entry_of true bytes slot = Named (field_of bytes (32 * slot) 4) (name_of true bytes slot)
entry_of false bytes slot = Below (pxd_of bytes (32 * slot)) (name_of false bytes slot)

-- ---- all entries

-- the entries' first slots, in the names' order
unfoldable pub table_of : DtForm → List ℕ → List ℕ
table_of form bytes = slots_at bytes (table_at form bytes) (count_of bytes)

-- the page as a list
abbrev pub entries_of : DtForm → List ℕ → List Entry
entries_of form bytes = map (entry_of (is_leaf bytes) bytes) (table_of form bytes)

abbrev pub names_of : DtForm → List ℕ → List (List ℕ)
names_of form bytes = map (name_of (is_leaf bytes) bytes) (table_of form bytes)

-- the slots of all entries
abbrev pub taken_of : DtForm → List ℕ → List ℕ
taken_of form bytes = flat_map (chain_of (is_leaf bytes) bytes) (table_of form bytes)

-- the free chain
abbrev pub free_chain : List ℕ → List ℕ
free_chain bytes = follow bytes (first_free bytes) (free_of bytes)

abbrev pub usable : DtForm → List ℕ → ℕ → ℕ
usable form bytes slot = if is_usable form bytes slot then 1 else 0

-- ---- the rules, in the order in which they are looked at

abbrev pub dt_rules : List Rule
dt_rules = rules.Flag ∷ rules.Slots ∷ rules.Chain ∷ rules.Free ∷ rules.Order ∷ []

-- the low three bits: a root that is a leaf or inner, or a page that is
abbrev pub FlagFits : DtForm → ℕ → Type 0
FlagFits Root low = (low ≡ 3) ⊎ (low ≡ 5)
FlagFits Full low = (low ≡ 2) ⊎ (low ≡ 4)

abbrev pub TableFits : DtForm → List ℕ → Type 0
TableFits Root bytes = Unit {0}
TableFits Full bytes = (field_of bytes 20 1 ≡ 128) × (1 ≤ field_of bytes 21 1) × (field_of bytes 21 1 ≤ 124)

pub record SlotsFit (form : DtForm) (bytes : List ℕ) : Type 0 where
  pub table : TableFits form bytes
  pub entries : count_of bytes ≤ most_of form
  pub free : free_of bytes ≤ most_of form

-- each entry's chain is as long as its name asks, and no slot is in two of them
pub record ChainsFit (form : DtForm) (bytes : List ℕ) : Type 0 where
  pub ends : AllByRecursion (Ends (is_leaf bytes) bytes) (table_of form bytes)
  pub once : (slot : ℕ) → times slot (taken_of form bytes) ≤ usable form bytes slot

-- the free chain has as many slots as the header says, and each slot is in one chain
pub record FreeFits (form : DtForm) (bytes : List ℕ) : Type 0 where
  pub ends : behind bytes (first_free bytes) (free_of bytes) ≡ chain_end
  pub once : (slot : ℕ) → times slot (taken_of form bytes) + times slot (free_chain bytes) ≡ usable form bytes slot

abbrev pub Holds : DtForm → List ℕ → Rule → Type 0
Holds form bytes rules.Flag = FlagFits form (flag_of bytes % 8)
Holds form bytes rules.Slots = SlotsFit form bytes
Holds form bytes rules.Chain = ChainsFit form bytes
Holds form bytes rules.Free = FreeFits form bytes
Holds form bytes rules.Order = IsRising (names_of form bytes)
Holds form bytes rule = Unit {0}

-- no rule is broken
abbrev pub IsDtPage : DtForm → List ℕ → Type 0
IsDtPage form bytes = AllHold (Holds form bytes) dt_rules
