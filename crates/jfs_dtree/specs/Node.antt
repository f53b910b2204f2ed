-- What a root or page of a directory tree reads as. (JFS Layout, dtree.)
use Rattle.std.specs.Prelude.{◌<◌, ◌≤◌, ℕ, ◌+◌, Bool, true, false, not, ◌&&◌, nat_le, if◌then◌else◌, List, [], ◌∷◌, ◌++◌, map, length, Option, Some, None}
use Rattle.std.specs.List.{list_all}
use Rattle.std.specs.Ordering.{is_lt, nat_cmp}
use Rattle.std.specs.Cmp.Lexicographic.{slice_cmp}
use Rattle.jfs_bits.specs.declared.descriptor.Pxd.{Pxd}
use Rattle.jfs_bits.specs.declared.rule.Rule.{Rule}
use Rattle.jfs_bits.specs.declared.rule.Rule.TheVariants as rules
use Rattle.jfs_bits.specs.Broken.{first_broken}
use Rattle.jfs_name.specs.declared.name.NameEntry.{NameEntry}
use Rattle.jfs_dtpage.specs.declared.head.DtForm.{DtForm}
use Rattle.jfs_dtpage.specs.declared.head.DtForm.TheVariants.{Root, Full}
use Rattle.jfs_dtpage.specs.Form.{free_of, is_leaf, more_slots}
use Rattle.jfs_dtpage.specs.Page.{Entry, Named, Below, entries_of, IsDtPage}
use Rattle.jfs_tree.specs.Walk.{Child, Node, Leaf, Inner, Broken, Scale}
use Rattle.jfs_dtree.specs.Rules.{rows}

-- Names in order: unit by unit as numbers, and a prefix comes first.
abbrev pub not_after : List ℕ → List ℕ → Bool
not_after a b = not (is_lt (slice_cmp nat_cmp b a))

-- A name takes the place from itself up to the least name that comes after it. A key stands at or before the first name below it.
abbrev pub name_scale : Scale (List ℕ) NameEntry
name_scale = record {
  le = not_after;
  least = [];
  from = λ e. e.name;
  to = λ e. e.name ++ 0 ∷ [];
  fits = λ key e. not_after key e.name;
}

-- a leaf's entry
abbrev pub named : Entry → NameEntry
named (Named inode name) = record { name = name; inode = inode }
named (Below at key) = record { name = key; inode = 0 }

-- an inner page's entry names the first block of its run, which is a page
abbrev pub below : Entry → Child (List ℕ)
below (Named inode name) = record { key = name; page = 0 }
below (Below at key) = record { key = key; page = at.addr }

-- the run has a length and lies within the blocks of the file system part
abbrev pub is_within : ℕ → Pxd → Bool
is_within blocks at = nat_le 1 at.len && nat_le (at.addr + at.len) blocks

abbrev pub child_within : ℕ → Entry → Bool
child_within blocks (Named inode name) = true
child_within blocks (Below at key) = is_within blocks at

-- an inner page isn't empty
abbrev pub inner : List (Child (List ℕ)) → Node (List ℕ) NameEntry
inner [] = Broken rules.Deep
inner (c ∷ cs) = Inner (c ∷ cs)

-- a page that breaks no rule of its own
abbrev pub by_kind : Bool → ℕ → List Entry → Node (List ℕ) NameEntry
by_kind true blocks es = Leaf (map named es)
by_kind false blocks es = if list_all (child_within blocks) es then inner (map below es) else Broken rules.Range

abbrev pub unless_broken : Option Rule → Node (List ℕ) NameEntry → Node (List ℕ) NameEntry
unless_broken (Some rule) node = Broken rule
unless_broken None node = node

-- the page, in its form, on a volume whose file system part has so many blocks
unfoldable pub dt_node : DtForm → ℕ → List ℕ → Node (List ℕ) NameEntry
dt_node form blocks bytes = unless_broken (first_broken (rows form bytes)) (by_kind (is_leaf bytes) blocks (entries_of form bytes))

-- ---- what a page can take

-- a name has 255 units at most, and so has a key
abbrev pub IsGood : NameEntry → Type 0
IsGood e = length e.name ≤ 255

abbrev pub IsKey : List ℕ → Type 0
IsKey key = length key ≤ 255

-- Fewer slots are free than the longest name takes. A root, which has 8, may have no room at any time.
pub record HasNoRoom (form : DtForm) (bytes : List ℕ) : Type 0 where
  pub sound : IsDtPage form bytes
  pub few : free_of bytes < 18

-- fewer slots are free than a name or key of so many units takes
abbrev pub LacksRoom : Bool → ℕ → List ℕ → Type 0
LacksRoom leaf units bytes = free_of bytes < 1 + more_slots leaf units

abbrev pub IsRoot : DtForm → Type 0
IsRoot Root = Unit {0}
IsRoot Full = ⊥
