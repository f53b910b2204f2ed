-- The objects of a volume: what each inode in use and its tree spell.
use Rattle.std.specs.Prelude.{◌≡◌, ℕ, ◌+◌, ◌%◌, Bool, not, ◌||◌, ◌&&◌, ◌==◌, nat_lt, nat_le, if◌then◌else◌, List, [], Option, Some, None, Result, Ok}
use Rattle.jfs_bits.specs.declared.extent.Xad.{Xad}
use Rattle.jfs_bits.specs.declared.rule.Rule.{Rule}
use Rattle.jfs_inode.specs.Rules.{type_of}
use Rattle.jfs_inode.specs.declared.fields.Dinode.{Dinode}
use Rattle.jfs_name.specs.declared.name.NameEntry.{NameEntry}
use Rattle.jfs_tree.specs.Walk.{Marks, Scale, times}
use Rattle.jfs_tree.specs.Spells.{no_page, tree_of, judge}
use Rattle.jfs_objects.specs.Readers.{Readers}
use Rattle.jfs_objects.specs.Volume.{Volume, home, slot_of}

-- An object: its inode, and the walks through its trees. A directory has names, a file and a long symbolic link have extents.
pub record Object : Type 0 where
  pub inode : Dinode
  pub names : Marks (List ℕ) NameEntry
  pub extents : Marks ℕ Xad

abbrev pub has_names : Dinode → Bool
has_names d = type_of d == 0x4000

-- A symbolic link of fewer than 256 bytes keeps its target in its inode.
abbrev pub has_extents : Dinode → Bool
has_extents d = type_of d == 0x8000 || (type_of d == 0xa000 && nat_le 256 d.size)

abbrev pub names_of : Readers → (ℕ → List ℕ) → Dinode → Marks (List ℕ) NameEntry
names_of r page d = if has_names d then tree_of r.names_order (λ b. r.names_page (page b)) (r.names_root d) else []

abbrev pub extents_of : Readers → (ℕ → List ℕ) → Dinode → Marks ℕ Xad
extents_of r page d = if has_extents d then tree_of r.extents_order (λ b. r.extents_page (page b)) (r.extents_root d) else []

-- what an inode and its trees spell
unfoldable pub spelled : Readers → (ℕ → List ℕ) → Dinode → Object
spelled r page d = record { inode = d; names = names_of r page d; extents = extents_of r page d }

-- Inodes 0 to 3 are always in use, any other where it has a name.
abbrev pub is_live : ℕ → Dinode → Bool
is_live n d = nat_lt n 4 || not (d.nlink == 0)

abbrev pub shown : Readers → (ℕ → List ℕ) → ℕ → Dinode → Option Object
shown r page n d = if is_live n d then Some (spelled r page d) else None

abbrev pub object_in : Readers → (ℕ → List ℕ) → ℕ → Option ℕ → Option Object
object_in r page n None = None
object_in r page n (Some p) = shown r page n (slot_of (page p) (n % 8))

-- the object of each number, where there is one
unfoldable pub objects : Readers → Volume → ℕ → Option Object
objects r v n = object_in r v.page n (home v.extents n)

-- how often a page is met below a root
abbrev pub met : {P E : Type 0} → Marks P E → ℕ → ℕ
met ms b = if b == no_page then 0 else times b ms

-- The footprint of an object: its tree pages. What it spells depends on no others.
unfoldable pub footprint : Object → ℕ → ℕ
footprint o b = met o.names b + met o.extents b

-- what a walk spells: the entries, or the first broken rule and its page
abbrev pub listed : {P E : Type 0} → Scale P E → Marks P E → Result (List E) (ℕ × Rule)
listed s ms = judge s s.least ms

-- no tree of the object breaks a rule
pub record IsWhole (r : Readers) (o : Object) : Type 0 where
  pub names : List NameEntry
  pub extents : List Xad
  pub names_are : listed r.names_order o.names ≡ Ok names
  pub extents_are : listed r.extents_order o.extents ≡ Ok extents
