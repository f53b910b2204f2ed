-- The names of a directory by the pages on which they stand.
use Rattle.std.specs.Prelude.{ℕ, ◌==◌, List, [], ◌∷◌, count_by, Result, Ok, Err}
use Rattle.jfs_bits.specs.declared.rule.Rule.{Rule}
use Rattle.jfs_inode.specs.declared.fields.Dinode.{Dinode}
use Rattle.jfs_name.specs.declared.name.NameEntry.{NameEntry}
use Rattle.jfs_dtree.specs.Node.{name_scale}
use Rattle.jfs_tree.specs.Walk.{Marks, Page, Key, Row, Fault}
use Rattle.jfs_object_check.specs.objects.specs.Objects.{names_of, listed}
use Rattle.jfs_object_check.specs.meaning.specs.Readers.{readers}
use Rattle.jfs_link_check.specs.Uses.{use_at, is_directory}
use Rattle.jfs_link_check.specs.declared.uses.Use.{Use}

-- a name: its page, which is `no_page` for a root, and the inode to which it leads
pub record Place : Type 0 where
  pub page : ℕ
  pub inode : ℕ

-- the entries that a walk meets, each with its page
abbrev pub places_in : {P : Type 0} → Marks P NameEntry → List Place
places_in [] = []
places_in (Page n ∷ ms) = places_in ms
places_in (Key n k ∷ ms) = places_in ms
places_in (Row n e ∷ ms) = record { page = n; inode = e.inode } ∷ places_in ms
places_in (Fault n r ∷ ms) = places_in ms

-- a tree that breaks a rule has none
abbrev pub sound_places : {P : Type 0} → Result (List NameEntry) (ℕ × Rule) → Marks P NameEntry → List Place
sound_places (Ok es) ms = places_in ms
sound_places (Err fault) ms = []

-- the places of an inode's names
abbrev pub places_with : ℕ → (ℕ → List ℕ) → Dinode → List Place
places_with blocks page d = let ms = names_of (readers blocks) page d in sound_places (listed name_scale ms) ms

-- how many names lead to an inode, and how many to directories
abbrev pub names_to : ℕ → List Place → ℕ
names_to n ps = count_by (λ p. p.inode == n) ps

abbrev pub subdirectories : List Use → List Place → ℕ
subdirectories uses ps = count_by (λ p. is_directory (use_at uses p.inode)) ps
