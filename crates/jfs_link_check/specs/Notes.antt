-- What is noted of the inodes of a volume.
use Rattle.std.specs.Prelude.{◌≡◌, ◌<◌, ◌*◌, ◌^◌, ℕ, suc, ◌+◌, List, [], length, Option, Some, None}
use Rattle.jfs_inode.specs.declared.fields.Dinode.{Dinode}
use Rattle.jfs_name.specs.declared.name.NameEntry.{NameEntry}
use Rattle.jfs_dtree.specs.Node.{name_scale}
use Rattle.jfs_object_check.specs.objects.specs.Objects.{names_of, listed}
use Rattle.jfs_object_check.specs.objects.specs.Owners.{entries}
use Rattle.jfs_object_check.specs.meaning.specs.Readers.{readers}
use Rattle.jfs_object_check.specs.meaning.specs.Consistent.{leading_to}
use Rattle.jfs_object_check.specs.findings.specs.Gains.{Gains}
use Rattle.jfs_each.specs.Each.{Found, found_at}
use Rattle.jfs_link_check.specs.Counts.{CountsBelow, AddsNames, ends}
use Rattle.jfs_link_check.specs.Uses.{use_in, use_at}
use Rattle.jfs_link_check.specs.Places.{Place, places_with, names_to, subdirectories}
use Rattle.jfs_link_check.specs.Judged.{IsAstray, IsOfDirectory, IsOfBelow}
use Rattle.jfs_link_check.specs.declared.notes.NameNotes.{NameNotes}

-- the names of an inode's tree; one that breaks a rule has none
abbrev pub names_with : ℕ → (ℕ → List ℕ) → Dinode → List NameEntry
names_with blocks page d = entries (listed name_scale (names_of (readers blocks) page d))

abbrev pub names_found : ℕ → (ℕ → List ℕ) → Option Found → List NameEntry
names_found blocks page None = []
names_found blocks page (Some f) = names_with blocks page f.inode

-- how many names of an inode lead to another, by what is found at each number
abbrev pub names_by : ℕ → (ℕ → List ℕ) → (ℕ → Option Found) → ℕ → ℕ → ℕ
names_by blocks page found dir n = leading_to n (names_found blocks page (found dir))

-- inode `n`, which stands on page `at`, was noted: the names that it has, and what is wrong with them and with a directory's link count
pub record NotesInode (blocks : ℕ) (page : ℕ → List ℕ) (n at : ℕ) (d : Dinode) (old new : NameNotes) : Type 0 where
  pub uses : new.uses ≡ old.uses
  pub counts : (most : ℕ) (of : ℕ → ℕ → ℕ) → CountsBelow most of n old.counts → ((k : ℕ) → of n k ≡ leading_to k (names_with blocks page d)) → CountsBelow most of (suc n) new.counts
  pub findings : Gains (IsOfDirectory old.uses n at d (places_with blocks page d)) old.findings.items new.findings.items

-- the uses of so many numbers are known, and all inodes below a number were noted
pub record NotedBelow (blocks : ℕ) (page : ℕ → List ℕ) (found : ℕ → Option Found) (most below : ℕ) (notes : NameNotes) : Type 0 where
  pub size : length notes.uses ≡ most
  pub uses : (n : ℕ) → use_at notes.uses n ≡ use_in (found n)
  pub pages : (n : ℕ) (f : Found) → found n ≡ Some f → f.page < 2 ^ 32
  pub counts : CountsBelow most (names_by blocks page found) below notes.counts
  pub findings : Gains (IsOfBelow blocks page found notes.uses below) [] notes.findings.items

-- all inodes of a volume of so many blocks with these pages were noted, whose inode extents begin at these places
abbrev pub AreNoted : ℕ → (ℕ → List ℕ) → List (Option ℕ) → NameNotes → Type 0
AreNoted blocks page places notes = NotedBelow blocks page (found_at page places) (32 * length places) (32 * length places) notes

-- ---- for the prover alone

-- Names were seen, of the directory that is being walked through.
pub record Sees (ps : List Place) (old new : NameNotes) : Type 0 where
  pub uses : new.uses ≡ old.uses
  pub number : new.here.number ≡ old.here.number
  pub page : new.here.page ≡ old.here.page
  pub counts : AddsNames old.here.number (λ n. names_to n ps) old.counts new.counts
  pub below : ends new.here.subdirectories ≡ ends (old.here.subdirectories + subdirectories old.uses ps)
  pub findings : Gains (IsAstray old.uses old.here.page ps) old.findings.items new.findings.items
