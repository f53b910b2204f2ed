-- What a look at an inode in use finds.
use Rattle.std.specs.Prelude.{◌≡◌, ◌<◌, ◌*◌, ◌%◌, ◌||◌, ◌⊎◌, ℕ, List, Some, length}
use Rattle.jfs_bits.specs.Bits.{is_taken, is_in_run}
use Rattle.jfs_disk.specs.Image.{Image, page_of}
use Rattle.jfs_link_check.specs.objects.specs.Objects.{spelled}
use Rattle.jfs_link_check.specs.objects.specs.Owners.{holds}
use Rattle.jfs_findings.specs.meaning.specs.Readers.{readers}
use Rattle.jfs_link_check.specs.owners.specs.Counts.{Adds}
use Rattle.jfs_findings.specs.Gains.{Gains}
use Rattle.jfs_findings.specs.declared.finding.Finding.{Finding}
use Rattle.jfs_link_check.specs.object_check.specs.Object.{IsOf}
use Rattle.jfs_link_check.specs.object_check.specs.Thin.{IsThinOf}
use Rattle.jfs_each.specs.Each.{Found}
use Rattle.jfs_link_check.specs.Notes.{NotesInode}
use Rattle.jfs_link_check.specs.declared.census.Census.{Census}
use Rattle.jfs_check.specs.declared.look.Look.{Look}

-- a finding of an inode in use, on a volume of so many blocks with these pages
abbrev pub IsOfFound : ℕ → (ℕ → List ℕ) → ℕ → Found → Finding → Type 0
IsOfFound blocks page n f g = IsOf (readers blocks) blocks page n f.page (spelled (readers blocks) page f.inode) g ⊎ IsThinOf (readers blocks) page n f.page (spelled (readers blocks) page f.inode) g

-- what it holds is counted, and its names are noted
pub record SeesTrees (blocks : ℕ) (page : ℕ → List ℕ) (n : ℕ) (f : Found) (old new : Census) : Type 0 where
  pub owners : Adds (holds (readers blocks) (Some (spelled (readers blocks) page f.inode))) old.owners new.owners
  pub names : NotesInode blocks page n f.page f.inode old.names new.names

-- and its bit is set, and what is wrong with it is found
pub record Sees (blocks : ℕ) (image : Image) (old : Look) (n : ℕ) (f : Found) (new : Look) : Type 0 where
  pub trees : SeesTrees blocks (page_of image) n f old.census new.census
  pub size : length new.used.items ≡ length old.used.items
  pub used : (i : ℕ) → length old.used.items % 4 ≡ 0 → n < 8 * length old.used.items → is_taken new.used.items i ≡ (is_in_run n 1 i || is_taken old.used.items i)
  pub findings : Gains (IsOfFound blocks (page_of image) n f) old.findings.items new.findings.items
