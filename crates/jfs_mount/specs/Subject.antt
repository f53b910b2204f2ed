-- What is checked, and what stands on which page.
use Rattle.std.specs.Prelude.{◌≡◌, ℕ, ◌==◌, if◌then◌else◌, List, Option, Some}
use Rattle.jfs_super.specs.Rules.{blocks_of}
use Rattle.jfs_super.specs.declared.fields.Super.{Super}
use Rattle.jfs_reader.specs.page_tree.specs.Spells.{no_page}
use Rattle.jfs_reader.specs.objects.specs.Readers.{Readers}
use Rattle.jfs_reader.specs.objects.specs.Volume.{Volume, home}
use Rattle.jfs_reader.specs.objects.specs.Objects.{Object, objects}
use Rattle.jfs_reader.specs.objects.specs.Contents.{block_of}
use Rattle.jfs_reader.specs.objects.specs.Image.{volume_on, file_extents}
use Rattle.jfs_reader.specs.meaning.specs.Readers.{readers}

-- A superblock and the bytes of each page; and how the roots and pages of trees read.
pub record Subject : Type 0 where
  pub readers : Readers
  pub super : Super
  pub page : ℕ → List ℕ

-- what stands on these pages, as their superblock says
abbrev pub subject_of : Super → (ℕ → List ℕ) → Subject
subject_of super page = record { readers = readers (blocks_of super); super = super; page = page }

-- the number of blocks of the file system part
abbrev pub blocks : Subject → ℕ
blocks s = blocks_of s.super

abbrev pub volume : Subject → Volume
volume s = volume_on s.readers (blocks s) s.super.ait2 s.super.aim2 s.page

-- what inode `n` spells, where it is in use
abbrev pub object : Subject → ℕ → Option Object
object s n = objects s.readers (volume s) n

-- inode `n` is in use, stands on this page and spells this
pub record IsObject (s : Subject) (n page : ℕ) (o : Object) : Type 0 where
  pub is : object s n ≡ Some o
  pub stands : home (volume s).extents n ≡ Some page

-- A root is named by the page of its inode.
abbrev pub page_named : ℕ → ℕ → ℕ
page_named inode_page n = if n == no_page then inode_page else n

-- page `j` of the file of inode `k` of the aggregate stands on this one
abbrev pub IsFilePage : Subject → ℕ → ℕ → ℕ → Type 0
IsFilePage s k j page = block_of (file_extents s.readers s.page k) j ≡ Some page
