-- What the readers of a volume say of a new one.
use Rattle.std.specs.Prelude.{◌≡◌, ℕ, ◌*◌, ◌<◌, not, List, [], ◌∷◌, None}
use Rattle.jfs_bits.specs.declared.descriptor.Moment.{Moment}
use Rattle.jfs_bits.specs.declared.descriptor.Pxd.{Pxd}
use Rattle.jfs_bits.specs.declared.extent.Xad.{Xad}
use Rattle.jfs_bits.specs.Field.{field_of, range_of}
use Rattle.jfs_bits.specs.Descriptor.{FitsPxd}
use Rattle.jfs_bits.specs.Bits.{count_below}
use Rattle.jfs_bits.specs.Broken.{first_broken}
use Rattle.jfs_super.specs.Rules.{IsAccepted}
use Rattle.jfs_inode.specs.Rules.{rows}
use Rattle.jfs_format.specs.declared.volume.NewVolume.{NewVolume}
use Rattle.jfs_xtpage.specs.Page.{entries_of, IsXtPage}
use Rattle.jfs_xtpage.specs.declared.head.XtForm.TheVariants.{Root}
use Rattle.jfs_imap.specs.Inodes.{is_free}
use Rattle.jfs_format.specs.declared.tables.Table.TheVariants.{Fileset}
use Rattle.jfs_format.specs.Layout.{IsFormattable, layout_of, is_taken_block, free_blocks}
use Rattle.jfs_format.specs.Root.{whole_file, no_extents, one_extent}
use Rattle.jfs_format.specs.Inodes.{fileset_inode}
use Rattle.jfs_format.specs.Superblock.{new_super}
use Rattle.jfs_format.specs.Volume.{wanted, inodes_in}

-- its superblock breaks no rule on its disk
abbrev pub SuperIsAccepted : Type 0
SuperIsAccepted = (pages : ℕ) (uuid label : List ℕ) (now : Moment) → IsFormattable pages → IsAccepted (new_super (wanted pages uuid label now)) pages

-- the fileset's inodes in use break no rule at their numbers
abbrev pub InodesAreAccepted : Type 0
InodesAreAccepted = (v : NewVolume) (n : ℕ) → n < 4 → first_broken (rows (fileset_inode v n) n) ≡ None

-- the numbers of its free blocks, and of its free inodes, are those of its sets
pub record AreCounted (pages : ℕ) : Type 0 where
  pub blocks : count_below (layout_of pages).blocks (λ b. not (is_taken_block (layout_of pages) b)) ≡ free_blocks (layout_of pages)
  pub inodes : count_below (4096 * (layout_of pages).iags) (is_free (inodes_in Fileset (layout_of pages))) ≡ 28

abbrev pub FreeAreCounted : Type 0
FreeAreCounted = (pages : ℕ) → IsFormattable pages → AreCounted pages

-- the bytes of an inode's tree root, among those from byte 128 on
abbrev pub root_in : List ℕ → List ℕ
root_in rest = range_of rest 96 288

-- a root is a leaf that breaks no rule of extent pages, and has these extents
pub record IsLeafRoot (extents : List Xad) (rest : List ℕ) : Type 0 where
  pub leaf : field_of (root_in rest) 16 1 ≡ 0x83
  pub page : IsXtPage Root (root_in rest)
  pub entries : entries_of (root_in rest) ≡ extents

-- the extents of a new volume's files: none, or the whole file as one
pub record RootsRead : Type 0 where
  pub none : IsLeafRoot [] no_extents
  pub one : (run : Pxd) → FitsPxd run → IsLeafRoot (whole_file run ∷ []) (one_extent run)
