-- Inodes after a name went.
use Rattle.std.specs.Prelude.{ℕ, suc, ◌-◌, List, [], ◌∷◌}
use Rattle.jfs_bits.specs.Field.{put_bytes}
use Rattle.jfs_bits.specs.declared.descriptor.Moment.{Moment}
use Rattle.jfs_inode.specs.declared.fields.Dinode.{Dinode}
use Rattle.jfs_ranges.specs.declared.edit.Edit.{Edit}
use Rattle.jfs_ranges.specs.declared.edit.Edit.TheVariants.{Lines, NoRedo, Alloc, Free}

-- how many edits of a list free blocks
abbrev pub frees_in : List Edit → ℕ
frees_in [] = 0
frees_in (Lines page kind first bytes ∷ tx) = frees_in tx
frees_in (NoRedo page ∷ tx) = frees_in tx
frees_in (Alloc run ∷ tx) = frees_in tx
frees_in (Free run ∷ tx) = suc (frees_in tx)

-- A directory with another root and so many links, written now: it has so many blocks fewer.
abbrev pub lessened : Dinode → List ℕ → ℕ → ℕ → Moment → Dinode
lessened d root links fewer now = record d { nblocks = d.nblocks - fewer; nlink = links; rest = put_bytes 96 root d.rest; mtime = now; ctime = now }

-- an object with one link less, changed now
abbrev pub fallen : Dinode → Moment → Dinode
fallen d now = record d { nlink = d.nlink - 1; ctime = now }

-- one that is no more: an inode without links is free
abbrev pub gone : Dinode → Dinode
gone d = record d { nlink = 0 }
