-- How far a walk through an extent tree has come.
use Rattle.std.specs.Prelude.{ℕ}
use Rattle.jfs_xtpage.specs.Page.{end_of}
use Rattle.jfs_xtree.specs.declared.entries.Reached.{Reached}
use Rattle.jfs_xtree.specs.declared.entries.Reached.TheVariants.{At, Behind}

-- the first block of the file that may come next
abbrev pub next_block : Reached → ℕ
next_block (At key) = key
next_block (Behind x) = end_of x
