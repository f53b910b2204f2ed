-- How many blocks an object has after edits.
use Rattle.std.specs.Prelude.{ℕ, ◌+◌, ◌-◌, ◌%◌, ◌^◌, List, [], ◌∷◌}
use Rattle.jfs_ranges.specs.declared.edit.Edit.{Edit}
use Rattle.jfs_ranges.specs.declared.edit.Edit.TheVariants.{Lines, NoRedo, Alloc, Free}

-- what is taken more, and what is freed fewer: an inode tells its blocks in 64 bits
abbrev pub own_after_edit : ℕ → Edit → ℕ
own_after_edit own (Lines page kind first bytes) = own
own_after_edit own (NoRedo page) = own
own_after_edit own (Alloc run) = (own + run.len) % 2 ^ 64
own_after_edit own (Free run) = own - run.len

abbrev pub own_after : ℕ → List Edit → ℕ
own_after own [] = own
own_after own (edit ∷ tx) = own_after (own_after_edit own edit) tx
