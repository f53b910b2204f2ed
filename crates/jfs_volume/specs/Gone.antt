-- Pages that a transaction gives up.
use Rattle.std.specs.Prelude.{◌&&◌, Bool, true, List, [], ◌∷◌}
use Rattle.jfs_ranges.specs.declared.edit.Edit.{Edit}
use Rattle.jfs_ranges.specs.declared.edit.Edit.TheVariants.{Lines, NoRedo, Alloc, Free}
use Rattle.jfs_halves.specs.Marks.{frees}

-- an edit gives up no page, or one whose block the transaction frees
abbrev pub goes : List Edit → Edit → Bool
goes tx (Lines page kind first bytes) = true
goes tx (NoRedo page) = frees page tx
goes tx (Alloc run) = true
goes tx (Free run) = true

abbrev pub gone_freed : List Edit → List Edit → Bool
gone_freed tx [] = true
gone_freed tx (e ∷ es) = goes tx e && gone_freed tx es
