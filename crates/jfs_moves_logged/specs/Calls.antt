-- What the transaction of a rename logs, on a consistent volume.
use Rattle.std.specs.Prelude.{◌≡◌, ℕ, List, length, Ok}
use Rattle.jfs_bits.specs.declared.descriptor.Moment.{Moment}
use Rattle.jfs_imap.specs.Inodes.{Inodes}
use Rattle.jfs_ranges.specs.declared.edit.Edit.{Edit}
use Rattle.jfs_rename.specs.Renames.{RenamesAs}
use Rattle.jfs_rename.specs.declared.renaming.Renamed.TheVariants as renamed
use Rattle.jfs_rename.specs.unlink.specs.loss.specs.bmap.specs.States.{Blocks}
use Rattle.jfs_names_logged.specs.calls_logged.specs.Calls.{IsReady, IsLogged}

-- An object gets another name, in its directory or in another one; one that has that name loses it. The block map has as many blocks as the file system part.
abbrev pub RenameLaw : Type 0
RenameLaw = (blocks : ℕ) (pages : ℕ → List ℕ) (area : ℕ → ℕ) (map after : Blocks) (inodes : Inodes) (from to : List (List ℕ)) (limit : ℕ) (now : Moment) (tx : List Edit) → IsReady blocks pages area map inodes → length map.states ≡ blocks
    → RenamesAs blocks pages map after inodes from to limit now (Ok (renamed.Done tx)) → IsLogged blocks pages area map inodes tx
