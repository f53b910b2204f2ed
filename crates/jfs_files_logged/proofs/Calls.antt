-- From what each call answers to what it logs.
use Rattle.std.proofs.Common.{◌≡◌, ℕ, List, [], replicate, sym, subst, arith}
use Rattle.std.proofs.lemmas.List.{length-replicate}
use Rattle.jfs_ranges.specs.declared.edit.Edit.{Edit}
use Rattle.jfs_plain.specs.Limits.{FitsTarget}
use Rattle.jfs_plain.specs.declared.call.Call.TheVariants as calls
use Rattle.jfs_map_files.specs.declared.maps.Maps.{Maps}
use Rattle.jfs_files.specs.data_steps.specs.declared.pages.DataPage.{DataPage}
use Rattle.jfs_gains_logged.proofs.Calls.{gain_law}
use Rattle.jfs_gains_logged.specs.create.specs.declared.new.NewObject.TheVariants.{File, Directory, Link}
use Rattle.jfs_writes_logged.specs.contents_logged.specs.Calls.{IsLoggedAfter}
use Rattle.jfs_writes_logged.specs.contents_logged.specs.calls_logged.specs.Calls.{IsLogged}
use Rattle.jfs_writes_logged.specs.contents_logged.specs.calls_logged.proofs.Modes.{mode_law}
use Rattle.jfs_writes_logged.specs.contents_logged.specs.names_logged.proofs.Calls.{loss_law}
use Rattle.jfs_writes_logged.specs.contents_logged.proofs.Calls.{truncate_law}
use Rattle.jfs_moves_logged.proofs.Calls.{rename_law}
use Rattle.jfs_writes_logged.proofs.Calls.{write_law}
use Rattle.jfs_files_logged.specs.Calls.{FilesLaw}

-- a call that writes no data
no_data : (blocks : ℕ) (pages : ℕ → List ℕ) (area : ℕ → ℕ) (maps : Maps) (tx : List Edit) (written : List DataPage) → written ≡ [] → IsLogged blocks pages area maps.blocks maps.inodes tx → IsLoggedAfter blocks pages area maps.blocks maps.inodes written tx
no_data blocks pages area maps tx written none logged = subst (λ (ds : List DataPage). IsLoggedAfter blocks pages area maps.blocks maps.inodes ds tx) (sym none) logged

pub files_law : FilesLaw
files_law blocks pages area maps (calls.Mkdir path mode) now tx written ready many fits full ((after, made), none) =
    no_data blocks pages area maps tx written none (gain_law.makes blocks pages area maps.blocks maps.inodes path (Directory mode) now after tx ready many fits.1 made)
files_law blocks pages area maps (calls.Create path mode) now tx written ready many fits full ((after, made), none) =
    no_data blocks pages area maps tx written none (gain_law.makes blocks pages area maps.blocks maps.inodes path (File mode) now after tx ready many fits.1 made)
files_law blocks pages area maps (calls.Symlink path target) now tx written ready many fits full (bytes, is, ((after, made), none)) =
    no_data blocks pages area maps tx written none (gain_law.makes blocks pages area maps.blocks maps.inodes path (Link bytes) now after tx ready many (subst FitsTarget (sym is) fits.1) made)
files_law blocks pages area maps (calls.Link from to) now tx written ready many fits full (links, none) =
    no_data blocks pages area maps tx written none (gain_law.links blocks pages area maps.blocks maps.inodes from to now tx ready many links)
files_law blocks pages area maps (calls.Unlink path) now tx written ready many fits full (takes, none) =
    no_data blocks pages area maps tx written none (loss_law.unlinks blocks pages area maps.blocks maps.inodes path maps.file_limit now tx ready many takes)
files_law blocks pages area maps (calls.Rmdir path) now tx written ready many fits full (removes, none) =
    no_data blocks pages area maps tx written none (loss_law.removes blocks pages area maps.blocks maps.inodes path now tx ready many removes)
files_law blocks pages area maps (calls.Chmod path mode) now tx written ready many fits full (sets, none) =
    no_data blocks pages area maps tx written none (mode_law blocks pages area maps.blocks maps.inodes path mode now tx ready many fits.1 sets)
files_law blocks pages area maps (calls.Truncate path size) now tx written ready many fits full truncates =
    truncate_law blocks pages area maps.blocks maps.inodes path size maps.file_limit now (record { tx = tx; blocks = written }) ready many full truncates
files_law blocks pages area maps (calls.Rename from to) now tx written ready many fits full ((after, renames), none) =
    no_data blocks pages area maps tx written none (rename_law blocks pages area maps.blocks after maps.inodes from to maps.file_limit now tx ready many renames)
files_law blocks pages area maps (calls.Write path offset new) now tx written ready many fits full (after, puts) =
    write_law blocks pages area maps.blocks maps.inodes path offset new maps.file_limit now after (record { tx = tx; blocks = written }) ready many fits.1.0 (omega (arith, fits.1.1)) full puts
files_law blocks pages area maps (calls.Fill path offset count byte) now tx written ready many fits full (after, puts) =
    write_law blocks pages area maps.blocks maps.inodes path offset (replicate count byte) maps.file_limit now after (record { tx = tx; blocks = written }) ready many (omega (arith, fits.1.0, length-replicate count byte)) (omega (arith, fits.1.1, length-replicate count byte)) full puts
files_law blocks pages area maps (calls.Read path offset count) now tx written ready many fits full h = absurd h
files_law blocks pages area maps (calls.Stat path) now tx written ready many fits full h = absurd h
files_law blocks pages area maps (calls.List path) now tx written ready many fits full h = absurd h
files_law blocks pages area maps (calls.Readlink path) now tx written ready many fits full h = absurd h
files_law blocks pages area maps calls.Sync now tx written ready many fits full h = absurd h
