use Rattle.std.proofs.Common.{sym, [], ◌-◌, nat_le, refl}
use Rattle.jfs_disk.specs.Image.{page_of}
use Rattle.jfs_look.specs.meaning.specs.Readers.{readers}
use Rattle.jfs_look.specs.meaning.specs.Room.{room_on}
use Rattle.jfs_chmod.specs.steps.specs.Place.{last_of}
use Rattle.jfs_files.specs.Outcome.{volume_in}
use Rattle.jfs_files.proofs.Paths.{short_names}
use Rattle.jfs_files.proofs.Replies.{leaves_maps, lines_take_nothing}
use Rattle.jfs_files.proofs.Removals.{drop_takes_none, name_takes_none}
use Rattle.jfs_files.proofs.Data.{fair_frees, none_freed, lines_free_none}
use Rattle.jfs_files.proofs.change.change_outcome.Goals as goal

pub unlink-requires : goal.unlink-requires
unlink-requires g c = record { names = rw c.as_slice.ensures (short_names c.in-Unlink.path (rw c.in-Unlink.is at c.requires.fits)) }

pub returns-in-Ok-clause-maps : goal.returns-in-Ok-clause-maps
returns-in-Ok-clause-maps g c tells =
    let t = c.in-Ok.ensures.takes tells in
    rw c.changed.ensures (leaves_maps c.in-Ok.tx c.args.maps.now (name_takes_none (g.V.PageView.block_count c.args.view.now) (page_of (g.V.PageView.image c.args.view.now)) (nat_le t.0.at.inode.nlink 1) t.0 (last_of c.as_slice.result.now) c.args.now c.in-Ok.tx t.3))

pub returns-in-Ok-clause-follows : goal.returns-in-Ok-clause-follows
returns-in-Ok-clause-follows g c tells between area con log_pages limit =
    let room = room_on (readers (g.V.PageView.block_count c.args.view.now)) (volume_in (page_of (g.V.PageView.image c.args.view.now)) area c.args.maps.now) (g.V.PageView.block_count c.args.view.now) log_pages in
    rw (c.in-Unlink.is, c.changed.ensures) (rw c.as_slice.ensures at (c.in-Ok.ensures.steps tells room (sym limit) between.within area c.args.maps.now.blocks c.requires.size con))

pub returns-in-Err-clause-follows : goal.returns-in-Err-clause-follows
returns-in-Err-clause-follows g c tells between area con log_pages limit =
    let room = room_on (readers (g.V.PageView.block_count c.args.view.now)) (volume_in (page_of (g.V.PageView.image c.args.view.now)) area c.args.maps.now) (g.V.PageView.block_count c.args.view.now) log_pages in
    rw (c.in-Unlink.is, c.refused.ensures) (rw c.as_slice.ensures at (c.in-Err.ensures.steps tells room (sym limit) between.within area c.args.maps.now.blocks con))

pub remove_directory-requires : goal.remove_directory-requires
remove_directory-requires g c = record { names = rw c.as_slice-in-Rmdir.ensures (short_names c.in-Rmdir.path (rw c.in-Rmdir.is at c.requires.fits)) }

pub returns-in-Ok-remove_directory-clause-maps : goal.returns-in-Ok-remove_directory-clause-maps
returns-in-Ok-remove_directory-clause-maps g c tells =
    let t = c.in-Ok-remove_directory.ensures.takes tells in
    rw c.changed-in-Ok-remove_directory.ensures (leaves_maps c.in-Ok-remove_directory.tx c.args.maps.now (drop_takes_none (g.V.PageView.block_count c.args.view.now) (page_of (g.V.PageView.image c.args.view.now)) t.0 (last_of c.as_slice-in-Rmdir.result.now) (t.0.dir.inode.nlink - 1) c.args.now c.in-Ok-remove_directory.tx t.3))

pub returns-in-Ok-remove_directory-clause-follows : goal.returns-in-Ok-remove_directory-clause-follows
returns-in-Ok-remove_directory-clause-follows g c tells between area con log_pages limit =
    rw (c.in-Rmdir.is, c.changed-in-Ok-remove_directory.ensures) (rw c.as_slice-in-Rmdir.ensures at (c.in-Ok-remove_directory.ensures.steps tells between.within area c.args.maps.now.blocks c.requires.size con))

pub change_mode-requires-clause-names : goal.change_mode-requires-clause-names
change_mode-requires-clause-names g c = rw c.as_slice-in-Chmod.ensures (short_names c.in-Chmod.path (rw c.in-Chmod.is at c.requires.fits).0)

pub returns-in-Ok-change_mode-clause-maps : goal.returns-in-Ok-change_mode-clause-maps
returns-in-Ok-change_mode-clause-maps g c tells =
    let sets = c.in-Ok-change_mode.ensures.sets tells in
    rw c.changed-in-Ok-change_mode.ensures (lines_take_nothing (g.V.PageView.block_count c.args.view.now) (page_of (g.V.PageView.image c.args.view.now)) sets.0.page c.in-Ok-change_mode.tx c.args.maps.now sets.3)

pub returns-in-Ok-clause-once : goal.returns-in-Ok-clause-once
returns-in-Ok-clause-once g c tells between area con log_pages limit =
    let v = volume_in (page_of (g.V.PageView.image c.args.view.now)) area c.args.maps.now in
    rw c.changed.ensures (fair_frees v.used c.in-Ok.tx (c.in-Ok.ensures.once tells between.within area c.args.maps.now.blocks c.requires.size con))

pub returns-in-Ok-remove_directory-clause-once : goal.returns-in-Ok-remove_directory-clause-once
returns-in-Ok-remove_directory-clause-once g c tells between area con log_pages limit =
    let v = volume_in (page_of (g.V.PageView.image c.args.view.now)) area c.args.maps.now in
    rw c.changed-in-Ok-remove_directory.ensures (fair_frees v.used c.in-Ok-remove_directory.tx (c.in-Ok-remove_directory.ensures.once tells between.within area c.args.maps.now.blocks c.requires.size con))

pub returns-in-Ok-change_mode-clause-once : goal.returns-in-Ok-change_mode-clause-once
returns-in-Ok-change_mode-clause-once g c tells between area con log_pages limit =
    let v = volume_in (page_of (g.V.PageView.image c.args.view.now)) area c.args.maps.now in
    let sets = c.in-Ok-change_mode.ensures.sets tells in
    rw c.changed-in-Ok-change_mode.ensures (none_freed v.used c.in-Ok-change_mode.tx (lines_free_none (g.V.PageView.block_count c.args.view.now) (page_of (g.V.PageView.image c.args.view.now)) sets.0.page [] c.in-Ok-change_mode.tx (λ b. refl) sets.3))
