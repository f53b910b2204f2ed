use Rattle.jfs_disk.specs.Image.{page_of}
use Rattle.jfs_files.specs.declared.outcome.FileOutcome.TheVariants.{Same}
use Rattle.jfs_look.specs.meaning.specs.Readers.{readers}
use Rattle.jfs_look.specs.meaning.specs.Room.{room_on}
use Rattle.jfs_files.specs.Outcome.{volume_in}
use Rattle.jfs_files.proofs.BytesPut.{or_not}
use Rattle.jfs_files.specs.Outcome.{Wants}
use Rattle.jfs_files.specs.Bytes.{bars}
use Rattle.jfs_plain.specs.Step.{outcome}
use Rattle.jfs_files.proofs.Data.{fits_none, once_none, starts_none, nothing_freed, used_freed}
use Rattle.jfs_files.proofs.call.file_call.Goals as goal

pub returns-in-Mkdir-clause-follows : goal.returns-in-Mkdir-clause-follows
returns-in-Mkdir-clause-follows g c tells between area con log_pages limit =
    let blocks = g.V.PageView.block_count c.args.view.now in
    let pages = page_of (g.V.PageView.image c.args.view.now) in
    let maps = c.args.maps.now in
    let call = c.args.request.now.call in
    let v = volume_in pages area maps in
    let room = room_on (readers blocks) v blocks log_pages in
    or_not (bars blocks pages maps call) blocks maps.blocks v (Wants maps call) (λ t. outcome room t call c.args.now) c.name_outcome.result (c.name_outcome.ensures.follows tells between area con log_pages limit)

pub returns-in-Unlink-clause-follows : goal.returns-in-Unlink-clause-follows
returns-in-Unlink-clause-follows g c tells between area con log_pages limit =
    let blocks = g.V.PageView.block_count c.args.view.now in
    let pages = page_of (g.V.PageView.image c.args.view.now) in
    let maps = c.args.maps.now in
    let call = c.args.request.now.call in
    let v = volume_in pages area maps in
    let room = room_on (readers blocks) v blocks log_pages in
    or_not (bars blocks pages maps call) blocks maps.blocks v (Wants maps call) (λ t. outcome room t call c.args.now) c.change_outcome.result (c.change_outcome.ensures.follows tells between area con log_pages limit)

pub returns-in-Stat-clause-follows : goal.returns-in-Stat-clause-follows
returns-in-Stat-clause-follows g c tells between area con log_pages limit =
    let blocks = g.V.PageView.block_count c.args.view.now in
    let pages = page_of (g.V.PageView.image c.args.view.now) in
    let maps = c.args.maps.now in
    let call = c.args.request.now.call in
    let v = volume_in pages area maps in
    let room = room_on (readers blocks) v blocks log_pages in
    or_not (bars blocks pages maps call) blocks maps.blocks v (Wants maps call) (λ t. outcome room t call c.args.now) (Same c.look_reply.result) (c.look_reply.ensures.follows tells between.within area maps.blocks con room c.args.now)

pub returns-in-Mkdir-clause-data : goal.returns-in-Mkdir-clause-data
returns-in-Mkdir-clause-data g c = fits_none (g.V.PageView.block_count c.args.view.now) c.name_outcome.result c.name_outcome.ensures.none

pub returns-in-Mkdir-clause-starts : goal.returns-in-Mkdir-clause-starts
returns-in-Mkdir-clause-starts g c tells between area con log_pages limit =
    starts_none (g.V.PageView.block_count c.args.view.now) (volume_in (page_of (g.V.PageView.image c.args.view.now)) area c.args.maps.now) c.args.request.now.call c.name_outcome.result con c.name_outcome.ensures.none

pub returns-in-Mkdir-clause-once : goal.returns-in-Mkdir-clause-once
returns-in-Mkdir-clause-once g c tells others between area con log_pages limit =
    let v = volume_in (page_of (g.V.PageView.image c.args.view.now)) area c.args.maps.now in
    nothing_freed v.used c.name_outcome.result (c.name_outcome.ensures.frees tells)

pub returns-in-Unlink-clause-data : goal.returns-in-Unlink-clause-data
returns-in-Unlink-clause-data g c = fits_none (g.V.PageView.block_count c.args.view.now) c.change_outcome.result c.change_outcome.ensures.none

pub returns-in-Unlink-clause-starts : goal.returns-in-Unlink-clause-starts
returns-in-Unlink-clause-starts g c tells between area con log_pages limit =
    starts_none (g.V.PageView.block_count c.args.view.now) (volume_in (page_of (g.V.PageView.image c.args.view.now)) area c.args.maps.now) c.args.request.now.call c.change_outcome.result con c.change_outcome.ensures.none

pub returns-in-Truncate-clause-follows : goal.returns-in-Truncate-clause-follows
returns-in-Truncate-clause-follows g c tells between area con log_pages limit =
    let blocks = g.V.PageView.block_count c.args.view.now in
    let pages = page_of (g.V.PageView.image c.args.view.now) in
    let maps = c.args.maps.now in
    let call = c.args.request.now.call in
    let v = volume_in pages area maps in
    let room = room_on (readers blocks) v blocks log_pages in
    or_not (bars blocks pages maps call) blocks maps.blocks v (Wants maps call) (λ t. outcome room t call c.args.now) c.size_outcome.result (rw c.in-Truncate.is (c.size_outcome.ensures.follows tells between area con log_pages limit))

pub returns-in-Truncate-clause-starts : goal.returns-in-Truncate-clause-starts
returns-in-Truncate-clause-starts g c tells between area con log_pages limit = rw c.in-Truncate.is (c.size_outcome.ensures.starts tells between area con log_pages limit)

pub returns-in-Mkdir-clause-single : goal.returns-in-Mkdir-clause-single
returns-in-Mkdir-clause-single g c tells few = once_none c.name_outcome.result c.name_outcome.ensures.none

pub returns-in-Unlink-clause-single : goal.returns-in-Unlink-clause-single
returns-in-Unlink-clause-single g c tells few = once_none c.change_outcome.result c.change_outcome.ensures.none

pub returns-in-Write-clause-follows : goal.returns-in-Write-clause-follows
returns-in-Write-clause-follows g c tells between area con log_pages limit = rw c.in-Write.is (c.write_outcome.ensures.follows tells between area con log_pages limit)

pub returns-in-Write-clause-starts : goal.returns-in-Write-clause-starts
returns-in-Write-clause-starts g c tells between area con log_pages limit = rw c.in-Write.is (c.write_outcome.ensures.starts tells between area con log_pages limit)

pub returns-in-Write-clause-once : goal.returns-in-Write-clause-once
returns-in-Write-clause-once g c tells others between area con log_pages limit =
    let v = volume_in (page_of (g.V.PageView.image c.args.view.now)) area c.args.maps.now in
    nothing_freed v.used c.write_outcome.result (c.write_outcome.ensures.frees tells)

pub returns-in-Fill-clause-follows : goal.returns-in-Fill-clause-follows
returns-in-Fill-clause-follows g c tells between area con log_pages limit = rw c.in-Fill.is (c.fill_outcome.ensures.follows tells between area con log_pages limit)

pub returns-in-Fill-clause-starts : goal.returns-in-Fill-clause-starts
returns-in-Fill-clause-starts g c tells between area con log_pages limit = rw c.in-Fill.is (c.fill_outcome.ensures.starts tells between area con log_pages limit)

pub returns-in-Fill-clause-once : goal.returns-in-Fill-clause-once
returns-in-Fill-clause-once g c tells others between area con log_pages limit =
    let v = volume_in (page_of (g.V.PageView.image c.args.view.now)) area c.args.maps.now in
    nothing_freed v.used c.fill_outcome.result (c.fill_outcome.ensures.frees tells)

pub returns-in-Rename-clause-follows : goal.returns-in-Rename-clause-follows
returns-in-Rename-clause-follows g c tells between area con log_pages limit =
    let blocks = g.V.PageView.block_count c.args.view.now in
    let pages = page_of (g.V.PageView.image c.args.view.now) in
    let maps = c.args.maps.now in
    let call = c.args.request.now.call in
    let v = volume_in pages area maps in
    let room = room_on (readers blocks) v blocks log_pages in
    or_not (bars blocks pages maps call) blocks maps.blocks v (Wants maps call) (λ t. outcome room t call c.args.now) c.rename_outcome.result (rw c.in-Rename.is (c.rename_outcome.ensures.follows tells between area con log_pages limit))

pub returns-in-Rename-clause-data : goal.returns-in-Rename-clause-data
returns-in-Rename-clause-data g c = fits_none (g.V.PageView.block_count c.args.view.now) c.rename_outcome.result c.rename_outcome.ensures.none

pub returns-in-Rename-clause-starts : goal.returns-in-Rename-clause-starts
returns-in-Rename-clause-starts g c tells between area con log_pages limit =
    starts_none (g.V.PageView.block_count c.args.view.now) (volume_in (page_of (g.V.PageView.image c.args.view.now)) area c.args.maps.now) c.args.request.now.call c.rename_outcome.result con c.rename_outcome.ensures.none

pub returns-in-Rename-clause-single : goal.returns-in-Rename-clause-single
returns-in-Rename-clause-single g c tells few = once_none c.rename_outcome.result c.rename_outcome.ensures.none

pub returns-in-Mkdir-clause-own : goal.returns-in-Mkdir-clause-own
returns-in-Mkdir-clause-own g c tells between area con log_pages limit =
    let v = volume_in (page_of (g.V.PageView.image c.args.view.now)) area c.args.maps.now in
    used_freed v.used c.name_outcome.result (nothing_freed v.used c.name_outcome.result (c.name_outcome.ensures.frees tells))

pub returns-in-Write-clause-own : goal.returns-in-Write-clause-own
returns-in-Write-clause-own g c tells between area con log_pages limit =
    let v = volume_in (page_of (g.V.PageView.image c.args.view.now)) area c.args.maps.now in
    used_freed v.used c.write_outcome.result (nothing_freed v.used c.write_outcome.result (c.write_outcome.ensures.frees tells))

pub returns-in-Fill-clause-own : goal.returns-in-Fill-clause-own
returns-in-Fill-clause-own g c tells between area con log_pages limit =
    let v = volume_in (page_of (g.V.PageView.image c.args.view.now)) area c.args.maps.now in
    used_freed v.used c.fill_outcome.result (nothing_freed v.used c.fill_outcome.result (c.fill_outcome.ensures.frees tells))

pub returns-in-Unlink-clause-own : goal.returns-in-Unlink-clause-own
returns-in-Unlink-clause-own g c tells between area con log_pages limit =
    let v = volume_in (page_of (g.V.PageView.image c.args.view.now)) area c.args.maps.now in
    used_freed v.used c.change_outcome.result (c.change_outcome.ensures.once tells between area con log_pages limit)

pub returns-in-Truncate-clause-own : goal.returns-in-Truncate-clause-own
returns-in-Truncate-clause-own g c tells between area con log_pages limit =
    let v = volume_in (page_of (g.V.PageView.image c.args.view.now)) area c.args.maps.now in
    used_freed v.used c.size_outcome.result (c.size_outcome.ensures.once tells between area con log_pages limit)
