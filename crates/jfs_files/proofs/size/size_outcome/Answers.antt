use Rattle.std.proofs.Common.{sym, min, inr}
use Rattle.jfs_disk.specs.Image.{page_of}
use Rattle.jfs_look.specs.meaning.specs.Readers.{readers}
use Rattle.jfs_look.specs.meaning.specs.Room.{room_on}
use Rattle.jfs_truncate.specs.Tail.{tail_block}
use Rattle.jfs_files.specs.Outcome.{volume_in}
use Rattle.jfs_files.proofs.Paths.{short_names}
use Rattle.jfs_files.proofs.Replies.{leaves_maps}
use Rattle.jfs_files.proofs.Data.{fair_frees, tail_once}
use Rattle.jfs_files.proofs.size.size_outcome.Goals as goal

pub truncate-requires : goal.truncate-requires
truncate-requires g c = record { names = rw c.as_slice-names.ensures (short_names c.args.path.now c.requires.path) }

pub returns-in-Ok-clause-maps : goal.returns-in-Ok-clause-maps
returns-in-Ok-clause-maps g c tells = leaves_maps c.in-Ok.out.tx c.args.maps.now (c.in-Ok.ensures.takes tells).1.taken_are

pub returns-in-Ok-clause-follows : goal.returns-in-Ok-clause-follows
returns-in-Ok-clause-follows g c tells between area con log_pages limit =
    let room = room_on (readers (g.V.PageView.block_count c.args.view.now)) (volume_in (page_of (g.V.PageView.image c.args.view.now)) area c.args.maps.now) (g.V.PageView.block_count c.args.view.now) log_pages in
    rw c.as_slice-names.ensures at (c.in-Ok.ensures.steps tells room (sym limit) between.within area c.args.maps.now.blocks c.requires.size con)

pub returns-in-Ok-clause-single : goal.returns-in-Ok-clause-single
returns-in-Ok-clause-single g c tells =
    let cuts = c.in-Ok.ensures.cuts tells in
    let kept = min cuts.at.inode.size c.args.end in
    tail_once (page_of (g.V.PageView.image c.args.view.now)) kept (tail_block (g.V.PageView.block_count c.args.view.now) (page_of (g.V.PageView.image c.args.view.now)) cuts.at.inode kept) c.in-Ok.out.blocks cuts.tail

pub returns-in-Ok-clause-starts : goal.returns-in-Ok-clause-starts
returns-in-Ok-clause-starts g c tells between area con log_pages limit =
    let starts = rw c.as_slice-names.ensures at (c.in-Ok.ensures.starts tells between.within area c.args.maps.now.blocks c.requires.size con) in
    let cuts = c.in-Ok.ensures.cuts tells in
    let kept = min cuts.at.inode.size c.args.end in
    record {
      rest = starts.leaves;
      consistent = starts.consistent;
      own = inr starts.own;
      once = tail_once (page_of (g.V.PageView.image c.args.view.now)) kept (tail_block (g.V.PageView.block_count c.args.view.now) (page_of (g.V.PageView.image c.args.view.now)) cuts.at.inode kept) c.in-Ok.out.blocks cuts.tail;
    }

pub returns-in-Ok-clause-once : goal.returns-in-Ok-clause-once
returns-in-Ok-clause-once g c tells between area con log_pages limit =
    let v = volume_in (page_of (g.V.PageView.image c.args.view.now)) area c.args.maps.now in
    fair_frees v.used c.in-Ok.out.tx (c.in-Ok.ensures.once tells between.within area c.args.maps.now.blocks c.requires.size con)

pub returns-in-Ok-clause-meets : goal.returns-in-Ok-clause-meets
returns-in-Ok-clause-meets g c tells = rw c.as_slice-names.ensures at (c.in-Ok.ensures.cuts tells)

pub returns-in-Err-clause-follows : goal.returns-in-Err-clause-follows
returns-in-Err-clause-follows g c tells between area con log_pages limit =
    let room = room_on (readers (g.V.PageView.block_count c.args.view.now)) (volume_in (page_of (g.V.PageView.image c.args.view.now)) area c.args.maps.now) (g.V.PageView.block_count c.args.view.now) log_pages in
    rw c.refused.ensures (rw c.as_slice-names.ensures at (c.in-Err.ensures.steps tells room (sym limit) between.within area c.args.maps.now.blocks con))

pub returns-in-Err-clause-meets : goal.returns-in-Err-clause-meets
returns-in-Err-clause-meets g c tells = rw c.refused.ensures (rw c.as_slice-names.ensures at (c.in-Err.ensures.meets tells))
