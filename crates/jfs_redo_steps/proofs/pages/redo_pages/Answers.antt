use Rattle.std.proofs.Common.{inl, refl, sym, subst, arith}
use Rattle.jfs_records.specs.Redo.{all_of}
use Rattle.jfs_redo_steps.specs.ByPage.{IsIndex}
use Rattle.jfs_disk.specs.Moment.{now_of}
use Rattle.jfs_redo_steps.proofs.DiskPages.{none_redone}
use Rattle.jfs_redo_steps.proofs.Moments.{first_moment, all_wider}
use Rattle.jfs_redo_steps.proofs.pages.redo_pages.Goals as goal

pub returns-in-Err-clause-stopped : goal.returns-in-Err-clause-stopped
returns-in-Err-clause-stopped g c tells =
    let image = g.D.Disk.image c.args.disk.now in record {
      at = 0;
      low = c.requires.some;
      mid = image;
      before = none_redone (all_of c.args.transactions.now) image;
      torn = inl refl;
    }

pub returns-in-Ok-redo_by_index-clause-redone : goal.returns-in-Ok-redo_by_index-clause-redone
returns-in-Ok-redo_by_index-clause-redone g c tells =
    let all = all_of c.args.transactions.now in
    c.in-Ok-redo_by_index.ensures.redone tells all (subst (IsIndex c.args.count all) (sym c.as_slice.ensures.value) c.in-Ok.ensures)

pub returns-in-Err-clause-moments : goal.returns-in-Err-clause-moments
returns-in-Err-clause-moments g c tells crashes rests =
    let all = all_of c.args.transactions.now in
    let image = g.D.Disk.image c.args.disk.now in
    let past = g.D.Disk.past c.args.disk.now in
    all_wider 0 c.args.count all image (now_of past) past (omega arith) (first_moment all image past (g.met.D.Disk.has_state c.args.disk.now crashes) (g.met.D.Disk.reads_now c.args.disk.now crashes) rests)

pub returns-in-Ok-redo_by_index-clause-moments : goal.returns-in-Ok-redo_by_index-clause-moments
returns-in-Ok-redo_by_index-clause-moments g c tells crashes rests =
    let all = all_of c.args.transactions.now in
    c.redo_by_index.ensures.moments tells crashes all (subst (IsIndex c.args.count all) (sym c.as_slice.ensures.value) c.in-Ok.ensures) rests

pub returns-clause-moments : goal.returns-clause-moments
returns-clause-moments g c tells crashes rests =
    let all = all_of c.args.transactions.now in
    c.redo_by_index.ensures.moments tells crashes all (subst (IsIndex c.args.count all) (sym c.as_slice.ensures.value) c.in-Ok.ensures) rests
