use Rattle.std.proofs.Common.{List, Err, Ok, sym, ◌∙◌, subst, arith}
use Rattle.std.proofs.lemmas.List.{drop_all}
use Rattle.jfs_marks.specs.data_steps.specs.declared.pages.DataPage.{DataPage}
use Rattle.jfs_pages.specs.Kept.{dirty_in}
use Rattle.jfs_volume.specs.Data.{ArePut, store_of}
use Rattle.jfs_volume.proofs.Putting.{puts-next, torn-next, lie-next, lie-here, item-at, none-put}
use Rattle.jfs_volume.proofs.data.put_all.Goals as goal

pub loop-i-preserved : goal.loop-i-preserved
loop-i-preserved g c =
    let inv = c.loop-i.invariant in
    let e = c.put_at.ensures in
    let es = c.args.contents.now in
    let i = c.loop-i.i in
    let item = item-at es i (omega arith) in
    let d = g.D.Disk in
    record {
      rest = λ new result puts. inv.rest new result (puts-next es i item.0 item.1 (dirty_in c.args.cache.now.kept) (store_of d c.loop-i.cache) (store_of d c.put_at.new.cache) new result
          (rw inv.dirty at (c.in-Ok.ensures.puts item.0 item.1)) puts);
      within = lie-next es i item.0 item.1 c.args.cache.now.blocks inv.within;
      dirty = e.dirty ∙ inv.dirty;
      held = c.in-Ok.ensures.held ∙ inv.held;
      parts = (e.parts.0 ∙ inv.parts.0, e.parts.1 ∙ inv.parts.1, e.parts.2 ∙ inv.parts.2);
      faults = c.in-Ok.ensures.cause ∙ inv.faults;
    }

pub returns-in-Err-clause-puts : goal.returns-in-Err-clause-puts
returns-in-Err-clause-puts g c =
    let inv = c.loop-i.invariant in
    let d = g.D.Disk in
    let item = item-at c.args.contents.now c.loop-i.i (omega arith) in
    inv.rest (store_of d c.put_at.new.cache) (Err c.in-Err.fault)
    (torn-next c.args.contents.now c.loop-i.i item.0 item.1 (dirty_in c.args.cache.now.kept) (store_of d c.loop-i.cache) (store_of d c.put_at.new.cache) (rw inv.dirty at (c.in-Err.ensures.puts item.0 item.1)))

pub returns-clause-puts : goal.returns-clause-puts
returns-clause-puts g c =
    let inv = c.loop-i.invariant in
    let d = g.D.Disk in
    let store = store_of d c.loop-i.cache in
    inv.rest store (Ok tt)
    (subst (λ (es : List DataPage). ArePut d.tells d.tells_crashes es (dirty_in c.args.cache.now.kept) store store) (sym (drop_all c.loop-i.i c.args.contents.now (omega arith))) (none-put (dirty_in c.args.cache.now.kept) store))

pub put_at-requires-clause-within : goal.put_at-requires-clause-within
put_at-requires-clause-within g c x is = rw (c.loop-i.invariant.parts.0) (lie-here c.args.contents.now c.loop-i.i x is c.args.cache.now.blocks c.loop-i.invariant.within)
