use Rattle.std.proofs.Common.{sym, subst, Result, Ok, Err, OnOk}
use Rattle.jfs_disk.specs.Image.{page_of}
use Rattle.jfs_steps.specs.way.specs.Answer.{Answers}
use Rattle.jfs_loss.specs.Causes.{lost_from}
use Rattle.jfs_loss.proofs.Keeping.{loses, keeps}
use Rattle.jfs_loss.proofs.lose.lose_name.Goals as goal

both : {T E : Type 0} {A B C : Type 0} (r : Result T E) → OnOk r A → OnOk r B → (A → B → C) → OnOk r C
both (Ok x) a b f = f a b
both (Err e) a b f = tt

pub returns-in-Err-clause-kept : goal.returns-in-Err-clause-kept
returns-in-Err-clause-kept g c tells =
    subst (λ why. Answers (lost_from (g.V.PageView.block_count c.args.view.now) (page_of (g.V.PageView.image c.args.view.now)) c.args.dir.now c.args.name.now) (Err why)) (sym c.from_names.ensures.value)
    (keeps (g.V.PageView.block_count c.args.view.now) (page_of (g.V.PageView.image c.args.view.now)) c.args.dir.now c.args.name.now c.get_array-root.result c.get_array-root.ensures c.in-Err.e
    (c.in-Err.ensures.way tells) (c.in-Err.ensures.on_way tells))

pub returns-clause-loses : goal.returns-clause-loses
returns-clause-loses g c tells = both c.put_inode.result
    (rw (c.remove.ensures.count_of_blocks, c.remove.ensures.image tells, c.lessened-d.ensures.value, c.saturating_sub-fewer.ensures, c.frees_in.ensures, c.frees_in-before.ensures) at (c.put_inode.ensures.puts tells))
    (rw (c.remove.ensures.count_of_blocks, c.remove.ensures.image tells) at (c.put_inode.ensures.lines tells))
    (λ puts lines. record {
      root = c.remove.new.root;
      mid = c.remove.new.tx;
      inode = c.in-Ok.field-0;
      width = c.lessened-d.ensures.width;
      parent = rw c.get_array-root.ensures at c.remove.ensures.parent;
      found = loses (g.V.PageView.block_count c.args.view.now) (page_of (g.V.PageView.image c.args.view.now)) c.args.dir.now c.args.name.now c.get_array-root.result c.get_array-root.ensures c.in-Ok.field-0
          (c.in-Ok.ensures.way tells) (c.in-Ok.ensures.on_way tells);
      removes = rw c.get_array-root.ensures at (c.in-Ok.ensures.removes tells);
      tells = c.in-Ok.ensures.edits tells;
      size = c.lessened-d.ensures.size;
      puts = puts;
      lines = lines;
    })
