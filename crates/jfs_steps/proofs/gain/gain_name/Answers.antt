use Rattle.std.proofs.Common.{◌≡◌, inl, true, Result, Ok, Err, OnOk, IfErr}
use Rattle.jfs_way.specs.plain.specs.declared.refusal.Refusal.{Refusal}
use Rattle.jfs_way.specs.Answer.{is_open}
use Rattle.jfs_steps.specs.Gains.{GainRefused}
use Rattle.jfs_disk.specs.Image.{page_of}
use Rattle.jfs_steps.proofs.Grows.{gains_told, refused_told}
use Rattle.jfs_steps.proofs.gain.gain_name.Goals as goal

both : {T E : Type 0} {A B C : Type 0} (r : Result T E) → OnOk r A → OnOk r B → (A → B → C) → OnOk r C
both (Ok x) a b f = f a b
both (Err e) a b f = tt

pub returns-clause-gains : goal.returns-clause-gains
returns-clause-gains g c tells = both c.put_inode.result
    (rw (c.add.ensures.count_of_blocks, c.add.ensures.image tells, c.with_root-d.ensures.value, c.allocs_in.ensures) at (c.put_inode.ensures.puts tells))
    (rw (c.add.ensures.count_of_blocks, c.add.ensures.image tells) at (c.put_inode.ensures.lines tells))
    (gains_told (g.V.PageView.block_count c.args.view.now) (page_of (g.V.PageView.image c.args.view.now)) c.args.dir.now c.args.name.now c.args.gain c.args.fresh.now c.add.new.fresh c.add.new.root c.add.new.tx c.put_inode.new.tx
    c.with_root-d.ensures.width c.with_root-d.ensures.size (rw c.get_array-root.ensures at c.add.ensures.parent) (rw (c.get_array-root.ensures, c.requires.empty) at (c.in-Ok.ensures.adds tells))
    (rw c.requires.empty at (c.in-Ok.ensures.edits tells)))

pub returns-in-Err-clause-refused : goal.returns-in-Err-clause-refused
returns-in-Err-clause-refused g c tells = refused_told (g.V.PageView.block_count c.args.view.now) (page_of (g.V.PageView.image c.args.view.now)) c.args.dir.now c.args.name.now c.args.gain c.args.fresh.now c.get_array-root.result
    c.from_names.result c.in-Err.e c.get_array-root.ensures c.from_names.ensures.value (c.in-Err.ensures.refused tells) (c.in-Err.ensures.way tells)

pub returns-clause-refused : goal.returns-clause-refused
returns-clause-refused g c tells = by c.put_inode.result c.put_inode.ensures.only
  where
    by : (r : Result (Unit {0}) Refusal) → IfErr r (λ why. is_open why ≡ true) → IfErr r (GainRefused (g.V.PageView.block_count c.args.view.now) (page_of (g.V.PageView.image c.args.view.now)) c.args.dir.now c.args.name.now c.args.gain c.args.fresh.now)
    by (Ok x) h = tt
    by (Err why) h = inl h
