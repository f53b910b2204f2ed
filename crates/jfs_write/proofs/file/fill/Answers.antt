use Rattle.std.proofs.Common.{ap, subst, ◌∙◌, ℕ, List, length, IfOk, IfErr}
use Rattle.std.proofs.lemmas.List.{length-replicate}
use Rattle.jfs_disk.specs.Image.{page_of}
use Rattle.jfs_plain.specs.Step.{write}
use Rattle.jfs_write.specs.Call.{IsStopped, StepsInRoom, StartsWrite}
use Rattle.jfs_write.proofs.Calls.{fill_starts}
use Rattle.jfs_write.proofs.file.fill.Goals as goal

pub returns-clause-stopped : goal.returns-clause-stopped
returns-clause-stopped g c tells = subst (λ (k : ℕ). IfErr c.write.result (IsStopped (g.V.PageView.block_count c.args.view.now) (page_of (g.V.PageView.image c.args.view.now)) c.args.inodes.now c.args.path.now c.args.offset k c.args.limit c.args.blocks.now))
    (ap length (c.as_slice.ensures.value ∙ c.in-Ok.ensures) ∙ length-replicate {A = ℕ} c.args.count c.args.byte) (c.write.ensures.stopped tells)

pub returns-clause-steps : goal.returns-clause-steps
returns-clause-steps g c tells = subst (λ (bytes : List ℕ). StepsInRoom (g.V.PageView.block_count c.args.view.now) (page_of (g.V.PageView.image c.args.view.now)) c.args.blocks.now c.args.inodes.now c.args.limit c.args.path.now (λ room t. write room t c.args.path.now c.args.offset bytes c.args.now) c.write.result)
    (c.as_slice.ensures.value ∙ c.in-Ok.ensures) (c.write.ensures.steps tells)

pub returns-clause-starts : goal.returns-clause-starts
returns-clause-starts g c tells = fill_starts (g.V.PageView.block_count c.args.view.now) (page_of (g.V.PageView.image c.args.view.now)) c.args.blocks.now c.args.inodes.now c.args.path.now c.args.offset c.args.count c.args.byte c.write.result
    (subst (λ (bytes : List ℕ). IfOk c.write.result (StartsWrite (g.V.PageView.block_count c.args.view.now) (page_of (g.V.PageView.image c.args.view.now)) c.args.blocks.now c.args.inodes.now c.args.path.now c.args.offset bytes)) (c.as_slice.ensures.value ∙ c.in-Ok.ensures) (c.write.ensures.starts tells))
