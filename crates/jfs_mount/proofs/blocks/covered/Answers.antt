use Rattle.std.proofs.Common.{sym, ap, ◌∙◌, is_some, arith}
use Rattle.jfs_reader.specs.objects.specs.Contents.{block_of}
use Rattle.jfs_mount.proofs.Passed.{prefix_is}
use Rattle.jfs_mount.proofs.blocks.covered.Goals as goal

pub returns-then-run-eq0 : goal.returns-then-run-eq0
returns-then-run-eq0 c =
    sym (prefix_is (λ j. is_some (block_of c.args.extents.now j)) c.args.n c.loop-j.j c.loop-j.invariant.within c.loop-j.invariant.some
    (λ _. ap is_some (sym (c.from_block-rest.ensures.same c.loop-j.j (omega arith) ∙ c.loop-j.invariant.same c.loop-j.j (omega arith))) ∙ c.run_at-run.ensures.run.none c.if-run-eq0.true))

pub returns : goal.returns
returns c =
    let past = c.loop-j-test.false in
    sym (prefix_is (λ j. is_some (block_of c.args.extents.now j)) c.args.n c.args.n (omega arith) (λ k h. c.loop-j.invariant.some k (omega (arith, h, past))) (λ l. absurd (omega (arith, l))))
