use Rattle.std.proofs.Common.{◌∙◌, ap, sym, ◌++◌, ◌∷◌, [], ◌+◌, append_assoc, arith}
use Rattle.jfs_tree.specs.Fresh.{run_from}
use Rattle.jfs_tree.proofs.Runs.{run_more, run_below}
use Rattle.jfs_tree.proofs.fresh.push_run.Goals as goal

pub overflow_cast-addr : goal.overflow_cast-addr
overflow_cast-addr c =
    let h = run_below c.args.blocks c.args.pxd.now.addr c.args.pxd.now.len c.loop-k.k c.requires c.loop-k-test.true in
    let e = c.from.ensures in let b = c.ranges.blocks.fits in omega (arith, h, e, b)

pub loop-k-preserved : goal.loop-k-preserved
loop-k-preserved c =
    c.in_ok-push.ensures.items ∙ ap (λ xs. xs ++ (c.args.pxd.now.addr + c.from.result) ∷ []) c.loop-k.invariant
    ∙ append_assoc c.args.all.now.items (run_from c.args.pxd.now.addr c.loop-k.k) ((c.args.pxd.now.addr + c.from.result) ∷ [])
    ∙ ap (λ n. c.args.all.now.items ++ (run_from c.args.pxd.now.addr c.loop-k.k ++ (c.args.pxd.now.addr + n) ∷ [])) c.from.ensures
    ∙ ap (λ xs. c.args.all.now.items ++ xs) (sym (run_more c.args.pxd.now.addr c.loop-k.k))
