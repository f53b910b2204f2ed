use Rattle.std.proofs.Common.{[], ◌∷◌, sym, ◌∙◌, arith}
use Rattle.jfs_bmap.specs.States.{Owned}
use Rattle.jfs_bmap.proofs.States.{empty_run, in_list-one}
use Rattle.jfs_bmap.proofs.Views.{length-marked}
use Rattle.jfs_bmap.proofs.Puts.{put-nowhere}
use Rattle.jfs_bmap.proofs.Opened.{run-within, run-unowned, own-kept, own-view}
use Rattle.jfs_bmap.proofs.block_map.BlockMap.own_run.Goals as goal

pub overflow_cast-run : goal.overflow_cast-run
overflow_cast-run c =
    let run = c.args.run.now in
    omega (arith, run-within c.self.inside c.args.self.now c.self.view_is c.self.invariant.0 run.addr run.len c.requires c.if-run-gt0.true, c.self.invariant.0.most)

pub mark-requires-clause-within : goal.mark-requires-clause-within
mark-requires-clause-within c = run-within c.self.inside c.args.self.now c.self.view_is c.self.invariant.0 c.args.run.now.addr c.args.run.now.len c.requires c.if-run-gt0.true

pub mark-requires-clause-free : goal.mark-requires-clause-free
mark-requires-clause-free c = run-unowned c.self.inside c.args.self.now c.self.view_is c.self.invariant.0 c.args.run.now.addr c.args.run.now.len c.requires

pub invariant_of-self : goal.invariant_of-self
invariant_of-self c =
    let i = c.self.invariant in
    let run = c.args.run.now in
    rw c.mark.ensures (own-kept c.self.inside c.args.self.now c.self.view_is i.0 run.addr run.len c.requires, i.1, rw (length-marked run.addr run.len c.self.inside.owned) i.2, rw (length-marked run.addr run.len c.self.inside.owned) i.3)

pub returns-then-run-gt0 : goal.returns-then-run-gt0
returns-then-run-gt0 c = rw c.mark.ensures (own-view c.self.inside c.args.self.now c.self.view_is c.self.invariant.0 c.args.run.now.addr c.args.run.now.len c.requires)

pub returns-else-run-gt0 : goal.returns-else-run-gt0
returns-else-run-gt0 c =
    let run = c.args.run.now in
    sym (put-nowhere Owned (run ∷ []) c.args.self.now (λ b. in_list-one run b ∙ empty_run run.addr run.len b (omega arith)))
