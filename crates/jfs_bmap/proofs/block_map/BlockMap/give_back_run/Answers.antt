use Rattle.std.proofs.Common.{[], ◌∷◌, sym, ◌∙◌, arith}
use Rattle.jfs_bmap.specs.States.{Free}
use Rattle.jfs_bmap.proofs.States.{empty_run, in_list-one}
use Rattle.jfs_bmap.proofs.Puts.{put-nowhere}
use Rattle.jfs_bmap.proofs.Opened.{run-within, run-held, run-used, back-kept, back-view}
use Rattle.jfs_bmap.proofs.block_map.BlockMap.give_back_run.Goals as goal

pub overflow_cast-run : goal.overflow_cast-run
overflow_cast-run c =
    let run = c.args.run.now in
    omega (arith, run-within c.self.inside c.args.self.now c.self.view_is c.self.invariant.0 run.addr run.len c.requires c.if-run-gt0.true, c.self.invariant.0.most)

pub overflow_cast-run-then-run-gt0 : goal.overflow_cast-run-then-run-gt0
overflow_cast-run-then-run-gt0 c =
    let run = c.args.run.now in
    omega (arith, run-within c.self.inside c.args.self.now c.self.view_is c.self.invariant.0 run.addr run.len c.requires c.if-run-gt0.true, c.self.invariant.0.most)

pub clear-requires-clause-within : goal.clear-requires-clause-within
clear-requires-clause-within c =
    let run = c.args.run.now in
    omega (arith, run-within c.self.inside c.args.self.now c.self.view_is c.self.invariant.0 run.addr run.len c.requires c.if-run-gt0.true, c.self.invariant.0.held_blocks)

pub clear-requires-clause-taken : goal.clear-requires-clause-taken
clear-requires-clause-taken c = run-held c.self.inside c.args.self.now c.self.view_is c.self.invariant.0 c.args.run.now.addr c.args.run.now.len c.requires

pub clear-requires-then-run-gt0-clause-within : goal.clear-requires-then-run-gt0-clause-within
clear-requires-then-run-gt0-clause-within c =
    let run = c.args.run.now in
    omega (arith, run-within c.self.inside c.args.self.now c.self.view_is c.self.invariant.0 run.addr run.len c.requires c.if-run-gt0.true, c.self.invariant.0.used_blocks)

pub clear-requires-then-run-gt0-clause-taken : goal.clear-requires-then-run-gt0-clause-taken
clear-requires-then-run-gt0-clause-taken c = run-used c.self.inside c.args.self.now c.self.view_is c.self.invariant.0 c.args.run.now.addr c.args.run.now.len c.requires

pub invariant_of-self : goal.invariant_of-self
invariant_of-self c =
    let i = c.self.invariant in
    let run = c.args.run.now in
    rw (c.clear.ensures, c.clear-then-run-gt0.ensures) (back-kept c.self.inside c.args.self.now c.self.view_is i.0 run.addr run.len c.requires c.if-run-gt0.true, i.1, i.2, i.3)

pub returns-then-run-gt0 : goal.returns-then-run-gt0
returns-then-run-gt0 c = rw (c.clear.ensures, c.clear-then-run-gt0.ensures) (back-view c.self.inside c.args.self.now c.self.view_is c.self.invariant.0 c.args.run.now.addr c.args.run.now.len c.requires c.if-run-gt0.true)

pub returns-else-run-gt0 : goal.returns-else-run-gt0
returns-else-run-gt0 c =
    let run = c.args.run.now in
    sym (put-nowhere Free (run ∷ []) c.args.self.now (λ b. in_list-one run b ∙ empty_run run.addr run.len b (omega arith)))
