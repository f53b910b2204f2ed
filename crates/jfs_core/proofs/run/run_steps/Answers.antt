use Rattle.std.proofs.Common.{refl, length, ◌∙◌, sym, subst, arith}
use Rattle.std.proofs.lemmas.Option.{slice_get_read}
use Rattle.jfs_core.specs.Core.{Core}
use Rattle.jfs_core.specs.Step.{IsAllowed}
use Rattle.jfs_core.specs.Sound.{IsSound, AlwaysRecovers}
use Rattle.jfs_core.proofs.Decided.{allowed_if, refused_if}
use Rattle.jfs_core.proofs.Redo.{always_recovers}
use Rattle.jfs_core.proofs.Runs.{LeadsTo-more, LeadsTo-sound}
use Rattle.jfs_core.proofs.run.run_steps.Goals as goal

pub take_step-requires : goal.take_step-requires
take_step-requires c = allowed_if c.loop-i.core c.index-steps-i.result (sym c.refuses.ensures ∙ c.in_default.is)

pub loop-i-preserved : goal.loop-i-preserved
loop-i-preserved c =
    let step = c.index-steps-i.result in
    let allowed : IsAllowed c.loop-i.core step = allowed_if c.loop-i.core step (sym c.refuses.ensures ∙ c.in_default.is) in
    LeadsTo-more c.args.core.now c.args.steps.now c.loop-i.i c.loop-i.core c.take_step.new.self step (omega arith) c.index-steps-i.is c.loop-i.invariant allowed c.in_default-take_step.ensures.ok

pub returns-in-Some-clause-run : goal.returns-in-Some-clause-run
returns-in-Some-clause-run c =
    let step = c.index-steps-i.result in (
      c.loop-i.invariant,
      record {
        step = step;
        there = slice_get_read c.args.steps.now (length c.args.steps.now) c.loop-i.i step refl (omega arith) c.index-steps-i.is;
        refused = refused_if c.loop-i.core step c.in-Some.why (sym c.refuses.ensures ∙ c.in-Some.is);
      },
    )

pub returns-in-Some-clause-sound : goal.returns-in-Some-clause-sound
returns-in-Some-clause-sound c sound = LeadsTo-sound c.args.core.now c.args.steps.now c.loop-i.i c.loop-i.core c.loop-i.invariant sound

pub returns-in-Some-clause-recovers : goal.returns-in-Some-clause-recovers
returns-in-Some-clause-recovers c sound = always_recovers c.loop-i.core (LeadsTo-sound c.args.core.now c.args.steps.now c.loop-i.i c.loop-i.core c.loop-i.invariant sound)

pub returns-in-Err-clause-sound : goal.returns-in-Err-clause-sound
returns-in-Err-clause-sound c sound =
    subst (λ (core : Core). IsSound core) (sym c.in-Err.ensures.err) (LeadsTo-sound c.args.core.now c.args.steps.now c.loop-i.i c.loop-i.core c.loop-i.invariant sound)

pub returns-in-Err-clause-recovers : goal.returns-in-Err-clause-recovers
returns-in-Err-clause-recovers c sound =
    subst (λ (core : Core). AlwaysRecovers core) (sym c.in-Err.ensures.err)
    (always_recovers c.loop-i.core (LeadsTo-sound c.args.core.now c.args.steps.now c.loop-i.i c.loop-i.core c.loop-i.invariant sound))

pub returns-clause-sound : goal.returns-clause-sound
returns-clause-sound c sound = LeadsTo-sound c.args.core.now c.args.steps.now c.loop-i.i c.loop-i.core c.loop-i.invariant sound

pub returns-clause-recovers : goal.returns-clause-recovers
returns-clause-recovers c sound = always_recovers c.loop-i.core (LeadsTo-sound c.args.core.now c.args.steps.now c.loop-i.i c.loop-i.core c.loop-i.invariant sound)
