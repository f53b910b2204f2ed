use Rattle.std.proofs.Common.{◌∙◌, sym, ap, refl, subst, ℕ, arith}
use Rattle.jfs_files.specs.data_steps.specs.After.{LieWithin}
use Rattle.jfs_files.specs.declared.outcome.FileOutcome.TheVariants as files
use Rattle.jfs_volume_calls.specs.halves.specs.Parts.{Parts}
use Rattle.jfs_call.proofs.Asked.{asked_runs}
use Rattle.jfs_call.proofs.Doing.{ends_changed, ends_unchanged}
use Rattle.jfs_call.proofs.call.ask.Goals as goal

pub change-requires-clause-running : goal.change-requires-clause-running
change-requires-clause-running g c =
    asked_runs g.D.Disk.tells g.D.Disk.tells_crashes c.args.request.now c.args.volume.now c.ask_file.new.volume c.ask_file.ensures.asked (sym c.is_changing.ensures ∙ c.if-not-is_changing.false) c.requires.begins

pub change-requires-clause-size : goal.change-requires-clause-size
change-requires-clause-size g c = omega (arith, c.requires.size, c.ask_file.ensures.size, ap (λ (p : Parts). p.blocks) c.ask_file.ensures.asked.parts)

pub change-requires-clause-data : goal.change-requires-clause-data
change-requires-clause-data g c = subst (λ (n : ℕ). LieWithin n c.in-Changed.blocks) (sym c.ask_file.ensures.size) c.in-Changed.ensures.answers.contents.0

pub returns-then-not-is_changing : goal.returns-then-not-is_changing
returns-then-not-is_changing g c = record {
  mid = c.ask_file.new.volume;
  answer = files.Changed c.in-Changed.tx c.in-Changed.blocks;
  answers = c.in-Changed.ensures.answers;
  asked = c.ask_file.ensures.asked;
  ends = ends_unchanged g.D.Disk.tells g.D.Disk.tells_crashes c.args.caller c.args.request.now c.in-Changed.tx c.in-Changed.blocks c.ask_file.new.volume (sym c.is_changing.ensures ∙ c.if-not-is_changing.true);
}

pub returns-else-not-is_changing : goal.returns-else-not-is_changing
returns-else-not-is_changing g c = record {
  mid = c.ask_file.new.volume;
  answer = files.Changed c.in-Changed.tx c.in-Changed.blocks;
  answers = c.in-Changed.ensures.answers;
  asked = c.ask_file.ensures.asked;
  ends = ends_changed g.D.Disk.tells g.D.Disk.tells_crashes c.args.caller c.args.request.now c.in-Changed.tx c.in-Changed.blocks c.ask_file.new.volume c.change.new.volume c.change.result (sym c.is_changing.ensures ∙ c.if-not-is_changing.false) c.change.ensures;
}

pub returns-in-Same : goal.returns-in-Same
returns-in-Same g c = record {
  mid = c.ask_file.new.volume;
  answer = files.Same c.in-Same.reply;
  answers = c.in-Same.ensures.answers;
  asked = c.ask_file.ensures.asked;
  ends = c.same.ensures;
}

pub returns-in-NeedsLog : goal.returns-in-NeedsLog
returns-in-NeedsLog g c = record {
  mid = c.ask_file.new.volume;
  answer = files.NeedsLog;
  answers = c.in-NeedsLog.ensures.answers;
  asked = c.ask_file.ensures.asked;
  ends = (refl, refl);
}
