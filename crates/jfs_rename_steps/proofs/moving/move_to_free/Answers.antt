use Rattle.std.proofs.Common.{inl, inr, subst, List, Result, Ok, Err, IfErr}
use Rattle.jfs_disk.specs.Image.{page_of}
use Rattle.jfs_ranges.specs.declared.edit.Edit.{Edit}
use Rattle.jfs_plain.specs.declared.refusal.Refusal.{Refusal}
use Rattle.jfs_loss.specs.steps.specs.Gains.{GainRefused}
use Rattle.jfs_loss.specs.steps.specs.declared.gain.Gain.{Gain}
use Rattle.jfs_rename_steps.proofs.moving.move_to_free.Goals as goal

if_err : {A B : Refusal → Type 0} (r : Result (List Edit) Refusal) → IfErr r A → ((why : Refusal) → A why → B why) → IfErr r B
if_err (Ok tx) h f = tt
if_err (Err why) h f = f why h

pub returns-in-Err-clause-refused : goal.returns-in-Err-clause-refused
returns-in-Err-clause-refused g c tells =
    inl (subst (λ (gain : Gain). GainRefused (g.V.PageView.block_count c.args.view.now) (page_of (g.V.PageView.image c.args.view.now)) c.args.moving.now.target c.args.new.now gain c.args.fresh.now c.in-Err.e)
    c.gain_of-gain.ensures (c.in-Err.ensures.refused tells))

pub returns-clause-refused : goal.returns-clause-refused
returns-clause-refused g c tells = if_err c.leave.result (rw (c.gain_entry.ensures.count_of_blocks, c.gain_entry.ensures.image tells, c.leaving_free-leaving.ensures) at (c.leave.ensures.stays tells))
    (λ why stays. inr (c.in-Ok.after, c.gain_entry.new.fresh, rw c.gain_of-gain.ensures at (c.in-Ok.ensures.gains tells), stays))
