use Rattle.std.proofs.Common.{inr, List, Result, Ok, Err, IfOk, IfErr}
use Rattle.jfs_ranges.specs.declared.edit.Edit.{Edit}
use Rattle.jfs_plain.specs.declared.refusal.Refusal.{Refusal}
use Rattle.jfs_rename_steps.proofs.moving.move_over.Goals as goal

if_ok : {A B : List Edit → Type 0} (r : Result (List Edit) Refusal) → IfOk r A → ((tx : List Edit) → A tx → B tx) → IfOk r B
if_ok (Ok tx) h f = f tx h
if_ok (Err why) h f = tt

if_err : {A B : Refusal → Type 0} (r : Result (List Edit) Refusal) → IfErr r A → ((why : Refusal) → A why → B why) → IfErr r B
if_err (Ok tx) h f = tt
if_err (Err why) h f = f why h

pub returns-clause-moves : goal.returns-clause-moves
returns-clause-moves g c tells = if_ok c.leave.result (rw (c.displace.ensures.count_of_blocks, c.displace.ensures.image tells, c.lead_entry.ensures.count_of_blocks, c.lead_entry.ensures.image tells, c.free_if_gone.ensures.count_of_blocks, c.free_if_gone.ensures.image tells, c.leaving_over-leaving.ensures) at (c.leave.ensures.leaves tells))
    (λ tx leaves. record {
      freed = c.in-Ok.tx;
      target = c.in-Ok-lead_entry.target;
      led = c.lead_entry.new.tx;
      put = c.displace.new.tx;
      frees = c.in-Ok.ensures.frees tells;
      leads = rw (c.free_if_gone.ensures.count_of_blocks, c.free_if_gone.ensures.image tells) at (c.in-Ok-lead_entry.ensures.leads tells);
      puts = rw (c.lead_entry.ensures.count_of_blocks, c.lead_entry.ensures.image tells, c.free_if_gone.ensures.count_of_blocks, c.free_if_gone.ensures.image tells) at (c.in-Ok-displace.ensures.puts tells);
      lines = rw (c.lead_entry.ensures.count_of_blocks, c.lead_entry.ensures.image tells, c.free_if_gone.ensures.count_of_blocks, c.free_if_gone.ensures.image tells) at (c.in-Ok-displace.ensures.lines tells);
      leaves = leaves;
    })

pub returns-clause-refused : goal.returns-clause-refused
returns-clause-refused g c tells = if_err c.leave.result (rw (c.displace.ensures.count_of_blocks, c.displace.ensures.image tells, c.lead_entry.ensures.count_of_blocks, c.lead_entry.ensures.image tells, c.free_if_gone.ensures.count_of_blocks, c.free_if_gone.ensures.image tells, c.leaving_over-leaving.ensures) at (c.leave.ensures.stays tells))
    (λ why stays. inr (inr (
      c.in-Ok.tx,
      c.in-Ok-lead_entry.target,
      c.lead_entry.new.tx,
      c.displace.new.tx,
      c.in-Ok.ensures.frees tells,
      rw (c.free_if_gone.ensures.count_of_blocks, c.free_if_gone.ensures.image tells) at (c.in-Ok-lead_entry.ensures.leads tells),
      rw (c.lead_entry.ensures.count_of_blocks, c.lead_entry.ensures.image tells, c.free_if_gone.ensures.count_of_blocks, c.free_if_gone.ensures.image tells) at (c.in-Ok-displace.ensures.puts tells),
      rw (c.lead_entry.ensures.count_of_blocks, c.lead_entry.ensures.image tells, c.free_if_gone.ensures.count_of_blocks, c.free_if_gone.ensures.image tells) at (c.in-Ok-displace.ensures.lines tells),
      stays,
    )))
