-- How an entry with a transaction joins, as its call is answered.
use Rattle.std.proofs.Common.{◌≡◌, refl, sym, subst, ℕ, false, not, List, inl, inr}
use Rattle.jfs_disk.specs.declared.disk.Fault.{Fault}
use Rattle.jfs_ranges.specs.declared.edit.Edit.{Edit}
use Rattle.jfs_files.specs.data_steps.specs.declared.pages.DataPage.{DataPage}
use Rattle.jfs_plain.specs.declared.call.Call.{Call}
use Rattle.jfs_plain.specs.declared.call.Request.{Request}
use Rattle.jfs_plain.specs.declared.refusal.Refusal.TheVariants.{IoFault}
use Rattle.jfs_plain.specs.declared.reply.Reply.TheVariants.{Done, Refused}
use Rattle.jfs_volume_calls.specs.halves.specs.Parts.{Parts}
use Rattle.jfs_volume_calls.specs.volume.specs.Called.{CallIs, GivesBack, FailsBy}
use Rattle.jfs_volume_calls.specs.volume.specs.declared.calling.Called.{Called}
use Rattle.jfs_volume_calls.specs.volume.specs.declared.calling.Called.TheVariants as calling
use Rattle.jfs_call.specs.Changed.{EntersAs, IsChangedBy}
use Rattle.jfs_call.specs.Replied.{IsReplied}
use Rattle.jfs_call.specs.declared.outcome.Outcome.{Outcome}
use Rattle.jfs_call.specs.declared.outcome.Outcome.TheVariants.{Replied, NeedsLog, NoMemory}
use Rattle.jfs_call.specs.declared.reply.Caller.{Caller}

-- the entry has a copy of the call
pub with_copy : (tells crashes : Type 0) (caller : Caller) (request : Request) (tx : List Edit) (put : List DataPage) (old new : Parts) (called : Called) (copy : Call) → copy ≡ request.call
    → CallIs tells crashes (record { client = caller.client; line = caller.line; call = copy; lazy = request.lazy; reply = Done }) tx put old new called → EntersAs tells crashes caller request tx put old new called
with_copy tells crashes caller request tx put old new called copy same is =
    inl (subst (λ (call : Call). CallIs tells crashes (record { client = caller.client; line = caller.line; call = call; lazy = request.lazy; reply = Done }) tx put old new called) same is)

pub is_done : (tells crashes : Type 0) (caller : Caller) (request : Request) (tx : List Edit) (put : List DataPage) (old new : Parts) (number : ℕ) → EntersAs tells crashes caller request tx put old new (calling.Entered number) → IsChangedBy tells crashes caller request tx put old new (Replied Done number (not request.lazy))
is_done tells crashes caller request tx put old new number (inl joins) = inl (record { reply_is = refl; waits_is = refl; joins = joins })
is_done tells crashes caller request tx put old new number (inr (clash, same)) = absurd (cc (clash))

pub is_crowded : (tells crashes : Type 0) (caller : Caller) (request : Request) (tx : List Edit) (put : List DataPage) (old new : Parts) → EntersAs tells crashes caller request tx put old new calling.NoRoom → IsChangedBy tells crashes caller request tx put old new NeedsLog
is_crowded tells crashes caller request tx put old new (inl out) = out
is_crowded tells crashes caller request tx put old new (inr (clash, same)) = absurd (cc (clash))

pub is_out : (tells crashes : Type 0) (caller : Caller) (request : Request) (tx : List Edit) (put : List DataPage) (old new : Parts) → EntersAs tells crashes caller request tx put old new calling.NoMemory → IsChangedBy tells crashes caller request tx put old new NoMemory
is_out tells crashes caller request tx put old new (inl out) = inl out
is_out tells crashes caller request tx put old new (inr (is, same)) = inr (inl same)

pub is_unfit : (tells crashes : Type 0) (caller : Caller) (request : Request) (tx : List Edit) (put : List DataPage) (old new : Parts) → EntersAs tells crashes caller request tx put old new calling.Unfit → IsChangedBy tells crashes caller request tx put old new NoMemory
is_unfit tells crashes caller request tx put old new (inl out) = inl (out.0, out.1)
is_unfit tells crashes caller request tx put old new (inr (clash, same)) = absurd (cc (clash))

-- it failed, and then it is refused for that
pub is_failed : (tells crashes : Type 0) (caller : Caller) (request : Request) (tx : List Edit) (put : List DataPage) (old mid new : Parts) (fault : Fault) (outcome : Outcome) → EntersAs tells crashes caller request tx put old mid (calling.Failed fault) → IsReplied caller request (Refused (IoFault fault)) false mid new outcome
    → IsChangedBy tells crashes caller request tx put old new outcome
is_failed tells crashes caller request tx put old mid new fault outcome (inr (clash, same)) r = absurd (cc (clash))
is_failed tells crashes caller request tx put old mid new fault (Replied reply number waits) (inl (back, fails)) r =
    inr (fault, record { mid = mid; given_back = back; fails = fails; reply_is = r.reply_is; number_is = r.number_is; waits_not = r.waits_is; parts = r.parts })
is_failed tells crashes caller request tx put old mid new fault NeedsLog (inl out) r = absurd r
is_failed tells crashes caller request tx put old mid new fault NoMemory (inl (back, fails)) r =
    inr (inr (record { fault = fault; given_back = subst (λ (p : Parts). GivesBack tx old p) (sym r) back; fails = subst (λ (p : Parts). FailsBy tells crashes tx put fault old p) (sym r) fails }))
