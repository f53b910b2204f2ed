-- What a call does says how it is answered, and why it needs the log.
use Rattle.std.proofs.Common.{◌≡◌, refl, sym, ap, subst, Bool, true, false, List, inl, inr, Option, Some, None, Result, Ok, Err}
use Rattle.jfs_bits.specs.declared.descriptor.Moment.{Moment}
use Rattle.jfs_disk.specs.declared.disk.Fault.{Fault}
use Rattle.jfs_files.specs.declared.outcome.FileOutcome.{FileOutcome}
use Rattle.jfs_files.specs.declared.outcome.FileOutcome.TheVariants as files
use Rattle.jfs_files.specs.data_steps.specs.declared.pages.DataPage.{DataPage}
use Rattle.jfs_ranges.specs.declared.edit.Edit.{Edit}
use Rattle.jfs_plain.specs.Call.{is_changing}
use Rattle.jfs_plain.specs.CallStep.{is_sync}
use Rattle.jfs_plain.specs.Limits.{FitsRequest}
use Rattle.jfs_plain.specs.declared.call.Request.{Request}
use Rattle.jfs_plain.specs.declared.refusal.Refusal.TheVariants.{ReadOnly, IoFault}
use Rattle.jfs_plain.specs.declared.reply.Reply.TheVariants.{Done, Refused}
use Rattle.jfs_volume_calls.specs.halves.specs.Parts.{Parts}
use Rattle.jfs_volume_calls.specs.volume.specs.Asked.{IsAskedOf, maps_in}
use Rattle.jfs_volume_calls.specs.volume.proofs.CallJoins.{same_room}
use Rattle.jfs_call.specs.Answer.{held, IsAnswered}
use Rattle.jfs_call.specs.Changed.{IsChangedBy}
use Rattle.jfs_call.specs.Does.{IsSynced, TellsSynced, Syncs, EndsBy, ChangesWhere, AsksFile, DoesWhere, Does}
use Rattle.jfs_call.specs.Needs.{AnswersOf, NeedsFor}
use Rattle.jfs_call.specs.declared.outcome.Outcome.{Outcome}
use Rattle.jfs_call.specs.declared.outcome.Outcome.TheVariants.{NeedsLog, NoMemory}
use Rattle.jfs_call.specs.declared.reply.Caller.{Caller}
use Rattle.jfs_call.proofs.Answered.{changed, needs_log, replied, unanswered}
use Rattle.jfs_call.proofs.Asked.{asked_begun, asked_halted, eager_sync, may_change, may_fail, may_hold, may_wait, asked_size, told_same}

-- ---- how it is answered

module _ (tells crashes : Type 0) (caller : Caller) (request : Request) (now : Moment) (old mid new : Parts) (outcome : Outcome) (h : held old.halted request.call ≡ None) where
  answered_synced : (synced : Result (Unit {0}) Fault) → FitsRequest request → is_sync request.call ≡ true → IsSynced tells crashes old mid synced → TellsSynced caller request synced mid new outcome → IsAnswered caller.client caller.line request old new outcome
  answered_synced (Ok done) fits is s told = replied caller request Done true old mid new outcome (may_wait tells request old mid s.alone s.halts s.cause is (eager_sync request.call request.lazy is fits) h) told
  answered_synced (Err fault) fits is s told = replied caller request (Refused (IoFault fault)) false old mid new outcome (may_fail tells request old mid fault s.alone s.halts s.cause is h) told

  module _ (asked : IsAskedOf tells crashes old mid) where
    answered_changed : (tx : List Edit) (put : List DataPage) (changing : Bool) → is_changing request.call ≡ changing → AnswersOf tells request now old mid (files.Changed tx put) → ChangesWhere changing tells crashes caller request tx put mid new outcome
        → IsAnswered caller.client caller.line request old new outcome
    answered_changed tx put true is answers ends = changed tells crashes caller request tx put old mid new outcome (may_change tells crashes request old mid (files.Changed tx put) asked answers.kept (ap (λ (f : Fault). f.count) answers.fault) is h) ends
    answered_changed tx put false is answers (out, same) = subst (λ (o : Outcome). IsAnswered caller.client caller.line request old new o) (sym out) (subst (λ (p : Parts). IsAnswered caller.client caller.line request old p NoMemory) (sym same)
        (unanswered caller.client caller.line request old mid (asked_begun tells crashes old mid (files.Changed tx put) asked answers.kept) (ap (λ (f : Fault). f.count) answers.fault) (asked_halted tells crashes old mid asked)))

    answered_file : (answer : FileOutcome) → is_sync request.call ≡ false → AnswersOf tells request now old mid answer → EndsBy tells crashes caller request answer mid new outcome → IsAnswered caller.client caller.line request old new outcome
    answered_file (files.Changed tx put) apart answers ends = answered_changed tx put (is_changing request.call) refl answers ends
    answered_file (files.Same reply) apart answers ends = told_same tells crashes caller request reply old mid new outcome asked answers.kept answers.fault h answers.changes apart ends
    answered_file files.NeedsLog apart answers (out, same) = subst (λ (o : Outcome). IsAnswered caller.client caller.line request old new o) (sym out) (subst (λ (p : Parts). IsAnswered caller.client caller.line request old p NeedsLog) (sym same)
        (needs_log caller.client caller.line request old mid h (asked_begun tells crashes old mid files.NeedsLog asked answers.kept) (ap (λ (f : Fault). f.count) answers.fault) (asked_halted tells crashes old mid asked)))

answered_where : (tells crashes : Type 0) (caller : Caller) (request : Request) (now : Moment) (old new : Parts) (outcome : Outcome) (refused : Option Fault) (syncs : Bool) → held old.halted request.call ≡ refused → is_sync request.call ≡ syncs → FitsRequest request
    → DoesWhere refused syncs tells crashes caller request now old new outcome → IsAnswered caller.client caller.line request old new outcome
answered_where tells crashes caller request now old new outcome (Some fault) syncs h is fits d = replied caller request (Refused (ReadOnly fault)) false old old new outcome (may_hold request old fault h) d
answered_where tells crashes caller request now old new outcome None true h is fits d = answered_synced tells crashes caller request now old d.mid new outcome h d.synced fits is d.is d.told
answered_where tells crashes caller request now old new outcome None false h is fits d = answered_file tells crashes caller request now old d.mid new outcome h d.asked d.answer is d.answers d.ends

pub answered_by : (tells crashes : Type 0) (caller : Caller) (request : Request) (now : Moment) (old new : Parts) (outcome : Outcome) → FitsRequest request → Does tells crashes caller request now old new outcome → IsAnswered caller.client caller.line request old new outcome
answered_by tells crashes caller request now old new outcome fits d = answered_where tells crashes caller request now old new outcome (held old.halted request.call) (is_sync request.call) refl refl fits d

-- ---- why it needs the log

module _ (tells crashes : Type 0) (caller : Caller) (request : Request) (now : Moment) (old mid new : Parts) where
  needs_changed : (tx : List Edit) (put : List DataPage) (changing : Bool) → AnswersOf tells request now old mid (files.Changed tx put) → IsAskedOf tells crashes old mid → ChangesWhere changing tells crashes caller request tx put mid new NeedsLog → NeedsFor tells request now old
  needs_changed tx put true answers asked (back, on, lacks) = inl (record { mid = mid; tx = tx; put = put; answers = answers; full = same_room tells tx old mid (ap (λ (p : Parts). p.text) asked.parts) (asked_size (maps_in old) (maps_in mid) (files.Changed tx put) answers.kept) asked.view lacks })
  needs_changed tx put false answers asked (clash, same) = absurd (cc (clash))

  needs_file : (answer : FileOutcome) → AnswersOf tells request now old mid answer → IsAskedOf tells crashes old mid → EndsBy tells crashes caller request answer mid new NeedsLog → NeedsFor tells request now old
  needs_file (files.Changed tx put) answers asked ends = needs_changed tx put (is_changing request.call) answers asked ends
  needs_file (files.Same reply) answers asked (inl (kept, clash)) = absurd clash
  needs_file (files.Same reply) answers asked (inr (clash, same)) = absurd (cc (clash))
  needs_file files.NeedsLog answers asked ends = inr (mid, answers)

  needs_synced : (synced : Result (Unit {0}) Fault) → TellsSynced caller request synced mid new NeedsLog → NeedsFor tells request now old
  needs_synced (Ok done) clash = absurd clash
  needs_synced (Err fault) clash = absurd clash

needs_where : (tells crashes : Type 0) (caller : Caller) (request : Request) (now : Moment) (old new : Parts) (refused : Option Fault) (syncs : Bool) → DoesWhere refused syncs tells crashes caller request now old new NeedsLog → NeedsFor tells request now old
needs_where tells crashes caller request now old new (Some fault) syncs d = absurd d
needs_where tells crashes caller request now old new None true d = needs_synced tells crashes caller request now old d.mid new d.synced d.told
needs_where tells crashes caller request now old new None false d = needs_file tells crashes caller request now old d.mid new d.answer d.answers d.asked d.ends

pub needs_for : (tells crashes : Type 0) (caller : Caller) (request : Request) (now : Moment) (old new : Parts) → Does tells crashes caller request now old new NeedsLog → NeedsFor tells request now old
needs_for tells crashes caller request now old new d = needs_where tells crashes caller request now old new (held old.halted request.call) (is_sync request.call) d

-- ---- what it does, as it branches

pub does_where : (tells crashes : Type 0) (caller : Caller) (request : Request) (now : Moment) (old new : Parts) (outcome : Outcome) (refused : Option Fault) → refused ≡ held old.halted request.call → DoesWhere refused (is_sync request.call) tells crashes caller request now old new outcome
    → Does tells crashes caller request now old new outcome
does_where tells crashes caller request now old new outcome refused is d = subst (λ (r : Option Fault). DoesWhere r (is_sync request.call) tells crashes caller request now old new outcome) is d

pub does_sync : (tells crashes : Type 0) (caller : Caller) (request : Request) (now : Moment) (old new : Parts) (outcome : Outcome) → is_sync request.call ≡ true → Syncs tells crashes caller request old new outcome → DoesWhere None (is_sync request.call) tells crashes caller request now old new outcome
does_sync tells crashes caller request now old new outcome is d = subst (λ (s : Bool). DoesWhere None s tells crashes caller request now old new outcome) (sym is) d

pub does_file : (tells crashes : Type 0) (caller : Caller) (request : Request) (now : Moment) (old new : Parts) (outcome : Outcome) → is_sync request.call ≡ false → AsksFile tells crashes caller request now old new outcome → DoesWhere None (is_sync request.call) tells crashes caller request now old new outcome
does_file tells crashes caller request now old new outcome is d = subst (λ (s : Bool). DoesWhere None s tells crashes caller request now old new outcome) (sym is) d

pub ends_changed : (tells crashes : Type 0) (caller : Caller) (request : Request) (tx : List Edit) (put : List DataPage) (old new : Parts) (outcome : Outcome) → is_changing request.call ≡ true → IsChangedBy tells crashes caller request tx put old new outcome → EndsBy tells crashes caller request (files.Changed tx put) old new outcome
ends_changed tells crashes caller request tx put old new outcome is by = subst (λ (b : Bool). ChangesWhere b tells crashes caller request tx put old new outcome) (sym is) by

pub ends_unchanged : (tells crashes : Type 0) (caller : Caller) (request : Request) (tx : List Edit) (put : List DataPage) (p : Parts) → is_changing request.call ≡ false → EndsBy tells crashes caller request (files.Changed tx put) p p NoMemory
ends_unchanged tells crashes caller request tx put p is = subst (λ (b : Bool). ChangesWhere b tells crashes caller request tx put p p NoMemory) (sym is) (refl, refl)
