-- What a call makes of the counts and of the text that waits, whatever the disk tells.
use Rattle.std.proofs.Common.{◌≡◌, ℕ, ◌+◌, List, ◌++◌, Bool, true, false, Option, Some, None, Result, Ok, Err, refl, sym, ap, subst, ◌∙◌, inl, inr, append-nil}
use Rattle.jfs_bits.specs.declared.descriptor.Moment.{Moment}
use Rattle.jfs_disk.specs.declared.disk.Fault.{Fault}
use Rattle.jfs_plain.specs.Call.{is_changing}
use Rattle.jfs_plain.specs.CallStep.{is_sync}
use Rattle.jfs_plain.specs.declared.call.Entry.{Entry}
use Rattle.jfs_plain.specs.declared.call.Request.{Request}
use Rattle.jfs_plain.specs.declared.reply.Reply.{Reply}
use Rattle.jfs_ranges.specs.declared.edit.Edit.{Edit}
use Rattle.jfs_records.specs.Records.{Noted}
use Rattle.jfs_kept_history.specs.legal.specs.served.specs.call.specs.Answer.{held}
use Rattle.jfs_kept_history.specs.legal.specs.served.specs.call.specs.Changed.{IsChangedBy}
use Rattle.jfs_kept_history.specs.legal.specs.served.specs.call.specs.Does.{TellsSynced, ChangesWhere, EndsBy, DoesWhere, Does}
use Rattle.jfs_kept_history.specs.legal.specs.served.specs.call.specs.Noted.{noted_in, noted_where, noted_at, noted_of, noted_by}
use Rattle.jfs_kept_history.specs.legal.specs.served.specs.call.specs.Replied.{IsReplied, TellsSame}
use Rattle.jfs_kept_history.specs.legal.specs.served.specs.call.specs.declared.outcome.Outcome.{Outcome}
use Rattle.jfs_kept_history.specs.legal.specs.served.specs.call.specs.declared.outcome.Outcome.TheVariants.{Replied, NeedsLog, NoMemory}
use Rattle.jfs_kept_history.specs.legal.specs.served.specs.call.specs.declared.reply.Caller.{Caller}
use Rattle.jfs_kept_history.specs.legal.specs.served.specs.call.specs.files.specs.data_steps.specs.declared.pages.DataPage.{DataPage}
use Rattle.jfs_kept_history.specs.legal.specs.served.specs.call.specs.files.specs.declared.outcome.FileOutcome.{FileOutcome}
use Rattle.jfs_kept_history.specs.legal.specs.served.specs.call.specs.files.specs.declared.outcome.FileOutcome.TheVariants.{Changed, Same, NeedsLog as Awaits}
use Rattle.jfs_kept_history.specs.legal.specs.served.specs.call.specs.halves.specs.Parts.{Parts, Text}
use Rattle.jfs_kept_history.specs.legal.specs.served.specs.call.specs.volume.specs.Called.{JoinsNot}
use Rattle.jfs_kept_history.specs.legal.specs.served.specs.call.specs.volume.specs.Join.{with_entry}
use Rattle.jfs_shared.proofs.Text.{added, ended}

-- no entry joins, and nothing waits more
pub record Stood (old new : Parts) : Type 0 where
  pub known : new.known ≡ old.known
  pub text : new.text ≡ old.text
  pub appended : new.appended ≡ old.appended

-- an entry joins, with these records
pub record Grew (noted : Option (List Noted)) (old new : Parts) : Type 0 where
  pub known : new.known ≡ old.known
  pub bytes : new.text.bytes ≡ old.text.bytes ++ added noted (old.appended + 1) old.text
  pub ends : new.text.ends ≡ ended noted (old.appended + 1) old.text
  pub last : new.text.last ≡ old.appended + 1

-- a call that is replied has so much in the log
abbrev pub StepIs : Option (List Noted) → Parts → Parts → Outcome → Type 0
StepIs noted old new (Replied reply number waits) = Grew noted old new
StepIs noted old new NeedsLog = Stood old new
StepIs noted old new NoMemory = Stood old new

stood : (old : Parts) → Stood old old
stood old = record { known = refl; text = refl; appended = refl }

stood_on : (old mid new : Parts) → Stood old mid → Stood mid new → Stood old new
stood_on old mid new a b = record { known = b.known ∙ a.known; text = b.text ∙ a.text; appended = b.appended ∙ a.appended }

grew_on : (noted : Option (List Noted)) (old mid new : Parts) → Stood old mid → Grew noted mid new → Grew noted old new
grew_on noted old mid new a b = record {
  known = b.known ∙ a.known;
  bytes = b.bytes ∙ ap (λ (n : ℕ). mid.text.bytes ++ added noted (n + 1) mid.text) a.appended ∙ ap (λ (t : Text). t.bytes ++ added noted (old.appended + 1) t) a.text;
  ends = b.ends ∙ ap (λ (n : ℕ). ended noted (n + 1) mid.text) a.appended ∙ ap (λ (t : Text). ended noted (old.appended + 1) t) a.text;
  last = b.last ∙ ap (λ (n : ℕ). n + 1) a.appended;
}

on : (noted : Option (List Noted)) (old mid new : Parts) (outcome : Outcome) → Stood old mid → StepIs noted mid new outcome → StepIs noted old new outcome
on noted old mid new (Replied reply number waits) a b = grew_on noted old mid new a b
on noted old mid new NeedsLog a b = stood_on old mid new a b
on noted old mid new NoMemory a b = stood_on old mid new a b

-- an entry without records
alone : (entry : Entry) (old new : Parts) → new ≡ with_entry entry old → Grew None old new
alone entry old new e = record { known = ap (λ (p : Parts). p.known) e; bytes = ap (λ (p : Parts). p.text.bytes) e ∙ sym (append-nil old.text.bytes); ends = ap (λ (p : Parts). p.text.ends) e; last = ap (λ (p : Parts). p.text.last) e }

same : (old new : Parts) → new ≡ old → Stood old new
same old new e = record { known = ap (λ (p : Parts). p.known) e; text = ap (λ (p : Parts). p.text) e; appended = ap (λ (p : Parts). p.appended) e }

left_out : (old new : Parts) → JoinsNot old new → Stood old new
left_out old new j = record { known = ap (λ (p : Parts). p.known) j.parts; text = ap (λ (p : Parts). p.text) j.parts; appended = ap (λ (p : Parts). p.appended) j.parts }

no_memory : (old new : Parts) (outcome : Outcome) → outcome ≡ NoMemory → new ≡ old → StepIs None old new outcome
no_memory old new outcome none e = subst (StepIs None old new) (sym none) (same old new e)

module _ (tells crashes : Type 0) (caller : Caller) (request : Request) where
  replied : (given : Reply) (wait : Bool) (old new : Parts) (outcome : Outcome) → IsReplied caller request given wait old new outcome → StepIs None old new outcome
  replied given wait old new (Replied reply number waits) r = alone _ old new r.parts
  replied given wait old new NeedsLog r = absurd r
  replied given wait old new NoMemory r = same old new r

  synced : (result : Result (Unit {0}) Fault) (old new : Parts) (outcome : Outcome) → TellsSynced caller request result old new outcome → StepIs None old new outcome
  synced (Ok done) old new outcome r = replied _ true old new outcome r
  synced (Err fault) old new outcome r = replied _ false old new outcome r

  changed : (old new : Parts) (outcome : Outcome) (tx : List Edit) (put : List DataPage) → (c : IsChangedBy tells crashes caller request tx put old new outcome) → StepIs (noted_in tells crashes caller request tx put old new outcome c) old new outcome
  changed old new (Replied reply number waits) tx put (inl d) =
      let a = d.joins.joins.adds.parts in
      record { known = ap (λ (p : Parts). p.known) a; bytes = ap (λ (p : Parts). p.text.bytes) a; ends = ap (λ (p : Parts). p.text.ends) a; last = ap (λ (p : Parts). p.text.last) a }
  changed old new (Replied reply number waits) tx put (inr (fault, f)) = grew_on None old f.mid new (left_out old f.mid f.given_back.joins_not) (alone _ f.mid new f.parts)
  changed old new NeedsLog tx put (given, goes, lacks) = left_out old new given.joins_not
  changed old new NoMemory tx put (inl (given, goes)) = left_out old new given.joins_not
  changed old new NoMemory tx put (inr (inl e)) = same old new e
  changed old new NoMemory tx put (inr (inr f)) = left_out old new f.given_back.joins_not

  changes : (b : Bool) (old new : Parts) (outcome : Outcome) (tx : List Edit) (put : List DataPage) → (c : ChangesWhere b tells crashes caller request tx put old new outcome) → StepIs (noted_where tells crashes b caller request tx put old new outcome c) old new outcome
  changes true old new outcome tx put c = changed old new outcome tx put c
  changes false old new outcome tx put (none, e) = no_memory old new outcome none e

  unchanged : (reply : Reply) (old new : Parts) (outcome : Outcome) → TellsSame caller request reply old new outcome → StepIs None old new outcome
  unchanged reply old new outcome (inl (kept, r)) = replied reply false old new outcome r
  unchanged reply old new outcome (inr (none, e)) = no_memory old new outcome none e

  answered : (answer : FileOutcome) (old new : Parts) (outcome : Outcome) → (e : EndsBy tells crashes caller request answer old new outcome) → StepIs (noted_at tells crashes caller request answer old new outcome e) old new outcome
  answered (Changed tx put) old new outcome e = changes (is_changing request.call) old new outcome tx put e
  answered (Same reply) old new outcome e = unchanged reply old new outcome e
  answered Awaits old new outcome (needs, e) = subst (StepIs None old new) (sym needs) (same old new e)

  module _ (now : Moment) where
    by : (refused : Option Fault) (syncs : Bool) (old new : Parts) (outcome : Outcome) → (d : DoesWhere refused syncs tells crashes caller request now old new outcome) → StepIs (noted_of tells crashes refused syncs caller request now old new outcome d) old new outcome
    by (Some fault) syncs old new outcome d = replied _ false old new outcome d
    by None true old new outcome d =
        on None old d.mid new outcome (let e = d.is.alone.parts in record { known = ap (λ (p : Parts). p.known) e; text = ap (λ (p : Parts). p.text) e; appended = ap (λ (p : Parts). p.appended) e })
        (synced d.synced d.mid new outcome d.told)
    by None false old new outcome d =
        on (noted_at tells crashes caller request d.answer d.mid new outcome d.ends) old d.mid new outcome (let e = d.asked.parts in record { known = ap (λ (p : Parts). p.known) e; text = ap (λ (p : Parts). p.text) e; appended = ap (λ (p : Parts). p.appended) e })
        (answered d.answer d.mid new outcome d.ends)

    pub stepped : (old new : Parts) (outcome : Outcome) → (d : Does tells crashes caller request now old new outcome) → StepIs (noted_by tells crashes caller request now old new outcome d) old new outcome
    stepped old new outcome d = by (held old.halted request.call) (is_sync request.call) old new outcome d
