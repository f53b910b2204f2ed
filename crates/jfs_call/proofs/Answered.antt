-- From replies and entries that join to how a call is answered.
use Rattle.std.proofs.Common.{◌≡◌, ◌⊎◌, ◌++◌, ◌∷◌, ◌+◌, [], refl, sym, ap, ap₂, ◌∙◌, subst, ℕ, Bool, true, false, not, List, length, inl, inr, Option, None, if◌then◌else◌}
use Rattle.jfs_bits.specs.Count.{Rose}
use Rattle.jfs_disk.specs.declared.disk.Fault.{Fault}
use Rattle.jfs_ranges.specs.declared.edit.Edit.{Edit}
use Rattle.jfs_files.specs.bmap.specs.States.{BlockState}
use Rattle.jfs_files.specs.bmap.proofs.Views.{length-each_below}
use Rattle.jfs_files.specs.data_steps.specs.declared.pages.DataPage.{DataPage}
use Rattle.jfs_volume_calls.specs.pages.specs.Device.{IsFault}
use Rattle.jfs_plain.specs.CallStep.{writes}
use Rattle.jfs_plain.specs.declared.call.Entry.{Entry}
use Rattle.jfs_plain.specs.declared.call.Request.{Request}
use Rattle.jfs_plain.specs.declared.refusal.Refusal.{Refusal}
use Rattle.jfs_plain.specs.declared.refusal.Refusal.TheVariants as refusals
use Rattle.jfs_plain.specs.declared.reply.Reply.{Reply}
use Rattle.jfs_plain.specs.declared.reply.Reply.TheVariants as replies
use Rattle.jfs_volume_calls.specs.halves.specs.Parts.{Parts}
use Rattle.jfs_volume_calls.specs.volume.specs.Called.{JoinsWith, JoinsNot, GivesBack, MayGiveBack, StopsReading, StopsPutting, FailsBy}
use Rattle.jfs_volume_calls.specs.volume.specs.Join.{entry_with, with_entry}
use Rattle.jfs_call.specs.Answer.{JoinsNone, RepliedBy, held, IsHeld, KeepsHalted, WaitsIf, Keeps, IsAnswered}
use Rattle.jfs_call.specs.Replied.{IsReplied}
use Rattle.jfs_call.specs.Changed.{IsFailedBy, FailsUnsaid, IsChangedBy}
use Rattle.jfs_call.specs.declared.outcome.Outcome.{Outcome}
use Rattle.jfs_call.specs.declared.outcome.Outcome.TheVariants.{Replied, NeedsLog, NoMemory}
use Rattle.jfs_call.specs.declared.reply.Caller.{Caller}

-- ---- what stays

keeps_all : (p : Parts) → Keeps p p
keeps_all p = record { blocks = refl; size = refl; limit = refl; count = refl; room = refl; taken = refl; told = refl; points = refl; ring = refl; place = refl }

keeps_then : {old mid new : Parts} → Keeps old mid → Keeps mid new → Keeps old new
keeps_then a b = record {
  blocks = b.blocks ∙ a.blocks;
  size = b.size ∙ a.size;
  limit = b.limit ∙ a.limit;
  count = b.count ∙ a.count;
  room = b.room ∙ a.room;
  taken = b.taken ∙ a.taken;
  told = b.told ∙ a.told;
  points = b.points ∙ a.points;
  ring = b.ring ∙ a.ring;
  place = b.place ∙ a.place;
}

-- no entry joined yet
pub record IsBegun (old mid : Parts) : Type 0 where
  pub keeps : Keeps old mid
  pub none : JoinsNone old mid
  pub text : mid.text.bytes ≡ old.text.bytes

pub begun : (p : Parts) → IsBegun p p
begun p = record { keeps = keeps_all p; none = record { entries = refl; appended = refl }; text = refl }

begun_then : {old mid new : Parts} → IsBegun old mid → IsBegun mid new → IsBegun old new
begun_then a b = record { keeps = keeps_then a.keeps b.keeps; none = record { entries = b.none.entries ∙ a.none.entries; appended = b.none.appended ∙ a.none.appended }; text = b.text ∙ a.text }

with_keeps : (entry : Entry) (p : Parts) → Keeps p (with_entry entry p)
with_keeps entry p = record { blocks = refl; size = refl; limit = refl; count = refl; room = refl; taken = refl; told = refl; points = refl; ring = refl; place = refl }

-- ---- a reply

pub rises : (before now : ℕ) (reply : Reply) → RepliedBy before now reply → (now ≡ before) ⊎ Rose before now
rises before now (replies.Refused (refusals.IoFault fault)) h = inr h.rose
rises before now (replies.Refused _) h = inl h
rises before now _ h = inl h

-- where the reply is given to the volume as it is then
pub record MayReply (request : Request) (given : Reply) (wait : Bool) (old mid : Parts) : Type 0 where
  pub begun_is : IsBegun old mid
  pub cause : RepliedBy old.faults mid.faults given
  pub held_is : IsHeld (held old.halted request.call) given
  pub halted : KeepsHalted old.faults mid.faults old.halted mid.halted
  pub waits : (entry : Entry) → WaitsIf wait request given old (with_entry entry mid)

held_by : (kept : Option Fault) (given reply : Reply) → reply ≡ given → IsHeld kept given → IsHeld kept reply
held_by kept given reply e h = subst (λ (r : Reply). IsHeld kept r) (sym e) h

pub replied : (caller : Caller) (request : Request) (given : Reply) (wait : Bool) (old mid new : Parts) (outcome : Outcome) → MayReply request given wait old mid → IsReplied caller request given wait mid new outcome
    → IsAnswered caller.client caller.line request old new outcome
replied caller request given wait old mid new (Replied reply number waits) m r = let e = entry_with caller.client caller.line request given in record {
  entry = record {
    entries = ap (λ (p : Parts). p.entries) r.parts ∙ ap₂ (λ (es : List Entry) (g : Reply). es ++ entry_with caller.client caller.line request g ∷ []) m.begun_is.none.entries (sym r.reply_is);
    appended = ap (λ (p : Parts). p.appended) r.parts ∙ ap (λ (n : ℕ). n + 1) m.begun_is.none.appended;
    number_is = r.number_is;
  };
  cause = subst (λ (k : ℕ). RepliedBy old.faults k reply) (sym (ap (λ (p : Parts). p.faults) r.parts)) (subst (λ (g : Reply). RepliedBy old.faults mid.faults g) (sym r.reply_is) m.cause);
  held_is = held_by (held old.halted request.call) given reply r.reply_is m.held_is;
  halted = subst (λ (p : Parts). KeepsHalted old.faults p.faults old.halted p.halted) (sym r.parts) m.halted;
  waits = subst (λ (p : Parts). WaitsIf waits request reply old p) (sym r.parts) (subst (λ (w : Bool). WaitsIf w request reply old (with_entry e mid)) (sym r.waits_is) (subst (λ (g : Reply). WaitsIf wait request g old (with_entry e mid)) (sym r.reply_is) (m.waits e)));
  keeps = subst (λ (p : Parts). Keeps old p) (sym r.parts) (keeps_then m.begun_is.keeps (with_keeps e mid));
}
replied caller request given wait old mid new NeedsLog m r = absurd r
replied caller request given wait old mid new NoMemory m r = subst (λ (p : Parts). IsAnswered caller.client caller.line request old p NoMemory) (sym r) (record {
  entry = m.begun_is.none;
  cause = rises old.faults mid.faults given m.cause;
  held_is = tt;
  halted = m.halted;
  waits = tt;
  keeps = m.begun_is.keeps;
})

-- ---- no reply

pub unreplied : (client line : ℕ) (request : Request) (old new : Parts) → IsBegun old new → (new.faults ≡ old.faults) ⊎ Rose old.faults new.faults → new.halted ≡ old.halted → IsAnswered client line request old new NoMemory
unreplied client line request old new b f h = record { entry = b.none; cause = f; held_is = tt; halted = inl h; waits = tt; keeps = b.keeps }

pub unanswered : (client line : ℕ) (request : Request) (old new : Parts) → IsBegun old new → new.faults ≡ old.faults → new.halted ≡ old.halted → IsAnswered client line request old new NoMemory
unanswered client line request old new b f h = unreplied client line request old new b (inl f) h

pub needs_log : (client line : ℕ) (request : Request) (old new : Parts) → held old.halted request.call ≡ None → IsBegun old new → new.faults ≡ old.faults → new.halted ≡ old.halted → IsAnswered client line request old new NeedsLog
needs_log client line request old new none b f h = record { entry = b.none; cause = f; held_is = none; halted = (h, b.text); waits = tt; keeps = b.keeps }

-- ---- a transaction

pub running : (halted : Option Fault) (request : Request) → writes request.call ≡ true → held halted request.call ≡ None → halted ≡ None
running halted request w h = sym (ap (λ (b : Bool). if b then halted else None) w) ∙ h

-- the call may change something, and the volume runs
pub record MayChange (request : Request) (old mid : Parts) : Type 0 where
  pub begun_is : IsBegun old mid
  pub faults : mid.faults ≡ old.faults
  pub halted : mid.halted ≡ old.halted
  pub writes_it : writes request.call ≡ true
  pub begins : held old.halted request.call ≡ None

module _ (tells crashes : Type 0) (caller : Caller) (request : Request) (tx : List Edit) (data_put : List DataPage) (old mid new : Parts) (m : MayChange request old mid) where
  runs : mid.halted ≡ None
  runs = m.halted ∙ running old.halted request m.writes_it m.begins

  module _ (number : ℕ) (j : JoinsWith tells (entry_with caller.client caller.line request replies.Done) tx data_put number mid new) where
    entered_keeps : Keeps mid new
    entered_keeps = record {
      blocks = ap (λ (p : Parts). p.blocks) j.adds.parts;
      size = ap (λ (xs : List BlockState). length xs) j.adds.map.states ∙ length-each_below _ _ ∙ length-each_below _ _;
      limit = ap (λ (p : Parts). p.limit) j.adds.parts;
      count = ap (λ (p : Parts). p.count) j.adds.parts;
      room = ap (λ (p : Parts). p.room) j.adds.parts;
      taken = ap (λ (p : Parts). p.taken) j.adds.parts;
      told = ap (λ (p : Parts). p.told) j.adds.parts;
      points = ap (λ (p : Parts). p.points) j.adds.parts;
      ring = ap (λ (p : Parts). p.text.ring) j.adds.parts;
      place = ap (λ (p : Parts). p.text.place) j.adds.parts;
    }

    entered_waits : (lazy : Bool) → request.lazy ≡ lazy → WaitsIf (not lazy) request replies.Done old new
    entered_waits true l = λ done eager. absurd (cc (l, eager))
    entered_waits false l = record { reply_is = refl; writes_it = m.writes_it; eager = l; runs = ap (λ (p : Parts). p.halted) j.adds.parts ∙ runs }

    entered : IsAnswered caller.client caller.line request old new (Replied replies.Done number (not request.lazy))
    entered = record {
      entry = record {
        entries = ap (λ (p : Parts). p.entries) j.adds.parts ∙ ap (λ (es : List Entry). es ++ entry_with caller.client caller.line request replies.Done ∷ []) m.begun_is.none.entries;
        appended = ap (λ (p : Parts). p.appended) j.adds.parts ∙ ap (λ (n : ℕ). n + 1) m.begun_is.none.appended;
        number_is = j.number_is;
      };
      cause = j.faults ∙ m.faults;
      held_is = subst (λ (k : Option Fault). IsHeld k replies.Done) (sym m.begins) refl;
      halted = inl (ap (λ (p : Parts). p.halted) j.adds.parts ∙ m.halted);
      waits = entered_waits request.lazy refl;
      keeps = keeps_then m.begun_is.keeps entered_keeps;
    }

  not_joined : JoinsNot mid new → length new.map.states ≡ length mid.map.states → IsBegun mid new
  not_joined j size = record {
    keeps = record {
      blocks = ap (λ (p : Parts). p.blocks) j.parts;
      size = size;
      limit = ap (λ (p : Parts). p.limit) j.parts;
      count = ap (λ (p : Parts). p.count) j.parts;
      room = ap (λ (p : Parts). p.room) j.parts;
      taken = ap (λ (p : Parts). p.taken) j.parts;
      told = ap (λ (p : Parts). p.told) j.parts;
      points = ap (λ (p : Parts). p.points) j.parts;
      ring = ap (λ (p : Parts). p.text.ring) j.parts;
      place = ap (λ (p : Parts). p.text.place) j.parts;
    };
    none = record { entries = ap (λ (p : Parts). p.entries) j.parts; appended = ap (λ (p : Parts). p.appended) j.parts };
    text = ap (λ (p : Parts). p.text.bytes) j.parts;
  }

  given_back_size : GivesBack tx mid new → length new.map.states ≡ length mid.map.states
  given_back_size g = ap (λ (xs : List BlockState). length xs) g.map.states ∙ length-each_below _ _

  given_back : GivesBack tx mid new → IsBegun mid new
  given_back g = not_joined g.joins_not (given_back_size g)

  may_give_back : MayGiveBack tx mid new → IsBegun mid new
  may_give_back g = not_joined g.joins_not (elim g.map [
    | inl s ↦ ap (λ (xs : List BlockState). length xs) s.1.states ∙ length-each_below _ _
    | inr s ↦ ap (λ (xs : List BlockState). length xs) s.states
  ])

  halted_after : (fault : Fault) → FailsBy tells crashes tx data_put fault mid new → KeepsHalted old.faults new.faults old.halted new.halted
  halted_after fault f = by f.fails
    where
      by : StopsReading tells crashes mid new ⊎ StopsPutting tells crashes tx data_put fault mid new → KeepsHalted old.faults new.faults old.halted new.halted
      by (inl reads) = inl (reads.halted ∙ m.halted)
      by (inr puts) = inr (fault, subst (λ (n : ℕ). IsFault n new.faults fault) m.faults f.is_fault, running old.halted request m.writes_it m.begins, puts.halted)

-- it failed, and is refused for that
refused_for : (fault : Fault) (kept : Option Fault) → kept ≡ None → IsHeld kept (replies.Refused (refusals.IoFault fault))
refused_for fault kept none = subst (λ (k : Option Fault). IsHeld k (replies.Refused (refusals.IoFault fault))) (sym none) refl

not_done : (why : Refusal) (request : Request) (old new : Parts) → WaitsIf false request (replies.Refused why) old new
not_done why request old new done eager = absurd (cc (done))

failed : (tells crashes : Type 0) (caller : Caller) (request : Request) (tx : List Edit) (put : List DataPage) (old start new : Parts) (fault : Fault) (reply : Reply) (number : ℕ) (waits : Bool) → MayChange request old start → IsFailedBy tells crashes caller request tx put fault start new reply number waits
    → IsAnswered caller.client caller.line request old new (Replied reply number waits)
failed tells crashes caller request tx put old start new fault reply number waits m f =
    replied caller request (replies.Refused (refusals.IoFault fault)) false old f.mid new (Replied reply number waits)
    (record {
      begun_is = begun_then m.begun_is (given_back tells crashes caller request tx put old start f.mid m f.given_back);
      cause = subst (λ (n : ℕ). IsFault n f.mid.faults fault) m.faults f.fails.is_fault;
      held_is = refused_for fault (held old.halted request.call) m.begins;
      halted = halted_after tells crashes caller request tx put old start f.mid m fault f.fails;
      waits = λ entry. not_done (refusals.IoFault fault) request old (with_entry entry f.mid);
    })
    (record { reply_is = f.reply_is; waits_is = f.waits_not; number_is = f.number_is; parts = f.parts })

unsaid : (tells crashes : Type 0) (caller : Caller) (request : Request) (tx : List Edit) (put : List DataPage) (old mid new : Parts) → MayChange request old mid → FailsUnsaid tells crashes tx put mid new → IsAnswered caller.client caller.line request old new NoMemory
unsaid tells crashes caller request tx put old mid new m f = record {
  entry = (begun_then m.begun_is (given_back tells crashes caller request tx put old mid new m f.given_back)).none;
  cause = inr (subst (λ (n : ℕ). Rose n new.faults) m.faults f.fails.is_fault.rose);
  held_is = tt;
  halted = halted_after tells crashes caller request tx put old mid new m f.fault f.fails;
  waits = tt;
  keeps = (begun_then m.begun_is (given_back tells crashes caller request tx put old mid new m f.given_back)).keeps;
}

done_as : (caller : Caller) (request : Request) (old new : Parts) (reply : Reply) (number : ℕ) (waits : Bool) → reply ≡ replies.Done → waits ≡ not request.lazy → IsAnswered caller.client caller.line request old new (Replied replies.Done number (not request.lazy))
    → IsAnswered caller.client caller.line request old new (Replied reply number waits)
done_as caller request old new reply number waits r w a =
    subst (λ (x : Reply). IsAnswered caller.client caller.line request old new (Replied x number waits)) (sym r) (subst (λ (x : Bool). IsAnswered caller.client caller.line request old new (Replied replies.Done number x)) (sym w) a)

pub changed : (tells crashes : Type 0) (caller : Caller) (request : Request) (tx : List Edit) (data_put : List DataPage) (old mid new : Parts) (outcome : Outcome) → MayChange request old mid → IsChangedBy tells crashes caller request tx data_put mid new outcome
    → IsAnswered caller.client caller.line request old new outcome
changed tells crashes caller request tx data_put old mid new (Replied reply number waits) m (inl d) =
    done_as caller request old new reply number waits d.reply_is d.waits_is (entered tells crashes caller request tx data_put old mid new m number d.joins.joins)
changed tells crashes caller request tx data_put old mid new (Replied reply number waits) m (inr (fault, f)) = failed tells crashes caller request tx data_put old mid new fault reply number waits m f
changed tells crashes caller request tx data_put old mid new NeedsLog m (g, on, full) =
    needs_log caller.client caller.line request old new m.begins (begun_then m.begun_is (given_back tells crashes caller request tx data_put old mid new m g)) (on.faults ∙ m.faults) (on.halted ∙ m.halted)
changed tells crashes caller request tx data_put old mid new NoMemory m (inl (g, on)) =
    unanswered caller.client caller.line request old new (begun_then m.begun_is (may_give_back tells crashes caller request tx data_put old mid new m g)) (on.faults ∙ m.faults) (on.halted ∙ m.halted)
changed tells crashes caller request tx data_put old mid new NoMemory m (inr (inl same)) =
    unanswered caller.client caller.line request old new (subst (λ (p : Parts). IsBegun old p) (sym same) m.begun_is) (ap (λ (p : Parts). p.faults) same ∙ m.faults) (ap (λ (p : Parts). p.halted) same ∙ m.halted)
changed tells crashes caller request tx data_put old mid new NoMemory m (inr (inr f)) = unsaid tells crashes caller request tx data_put old mid new m f
