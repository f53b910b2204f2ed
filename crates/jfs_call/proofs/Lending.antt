-- A call that is lent the log.
use Rattle.std.proofs.Common.{◌≡◌, ◌≤◌, ◌⊎◌, ◌++◌, ◌∷◌, ◌+◌, arith, [], refl, sym, ap, ap₂, ◌∙◌, subst, ℕ, Bool, true, false, if◌then◌else◌, List, length, inl, inr, Option, Some, None}
use Rattle.jfs_bits.specs.Count.{Rose}
use Rattle.jfs_disk.specs.declared.disk.Fault.{Fault}
use Rattle.jfs_disk.specs.declared.disk.Part.TheVariants.{Low, High}
use Rattle.jfs_logpages.specs.declared.fault.LogFault.{LogFault}
use Rattle.jfs_files.specs.bmap.specs.States.{Blocks}
use Rattle.jfs_files.specs.bmap.proofs.Views.{length-each_below}
use Rattle.jfs_volume_calls.specs.crash_core.specs.Step.{halted_by}
use Rattle.jfs_volume_calls.specs.pages.specs.Device.{IsFault}
use Rattle.jfs_plain.specs.CallStep.{writes}
use Rattle.jfs_plain.specs.declared.call.Entry.{Entry}
use Rattle.jfs_plain.specs.declared.call.Request.{Request}
use Rattle.jfs_plain.specs.declared.refusal.Refusal.TheVariants as refusals
use Rattle.jfs_plain.specs.declared.reply.Reply.{Reply}
use Rattle.jfs_plain.specs.declared.reply.Reply.TheVariants as replies
use Rattle.jfs_volume_calls.specs.halves.specs.Parts.{Parts}
use Rattle.jfs_volume_calls.specs.halves.specs.Log.{LogParts}
use Rattle.jfs_volume_calls.specs.volume.specs.Settles.{Settles, KeepsMap, SettlesTo}
use Rattle.jfs_volume_calls.specs.volume.specs.Join.{entry_with, with_entry}
use Rattle.jfs_volume_calls.specs.Together.{AreTogether}
use Rattle.jfs_volume_calls.specs.Syncpoint.{IsFaultOfEither}
use Rattle.jfs_call.specs.Answer.{JoinsNone, HasEntry, RepliedBy, held, IsHeld, TellsHeld, KeepsHalted, WaitsIf, Keeps, IsAnswered}
use Rattle.jfs_call.specs.Replied.{IsReplied}
use Rattle.jfs_call.specs.Lent.{AreBoth, Counts, IsFaultIn, RepliedIn, HasCauseIn, KeepsHaltedIn, WaitsIfIn, WaitsIn, KeepsSize, IsAnsweredLent}
use Rattle.jfs_call.specs.declared.outcome.Outcome.{Outcome}
use Rattle.jfs_call.specs.declared.outcome.Outcome.TheVariants.{Replied, NeedsLog, NoMemory}
use Rattle.jfs_call.specs.declared.reply.Caller.{Caller}

-- ---- what is so before the call is asked

-- the volume goes on, and no entry joined
pub record IsReady (old mid : Parts) : Type 0 where
  pub none : JoinsNone old mid
  pub size : KeepsSize old mid
  pub halted : mid.halted ≡ old.halted
  pub text : (mid.text.bytes ≡ old.text.bytes) ⊎ (mid.text.bytes ≡ [])

size_settled : (old mid : Parts) → KeepsMap old mid ⊎ ((n : ℕ) × SettlesTo n old mid) → length mid.map.states ≡ length old.map.states
size_settled old mid (inl same) = ap (λ (m : Blocks). length m.states) same.map
size_settled old mid (inr (n, settled)) = ap (λ (m : Blocks). length m.states) settled.map ∙ length-each_below _ _

pub settled_size : (old mid : Parts) → Settles old mid → KeepsSize old mid
settled_size old mid s = record { blocks = s.blocks; size = size_settled old mid s.map; limit = s.limit; count = s.count; room = s.room }

pub ready_first : (p : Parts) → IsReady p p
ready_first p = record { none = record { entries = refl; appended = refl }; size = record { blocks = refl; size = refl; limit = refl; count = refl; room = refl }; halted = refl; text = inl refl }

pub ready_settled : (old mid : Parts) → Settles old mid → mid.halted ≡ old.halted → mid.text.bytes ≡ [] → IsReady old mid
ready_settled old mid s h e = record { none = record { entries = s.entries; appended = s.appended }; size = settled_size old mid s; halted = h; text = inr e }

size_then : {old mid new : Parts} → KeepsSize old mid → KeepsSize mid new → KeepsSize old new
size_then a b = record { blocks = b.blocks ∙ a.blocks; size = b.size ∙ a.size; limit = b.limit ∙ a.limit; count = b.count ∙ a.count; room = b.room ∙ a.room }

keeps_size : {old new : Parts} → Keeps old new → KeepsSize old new
keeps_size k = record { blocks = k.blocks; size = k.size; limit = k.limit; count = k.count; room = k.room }

-- ---- the volume and its log

still_none : (before now : ℕ) (old new : Option Fault) → KeepsHalted before now old new → new ≡ None → old ≡ None
still_none before now old new (inl same) none = sym same ∙ none
still_none before now old new (inr (fault, is, was, now_is)) none = was

pub both_after : (old new : Parts) (l : LogParts) → AreBoth old l → Keeps old new → KeepsHalted old.faults new.faults old.halted new.halted → AreBoth new l
both_after old new l both k h none = let t = both (still_none old.faults new.faults old.halted new.halted h none) in
    record { ring = t.ring ∙ sym k.ring; place = t.place ∙ sym k.place; durable = t.durable ∙ sym k.taken; running = t.running }

-- ---- causes

low_fault : (c : Counts) (fault : Fault) → c.high_now ≡ c.high → IsFault c.low c.low_now fault → IsFaultIn c fault
low_fault c fault same f = inl (f.rose, f.is, same)

replied_in : (c : Counts) (reply : Reply) → c.high_now ≡ c.high → RepliedBy c.low c.low_now reply → RepliedIn c reply
replied_in c (replies.Refused (refusals.IoFault fault)) same h = low_fault c fault same h
replied_in c (replies.Refused _) same h = (h, same)
replied_in c _ same h = (h, same)

lent_halted : (c : Counts) (old new : Option Fault) → c.high_now ≡ c.high → KeepsHalted c.low c.low_now old new → KeepsHaltedIn c old new
lent_halted c old new same (inl stays) = inl stays
lent_halted c old new same (inr (fault, is, was, now_is)) = inr (fault, low_fault c fault same is, was, now_is)

lent_waits : (wait : Bool) (request : Request) (reply : Reply) (old mid new : Parts) → IsReady old mid → WaitsIf wait request reply mid new → WaitsIfIn wait request reply old new
lent_waits true request reply old mid new r w = w
lent_waits false request reply old mid new r w = λ done eager. let left = w done eager in record {
  text = elim r.text [
    | inl same ↦ inl (left.leaves.text ∙ same)
    | inr none ↦ inr (left.leaves.text ∙ none)
  ];
  renames_it = left.renames_it;
}

-- ---- a call that is answered after this

pub lent : (client line : ℕ) (request : Request) (old mid new : Parts) (l : LogParts) (c : Counts) (reply : Reply) (number : ℕ) (waits : Bool) → IsReady old mid → AreBoth mid l → c.low ≡ mid.faults → c.low_now ≡ new.faults → c.high_now ≡ c.high
    → IsAnswered client line request mid new (Replied reply number waits) → IsAnsweredLent client line request old new l c (Replied reply number waits)
lent client line request old mid new l c reply number waits r both low now high a = record {
  entry = record {
    entries = a.entry.entries ∙ ap (λ (es : List Entry). es ++ entry_with client line request reply ∷ []) r.none.entries;
    appended = a.entry.appended ∙ ap (λ (n : ℕ). n + 1) r.none.appended;
    number_is = a.entry.number_is;
  };
  cause = replied_in c reply high (subst (λ (n : ℕ). RepliedBy n c.low_now reply) (sym low) (subst (λ (n : ℕ). RepliedBy mid.faults n reply) (sym now) a.cause));
  held_is = subst (λ (h : Option Fault). IsHeld (held h request.call) reply) r.halted a.held_is;
  waits = lent_waits waits request reply old mid new r a.waits;
  halted = lent_halted c old.halted new.halted high (subst (λ (h : Option Fault). KeepsHalted c.low c.low_now h new.halted) r.halted (subst (λ (n : ℕ). KeepsHalted n c.low_now mid.halted new.halted) (sym low) (subst (λ (n : ℕ). KeepsHalted mid.faults n mid.halted new.halted) (sym now) a.halted)));
  keeps = size_then r.size (keeps_size a.keeps);
  both = both_after mid new l both a.keeps a.halted;
}

no_memory_in : (c : Counts) → c.high_now ≡ c.high → (c.low_now ≡ c.low) ⊎ Rose c.low c.low_now → HasCauseIn c NoMemory
no_memory_in c same (inl stays) = inl (stays, same)
no_memory_in c same (inr rose) = inr (record { part = Low; count = c.low_now }, inl (rose, refl, same))

pub lent_none : (client line : ℕ) (request : Request) (old mid new : Parts) (l : LogParts) (c : Counts) (outcome : Outcome) → IsReady old mid → AreBoth mid l → c.low ≡ mid.faults → c.low_now ≡ new.faults → c.high_now ≡ c.high
    → JoinsNone mid new → (c.low_now ≡ c.low) ⊎ Rose c.low c.low_now → KeepsHalted mid.faults new.faults mid.halted new.halted → Keeps mid new → outcome ≡ NoMemory → IsAnsweredLent client line request old new l c outcome
lent_none client line request old mid new l c outcome r both low now high none rose h k is = subst (λ (o : Outcome). IsAnsweredLent client line request old new l c o) (sym is) (record {
  entry = record { entries = none.entries ∙ r.none.entries; appended = none.appended ∙ r.none.appended };
  cause = no_memory_in c high rose;
  held_is = tt;
  waits = tt;
  halted = lent_halted c old.halted new.halted high (subst (λ (x : Option Fault). KeepsHalted c.low c.low_now x new.halted) r.halted (subst (λ (n : ℕ). KeepsHalted n c.low_now mid.halted new.halted) (sym low) (subst (λ (n : ℕ). KeepsHalted mid.faults n mid.halted new.halted) (sym now) h)));
  keeps = size_then r.size (keeps_size k);
  both = both_after mid new l both k h;
})

-- ---- and one after another

ready_then : {old mid new : Parts} → IsReady old mid → JoinsNone mid new → KeepsSize mid new → new.halted ≡ mid.halted → new.text.bytes ≡ mid.text.bytes → IsReady old new
ready_then r none size h t = record {
  none = record { entries = none.entries ∙ r.none.entries; appended = none.appended ∙ r.none.appended };
  size = size_then r.size size;
  halted = h ∙ r.halted;
  text = elim r.text [
    | inl same ↦ inl (t ∙ same)
    | inr empty ↦ inr (t ∙ empty)
  ];
}

-- a call that needs the log leaves the volume ready
pub ready_again : (client line : ℕ) (request : Request) (old mid new : Parts) → IsReady old mid → IsAnswered client line request mid new NeedsLog → IsReady old new
ready_again client line request old mid new r a = ready_then r a.entry (keeps_size a.keeps) a.halted.0 a.halted.1

waits_then : (request : Request) (old mid new : Parts) (outcome : Outcome) → IsReady old mid → WaitsIn request mid new outcome → WaitsIn request old new outcome
waits_then request old mid new (Replied reply number true) r w = w
waits_then request old mid new (Replied reply number false) r w = λ done eager. record { text = by (w done eager).text r.text; renames_it = (w done eager).renames_it }
  where
    by : (new.text.bytes ≡ mid.text.bytes) ⊎ (new.text.bytes ≡ []) → (mid.text.bytes ≡ old.text.bytes) ⊎ (mid.text.bytes ≡ []) → (new.text.bytes ≡ old.text.bytes) ⊎ (new.text.bytes ≡ [])
    by (inr none) t = inr none
    by (inl same) (inl before) = inl (same ∙ before)
    by (inl same) (inr none) = inr (same ∙ none)
waits_then request old mid new NeedsLog r w = tt
waits_then request old mid new NoMemory r w = tt

entry_then : (client line : ℕ) (request : Request) (old mid new : Parts) (outcome : Outcome) → JoinsNone old mid → HasEntry client line request mid new outcome → HasEntry client line request old new outcome
entry_then client line request old mid new (Replied reply number waits) none e = record {
  entries = e.entries ∙ ap (λ (es : List Entry). es ++ entry_with client line request reply ∷ []) none.entries;
  appended = e.appended ∙ ap (λ (n : ℕ). n + 1) none.appended;
  number_is = e.number_is;
}
entry_then client line request old mid new NeedsLog none e = record { entries = e.entries ∙ none.entries; appended = e.appended ∙ none.appended }
entry_then client line request old mid new NoMemory none e = record { entries = e.entries ∙ none.entries; appended = e.appended ∙ none.appended }

pub lent_then : (client line : ℕ) (request : Request) (old mid new : Parts) (l : LogParts) (c d : Counts) (outcome : Outcome) → IsReady old mid → c ≡ d → IsAnsweredLent client line request mid new l c outcome → IsAnsweredLent client line request old new l d outcome
lent_then client line request old mid new l c d outcome r same a = subst (λ (x : Counts). IsAnsweredLent client line request old new l x outcome) same (record {
  entry = entry_then client line request old mid new outcome r.none a.entry;
  cause = a.cause;
  held_is = subst (λ (h : Option Fault). TellsHeld (held h request.call) outcome) r.halted a.held_is;
  waits = waits_then request old mid new outcome r a.waits;
  halted = subst (λ (h : Option Fault). KeepsHaltedIn c h new.halted) r.halted a.halted;
  keeps = size_then r.size a.keeps;
  both = a.both;
})

-- ---- a commit or a syncpoint that failed

held_none : (b : Bool) (halted : Option Fault) → halted ≡ None → (if b then halted else None) ≡ None
held_none true halted none = none
held_none false halted none = refl

no_one_holds : (halted : Option Fault) (request : Request) → halted ≡ None → held halted request.call ≡ None
no_one_holds halted request none = held_none (writes request.call) halted none

-- nothing but the list of entries changes after it
pub record IsStoppedAt (fault : Fault) (old mid : Parts) (high high_now : ℕ) : Type 0 where
  pub none : JoinsNone old mid
  pub size : KeepsSize old mid
  pub ran : old.halted ≡ None
  pub halted : mid.halted ≡ Some fault
  pub cause : IsFaultOfEither old.faults mid.faults high high_now fault

stopped_halted : (fault : Fault) (old mid : Parts) (high high_now : ℕ) → IsStoppedAt fault old mid high high_now → KeepsHaltedIn (record { low = old.faults; low_now = mid.faults; high = high; high_now = high_now }) old.halted mid.halted
stopped_halted fault old mid high high_now s = inr (fault, s.cause, s.ran, s.halted)

stopped_both : (fault : Fault) (p : Parts) (l : LogParts) → p.halted ≡ Some fault → AreBoth p l
stopped_both fault p l h none = absurd (cc (h, none))

size_with : (entry : Entry) (p : Parts) → KeepsSize p (with_entry entry p)
size_with entry p = record { blocks = refl; size = refl; limit = refl; count = refl; room = refl }

failed_reply : (caller : Caller) (request : Request) (fault : Fault) (old mid : Parts) (l : LogParts) (high high_now : ℕ) (entry : Entry) (number : ℕ) → entry ≡ entry_with caller.client caller.line request (replies.Refused (refusals.IoFault fault)) → number ≡ mid.appended + 1
    → IsStoppedAt fault old mid high high_now
    → IsAnsweredLent caller.client caller.line request old (with_entry entry mid) l (record { low = old.faults; low_now = mid.faults; high = high; high_now = high_now }) (Replied (replies.Refused (refusals.IoFault fault)) number false)
failed_reply caller request fault old mid l high high_now entry number e n s = record {
  entry = record {
    entries = ap (λ (x : Entry). mid.entries ++ x ∷ []) e ∙ ap (λ (es : List Entry). es ++ entry_with caller.client caller.line request (replies.Refused (refusals.IoFault fault)) ∷ []) s.none.entries;
    appended = ap (λ (k : ℕ). k + 1) s.none.appended;
    number_is = n;
  };
  cause = s.cause;
  held_is = subst (λ (k : Option Fault). IsHeld k (replies.Refused (refusals.IoFault fault))) (sym (no_one_holds old.halted request s.ran)) refl;
  waits = λ done eager. absurd (cc (done));
  halted = stopped_halted fault old mid high high_now s;
  keeps = size_then s.size (size_with entry mid);
  both = stopped_both fault (with_entry entry mid) l s.halted;
}

pub lent_failed : (caller : Caller) (request : Request) (fault : Fault) (old mid new : Parts) (l : LogParts) (high high_now : ℕ) (outcome : Outcome) → IsStoppedAt fault old mid high high_now → IsReplied caller request (replies.Refused (refusals.IoFault fault)) false mid new outcome
    → IsAnsweredLent caller.client caller.line request old new l (record { low = old.faults; low_now = new.faults; high = high; high_now = high_now }) outcome
lent_failed caller request fault old mid new l high high_now (Replied reply number waits) s r =
    let given = replies.Refused (refusals.IoFault fault) in
    subst (λ (g : Reply). IsAnsweredLent caller.client caller.line request old new l (record { low = old.faults; low_now = new.faults; high = high; high_now = high_now }) (Replied g number waits)) (sym r.reply_is)
    (subst (λ (w : Bool). IsAnsweredLent caller.client caller.line request old new l (record { low = old.faults; low_now = new.faults; high = high; high_now = high_now }) (Replied given number w)) (sym r.waits_is)
    (subst (λ (p : Parts). IsAnsweredLent caller.client caller.line request old p l (record { low = old.faults; low_now = p.faults; high = high; high_now = high_now }) (Replied given number false)) (sym r.parts)
    (failed_reply caller request fault old mid l high high_now (entry_with caller.client caller.line request given) number refl (r.number_is ∙ ap (λ (p : Parts). p.appended) r.parts) s)))
lent_failed caller request fault old mid new l high high_now NeedsLog s r = absurd r
lent_failed caller request fault old mid new l high high_now NoMemory s r = subst (λ (p : Parts). IsAnsweredLent caller.client caller.line request old p l (record { low = old.faults; low_now = p.faults; high = high; high_now = high_now }) NoMemory) (sym r) (record {
  entry = s.none;
  cause = inr (fault, s.cause);
  held_is = tt;
  waits = tt;
  halted = stopped_halted fault old mid high high_now s;
  keeps = s.size;
  both = stopped_both fault mid l s.halted;
})

-- ---- as its callers need it

pub stopped_at : (fault : Fault) (old mid : Parts) (high high_now : ℕ) → Settles old mid → old.halted ≡ None → mid.halted ≡ halted_by fault old.halted → IsFaultOfEither old.faults mid.faults high high_now fault → IsStoppedAt fault old mid high high_now
stopped_at fault old mid high high_now s ran stops cause = record {
  none = record { entries = s.entries; appended = s.appended };
  size = settled_size old mid s;
  ran = ran;
  halted = stops ∙ ap (λ (h : Option Fault). halted_by fault h) ran;
  cause = cause;
}

-- the log's parts stay
pub together_again : (client line : ℕ) (request : Request) (old new : Parts) (l : LogParts) → AreTogether old l → IsAnswered client line request old new NeedsLog → AreTogether new l
together_again client line request old new l t a = record { ring = t.ring ∙ sym a.keeps.ring; place = t.place ∙ sym a.keeps.place; durable = t.durable ∙ sym a.keeps.taken; running = t.running }

pub lent_by : (client line : ℕ) (request : Request) (old mid new : Parts) (l : LogParts) (c : Counts) (outcome : Outcome) → (outcome ≡ NeedsLog → ⊥) → IsReady old mid → AreBoth mid l → c.low ≡ mid.faults → c.low_now ≡ new.faults → c.high_now ≡ c.high
    → IsAnswered client line request mid new outcome → IsAnsweredLent client line request old new l c outcome
lent_by client line request old mid new l c (Replied reply number waits) answered r both low now high a = lent client line request old mid new l c reply number waits r both low now high a
lent_by client line request old mid new l c NeedsLog answered r both low now high a = absurd (answered refl)
lent_by client line request old mid new l c NoMemory answered r both low now high a = lent_none client line request old mid new l c NoMemory r both low now high a.entry
    (elim a.cause [
      | inl same ↦ inl (now ∙ same ∙ sym low)
      | inr rose ↦ inr (subst (λ (n : ℕ). Rose n c.low_now) (sym low) (subst (λ (n : ℕ). Rose mid.faults n) (sym now) rose))
    ]) a.halted a.keeps refl

-- a call that needs the log even so is answered as where memory lacks
pub lent_out : (client line : ℕ) (request : Request) (old mid new : Parts) (l : LogParts) (c : Counts) → IsReady old mid → AreBoth mid l → c.low ≡ mid.faults → c.low_now ≡ new.faults → c.high_now ≡ c.high
    → IsAnswered client line request mid new NeedsLog → IsAnsweredLent client line request old new l c NoMemory
lent_out client line request old mid new l c r both low now high a = lent_none client line request old mid new l c NoMemory r both low now high a.entry (inl (now ∙ a.cause ∙ sym low)) (inl a.halted.0) a.keeps refl

pub both_again : (client line : ℕ) (request : Request) (old new : Parts) (l : LogParts) → AreBoth old l → IsAnswered client line request old new NeedsLog → AreBoth new l
both_again client line request old new l both a = both_after old new l both a.keeps (inl a.halted.0)

pub begins_again : (client line : ℕ) (request : Request) (old new : Parts) → IsAnswered client line request old new NeedsLog → held new.halted request.call ≡ None
begins_again client line request old new a = ap (λ (h : Option Fault). held h request.call) a.halted.0 ∙ a.held_is

abbrev counts_of : ℕ → ℕ → ℕ → ℕ → Counts
counts_of low low_now high high_now = record { low = low; low_now = low_now; high = high; high_now = high_now }

-- first without the log, and then with it
pub lent_after : (client line : ℕ) (request : Request) (old mid new : Parts) (l : LogParts) (high high_now : ℕ) (outcome : Outcome) → IsAnswered client line request old mid NeedsLog
    → IsAnsweredLent client line request mid new l (record { low = mid.faults; low_now = new.faults; high = high; high_now = high_now }) outcome
    → IsAnsweredLent client line request old new l (record { low = old.faults; low_now = new.faults; high = high; high_now = high_now }) outcome
lent_after client line request old mid new l high high_now outcome a b =
    lent_then client line request old mid new l (counts_of mid.faults new.faults high high_now) (counts_of old.faults new.faults high high_now) outcome (ready_again client line request old old mid (ready_first old) a) (ap (λ (low : ℕ). counts_of low new.faults high high_now) a.cause) b

-- the same behind a commit, which left the counts
pub lent_behind : (client line : ℕ) (request : Request) (old mid again new : Parts) (l : LogParts) (high high_mid high_now : ℕ) (outcome : Outcome) → IsReady old mid → mid.faults ≡ old.faults → high_mid ≡ high → IsAnswered client line request mid again NeedsLog
    → IsAnsweredLent client line request again new l (record { low = again.faults; low_now = new.faults; high = high_mid; high_now = high_now }) outcome
    → IsAnsweredLent client line request old new l (record { low = old.faults; low_now = new.faults; high = high; high_now = high_now }) outcome
lent_behind client line request old mid again new l high high_mid high_now outcome r faults high_is a b =
    lent_then client line request old again new l (counts_of again.faults new.faults high_mid high_now) (counts_of old.faults new.faults high high_now) outcome (ready_again client line request old mid again r a)
    (ap₂ (λ (low up : ℕ). counts_of low new.faults up high_now) (a.cause ∙ faults) high_is) b

-- nothing is tried
pub lent_still : (client line : ℕ) (request : Request) (p : Parts) (l : LogParts) (high : ℕ) → AreBoth p l → IsAnsweredLent client line request p p l (record { low = p.faults; low_now = p.faults; high = high; high_now = high }) NoMemory
lent_still client line request p l high both = record {
  entry = record { entries = refl; appended = refl };
  cause = inl (refl, refl);
  held_is = tt;
  waits = tt;
  halted = inl refl;
  keeps = record { blocks = refl; size = refl; limit = refl; count = refl; room = refl };
  both = both;
}

-- the block map has as many blocks as before
pub size_stays : {old new : Parts} → KeepsSize old new → length old.map.states ≤ old.blocks → length new.map.states ≤ new.blocks
size_stays k fits = omega (arith, k.size, k.blocks, fits)

pub answered_size : (client line : ℕ) (request : Request) (old new : Parts) → IsAnswered client line request old new NeedsLog → KeepsSize old new
answered_size client line request old new a = keeps_size a.keeps

-- ---- of which part a fault is

pub log_fault : (before now : ℕ) (why : LogFault) → Rose before now × (why.fault ≡ record { part = High; count = now }) → why.fault.part ≡ High
log_fault before now why cause = ap (λ (f : Fault). f.part) cause.1

pub point_fault : (low now high later : ℕ) (fault : Fault) → IsFaultOfEither low now high later fault → IsFault low now fault ⊎ (fault.part ≡ High)
point_fault low now high later fault (inl (rose, is, same)) = inl (record { rose = rose; is = is })
point_fault low now high later fault (inr (rose, is, same)) = inr (ap (λ (f : Fault). f.part) is)
