-- A volume that was asked, or synced, before anything joins.
use Rattle.std.proofs.Common.{◌≡◌, ◌⊎◌, ◌||◌, ◌<◌, ◌≤◌, nat_lt, arith, refl, sym, ap, ◌∙◌, subst, ℕ, Bool, true, false, List, length, inl, inr, Option, Some, None, if◌then◌else◌}
use Rattle.std.proofs.lemmas.Bool.{cases_lt, ltb-true}
use Rattle.std.proofs.lemmas.List.{get_or_past}
use Rattle.jfs_disk.specs.declared.disk.Fault.{Fault}
use Rattle.jfs_disk.specs.declared.disk.Part.TheVariants.{Low}
use Rattle.jfs_files.specs.bmap.specs.States.{Blocks, Free, Owned, Reserved, changed, is_in_list, state_of}
use Rattle.jfs_files.specs.bmap.proofs.States.{changed-at, changed-length}
use Rattle.jfs_files.specs.bmap.proofs.Views.{length-each_below}
use Rattle.jfs_volume_calls.specs.crash_core.specs.Step.{halted_by}
use Rattle.jfs_volume_calls.specs.pages.specs.Device.{IsFault}
use Rattle.jfs_plain.specs.Call.{is_changing}
use Rattle.jfs_plain.specs.CallStep.{writes, is_sync}
use Rattle.jfs_plain.specs.Limits.{FitsRequest}
use Rattle.jfs_plain.specs.declared.call.Call.{Call}
use Rattle.jfs_plain.specs.declared.call.Call.TheVariants as calls
use Rattle.jfs_plain.specs.declared.call.Request.{Request}
use Rattle.jfs_plain.specs.declared.refusal.Refusal.TheVariants as refusals
use Rattle.jfs_plain.specs.declared.reply.Reply.{Reply}
use Rattle.jfs_plain.specs.declared.reply.Reply.TheVariants as replies
use Rattle.jfs_files.specs.Outcome.{KeepsMaps, ReservesAlone, CarriesReply}
use Rattle.jfs_files.specs.Written.{renames, ChangesBy, ChangesIfDone}
use Rattle.jfs_map_files.specs.declared.maps.Maps.{Maps}
use Rattle.jfs_files.specs.declared.outcome.FileOutcome.{FileOutcome}
use Rattle.jfs_files.specs.declared.outcome.FileOutcome.TheVariants as files
use Rattle.jfs_volume_calls.specs.halves.specs.Parts.{Parts}
use Rattle.jfs_volume_calls.specs.volume.specs.Asked.{maps_in, IsAskedOf, MayReserve}
use Rattle.jfs_volume_calls.specs.volume.specs.Settles.{HomesAlone}
use Rattle.jfs_call.specs.Answer.{RepliedBy, held, IsHeld, is_read_only, IsAnswered}
use Rattle.jfs_call.specs.Replied.{is_kept_back, TellsSame}
use Rattle.jfs_call.specs.declared.outcome.Outcome.{Outcome}
use Rattle.jfs_call.specs.declared.outcome.Outcome.TheVariants.{NoMemory}
use Rattle.jfs_call.specs.declared.reply.Caller.{Caller}
use Rattle.jfs_call.proofs.Answered.{IsBegun, begun, MayReply, MayChange, running, replied, rises, unreplied}

-- ---- asked

same_maps_size : (old new : Maps) → new ≡ old → length new.blocks.states ≡ length old.blocks.states
same_maps_size old new e = ap (λ (m : Maps). length m.blocks.states) e

maps_size : (old new : Maps) → (new ≡ old) ⊎ ReservesAlone old new → length new.blocks.states ≡ length old.blocks.states
maps_size old new (inl e) = same_maps_size old new e
maps_size old new (inr (taken, reserves, is)) = ap (λ (b : Blocks). length b.states) reserves.now_is ∙ length-each_below _ _

pub asked_size : (old new : Maps) (outcome : FileOutcome) → KeepsMaps old new outcome → length new.blocks.states ≡ length old.blocks.states
asked_size old new (files.Changed tx put) k = maps_size old new k
asked_size old new (files.Same reply) k = same_maps_size old new k
asked_size old new files.NeedsLog k = same_maps_size old new k

pub asked_begun : (tells crashes : Type 0) (old mid : Parts) (outcome : FileOutcome) → IsAskedOf tells crashes old mid → KeepsMaps (maps_in old) (maps_in mid) outcome → IsBegun old mid
asked_begun tells crashes old mid outcome a k = record {
  keeps = record {
    blocks = ap (λ (p : Parts). p.blocks) a.parts;
    size = asked_size (maps_in old) (maps_in mid) outcome k;
    limit = ap (λ (p : Parts). p.limit) a.parts;
    count = ap (λ (p : Parts). p.count) a.parts;
    room = ap (λ (p : Parts). p.room) a.parts;
    taken = ap (λ (p : Parts). p.taken) a.parts;
    told = ap (λ (p : Parts). p.told) a.parts;
    points = ap (λ (p : Parts). p.points) a.parts;
    ring = ap (λ (p : Parts). p.text.ring) a.parts;
    place = ap (λ (p : Parts). p.text.place) a.parts;
  };
  none = record { entries = ap (λ (p : Parts). p.entries) a.parts; appended = ap (λ (p : Parts). p.appended) a.parts };
  text = ap (λ (p : Parts). p.text.bytes) a.parts;
}

pub asked_halted : (tells crashes : Type 0) (old mid : Parts) → IsAskedOf tells crashes old mid → mid.halted ≡ old.halted
asked_halted tells crashes old mid a = ap (λ (p : Parts). p.halted) a.parts

-- a call that is asked and changes something
pub may_change : (tells crashes : Type 0) (request : Request) (old mid : Parts) (outcome : FileOutcome) → IsAskedOf tells crashes old mid → KeepsMaps (maps_in old) (maps_in mid) outcome → mid.faults ≡ old.faults → is_changing request.call ≡ true → held old.halted request.call ≡ None
    → MayChange request old mid
may_change tells crashes request old mid outcome a k f c h = record {
  begun_is = asked_begun tells crashes old mid outcome a k;
  faults = f;
  halted = asked_halted tells crashes old mid a;
  writes_it = ap (λ (b : Bool). b || is_sync request.call) c;
  begins = h;
}

pub asked_runs : (tells crashes : Type 0) (request : Request) (old mid : Parts) → IsAskedOf tells crashes old mid → is_changing request.call ≡ true → held old.halted request.call ≡ None → mid.halted ≡ None
asked_runs tells crashes request old mid a c h = asked_halted tells crashes old mid a ∙ running old.halted request (ap (λ (b : Bool). b || is_sync request.call) c) h

-- ---- a reply

carried : (before now : ℕ) (reply : Reply) → CarriesReply (record { part = Low; count = before }) (record { part = Low; count = now }) reply → RepliedBy before now reply
carried before now (replies.Refused (refusals.IoFault fault)) (failed, is) = record { rose = failed.0; is = is }
carried before now (replies.Refused _) same = ap (λ (f : Fault). f.count) same
carried before now _ same = ap (λ (f : Fault). f.count) same

not_kept : (reply : Reply) → is_kept_back reply ≡ false → is_read_only reply ≡ false
not_kept (replies.Refused (refusals.ReadOnly fault)) h = cc (h)
not_kept (replies.Refused _) h = refl
not_kept _ h = refl

pub may_reply : (tells crashes : Type 0) (request : Request) (old mid : Parts) (reply : Reply) → IsAskedOf tells crashes old mid → maps_in mid ≡ maps_in old → CarriesReply (record { part = Low; count = old.faults }) (record { part = Low; count = mid.faults }) reply
    → is_kept_back reply ≡ false → held old.halted request.call ≡ None → (reply ≡ replies.Done → writes request.call ≡ true → renames request.call ≡ true) → MayReply request reply false old mid
may_reply tells crashes request old mid reply a same f k h still = record {
  begun_is = asked_begun tells crashes old mid (files.Same reply) a same;
  cause = carried old.faults mid.faults reply f;
  held_is = subst (λ (x : Option Fault). IsHeld x reply) (sym h) (not_kept reply k);
  halted = inl (asked_halted tells crashes old mid a);
  waits = λ entry done eager. record {
    leaves = record {
      map = ap (λ (m : Maps). m.blocks) same;
      inodes = ap (λ (m : Maps). m.inodes) same;
      dirty = ap (λ (p : Parts). p.dirty) a.parts;
      text = ap (λ (p : Parts). p.text.bytes) a.parts;
    };
    renames_it = still done;
  };
}

-- of the calls that may change something a rename alone is done without a change
still_done : (call : Call) (reply : Reply) → ChangesBy call (files.Same reply) → is_sync call ≡ false → reply ≡ replies.Done → writes call ≡ true → renames call ≡ true
still_done (calls.Rename from to) reply c n d w = refl
still_done calls.Sync reply c n d w = absurd (cc (n))
still_done (calls.Read path offset count) reply c n d w = absurd (cc (w))
still_done (calls.Stat path) reply c n d w = absurd (cc (w))
still_done (calls.List path) reply c n d w = absurd (cc (w))
still_done (calls.Readlink path) reply c n d w = absurd (cc (w))
still_done _ reply c n d w = absurd (subst (λ (r : Reply). ChangesIfDone (files.Same r)) d c)

-- a call that a halted volume refuses
pub may_hold : (request : Request) (p : Parts) (fault : Fault) → held p.halted request.call ≡ Some fault → MayReply request (replies.Refused (refusals.ReadOnly fault)) false p p
may_hold request p fault h = record {
  begun_is = begun p;
  cause = refl;
  held_is = subst (λ (x : Option Fault). IsHeld x (replies.Refused (refusals.ReadOnly fault))) (sym h) refl;
  halted = inl refl;
  waits = λ entry done eager. absurd (cc (done));
}

pub told_same : (tells crashes : Type 0) (caller : Caller) (request : Request) (reply : Reply) (old mid new : Parts) (outcome : Outcome) → IsAskedOf tells crashes old mid → maps_in mid ≡ maps_in old → CarriesReply (record { part = Low; count = old.faults }) (record { part = Low; count = mid.faults }) reply
    → held old.halted request.call ≡ None → ChangesBy request.call (files.Same reply) → is_sync request.call ≡ false → TellsSame caller request reply mid new outcome → IsAnswered caller.client caller.line request old new outcome
told_same tells crashes caller request reply old mid new outcome a same f h changes apart (inl (kept, by)) = replied caller request reply false old mid new outcome (may_reply tells crashes request old mid reply a same f kept h (still_done request.call reply changes apart)) by
told_same tells crashes caller request reply old mid new outcome a same f h changes apart (inr (is, stays)) = subst (λ (o : Outcome). IsAnswered caller.client caller.line request old new o) (sym is) (subst (λ (p : Parts). IsAnswered caller.client caller.line request old p NoMemory) (sym stays)
    (unreplied caller.client caller.line request old mid (asked_begun tells crashes old mid (files.Same reply) a same) (rises old.faults mid.faults reply (carried old.faults mid.faults reply f)) (asked_halted tells crashes old mid a)))

-- ---- synced

pub synced_begun : (tells : Type 0) (old mid : Parts) → HomesAlone tells old mid → IsBegun old mid
synced_begun tells old mid h = let e = h.parts in record {
  keeps = record {
    blocks = ap (λ (p : Parts). p.blocks) e;
    size = ap (λ (p : Parts). length p.map.states) e;
    limit = ap (λ (p : Parts). p.limit) e;
    count = ap (λ (p : Parts). p.count) e;
    room = ap (λ (p : Parts). p.room) e;
    taken = ap (λ (p : Parts). p.taken) e;
    told = ap (λ (p : Parts). p.told) e;
    points = ap (λ (p : Parts). p.points) e;
    ring = ap (λ (p : Parts). p.text.ring) e;
    place = ap (λ (p : Parts). p.text.place) e;
  };
  none = record { entries = ap (λ (p : Parts). p.entries) e; appended = ap (λ (p : Parts). p.appended) e };
  text = ap (λ (p : Parts). p.text.bytes) e;
}

or_true : (b : Bool) → (b || true) ≡ true
or_true true = refl
or_true false = refl

sync_writes : (request : Request) → is_sync request.call ≡ true → writes request.call ≡ true
sync_writes request is = ap (λ (b : Bool). is_changing request.call || b) is ∙ or_true (is_changing request.call)

pub may_wait : (tells : Type 0) (request : Request) (old mid : Parts) → HomesAlone tells old mid → mid.halted ≡ old.halted → mid.faults ≡ old.faults → is_sync request.call ≡ true → request.lazy ≡ false → held old.halted request.call ≡ None
    → MayReply request replies.Done true old mid
may_wait tells request old mid s same faults is eager h = record {
  begun_is = synced_begun tells old mid s;
  cause = faults;
  held_is = subst (λ (x : Option Fault). IsHeld x replies.Done) (sym h) refl;
  halted = inl same;
  waits = λ entry. record { reply_is = refl; writes_it = sync_writes request is; eager = eager; runs = same ∙ running old.halted request (sync_writes request is) h };
}

pub may_fail : (tells : Type 0) (request : Request) (old mid : Parts) (fault : Fault) → HomesAlone tells old mid → mid.halted ≡ halted_by fault old.halted → IsFault old.faults mid.faults fault → is_sync request.call ≡ true → held old.halted request.call ≡ None
    → MayReply request (replies.Refused (refusals.IoFault fault)) false old mid
may_fail tells request old mid fault s stops f is h = let ran = running old.halted request (sync_writes request is) h in record {
  begun_is = synced_begun tells old mid s;
  cause = f;
  held_is = subst (λ (x : Option Fault). IsHeld x (replies.Refused (refusals.IoFault fault))) (sym h) refl;
  halted = inr (fault, f, ran, stops ∙ ap (λ (x : Option Fault). halted_by fault x) ran);
  waits = λ entry done eager. absurd (cc (done));
}

-- a call that only may be lazy where it changes something: `sync` isn't
pub eager_sync : (call : Call) (lazy : Bool) → is_sync call ≡ true → FitsRequest (record { call = call; lazy = lazy }) → lazy ≡ false
eager_sync calls.Sync true is fits = absurd fits.1
eager_sync calls.Sync false is fits = refl
eager_sync _ lazy is fits = absurd (cc (is))

-- ---- what is reserved

reserve_one : (old new : Blocks) (count : ℕ → ℕ) → ((b : ℕ) → 0 < count b → state_of old b ≡ Free) → new ≡ changed (λ b s. if nat_lt 0 (count b) then Reserved else s) old → (b : ℕ) → (state_of new b ≡ state_of old b) ⊎ ((state_of old b ≡ Free) × (state_of new b ≡ Reserved))
reserve_one old new count free is b = subst (λ (m : Blocks). (state_of m b ≡ state_of old b) ⊎ ((state_of old b ≡ Free) × (state_of m b ≡ Reserved))) (sym is) (by (cases_lt b (length old.states)))
  where
    now : Blocks
    now = changed (λ c s. if nat_lt 0 (count c) then Reserved else s) old

    at : (x : Bool) → nat_lt 0 (count b) ≡ x → state_of now b ≡ (if x then Reserved else state_of old b) → (state_of now b ≡ state_of old b) ⊎ ((state_of old b ≡ Free) × (state_of now b ≡ Reserved))
    at true e s = inr (free b (ltb-true 0 (count b) e), s)
    at false e s = inl s

    by : (b < length old.states) ⊎ (length old.states ≤ b) → (state_of now b ≡ state_of old b) ⊎ ((state_of old b ≡ Free) × (state_of now b ≡ Reserved))
    by (inl l) = at (nat_lt 0 (count b)) refl (changed-at (λ c s. if nat_lt 0 (count c) then Reserved else s) old b l)
    by (inr l) = inl (get_or_past now.states b Owned (let size = changed-length (λ c s. if nat_lt 0 (count c) then Reserved else s) old in omega (arith, l, size)) ∙ sym (get_or_past old.states b Owned l))

same_reserves : (old new : Maps) → new ≡ old → MayReserve old new
same_reserves old new e = subst (λ (m : Maps). MayReserve old m) (sym e) (record { size = refl; agsize = refl; each = λ b. inl refl; inodes = refl; limit = refl })

alone_reserves : (old new : Maps) → (new ≡ old) ⊎ ReservesAlone old new → MayReserve old new
unfolding is_in_list
alone_reserves old new (inl e) = same_reserves old new e
alone_reserves old new (inr (taken, reserves, is)) = record {
  size = maps_size old new (inr (taken, reserves, is));
  agsize = ap (λ (b : Blocks). b.agsize) reserves.now_is;
  each = reserve_one old.blocks new.blocks _ reserves.free reserves.now_is;
  inodes = ap (λ (m : Maps). m.inodes) is;
  limit = ap (λ (m : Maps). m.file_limit) is;
}

pub may_reserve : (old new : Maps) (outcome : FileOutcome) → KeepsMaps old new outcome → MayReserve old new
may_reserve old new (files.Changed tx put) k = alone_reserves old new k
may_reserve old new (files.Same reply) k = same_reserves old new k
may_reserve old new files.NeedsLog k = same_reserves old new k
