-- A volume that is kept with its history, behind calls, groups and syncpoints of many clients.
use Rattle.std.proofs.Common.{◌≡◌, ◌<◌, ◌+◌, ◌^◌, ℕ, List, [], ◌∷◌, ◌++◌, length, Bool, true, false, None, refl, sym, ap, subst, ◌∙◌}
use Rattle.std.proofs.lemmas.List.{map-append, length-map}
use Rattle.jfs_disk.specs.Image.{Image, page_of}
use Rattle.jfs_disk.specs.declared.disk.Fault.{Fault}
use Rattle.jfs_super.specs.declared.fields.Super.{Super}
use Rattle.jfs_plain.specs.Limits.{FitsCall}
use Rattle.jfs_kept_history.specs.legal.specs.served.specs.call.specs.Does.{Does}
use Rattle.jfs_kept_history.specs.legal.specs.served.specs.call.specs.DoesLent.{Asking}
use Rattle.jfs_kept_history.specs.legal.specs.served.specs.call.specs.Noted.{noted_by}
use Rattle.jfs_kept_history.specs.legal.specs.served.specs.call.specs.declared.outcome.Outcome.TheVariants.{Replied, NeedsLog, NoMemory}
use Rattle.jfs_groups.specs.Points.{halt_mark}
use Rattle.jfs_kept_history.specs.legal.specs.History.{GoOn}
use Rattle.jfs_kept_history.specs.legal.specs.served.specs.crash_core.specs.Step.{halted_by}
use Rattle.jfs_kept_history.specs.legal.specs.served.specs.Legal.{Timed}
use Rattle.jfs_kept_history.specs.legal.specs.served.specs.halves.specs.Change.{MayPoint, Takes, Points, Knows}
use Rattle.jfs_kept_history.specs.legal.specs.served.specs.halves.specs.Moves.{Moves}
use Rattle.jfs_kept_history.specs.legal.specs.served.specs.halves.specs.Parts.{Parts, OfEachHalf}
use Rattle.jfs_kept_history.specs.legal.specs.served.specs.plain.specs.declared.reply.Reply.{Reply}
use Rattle.jfs_kept_history.specs.legal.specs.served.specs.shown.specs.meaning.specs.Image.{volume_of}
use Rattle.jfs_kept_history.specs.legal.specs.served.specs.volume.specs.Room.{IsWithinRoom}
use Rattle.jfs_kept_history.specs.legal.specs.served.specs.volume.specs.Settle.{with_point}
use Rattle.jfs_kept_history.specs.legal.specs.served.specs.volume.specs.Settles.{Settles, StaysShown}
use Rattle.jfs_kept_history.specs.legal.specs.served.specs.volume.specs.Told.{IsTold}
use Rattle.jfs_kept_history.specs.legal.specs.served.specs.volume_calls.specs.Halts.{GroupParts, PointParts}
use Rattle.jfs_kept_history.specs.legal.specs.served.specs.volume_calls.specs.Written.{KeepsPages, LeavesMaps}
use Rattle.jfs_kept_history.specs.Kept.{Lasting, timed_in as timed_of, IsKeptSince}
use Rattle.jfs_kept_history.proofs.Called.{kept_call}
use Rattle.jfs_kept_history.proofs.Quiet.{taken_law, told_law, halted_law}
use Rattle.jfs_kept_history.proofs.Steps as steps
use Rattle.jfs_volume_calls.proofs.Kept.{group_settles, group_pages, pointed as point_settles}
use Rattle.jfs_shared.specs.Calls.{recorded}
use Rattle.jfs_shared.specs.Entries.{Recorded}
use Rattle.jfs_shared.specs.Settled.{KeepsHistory, SettlesHistory, IsSettledServed}
use Rattle.jfs_shared.specs.Shared.{timed_in, lasting, lasting_in, counts_in, GoesOn, IsKeptServed}
use Rattle.jfs_shared.proofs.Disk.{none_by}
use Rattle.jfs_shared.proofs.Points.{marked_counts, more_counts}
use Rattle.jfs_shared.proofs.Served.{joined, asked, lacked, settled, pointed, holds_of}

-- the same entries with their moments
pub timed_same : (list : List Recorded) → timed_of (lasting_in list) ≡ timed_in list
timed_same [] = refl
timed_same (e ∷ es) = ap (λ (ts : List Timed). (lasting e).timed ∷ ts) (timed_same es)

lasting_more : (list : List Recorded) (e : Recorded) → lasting_in (list ++ e ∷ []) ≡ lasting_in list ++ lasting e ∷ []
lasting_more list e = map-append lasting list (e ∷ [])

-- parts where what stays of the text and of the part of the disk does
pub record SamePlace (old new : Parts) : Type 0 where
  pub ring : new.text.ring ≡ old.text.ring
  pub blocks : new.blocks ≡ old.blocks

pub same_place : (old new : Parts) → new.text.ring ≡ old.text.ring → new.blocks ≡ old.blocks → SamePlace old new
same_place old new ring blocks = record { ring = ring; blocks = blocks }

module _ (tells crashes : Type 0) (told : tells) (asks : crashes) (s : Super) (image : Image) (broken : Bool) (list : List Recorded) (points : List ℕ) (old : Parts) (k : IsKeptServed s image broken list points old) where
  abbrev page : ℕ → List ℕ
  page = page_of image

  abbrev area : ℕ → ℕ
  area = (volume_of s page).area

  -- no call has broken it off
  module _ (whole : broken ≡ false) where
    goes : GoOn area s.logpxd.len k.served.start (timed_in list) old
    goes = subst (λ (b : Bool). GoesOn b area s.logpxd.len k.served.start (timed_in list) old) whole k.served.goes_on

    goes_kept : GoOn area s.logpxd.len k.served.start (timed_of (lasting_in list)) old
    goes_kept = subst (λ (es : List Timed). GoOn area s.logpxd.len k.served.start es old) (sym (timed_same list)) goes

    goes_on : (more : List Recorded) (new : Parts) → GoOn area s.logpxd.len k.served.start (timed_in more) new → GoesOn broken area s.logpxd.len k.served.start (timed_in more) new
    goes_on more new on = subst (λ (b : Bool). GoesOn b area s.logpxd.len k.served.start (timed_in more) new) (sym whole) on

  -- the same history, and another one, from the volume on that was mounted
  again : (broken_now : Bool) (more : List Recorded) (later : List ℕ) (new : Parts) → SamePlace old new → GoesOn broken_now area s.logpxd.len k.served.start (timed_in more) new → IsKeptSince s page k.served.start (lasting_in more) (counts_in later) new
      → IsKeptServed s image broken_now more later new
  again broken_now more later new same on since = record {
    served = record { start = k.served.start; holds = k.served.holds; runs = k.served.runs; goes_on = on };
    since = since;
    ring = same.ring ∙ k.ring;
    blocks = same.blocks ∙ k.blocks;
  }

  -- ---- a call

  -- with its entry
  pub kept_joined : (a : Asking) (new : Parts) (reply : Reply) (number : ℕ) (waits : Bool) → broken ≡ false → SamePlace old new → FitsCall a.request.call → old.appended + 1 < 2 ^ 32 → (d : Does tells crashes a.caller a.request a.now old new (Replied reply number waits))
      → IsKeptServed s image broken (list ++ recorded a.caller.client a.caller.line a.request a.now reply (noted_by tells crashes a.caller a.request a.now old new (Replied reply number waits) d) ∷ []) points new
  kept_joined a new reply number waits whole same fits few d =
      let noted = noted_by tells crashes a.caller a.request a.now old new (Replied reply number waits) d in
      let e = recorded a.caller.client a.caller.line a.request a.now reply noted in
      again broken (list ++ e ∷ []) points new same
      (goes_on whole (list ++ e ∷ []) new (joined area s.logpxd.len k.served.start tells crashes told list a old new reply number waits noted (goes whole) d))
      (subst (λ (l : List Lasting). IsKeptSince s page k.served.start l (counts_in points) new) (sym (lasting_more list e))
      (kept_call tells crashes told asks s page k.served.start (lasting_in list) (counts_in points) a old new (Replied reply number waits) k.since (goes_kept whole) fits few d))

  -- one that needs the log
  pub kept_asked : (a : Asking) (new : Parts) → broken ≡ false → SamePlace old new → FitsCall a.request.call → old.appended + 1 < 2 ^ 32 → Does tells crashes a.caller a.request a.now old new NeedsLog → IsKeptServed s image broken list points new
  kept_asked a new whole same fits few d =
      again broken list points new same (goes_on whole list new (asked area s.logpxd.len k.served.start tells crashes told (timed_in list) a old new (goes whole) d))
      (kept_call tells crashes told asks s page k.served.start (lasting_in list) (counts_in points) a old new NeedsLog k.since (goes_kept whole) fits few d)

  -- one for which memory lacked
  pub kept_lacked : (a : Asking) (new : Parts) → broken ≡ false → SamePlace old new → FitsCall a.request.call → old.appended + 1 < 2 ^ 32 → Does tells crashes a.caller a.request a.now old new NoMemory → IsKeptServed s image true list points new
  kept_lacked a new whole same fits few d =
      again true list points new same (lacked area s.logpxd.len k.served.start tells crashes told (timed_in list) a old new (goes whole) d)
      (kept_call tells crashes told asks s page k.served.start (lasting_in list) (counts_in points) a old new NoMemory k.since (goes_kept whole) fits few d)

  -- ---- groups

  by_group : (new : Parts) → GroupParts old new → (new.halted ≡ None → old.halted ≡ None) → GoesOn broken area s.logpxd.len k.served.start (timed_in list) new
  by_group new parts ran = settled area s.logpxd.len k.served.start tells crashes told broken (timed_in list) old new (group_settles old new parts) (group_pages tells old new parts) ran k.served.goes_on

  pub kept_taken : (new : Parts) → SamePlace old new → GroupParts old new → new ≡ record old { taken = new.taken; text = new.text } → IsWithinRoom old.text.ring old.text.sync old.text.place (length old.text.bytes)
      → OfEachHalf tells crashes old (λ seen asked half. Moves seen asked old new half (Takes ∷ [])) → IsKeptServed s image broken list points new
  kept_taken new same parts alone room moves =
      again broken list points new same (by_group new parts (λ runs. sym (ap (λ (p : Parts). p.halted) alone) ∙ runs)) (taken_law tells crashes told asks s page k.served.start (lasting_in list) (counts_in points) old new k.since moves room alone)

  pub kept_halted : (fault : Fault) (new : Parts) → SamePlace old new → GroupParts old new → new ≡ record old { halted = halted_by fault old.halted } → IsKeptServed s image broken list (points ++ halt_mark ∷ []) new
  kept_halted fault new same parts alone =
      again broken list (points ++ halt_mark ∷ []) new same (by_group new parts (λ runs. absurd (none_by fault old.halted (sym (ap (λ (p : Parts). p.halted) alone) ∙ runs))))
      (subst (λ (counts : List ℕ). IsKeptSince s page k.served.start (lasting_in list) counts new) (sym (marked_counts points))
      (halted_law s page k.served.start (lasting_in list) (counts_in points) fault old new k.since alone))

  pub kept_told : (n : ℕ) (new : Parts) → SamePlace old new → Settles old new → KeepsPages tells old new → new.halted ≡ old.halted → OfEachHalf tells crashes old (λ seen asked half. IsTold seen asked n old new half) → IsKeptServed s image broken list points new
  kept_told n new same settles pages halted tell =
      again broken list points new same (settled area s.logpxd.len k.served.start tells crashes told broken (timed_in list) old new settles pages (λ runs. sym halted ∙ runs) k.served.goes_on)
      (told_law tells crashes told asks s page k.served.start (lasting_in list) (counts_in points) n old new k.since (holds_of broken area s.logpxd.len k.served.start (timed_in list) old k.served.goes_on) tell settles pages halted)

  -- ---- pages go home

  by_home : (new : Parts) → Settles old new → StaysShown tells old new → LeavesMaps old new → (new.halted ≡ None → old.halted ≡ None) → GoesOn broken area s.logpxd.len k.served.start (timed_in list) new
  by_home new settles shown maps ran = pointed area s.logpxd.len k.served.start tells crashes told broken (timed_in list) old new settles shown maps ran k.served.goes_on

  pub kept_home : (new : Parts) → SamePlace old new → Settles old new → StaysShown tells old new → LeavesMaps old new → (new.halted ≡ None → old.halted ≡ None) → KeepsHistory tells crashes old new → IsKeptServed s image broken list points new
  kept_home new same settles shown maps ran keeps =
      again broken list points new same (by_home new settles shown maps ran) (keeps told asks s page k.served.start (lasting_in list) (counts_in points) k.since)

  pub settled_home : (new : Parts) → SamePlace old new → Settles old new → StaysShown tells old new → LeavesMaps old new → (new.halted ≡ None → old.halted ≡ None) → SettlesHistory tells crashes old new → IsSettledServed s image broken list points new
  settled_home new same settles shown maps ran keeps = record {
    served = record { start = k.served.start; holds = k.served.holds; runs = k.served.runs; goes_on = by_home new settles shown maps ran };
    settled = keeps told asks s page k.served.start (lasting_in list) (counts_in points) k.since;
    ring = same.ring ∙ k.ring;
    blocks = same.blocks ∙ k.blocks;
  }

  -- ---- all sync counts are known to be stable

  by_point : (new : Parts) → PointParts old new → (new.halted ≡ None → old.halted ≡ None) → GoesOn broken area s.logpxd.len k.served.start (timed_in list) new
  by_point new parts ran = settled area s.logpxd.len k.served.start tells crashes told broken (timed_in list) old new (point_settles old old new (group_settles old old refl) parts)
      (record { files = ap (λ (x : Parts). x.files) parts; view = λ _ q free. ap (λ (x : Parts). page_of x.view q) parts }) ran k.served.goes_on

  pub kept_known : (new : Parts) → SamePlace old new → PointParts old new → new ≡ record old { known = old.points } → OfEachHalf tells crashes old (λ seen asked half. Moves seen asked old new half (Knows ∷ [])) → IsKeptServed s image broken list points new
  kept_known new same parts alone moves =
      again broken list points new same (by_point new parts (λ runs. sym (ap (λ (p : Parts). p.halted) alone) ∙ runs)) (steps.known tells crashes told asks s page k.served.start (lasting_in list) (counts_in points) old new k.since moves alone)

-- ---- a SYNCPT of a volume that is settled

-- as it is kept
pub kept_of : (s : Super) (image : Image) (broken : Bool) (list : List Recorded) (points : List ℕ) (old : Parts) → IsSettledServed s image broken list points old → IsKeptServed s image broken list points old
kept_of s image broken list points old k = record { served = k.served; since = k.settled.since; ring = k.ring; blocks = k.blocks }

module _ (tells crashes : Type 0) (told : tells) (asks : crashes) (s : Super) (image : Image) (broken : Bool) (list : List Recorded) (points : List ℕ) (old : Parts) (k : IsSettledServed s image broken list points old) where
  pub kept_pointed : (new : Parts) → SamePlace old new → PointParts old new → length list < 2 ^ 64 → old.text.bytes ≡ [] → new ≡ with_point old → OfEachHalf tells crashes old (λ seen asked half. MayPoint half → Moves seen asked old new half (Points ∷ Takes ∷ []))
      → IsKeptServed s image broken list (points ++ length list ∷ []) new
  unfolding kept_of
  kept_pointed new same parts few empty alone moves = record {
    served = record {
      start = k.served.start;
      holds = k.served.holds;
      runs = k.served.runs;
      goes_on = by_point tells crashes told asks s image broken list points old (kept_of s image broken list points old k) new parts (λ runs. sym (ap (λ (p : Parts). p.halted) alone) ∙ runs);
    };
    since = subst (λ (counts : List ℕ). IsKeptSince s (page_of image) k.served.start (lasting_in list) counts new) (sym (more_counts points (length list) few))
        (subst (λ (n : ℕ). IsKeptSince s (page_of image) k.served.start (lasting_in list) (counts_in points ++ n ∷ []) new) (length-map list lasting)
        (steps.pointed tells crashes told asks s (page_of image) k.served.start (lasting_in list) (counts_in points) old new k.settled empty moves alone));
    ring = same.ring ∙ k.ring;
    blocks = same.blocks ∙ k.blocks;
  }
