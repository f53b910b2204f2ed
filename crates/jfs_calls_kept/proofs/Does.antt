-- A call, in each of its outcomes.
use Rattle.std.specs.Bool.{⊤}
use Rattle.std.proofs.Common.{◌≡◌, ◌⊎◌, ◌<◌, ◌+◌, ◌^◌, ◌++◌, ℕ, Bool, true, false, true≢false, List, [], ◌∷◌, length, Option, Some, None, Result, Ok, Err, refl, sym, ap, ◌∙◌, subst, inl, inr, arith}
use Rattle.std.proofs.lemmas.List.{append-nil}
use Rattle.jfs_bits.specs.declared.descriptor.Moment.{Moment}
use Rattle.jfs_disk.specs.declared.disk.Fault.{Fault}
use Rattle.jfs_ranges.specs.declared.edit.Edit.{Edit}
use Rattle.jfs_entries_kept.specs.kept_volumes.specs.joined_held.specs.held.specs.Held.{Mount}
use Rattle.jfs_entries_kept.specs.kept_volumes.specs.pages_held.specs.Beside.{KeepsFiles}
use Rattle.jfs_entries_kept.specs.kept_volumes.specs.Keeper.{Keeper}
use Rattle.jfs_entries_kept.specs.kept_volumes.specs.Kept.{IsKept, Steps}
use Rattle.jfs_entries_kept.specs.kept_volumes.specs.Steps.{KeepsVolume}
use Rattle.jfs_entries_kept.specs.kept_volumes.proofs.Kept.{kept_quiet_law}
use Rattle.jfs_entries_kept.specs.kept_volumes.proofs.Same.{same_law}
use Rattle.jfs_entries_kept.proofs.Kept.{kept_asked_law, kept_reply_law}
use Rattle.jfs_served.specs.crash_core.specs.Step.{halted_by}
use Rattle.jfs_served.specs.shown.specs.bmap.specs.States.{Blocks}
use Rattle.jfs_served.specs.shown.specs.map_files.specs.declared.maps.Maps.{Maps}
use Rattle.jfs_served.specs.call.specs.Answer.{held}
use Rattle.jfs_served.specs.call.specs.Changed.{IsChangedBy}
use Rattle.jfs_served.specs.call.specs.Does.{Syncs as SyncsCall, TellsSynced, ChangesWhere, EndsBy, DoesWhere}
use Rattle.jfs_served.specs.call.specs.Needs.{AnswersOf}
use Rattle.jfs_served.specs.call.specs.Noted.{noted_in, noted_where, noted_at, noted_of}
use Rattle.jfs_served.specs.call.specs.Replied.{IsReplied}
use Rattle.jfs_served.specs.call.specs.declared.outcome.Outcome.{Outcome}
use Rattle.jfs_served.specs.call.specs.declared.outcome.Outcome.TheVariants.{Replied, NeedsLog, NoMemory}
use Rattle.jfs_served.specs.call.specs.declared.reply.Caller.{Caller}
use Rattle.jfs_served.specs.call.specs.files.specs.Outcome.{reserved_by}
use Rattle.jfs_served.specs.call.specs.files.specs.declared.outcome.FileOutcome.{FileOutcome}
use Rattle.jfs_served.specs.call.specs.files.specs.declared.outcome.FileOutcome.TheVariants.{Changed, Same as Unchanged, NeedsLog as Awaits}
use Rattle.jfs_served.specs.halves.specs.Entry.{Happened}
use Rattle.jfs_served.specs.halves.specs.Change.{Syncs, Stops, SameStates}
use Rattle.jfs_served.specs.halves.specs.Parts.{Parts}
use Rattle.jfs_served.specs.plain.specs.Call.{is_changing}
use Rattle.jfs_served.specs.plain.specs.CallStep.{is_sync}
use Rattle.jfs_served.specs.plain.specs.Limits.{FitsCall}
use Rattle.jfs_served.specs.plain.specs.declared.call.Request.{Request}
use Rattle.jfs_served.specs.plain.specs.declared.refusal.Refusal.TheVariants.{ReadOnly, IoFault}
use Rattle.jfs_served.specs.plain.specs.declared.reply.Reply.{Reply}
use Rattle.jfs_served.specs.plain.specs.declared.reply.Reply.TheVariants.{Done, Refused}
use Rattle.jfs_served.specs.volume.specs.Asked.{IsAskedOf}
use Rattle.jfs_served.specs.volume.specs.Called.{GivesBack, MayGiveBack, GoesOn}
use Rattle.jfs_served.specs.volume.specs.Join.{entry_with, unchanged}
use Rattle.jfs_served.specs.volume.specs.Runs.{taken_in}
use Rattle.jfs_served.specs.volume.specs.Settle.{SyncIs}
use Rattle.jfs_served.specs.volume.specs.Settles.{HomesAlone, HaltsAt}
use Rattle.jfs_served.specs.volume.specs.data_steps.specs.declared.pages.DataPage.{DataPage}
use Rattle.jfs_served.specs.shown.specs.bmap.specs.States.{AreReserved, Free, put_state}
use Rattle.jfs_served.specs.volume.specs.records.specs.Records.{noted}
use Rattle.jfs_served.specs.Holds.{MayServe}
use Rattle.jfs_served.proofs.Told.{told_home}
use Rattle.jfs_calls_kept.specs.Calls.{Joins, Leaves, DoesLaw}
use Rattle.jfs_calls_kept.proofs.Given.{reserved, other_memory, no_change, asked_on, to_asked, to_answers, to_joined, to_goes, to_fails}
use Rattle.jfs_calls_kept.proofs.Joined.{enters}
use Rattle.jfs_calls_kept.proofs.Stopped.{failed, read_only}

halted_stays : (fault : Fault) (o : Option Fault) → halted_by fault o ≡ None → o ≡ None
halted_stays fault None e = refl
halted_stays fault (Some first) e = e

module _ (tells crashes : Type 0) (told : tells) (left : crashes) (m : Mount) (area : ℕ → ℕ) (caller : Caller) (request : Request) (now : Moment) (old : Parts) (x : Keeper) (is : IsKept m area old x) where
  -- nothing happened yet
  itself : Steps m area old [] [] x
  itself = record { keeper = x; kept = is; grows = record { history = sym (append-nil x.both.volume.history); points_are = sym (append-nil x.both.volume.points); volumes = λ k low. refl; mounted = refl } }

  -- ---- replies

  replied : (given : Reply) (wait : Bool) (mid new : Parts) (outcome : Outcome) → Steps m area mid [] [] x → IsReplied caller request given wait mid new outcome → Leaves m area caller request now None new x outcome
  replied given wait mid new (Replied reply number waits) s r =
      let y = s.keeper in
      let h = unchanged caller.client caller.line request now given y.both.volume in
      let more = kept_reply_law m area caller.client caller.line request now given mid new y s.kept r.parts in
      subst (λ (a : Reply). Joins m area caller request now a None new x) (sym r.reply_is) (record {
        h = h;
        steps = record {
          keeper = more.keeper;
          kept = more.kept;
          grows = record {
            history = more.grows.history ∙ ap (λ (hs : List Happened). hs ++ h ∷ []) (s.grows.history ∙ append-nil x.both.volume.history);
            points_are = more.grows.points_are ∙ ap (λ (ps : List ℕ). ps ++ []) (s.grows.points_are ∙ append-nil x.both.volume.points);
            volumes = λ k low. more.grows.volumes k (let e = ap (λ (hs : List Happened). length hs) (s.grows.history ∙ append-nil x.both.volume.history) in omega (arith, low, e)) ∙ s.grows.volumes k low;
            mounted = more.grows.mounted ∙ s.grows.mounted;
          };
        };
        entry_is = refl;
        now_is = refl;
        logged_is = refl;
      })
  replied given wait mid new NeedsLog s r = absurd r
  replied given wait mid new NoMemory s r = subst (λ (p : Parts). Steps m area p [] [] x) (sym r) s

  -- ---- `sync`

  same_files : (mid : Parts) → HomesAlone ⊤ old mid → (mid.halted ≡ None → old.halted ≡ None) → KeepsFiles old mid
  same_files mid alone halted = record {
    files = ap (λ (p : Parts). p.files) alone.parts;
    agsize = ap (λ (p : Parts). p.map.agsize) alone.parts;
    inodes = ap (λ (p : Parts). p.inodes) alone.parts;
    halted = halted;
  }

  keeps : (mid : Parts) → HomesAlone ⊤ old mid → KeepsVolume area old mid
  keeps mid alone = same_law area old mid (alone.view tt) (ap (λ (p : Parts). p.map) alone.parts) (ap (λ (p : Parts). p.inodes) alone.parts)

  synced_by : (mid : Parts) (result : Result (Unit {0}) Fault) → SyncIs true true old mid x.both.volume result → HomesAlone ⊤ old mid → HaltsAt old.halted mid.halted result → Steps m area mid [] [] x
  synced_by mid (Ok done) moves alone halts = kept_quiet_law m area old mid (Syncs ∷ []) x is (λ e. absurd (true≢false (sym e))) (tt, tt) moves (keeps mid alone) (same_files mid alone (λ runs. sym halts ∙ runs))
  synced_by mid (Err fault) moves alone halts =
      kept_quiet_law m area old mid (Stops fault ∷ []) x is (λ e. absurd (true≢false (sym e))) (tt, tt) moves (keeps mid alone) (same_files mid alone (λ runs. halted_stays fault old.halted (sym halts ∙ runs)))

  syncs_as : (mid new : Parts) (outcome : Outcome) (result : Result (Unit {0}) Fault) → Steps m area mid [] [] x → TellsSynced caller request result mid new outcome → Leaves m area caller request now None new x outcome
  syncs_as mid new outcome (Ok done) s r = replied Done true mid new outcome s r
  syncs_as mid new outcome (Err fault) s r = replied (Refused (IoFault fault)) false mid new outcome s r

  synced : (new : Parts) (outcome : Outcome) → SyncsCall tells crashes caller request old new outcome → Leaves m area caller request now None new x outcome
  synced new outcome s = syncs_as s.mid new outcome s.synced (synced_by s.mid s.synced (s.is.sync true true (λ e. told) (λ e. left) x.both.volume is.rests.stands) (told_home tells crashes told old s.mid s.is.alone) s.is.halts) s.told

  -- ---- file calls

  none : (mid new : Parts) (outcome : Outcome) → Steps m area mid [] [] x → outcome ≡ NoMemory → new ≡ mid → Leaves m area caller request now None new x outcome
  none mid new outcome s e same = subst (Leaves m area caller request now None new x) (sym e) (subst (λ (p : Parts). Steps m area p [] [] x) (sym same) s)

  module _ (log_pages : ℕ) (mid : Parts) (may : MayServe area log_pages old) (fits : FitsCall request.call) (few : old.appended + 1 < 2 ^ 32) (asked : IsAskedOf ⊤ ⊤ old mid) where
    -- nothing was reserved
    as_it_was : mid.map ≡ old.map → Steps m area mid [] [] x
    as_it_was same = kept_asked_law m area old mid x is asked (no_change old.map mid.map (record { states = ap (λ (k : Blocks). k.states) same; agsize = ap (λ (k : Blocks). k.agsize) same }))

    module _ (tx : List Edit) (put : List DataPage) (answers : AnswersOf ⊤ request now old mid (Changed tx put)) where
      reserved_is : mid.map ≡ reserved_by tx old.map
      reserved_is = ap (λ (k : Maps). k.blocks) (answers.maps tt).now_is

      -- what is reserved stays so
      as_reserved : Steps m area mid [] [] x
      as_reserved = kept_asked_law m area old mid x is asked (reserved tx old.map mid.map (answers.maps tt).free reserved_is)

      goes_back : (new : Parts) → GivesBack tx mid new → GoesOn tells crashes mid new → Steps m area new [] [] x
      goes_back new given on = let goes = to_goes tells crashes told left mid new on in read_only m area log_pages request now tx put old mid x is may asked answers new given goes.halted goes.view (asked_on old mid new asked given.joins_not goes.halted goes.view goes.disk)

      may_go_back : (new : Parts) → MayGiveBack tx mid new → GoesOn tells crashes mid new → Steps m area new [] [] x
      may_go_back new given on = by given.map
        where
          goes : GoesOn ⊤ ⊤ mid new
          goes = to_goes tells crashes told left mid new on

          by : (AreReserved mid.map (taken_in tx) × SameStates new.map (put_state Free (taken_in tx) mid.map)) ⊎ SameStates new.map mid.map → Steps m area new [] [] x
          by (inl (are, same)) = goes_back new (record { reserved = are; joins_not = given.joins_not; map = same }) on
          by (inr same) = kept_asked_law m area old new x is (asked_on old mid new asked given.joins_not goes.halted goes.view goes.disk) (other_memory old.map mid.map new.map same (reserved tx old.map mid.map (answers.maps tt).free reserved_is))

      changed : (new : Parts) (outcome : Outcome) (ends : IsChangedBy tells crashes caller request tx put mid new outcome) → Leaves m area caller request now (noted_in tells crashes caller request tx put mid new outcome ends) new x outcome
      changed new (Replied reply number waits) (inl d) =
          subst (λ (given : Reply). Joins m area caller request now given (Some (noted tx d.joins.joins.notes)) new x) (sym d.reply_is)
          (enters m area log_pages caller request now tx put old mid x is may fits few asked answers new number (to_joined tells crashes told left (entry_with caller.client caller.line request Done) tx put number mid new d.joins))
      changed new (Replied reply number waits) (inr (fault, f)) =
          replied (Refused (IoFault fault)) false f.mid new (Replied reply number waits) (failed m area log_pages request now tx put old mid x is may asked answers f.mid f.given_back fault (to_fails tells crashes told left tx put fault mid f.mid f.fails))
          (record { reply_is = f.reply_is; waits_is = f.waits_not; number_is = f.number_is; parts = f.parts })
      changed new NeedsLog (given, goes, lacks) = goes_back new given goes
      changed new NoMemory (inl (given, goes)) = may_go_back new given goes
      changed new NoMemory (inr (inl same)) = subst (λ (p : Parts). Steps m area p [] [] x) (sym same) as_reserved
      changed new NoMemory (inr (inr f)) = failed m area log_pages request now tx put old mid x is may asked answers new f.given_back f.fault (to_fails tells crashes told left tx put f.fault mid new f.fails)

      changes : (changing : Bool) (new : Parts) (outcome : Outcome) (ends : ChangesWhere changing tells crashes caller request tx put mid new outcome) → Leaves m area caller request now (noted_where tells crashes changing caller request tx put mid new outcome ends) new x outcome
      changes true new outcome ends = changed new outcome ends
      changes false new outcome (e, same) = none mid new outcome as_reserved e same

    ends_by : (answer : FileOutcome) (new : Parts) (outcome : Outcome) → AnswersOf ⊤ request now old mid answer → (ends : EndsBy tells crashes caller request answer mid new outcome)
        → Leaves m area caller request now (noted_at tells crashes caller request answer mid new outcome ends) new x outcome
    ends_by (Changed tx put) new outcome answers ends = changes tx put answers (is_changing request.call) new outcome ends
    ends_by (Unchanged reply) new outcome answers (inl (kept, r)) = replied reply false mid new outcome (as_it_was (ap (λ (k : Maps). k.blocks) (answers.maps tt))) r
    ends_by (Unchanged reply) new outcome answers (inr (e, same)) = none mid new outcome (as_it_was (ap (λ (k : Maps). k.blocks) (answers.maps tt))) e same
    ends_by Awaits new outcome answers (e, same) =
        subst (Leaves m area caller request now None new x) (sym e) (subst (λ (p : Parts). Steps m area p [] [] x) (sym same) (as_it_was (ap (λ (k : Maps). k.blocks) (answers.maps tt))))

  does_where : (log_pages : ℕ) (refused : Option Fault) (syncs : Bool) (new : Parts) (outcome : Outcome) → MayServe area log_pages old → FitsCall request.call → old.appended + 1 < 2 ^ 32
      → (does : DoesWhere refused syncs tells crashes caller request now old new outcome) → Leaves m area caller request now (noted_of tells crashes refused syncs caller request now old new outcome does) new x outcome
  does_where log_pages (Some fault) syncs new outcome may fits few does = replied (Refused (ReadOnly fault)) false old new outcome itself does
  does_where log_pages None true new outcome may fits few does = synced new outcome does
  does_where log_pages None false new outcome may fits few does =
      ends_by log_pages does.mid may fits few (to_asked tells crashes told left old does.mid does.asked) does.answer new outcome (to_answers tells crashes told left request now old does.mid does.answer does.answers) does.ends

pub does_law : (tells crashes : Type 0) → DoesLaw tells crashes
does_law tells crashes told left m area log_pages caller request now old new outcome x is may fits few does =
    does_where tells crashes told left m area caller request now old x is log_pages (held old.halted request.call) (is_sync request.call) new outcome may fits few does
