-- A call with a transaction that is done.
use Rattle.std.specs.Bool.{⊤}
use Rattle.std.proofs.Common.{◌≡◌, ◌⊎◌, ◌<◌, ◌+◌, ◌^◌, ℕ, true, false, List, length, Some, refl, sym, ap, ◌∙◌, subst, inl, inr, arith}
use Rattle.std.specs.List.{AllByRecursion}
use Rattle.jfs_bits.specs.declared.descriptor.Moment.{Moment}
use Rattle.jfs_disk.specs.Image.{Image}
use Rattle.jfs_ranges.specs.View.{AreWhole}
use Rattle.jfs_ranges.specs.declared.edit.Edit.{Edit}
use Rattle.jfs_entered.proofs.Extents.{are_short}
use Rattle.jfs_entries_kept.specs.kept_volumes.specs.joined_held.specs.held.specs.Held.{Mount}
use Rattle.jfs_entries_kept.specs.kept_volumes.specs.joined_held.specs.held.specs.survival.specs.logged.specs.Own.{LogsItsOwn, IsKeptOrData}
use Rattle.jfs_entries_kept.specs.kept_volumes.specs.joined_held.specs.held.specs.survival.specs.logged.proofs.Own.{own_law}
use Rattle.jfs_entries_kept.specs.kept_volumes.specs.joined_held.specs.Called.{volume_then, IsAnswered}
use Rattle.jfs_entries_kept.specs.kept_volumes.specs.pages_held.specs.Beside.{KeepsFiles}
use Rattle.jfs_entries_kept.specs.kept_volumes.specs.pages_held.specs.Called.{DirtiesItsOwn}
use Rattle.jfs_entries_kept.specs.kept_volumes.specs.pages_held.specs.Pages.{MayBeDirty}
use Rattle.jfs_entries_kept.specs.kept_volumes.specs.Keeper.{Keeper}
use Rattle.jfs_entries_kept.specs.kept_volumes.specs.Kept.{IsKept}
use Rattle.jfs_entries_kept.proofs.Asked.{unreserved_law}
use Rattle.jfs_entries_kept.proofs.Kept.{kept_entry_law}
use Rattle.jfs_joined_logged.specs.Answered.{IsAnsweredCall}
use Rattle.jfs_joined_logged.proofs.Answered.{answered_law}
use Rattle.jfs_served.specs.shown.specs.map_files.specs.declared.maps.Maps.{Maps}
use Rattle.jfs_served.specs.shown.specs.bmap.specs.States.{Blocks, Free, state_of}
use Rattle.jfs_served.specs.shown.specs.objects.specs.Readers.{Readers}
use Rattle.jfs_served.specs.shown.specs.objects.specs.Volume.{Volume}
use Rattle.jfs_served.specs.shown.specs.meaning.specs.Readers.{readers}
use Rattle.jfs_served.specs.call.specs.Needs.{AnswersOf}
use Rattle.jfs_served.specs.call.specs.declared.reply.Caller.{Caller}
use Rattle.jfs_served.specs.call.specs.files.specs.Outcome.{reserved_by}
use Rattle.jfs_served.specs.call.specs.files.specs.Written.{StartsWith}
use Rattle.jfs_served.specs.call.specs.files.specs.declared.outcome.FileOutcome.TheVariants.{Changed}
use Rattle.jfs_served.specs.halves.specs.Change.{SameStates}
use Rattle.jfs_served.specs.halves.specs.Parts.{Parts, StandsFor}
use Rattle.jfs_served.specs.plain.specs.Limits.{FitsCall}
use Rattle.jfs_served.specs.plain.specs.Step.{outcome}
use Rattle.jfs_served.specs.plain.specs.declared.call.Request.{Request}
use Rattle.jfs_served.specs.plain.specs.declared.reply.Reply.TheVariants.{Done}
use Rattle.jfs_served.specs.volume.specs.Append.{unreserved}
use Rattle.jfs_served.specs.volume.specs.Asked.{IsAskedOf}
use Rattle.jfs_served.specs.volume.specs.Called.{IsJoined, happened}
use Rattle.jfs_served.specs.volume.specs.Join.{entry_with}
use Rattle.jfs_served.specs.volume.specs.Lent.{first_whole}
use Rattle.jfs_served.specs.volume.specs.data_steps.specs.After.{after_writes, with_data}
use Rattle.jfs_served.specs.volume.specs.data_steps.specs.declared.pages.DataPage.{DataPage}
use Rattle.jfs_served.specs.volume.specs.data_steps.specs.steps.specs.After.{takes}
use Rattle.jfs_served.specs.volume.specs.data_steps.specs.steps.specs.Call.{IsDone}
use Rattle.jfs_served.specs.volume.specs.records.specs.Limits.{IsLoggable}
use Rattle.jfs_served.specs.volume.specs.records.specs.Records.{noted}
use Rattle.jfs_served.specs.Holds.{blocks_at, volume_at, room_at, MayServe}
use Rattle.jfs_served.proofs.Given.{mid_size}
use Rattle.jfs_served.proofs.Keeps.{between}
use Rattle.jfs_calls_kept.specs.Calls.{Joins}
use Rattle.jfs_calls_kept.proofs.Given.{unreserved_states}

-- ---- what may be dirty

kept_or_not : (r : Readers) (v : Volume) (q : ℕ) → IsKeptOrData r v q ⊎ (v.used q ≡ false) → MayBeDirty r v q
kept_or_not r v q (inl (inl logged)) = inl logged
kept_or_not r v q (inl (inr data_of)) = inr (inl data_of)
kept_or_not r v q (inr unused) = inr (inr unused)

or_kept : (r : Readers) (v : Volume) (q : ℕ) → MayBeDirty r v q → IsKeptOrData r v q ⊎ (v.used q ≡ false)
or_kept r v q (inl logged) = inl (inl logged)
or_kept r v q (inr (inl data_of)) = inl (inr data_of)
or_kept r v q (inr (inr unused)) = inr unused

dirties : (r : Readers) (v w : Volume) (tx : List Edit) → LogsItsOwn r v w tx → DirtiesItsOwn r v w tx
dirties r v w tx own = record {
  told = λ q touched. kept_or_not r w q (own_law.told r v w tx own q touched);
  stays = λ q was. kept_or_not r w q (own_law.stays r v w tx own q (or_kept r v q was));
}

module _ (m : Mount) (area : ℕ → ℕ) (log_pages : ℕ) (caller : Caller) (request : Request) (now : Moment) (tx : List Edit) (put : List DataPage) (old mid : Parts) (x : Keeper) (is : IsKept m area old x)
    (may : MayServe area log_pages old) (fits : FitsCall request.call) (few : old.appended + 1 < 2 ^ 32) (asked : IsAskedOf ⊤ ⊤ old mid) (answers : AnswersOf ⊤ request now old mid (Changed tx put)) where
  abbrev n : ℕ
  n = blocks_at old

  abbrev v : Volume
  v = volume_at area old

  abbrev w : Volume
  w = volume_then area old tx put

  free : (b : ℕ) → 0 < takes tx b → state_of old.map b ≡ Free
  free = (answers.maps tt).free

  reserved_is : mid.map ≡ reserved_by tx old.map
  reserved_is = ap (λ (k : Maps). k.blocks) (answers.maps tt).now_is

  size : length mid.map.states ≡ n
  size = mid_size tx old.map mid.map free reserved_is

  done : IsDone n v (after_writes n put tx v) (λ t. outcome (room_at area log_pages old) t request.call now)
  done = answers.follows tt (between area log_pages old may) area may.holds.consistent log_pages may.holds.limit

  starts : StartsWith n v request.call put
  starts = answers.starts tt (between area log_pages old may) area may.holds.consistent log_pages may.holds.limit

  answered : IsAnswered area old mid tx put
  answered = record {
    view = asked.view tt;
    inodes = ap (λ (p : Parts). p.inodes) asked.parts;
    part = ap (λ (p : Parts). p.blocks) asked.parts;
    reserved = record { free = free; states = ap (λ (k : Blocks). k.states) reserved_is };
    before = may.holds.consistent;
    behind_data = starts.consistent;
    behind_all = done.consistent;
    areas = done.areas;
    own = starts.own;
    lies = answers.contents.0;
    whole = answers.contents.1;
    within = may.holds.within;
    places = may.holds.places;
    bits = may.holds.bits;
  }

  files : KeepsFiles old mid
  files = record {
    files = ap (λ (p : Parts). p.files) asked.parts;
    agsize = ap (λ (k : Blocks). k.agsize) reserved_is;
    inodes = ap (λ (p : Parts). p.inodes) asked.parts;
    halted = λ runs. sym (ap (λ (p : Parts). p.halted) asked.parts) ∙ runs;
  }

  module _ (new : Parts) (number : ℕ) (joined : IsJoined ⊤ ⊤ (entry_with caller.client caller.line request Done) tx put number mid new) where
    whole : AreWhole n old.view
    whole = first_whole n old.blocks old.view may.holds.within
        (subst (λ (k : ℕ). AreWhole k old.view) (ap (λ (p : Parts). p.blocks) asked.parts) (subst (λ (image : Image). AreWhole mid.blocks image) (asked.view tt) (joined.joins.whole tt)))

    call_is : IsAnsweredCall area old request.call now tx put
    call_is = record { consistent = may.holds.consistent; whole = whole; fits = fits; put_whole = answers.contents.1; meets = answers.meets tt }

    free_again : SameStates (unreserved tx mid).map old.map
    free_again = unreserved_states n tx old.map mid.map
        (are_short n tx joined.joins.notes joined.joins.each (subst (λ (k : ℕ). AllByRecursion (IsLoggable k) (noted tx joined.joins.notes)) size joined.joins.loggable)) free reserved_is

    stands : StandsFor true true (unreserved tx mid) x.both.volume
    stands = unreserved_law m area tx old mid x is.rests asked free_again

    own : DirtiesItsOwn m.readers (with_data put v) w tx
    own = subst (λ (r : Readers). DirtiesItsOwn r (with_data put v) w tx) is.rests.held.readers_are (dirties (readers n) (with_data put v) w tx (answered_law.own area old request.call now tx put call_is))

    pub enters : Joins m area caller request now Done (Some (noted tx joined.joins.notes)) new x
    enters = record {
      h = happened (entry_with caller.client caller.line request Done) now tx joined.joins.notes put new.inodes x.both.volume;
      steps = kept_entry_law m area now tx put (entry_with caller.client caller.line request Done) number old mid new x is answered files joined stands (answered_law.logs m area old request.call now tx put is.rests.held.readers_are call_is) own
          (let a = ap (λ (p : Parts). p.appended) asked.parts in omega (arith, a, few));
      entry_is = refl;
      now_is = refl;
      logged_is = refl;
    }
