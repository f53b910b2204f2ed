-- A call with a transaction that failed: a page couldn't be read, or a write of its data failed.
use Rattle.std.specs.Bool.{⊤}
use Rattle.std.proofs.Common.{◌≡◌, ◌⊎◌, ◌<◌, ℕ, true, List, [], Option, Some, None, sym, ap, ◌∙◌, subst, inl, inr}
use Rattle.jfs_bits.specs.declared.descriptor.Moment.{Moment}
use Rattle.jfs_disk.specs.declared.disk.Fault.{Fault}
use Rattle.jfs_ranges.specs.declared.edit.Edit.{Edit}
use Rattle.jfs_entries_kept.specs.kept_volumes.specs.joined_held.specs.held.specs.Changes.{TakesData}
use Rattle.jfs_entries_kept.specs.kept_volumes.specs.joined_held.specs.held.specs.Held.{Mount}
use Rattle.jfs_entries_kept.specs.kept_volumes.specs.joined_held.specs.held_calls.proofs.Calls.{own_law}
use Rattle.jfs_entries_kept.specs.kept_volumes.specs.pages_held.specs.Beside.{KeepsFiles}
use Rattle.jfs_entries_kept.specs.kept_volumes.specs.Keeper.{Keeper}
use Rattle.jfs_entries_kept.specs.kept_volumes.specs.Kept.{IsKept, Steps}
use Rattle.jfs_entries_kept.proofs.Asked.{unreserved_law}
use Rattle.jfs_entries_kept.proofs.Kept.{kept_asked_law, kept_stop_law}
use Rattle.jfs_served.specs.shown.specs.bmap.specs.States.{Free, state_of, put_state}
use Rattle.jfs_served.specs.shown.specs.map_files.specs.declared.maps.Maps.{Maps}
use Rattle.jfs_served.specs.shown.specs.objects.specs.Readers.{Readers}
use Rattle.jfs_served.specs.call.specs.Needs.{AnswersOf}
use Rattle.jfs_served.specs.call.specs.files.specs.Outcome.{reserved_by}
use Rattle.jfs_served.specs.call.specs.files.specs.Written.{StartsWith}
use Rattle.jfs_served.specs.call.specs.files.specs.declared.outcome.FileOutcome.TheVariants.{Changed}
use Rattle.jfs_served.specs.halves.specs.Change.{SameStates}
use Rattle.jfs_served.specs.halves.specs.Parts.{Parts, StandsFor}
use Rattle.jfs_served.specs.plain.specs.declared.call.Request.{Request}
use Rattle.jfs_served.specs.volume.specs.Append.{unreserved}
use Rattle.jfs_served.specs.volume.specs.Asked.{IsAskedOf}
use Rattle.jfs_served.specs.volume.specs.Called.{GivesBack, FailsBy, StopsReading, StopsPutting}
use Rattle.jfs_served.specs.volume.specs.Runs.{taken_in}
use Rattle.jfs_served.specs.volume.specs.Written.{StopsWriting}
use Rattle.jfs_served.specs.volume.specs.data_steps.specs.After.{is_put}
use Rattle.jfs_served.specs.volume.specs.data_steps.specs.declared.pages.DataPage.{DataPage}
use Rattle.jfs_served.specs.volume.specs.data_steps.specs.steps.specs.After.{takes}
use Rattle.jfs_served.specs.Holds.{blocks_at, volume_at, MayServe}
use Rattle.jfs_served.proofs.Keeps.{between}
use Rattle.jfs_calls_kept.proofs.Given.{given_back, no_change, asked_on}

module _ (m : Mount) (area : ℕ → ℕ) (log_pages : ℕ) (request : Request) (now : Moment) (tx : List Edit) (put : List DataPage) (old mid : Parts) (x : Keeper) (is : IsKept m area old x)
    (may : MayServe area log_pages old) (asked : IsAskedOf ⊤ ⊤ old mid) (answers : AnswersOf ⊤ request now old mid (Changed tx put)) where
  free : (b : ℕ) → 0 < takes tx b → state_of old.map b ≡ Free
  free = (answers.maps tt).free

  reserved_is : mid.map ≡ reserved_by tx old.map
  reserved_is = ap (λ (k : Maps). k.blocks) (answers.maps tt).now_is

  module _ (back : Parts) (given : GivesBack tx mid back) where
    free_again : SameStates (put_state Free (taken_in tx) mid.map) old.map
    free_again = given_back tx old.map mid.map may.none free reserved_is given.reserved

    map_is : SameStates back.map old.map
    map_is = record { states = given.map.states ∙ free_again.states; agsize = given.map.agsize ∙ free_again.agsize }

    -- nothing was written
    pub read_only : back.halted ≡ mid.halted → (⊤ → back.view ≡ mid.view) → IsAskedOf ⊤ ⊤ old back → Steps m area back [] [] x
    read_only halted view on = kept_asked_law m area old back x is on (no_change old.map back.map map_is)

    -- ---- a write failed

    starts : StartsWith (blocks_at old) (volume_at area old) request.call put
    starts = answers.starts tt (between area log_pages old may) area may.holds.consistent log_pages may.holds.limit

    stands : StandsFor true true (unreserved tx mid) x.both.volume
    stands = unreserved_law m area tx old mid x is.rests asked free_again

    takes_data : (b : ℕ) → is_put b put ≡ true → TakesData m.readers (volume_at area old) b
    takes_data b e = subst (λ (r : Readers). TakesData r (volume_at area old) b) is.rests.held.readers_are (own_law (blocks_at old) (volume_at area old) put starts.own b e)

    halts : {A : Type 0} (fault : Fault) (o : Option Fault) → o ≡ Some fault → o ≡ None → A
    halts fault o some none = absurd (let e : Some fault ≡ None = sym some ∙ none in cc (e))

    files : (fault : Fault) → back.halted ≡ Some fault → KeepsFiles old back
    files fault halted = record {
      files = ap (λ (p : Parts). p.files) given.joins_not.parts ∙ ap (λ (p : Parts). p.files) asked.parts;
      agsize = map_is.agsize;
      inodes = ap (λ (p : Parts). p.inodes) given.joins_not.parts ∙ ap (λ (p : Parts). p.inodes) asked.parts;
      halted = λ runs. halts fault back.halted halted runs;
    }

    written : (fault : Fault) → back.halted ≡ Some fault → StopsWriting true true put (unreserved tx mid) back x.both.volume fault → Steps m area back [] [] x
    written fault halted stop = kept_stop_law m area put stop.front stop.stops.last old (unreserved tx mid) back x is
        (record { next = stop.next; rest = stop.rest; fault = fault; split = stop.split; stop = stop.stops.is; takes = takes_data; whole = answers.contents.1 }) stop.stops.moves map_is (files fault halted)

    pub failed : (fault : Fault) → FailsBy ⊤ ⊤ tx put fault mid back → Steps m area back [] [] x
    failed fault fails = by fails.fails
      where
        by : StopsReading ⊤ ⊤ mid back ⊎ StopsPutting ⊤ ⊤ tx put fault mid back → Steps m area back [] [] x
        by (inl r) = read_only r.halted r.view (asked_on old mid back asked given.joins_not r.halted r.view r.disk)
        by (inr p) = written fault p.halted (p.moves true true (λ e. tt) (λ e. tt) x.both.volume stands)
