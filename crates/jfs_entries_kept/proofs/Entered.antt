-- An entry joins with its data and its transaction.
use Rattle.std.specs.Bool.{⊤}
use Rattle.std.proofs.Common.{◌≡◌, ◌<◌, ◌+◌, ◌^◌, ◌++◌, nat_lt, if◌then◌else◌, ℕ, true, List, [], ◌∷◌, length, sym, ap, ◌∙◌, subst, arith}
use Rattle.std.specs.List.{AllByRecursion}
use Rattle.std.proofs.lemmas.List.{append-nil, length-append}
use Rattle.jfs_bits.specs.declared.descriptor.Moment.{Moment}
use Rattle.jfs_ranges.specs.declared.edit.Edit.{Edit}
use Rattle.jfs_kept_volumes.specs.volume_calls.specs.plain.specs.declared.call.Entry.{Entry}
use Rattle.jfs_kept_volumes.specs.volume_calls.specs.records.specs.Limits.{IsLoggable}
use Rattle.jfs_kept_volumes.specs.volume_calls.specs.records.specs.Records.{noted}
use Rattle.jfs_kept_volumes.specs.volume_calls.specs.halves.specs.Entry.{Happened}
use Rattle.jfs_kept_volumes.specs.volume_calls.specs.halves.specs.Half.{VolumeHalf}
use Rattle.jfs_kept_volumes.specs.volume_calls.specs.halves.specs.Change.{Enters, after}
use Rattle.jfs_kept_volumes.specs.volume_calls.specs.halves.specs.Moves.{Moves}
use Rattle.jfs_kept_volumes.specs.volume_calls.specs.halves.specs.Parts.{Parts, StandsFor}
use Rattle.jfs_kept_volumes.specs.volume_calls.specs.volume.specs.Append.{unreserved}
use Rattle.jfs_kept_volumes.specs.volume_calls.specs.volume.specs.Called.{JoinsWith, IsJoined, happened}
use Rattle.jfs_kept_volumes.specs.volume_calls.specs.volume.specs.Written.{writes}
use Rattle.jfs_kept_volumes.specs.volume_calls.specs.volume.specs.bmap.specs.States.{BlockState, Reserved}
use Rattle.jfs_kept_volumes.specs.volume_calls.specs.volume.specs.bmap.proofs.States.{changed-length}
use Rattle.jfs_kept_volumes.specs.volume_calls.specs.volume.specs.data_steps.specs.declared.pages.DataPage.{DataPage}
use Rattle.jfs_kept_volumes.specs.volume_calls.specs.volume.specs.data_steps.specs.objects.specs.Volume.{Volume}
use Rattle.jfs_kept_volumes.specs.volume_calls.specs.volume.specs.data_steps.specs.steps.specs.After.{takes}
use Rattle.jfs_kept_volumes.specs.joined_held.specs.held.specs.survival.proofs.Changes.{counted}
use Rattle.jfs_kept_volumes.specs.joined_held.specs.held.specs.Held.{Mount, Held, face_at}
use Rattle.jfs_kept_volumes.specs.joined_held.specs.held.specs.Changes.{Made, after as after_all}
use Rattle.jfs_kept_volumes.specs.joined_held.specs.held.proofs.Crash.{run_law}
use Rattle.jfs_kept_volumes.specs.joined_held.specs.held_calls.specs.Calls.{made_by}
use Rattle.jfs_kept_volumes.specs.joined_held.specs.Held.{blocks_at, volume_at, held_at}
use Rattle.jfs_kept_volumes.specs.joined_held.specs.Called.{volume_then, IsAnswered, LogsCall, IsRunOfCall}
use Rattle.jfs_kept_volumes.specs.joined_held.proofs.Called.{called_law}
use Rattle.jfs_kept_volumes.specs.Keeper.{Keeper}
use Rattle.jfs_kept_volumes.specs.Kept.{IsHeldAtRest}
use Rattle.jfs_kept_volumes.specs.Rest.{IsAtRest}
use Rattle.jfs_kept_volumes.specs.Steps.{CanBeLogged}
use Rattle.jfs_kept_volumes.specs.held_maps.proofs.Kept.{run_law as run_maps}
use Rattle.jfs_kept_volumes.proofs.Made.{same_mounted}
use Rattle.jfs_kept_volumes.proofs.Maps.{of_volume}
use Rattle.jfs_entries_kept.specs.Entries.{Comes, entered_by, EntryLaw}
use Rattle.jfs_entries_kept.proofs.To.{made_is, half_to, rest_to, history_to, points_to, last_to}

module _ (m : Mount) (area : ℕ → ℕ) (now : Moment) (tx : List Edit) (put : List DataPage) (entry : Entry) (number : ℕ) (old mid new : Parts) (x : Keeper) (is : IsHeldAtRest m area old x) (answered : IsAnswered area old mid tx put)
    (joined : IsJoined ⊤ ⊤ entry tx put number mid new) (stands : StandsFor true true (unreserved tx mid) x.both.volume) (logs : LogsCall m area old tx put) (few : mid.appended + 1 < 2 ^ 32) where
  abbrev h : Happened
  h = happened entry now tx joined.joins.notes put new.inodes x.both.volume

  abbrev joins : JoinsWith ⊤ entry tx put number mid new
  joins = joined.joins

  moves : Moves true true (unreserved tx mid) new x.both.volume (writes put ++ Enters h ∷ [])
  moves = joined.moves now true true (λ e. tt) (λ e. tt) x.both.volume stands

  abbrev v : Volume
  v = volume_at area old

  abbrev w : Volume
  w = volume_then area old tx put

  abbrev start : Held
  start = held_at x.both x.core x.volumes area old

  abbrev ds : List Made
  ds = made_by v put h w

  run : IsRunOfCall m area old new x.both x.core x.volumes put h w
  run = called_law m area now tx put entry number true old mid new x.both x.core x.volumes is.held answered joined stands logs

  -- ---- the half then

  half_is : (after_all m start ds).both.volume ≡ after x.both.volume (writes put ++ Enters h ∷ [])
  half_is = ap (λ (l : List Made). (after_all m start l).both.volume) (made_is v put h w) ∙ half_to m put (Enters h) start v w

  history_is : (after x.both.volume (writes put ++ Enters h ∷ [])).history ≡ x.both.volume.history ++ h ∷ []
  history_is = ap (λ (half : VolumeHalf). half.history) (last_to put (Enters h) x.both.volume) ∙ ap (λ (hs : List Happened). hs ++ h ∷ []) (history_to put x.both.volume)

  points_are : (after x.both.volume (writes put ++ Enters h ∷ [])).points ≡ x.both.volume.points
  points_are = ap (λ (half : VolumeHalf). half.points) (last_to put (Enters h) x.both.volume) ∙ points_to put x.both.volume

  -- ---- its log

  size : length mid.map.states ≡ blocks_at old
  size = ap (λ (states : List BlockState). length states) answered.reserved.states ∙ changed-length (λ (b : ℕ) (s : BlockState). if nat_lt 0 (takes tx b) then Reserved else s) old.map

  can : CanBeLogged (blocks_at old) (after x.both.volume (writes put)) h
  can = record {
    number = (
        let a = ap (λ (p : Parts). p.appended) joins.adds.parts in
        let b = moves.stands.appended in
        let c = ap (λ (hs : List Happened). length hs) history_is ∙ length-append x.both.volume.history (h ∷ []) in
        let d = ap (λ (hs : List Happened). length hs) (history_to put x.both.volume) in
        omega (arith, a, b, c, d, few));
    edits = subst (λ (n : ℕ). AllByRecursion (IsLoggable n) (noted tx joins.notes)) size joins.loggable;
  }

  rest : IsAtRest (blocks_at old) (after_all m start ds).both
  rest = subst (λ (l : List Made). IsAtRest (blocks_at old) (after_all m start l).both) (sym (made_is v put h w)) (rest_to m (blocks_at old) put (Enters h) start v w is.rest moves.fit (λ e. can))

  pub entered : Comes m area new (h ∷ []) x (entered_by m area old tx put h x)
  entered = record {
    rests = record {
      held = run.held;
      stands = subst (λ (half : VolumeHalf). StandsFor true true new half) (sym half_is) moves.stands;
      rest = subst (λ (n : ℕ). IsAtRest n (after_all m start ds).both) (sym is.held.blocks ∙ run.held.blocks) rest;
      maps = of_volume m (after_all m start ds) (volume_at area new) (after_all m start ds).volumes (run_maps m start ds is.held.held is.maps run.may);
    };
    grows = record {
      history = ap (λ (half : VolumeHalf). half.history) half_is ∙ history_is;
      points_are = ap (λ (half : VolumeHalf). half.points) half_is ∙ points_are ∙ sym (append-nil x.both.volume.points);
      volumes = λ k low. (run_law m start ds is.held.held run.may).volumes k (let n = counted (face_at m) x.both x.core is.held.held.core_is in omega (arith, low, n));
      mounted = same_mounted m start ds;
    };
  }

pub entry_law : EntryLaw
entry_law m area now tx put entry number old mid new x is answered joined stands logs few = entered m area now tx put entry number old mid new x is answered joined stands logs few
