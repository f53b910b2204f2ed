-- Write and fill among the calls.
use Rattle.std.proofs.Common.{◌≡◌, ◌⊎◌, inl, inr, ◌≤◌, refl, sym, ap, ◌∙◌, subst, ℕ, ◌+◌, true, false, true≢false, List, Result, Ok, Err, IfOk, IfErr, arith}
use Rattle.jfs_bits.specs.declared.descriptor.Moment.{Moment}
use Rattle.jfs_disk.specs.declared.disk.Fault.{Fault}
use Rattle.jfs_super.specs.Geometry.{file_limit_of}
use Rattle.jfs_create.specs.bmap.specs.States.{Blocks, unowned_count}
use Rattle.jfs_plain.specs.Tree.{Tree}
use Rattle.jfs_plain.specs.Step.{Room, Outcome, need_of_bytes}
use Rattle.jfs_plain.specs.declared.call.Call.{Call}
use Rattle.jfs_plain.specs.declared.refusal.Refusal.{Refusal}
use Rattle.jfs_look.specs.meaning.specs.Readers.{readers}
use Rattle.jfs_look.specs.meaning.specs.Room.{room_on}
use Rattle.jfs_look.specs.meaning.specs.Tree.{tree_on}
use Rattle.jfs_look.specs.meaning.specs.Consistent.{IsConsistent}
use Rattle.jfs_create.specs.room.specs.Laws.{blocks_in}
use Rattle.jfs_look.specs.way.specs.Answer.{is_open}
use Rattle.jfs_look.specs.way.specs.Way.{path_of}
use Rattle.jfs_look.specs.way.specs.declared.object.Held.{Held}
use Rattle.jfs_truncate.specs.data_steps.specs.After.{AreWholePages, LieWithin}
use Rattle.jfs_create.specs.claim.specs.Look.{space_for}
use Rattle.jfs_create.specs.claim.specs.declared.reserve.Want.{Want}
use Rattle.jfs_write.specs.file_blocks.specs.Reserving.{total}
use Rattle.jfs_write.specs.file_blocks.specs.declared.reserve.FileWant.{FileWant}
use Rattle.jfs_write.specs.Look.{why_kept, unless}
use Rattle.jfs_write.specs.Call.{CarriesStop, MapAfter, BusyAlone, if_space, allowed_at, allowed_of, IsWritten, IsStopped, IsDeep, StepsInRoom, StartsOn}
use Rattle.jfs_write.specs.declared.answer.Stop.{Stop}
use Rattle.jfs_write.specs.declared.answer.Stop.TheVariants as stops
use Rattle.jfs_write.specs.declared.make.Written.{Written}
use Rattle.jfs_files.specs.Outcome.{CarriesOutcome, ReservesAlone, KeepsMaps, MapsAfter, AreBetweenCalls, IsBusyFor, WantsBytes, AnswersAs, AnswersOr, volume_in}
use Rattle.jfs_files.specs.Written.{FitsData, FreesNothing, Starts, ChangesIfDone}
use Rattle.jfs_files.specs.Bytes.{outcome_of, MeetsBytes}
use Rattle.jfs_map_files.specs.declared.maps.Maps.{Maps}
use Rattle.jfs_files.specs.declared.outcome.FileOutcome.{FileOutcome}
use Rattle.jfs_files.specs.declared.outcome.FileOutcome.TheVariants.{Changed, Same, NeedsLog}
use Rattle.jfs_plain.specs.declared.reply.Reply.TheVariants as reply
use Rattle.jfs_truncate.specs.objects.specs.Volume.{Volume}
use Rattle.jfs_files.proofs.Links.{both_ok, maps_after, left_for}

-- what the plain step knows
pub or_not : (bars : Refusal → Type 0) (blocks : ℕ) (map : Blocks) (v : Volume) (wants : Want → Type 0) (plain : Tree → Outcome) (outcome : FileOutcome) → AnswersAs blocks map v wants plain outcome → AnswersOr bars blocks map v wants plain outcome
or_not bars blocks map v wants plain (Changed tx written) h = h
or_not bars blocks map v wants plain (Same (reply.Refused why)) h = inl h
or_not bars blocks map v wants plain (Same reply.Done) h = h
or_not bars blocks map v wants plain (Same (reply.Bytes bytes)) h = h
or_not bars blocks map v wants plain (Same (reply.Attr stat)) h = h
or_not bars blocks map v wants plain (Same (reply.Names names)) h = h
or_not bars blocks map v wants plain (Same (reply.Target target)) h = h
or_not bars blocks map v wants plain NeedsLog h = h

pub fault_told : (before now : Fault) (r : Result Written Stop) → CarriesStop before now r → CarriesOutcome before now (outcome_of r)
fault_told before now (Ok out) e = e
fault_told before now (Err (stops.Refused why)) e = e
fault_told before now (Err stops.NeedsLog) e = e

pub data_fits : (blocks : ℕ) (r : Result Written Stop) → IfOk r (λ out. LieWithin blocks out.blocks) → IfOk r (λ out. AreWholePages out.blocks) → FitsData blocks (outcome_of r)
data_fits blocks (Ok out) l w = (l, w)
data_fits blocks (Err (stops.Refused why)) l w = tt
data_fits blocks (Err stops.NeedsLog) l w = tt

pub same_maps : (maps new : Maps) (after : Blocks) → after ≡ maps.blocks → new ≡ record maps { blocks = after } → new ≡ maps
same_maps maps new after m e = e ∙ ap (λ (b : Blocks). record maps { blocks = b }) m

pub map_kept : (maps new : Maps) (after : Blocks) (r : Result Written Stop) → MapAfter maps.blocks after r → new ≡ record maps { blocks = after } → KeepsMaps maps new (outcome_of r)
map_kept maps new after (Ok out) m e = inr (subst (λ (n : Maps). ReservesAlone maps n) (sym e) (m.0, m.1, refl))
map_kept maps new after (Err (stops.Refused why)) m e = same_maps maps new after m e
map_kept maps new after (Err stops.NeedsLog) m e = same_maps maps new after m.0 e

joined : (A B C : Type 0) → A ⊎ (B ⊎ C) → (A ⊎ B) ⊎ C
joined A B C (inl a) = inl (inl a)
joined A B C (inr (inl b)) = inl (inr b)
joined A B C (inr (inr c)) = inr c

-- a space that is there is at least the 64 blocks that are always kept
if_space_ok : (s : Result (Unit {0}) Refusal) (at found : Held) → if_space s at ≡ Ok found → s ≡ Ok tt
if_space_ok (Ok it) at found e = refl
if_space_ok (Err why) at found e = absurd (cc (e))

module _ (blocks : ℕ) (pages : ℕ → List ℕ) (maps : Maps) (path : List (List ℕ)) (offset count : ℕ) where
  room_left : (at : Held) → allowed_of blocks pages maps.blocks maps.inodes path offset count maps.file_limit ≡ Ok at → 64 ≤ unowned_count maps.blocks
  room_left at e =
      let walked = both_ok (path_of blocks pages maps.inodes path) (allowed_at maps.blocks offset count maps.file_limit) at e in
      let kept = both_ok (unless (why_kept walked.0.inode (offset + count) maps.file_limit) walked.0) (if_space (space_for (unowned_count maps.blocks) (need_of_bytes offset count))) at walked.2 in
      let left = left_for (unowned_count maps.blocks) (need_of_bytes offset count) tt (if_space_ok (space_for (unowned_count maps.blocks) (need_of_bytes offset count)) kept.0 at kept.2) in
      omega (arith, left)

  module _ (bytes : List ℕ) (now : Moment) (after : Blocks) where
    pub map_then : (new : Maps) (r : Result Written Stop) → MapAfter maps.blocks after r → IfOk r (IsWritten blocks pages maps.inodes path offset bytes maps.file_limit now maps.blocks after) → new ≡ record maps { blocks = after } → MapsAfter maps new (outcome_of r)
    map_then new (Ok out) m w e = let t = w.writes.made.reserves in maps_after maps new after out.tx (t.0, t.1.taken_are, t.2) e
    map_then new (Err (stops.Refused why)) m w e = same_maps maps new after m e
    map_then new (Err stops.NeedsLog) m w e = same_maps maps new after m.0 e

    pub frees_nothing : (r : Result Written Stop) → IfOk r (IsWritten blocks pages maps.inodes path offset bytes maps.file_limit now maps.blocks after) → FreesNothing (outcome_of r)
    frees_nothing (Ok out) w = w.writes.made.reserves.1.freed_are
    frees_nothing (Err (stops.Refused why)) w = tt
    frees_nothing (Err stops.NeedsLog) w = tt

    pub bytes_met : (r : Result Written Stop) → IfOk r (IsWritten blocks pages maps.inodes path offset bytes maps.file_limit now maps.blocks after)
        → IfErr r (IsStopped blocks pages maps.inodes path offset count maps.file_limit maps.blocks) → MeetsBytes blocks pages maps path offset bytes count now (outcome_of r)
    bytes_met (Ok out) w s = (after, w)
    bytes_met (Err (stops.Refused why)) w s = s
    bytes_met (Err stops.NeedsLog) w s = s

  module _ (between : AreBetweenCalls blocks maps) (area : ℕ → ℕ) (con : IsConsistent (readers blocks) (volume_in pages area maps)) (size : blocks_in maps.blocks ≡ blocks) where
    pub data_starts : (call : Call) (r : Result Written Stop) → IfOk r (StartsOn blocks pages maps.blocks maps.inodes call) → Starts blocks (volume_in pages area maps) call (outcome_of r)
    data_starts call (Ok out) s = let starts = s size between.within area con in record { rest = starts.leaves; consistent = starts.consistent; own = inr starts.own; once = starts.once }
    data_starts call (Err (stops.Refused why)) s = tt
    data_starts call (Err stops.NeedsLog) s = tt

    busy_alone : (want : FileWant) → total want ≤ 32 → BusyAlone maps.blocks want → 64 ≤ unowned_count maps.blocks → IsBusyFor maps.blocks (record { run = false; blocks = total want })
    busy_alone want most busy left = (inl (let few = busy.few in omega (arith, few)), ((let enough = busy.settled between.rest.none (omega (arith, most, left)) in omega (arith, enough)), λ run. absurd (true≢false (sym run))))

    pub bytes_follow : (plain : Room → Tree → Outcome) (after : Blocks) (r : Result Written Stop) → StepsInRoom blocks pages maps.blocks maps.inodes maps.file_limit path plain r → MapAfter maps.blocks after r
        → IfErr r (IsStopped blocks pages maps.inodes path offset count maps.file_limit maps.blocks) → (log_pages : ℕ) → maps.file_limit ≡ file_limit_of log_pages
        → AnswersOr (IsDeep blocks pages maps.inodes path) blocks maps.blocks (volume_in pages area maps) WantsBytes (plain (room_on (readers blocks) (volume_in pages area maps) blocks log_pages)) (outcome_of r)
    bytes_follow plain after (Ok out) steps m s log_pages limit = steps size between.within area con log_pages limit
    bytes_follow plain after (Err (stops.Refused why)) steps m s log_pages limit = joined (plain (room_on (readers blocks) (volume_in pages area maps) blocks log_pages) (tree_on (readers blocks) (volume_in pages area maps)) ≡ Err why) (is_open why ≡ true) (IsDeep blocks pages maps.inodes path why) (steps size between.within area con log_pages limit)
    bytes_follow plain after (Err stops.NeedsLog) steps m s log_pages limit = let busy = m.1 in (record { run = false; blocks = total busy.0 }, (refl, busy.1), busy_alone busy.0 busy.1 busy.2 (room_left s.0 s.1))

-- a write that is done changes something
pub bytes_change : (came : Result Written Stop) → ChangesIfDone (outcome_of came)
bytes_change (Ok out) = tt
bytes_change (Err (stops.Refused why)) = tt
bytes_change (Err stops.NeedsLog) = tt
