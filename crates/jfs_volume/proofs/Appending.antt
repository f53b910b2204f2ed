-- An append, from the parts that have room in memory for it on.
use Rattle.std.proofs.Common.{◌≡◌, ◌+◌, ◌++◌, ℕ, Bool, true, List, [], ◌∷◌, refl, sym, ap, ◌∙◌, subst}
use Rattle.jfs_bits.specs.declared.descriptor.Moment.{Moment}
use Rattle.jfs_disk.specs.Crash.{DiskState}
use Rattle.jfs_disk.specs.Image.{Image}
use Rattle.jfs_disk.specs.declared.disk.Fault.{Fault}
use Rattle.jfs_halves.specs.crash_core.specs.Image.{pages_after}
use Rattle.jfs_marks.specs.data_steps.specs.declared.pages.DataPage.{DataPage}
use Rattle.jfs_volume.specs.Data.{put_pages, IsPartlyPut}
use Rattle.jfs_volume.specs.Written.{writes, StopsWriting}
use Rattle.jfs_ranges.specs.declared.edit.Edit.{Edit}
use Rattle.jfs_bmap.specs.States.{Blocks, BlockState, Free, put_state, state_of, is_busy_state}
use Rattle.jfs_pages.specs.Dirty.{dirty_of}
use Rattle.jfs_plain.specs.declared.call.Entry.{Entry}
use Rattle.jfs_records.specs.Records.{Noted, tx_of}
use Rattle.jfs_halves.specs.Marks.{map_after}
use Rattle.jfs_halves.specs.Half.{VolumeHalf}
use Rattle.jfs_halves.specs.Change.{Change, SameStates, states_after}
use Rattle.jfs_halves.specs.Parts.{Parts, StandsFor}
use Rattle.jfs_halves.specs.Moves.{Moves}
use Rattle.jfs_volume.specs.declared.draft.Draft.{Draft}
use Rattle.jfs_volume.specs.declared.joined.Joined.{Joined}
use Rattle.jfs_volume.specs.declared.joined.Joined.TheVariants.{Entered, NoRoom, NoMemory, Unread, Failed}
use Rattle.jfs_marks.specs.declared.marks.InodeMarks.{InodeMarks}
use Rattle.jfs_volume.specs.Runs.{taken_in}
use Rattle.jfs_volume.specs.Append.{Appends, unreserved, IsWritable, Stays, StaysAll, Fails, StaysUnless, ShowsEntry, KeepsStates, IsDraft, Adds, AddsEntry, TellsRoom}
use Rattle.jfs_volume.proofs.Entering.{stays_moves, same_trans}
use Rattle.jfs_volume.proofs.Taken.{same_after}

pub from_before : (seen asked : Bool) (old mid new : Parts) (half : VolumeHalf) (list : List Change) → (seen ≡ true → asked ≡ true → mid.past ≡ old.past) → Moves seen asked mid new half list → Moves seen asked old new half list
from_before seen asked old mid new half list same m = record { fit = m.fit; stands = m.stands; past = λ t k. m.past t k ∙ ap (λ (states : List DiskState). states ++ states_after half list) (same t k) }

pub stops_before : (seen asked : Bool) (all : List DataPage) (old mid new : Parts) (half : VolumeHalf) (fault : Fault) → (seen ≡ true → asked ≡ true → mid.past ≡ old.past) → StopsWriting seen asked all mid new half fault → StopsWriting seen asked all old new half fault
stops_before seen asked all old mid new half fault same s = record {
  front = s.front;
  next = s.next;
  rest = s.rest;
  split = s.split;
  stops = record { last = s.stops.last; is = s.stops.is; moves = from_before seen asked old mid new half (writes s.front ++ s.stops.last ∷ []) same s.stops.moves };
}

stays_of : (p m : Parts) → KeepsStates p m → Stays p m
stays_of p m k = record {
  parts = k.parts ∙ ap (λ (q : Parts). record p { view = q.view; disk = q.disk; past = q.past; faults = q.faults; map = m.map }) (sym k.parts);
  map = k.map;
}

pub kept_stands : (seen asked : Bool) (tx : List Edit) (p m : Parts) (half : VolumeHalf) → StandsFor seen asked (unreserved tx p) half → KeepsStates p m → StandsFor seen asked (unreserved tx m) half
kept_stands seen asked tx p m half s k =
    (stays_moves seen asked tx p m half s (stays_of p m k) (λ t. ap (λ (q : Parts). q.view) k.parts) (λ t. ap (λ (q : Parts). q.disk) k.parts) (λ t u. ap (λ (q : Parts). q.past) k.parts)).stands

pub appends_after : (seen asked : Bool) (entry : Entry) (now : Moment) (noted : List Noted) (contents : List DataPage) (p m q : Parts) (half : VolumeHalf) (result : Joined) → KeepsStates p m → Appends seen asked entry now noted contents m q half result → Appends seen asked entry now noted contents p q half result
appends_after seen asked entry now noted contents p m q half (Entered n) k a = (from_before seen asked (unreserved (tx_of noted) p) (unreserved (tx_of noted) m) q half _ (λ t u. ap (λ (r : Parts). r.past) k.parts) a.0, a.1)
appends_after seen asked entry now noted contents p m q half NoRoom k a = from_before seen asked (unreserved (tx_of noted) p) (unreserved (tx_of noted) m) (unreserved (tx_of noted) q) half [] (λ t u. ap (λ (r : Parts). r.past) k.parts) a
appends_after seen asked entry now noted contents p m q half NoMemory k a = from_before seen asked (unreserved (tx_of noted) p) (unreserved (tx_of noted) m) (unreserved (tx_of noted) q) half [] (λ t u. ap (λ (r : Parts). r.past) k.parts) a
appends_after seen asked entry now noted contents p m q half (Unread fault) k a = from_before seen asked (unreserved (tx_of noted) p) (unreserved (tx_of noted) m) (unreserved (tx_of noted) q) half [] (λ t u. ap (λ (r : Parts). r.past) k.parts) a
appends_after seen asked entry now noted contents p m q half (Failed fault) k a = stops_before seen asked contents (unreserved (tx_of noted) p) (unreserved (tx_of noted) m) (unreserved (tx_of noted) q) half fault (λ t u. ap (λ (r : Parts). r.past) k.parts) a

-- nothing is changed at all
pub kept_appends : (seen asked : Bool) (noted : List Noted) (p m : Parts) (half : VolumeHalf) → StandsFor seen asked (unreserved (tx_of noted) p) half → KeepsStates p m → Moves seen asked (unreserved (tx_of noted) p) (unreserved (tx_of noted) m) half []
kept_appends seen asked noted p m half s k = stays_moves seen asked (tx_of noted) p m half s (stays_of p m k) (λ t. ap (λ (q : Parts). q.view) k.parts) (λ t. ap (λ (q : Parts). q.disk) k.parts) (λ t u. ap (λ (q : Parts). q.past) k.parts)

pub kept_stays : {tells crashes : Type 0} (p m : Parts) → KeepsStates p m → StaysAll tells crashes p m
kept_stays p m k = record { stays = stays_of p m k; disk = record { image = λ t. ap (λ (r : Parts). r.disk) k.parts; states = λ t. ap (λ (r : Parts). r.past) k.parts } }

-- the map's states alone matter
map_kept : (n : ℕ) (tx : List Edit) (a b : Blocks) → SameStates a b → SameStates (map_after n tx (put_state Free (taken_in tx) a)) (map_after n tx (put_state Free (taken_in tx) b))
map_kept n tx a b same = same_after n tx (put_state Free (taken_in tx) a) (put_state Free (taken_in tx) b)
    (record { states = ap (λ (states : List BlockState). (put_state Free (taken_in tx) (record a { states = states })).states) same.states; agsize = same.agsize })

adds_after : (entry : Entry) (noted : List Noted) (marks : InodeMarks) (p q : Parts) (map : Blocks) → SameStates map p.map → Adds entry noted marks (record p { map = map }) q → Adds entry noted marks p q
adds_after entry noted marks p q map same a = record {
  parts = a.parts;
  dirty = a.dirty;
  map = same_trans q.map (map_after (p.appended + 1) (tx_of noted) (put_state Free (taken_in (tx_of noted)) map)) (map_after (p.appended + 1) (tx_of noted) (put_state Free (taken_in (tx_of noted)) p.map)) a.map
      (map_kept (p.appended + 1) (tx_of noted) map p.map same);
  inodes = a.inodes;
}

pub entry_after : (entry : Entry) (noted : List Noted) (marks : InodeMarks) (p m q : Parts) (result : Joined) → KeepsStates p m → AddsEntry entry noted marks m q result → AddsEntry entry noted marks p q result
entry_after entry noted marks p m q (Entered n) k a = (
  adds_after entry noted marks p q m.map k.map (subst (λ (r : Parts). Adds entry noted marks r q) k.parts a.0),
  a.1 ∙ ap (λ (r : Parts). r.appended + 1) k.parts,
)
entry_after entry noted marks p m q NoRoom k a = tt
entry_after entry noted marks p m q NoMemory k a = tt
entry_after entry noted marks p m q (Unread fault) k a = tt
entry_after entry noted marks p m q (Failed fault) k a = tt

stays_after : {tells crashes : Type 0} (p q : Parts) (map : Blocks) → SameStates map p.map → StaysAll tells crashes (record p { map = map }) q → StaysAll tells crashes p q
stays_after p q map same s = record { stays = record { parts = s.stays.parts; map = same_trans q.map map p.map s.stays.map same }; disk = record { image = s.disk.image; states = s.disk.states } }

fails_after : (fault : Fault) (p q : Parts) (map : Blocks) → SameStates map p.map → Fails fault (record p { map = map }) q → Fails fault p q
fails_after fault p q map same s = record { parts = s.parts; map = same_trans q.map map p.map s.map same }

pub unless_after : (tells crashes : Type 0) (p m q : Parts) (result : Joined) → (result ≡ NoRoom → ⊥) → KeepsStates p m → StaysUnless tells crashes result m q → StaysUnless tells crashes result p q
unless_after tells crashes p m q (Entered n) never k s = tt
unless_after tells crashes p m q NoRoom never k s = absurd (never refl)
unless_after tells crashes p m q NoMemory never k s = stays_after p q m.map k.map (subst (λ (r : Parts). StaysAll tells crashes r q) k.parts s)
unless_after tells crashes p m q (Unread fault) never k s = stays_after p q m.map k.map (subst (λ (r : Parts). StaysAll tells crashes r q) k.parts s)
unless_after tells crashes p m q (Failed fault) never k s = fails_after fault p q m.map k.map (subst (λ (r : Parts). Fails fault r q) k.parts s)

-- what the volume shows doesn't hang on memory for the map
pub shows_after : (contents : List DataPage) (tx : List Edit) (p m q : Parts) (result : Joined) → m.view ≡ p.view → ShowsEntry contents tx m q result → ShowsEntry contents tx p q result
shows_after contents tx p m q (Entered n) same a = a ∙ ap (λ (image : Image). pages_after 0 tx (put_pages contents image)) same
shows_after contents tx p m q NoRoom same a = a ∙ same
shows_after contents tx p m q NoMemory same a = a ∙ same
shows_after contents tx p m q (Unread fault) same a = a ∙ same
shows_after contents tx p m q (Failed fault) same a = λ once. subst (λ (image : Image). IsPartlyPut contents image q.view) same (a once)

-- nor do blocks that may be written
pub writable_after : (contents : List DataPage) (tx : List Edit) (p m : Parts) → KeepsStates p m → IsWritable contents (unreserved tx p) → IsWritable contents (unreserved tx m)
writable_after contents tx p m k may b put =
    let w = may b put in (
      ap (λ (r : Parts). dirty_of r.dirty b) k.parts ∙ w.0,
      ap (λ (states : List BlockState). is_busy_state (state_of (put_state Free (taken_in tx) (record m.map { states = states })) b)) k.map.states ∙ w.1,
    )

pub draft_after : (noted : List Noted) (p m : Parts) (draft : Draft) → KeepsStates p m → IsDraft noted p draft → IsDraft noted m draft
draft_after noted p m draft k d = subst (λ (r : Parts). IsDraft noted r draft) (sym k.parts) (record { bytes = d.bytes; ends = d.ends; last = d.last; pages = d.pages; taken = d.taken; freed = d.freed })

pub tells_room : (room : Bool) (result : Joined) → room ≡ true → (result ≡ NoRoom → ⊥) → TellsRoom room result
tells_room room (Entered n) e never = e
tells_room room NoRoom e never = absurd (never refl)
tells_room room NoMemory e never = e
tells_room room (Unread fault) e never = e
tells_room room (Failed fault) e never = e

pub kept_same : (p : Parts) → KeepsStates p p
kept_same p = record { parts = refl; map = record { states = refl; agsize = refl } }
