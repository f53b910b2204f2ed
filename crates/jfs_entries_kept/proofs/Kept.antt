-- The pieces of a call keep the pages of a volume that is kept.
use Rattle.std.proofs.Common.{◌≡◌, ◌==◌, ◌++◌, ℕ, true, false, List, [], ◌∷◌, refl, sym, ap, ◌∙◌, subst}
use Rattle.std.proofs.lemmas.Bool.{or_left, or_right, eq-eqb}
use Rattle.jfs_bits.specs.declared.descriptor.Moment.{Moment}
use Rattle.jfs_disk.specs.declared.disk.Fault.{Fault}
use Rattle.jfs_kept_volumes.specs.volume_calls.specs.plain.specs.declared.call.Request.{Request}
use Rattle.jfs_kept_volumes.specs.volume_calls.specs.plain.specs.declared.reply.Reply.{Reply}
use Rattle.jfs_kept_volumes.specs.volume_calls.specs.halves.specs.Change.{Change}
use Rattle.jfs_kept_volumes.specs.volume_calls.specs.halves.specs.Parts.{Parts}
use Rattle.jfs_kept_volumes.specs.volume_calls.specs.volume.specs.Called.{happened}
use Rattle.jfs_kept_volumes.specs.volume_calls.specs.volume.specs.Join.{entry_with, with_entry, unchanged}
use Rattle.jfs_kept_volumes.specs.volume_calls.specs.volume.specs.Written.{IsWriteStop, stops, tears}
use Rattle.jfs_kept_volumes.specs.volume_calls.specs.volume.specs.data_steps.specs.After.{is_put}
use Rattle.jfs_kept_volumes.specs.volume_calls.specs.volume.specs.data_steps.specs.declared.pages.DataPage.{DataPage}
use Rattle.jfs_kept_volumes.specs.volume_calls.specs.volume.specs.data_steps.specs.objects.specs.Volume.{Volume}
use Rattle.jfs_kept_volumes.specs.volume_calls.specs.volume.proofs.Texts.{tx_of-noted}
use Rattle.jfs_kept_volumes.specs.joined_held.specs.held.specs.survival.specs.face.specs.Places.{Places, is_map_page}
use Rattle.jfs_kept_volumes.specs.joined_held.specs.held.specs.Held.{Mount}
use Rattle.jfs_kept_volumes.specs.joined_held.specs.held.specs.Changes.{with_page}
use Rattle.jfs_kept_volumes.specs.joined_held.specs.Held.{volume_at, held_at}
use Rattle.jfs_kept_volumes.specs.joined_held.proofs.Called.{called_law as run_of_call}
use Rattle.jfs_kept_volumes.specs.pages_held.specs.Beside.{KeepsFiles, AreBeside}
use Rattle.jfs_kept_volumes.specs.pages_held.proofs.Beside.{beside_law}
use Rattle.jfs_kept_volumes.specs.pages_held.proofs.Called.{called_law, no_data_map}
use Rattle.jfs_kept_volumes.specs.pages_held.proofs.Empty.{empty_law}
use Rattle.jfs_kept_volumes.specs.pages_held.proofs.Stay.{stay_law}
use Rattle.jfs_kept_volumes.specs.Keeper.{Keeper}
use Rattle.jfs_kept_volumes.specs.Kept.{IsKept, Steps}
use Rattle.jfs_kept_volumes.specs.Reserved.{shown_with}
use Rattle.jfs_entries_kept.specs.Entries.{made_to, replied, entered_by, stopped_at, stopped_by}
use Rattle.jfs_entries_kept.specs.Kept.{KeptAskedLaw, KeptReplyLaw, KeptEntryLaw, KeptStopLaw}
use Rattle.jfs_entries_kept.proofs.Asked.{asked_law}
use Rattle.jfs_entries_kept.proofs.Replied.{reply_law, leads}
use Rattle.jfs_entries_kept.proofs.Entered.{entry_law}
use Rattle.jfs_entries_kept.proofs.Stopped.{stop_law, may}

-- ---- it was asked

pub kept_asked_law : KeptAskedLaw
kept_asked_law m area old new x is asked same =
    let y = shown_with new.map x in
    let comes = asked_law m area old new x is.rests asked same in
    let files : KeepsFiles old new = record {
      files = ap (λ (p : Parts). p.files) asked.parts;
      agsize = same.agsize;
      inodes = ap (λ (p : Parts). p.inodes) asked.parts;
      halted = λ runs. sym (ap (λ (p : Parts). p.halted) asked.parts) ∙ runs;
    } in
    record {
      keeper = y;
      kept = record { rests = comes.rests; pages = stay_law m area old new x.both y.both x.core y.core x.volumes y.volumes is.rests.held comes.rests.held files (record { image_is = refl; marks = λ q map. refl }) (λ q dirty. dirty) is.pages };
      grows = comes.grows;
    }

-- ---- a reply

joined : (m : Mount) (area : ℕ → ℕ) (client line : ℕ) (request : Request) (now : Moment) (reply : Reply) (old : Parts) (x : Keeper) → IsKept m area old x
    → Steps m area (with_entry (entry_with client line request reply) old) (unchanged client line request now reply x.both.volume ∷ []) [] x
joined m area client line request now reply old x is =
    let new = with_entry (entry_with client line request reply) old in
    let h = unchanged client line request now reply x.both.volume in
    let y = replied m area old h x in
    let comes = reply_law m area client line request now reply old new x is.rests refl in
    let empty = empty_law m (held_at x.both x.core x.volumes area old) h (volume_at area old) is.rests.held.held (leads m area client line request now reply old x is.rests) refl in
    record {
      keeper = y;
      kept = record {
        rests = comes.rests;
        pages = stay_law m area old new x.both y.both x.core y.core x.volumes y.volumes is.rests.held comes.rests.held (record { files = refl; agsize = refl; inodes = refl; halted = λ runs. runs }) empty.0 empty.1 is.pages;
      };
      grows = comes.grows;
    }

pub kept_reply_law : KeptReplyLaw
kept_reply_law m area client line request now reply old new x is e = subst (λ (p : Parts). Steps m area p (unchanged client line request now reply x.both.volume ∷ []) [] x) (sym e) (joined m area client line request now reply old x is)

-- ---- an entry

pub kept_entry_law : KeptEntryLaw
kept_entry_law m area now tx put entry number old mid new x is answered files joined stands logs own few =
    let h = happened entry now tx joined.joins.notes put new.inodes x.both.volume in
    let y = entered_by m area old tx put h x in
    let comes = entry_law m area now tx put entry number old mid new x is.rests answered joined stands logs few in
    record {
      keeper = y;
      kept = record {
        rests = comes.rests;
        pages = called_law m area tx put entry number old mid new x.both x.core x.volumes h is.rests.held answered files joined.joins (tx_of-noted tx joined.joins.notes joined.joins.each)
            (run_of_call m area now tx put entry number true old mid new x.both x.core x.volumes is.rests.held answered joined stands logs) own is.pages;
      };
      grows = comes.grows;
    }

-- ---- a write of data that failed

-- no page of a map is written
beside_to : (pl : Places) (v : Volume) (front : List DataPage) (d : DataPage) (rest : List DataPage) (last : Change) (fault : Fault) (w : Volume) → IsWriteStop fault d last → ((b : ℕ) → is_put b (front ++ d ∷ rest) ≡ true → is_map_page pl b ≡ false) → AreBeside pl (made_to v front last w)
beside_to pl v [] d rest _ fault w stops none = (tt, tt)
beside_to pl v [] d rest _ fault w (tears sectors) none = (tt, tt)
beside_to pl v (e ∷ es) d rest last fault w stop none = (
  none e.block (or_left (e.block == e.block) (is_put e.block (es ++ d ∷ rest)) (eq-eqb e.block e.block refl)),
  beside_to pl (with_page e.block e.page.0 v) es d rest last fault w stop (λ b is. none b (or_right (e.block == b) (is_put b (es ++ d ∷ rest)) is)),
)

pub kept_stop_law : KeptStopLaw
kept_stop_law m area put front last old back new x is stop moves map_is files =
    let v = volume_at area old in
    let start = held_at x.both x.core x.volumes area old in
    let ds = made_to v front last (stopped_at front last x.both.volume v) in
    let y = stopped_by m area old front last x in
    let comes = stop_law m area put front last old back new x is.rests stop moves map_is files.inodes in
    let none : (b : ℕ) → is_put b (front ++ stop.next ∷ stop.rest) ≡ true → is_map_page m.places b ≡ false = λ b e. no_data_map m start is.rests.held.held b (stop.takes b (ap (is_put b) stop.split ∙ e)) in
    let beside = beside_law m start ds is.rests.held.held (may m area put front last old back new x is.rests stop moves map_is files.inodes) (beside_to m.places v front stop.next stop.rest last stop.fault (stopped_at front last x.both.volume v) stop.stop none) in
    record {
      keeper = y;
      kept = record { rests = comes.rests; pages = stay_law m area old new x.both y.both x.core y.core x.volumes y.volumes is.rests.held comes.rests.held files beside.0 beside.1 is.pages };
      grows = comes.grows;
    }
