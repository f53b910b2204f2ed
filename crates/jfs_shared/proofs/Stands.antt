-- What a volume stands for, behind what its calls make of its parts.
use Rattle.std.proofs.Common.{◌≡◌, ◌≤◌, ◌<◌, ℕ, suc, ◌+◌, ◌^◌, List, [], ◌∷◌, ◌++◌, length, Bool, true, Option, Some, None, false, refl, sym, ap, subst, ◌∙◌, inr, arith}
use Rattle.std.specs.Prelude.{is_some}
use Rattle.std.proofs.lemmas.Bool.{false≢true}
use Rattle.std.proofs.lemmas.List.{length-append}
use Rattle.jfs_bits.specs.Count.{Rose}
use Rattle.jfs_bits.specs.declared.descriptor.Moment.{Moment}
use Rattle.jfs_disk.specs.Image.{Image, page_of}
use Rattle.jfs_disk.specs.declared.disk.Fault.{Fault}
use Rattle.jfs_super.specs.Super.{super_of}
use Rattle.jfs_super.specs.declared.fields.Super.{Super}
use Rattle.jfs_logpages.specs.declared.group_text.GroupText.{GroupText}
use Rattle.jfs_logpages.specs.Group.{pages_of, room_of}
use Rattle.jfs_plain.specs.Limits.{FitsCall}
use Rattle.jfs_plain.specs.declared.call.Entry.{Entry}
use Rattle.jfs_plain.specs.declared.call.Request.{Request}
use Rattle.jfs_plain.specs.declared.reply.Reply.{Reply}
use Rattle.jfs_records.specs.Records.{Noted}
use Rattle.jfs_turns.specs.Lists.{Base}
use Rattle.jfs_groups.specs.Group.{IsGroupOf}
use Rattle.jfs_groups.specs.Points.{halt_mark, syncs}
use Rattle.jfs_kept_history.specs.legal.specs.served.specs.call.specs.Answer.{IsAnswered, Keeps}
use Rattle.jfs_kept_history.specs.legal.specs.served.specs.call.specs.Does.{Does}
use Rattle.jfs_kept_history.specs.legal.specs.served.specs.call.specs.DoesLent.{Asking}
use Rattle.jfs_kept_history.specs.legal.specs.served.specs.call.specs.Noted.{noted_by}
use Rattle.jfs_kept_history.specs.legal.specs.served.specs.call.specs.declared.outcome.Outcome.TheVariants.{Replied, NeedsLog, NoMemory}
use Rattle.jfs_kept_history.specs.legal.specs.served.specs.call.specs.halves.specs.Change.{MayPoint, Takes, Points, Knows}
use Rattle.jfs_kept_history.specs.legal.specs.served.specs.call.specs.halves.specs.Moves.{Moves}
use Rattle.jfs_kept_history.specs.legal.specs.served.specs.call.specs.halves.specs.Parts.{Parts, Text, OfEachHalf}
use Rattle.jfs_kept_history.specs.legal.specs.served.specs.call.specs.volume.specs.bmap.specs.States.{Blocks, blocks_settled}
use Rattle.jfs_kept_history.specs.legal.specs.served.specs.call.specs.volume.specs.Room.{IsWithinRoom}
use Rattle.jfs_kept_history.specs.legal.specs.served.specs.call.specs.volume.specs.Settle.{with_point}
use Rattle.jfs_kept_history.specs.legal.specs.served.specs.call.specs.volume.specs.Settles.{Settles, StaysShown, is_freed}
use Rattle.jfs_kept_history.specs.legal.specs.served.specs.call.specs.volume.specs.Told.{IsTold, still_freed}
use Rattle.jfs_volume_calls.specs.Halts.{GroupParts, PointParts}
use Rattle.jfs_volume_calls.specs.Written.{LeavesMaps}
use Rattle.jfs_volume_calls.proofs.Kept.{group_settles, group_pages, pointed}
use Rattle.jfs_kept_history.specs.legal.specs.served.specs.call.specs.volume.specs.bmap.proofs.Views.{length-each_below}
use Rattle.jfs_shared.specs.Base.{start_of, image_of}
use Rattle.jfs_shared.specs.Calls.{recorded}
use Rattle.jfs_kept_history.specs.legal.specs.served.specs.crash_core.specs.Step.{halted_by}
use Rattle.jfs_shared.specs.Home.{IsSettled}
use Rattle.jfs_shared.specs.Faults.{IsOfDisk}
use Rattle.jfs_shared.specs.Settled.{KeepsHistory, SettlesHistory, IsSettledServed}
use Rattle.jfs_shared.specs.Shared.{logs_of, entries_in, HasText, IsShared, IsServed, IsKeptServed, IfConsistent, IfKeepable}
use Rattle.jfs_shared.specs.Entries.{Recorded}
use Rattle.jfs_shared.proofs.Text.{added, ended, reaches, taken_text, joined_text, pointed_text}
use Rattle.jfs_shared.proofs.Disk.{same_disk, pointed_disk, marked_disk, replied_disk, asked_disk, lacked_disk, home_disk, stopped_disk, none_by}
use Rattle.jfs_shared.proofs.Points.{all_syncs, marked_syncs, synced_more, marked_more}
use Rattle.jfs_shared.proofs.KeptServed.{SamePlace, same_place, kept_joined, kept_asked, kept_lacked, kept_taken, kept_halted, kept_told, kept_home, settled_home, kept_pointed, kept_known}
use Rattle.jfs_shared.proofs.Stepped.{Stood, Grew}
use Rattle.jfs_shared.proofs.Served.{served_joined, served_asked, served_lacked, served_settled, served_pointed}

pub none_of : (halted : Option Fault) → is_some halted ≡ false → halted ≡ None
none_of None e = refl
none_of (Some fault) e = absurd (false≢true (sym e))

entries_more : (list : List Recorded) (e : Recorded) → entries_in (list ++ e ∷ []) ≡ entries_in list ++ e.entry ∷ []
entries_more [] e = refl
entries_more (x ∷ xs) e = ap (λ (es : List Entry). x.entry ∷ es) (entries_more xs e)

as_many_states : (n : ℕ) (m : Blocks) → length (blocks_settled n m).states ≡ length m.states
as_many_states n m = length-each_below _ _

-- what of the parts the list and the counts say
pub record Alike (old new : Parts) : Type 0 where
  pub entries : new.entries ≡ old.entries
  pub appended : new.appended ≡ old.appended
  pub taken : new.taken ≡ old.taken
  pub told : new.told ≡ old.told
  pub points : new.points ≡ old.points
  pub known : new.known ≡ old.known
  pub text : new.text ≡ old.text
  pub map : length new.map.states ≡ length old.map.states
  pub blocks : new.blocks ≡ old.blocks

module _ (tells crashes : Type 0) (base : Base) (list : List Recorded) (taken told : ℕ) (points : List ℕ) (known made : ℕ) (broken : Bool) (old : Parts) (h : IsShared tells crashes base list taken told points known made broken old) where
  abbrev s : Super
  s = super_of (page_of (image_of base) 8)

  abbrev image : Image
  image = image_of base

  abbrev page : ℕ → List ℕ
  page = page_of image

  -- it is kept
  abbrev Kept : Bool → List Recorded → List ℕ → Parts → Type 0
  Kept later more counts new = tells → crashes → IfKeepable base (λ s image. IsKeptServed s image later more counts new)

  -- nothing of them changes
  pub alike_stands : (later : Bool) (new : Parts) → Alike old new → IsOfDisk (start_of base) points new → (tells → IfConsistent base (λ s page. IsServed s page later list new)) → Kept later list points new → IsShared tells crashes base list taken told points known made later new
  alike_stands later new a disk served kept = record {
    entries = a.entries ∙ h.entries;
    appended = a.appended ∙ h.appended;
    few = h.few;
    taken_is = a.taken ∙ h.taken_is;
    told_is = a.told ∙ h.told_is;
    points_are = h.points_are;
    points_is = a.points ∙ h.points_is;
    known_is = a.known ∙ h.known_is;
    told_within = h.told_within;
    taken_within = h.taken_within;
    text = subst (λ (t : Text). HasText (start_of base).log.ring list taken (syncs points) t) (sym a.text) h.text;
    size = let before = h.size in omega (arith, a.map, a.blocks, before);
    disk = disk;
    served = served;
    kept = kept;
  }

  -- ---- a call

  module _ (client line : ℕ) (request : Request) (now : Moment) (new : Parts) where
    abbrev asking : Asking
    asking = record { caller = record { client = client; line = line }; request = request; now = now }

    -- its text's ring and its part of the disk stay
    kept_place : Keeps old new → SamePlace old new
    kept_place k = same_place old new k.ring k.blocks

    pub replied_stands : (reply : Reply) (number : ℕ) (waits : Bool) → broken ≡ false → FitsCall request.call → old.appended + 1 < 2 ^ 32 → IsAnswered client line request old new (Replied reply number waits)
        → (d : Does tells crashes (record { client = client; line = line }) request now old new (Replied reply number waits)) → Grew (noted_by tells crashes (record { client = client; line = line }) request now old new (Replied reply number waits) d) old new
        → IsShared tells crashes base (list ++ recorded client line request now reply (noted_by tells crashes (record { client = client; line = line }) request now old new (Replied reply number waits) d) ∷ []) taken told points known made broken new × (number ≡ suc (length list))
    replied_stands reply number waits over fits few a d g = (
      record {
        entries = a.entry.entries ∙ ap (λ (es : List Entry). es ++ e.entry ∷ []) h.entries ∙ sym (entries_more list e);
        appended = longer;
        few = omega (arith, few, h.appended, length-append list (e ∷ []));
        taken_is = a.keeps.taken ∙ h.taken_is;
        told_is = a.keeps.told ∙ h.told_is;
        points_are = h.points_are;
        points_is = a.keeps.points ∙ h.points_is;
        known_is = g.known ∙ h.known_is;
        told_within = h.told_within;
        taken_within = let w = h.taken_within in omega (arith, w, length-append list (e ∷ []));
        text = joined_text (start_of base).log.ring list taken (syncs points) old.text h.text h.taken_within e new.text a.keeps.ring a.keeps.place
            (g.bytes ∙ ap (λ (n : ℕ). old.text.bytes ++ added noted n old.text) next) (g.ends ∙ ap (λ (n : ℕ). ended noted n old.text) next) (g.last ∙ next);
        size = let before = h.size in omega (arith, a.keeps.size, a.keeps.blocks, before);
        disk = replied_disk client line request old new (start_of base) points h.disk reply number waits a;
        served = λ t consistent. served_joined tells crashes t s page broken list asking old new reply number waits noted
            over (h.served t consistent) d;
        kept = λ t c checked. kept_joined tells crashes t c s image broken list points old (h.kept t c checked) asking new reply number waits over (kept_place a.keeps) fits few d;
      },
      a.entry.number_is ∙ a.entry.appended ∙ next,
    )
      where
        noted : Option (List Noted)
        noted = noted_by tells crashes (record { client = client; line = line }) request now old new (Replied reply number waits) d

        e : Recorded
        e = recorded client line request now reply noted

        next : old.appended + 1 ≡ suc (length list)
        next = omega (arith, h.appended)

        longer : new.appended ≡ length (list ++ e ∷ [])
        longer = omega (arith, a.entry.appended, next, length-append list (e ∷ []))

    -- without an entry
    left : (entries : new.entries ≡ old.entries) (appended : new.appended ≡ old.appended) → Keeps old new → Stood old new → Alike old new
    left entries appended k g = record {
      entries = entries;
      appended = appended;
      taken = k.taken;
      told = k.told;
      points = k.points;
      known = g.known;
      text = g.text;
      map = k.size;
      blocks = k.blocks;
    }

    pub asked_stands : broken ≡ false → FitsCall request.call → old.appended + 1 < 2 ^ 32 → IsAnswered client line request old new NeedsLog → Does tells crashes (record { client = client; line = line }) request now old new NeedsLog → Stood old new → IsShared tells crashes base list taken told points known made broken new
    asked_stands over fits few a d g = alike_stands broken new (left a.entry.entries a.entry.appended a.keeps g) (asked_disk client line request old new (start_of base) points h.disk a)
        (λ t consistent. served_asked tells crashes t s page broken list asking old new over (h.served t consistent) d)
        (λ t c checked. kept_asked tells crashes t c s image broken list points old (h.kept t c checked) asking new over (kept_place a.keeps) fits few d)

    pub lacked_stands : broken ≡ false → FitsCall request.call → old.appended + 1 < 2 ^ 32 → IsAnswered client line request old new NoMemory → Does tells crashes (record { client = client; line = line }) request now old new NoMemory → Stood old new → IsShared tells crashes base list taken told points known made true new
    lacked_stands over fits few a d g = alike_stands true new (left a.entry.entries a.entry.appended a.keeps g) (lacked_disk client line request old new (start_of base) points h.disk a)
        (λ t consistent. served_lacked tells crashes t s page broken list asking old new over (h.served t consistent) d)
        (λ t c checked. kept_lacked tells crashes t c s image broken list points old (h.kept t c checked) asking new over (kept_place a.keeps) fits few d)

  -- ---- groups

  -- a group takes all that waits
  pub group_stands : (new : Parts) → new ≡ record old { taken = old.appended; text = record old.text { place = old.text.place + length old.text.bytes; bytes = []; ends = [] } } → IsWithinRoom old.text.ring old.text.sync old.text.place (length old.text.bytes)
      → OfEachHalf tells crashes old (λ seen asked half. Moves seen asked old new half (Takes ∷ [])) → IsShared tells crashes base list (length list) told points known made broken new
  group_stands new e room moves = record {
    entries = ap (λ (p : Parts). p.entries) e ∙ h.entries;
    appended = ap (λ (p : Parts). p.appended) e ∙ h.appended;
    few = h.few;
    taken_is = ap (λ (p : Parts). p.taken) e ∙ h.appended;
    told_is = ap (λ (p : Parts). p.told) e ∙ h.told_is;
    points_are = h.points_are;
    points_is = ap (λ (p : Parts). p.points) e ∙ h.points_is;
    known_is = ap (λ (p : Parts). p.known) e ∙ h.known_is;
    told_within = let a = h.told_within in let b = h.taken_within in omega (arith, a, b);
    taken_within = omega arith;
    text = taken_text (start_of base).log.ring list taken (syncs points) old.text h.text h.taken_within new.text (ap (λ (p : Parts). p.text.ring) e) (ap (λ (p : Parts). p.text.place) e) (ap (λ (p : Parts). p.text.bytes) e) (ap (λ (p : Parts). p.text.ends) e) (ap (λ (p : Parts). p.text.last) e);
    size = subst (λ (p : Parts). length p.map.states ≤ p.blocks) (sym e) h.size;
    disk = same_disk (start_of base) points old h.disk new (record { count = ap (λ (p : Parts). p.count) e; room = ap (λ (p : Parts). p.room) e; faults = ap (λ (p : Parts). p.faults) e; entries = ap (λ (p : Parts). p.entries) e; halted = ap (λ (p : Parts). p.halted) e });
    served = λ t consistent. served_settled tells ⊥ t s page broken list old new (group_settles old new parts) (group_pages tells old new parts) (λ runs. sym (ap (λ (p : Parts). p.halted) e) ∙ runs) (h.served t consistent);
    kept = λ t c checked. kept_taken tells crashes t c s image broken list points old (h.kept t c checked) new place parts alone room moves;
  }
    where
      parts : GroupParts old new
      parts = e ∙ ap (λ (p : Parts). record old { taken = p.taken; text = p.text; halted = p.halted }) (sym e)

      alone : new ≡ record old { taken = new.taken; text = new.text }
      alone = e ∙ ap (λ (p : Parts). record old { taken = p.taken; text = p.text }) (sym e)

      place : SamePlace old new
      place = same_place old new (ap (λ (p : Parts). p.text.ring) e) (ap (λ (p : Parts). p.blocks) e)

  -- it is the group of what no group has taken
  pub group_is : (group : GroupText) → group.bytes.items ≡ old.text.bytes → group.ends.items ≡ old.text.ends → group.last ≡ old.appended → IsWithinRoom old.text.ring old.text.sync old.text.place (length group.bytes.items) → IsGroupOf logs_of (start_of base).log.ring list taken (syncs points) group
  group_is group bytes ends last room = record {
    last = last ∙ h.appended;
    bytes = bytes ∙ h.text.bytes;
    ends = ends ∙ h.text.ends;
    room = subst (λ (r : ℕ). pages_of (length group.bytes.items) ≤ room_of r) h.text.ring_is room.0;
    numbers = let n = room.2 in omega (arith, n, ap (λ (b : List ℕ). length b) bytes, reaches (start_of base).log.ring list taken (syncs points) old.text h.text h.taken_within);
  }

  -- the log has halted, and so does the volume
  pub marked_stands : (fault : Fault) (new : Parts) → old.halted ≡ None → new ≡ record old { halted = Some fault } → IsShared tells crashes base list taken told (points ++ halt_mark ∷ []) known (made + 1) broken new
  marked_stands fault new runs e = record {
    entries = ap (λ (p : Parts). p.entries) e ∙ h.entries;
    appended = ap (λ (p : Parts). p.appended) e ∙ h.appended;
    few = h.few;
    taken_is = ap (λ (p : Parts). p.taken) e ∙ h.taken_is;
    told_is = ap (λ (p : Parts). p.told) e ∙ h.told_is;
    points_are = omega (arith, h.points_are, length-append points (halt_mark ∷ []));
    points_is = ap (λ (p : Parts). p.points) e ∙ h.points_is ∙ ap (λ (n : ℕ). suc n) (sym (marked_syncs points));
    known_is = ap (λ (p : Parts). p.known) e ∙ h.known_is;
    told_within = h.told_within;
    taken_within = h.taken_within;
    text = subst {A = Text × ℕ} (λ z. HasText (start_of base).log.ring list taken z.1 z.0) (λ i. (sym (ap (λ (p : Parts). p.text) e) i, sym (marked_syncs points) i)) h.text;
    size = subst (λ (p : Parts). length p.map.states ≤ p.blocks) (sym e) h.size;
    disk = marked_disk (start_of base) points old h.disk fault new e;
    served = λ t consistent. served_settled tells ⊥ t s page broken list old new (group_settles old new parts) (group_pages tells old new parts) (λ now. runs) (h.served t consistent);
    kept = λ t c checked. kept_halted tells crashes t c s image broken list points old (h.kept t c checked) fault new (same_place old new (ap (λ (p : Parts). p.text.ring) e) (ap (λ (p : Parts). p.blocks) e)) parts
        (e ∙ ap (λ (h : Option Fault). record old { halted = halted_by fault h }) (sym runs));
  }
    where
      parts : GroupParts old new
      parts = e ∙ ap (λ (p : Parts). record old { taken = p.taken; text = p.text; halted = p.halted }) (sym e)

  -- one more point can be counted
  pub few_points : old.halted ≡ None → (n : ℕ) → n ≡ old.text.place + length old.text.bytes → n < 2 ^ 64 → made + 1 < 2 ^ 64
  few_points runs n is small = let end = reaches (start_of base).log.ring list taken (syncs points) old.text h.text h.taken_within in omega (arith, small, is, end, h.points_are, all_syncs points (h.disk.unmarked runs))

  -- entries are acknowledged
  pub told_stands : (n : ℕ) (new : Parts) → n ≤ taken → new ≡ record old { view = new.view; dirty = new.dirty; told = n; map = blocks_settled n old.map; freed = still_freed n old.freed }
      → (tells → (q : ℕ) → is_freed old.freed q ≡ false → page_of new.view q ≡ page_of old.view q) → OfEachHalf tells crashes old (λ seen asked half. IsTold seen asked n old new half) → IsShared tells crashes base list taken n points known made broken new
  told_stands n new within e shows tell = record {
    entries = ap (λ (p : Parts). p.entries) e ∙ h.entries;
    appended = ap (λ (p : Parts). p.appended) e ∙ h.appended;
    few = h.few;
    taken_is = ap (λ (p : Parts). p.taken) e ∙ h.taken_is;
    told_is = ap (λ (p : Parts). p.told) e;
    points_are = h.points_are;
    points_is = ap (λ (p : Parts). p.points) e ∙ h.points_is;
    known_is = ap (λ (p : Parts). p.known) e ∙ h.known_is;
    told_within = within;
    taken_within = h.taken_within;
    text = subst (λ (t : Text). HasText (start_of base).log.ring list taken (syncs points) t) (sym (ap (λ (p : Parts). p.text) e)) h.text;
    size = let before = h.size in omega (arith, before, ap (λ (p : Parts). length p.map.states) e ∙ as_many_states n old.map, ap (λ (p : Parts). p.blocks) e);
    disk = same_disk (start_of base) points old h.disk new (record { count = ap (λ (p : Parts). p.count) e; room = ap (λ (p : Parts). p.room) e; faults = ap (λ (p : Parts). p.faults) e; entries = ap (λ (p : Parts). p.entries) e; halted = ap (λ (p : Parts). p.halted) e });
    served = λ t consistent. served_settled tells ⊥ t s page broken list old new settles (record { files = ap (λ (p : Parts). p.files) e; view = shows }) (λ runs. sym (ap (λ (p : Parts). p.halted) e) ∙ runs) (h.served t consistent);
    kept = λ t c checked. kept_told tells crashes t c s image broken list points old (h.kept t c checked) n new (same_place old new (ap (λ (p : Parts). p.text.ring) e) (ap (λ (p : Parts). p.blocks) e)) settles
        (record { files = ap (λ (p : Parts). p.files) e; view = shows }) (ap (λ (p : Parts). p.halted) e) tell;
  }
    where
      settles : Settles old new
      settles = record {
        entries = ap (λ (p : Parts). p.entries) e;
        appended = ap (λ (p : Parts). p.appended) e;
        inodes = ap (λ (p : Parts). p.inodes) e;
        limit = ap (λ (p : Parts). p.limit) e;
        blocks = ap (λ (p : Parts). p.blocks) e;
        count = ap (λ (p : Parts). p.count) e;
        room = ap (λ (p : Parts). p.room) e;
        map = inr (n, record { map = ap (λ (p : Parts). p.map) e; freed = ap (λ (p : Parts). p.freed) e });
      }

  -- ---- pages go home

  home_alike : (new : Parts) → IsSettled old new → Alike old new
  home_alike new e = record {
    entries = ap (λ (p : Parts). p.entries) e;
    appended = ap (λ (p : Parts). p.appended) e;
    taken = ap (λ (p : Parts). p.taken) e;
    told = ap (λ (p : Parts). p.told) e;
    points = ap (λ (p : Parts). p.points) e;
    known = ap (λ (p : Parts). p.known) e;
    text = ap (λ (p : Parts). p.text) e;
    map = ap (λ (p : Parts). length p.map.states) e;
    blocks = ap (λ (p : Parts). p.blocks) e;
  }

  home_place : (new : Parts) → IsSettled old new → SamePlace old new
  home_place new e = same_place old new (ap (λ (p : Parts). p.text.ring) e) (ap (λ (p : Parts). p.blocks) e)

  pub home_stands : (new : Parts) → IsSettled old new → new.faults ≡ old.faults → new.halted ≡ old.halted → Settles old new → StaysShown tells old new → (tells → LeavesMaps old new) → KeepsHistory tells crashes old new → IsShared tells crashes base list taken told points known made broken new
  home_stands new e faults halted settles shown maps keeps = alike_stands broken new (home_alike new e) (home_disk (start_of base) points old new h.disk e faults halted) (λ t consistent. served_pointed tells ⊥ t s page broken list old new settles shown (maps t) (λ runs. sym halted ∙ runs) (h.served t consistent))
      (λ t c checked. kept_home tells crashes t c s image broken list points old (h.kept t c checked) new (home_place new e) settles shown (maps t) (λ runs. sym halted ∙ runs) keeps)

  -- a SYNCPT may be made then
  pub home_settles : (new : Parts) → IsSettled old new → new.halted ≡ old.halted → Settles old new → StaysShown tells old new → (tells → LeavesMaps old new) → SettlesHistory tells crashes old new → tells → crashes → IfKeepable base (λ s image. IsSettledServed s image broken list points new)
  home_settles new e halted settles shown maps keeps t c checked = settled_home tells crashes t c s image broken list points old (h.kept t c checked) new (home_place new e) settles shown (maps t) (λ runs. sym halted ∙ runs) keeps

  -- one of them can't
  pub stopped_stands : (new : Parts) → IsSettled old new → (fault : Fault) → Rose old.faults new.faults → new.halted ≡ halted_by fault old.halted → Settles old new → StaysShown tells old new → (tells → LeavesMaps old new) → KeepsHistory tells crashes old new → IsShared tells crashes base list taken told points known made broken new
  stopped_stands new e fault rose halts settles shown maps keeps = alike_stands broken new (home_alike new e) (stopped_disk (start_of base) points old new h.disk e fault rose halts)
      (λ t consistent. served_pointed tells ⊥ t s page broken list old new settles shown (maps t) (λ runs. absurd (none_by fault old.halted (sym halts ∙ runs))) (h.served t consistent))
      (λ t c checked. kept_home tells crashes t c s image broken list points old (h.kept t c checked) new (home_place new e) settles shown (maps t) (λ runs. absurd (none_by fault old.halted (sym halts ∙ runs))) keeps)

  -- ---- a SYNCPT

  -- it leaves the tree
  beside : (new : Parts) → PointParts old new → new.halted ≡ old.halted → tells → IfConsistent base (λ s page. IsServed s page broken list new)
  beside new p halted t consistent = served_settled tells ⊥ t s page broken list old new (pointed old old new (group_settles old old refl) p)
      (record { files = ap (λ (x : Parts). x.files) p; view = λ _ q free. ap (λ (x : Parts). page_of x.view q) p }) (λ runs. sym halted ∙ runs) (h.served t consistent)

  -- what a SYNCPT changes
  point_parts : (new : Parts) → new ≡ with_point old → PointParts old new
  point_parts new e = e ∙ ap (λ (p : Parts). record old { points = p.points; known = p.known; taken = p.taken; text = p.text; halted = p.halted }) (sym e)

  pub point_stands : (new : Parts) → length list < 2 ^ 64 → taken ≡ length list → old.text.bytes ≡ [] → new ≡ with_point old → OfEachHalf tells crashes old (λ seen asked half. MayPoint half → Moves seen asked old new half (Points ∷ Takes ∷ []))
      → (tells → crashes → IfKeepable base (λ s image. IsSettledServed s image broken list points old)) → IsShared tells crashes base list (length list) told (points ++ length list ∷ []) known (made + 1) broken new
  point_stands new few all empty e moves settled = record {
    entries = ap (λ (p : Parts). p.entries) e ∙ h.entries;
    appended = ap (λ (p : Parts). p.appended) e ∙ h.appended;
    few = h.few;
    taken_is = ap (λ (p : Parts). p.taken) e ∙ h.appended;
    told_is = ap (λ (p : Parts). p.told) e ∙ h.told_is;
    points_are = omega (arith, h.points_are, length-append points (length list ∷ []));
    points_is = omega (arith, ap (λ (p : Parts). p.points) e, h.points_is, synced_more points (length list) few);
    known_is = ap (λ (p : Parts). p.known) e ∙ h.known_is;
    told_within = let a = h.told_within in let b = h.taken_within in omega (arith, a, b);
    taken_within = omega arith;
    text = subst (λ (n : ℕ). HasText (start_of base).log.ring list (length list) n new.text) (sym (synced_more points (length list) few))
        (pointed_text (start_of base).log.ring list taken (syncs points) old.text h.text h.taken_within new.text all (ap (λ (p : Parts). p.text.ring) e) (ap (λ (p : Parts). p.text.place) e) (ap (λ (p : Parts). p.text.bytes) e ∙ empty) (ap (λ (p : Parts). p.text.ends) e) (ap (λ (p : Parts). p.text.last) e));
    size = subst (λ (p : Parts). length p.map.states ≤ p.blocks) (sym e) h.size;
    disk = pointed_disk (start_of base) points old h.disk (points ++ length list ∷ []) new (marked_more points (length list) few) (record { count = ap (λ (p : Parts). p.count) e; room = ap (λ (p : Parts). p.room) e; faults = ap (λ (p : Parts). p.faults) e; entries = ap (λ (p : Parts). p.entries) e; halted = ap (λ (p : Parts). p.halted) e });
    served = λ t consistent. beside new (point_parts new e) (ap (λ (p : Parts). p.halted) e) t consistent;
    kept = λ t c checked. kept_pointed tells crashes t c s image broken list points old (settled t c checked) new (same_place old new (ap (λ (p : Parts). p.text.ring) e) (ap (λ (p : Parts). p.blocks) e)) (point_parts new e) few empty e moves;
  }

  -- all are known to be stable
  pub known_stands : (new : Parts) → new ≡ record old { known = old.points } → OfEachHalf tells crashes old (λ seen asked half. Moves seen asked old new half (Knows ∷ [])) → IsShared tells crashes base list taken told points (syncs points) made broken new
  known_stands new e moves = record {
    entries = ap (λ (p : Parts). p.entries) e ∙ h.entries;
    appended = ap (λ (p : Parts). p.appended) e ∙ h.appended;
    few = h.few;
    taken_is = ap (λ (p : Parts). p.taken) e ∙ h.taken_is;
    told_is = ap (λ (p : Parts). p.told) e ∙ h.told_is;
    points_are = h.points_are;
    points_is = ap (λ (p : Parts). p.points) e ∙ h.points_is;
    known_is = ap (λ (p : Parts). p.known) e ∙ h.points_is;
    told_within = h.told_within;
    taken_within = h.taken_within;
    text = subst (λ (t : Text). HasText (start_of base).log.ring list taken (syncs points) t) (sym (ap (λ (p : Parts). p.text) e)) h.text;
    size = subst (λ (p : Parts). length p.map.states ≤ p.blocks) (sym e) h.size;
    disk = same_disk (start_of base) points old h.disk new (record { count = ap (λ (p : Parts). p.count) e; room = ap (λ (p : Parts). p.room) e; faults = ap (λ (p : Parts). p.faults) e; entries = ap (λ (p : Parts). p.entries) e; halted = ap (λ (p : Parts). p.halted) e });
    served = λ t consistent. beside new parts (ap (λ (p : Parts). p.halted) e) t consistent;
    kept = λ t c checked. kept_known tells crashes t c s image broken list points old (h.kept t c checked) new (same_place old new (ap (λ (p : Parts). p.text.ring) e) (ap (λ (p : Parts). p.blocks) e)) parts e moves;
  }
    where
      parts : PointParts old new
      parts = e ∙ ap (λ (p : Parts). record old { points = p.points; known = p.known; taken = p.taken; text = p.text; halted = p.halted }) (sym e)
