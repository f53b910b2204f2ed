-- What a mounted volume stands for, as the value that the volume turn guards.
use Rattle.std.specs.Prelude.{◌≡◌, ◌≤◌, ◌<◌, ◌+◌, ◌-◌, ◌^◌, ◌∷◌, [], ℕ, suc, Bool, true, false, if◌then◌else◌, List, length, map, take, drop, Option, Some, None}
use Rattle.jfs_disk.specs.Image.{Image, page_of}
use Rattle.jfs_disk.specs.declared.disk.Disk.{Ghosts}
use Rattle.jfs_disk.specs.declared.disk.Fault.{Fault}
use Rattle.jfs_super.specs.Super.{super_of}
use Rattle.jfs_super.specs.declared.fields.Super.{Super}
use Rattle.jfs_plain.specs.declared.call.Entry.{Entry}
use Rattle.jfs_logpages.specs.Records.{log_text, ends_of}
use Rattle.jfs_records.specs.Records.{Noted}
use Rattle.jfs_records.specs.Entries.{log_records}
use Rattle.jfs_turns.specs.Lists.{Base}
use Rattle.jfs_turns.specs.Standing.{Standing}
use Rattle.jfs_groups.specs.Points.{is_mark, syncs}
use Rattle.jfs_groups.specs.Text.{items_from, end_of}
use Rattle.jfs_groups.specs.Log.{standing as of_log}
use Rattle.jfs_groups.specs.declared.log.SharedLog.{SharedLog}
use Rattle.jfs_kept_history.specs.legal.specs.served.specs.halves.specs.Parts.{Parts, Text}
use Rattle.jfs_kept_history.specs.legal.specs.served.specs.shown.specs.meaning.specs.Image.{IsConsistentImage}
use Rattle.jfs_kept_history.specs.legal.specs.served.specs.shown.specs.meaning.specs.Image as meaning
use Rattle.jfs_kept_history.specs.legal.specs.served.specs.Legal.{Timed}
use Rattle.jfs_kept_history.specs.legal.specs.served.specs.Laws.{HoldsImage}
use Rattle.jfs_kept_history.specs.legal.specs.History.{AreLegal, GoOn, IsOver}
use Rattle.jfs_kept_history.specs.Keepable.{IsKeepableImage}
use Rattle.jfs_kept_history.specs.Kept.{Lasting, IsKeptSince}
use Rattle.jfs_shared.specs.Base.{start_of, log_start_of, image_of}
use Rattle.jfs_shared.specs.Faults.{IsOfDisk}
use Rattle.jfs_shared.specs.Entries.{Recorded}
use Rattle.jfs_shared.specs.declared.shared.SharedVolume.{SharedVolume}

-- ---- the entries

-- what they have in the log
abbrev pub logs_of : Recorded → Option (List Noted)
logs_of e = e.noted

-- as the volume has them
abbrev pub entries_in : List Recorded → List Entry
entries_in list = map (λ (e : Recorded). e.entry) list

-- with their moments
abbrev pub timed : Recorded → Timed
timed e = record { entry = e.entry; now = e.now }

abbrev pub timed_in : List Recorded → List Timed
timed_in list = map timed list

-- with what they have in the log
abbrev pub lasting : Recorded → Lasting
lasting e = record { timed = timed e; noted = e.noted }

abbrev pub lasting_in : List Recorded → List Lasting
lasting_in list = map lasting list

-- the sync counts beside the mark
abbrev pub counts_in : List ℕ → List ℕ
counts_in [] = []
counts_in (point ∷ points) = if is_mark point then counts_in points else point ∷ counts_in points

-- ---- the text that waits

-- It has the records of the entries that no group has taken, to stand behind the text of those that groups have taken and of so many syncpoints.
pub record HasText (ring : ℕ) (list : List Recorded) (taken points : ℕ) (text : Text) : Type 0 where
  pub ring_is : text.ring ≡ ring
  pub place : text.place ≡ end_of logs_of ring (take taken list) points
  pub bytes : text.bytes ≡ log_text (log_records ring (end_of logs_of ring (take taken list) points) (items_from logs_of taken (drop taken list)))
  pub ends : text.ends ≡ ends_of 0 (log_records ring (end_of logs_of ring (take taken list) points) (items_from logs_of taken (drop taken list)))
  pub last : text.last ≡ length list

-- ---- the replies

-- They are a legal history that goes on; or memory ran out for a call, and they broke off: they are legal, and the volume is a consistent one, which has the tree of the last of them while it runs. No call is done then.
abbrev pub GoesOn : Bool → (ℕ → ℕ) → ℕ → Parts → List Timed → Parts → Type 0
GoesOn false area log_pages start es p = GoOn area log_pages start es p
GoesOn true area log_pages start es p = IsOver area log_pages start es p

-- either way they are legal
abbrev pub HistoryLaw : Type 0
HistoryLaw = (is_broken_off : Bool) (area : ℕ → ℕ) (log_pages : ℕ) (start : Parts) (es : List Timed) (p : Parts) → GoesOn is_broken_off area log_pages start es p → AreLegal area log_pages start es

-- ---- a log that has halted

-- A volume that ran until then counts a mark more, and one that had halted before doesn't.
abbrev pub marked_by : Option Fault → ℕ → ℕ
marked_by None n = n + 1
marked_by (Some first) n = n

-- so from a volume that holds the tree of an image, and hasn't halted
pub record IsServed (s : Super) (page : ℕ → List ℕ) (is_broken_off : Bool) (list : List Recorded) (p : Parts) : Type 0 where
  pub start : Parts
  pub holds : HoldsImage s page start
  pub runs : start.halted ≡ None
  pub goes_on : GoesOn is_broken_off (meaning.volume_of s page).area s.logpxd.len start (timed_in list) p

-- What keeps it for a redo has its entries and its sync counts. Its log's ring, and its part of the disk, are as the superblock says.
pub record IsKeptServed (s : Super) (image : Image) (is_broken_off : Bool) (list : List Recorded) (points : List ℕ) (p : Parts) : Type 0 where
  pub served : IsServed s (page_of image) is_broken_off list p
  pub since : IsKeptSince s (page_of image) served.start (lasting_in list) (counts_in points) p
  pub ring : p.text.ring ≡ s.logpxd.len - 2
  pub blocks : p.blocks ≡ s.logpxd.addr

-- where the image is consistent, by the superblock on its page 8
abbrev pub IfConsistent : Base → (Super → (ℕ → List ℕ) → Type 0) → Type 0
IfConsistent base fact = IsConsistentImage (super_of (page_of (image_of base) 8)) (page_of (image_of base)) → fact (super_of (page_of (image_of base) 8)) (page_of (image_of base))

-- where it is keepable
abbrev pub IfKeepable : Base → (Super → Image → Type 0) → Type 0
IfKeepable base fact = IsKeepableImage (super_of (page_of (image_of base) 8)) (image_of base) → fact (super_of (page_of (image_of base) 8)) (image_of base)

-- ---- all of it

-- The volume has the list's entries, each with a number of 32 bits. Groups have taken so many of them, and so many are acknowledged. It has made so many syncpoints since the mount, which has one of its own, and knows so many to be stable; the list of syncpoints may have a mark, that the log has halted, beside them. It has the pages of its part of the disk; a fault has halted it, or is a call's reply, only where a count of faults rose. Of a disk that tells its contents, its replies are legal; and of one that tells crashes too, mounted from a keepable image, it is kept for a redo, also where its history broke off.
pub record IsShared (tells crashes : Type 0) (base : Base) (list : List Recorded) (taken told : ℕ) (points : List ℕ) (known : ℕ) (made : ℕ) (is_broken_off : Bool) (p : Parts) : Type 0 where
  pub entries : p.entries ≡ entries_in list
  pub appended : p.appended ≡ length list
  pub few : length list < 2 ^ 32
  pub taken_is : p.taken ≡ taken
  pub told_is : p.told ≡ told
  pub points_are : made ≡ length points
  pub points_is : p.points ≡ suc (syncs points)
  pub known_is : p.known ≡ suc known
  pub told_within : told ≤ taken
  pub taken_within : taken ≤ length list
  pub text : HasText (start_of base).log.ring list taken (syncs points) p.text
  pub size : length p.map.states ≤ p.blocks
  pub disk : IsOfDisk (start_of base) points p
  pub served : tells → IfConsistent base (λ s page. IsServed s page is_broken_off list p)
  pub kept : tells → crashes → IfKeepable base (λ s image. IsKeptServed s image is_broken_off list points p)

abbrev pub standing : {D : Type 0} (d : Ghosts D) → Standing (SharedVolume D) Recorded
standing d v base list taken told points known = IsShared d.tells d.tells_crashes base list taken told points known v.points v.is_broken_off v.volume

-- and its log
abbrev pub log_standing : {D : Type 0} (d : Ghosts D) → Standing (SharedLog D d) Recorded
log_standing d = of_log d logs_of log_start_of

-- it stands for something
abbrev pub Stands : {D : Type 0} (d : Ghosts D) → SharedVolume D → Type 0
Stands d v = (base : Base) × (list : List Recorded) × (taken : ℕ) × (told : ℕ) × (points : List ℕ) × (known : ℕ) × standing d v base list taken told points known
