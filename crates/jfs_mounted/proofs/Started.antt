-- Both halves of a volume that was just mounted.
use Rattle.std.proofs.Common.{◌≡◌, ◌≤◌, ◌+◌, ◌-◌, ◌*◌, sym, ap, ◌∙◌, subst, ℕ, Bool, true, List, [], ◌++◌, length, take, drop, replicate, None, Err, inl, arith}
use Rattle.std.proofs.lemmas.List.{append-nil, ext_get_or, length-replicate, get_or-take, get_or-set_other}
use Rattle.jfs_disk.specs.Image.{Image, page_of}
use Rattle.jfs_disk.specs.Crash.{DiskState, IsCrashImage, last_of, seen_of}
use Rattle.jfs_disk.specs.Moment.{IsResting}
use Rattle.jfs_disk.proofs.Flow.{crash-resting}
use Rattle.jfs_super.specs.Rules.{blocks_of}
use Rattle.jfs_super.specs.declared.fields.Super.{Super}
use Rattle.jfs_mount_maps.specs.bmap.specs.States.{Blocks}
use Rattle.jfs_mount_maps.specs.imap.specs.Inodes.{Inodes}
use Rattle.jfs_pages.specs.declared.kept.Kept.{Kept}
use Rattle.jfs_pages.specs.Kept.{shown, image_in}
use Rattle.jfs_logfmt.specs.Written.{text_of}
use Rattle.jfs_logpages.specs.Fresh.{first_record}
use Rattle.jfs_logpages.specs.Group.{Holds, position_of}
use Rattle.jfs_logpages.specs.Ring.{fresh_text, fresh_ends}
use Rattle.jfs_mount_disk.specs.Begun.{marked_page, IsMarked, HasParts, LeavesUntouched as OfBegin}
use Rattle.jfs_mount_disk.specs.declared.ready.BeginError.{BeginError}
use Rattle.jfs_mount_disk.specs.declared.ready.BeginError.TheVariants as begins
use Rattle.jfs_volume.specs.halves.specs.Laws.{fresh_halves}
use Rattle.jfs_volume.specs.halves.specs.Log.{LogParts, LogStandsFor}
use Rattle.jfs_volume.proofs.Stand.{image-at, length-image}
use Rattle.jfs_disk.specs.declared.disk.Disk.{Ghosts}
use Rattle.jfs_disk.specs.declared.disk.Fault.{Fault}
use Rattle.jfs_disk.specs.declared.disk.Part.TheVariants.{Whole}
use Rattle.jfs_findings.specs.meaning.specs.Image.{IsConsistentImage}
use Rattle.jfs_findings.specs.mount_rules.specs.Subject.{subject_of}
use Rattle.jfs_super.specs.declared.fields.Geometry.{Geometry}
use Rattle.jfs_mount_maps.specs.bmap.specs.MapFile.{pages_of}
use Rattle.jfs_map_files.specs.Files.{AreFilesOf}
use Rattle.jfs_mount_maps.specs.Maps.{blocks_on, AreAtRest, AreMapsOf, CarriesMaps}
use Rattle.jfs_mount_maps.specs.declared.found.FoundMaps.{FoundMaps}
use Rattle.jfs_mount_maps.specs.declared.found.MapsError.{MapsError}
use Rattle.jfs_mount_maps.specs.declared.found.MapsError.TheVariants as found
use Rattle.jfs_logpages.specs.declared.log_side.LogSide.{LogSide}
use Rattle.jfs_mount_disk.specs.declared.ready.Begun.{Begun}
use Rattle.jfs_mounted.specs.Laws.{SameButSuper, KeepsVolume}
use Rattle.jfs_mounted.specs.Mount.{log_parts, refusal_of, failure_of, LeavesLog, LeavesUntouched, WasCut}
use Rattle.jfs_mounted.proofs.Marked.{marked_law}

-- a cache that has read nothing shows the pages of its disk
pub image_is : (blocks : ℕ) (d : Image) (k : Kept) → length d ≡ blocks → ((q : ℕ) → shown d k q ≡ page_of d q) → image_in blocks d k ≡ d
image_is blocks d k size same = ext_get_or [] (image_in blocks d k) d (length-image blocks d k ∙ sym size)
    (λ q h. image-at blocks d k q (omega (arith, h, length-image blocks d k)) ∙ same q)

-- a log that was just made holds its one SYNCPT behind zeros
pub log_stands : (seen asked : Bool) (ring : ℕ) (pages : Image) (map : Blocks) (inodes : Inodes) (p : LogParts) → p.durable ≡ 0 → p.halted ≡ None → p.last.ring ≡ ring → position_of p.last ≡ 4080 * (ring - 1) + 36
    → (seen ≡ true → Holds p.last (fresh_text ring (text_of first_record)) (fresh_ends ring) p.image) → (asked ≡ true → IsResting (last_of p.past))
    → LogStandsFor seen asked p (fresh_halves ring (record { pages = pages; map = map; inodes = inodes }))
log_stands seen asked ring pages map inodes p durable halted size position holds rests = record {
  durable = durable;
  halted = halted;
  ring = size;
  place = λ _. omega (arith, position);
  items = λ t _. record {
    front = replicate (4080 * (ring - 1)) 0;
    begins = length-replicate {A = ℕ} (4080 * (ring - 1)) 0;
    ends = fresh_ends ring;
    holds = subst (λ (text : List ℕ). Holds p.last text (fresh_ends ring) p.image) (ap (λ (text : List ℕ). replicate (4080 * (ring - 1)) 0 ++ text) (sym (append-nil (text_of first_record)))) (holds t);
  };
  resting = λ a _. rests a;
}

-- the pages of the file system part, but for the superblock's
pub marked_same : (s : Super) (old low : Image) → blocks_of s ≤ s.logpxd.addr → IsMarked s old low → SameButSuper s (page_of old) (page_of low)
marked_same s old low fits marked b other below =
    ap (λ (im : Image). page_of im b) marked
    ∙ get_or-set_other (take s.logpxd.addr old) 8 b (marked_page s (page_of (take s.logpxd.addr old) 8)) [] other
    ∙ get_or-take s.logpxd.addr old b [] (omega (arith, below, fits))

-- a crash of a disk with nothing pending leaves its pages
pub still : (image now : Image) (past new : List DiskState) → new ≡ past → IsResting (last_of past) → now ≡ seen_of (last_of new) → now ≡ image → (left : Image) → IsCrashImage (last_of new) left → left ≡ image
still image now past new same rests seen is left crash =
    crash-resting (last_of new) left (subst (λ (states : List DiskState). IsResting (last_of states)) (sym same) rests) crash ∙ sym seen ∙ is

-- the log side of a disk that is ready
pub log_fresh_of : {D : Type 0} (d : Ghosts D) (s : Super) (disk : D) (begun : Begun D d) (side : LogSide D d) (seen asked : Bool) (pages : Image) (map : Blocks) (inodes : Inodes)
    → side ≡ begun.log → HasParts d s disk begun
    → (seen ≡ true → Holds begun.log.last (fresh_text (s.logpxd.len - 2) (text_of first_record)) (fresh_ends (s.logpxd.len - 2)) (d.image begun.log.part)) → (asked ≡ true → IsResting (last_of (d.past begun.log.part)))
    → LogStandsFor seen asked (log_parts d side) (fresh_halves (s.logpxd.len - 2) (record { pages = pages; map = map; inodes = inodes }))
log_fresh_of {D} d s disk begun side seen asked pages map inodes is parts holds rests =
    subst (λ (l : LogSide D d). LogStandsFor seen asked (log_parts d l) (fresh_halves (s.logpxd.len - 2) (record { pages = pages; map = map; inodes = inodes }))) (sym is)
    (log_stands seen asked (s.logpxd.len - 2) pages map inodes (log_parts d begun.log) parts.durable parts.running parts.ring (parts.position ∙ omega arith) holds rests)

-- with the maps that were found, the pages keep a consistent image's tree
pub keeps_with : (s : Super) (old pages : Image) (maps : FoundMaps) → blocks_of s ≤ s.logpxd.addr → IsMarked s old pages → AreMapsOf (subject_of s (page_of old)) maps → IsConsistentImage s (page_of old)
    → KeepsVolume s (page_of old) (page_of pages) maps.blocks maps.inodes
keeps_with s old pages maps fits marked are consistent =
    subst (λ (m : Blocks). KeepsVolume s (page_of old) (page_of pages) m maps.inodes) (sym are.blocks_are)
    (subst (λ (i : Inodes). KeepsVolume s (page_of old) (page_of pages) (blocks_on (subject_of s (page_of old))) i) (sym are.inodes_are)
    (marked_law s (page_of old) (page_of pages) consistent (marked_same s old pages fits marked)))

-- a crash of a disk that was only read
pub before_left : (s : Super) (old left : Image) (before now : ℕ) (why : MapsError) → CarriesMaps (record { part = Whole; count = before }) (record { part = Whole; count = now }) (Err why) → left ≡ old → LeavesLog s old (refusal_of why) left
before_left s old left before now (found.BadImage bad) carries e = e
before_left s old left before now (found.Read fault) carries e = (λ _. e, λ low. absurd (cc (low, ap (λ (f : Fault). f.part) carries.1)))
before_left s old left before now found.Memory carries e = inl (ap (λ (im : Image). drop s.logpxd.addr im) e)

-- Before the cut a fault is the whole disk's, and nothing was written.
pub before_untouched : (s : Super) (old left : Image) (before now : ℕ) (why : MapsError) → CarriesMaps (record { part = Whole; count = before }) (record { part = Whole; count = now }) (Err why) → left ≡ old → LeavesUntouched s old (refusal_of why) left
before_untouched s old left before now (found.BadImage bad) carries e = tt
before_untouched s old left before now (found.Read fault) carries e = λ high. absurd (cc (high, ap (λ (f : Fault). f.part) carries.1))
before_untouched s old left before now found.Memory carries e = ap (λ (im : Image). take s.logpxd.addr im) e

pub before_cut : (before now : ℕ) (why : MapsError) → CarriesMaps (record { part = Whole; count = before }) (record { part = Whole; count = now }) (Err why) → WasCut (refusal_of why) → ⊥
before_cut before now (found.BadImage bad) carries cut = cut
before_cut before now (found.Read fault) carries cut = cut (ap (λ (f : Fault). f.part) carries.1)
before_cut before now found.Memory carries cut = cut

-- what is said of a disk that isn't ready is said of the mount
pub untouched_of : (s : Super) (old left : Image) (why : BeginError) → OfBegin s old why left → LeavesUntouched s old (failure_of why) left
untouched_of s old left (begins.Disk fault) h = h
untouched_of s old left begins.Memory h = h

-- the pages of the maps' files lie before the log, where they lie within the blocks
pub files_of_low : (maps : FoundMaps) (layout : Geometry) (low : ℕ) → AreAtRest layout maps → layout.blocks ≤ low → AreFilesOf low (pages_of (length maps.blocks.states)) maps.inodes.iags maps.files
files_of_low maps layout low rest h = record {
  map_within = λ n b e. let within = rest.files.map_within n b e in omega (arith, within, h);
  inodes_within = λ n b e. let within = rest.files.inodes_within n b e in omega (arith, within, h);
  map_pages = rest.files.map_pages ∙ ap pages_of (sym rest.number);
  inode_pages = rest.files.inode_pages;
}
