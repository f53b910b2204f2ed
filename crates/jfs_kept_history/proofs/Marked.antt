-- The superblock says that the volume is mounted, and the log is fresh: the disk is one of a volume that was just mounted.
use Rattle.std.specs.Bool.{⊤}
use Rattle.std.proofs.Common.{◌≡◌, ◌≤◌, ◌+◌, ◌-◌, ◌*◌, ℕ, List, [], ◌∷◌, ◌++◌, length, take, drop, replicate, None, refl, sym, ap, subst, ◌∙◌, arith}
use Rattle.std.proofs.lemmas.List.{append-nil, length-map, length-set, get_or-map}
use Rattle.jfs_disk.specs.Image.{Image, page_of}
use Rattle.jfs_disk.specs.Crash.{DiskState, PageHistory, IsCrashImage, IsCrashPage, no_page, resting, at_rest, seen_of, settled}
use Rattle.jfs_disk.specs.Moment.{IsResting}
use Rattle.jfs_disk.proofs.Tearing.{torn-same}
use Rattle.jfs_logfmt.specs.Written.{described, text_of}
use Rattle.jfs_logfmt.proofs.ReadBack.{length-descriptor_bytes}
use Rattle.jfs_logpages.specs.Fresh.{first_record, IsFreshLog}
use Rattle.jfs_logpages.specs.Group.{Holds}
use Rattle.jfs_logpages.specs.Ring.{IsRing, slot, fresh_text, fresh_ends}
use Rattle.jfs_logpages.specs.declared.last.Last.{Last}
use Rattle.jfs_logpages.proofs.Filled.{fresh-is-last}
use Rattle.jfs_super.specs.declared.fields.Super.{Super}
use Rattle.jfs_legal.specs.served.specs.Laws.{HoldsImage}
use Rattle.jfs_legal.specs.served.specs.halves.specs.Log.{LogParts}
use Rattle.jfs_legal.specs.served.specs.halves.specs.Parts.{Parts}
use Rattle.jfs_legal.specs.served.specs.mounted.specs.Mount.{FoundOn, IsMountOf}
use Rattle.jfs_legal.specs.served.specs.mounted.specs.mount_disk.specs.Begun.{marked, marked_page}
use Rattle.jfs_legal.specs.served.specs.mounted.proofs.Started.{log_stands, keeps_with}
use Rattle.jfs_legal.specs.served.specs.volume.proofs.Starting.{fresh_stands}
use Rattle.jfs_legal.specs.served.proofs.Mounted.{mounted_law}
use Rattle.jfs_legal.specs.served.proofs.Told.{told_mount}
use Rattle.jfs_kept_history.specs.Keepable.{IsKeepableImage}
use Rattle.jfs_kept_history.specs.Kept.{IsKeptSince}
use Rattle.jfs_kept_history.specs.Rested.{HasRested}
use Rattle.jfs_kept_history.proofs.Begun.{begin_law}
use Rattle.jfs_kept_history.proofs.Keepable.{uuid_size}
use Rattle.jfs_kept_history.proofs.Rested.{rested_law}
use Rattle.jfs_kept_history.specs.Failed.{IsRedoneToImage}
use Rattle.jfs_kept_history.proofs.Stays.{layout, low_size, read_back, consistent}

-- ---- a disk of which nothing is pending

pub rests : (pages : Image) → IsResting (at_rest pages)
unfolding settled
rests [] = refl
rests (page ∷ pages) = ap (λ (rest : DiskState). resting page ∷ rest) (rests pages)

seen : (pages : Image) → pages ≡ seen_of (at_rest pages)
seen [] = refl
seen (page ∷ pages) = ap (λ (rest : Image). page ∷ rest) (seen pages)

crash : (pages : Image) → IsCrashImage (at_rest pages) pages
crash pages = record {
  number = sym (length-map pages resting);
  each = λ n h. subst (λ (page : PageHistory). IsCrashPage page (page_of pages n)) (sym (get_or-map resting pages n [] no_page (omega (arith, h, length-map pages resting))))
      (record { base = 0; top = 0; sectors = 0; older = omega arith; there = omega arith; within = omega arith; content = sym (torn-same 0 (page_of pages n)) });
}

-- ---- the first record

sized : length (text_of first_record) ≡ 36
sized = length-descriptor_bytes (described first_record 0)

module _ (s : Super) (image : Image) (c : IsKeepableImage s image) (left : Image) (f : FoundOn s image)
    (put : take s.logpxd.addr left ≡ marked s (take s.logpxd.addr image)) (fresh : IsFreshLog s.logpxd.len s.uuid (drop s.logpxd.addr left)) where
  abbrev ring : ℕ
  ring = s.logpxd.len - 2

  abbrev low : Image
  low = marked s (take s.logpxd.addr image)

  abbrev log : Image
  log = drop s.logpxd.addr left

  some : 2 ≤ ring
  some = let shortest = (layout s image c).shortest in omega (arith, shortest)

  -- both halves, as a mount of the image makes them
  abbrev start : Parts
  start = record {
    blocks = s.logpxd.addr;
    view = low;
    dirty = [];
    disk = low;
    past = at_rest low ∷ [];
    faults = 0;
    count = s.logpxd.addr;
    room = length left;
    map = f.maps.blocks;
    inodes = f.maps.inodes;
    limit = f.maps.file_limit;
    files = f.maps.files;
    appended = 0;
    taken = 0;
    told = 0;
    points = 1;
    known = 1;
    entries = [];
    text = record { ring = ring; place = 4080 * (ring - 1) + 36; sync = 4080 * (ring - 1); bytes = []; ends = []; last = 0 };
    freed = [];
    halted = None;
  }

  abbrev last : Last
  last = record { ring = ring; number = ring - 1; fill = 36; page = record { 0 = slot ring log (ring - 1) } }

  abbrev side : LogParts
  side = record { image = log; past = at_rest log ∷ []; last = last; durable = 0; halted = None }

  size : length low ≡ s.logpxd.addr
  size = length-set (take s.logpxd.addr image) 8 (marked_page s (page_of (take s.logpxd.addr image) 8)) ∙ low_size s image c

  is_ring : IsRing ring (fresh_text ring (text_of first_record)) (fresh_ends ring) (ring - 1) log
  is_ring = subst (λ (n : ℕ). IsRing ring (fresh_text ring (text_of first_record)) (fresh_ends ring) n log) (let k : s.logpxd.len - 3 ≡ ring - 1 = omega arith in k) fresh.ring

  holds : Holds last (fresh_text ring (text_of first_record)) (fresh_ends ring) log
  holds = record {
    page = fresh-is-last ring (text_of first_record) (slot ring log (ring - 1)) some sized (is_ring.each (ring - 1) (omega arith) (omega (arith, some)));
    ring = is_ring;
  }

  mount : IsMountOf ⊤ ⊤ s image start side
  mount = record {
    pages = low;
    maps = f.maps;
    fresh = λ sees asked t k. fresh_stands sees asked ring start (record {
      counts = (refl, refl, refl, refl, refl, refl);
      empty = (refl, refl, refl);
      text = refl;
      number = size;
      disk = λ e q h. refl;
      low = λ e a. (size, rests low, seen low);
    });
    log_fresh = λ sees asked t k. log_stands sees asked ring low f.maps.blocks f.maps.inodes side refl refl refl refl (λ e. holds) (λ e. rests log);
    marked = λ t. refl;
    superblock = λ t. read_back s image c;
    rest = f.rest;
    has_maps = (refl, refl, refl, refl);
    found = λ t. f.are;
    keeps = λ t whole. keeps_with s image low f.maps (layout s image c).behind refl f.are whole;
  }

  since : IsKeptSince s (page_of image) start [] [] start
  since = begin_law ⊤ ⊤ tt tt s image start side mount c

  rested : HasRested s [] [] start left
  rested = record {
    parts = record {
      ring = refl;
      blocks = refl;
      low = subst (λ (pages : Image). IsCrashImage (at_rest low) pages) (sym put) (crash low);
      log_super = fresh.super_block;
    };
    last = last;
    last_ring = refl;
    log = record {
      counts = omega arith;
      ends = fresh_ends ring;
      -- a text of one record ends with nothing
      holds = subst (λ (text : List ℕ). Holds last (replicate (4080 * (ring - 1)) 0 ++ text) (fresh_ends ring) log) (sym (append-nil (text_of first_record))) holds;
    };
  }

  image_held : HoldsImage s (page_of image) start
  image_held = mounted_law s image start side (told_mount ⊤ ⊤ tt s image start side mount) (layout s image c).behind (consistent s image c)

  pub redone : IsRedoneToImage s image left
  redone = record {
    start = start;
    holds = image_held;
    runs = refl;
    redone = rested_law ⊤ ⊤ tt tt s (page_of image) start [] [] start left (uuid_size s image c) since rested;
  }
