-- Pages of the maps are written, one after the other, as changes of a half.
use Rattle.std.proofs.Common.{◌≡◌, ◌<◌, ◌≤◌, ◌+◌, ◌++◌, ◌∷◌, [], ℕ, suc, add-one, Bool, true, false, if◌then◌else◌, List, length, drop, get_or, slice_get, Some, Result, Ok, Err, refl, sym, ap, ◌∙◌, inl, inr, subst, append_assoc}
use Rattle.std.proofs.lemmas.List.{append-nil, map-append, drop_all, drop_more}
use Rattle.std.proofs.lemmas.Option.{slice_get-get_or}
use Rattle.jfs_disk.specs.declared.disk.Fault.{Fault}
use Rattle.jfs_bmap.specs.MapFile.{is_in_use}
use Rattle.jfs_bmap.specs.States.{Blocks}
use Rattle.jfs_imap.specs.Inodes.{Inodes}
use Rattle.jfs_map_files.specs.Places.{MapPlaces}
use Rattle.jfs_map_files.specs.declared.map_file.MapFiles.{MapFiles}
use Rattle.jfs_marks.specs.data_steps.specs.declared.pages.DataPage.{DataPage}
use Rattle.jfs_halves.specs.Half.{VolumeHalf}
use Rattle.jfs_halves.specs.Parts.{Parts, StandsFor}
use Rattle.jfs_halves.specs.Change.{Change, Writes, WriteTears, Stops, after}
use Rattle.jfs_halves.specs.Moves.{Moves}
use Rattle.jfs_halves.proofs.Joined.{join}
use Rattle.jfs_volume.specs.MapsHome.{MapPage, OfBlocks, OfInodes, page_at, block_pages, inode_pages, stale_block_pages, stale_inode_pages, IsPageOf, ArePagesOf, AreFirstOf, AreHome, StopsAmong, GoHome}
use Rattle.jfs_volume.specs.Written.{writes, StopsAt, WriteIs, stops, tears}
use Rattle.jfs_volume.proofs.Stand.{none}

-- ---- lists of pages

module _ (map : Blocks) (inodes : Inodes) where
  more_pages : (ts us : List MapPage) (ds es : List DataPage) → ArePagesOf map inodes ts ds → ArePagesOf map inodes us es → ArePagesOf map inodes (ts ++ us) (ds ++ es)
  more_pages [] us [] es a b = b
  more_pages [] us (d ∷ ds) es a b = absurd a
  more_pages (t ∷ ts) us [] es a b = absurd a
  more_pages (t ∷ ts) us (d ∷ ds) es a b = (a.0, more_pages ts us ds es a.1 b)

  then_first : (ts us : List MapPage) (ds es : List DataPage) → ArePagesOf map inodes ts ds → AreFirstOf map inodes us es → AreFirstOf map inodes (ts ++ us) (ds ++ es)
  then_first [] us [] es a b = b
  then_first [] us (d ∷ ds) es a b = absurd a
  then_first (t ∷ ts) us [] es a b = absurd a
  then_first (t ∷ ts) us (d ∷ ds) es a b = (a.0, then_first ts us ds es a.1 b)

  still_first : (ts us : List MapPage) (ds : List DataPage) → AreFirstOf map inodes ts ds → AreFirstOf map inodes (ts ++ us) ds
  still_first ts us [] a = tt
  still_first [] us (d ∷ ds) a = absurd a
  still_first (t ∷ ts) us (d ∷ ds) a = (a.0, still_first ts us ds a.1)

-- the maps stay as these pages are written
pages_over : (map map' : Blocks) (inodes inodes' : Inodes) (ts : List MapPage) (ds : List DataPage) → map' ≡ map → inodes' ≡ inodes → ArePagesOf map' inodes' ts ds → ArePagesOf map inodes ts ds
pages_over map map' inodes inodes' ts ds same_map same_inodes a = subst (λ (m : Blocks). ArePagesOf m inodes ts ds) same_map (subst (λ (i : Inodes). ArePagesOf map' i ts ds) same_inodes a)

first_over : (map map' : Blocks) (inodes inodes' : Inodes) (ts : List MapPage) (ds : List DataPage) → map' ≡ map → inodes' ≡ inodes → AreFirstOf map' inodes' ts ds → AreFirstOf map inodes ts ds
first_over map map' inodes inodes' ts ds same_map same_inodes a = subst (λ (m : Blocks). AreFirstOf m inodes ts ds) same_map (subst (λ (i : Inodes). AreFirstOf map' i ts ds) same_inodes a)

-- ---- which pages a file has

-- a list goes on with the item at a place
goes_on_with : (xs : List ℕ) (i : ℕ) → i < length xs → (x : ℕ) × (slice_get xs i ≡ Some x) × (drop i xs ≡ x ∷ drop (i + 1) xs)
goes_on_with xs i h = (get_or xs i 0, slice_get-get_or xs i 0 h, drop_more xs i 0 h)

in_use_at : (used : Bool) (page : ℕ → MapPage) (b : ℕ) (more : List MapPage) → ((if used then page b ∷ [] else []) ++ more) ≡ (page_at used page (Some b) ++ more)
in_use_at true page b more = refl
in_use_at false page b more = refl

pub next_block : (blocks n : ℕ) (places : List ℕ) → n < length places → block_pages blocks n (drop n places) ≡ page_at (is_in_use blocks n) (OfBlocks n) (slice_get places n) ++ block_pages blocks (n + 1) (drop (n + 1) places)
next_block blocks n places h =
    let w = goes_on_with places n h in
    rw (w.2, w.1) (in_use_at (is_in_use blocks n) (OfBlocks n) w.0 (block_pages blocks (suc n) (drop (n + 1) places))
    ∙ ap (λ (k : ℕ). page_at (is_in_use blocks n) (OfBlocks n) (Some w.0) ++ block_pages blocks k (drop (n + 1) places)) (sym (add-one n)))

pub next_inode : (n : ℕ) (places : List ℕ) → n < length places → inode_pages n (drop n places) ≡ page_at true (OfInodes n) (slice_get places n) ++ inode_pages (n + 1) (drop (n + 1) places)
next_inode n places h =
    let w = goes_on_with places n h in
    rw (w.2, w.1) (ap (λ (k : ℕ). OfInodes n w.0 ∷ inode_pages k (drop (n + 1) places)) (sym (add-one n)))

pub last_block : (blocks n : ℕ) (places : List ℕ) → length places ≤ n → block_pages blocks n (drop n places) ≡ []
last_block blocks n places h = ap (block_pages blocks n) (drop_all n places h)

pub last_inode : (n : ℕ) (places : List ℕ) → length places ≤ n → inode_pages n (drop n places) ≡ []
last_inode n places h = ap (inode_pages n) (drop_all n places h)

-- ---- as changes of a half

writes-on : (seen asked : Bool) (old mid new : Parts) (half : VolumeHalf) (pages more : List DataPage) → Moves seen asked old mid half (writes pages) → Moves seen asked mid new (after half (writes pages)) (writes more) →
    Moves seen asked old new half (writes (pages ++ more))
writes-on seen asked old mid new half pages more a b =
    subst (λ (list : List Change). Moves seen asked old new half list) (sym (map-append (λ (d : DataPage). Writes d.block d.page.0) pages more)) (join seen asked old mid new half (writes pages) (writes more) a b)

stops-on : (seen asked : Bool) (old mid new : Parts) (half : VolumeHalf) (pages front : List DataPage) (next : DataPage) (fault : Fault) → Moves seen asked old mid half (writes pages) → StopsAt seen asked front next mid new (after half (writes pages)) fault →
    StopsAt seen asked (pages ++ front) next old new half fault
stops-on seen asked old mid new half pages front next fault a s = record {
  last = s.last;
  is = s.is;
  moves = subst (λ (list : List Change). Moves seen asked old new half list) (sym (append_assoc (writes pages) (writes front) (s.last ∷ [])) ∙ ap (λ (list : List Change). list ++ s.last ∷ []) (sym (map-append (λ (d : DataPage). Writes d.block d.page.0) pages front)))
      (join seen asked old mid new half (writes pages) (writes front ++ s.last ∷ []) a s.moves);
}

-- one page is written
pub home_of : (seen asked : Bool) (t : MapPage) (n : ℕ) (bytes : List ℕ) (old new : Parts) (half : VolumeHalf) (result : Result (Unit {0}) Fault) → IsPageOf old.map old.inodes t (record { block = n; page = record { 0 = bytes } }) → WriteIs seen asked n bytes old new half result →
    GoHome seen asked (t ∷ []) old new half result
home_of seen asked t n bytes old new half (Ok done) is moves = record { pages = record { block = n; page = record { 0 = bytes } } ∷ []; are = (is, tt); moves = moves }
home_of seen asked t n bytes old new half (Err fault) is (inl w) = record {
  front = [];
  next = record { block = n; page = record { 0 = bytes } };
  are = (is, tt);
  stops = record { last = WriteTears n bytes w.0 fault; is = tears w.0; moves = w.1 };
}
home_of seen asked t n bytes old new half (Err fault) is (inr m) = record {
  front = [];
  next = record { block = n; page = record { 0 = bytes } };
  are = (is, tt);
  stops = record { last = Stops fault; is = stops; moves = m };
}

-- none is
pub none_home : (seen asked : Bool) (p : Parts) (half : VolumeHalf) → StandsFor seen asked p half → AreHome seen asked [] p p half
none_home seen asked p half s = record { pages = []; are = tt; moves = none seen asked p p half s (λ t k. refl) }

-- Pages of the maps were written from these parts on; of all that are to be, some are left.
pub record Reaches (seen asked : Bool) (ts left : List MapPage) (old new : Parts) (half : VolumeHalf) : Type 0 where
  pub pages : List DataPage
  pub all : (more : List DataPage) → ArePagesOf old.map old.inodes left more → ArePagesOf old.map old.inodes ts (pages ++ more)
  pub first : (more : List DataPage) → AreFirstOf old.map old.inodes left more → AreFirstOf old.map old.inodes ts (pages ++ more)
  pub moves : Moves seen asked old new half (writes pages)

pub begins : (seen asked : Bool) (ts : List MapPage) (p : Parts) (half : VolumeHalf) → StandsFor seen asked p half → Reaches seen asked ts ts p p half
begins seen asked ts p half s = record { pages = []; all = λ more a. a; first = λ more a. a; moves = none seen asked p p half s (λ t k. refl) }

module _ (seen asked : Bool) (ts at left : List MapPage) (old mid new : Parts) (half : VolumeHalf) (same_map : mid.map ≡ old.map) (same_inodes : mid.inodes ≡ old.inodes) (r : Reaches seen asked ts (at ++ left) old mid half) where
  pub goes_on : AreHome seen asked at mid new (after half (writes r.pages)) → Reaches seen asked ts left old new half
  goes_on h = record {
    pages = r.pages ++ h.pages;
    all = λ more a. subst (ArePagesOf old.map old.inodes ts) (sym (append_assoc r.pages h.pages more)) (r.all (h.pages ++ more) (more_pages old.map old.inodes at left h.pages more are a));
    first = λ more a. subst (AreFirstOf old.map old.inodes ts) (sym (append_assoc r.pages h.pages more)) (r.first (h.pages ++ more) (then_first old.map old.inodes at left h.pages more are a));
    moves = writes-on seen asked old mid new half r.pages h.pages r.moves h.moves;
  }
    where
      are : ArePagesOf old.map old.inodes at h.pages
      are = pages_over old.map mid.map old.inodes mid.inodes at h.pages same_map same_inodes h.are

  pub stops_there : (fault : Fault) → StopsAmong seen asked at mid new (after half (writes r.pages)) fault → StopsAmong seen asked ts old new half fault
  stops_there fault s = record {
    front = r.pages ++ s.front;
    next = s.next;
    are = subst (AreFirstOf old.map old.inodes ts) (sym (append_assoc r.pages s.front (s.next ∷ [])))
        (r.first (s.front ++ s.next ∷ []) (still_first old.map old.inodes at left (s.front ++ s.next ∷ []) (first_over old.map mid.map old.inodes mid.inodes at (s.front ++ s.next ∷ []) same_map same_inodes s.are)));
    stops = stops-on seen asked old mid new half r.pages s.front s.next fault r.moves s.stops;
  }

pub ends : (seen asked : Bool) (ts : List MapPage) (old new : Parts) (half : VolumeHalf) → Reaches seen asked ts [] old new half → AreHome seen asked ts old new half
ends seen asked ts old new half r = record { pages = r.pages; are = subst (ArePagesOf old.map old.inodes ts) (append-nil r.pages) (r.all [] tt); moves = r.moves }

-- which map has changed is no part of a half
pub marked-home : (seen asked : Bool) (ts : List MapPage) (old new : Parts) (files : MapFiles) (half : VolumeHalf) → AreHome seen asked ts old new half → AreHome seen asked ts old (record new { files = files }) half
marked-home seen asked ts old new files half h =
    let m = h.moves in
    let s = m.stands in
    record {
      pages = h.pages;
      are = h.are;
      moves = record {
        fit = m.fit;
        stands = record {
          appended = s.appended;
          taken = s.taken;
          told = s.told;
          points = s.points;
          known = s.known;
          number = s.number;
          halted = s.halted;
          dirty = s.dirty;
          block_map = s.block_map;
          inodes = s.inodes;
          handed = s.handed;
          entries = s.entries;
          text = s.text;
          freed = s.freed;
          view = s.view;
          disk = s.disk;
          low = s.low;
        };
        past = m.past;
      };
    }

-- ---- both maps

pub stale_blocks : (blocks : ℕ) (file : MapPlaces) → file.stale ≡ true → stale_block_pages blocks file ≡ block_pages blocks 0 file.places
stale_blocks blocks file stale = ap (λ (s : Bool). if s then block_pages blocks 0 file.places else []) stale

pub fresh_blocks : (blocks : ℕ) (file : MapPlaces) → file.stale ≡ false → stale_block_pages blocks file ≡ []
fresh_blocks blocks file fresh = ap (λ (s : Bool). if s then block_pages blocks 0 file.places else []) fresh

pub stale_inodes : (file : MapPlaces) → file.stale ≡ true → stale_inode_pages file ≡ inode_pages 0 file.places
stale_inodes file stale = ap (λ (s : Bool). if s then inode_pages 0 file.places else []) stale

pub fresh_inodes : (file : MapPlaces) → file.stale ≡ false → stale_inode_pages file ≡ []
fresh_inodes file fresh = ap (λ (s : Bool). if s then inode_pages 0 file.places else []) fresh

-- the one's pages are written, and then the other's
pub maps-then : (seen asked : Bool) (ts us : List MapPage) (old mid new : Parts) (half : VolumeHalf) (result : Result (Unit {0}) Fault) → mid.map ≡ old.map → mid.inodes ≡ old.inodes → (h : AreHome seen asked ts old mid half) → GoHome seen asked us mid new (after half (writes h.pages)) result →
    GoHome seen asked (ts ++ us) old new half result
maps-then seen asked ts us old mid new half (Ok done) same_map same_inodes h g = record {
  pages = h.pages ++ g.pages;
  are = more_pages old.map old.inodes ts us h.pages g.pages h.are (pages_over old.map mid.map old.inodes mid.inodes us g.pages same_map same_inodes g.are);
  moves = writes-on seen asked old mid new half h.pages g.pages h.moves g.moves;
}
maps-then seen asked ts us old mid new half (Err fault) same_map same_inodes h g = record {
  front = h.pages ++ g.front;
  next = g.next;
  are = subst (AreFirstOf old.map old.inodes (ts ++ us)) (sym (append_assoc h.pages g.front (g.next ∷ [])))
      (then_first old.map old.inodes ts us h.pages (g.front ++ g.next ∷ []) h.are (first_over old.map mid.map old.inodes mid.inodes us (g.front ++ g.next ∷ []) same_map same_inodes g.are));
  stops = stops-on seen asked old mid new half h.pages g.front g.next fault h.moves g.stops;
}

-- or they aren't
pub maps-stop : (seen asked : Bool) (ts us : List MapPage) (old new : Parts) (half : VolumeHalf) (fault : Fault) → StopsAmong seen asked ts old new half fault → StopsAmong seen asked (ts ++ us) old new half fault
maps-stop seen asked ts us old new half fault s = record { front = s.front; next = s.next; are = still_first old.map old.inodes ts us (s.front ++ s.next ∷ []) s.are; stops = s.stops }
