-- Blocks that are written one after the other.
use Rattle.std.specs.Prelude.{◌≡◌, ◌⊎◌, ◌≤◌, ◌<◌, ◌∷◌, [], ◌++◌, ℕ, List, length, set, None, Result, Ok, Err, true, false}
use Rattle.jfs_disk.specs.Image.{Image, page_of}
use Rattle.jfs_disk.specs.Crash.{DiskState, last_of, written, seen_of, torn, TearsPage, LeavesTorn}
use Rattle.jfs_disk.specs.declared.disk.Disk.{Ghosts}
use Rattle.jfs_disk.specs.declared.disk.Fault.{Fault}
use Rattle.jfs_marks.specs.data_steps.specs.After.{is_put, put_data}
use Rattle.jfs_marks.specs.data_steps.specs.declared.pages.DataPage.{DataPage}
use Rattle.jfs_pages.specs.declared.cache.PageCache.{PageCache}
use Rattle.jfs_pages.specs.declared.dirty.Dirty.{Dirty}
use Rattle.jfs_pages.specs.Dirty.{dirty_of}
use Rattle.jfs_pages.specs.Kept.{image_in}

-- pages once these are put into their places
abbrev pub put_pages : List DataPage → Image → Image
put_pages [] image = image
put_pages (d ∷ ds) image = put_pages ds (set image d.block d.page.0)

-- the states of a disk once they are written
abbrev pub states_written : List DataPage → List DiskState → List DiskState
states_written [] past = past
states_written (d ∷ ds) past = states_written ds (past ++ written d.block d.page.0 (last_of past) ∷ [])

-- what a cache gives, what its disk gives, and the states of that
pub record Store : Type 0 where
  pub view : Image
  pub disk : Image
  pub past : List DiskState

abbrev pub store_of : {D : Type 0} → (d : Ghosts D) → PageCache D d → Store
store_of d cache = record { view = image_in cache.blocks (d.image cache.disk) cache.kept; disk = d.image cache.disk; past = d.past cache.disk }

-- What a page holds of which the write may have failed: what it was to hold, or what it held, or some front sectors, from none to all 8, of the one and then the other.
abbrev pub IsPartly : List ℕ → List ℕ → List ℕ → Type 0
IsPartly wanted was is = (is ≡ wanted) ⊎ ((is ≡ was) ⊎ ((sectors : ℕ) × (sectors ≤ 8) × (is ≡ torn sectors wanted was)))

-- Data, which isn't empty, was put in part: each of its blocks holds so much of it, and all others what they held.
pub record IsPartlyPut (put : List DataPage) (old new : Image) : Type 0 where
  pub some : 0 < length put
  pub each : (b : ℕ) → is_put b put ≡ true → IsPartly (put_data put (page_of old) b) (page_of old b) (page_of new b)
  pub others : (b : ℕ) → is_put b put ≡ false → page_of new b ≡ page_of old b

-- none of them is dirty
abbrev pub AreClean : List DataPage → List Dirty → Type 0
AreClean pages dirty = (b : ℕ) → is_put b pages ≡ true → dirty_of dirty b ≡ None

-- ---- one page

-- it was put
pub record IsPut (tells crashes : Type 0) (d : DataPage) (dirty : List Dirty) (old new : Store) : Type 0 where
  pub view : tells → dirty_of dirty d.block ≡ None → new.view ≡ set old.view d.block d.page.0
  pub disk : tells → new.disk ≡ set old.disk d.block d.page.0
  pub past : crashes → new.past ≡ old.past ++ written d.block d.page.0 (last_of old.past) ∷ []

-- Its write failed: a page that isn't dirty shows what a read of the disk gives.
pub record IsTorn (tells crashes : Type 0) (d : DataPage) (dirty : List Dirty) (old new : Store) : Type 0 where
  pub view : tells → dirty_of dirty d.block ≡ None → new.view ≡ set old.view d.block (page_of new.disk d.block)
  pub shown : tells → dirty_of dirty d.block ≡ None → page_of old.view d.block ≡ page_of old.disk d.block
  pub disk : tells → TearsPage d.block d.page.0 old.disk new.disk
  pub past : crashes → LeavesTorn d.block d.page.0 old.past new.past
  pub before : crashes → old.disk ≡ seen_of (last_of old.past)
  pub now : crashes → new.disk ≡ seen_of (last_of new.past)

abbrev pub PutsOne : (tells crashes : Type 0) → DataPage → List Dirty → Store → Store → Result (Unit {0}) Fault → Type 0
PutsOne tells crashes d dirty old new (Ok done) = IsPut tells crashes d dirty old new
PutsOne tells crashes d dirty old new (Err fault) = IsTorn tells crashes d dirty old new

-- ---- one after the other

pub record ArePut (tells crashes : Type 0) (pages : List DataPage) (dirty : List Dirty) (old new : Store) : Type 0 where
  pub view : tells → AreClean pages dirty → new.view ≡ put_pages pages old.view
  pub disk : tells → new.disk ≡ put_pages pages old.disk
  pub past : crashes → new.past ≡ states_written pages old.past

-- A front of them was put, and then the write of one failed.
pub record AreTorn (tells crashes : Type 0) (pages : List DataPage) (dirty : List Dirty) (old new : Store) : Type 0 where
  pub front : List DataPage
  pub stopped : DataPage
  pub rest : List DataPage
  pub split : pages ≡ front ++ stopped ∷ rest
  pub mid : Store
  pub put : ArePut tells crashes front dirty old mid
  pub torn : IsTorn tells crashes stopped dirty mid new

abbrev pub PutsAll : (tells crashes : Type 0) → List DataPage → List Dirty → Store → Store → Result (Unit {0}) Fault → Type 0
PutsAll tells crashes pages dirty old new (Ok done) = ArePut tells crashes pages dirty old new
PutsAll tells crashes pages dirty old new (Err fault) = AreTorn tells crashes pages dirty old new
