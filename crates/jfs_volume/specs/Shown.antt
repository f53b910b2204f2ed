-- What is shown of the pages of a map's file.
use Rattle.std.specs.Prelude.{◌≡◌, ◌<◌, ℕ, Bool, true, false, List, length, set, slice_get, Option, Some, None}
use Rattle.jfs_disk.specs.Image.{Image, page_of}
use Rattle.jfs_map_files.specs.Places.{MapPlaces}

-- a page of a file is put into its place, where it is in use and has one
abbrev pub PutsPage : Bool → Option ℕ → (List ℕ → Type 0) → Image → Image → Type 0
PutsPage false place is old new = new ≡ old
PutsPage true None is old new = new ≡ old
PutsPage true (Some b) is old new = (bytes : List ℕ) × is bytes × (new ≡ set old b bytes)

-- a page of a file holds other bytes, where it has a place
abbrev pub Spoils : Option ℕ → Image → Image → Type 0
Spoils None old new = new ≡ old
Spoils (Some b) old new = (bytes : List ℕ) × (new ≡ set old b bytes)

-- blocks that hold none of a file's pages stay
pub record StaysElse (places : List ℕ) (old new : Image) : Type 0 where
  pub others : (b : ℕ) → ((n : ℕ) → slice_get places n ≡ Some b → ⊥) → page_of new b ≡ page_of old b
  pub size : length new ≡ length old

-- the pages of a file lie on blocks of their own
abbrev pub AreOwn : List ℕ → Type 0
AreOwn places = (n m b : ℕ) → slice_get places n ≡ Some b → slice_get places m ≡ Some b → n ≡ m

-- So many of its first pages are shown, where they are in use; blocks that hold none of its pages stay.
pub record ShowsUpto (upto : ℕ) (places : List ℕ) (used : ℕ → Bool) (is : ℕ → List ℕ → Type 0) (old new : Image) : Type 0 where
  pub shown : AreOwn places → (n b : ℕ) → n < upto → used n ≡ true → slice_get places n ≡ Some b → is n (page_of new b)
  pub others : (b : ℕ) → ((n : ℕ) → slice_get places n ≡ Some b → ⊥) → page_of new b ≡ page_of old b
  pub size : length new ≡ length old

-- All of them, where the map had changed; else nothing does.
pub record PutsMap (file : MapPlaces) (used : ℕ → Bool) (is : ℕ → List ℕ → Type 0) (old new : Image) : Type 0 where
  pub stale : file.stale ≡ true → ShowsUpto (length file.places) file.places used is old new
  pub fresh : file.stale ≡ false → new ≡ old
