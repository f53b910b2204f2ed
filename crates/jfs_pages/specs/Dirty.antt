-- Dirty pages: entries changed them in memory, and they haven't gone home since.
use Rattle.std.specs.Prelude.{◌<◌, ℕ, Bool, List, [], ◌∷◌, length, if◌then◌else◌, ◌==◌, slice_index_or, Option, Some, None, IsSome}
use Rattle.std.specs.List.{list_any}
use Rattle.jfs_pages.specs.declared.dirty.Dirty.{Dirty}

-- page n among the dirty ones
abbrev pub dirty_of : List Dirty → ℕ → Option Dirty
dirty_of [] n = None
dirty_of (dirty ∷ rest) n = if dirty.page == n then Some dirty else dirty_of rest n

abbrev pub IsDirty : List Dirty → ℕ → Type 0
IsDirty dirty n = IsSome (dirty_of dirty n)

-- page n, once an entry changed it: its first entry stays, and this is its last one
abbrev pub after_entry : ℕ → ℕ → Option Dirty → Dirty
after_entry n entry None = record { page = n; first = entry; last = entry }
after_entry n entry (Some dirty) = record dirty { last = entry }

-- page n after an entry, which changed it or not
abbrev pub touched_by : Bool → ℕ → ℕ → Option Dirty → Option Dirty
touched_by changed n entry old = if changed then Some (after_entry n entry old) else old

-- no page, where a place has none
abbrev pub no_dirty : Dirty
no_dirty = record { page = 0; first = 0; last = 0 }

-- the number of the page at place i
abbrev pub page_at : List Dirty → ℕ → ℕ
page_at dirty i = let one = slice_index_or dirty i no_dirty in one.page

-- the pages rise, so none comes twice
abbrev pub IsRising : List Dirty → Type 0
IsRising dirty = (i j : ℕ) → i < j → j < length dirty → page_at dirty i < page_at dirty j

-- whether page n is among some pages
abbrev pub is_among : ℕ → List ℕ → Bool
is_among n pages = list_any (λ page. page == n) pages

-- the last entry that changed a dirty page
abbrev pub last_of : Option Dirty → ℕ
last_of None = 0
last_of (Some dirty) = dirty.last
