-- What a cache keeps.
use Rattle.std.specs.Prelude.{◌≡◌, ◌⊎◌, ℕ, true, List, map, Option, unwrap_or, IsSome}
use Rattle.std.specs.List.{range_with_len}
use Rattle.jfs_disk.specs.Image.{Image, page_of}
use Rattle.jfs_ranges.specs.View.{Pending}
use Rattle.jfs_pages.specs.declared.dirty.Dirty.{Dirty}
use Rattle.jfs_pages.specs.declared.kept.Kept.{Kept}
use Rattle.jfs_pages.specs.Dirty.{IsDirty, is_among}
use Rattle.jfs_pages.specs.Pages.{bytes_in}

-- the bytes of page n as they are after all changes, where it was read
abbrev pub cached : Kept → ℕ → Option (List ℕ)
cached kept n = bytes_in kept.pages n

-- the dirty pages, by rising number
abbrev pub dirty_in : Kept → List Dirty
dirty_in kept = kept.changes.dirty.items

-- the pages that are held
abbrev pub held_in : Kept → List ℕ
held_in kept = kept.changes.held.items

-- a dirty page, as one that a view holds in memory alone
abbrev pub pending_of : Dirty → Pending
pending_of dirty = record { page = dirty.page; first = dirty.first; last = dirty.last }

-- what the cache gives of page n, over what its disk gives
abbrev pub shown : Image → Kept → ℕ → List ℕ
shown disk kept n = unwrap_or (cached kept n) (page_of disk n)

-- what it gives of each page
abbrev pub image_in : ℕ → Image → Kept → Image
image_in blocks disk kept = map (λ n. shown disk kept n) (range_with_len 0 blocks)

-- a call leaves the dirty pages and those that are held
pub record SameChanges (old new : Kept) : Type 0 where
  pub dirty : dirty_in new ≡ dirty_in old
  pub held : held_in new ≡ held_in old

-- a call keeps each page that is dirty or held in memory, as it is
abbrev pub KeepsPages : Kept → Kept → Type 0
KeepsPages old new = (n : ℕ) → IsDirty (dirty_in old) n ⊎ (is_among n (held_in old) ≡ true) → cached new n ≡ cached old n

-- a call keeps each page in memory, as it is
abbrev pub KeepsRead : Kept → Kept → Type 0
KeepsRead old new = (n : ℕ) → IsSome (cached old n) → cached new n ≡ cached old n
