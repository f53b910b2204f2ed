-- What a call reads that changed pages.
use Rattle.std.specs.Prelude.{◌≡◌, ℕ, ◌==◌, if◌then◌else◌, List, [], ◌∷◌, Option, Some, None}
use Rattle.jfs_disk.specs.declared.page.Page.{Page}
use Rattle.jfs_disk.specs.Image.{Image, page_of}
use Rattle.jfs_tree.specs.declared.draft.Drafted.{Drafted}

-- page n: the changed one that stands first, or the image's
abbrev pub shown : List Drafted → Image → ℕ → List ℕ
shown [] image n = page_of image n
shown (d ∷ ds) image n = if n == d.number then d.page.0 else shown ds image n

-- the changed page, or none
abbrev pub IsChanged : List Drafted → ℕ → Option Page → Type 0
IsChanged ds n (Some page) = (image : Image) → shown ds image n ≡ page.0
IsChanged ds n None = (image : Image) → shown ds image n ≡ page_of image n
