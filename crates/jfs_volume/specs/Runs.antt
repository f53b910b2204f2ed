-- What edits take and free.
use Rattle.std.specs.Prelude.{ℕ, List, [], ◌∷◌, ◌++◌, if◌then◌else◌, Option, Some, None}
use Rattle.jfs_bits.specs.declared.descriptor.Pxd.{Pxd}
use Rattle.jfs_ranges.specs.declared.edit.Edit.{Edit}
use Rattle.jfs_ranges.specs.declared.edit.Edit.TheVariants.{Lines, NoRedo, Alloc, Free}
use Rattle.jfs_ranges.specs.Apply.{touches_tx}
use Rattle.jfs_records.specs.Marks.{is_new_extent}
use Rattle.jfs_halves.specs.declared.freed.FreedPage.{FreedPage}

-- the run of blocks that an edit takes, as new inodes do with theirs; and the one that it frees
abbrev pub taken_by : Edit → List Pxd
taken_by (Lines page kind first bytes) = if is_new_extent kind bytes then record { len = 4; addr = page } ∷ [] else []
taken_by (NoRedo page) = []
taken_by (Alloc run) = run ∷ []
taken_by (Free run) = []

abbrev pub runs_of : Option Pxd → List Pxd
runs_of None = []
runs_of (Some run) = run ∷ []

abbrev pub freed_by : Edit → List Pxd
freed_by (Lines page kind first bytes) = []
freed_by (NoRedo page) = []
freed_by (Alloc run) = []
freed_by (Free run) = run ∷ []

-- the runs that edits take, in order, and those that they free
abbrev pub taken_in : List Edit → List Pxd
taken_in [] = []
taken_in (e ∷ es) = taken_by e ++ taken_in es

abbrev pub freed_in : List Edit → List Pxd
freed_in [] = []
freed_in (e ∷ es) = freed_by e ++ freed_in es

-- the page that an edit of entry n frees, where these edits follow: a NoRedo's, unless they put lines there
abbrev pub page_freed : ℕ → List Edit → Edit → List FreedPage
page_freed n es (Lines page kind first bytes) = []
page_freed n es (NoRedo page) = if touches_tx page es then [] else record { page = page; by_entry = n } ∷ []
page_freed n es (Alloc run) = []
page_freed n es (Free run) = []

abbrev pub pages_freed : ℕ → List Edit → List FreedPage
pages_freed n [] = []
pages_freed n (e ∷ es) = page_freed n es e ++ pages_freed n es
