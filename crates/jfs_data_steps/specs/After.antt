-- Data that is put into blocks of a volume, and a transaction after it.
use Rattle.std.specs.Prelude.{◌≡◌, ◌<◌, ◌==◌, ◌||◌, ℕ, Bool, false, if◌then◌else◌, List, [], ◌∷◌, length}
use Rattle.jfs_ranges.specs.declared.edit.Edit.{Edit}
use Rattle.jfs_ranges.specs.Apply.{apply_tx}
use Rattle.jfs_loss.specs.objects.specs.Volume.{Volume}
use Rattle.jfs_loss.specs.steps.specs.After.{after_call}
use Rattle.jfs_data_steps.specs.declared.pages.DataPage.{DataPage}

-- whether a block is among these
abbrev pub is_put : ℕ → List DataPage → Bool
is_put b [] = false
is_put b (d ∷ ds) = d.block == b || is_put b ds

-- each has the bytes of a whole page
abbrev pub AreWholePages : List DataPage → Type 0
AreWholePages [] = Unit {0}
AreWholePages (d ∷ ds) = (length d.page.0 ≡ 4096) × AreWholePages ds

-- each block lies within the file system part of so many
abbrev pub LieWithin : ℕ → List DataPage → Type 0
LieWithin blocks [] = Unit {0}
LieWithin blocks (d ∷ ds) = (d.block < blocks) × LieWithin blocks ds

-- no block stands there twice
abbrev pub EachOnce : List DataPage → Type 0
EachOnce [] = Unit {0}
EachOnce (d ∷ ds) = (is_put d.block ds ≡ false) × EachOnce ds

-- what a block holds once these are put: of a block that stands there twice the last page
abbrev pub page_put : List DataPage → ℕ → List ℕ → List ℕ
page_put [] b page = page
page_put (d ∷ ds) b page = page_put ds b (if d.block == b then d.page.0 else page)

abbrev pub put_data : List DataPage → (ℕ → List ℕ) → ℕ → List ℕ
put_data ds pages b = page_put ds b (pages b)

-- the volume with this data in its blocks; its sets don't change by it
abbrev pub with_data : List DataPage → Volume → Volume
with_data ds v = record v { page = put_data ds v.page }

-- The volume once data is put, and a transaction follows.
abbrev pub after_writes : ℕ → List DataPage → List Edit → Volume → Volume
after_writes blocks ds tx v = after_call blocks tx (with_data ds v)

-- a transaction leaves a page, whatever it holds
abbrev pub LeavesPage : ℕ → List Edit → Type 0
LeavesPage b tx = (page : List ℕ) → length page ≡ 4096 → apply_tx b tx page ≡ page
