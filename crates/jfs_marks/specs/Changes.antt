-- The inodes that come into use and go out of it on the pages that a transaction changes, by their link counts before it and after it.
use Rattle.std.specs.Prelude.{ℕ, zero, suc, ◌+◌, ◌==◌, ◌&&◌, not, Bool, true, false, nat_lt, if◌then◌else◌, List, [], ◌∷◌, Option, Some, None}
use Rattle.jfs_imap.specs.Inodes.{Inodes}
use Rattle.jfs_ranges.specs.declared.edit.Edit.{Edit}
use Rattle.jfs_ranges.specs.declared.edit.Edit.TheVariants.{Lines, NoRedo, Alloc, Free}
use Rattle.jfs_ranges.specs.Apply.{apply_tx}
use Rattle.jfs_data_steps.specs.steps.specs.After.{is_extent}
use Rattle.jfs_data_steps.specs.After.{is_put}
use Rattle.jfs_data_steps.specs.declared.pages.DataPage.{DataPage}
use Rattle.jfs_marks.specs.declared.founded.Founded.{Founded}
use Rattle.jfs_marks.specs.declared.founded.Founded.TheVariants as founded
use Rattle.jfs_marks.specs.declared.changes.Met.{Met}
use Rattle.jfs_marks.specs.declared.changes.Met.TheVariants.{Nothing, One, Several}
use Rattle.jfs_marks.specs.declared.changes.Changes.{Changes}
use Rattle.jfs_marks.specs.Standing.{standing}

-- ---- what is met

abbrev pub met_with : ℕ → Met → Met
met_with n Nothing = One n
met_with n (One m) = if n == m then One m else Several
met_with n Several = Several

abbrev pub met_if : Option ℕ → Met → Met
met_if None met = met
met_if (Some n) met = met_with n met

abbrev pub same_number : Option ℕ → Option ℕ → Bool
same_number None None = true
same_number None (Some m) = false
same_number (Some n) None = false
same_number (Some n) (Some m) = n == m

abbrev pub no_changes : Changes
no_changes = record { taken = Nothing; freed = Nothing }

abbrev pub too_many : Changes
too_many = record { taken = Several; freed = Several }

-- the inode in use in a slot before is followed by this one
abbrev pub noted_change : Option ℕ → Option ℕ → Changes → Changes
noted_change was now c = if same_number was now then c else record { taken = met_if now c.taken; freed = met_if was c.freed }

-- ---- page by page

-- the first so many slots of page p
abbrev pub slots_changes : Inodes → Founded → ℕ → List ℕ → List ℕ → ℕ → Changes → Changes
slots_changes inodes f p before after zero c = c
slots_changes inodes f p before after (suc k) c = noted_change (standing inodes founded.Nothing p before k) (standing inodes f p after k) (slots_changes inodes f p before after k c)

-- More than one call does where the page lies past the volume, or data is written to it too.
abbrev pub page_changes : ℕ → (ℕ → List ℕ) → Inodes → Founded → List Edit → List DataPage → ℕ → Changes → Changes
page_changes blocks pages inodes f tx ds p c = if nat_lt p blocks && not (is_put p ds) then slots_changes inodes f p (pages p) (apply_tx p tx (pages p)) 8 c else too_many

-- so many pages have lines of an edit
abbrev pub pages_told : Edit → ℕ
pages_told (Lines page kind first bytes) = if is_extent kind first bytes then 4 else 1
pages_told (NoRedo page) = 0
pages_told (Alloc run) = 0
pages_told (Free run) = 0

abbrev pub first_told : Edit → ℕ
first_told (Lines page kind first bytes) = page
first_told (NoRedo page) = 0
first_told (Alloc run) = 0
first_told (Free run) = 0

-- the first so many pages from one on
abbrev pub pages_changes : ℕ → (ℕ → List ℕ) → Inodes → Founded → List Edit → List DataPage → ℕ → ℕ → Changes → Changes
pages_changes blocks pages inodes f tx ds p zero c = c
pages_changes blocks pages inodes f tx ds p (suc n) c = page_changes blocks pages inodes f tx ds (p + n) (pages_changes blocks pages inodes f tx ds p n c)

abbrev pub edit_changes : ℕ → (ℕ → List ℕ) → Inodes → Founded → List Edit → List DataPage → Edit → Changes → Changes
edit_changes blocks pages inodes f tx ds e c = pages_changes blocks pages inodes f tx ds (first_told e) (pages_told e) c

abbrev pub edits_changes : ℕ → (ℕ → List ℕ) → Inodes → Founded → List Edit → List DataPage → List Edit → Changes → Changes
edits_changes blocks pages inodes f tx ds [] c = c
edits_changes blocks pages inodes f tx ds (e ∷ es) c = edits_changes blocks pages inodes f tx ds es (edit_changes blocks pages inodes f tx ds e c)

abbrev pub tx_changes : ℕ → (ℕ → List ℕ) → Inodes → Founded → List Edit → List DataPage → Changes
tx_changes blocks pages inodes f tx ds = edits_changes blocks pages inodes f tx ds tx no_changes
