-- An inode that is put into its slot by lines.
use Rattle.std.specs.Prelude.{◌≡◌, ℕ, List, Option, Some}
use Rattle.jfs_inode.specs.declared.fields.Dinode.{Dinode}
use Rattle.jfs_ranges.specs.declared.edit.Edit.{Edit}
use Rattle.jfs_bits.specs.declared.rule.PageKind.TheVariants as kinds
use Rattle.jfs_way.specs.page_tree.specs.Tell.{TellsRuns}
use Rattle.jfs_ranges.specs.Laid.{put_tx}
use Rattle.jfs_way.specs.objects.specs.Volume.{home}
use Rattle.jfs_way.specs.objects.specs.Changes.{PutsInode}

-- The lines that were added are exactly those of the page that changed.
abbrev pub TellsLines : ℕ → (ℕ → List ℕ) → ℕ → List Edit → List Edit → Type 0
TellsLines blocks pages page tx later = TellsRuns page kinds.Inode (put_tx blocks tx pages page) (put_tx blocks later pages page) tx later

-- Lines were added to a transaction that put an inode into its slot, on top of what the transaction did before.
abbrev pub AddsInode : ℕ → (ℕ → List ℕ) → ℕ → ℕ → Dinode → List Edit → List Edit → Type 0
AddsInode blocks pages page n d tx later = (extents : List (Option ℕ)) → home extents n ≡ Some page → PutsInode (put_tx blocks tx pages) (put_tx blocks later pages) extents n d
