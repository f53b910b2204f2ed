-- The inodes whose lines a transaction has.
use Rattle.std.specs.Prelude.{ℕ, ◌-◌, ◌/◌, ◌%◌, false, nat_lt, if◌then◌else◌, List, [], ◌∷◌, Option, Some, None, unwrap_or}
use Rattle.jfs_bits.specs.declared.rule.PageKind.{PageKind}
use Rattle.jfs_bits.specs.declared.rule.PageKind.TheVariants as kinds
use Rattle.jfs_inode.specs.declared.fields.Dinode.{Dinode}
use Rattle.jfs_ranges.specs.declared.edit.Edit.{Edit}
use Rattle.jfs_ranges.specs.declared.edit.Edit.TheVariants.{Lines, NoRedo, Alloc, Free}
use Rattle.jfs_ranges.specs.Apply.{apply_tx}
use Rattle.jfs_data_steps.specs.objects.specs.Volume.{slot_of}
use Rattle.jfs_data_steps.specs.objects.specs.Objects.{has_names}
use Rattle.jfs_data_steps.specs.steps.specs.After.{is_extent}
use Rattle.jfs_marks.specs.declared.owner.Owner.{Owner}

abbrev pub no_owner : Owner
no_owner = record { inode = 0; first = 0; is_directory = false }

-- an inode that stands in a slot, and the first inode on its page
abbrev pub owner_in : Dinode → ℕ → Owner
owner_in d slot = record { inode = d.number; first = d.number - slot; is_directory = has_names d }

-- as the transaction leaves it
abbrev pub owner_on : ℕ → (ℕ → List ℕ) → List Edit → ℕ → ℕ → Option Owner
owner_on blocks pages tx p slot = if nat_lt p blocks then Some (owner_in (slot_of (apply_tx p tx (pages p)) slot) slot) else None

-- An inode has four lines of its page. A new inode extent is no inode's.
abbrev pub lines_owner : ℕ → (ℕ → List ℕ) → List Edit → ℕ → PageKind → ℕ → List ℕ → Option Owner
lines_owner blocks pages tx page kinds.Inode first bytes = if is_extent kinds.Inode first bytes then None else owner_on blocks pages tx page (first / 4 % 8)
lines_owner blocks pages tx page kinds.Xtree first bytes = None
lines_owner blocks pages tx page kinds.Dtree first bytes = None
lines_owner blocks pages tx page kinds.Index first bytes = None

abbrev pub owner_of : ℕ → (ℕ → List ℕ) → List Edit → Edit → Option Owner
owner_of blocks pages tx (Lines page kind first bytes) = lines_owner blocks pages tx page kind first bytes
owner_of blocks pages tx (NoRedo page) = None
owner_of blocks pages tx (Alloc run) = None
owner_of blocks pages tx (Free run) = None

-- that of the last lines of one, and that of the next ones
abbrev pub last_owner : ℕ → (ℕ → List ℕ) → List Edit → List Edit → Owner → Owner
last_owner blocks pages tx [] last = last
last_owner blocks pages tx (e ∷ es) last = last_owner blocks pages tx es (unwrap_or (owner_of blocks pages tx e) last)

abbrev pub next_owner : ℕ → (ℕ → List ℕ) → List Edit → Owner → List Edit → Owner
next_owner blocks pages tx last [] = last
next_owner blocks pages tx last (e ∷ es) = unwrap_or (owner_of blocks pages tx e) (next_owner blocks pages tx last es)
