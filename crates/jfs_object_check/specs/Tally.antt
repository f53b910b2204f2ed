-- What a walk through a tree counts, and what it says of the tree's list.
use Rattle.std.specs.Prelude.{ℕ, ◌+◌, ◌-◌, Bool, false, ◌||◌, ◌==◌, nat_le, if◌then◌else◌, List, Option, Some, None}
use Rattle.std.specs.Int.{div_ceil}
use Rattle.std.specs.List.{list_any}
use Rattle.jfs_bits.specs.declared.extent.Xad.{Xad}
use Rattle.jfs_inode.specs.declared.fields.Dinode.{Dinode}
use Rattle.jfs_tree.specs.Spells.{no_page}
use Rattle.jfs_owners.specs.findings.specs.Inodes.{blocks_in}
use Rattle.jfs_object_check.specs.declared.tally.Tally.{Tally}

-- so many blocks less; there is no number of blocks left where that were below none
abbrev pub less : Option ℕ → ℕ → Option ℕ
less None k = None
less (Some n) k = if nat_le k n then Some (n - k) else None

abbrev pub tally_of : Dinode → Tally
tally_of d = record { left = Some d.nblocks; end = div_ceil d.size 4096; past = false }

abbrev pub with_page : ℕ → Tally → Tally
with_page n t = if n == no_page then t else record t { left = less t.left 1 }

abbrev pub with_extent : Xad → Tally → Tally
with_extent x t = record t { left = less t.left x.at.len; past = t.past || nat_le t.end x.offset }

-- after a tree with so many pages below its root
abbrev pub with_pages : ℕ → Tally → Tally
with_pages count t = record t { left = less t.left count }

-- and with these extents
abbrev pub with_tree : ℕ → List Xad → Tally → Tally
with_tree count es t = record { left = less t.left (count + blocks_in es); end = t.end; past = t.past || list_any (λ e. nat_le t.end e.offset) es }

-- as many were met as there are
abbrev pub is_met : Option ℕ → Bool
is_met None = false
is_met (Some n) = n == 0
