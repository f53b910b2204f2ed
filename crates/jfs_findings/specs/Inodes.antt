-- What is wrong with one inode.
use Rattle.std.specs.Prelude.{◌≡◌, ◌≢◌, ℕ, ◌+◌, Bool, true, nat_le, ◌==◌, if◌then◌else◌, List, [], ◌∷◌, Some}
use Rattle.std.specs.Int.{div_ceil}
use Rattle.std.specs.Int.RustNames.{bit_and}
use Rattle.std.specs.List.{list_any}
use Rattle.jfs_bits.specs.declared.extent.Xad.{Xad}
use Rattle.jfs_bits.specs.declared.extent.Dxd.{Dxd}
use Rattle.jfs_bits.specs.Broken.{first_broken}
use Rattle.jfs_inode.specs.declared.read.BadInode.{BadInode}
use Rattle.jfs_inode.specs.Rules.{rows}
use Rattle.jfs_mount.specs.page_tree.specs.Walk.{Marks, Page, Key, Row, Fault}
use Rattle.jfs_mount.specs.page_tree.specs.Spells.{no_page}
use Rattle.jfs_mount.specs.objects.specs.Readers.{Readers}
use Rattle.jfs_mount.specs.objects.specs.Objects.{Object, listed}
use Rattle.jfs_mount.specs.objects.specs.Owners.{unless_broken, entries}
use Rattle.jfs_mount.specs.Subject.{Subject, IsObject}

-- An inode in use breaks a rule of an inode.
abbrev pub BreaksInode : Subject → ℕ → ℕ → Type 0
BreaksInode s page n = (o : Object) × IsObject s n page o × ((bad : BadInode) × (first_broken (rows o.inode n) ≡ Some bad))

-- ---- the blocks that an inode owns

-- how many pages a walk meets below the root
abbrev pub pages_met : {P E : Type 0} → Marks P E → ℕ
pages_met [] = 0
pages_met (Page n ∷ ms) = (if n == no_page then 0 else 1) + pages_met ms
pages_met (Key n k ∷ ms) = pages_met ms
pages_met (Row n e ∷ ms) = pages_met ms
pages_met (Fault n r ∷ ms) = pages_met ms

abbrev pub blocks_in : List Xad → ℕ
blocks_in [] = 0
blocks_in (e ∷ es) = e.at.len + blocks_in es

-- A descriptor of attributes names a run where its flag has the bit 0x20.
abbrev pub attribute_blocks : Dxd → ℕ
attribute_blocks d = if bit_and d.flag 0x20 == 0x20 then d.at.len else 0

-- its tree pages, data and attributes; a tree that breaks a rule owns nothing
abbrev pub blocks_owned : Readers → Object → ℕ
blocks_owned r o =
    unless_broken (listed r.names_order o.names) (pages_met o.names)
    + unless_broken (listed r.extents_order o.extents) (pages_met o.extents)
    + blocks_in (entries (listed r.extents_order o.extents))
    + attribute_blocks o.inode.acl + attribute_blocks o.inode.ea

-- An inode in use tells another number of blocks than it owns.
abbrev pub MiscountsBlocks : Subject → ℕ → ℕ → Type 0
MiscountsBlocks s page n = (o : Object) × IsObject s n page o × (o.inode.nblocks ≢ blocks_owned s.readers o)

-- ---- extents behind the size

-- an extent begins behind the last block of the size
abbrev pub is_past : Readers → Object → Bool
is_past r o = list_any (λ e. nat_le (div_ceil o.inode.size 4096) e.offset) (entries (listed r.extents_order o.extents))

-- An extent of an inode in use begins behind its size.
abbrev pub GoesPast : Subject → ℕ → ℕ → Type 0
GoesPast s page n = (o : Object) × IsObject s n page o × (is_past s.readers o ≡ true)
