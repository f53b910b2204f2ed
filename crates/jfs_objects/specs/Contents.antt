-- What a file's blocks hold.
use Rattle.std.specs.Prelude.{ℕ, ◌+◌, ◌-◌, ◌&&◌, ◌==◌, nat_le, nat_lt, if◌then◌else◌, List, [], ◌∷◌, Option, Some, None}
use Rattle.std.specs.Int.RustNames.{bit_and}
use Rattle.jfs_bits.specs.declared.extent.Xad.{Xad}
use Rattle.jfs_objects.specs.Readers.{Readers}
use Rattle.jfs_objects.specs.Volume.{Volume}
use Rattle.jfs_objects.specs.Objects.{Object, objects, listed}
use Rattle.jfs_objects.specs.Owners.{entries}

-- An extent whose flag has the bit 0x08 isn't recorded: it reads as zeros.
abbrev pub block_in : Xad → ℕ → Option ℕ
block_in e k = if bit_and e.flag 0x08 == 0x08 then None else Some (e.at.addr + (k - e.offset))

-- the block that holds block `k` of the file; there is none where it reads as zeros
abbrev pub block_of : List Xad → ℕ → Option ℕ
block_of [] k = None
block_of (e ∷ es) k = if nat_le e.offset k && nat_lt k (e.offset + e.at.len) then block_in e k else block_of es k

abbrev pub bytes_at : (ℕ → List ℕ) → Option ℕ → Option (List ℕ)
bytes_at page None = None
bytes_at page (Some b) = Some (page b)

abbrev pub contents_of : Readers → (ℕ → List ℕ) → Option Object → ℕ → Option (List ℕ)
contents_of r page None k = None
contents_of r page (Some o) k = bytes_at page (block_of (entries (listed r.extents_order o.extents)) k)

-- the bytes of an object's block `k`, where they aren't zeros for want of a block
abbrev pub contents : Readers → Volume → ℕ → ℕ → Option (List ℕ)
contents r v n k = contents_of r v.page (objects r v n) k
