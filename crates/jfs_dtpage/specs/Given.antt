-- Entries as they are handed to a page's calls.
use Rattle.std.specs.Prelude.{◌≡◌, ℕ, Bool, true, false, List}
use Rattle.jfs_bits.specs.Field.{field_of}
use Rattle.jfs_bits.specs.Descriptor.{pxd_of, FitsPxd}
use Rattle.jfs_dtpage.specs.declared.head.DtEntry.{DtEntry}
use Rattle.jfs_dtpage.specs.declared.head.DtEntry.TheVariants.{Leaf, Inner}
use Rattle.jfs_dtpage.specs.Page.{Entry, Named, Below}

abbrev pub given : DtEntry → Entry
given (Leaf inode name) = Named inode name.now
given (Inner at name) = Below at name.now

-- an entry of a leaf
abbrev pub is_named : Entry → Bool
is_named (Named inode name) = true
is_named (Below at name) = false

abbrev pub ChildFits : Entry → Type 0
ChildFits (Named inode name) = Unit {0}
ChildFits (Below at name) = FitsPxd at

-- an entry's number stands at a place: the inode's, or the child's descriptor
abbrev pub HasNumber : List ℕ → ℕ → Entry → Type 0
HasNumber bytes at (Named inode name) = field_of bytes at 4 ≡ inode
HasNumber bytes at (Below child key) = pxd_of bytes at ≡ child
