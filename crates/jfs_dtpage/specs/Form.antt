-- Where things stand in a page of a directory tree. (JFS Layout, dtree: `dtpage_t`, `dtroot_t`; slots of 32 bytes, of which the first is the header.)
use Rattle.std.specs.Prelude.{◌≡◌, ℕ, ◌+◌, ◌-◌, ◌*◌, ◌/◌, ◌%◌, Bool, true, false, ◌&&◌, ◌||◌, nat_le, nat_lt, ◌==◌, List}
use Rattle.jfs_bits.specs.Field.{field_of}
use Rattle.jfs_bits.specs.Descriptor.{pxd_of}
use Rattle.jfs_bits.specs.declared.descriptor.Pxd.{Pxd}
use Rattle.jfs_dtpage.specs.Slots.{slots_for}
use Rattle.jfs_dtpage.specs.declared.head.DtForm.{DtForm}
use Rattle.jfs_dtpage.specs.declared.head.DtForm.TheVariants.{Root, Full}
use Rattle.jfs_dtpage.specs.declared.head.DtHead.{DtHead}
use Rattle.jfs_dtpage.specs.declared.head.Place.{Place}
use Rattle.jfs_dtpage.specs.declared.head.Place.TheVariants.{InInode, OnVolume}

-- the number of slots, with the header's
abbrev pub slots_of : DtForm → ℕ
slots_of Root = 9
slots_of Full = 128

abbrev pub bytes_of : DtForm → ℕ
bytes_of form = 32 * slots_of form

-- the greatest number of entries: as many as there are slots beside the header's and the sorted table's
abbrev pub most_of : DtForm → ℕ
most_of Root = 8
most_of Full = 123

-- ---- the header

abbrev pub flag_of : List ℕ → ℕ
flag_of bytes = field_of bytes 16 1

-- the number of entries
abbrev pub count_of : List ℕ → ℕ
count_of bytes = field_of bytes 17 1

-- the number of free slots
abbrev pub free_of : List ℕ → ℕ
free_of bytes = field_of bytes 18 1

-- the first free slot
abbrev pub first_free : List ℕ → ℕ
first_free bytes = field_of bytes 19 1

abbrev pub head_of : DtForm → List ℕ → DtHead
head_of Root bytes = record { flag = flag_of bytes; nextindex = count_of bytes; freecnt = free_of bytes; freelist = first_free bytes; place = InInode (field_of bytes 20 4) }
head_of Full bytes = record {
  flag = flag_of bytes;
  nextindex = count_of bytes;
  freecnt = free_of bytes;
  freelist = first_free bytes;
  place = OnVolume (field_of bytes 0 8) (field_of bytes 8 8) (field_of bytes 20 1) (field_of bytes 21 1) (pxd_of bytes 24);
}

-- a leaf has the second of the flag's bits, an inner page the third
abbrev pub is_leaf : List ℕ → Bool
is_leaf bytes = flag_of bytes / 2 % 2 == 1

-- where the sorted table begins: in a root's header, or at the slot that the header names
abbrev pub table_at : DtForm → List ℕ → ℕ
table_at Root bytes = 24
table_at Full bytes = 32 * field_of bytes 21 1

-- a slot that entries may have: it is neither the header's nor one of the table's four
abbrev pub is_usable : DtForm → List ℕ → ℕ → Bool
is_usable Root bytes slot = nat_le 1 slot && nat_lt slot 9
is_usable Full bytes slot = nat_le 1 slot && nat_lt slot 128 && (nat_lt slot (field_of bytes 21 1) || nat_le (field_of bytes 21 1 + 4) slot)

-- ---- the first slot of an entry

-- A leaf's entry begins with the inode's number, an inner page's with the child's descriptor; the number of the next slot and the name's length follow.
abbrev pub link_at : Bool → ℕ
link_at true = 4
link_at false = 8

-- how many units of the name stand in it
abbrev pub first_units : Bool → ℕ
first_units true = 13
first_units false = 11

-- the further slots that a name of so many units takes
abbrev pub more_slots : Bool → ℕ → ℕ
more_slots leaf units = slots_for (units - first_units leaf)

-- The kind of page and what the header has by where the page stands are as they were.
pub record KeepsHead (form : DtForm) (old new : List ℕ) : Type 0 where
  pub flag : flag_of new ≡ flag_of old
  pub place : (head_of form new).place ≡ (head_of form old).place

-- other neighbours
abbrev pub linked : ℕ → ℕ → Place → Place
linked next prev (InInode parent) = InInode parent
linked next prev (OnVolume old_next old_prev maxslot stblindex at) = OnVolume next prev maxslot stblindex at

-- no neighbours, a page's whole number of slots, its table behind the header, and its own place
abbrev pub made : Pxd → Place → Place
made at (InInode parent) = InInode parent
made at (OnVolume next prev maxslot stblindex old) = OnVolume 0 0 128 1 at
