-- A page of an extent tree. (JFS Layout, xtree: a header of two slots, then entries of 16 bytes.)
use Rattle.std.specs.Prelude.{◌≡◌, ◌⊎◌, ◌<◌, ◌≤◌, ℕ, zero, suc, ◌+◌, ◌-◌, ◌*◌, ◌/◌, ◌%◌, ◌==◌, Bool, false, true, nat_le, length, if◌then◌else◌, List, [], ◌∷◌, Option, Some, None}
use Rattle.jfs_bits.specs.declared.extent.Xad.{Xad}
use Rattle.jfs_bits.specs.declared.descriptor.Pxd.{Pxd}
use Rattle.jfs_bits.specs.declared.rule.Rule.{Rule}
use Rattle.jfs_bits.specs.declared.rule.Rule.TheVariants as rules
use Rattle.jfs_bits.specs.Broken.{AllHold}
use Rattle.jfs_bits.specs.Field.{field_of, range_of}
use Rattle.jfs_bits.specs.Descriptor.{pxd_of}
use Rattle.jfs_bits.specs.Extent.{xad_of}
use Rattle.jfs_xtpage.specs.declared.head.XtForm.{XtForm}
use Rattle.jfs_xtpage.specs.declared.head.XtForm.TheVariants.{Root, Full, Small}
use Rattle.jfs_xtpage.specs.declared.head.XtHead.{XtHead}

-- the number of bytes
abbrev pub bytes_of : XtForm → ℕ
bytes_of Root = 288
bytes_of Full = 4096
bytes_of Small = 96

abbrev pub head_of : List ℕ → XtHead
head_of bytes = record {
  next = field_of bytes 0 8;
  prev = field_of bytes 8 8;
  flag = field_of bytes 16 1;
  nextindex = field_of bytes 18 2;
  maxentry = field_of bytes 20 2;
  at = pxd_of bytes 24;
}

-- entries begin at slot 2
abbrev pub entry_of : List ℕ → ℕ → Xad
entry_of bytes i = xad_of bytes (32 + 16 * i)

abbrev pub count_of : List ℕ → ℕ
count_of bytes = field_of bytes 18 2 - 2

abbrev pub entries_from : List ℕ → ℕ → ℕ → List Xad
entries_from bytes i zero = []
entries_from bytes i (suc n) = entry_of bytes i ∷ entries_from bytes (suc i) n

-- the page as a list
abbrev pub entries_of : List ℕ → List Xad
entries_of bytes = entries_from bytes 0 (count_of bytes)

-- An extent takes the blocks of its file from its offset on; one without a length counts as one block, so that offsets rise.
abbrev pub end_of : Xad → ℕ
end_of x = x.offset + (if x.at.len == 0 then 1 else x.at.len)

-- the low three bits: a root that is a leaf or inner, or a page that is
abbrev pub FlagFits : XtForm → ℕ → Type 0
FlagFits Root low = (low ≡ 3) ⊎ (low ≡ 5)
FlagFits Full low = (low ≡ 2) ⊎ (low ≡ 4)
FlagFits Small low = (low ≡ 3) ⊎ (low ≡ 5)

-- the number of slots, with the two of the header
abbrev pub MaxFits : XtForm → ℕ → Type 0
MaxFits Root most = (most ≡ 10) ⊎ (most ≡ 18)
MaxFits Full most = most ≡ 256
MaxFits Small most = most ≡ 6

-- offsets rise, and extents don't overlap
abbrev pub IsRising : List ℕ → ℕ → Type 0
IsRising bytes count = (i : ℕ) → suc i < count → end_of (entry_of bytes i) ≤ (entry_of bytes (suc i)).offset

-- the rules of a page, in the order in which they are looked at
abbrev pub xt_rules : List Rule
xt_rules = rules.Flag ∷ rules.Max ∷ rules.Count ∷ rules.Order ∷ []

abbrev pub Holds : XtForm → List ℕ → Rule → Type 0
Holds form bytes rules.Flag = FlagFits form (field_of bytes 16 1 % 8)
Holds form bytes rules.Max = MaxFits form (field_of bytes 20 2)
Holds form bytes rules.Count = (2 ≤ field_of bytes 18 2) × (field_of bytes 18 2 ≤ field_of bytes 20 2)
Holds form bytes rules.Order = IsRising bytes (count_of bytes)
Holds form bytes rule = Unit {0}

-- no rule is broken
abbrev pub IsXtPage : XtForm → List ℕ → Type 0
IsXtPage form bytes = AllHold (Holds form bytes) xt_rules

-- the last entry that isn't past an offset
abbrev pub IsLastAt : List ℕ → ℕ → Option ℕ → Type 0
IsLastAt bytes offset (Some i) = (i < count_of bytes) × ((entry_of bytes i).offset ≤ offset) × ((j : ℕ) → i < j → j < count_of bytes → offset < (entry_of bytes j).offset)
IsLastAt bytes offset None = (j : ℕ) → j < count_of bytes → offset < (entry_of bytes j).offset

-- extents rise from a block of the file on, and don't overlap
abbrev pub rises_from : ℕ → List Xad → Bool
rises_from low [] = true
rises_from low (x ∷ xs) = if nat_le low x.offset then rises_from (end_of x) xs else false

-- ---- what the calls make

-- the slots lie within the bytes
pub record IsLaidOut (bytes : List ℕ) : Type 0 where
  pub least : 2 ≤ field_of bytes 18 2
  pub most : field_of bytes 18 2 ≤ field_of bytes 20 2
  pub within : 16 * field_of bytes 20 2 ≤ length bytes

-- the bytes behind the slots: an inode has other things there than its root
unfoldable pub behind_slots : List ℕ → List ℕ
behind_slots bytes = range_of bytes (16 * field_of bytes 20 2) (length bytes - 16 * field_of bytes 20 2)

-- the slots of a new page
abbrev pub slots_of : XtForm → ℕ
slots_of Root = 18
slots_of Full = 256
slots_of Small = 6

-- a leaf has bit 2, an inner page bit 4; the other bits stay
abbrev pub kind_flag : ℕ → Bool → ℕ
kind_flag flag leaf = flag / 8 * 8 + flag % 2 + (if leaf then 2 else 4)

-- a root has the bits 1 and 0x80 beside its kind
abbrev pub new_flag : XtForm → Bool → ℕ
new_flag Root leaf = 129 + (if leaf then 2 else 4)
new_flag Full leaf = if leaf then 2 else 4
new_flag Small leaf = 129 + (if leaf then 2 else 4)

-- a page without entries, which has no neighbours yet
abbrev pub new_head : XtForm → Bool → Pxd → XtHead
new_head form leaf at = record { next = 0; prev = 0; flag = new_flag form leaf; nextindex = 2; maxentry = slots_of form; at = at }
