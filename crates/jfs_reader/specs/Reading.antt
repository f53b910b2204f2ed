-- What reading a volume gives, and when it fails.
use Rattle.std.specs.Prelude.{◌≡◌, ◌<◌, ◌≤◌, ℕ, List, Option, Some, None, Result, Ok, Err}
use Rattle.jfs_bits.specs.declared.extent.Xad.{Xad}
use Rattle.jfs_bits.specs.declared.rule.Rule.{Rule}
use Rattle.jfs_disk.specs.declared.disk.Fault.{Fault}
use Rattle.jfs_ranges.specs.View.{CarriesCount}
use Rattle.jfs_name.specs.declared.name.NameEntry.{NameEntry}
use Rattle.jfs_meaning.specs.dtree.specs.declared.error.DtError.{DtError}
use Rattle.jfs_meaning.specs.dtree.specs.declared.error.DtError.TheVariants as names
use Rattle.jfs_meaning.specs.xtree.specs.declared.error.XtError.{XtError}
use Rattle.jfs_meaning.specs.xtree.specs.declared.error.XtError.TheVariants as tree
use Rattle.jfs_reader.specs.declared.error.ReadError.{ReadError}
use Rattle.jfs_reader.specs.declared.error.ReadError.TheVariants.{View, Outside}

-- The extents are given exactly where the tree spells a list, else the first broken rule and its page.
abbrev pub ExtentsAre : Result (List Xad) (ℕ × Rule) → Result (List Xad) XtError → Type 0
ExtentsAre spelled (Ok es) = spelled ≡ Ok es
ExtentsAre spelled (Err (tree.View e)) = Unit {0}
ExtentsAre spelled (Err (tree.Bad page rule)) = spelled ≡ Err (page, rule)

-- and so are names
abbrev pub NamesAre : Result (List NameEntry) (ℕ × Rule) → Result (List NameEntry) DtError → Type 0
NamesAre spelled (Ok es) = spelled ≡ Ok es
NamesAre spelled (Err (names.View e)) = Unit {0}
NamesAre spelled (Err (names.Bad page rule)) = spelled ≡ Err (page, rule)
NamesAre spelled (Err names.Exists) = ⊥
NamesAre spelled (Err names.Missing) = ⊥
NamesAre spelled (Err names.TooDeep) = ⊥

-- the block, if there is one, is a page of so many
abbrev pub IsBelow : ℕ → Option ℕ → Type 0
IsBelow blocks None = Unit {0}
IsBelow blocks (Some b) = b < blocks

-- there is a block, and it is no page of so many
abbrev pub IsPast : ℕ → Option ℕ → Type 0
IsPast blocks None = ⊥
IsPast blocks (Some b) = blocks ≤ b

-- The block is given where it is a page of the file system part, and `Outside` where it is none.
abbrev pub PageIs : ℕ → Option ℕ → Result (Option ℕ) ReadError → Type 0
PageIs blocks block (Ok page) = (page ≡ block) × IsBelow blocks block
PageIs blocks block (Err (View e)) = ⊥
PageIs blocks block (Err Outside) = IsPast blocks block

-- only a block that is no page is `Outside`
abbrev pub OutsideIsPast : ℕ → Option ℕ → ReadError → Type 0
OutsideIsPast blocks block (View e) = Unit {0}
OutsideIsPast blocks block Outside = IsPast blocks block

-- the count of faults rises only with a fault, which carries the part and the count that it raised
abbrev pub CarriesRead : {T : Type 0} → Fault → Fault → Result T ReadError → Type 0
CarriesRead before now (Ok it) = now ≡ before
CarriesRead {T} before now (Err (View e)) = CarriesCount {T = T} before now (Err e)
CarriesRead before now (Err Outside) = now ≡ before
