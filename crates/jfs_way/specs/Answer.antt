-- How calls on files answer.
use Rattle.std.specs.Prelude.{◌≡◌, ◌⊎◌, ℕ, ◌==◌, if◌then◌else◌, Bool, true, false, Result, Ok, Err}
use Rattle.jfs_disk.specs.declared.disk.Fault.{Fault}
use Rattle.jfs_ranges.specs.View.{Failed}
use Rattle.jfs_ranges.specs.declared.view.ViewError.{ViewError}
use Rattle.jfs_ranges.specs.declared.view.ViewError.TheVariants.{Read, Memory}
use Rattle.jfs_tree.specs.Spells.{no_page}
use Rattle.jfs_reader.specs.dtree.specs.declared.error.DtError.{DtError}
use Rattle.jfs_reader.specs.dtree.specs.declared.error.DtError.TheVariants as dt
use Rattle.jfs_reader.specs.plain.specs.declared.refusal.Refusal.{Refusal}
use Rattle.jfs_reader.specs.plain.specs.declared.refusal.Refusal.TheVariants as refusals
use Rattle.jfs_reader.specs.plain.specs.declared.refusal.Refusal.TheVariants.{IoFault, OutOfMemory}

-- faults and want of memory come whatever the volume holds
abbrev pub is_open : Refusal → Bool
is_open (IoFault fault) = true
is_open OutOfMemory = true
is_open _ = false

-- What is answered is what a definition gives; or it is open.
abbrev pub Answers : {X : Type 0} → Result X Refusal → Result X Refusal → Type 0
Answers given (Ok x) = given ≡ Ok x
Answers given (Err why) = (given ≡ Err why) ⊎ (is_open why ≡ true)

-- What is answered is what the plain definition says of a tree, where `is` tells which of the call's values are the tree's; or it is open.
abbrev pub Follows : {X Y : Type 0} → (X → Y → Type 0) → Result X Refusal → Result Y Refusal → Type 0
Follows {X} is plain (Ok y) = (x : X) × (plain ≡ Ok x) × is x y
Follows is plain (Err why) = (plain ≡ Err why) ⊎ (is_open why ≡ true)

-- the count of faults rises only with a fault, which carries the part and the count that it raised
abbrev pub CarriesCause : Fault → Fault → Refusal → Type 0
CarriesCause before now (IoFault fault) = Failed before now × (fault ≡ now)
CarriesCause before now _ = now ≡ before

abbrev pub Carries : {T : Type 0} → Fault → Fault → Result T Refusal → Type 0
Carries before now (Ok it) = now ≡ before
Carries before now (Err why) = CarriesCause before now why

-- ---- errors from below, as refusals

abbrev pub view_refusal : ViewError → Refusal
view_refusal (Read fault) = refusals.IoFault fault
view_refusal Memory = refusals.OutOfMemory

-- A root stands on its directory's page.
abbrev pub at_root : ℕ → ℕ → ℕ
at_root page bad = if bad == no_page then page else bad

abbrev pub names_refusal : ℕ → ℕ → DtError → Refusal
names_refusal dir page (dt.View e) = view_refusal e
names_refusal dir page (dt.Bad bad rule) = refusals.Damaged (at_root page bad) rule
names_refusal dir page dt.Exists = refusals.Exists
names_refusal dir page dt.Missing = refusals.NotFound
names_refusal dir page dt.TooDeep = refusals.TooDeep dir
