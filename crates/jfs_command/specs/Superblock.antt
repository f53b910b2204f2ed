-- The superblock that a disk holds, as commands look at it.
use Rattle.std.specs.Prelude.{◌≡◌, ◌<◌, ◌≤◌, ℕ, Bool, true, false, List, length, Option, Some, None, Result, Ok, Err}
use Rattle.jfs_bits.specs.Broken.{first_broken}
use Rattle.jfs_bits.specs.declared.rule.Rule.TheVariants as rules
use Rattle.jfs_disk.specs.Image.{Image, page_of}
use Rattle.jfs_super.specs.declared.fields.Super.{Super}
use Rattle.jfs_super.specs.declared.read.BadSuper.{BadSuper}
use Rattle.jfs_super.specs.Super.{super_of}
use Rattle.jfs_super.specs.Rules.{rows, IsAccepted}
use Rattle.jfs_command.specs.declared.status.Status.TheVariants.{BadImage}
use Rattle.jfs_command.specs.declared.status.Stop.TheVariants as stops
use Rattle.jfs_command.specs.declared.outcome.End.{End}
use Rattle.jfs_command.specs.declared.outcome.End.TheVariants.{Own, Stopped}
use Rattle.jfs_command.specs.Count.{Count, Stays, HasRisen}
use Rattle.jfs_command.specs.Held.{Held}
use Rattle.jfs_command.specs.Meaning.{Answer, refused}

-- the primary superblock stands on page 8
abbrev pub superblock_of : Held → Super
superblock_of held = super_of (page_of held.image 8)

-- page 8, where there is one
abbrev pub LooksAtSuper : Held → ℕ → Type 0
LooksAtSuper held n = (n ≡ 8) × (8 < held.pages)

abbrev pub AfterRules : Option BadSuper → (Answer → Type 0) → Answer → Type 0
AfterRules None Says answer = Says answer
AfterRules (Some bad) Says answer = answer ≡ refused (BadImage 8 bad.rule bad.value)

-- The superblock is refused at the first rule that it breaks. Where it breaks none, the command goes on.
abbrev pub AfterSuperblock : Held → (Super → Answer → Type 0) → Answer → Type 0
AfterSuperblock held Says = AfterRules (first_broken (rows (superblock_of held) held.pages)) (Says (superblock_of held))

-- A state that the command doesn't take is refused, after all other rules of the superblock.
abbrev pub AfterState : (is_taken : Bool) → (state : ℕ) → (Answer → Type 0) → Answer → Type 0
AfterState true state Says answer = Says answer
AfterState false state Says answer = answer ≡ refused (BadImage 8 rules.State state)

-- ---- for the prover: what the function that looks at the superblock answers

-- these bytes are a whole page, and the page 8 of a disk that has one and tells its contents
abbrev pub IsPage8 : Type 0 → ℕ → Image → List ℕ → Type 0
IsPage8 tells pages image page = (length page ≡ 4096) × (tells → 9 ≤ pages → page ≡ page_of image 8)

abbrev pub Looks : Type 0 → ℕ → Image → Count → Result Super End → Type 0
Looks tells pages image disk (Ok s) = (page : List ℕ) × IsPage8 tells pages image page × (s ≡ super_of page) × IsAccepted s pages × Stays disk
Looks tells pages image disk (Err (Own (BadImage number rule value))) =
    (page : List ℕ) × IsPage8 tells pages image page × (number ≡ 8) × (first_broken (rows (super_of page) pages) ≡ Some (record { rule = rule; value = value })) × Stays disk
Looks tells pages image disk (Err (Stopped stops.Disk)) = (9 ≤ pages) × HasRisen disk
Looks tells pages image disk (Err (Stopped stops.Memory)) = 9 ≤ pages
Looks tells pages image disk (Err _) = ⊥
