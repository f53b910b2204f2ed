-- Why an object isn't freed, and a name isn't taken away, on any volume.
use Rattle.std.specs.Prelude.{◌≡◌, ◌⊎◌, ℕ, true, if◌then◌else◌, List, Option, Some, None, Result, Ok, Err}
use Rattle.jfs_bits.specs.declared.extent.Xad.{Xad}
use Rattle.jfs_bits.specs.declared.rule.Rule.{Rule}
use Rattle.jfs_inode.specs.declared.fields.Dinode.{Dinode}
use Rattle.jfs_lead_steps.specs.xtree.specs.CutMet.{met_extents}
use Rattle.jfs_lead_steps.specs.xtree.specs.Spells.{spells_extents}
use Rattle.jfs_lead_steps.specs.xtree.specs.declared.error.XtError.{XtError}
use Rattle.jfs_lead_steps.specs.xtree.specs.declared.error.XtError.TheVariants.{View, Bad}
use Rattle.jfs_lead_steps.specs.dtree.specs.Spells.{broken_for, found_for}
use Rattle.jfs_lead_steps.specs.objects.specs.Objects.{has_extents}
use Rattle.jfs_lead_steps.specs.meaning.specs.Readers.{root_of}
use Rattle.jfs_plain.specs.Tree.{wanted}
use Rattle.jfs_plain.specs.declared.refusal.Refusal.{Refusal}
use Rattle.jfs_plain.specs.declared.refusal.Refusal.TheVariants.{Damaged}
use Rattle.jfs_steps.specs.way.specs.Answer.{at_root, is_open, view_refusal}
use Rattle.jfs_steps.specs.way.specs.declared.object.Held.{Held}

-- What a call that frees an object meets of its tree: all of it, or the first page that breaks a rule. A root stands on its inode's page.
abbrev pub if_met : Held → Result (List Xad) (ℕ × Rule) → Result Held Refusal
if_met at (Ok xs) = Ok at
if_met at (Err bad) = Err (Damaged (at_root at.page bad.0) bad.1)

abbrev pub freed_from : ℕ → (ℕ → List ℕ) → Held → Result Held Refusal
freed_from blocks pages at = if has_extents at.inode then if_met at (met_extents blocks pages 0 (root_of at.inode)) else Ok at

-- an object with extents, whose tree spells no list of them
abbrev pub SpellsNoExtents : ℕ → (ℕ → List ℕ) → Dinode → Type 0
SpellsNoExtents blocks pages d = (has_extents d ≡ true) × ((es : List Xad) → spells_extents blocks pages (root_of d) ≡ Ok es → ⊥)

-- The object is freed where its whole tree was met. A refusal is the first page that breaks a rule, and then the tree spells no list; or it is open.
abbrev pub MeetsTree : {T : Type 0} → ℕ → (ℕ → List ℕ) → Held → Result T Refusal → Type 0
MeetsTree blocks pages at (Ok it) = freed_from blocks pages at ≡ Ok at
MeetsTree blocks pages at (Err why) = ((freed_from blocks pages at ≡ Err why) × SpellsNoExtents blocks pages at.inode) ⊎ (is_open why ≡ true)

-- an error of an extent tree, as a refusal
abbrev pub extents_refusal : ℕ → XtError → Refusal
extents_refusal page (View e) = view_refusal e
extents_refusal page (Bad bad rule) = Damaged (at_root page bad) rule

-- What a name that is to go names: what the leaf at the end of its way has. A page of the way that breaks a rule, the first one, stands before that.
abbrev pub if_named : ℕ → Option (ℕ × Rule) → Option ℕ → Result ℕ Refusal
if_named page (Some bad) found = Err (Damaged (at_root page bad.0) bad.1)
if_named page None found = wanted found

abbrev pub lost_from : ℕ → (ℕ → List ℕ) → Held → List ℕ → Result ℕ Refusal
lost_from blocks pages dir name = if_named dir.page (broken_for blocks pages (root_of dir.inode) name) (found_for blocks pages (root_of dir.inode) name)
