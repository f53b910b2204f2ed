-- Where a page leads blocks of a file, for the prover alone.
use Rattle.std.specs.Prelude.{◌≡◌, ◌<◌, ◌≤◌, ℕ, List, Option, Some, None, Result, Ok, Err}
use Rattle.jfs_bits.specs.declared.rule.Rule.{Rule}
use Rattle.jfs_bits.specs.declared.extent.Xad.{Xad}
use Rattle.jfs_tree.specs.Walk.{Node, Leaf, Broken}
use Rattle.jfs_tree.specs.Form.{LeadsDown}
use Rattle.jfs_tree.specs.Path.{way_of}
use Rattle.jfs_tree.specs.declared.form.TreeError.{TreeError}
use Rattle.jfs_tree.specs.declared.form.TreeError.TheVariants.{View, Bad, Memory}
use Rattle.jfs_xtree.specs.Node.{xt_scale}
use Rattle.jfs_ways.specs.declared.leading.Led.{Led}

-- blocks from one on are led to a page, before another block
pub record LeadsUntil (node : Node ℕ Xad) (at end page next : ℕ) : Type 0 where
  pub later : at < next
  pub within : next ≤ end
  pub block : Xad
  pub place : ℕ
  pub leads : LeadsDown xt_scale block node place page
  pub alone : (k : ℕ) → at ≤ k → k < next → way_of xt_scale k node ≡ Some page

-- a leaf leads them nowhere else, and a page that breaks a rule names the first one
abbrev pub LeadsOn : Node ℕ Xad → ℕ → ℕ → Result (Option Led) Rule → Type 0
LeadsOn node at end (Ok None) = (es : List Xad) × (node ≡ Leaf es)
LeadsOn node at end (Ok (Some on)) = LeadsUntil node at end on.page on.next
LeadsOn node at end (Err rule) = node ≡ Broken rule

abbrev pub StaysWithin : ℕ → Option Led → Type 0
StaysWithin blocks None = Unit {0}
StaysWithin blocks (Some on) = on.page < blocks

-- A page is named exactly where it is what the block finds broken; else all blocks before the answered one find nothing.
abbrev pub TellsUntil : (ℕ → Option (ℕ × Rule)) → ℕ → Result ℕ TreeError → Type 0
TellsUntil broken at (Ok next) = (k : ℕ) → at ≤ k → k < next → broken k ≡ None
TellsUntil broken at (Err (View e)) = Unit {0}
TellsUntil broken at (Err (Bad page rule)) = broken at ≡ Some (page, rule)
TellsUntil broken at (Err Memory) = Unit {0}
