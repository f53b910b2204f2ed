-- A page that breaks a rule, or is past the last level.
use Rattle.std.proofs.Common.{◌≡◌, subst, ℕ, zero, Bool, List, arith}
use Rattle.jfs_bits.specs.declared.extent.Xad.{Xad}
use Rattle.jfs_bits.specs.declared.rule.Rule.{Rule}
use Rattle.jfs_tree.specs.declared.form.TreeError.{TreeError}
use Rattle.jfs_tree.specs.declared.form.TreeError.TheVariants.{View, Bad, Memory}
use Rattle.jfs_tree.proofs.Adding.{zero_walk}
use Rattle.jfs_tree.proofs.Finding.{below_level}
use Rattle.jfs_xtree.specs.Node.{xt_scale}
use Rattle.jfs_xtree.specs.Spells.{page_nodes}
use Rattle.jfs_put_range.specs.Parts.{Takes, RefutesPage, BreaksRule, part_of}

pub zero_refuted : (blocks : ℕ) (xs : List Xad) (left right : Bool) (before : ℕ → List ℕ) (most page : ℕ) (free : List ℕ) (bad : ℕ) (rule : Rule) → most ≡ 0 → RefutesPage blocks xs left right before most page free (Bad bad rule)
zero_refuted blocks xs left right before most page free bad rule is height key low high first within takes =
    zero_walk xt_scale (page_nodes blocks before) (record { key = key; page = page }) low high
    (subst (λ l. Takes xs left right first key low (part_of blocks before l (record { key = key; page = page })) high free) (let z : height ≡ zero = omega (arith, is, within) in z) takes).rises

pub broken_refuted : (blocks : ℕ) (xs : List Xad) (left right : Bool) (before : ℕ → List ℕ) (most page : ℕ) (free : List ℕ) (e : TreeError) → BreaksRule (page_nodes blocks before page) page e → RefutesPage blocks xs left right before most page free e
broken_refuted blocks xs left right before most page free (View v) b = tt
broken_refuted blocks xs left right before most page free (Bad bad rule) b = λ height key low high first within takes. below_level xt_scale (page_nodes blocks before) height (record { key = key; page = page }) rule low high b.1 takes.rises
broken_refuted blocks xs left right before most page free Memory b = tt
