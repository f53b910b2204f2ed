-- What a tree has lies within the file system part.
use Rattle.std.proofs.Common.{◌≡◌, ◌≤◌, refl, sym, ap, ◌∙◌, ℕ, zero, suc, true, List, arith}
use Rattle.std.specs.declared.result.Result.{Result}
use Rattle.std.specs.declared.result.Result.TheVariants.{Ok, Err}
use Rattle.jfs_bits.specs.declared.extent.Xad.{Xad}
use Rattle.jfs_bits.specs.declared.rule.Rule.{Rule}
use Rattle.jfs_inode.specs.declared.fields.Dinode.{Dinode}
use Rattle.jfs_xtree.specs.Node.{xt_node, xt_scale, all_within}
use Rattle.jfs_xtpage.specs.declared.head.XtForm.{XtForm}
use Rattle.jfs_xtpage.specs.declared.head.XtForm.TheVariants as forms
use Rattle.jfs_xtree.proofs.Adds.{has_pages}
use Rattle.jfs_xtree.proofs.Reading.{leaf_is}
use Rattle.jfs_tree.specs.Walk.{Node, Marks, Scale, rows_of}
use Rattle.jfs_tree.specs.Spells.{footprint, tree_of}
use Rattle.jfs_tree.specs.Fresh.{HasPages}
use Rattle.jfs_tree.proofs.Judge.{judged}
use Rattle.jfs_tree.proofs.Within.{footprint_within}
use Rattle.jfs_owners.specs.objects.specs.Objects.{met, listed}
use Rattle.jfs_owners.specs.objects.specs.Owners.{unless_broken, entries, covers}
use Rattle.jfs_owners.specs.meaning.specs.Readers.{root_of}
use Rattle.jfs_owners.specs.mount_rules.proofs.Range.{HasRows, tree_rows}
use Rattle.jfs_owners.specs.findings.proofs.Fixed.{none_covered}

-- no page behind the end is met below a root
pub none_met : {P E : Type 0} (s : Scale P E) (pages : ℕ → Node P E) (root : Node P E) (b blocks : ℕ) → HasPages blocks root → ((m : ℕ) → HasPages blocks (pages m)) → blocks ≤ b → met (tree_of s pages root) b ≡ 0
unfolding footprint
none_met s pages root b blocks top below w = by (met (tree_of s pages root) b) refl
  where
    by : (n : ℕ) → met (tree_of s pages root) b ≡ n → met (tree_of s pages root) b ≡ 0
    by zero e = e
    by (suc n) e = absurd (let l = footprint_within s pages root b blocks top below (omega (arith, e)) in omega (arith, l, w))

pub unless_zero : {E : Type 0} (r : Result (List E) (ℕ × Rule)) (n : ℕ) → n ≡ 0 → unless_broken r n ≡ 0
unless_zero (Ok es) n e = e
unless_zero (Err fault) n e = refl

node_rows : (form : XtForm) (blocks : ℕ) (bytes : List ℕ) → HasRows blocks (xt_node form blocks bytes)
node_rows form blocks bytes es e = let l = leaf_is form blocks bytes es e in ap (all_within blocks) (sym l.2) ∙ l.0.range

-- the walk through the extents of an inode
abbrev pub walk_in : ℕ → (ℕ → List ℕ) → Dinode → Marks ℕ Xad
walk_in blocks page d = tree_of xt_scale (λ b. xt_node forms.Full blocks (page b)) (xt_node forms.Root blocks (root_of d))

module _ (blocks : ℕ) (page : ℕ → List ℕ) (d : Dinode) where
  rows_within : all_within blocks (rows_of (walk_in blocks page d)) ≡ true
  rows_within = tree_rows blocks xt_scale (λ b. xt_node forms.Full blocks (page b)) (λ m. node_rows forms.Full blocks (page m)) (xt_node forms.Root blocks (root_of d)) (node_rows forms.Root blocks (root_of d))

  entries_within : (r : Result (List Xad) (ℕ × Rule)) → listed xt_scale (walk_in blocks page d) ≡ r → all_within blocks (entries r) ≡ true
  entries_within (Ok es) e = ap (all_within blocks) (sym (judged xt_scale 0 (walk_in blocks page d) es e).1) ∙ rows_within
  entries_within (Err fault) e = refl

  pub pages_end : (b : ℕ) → blocks ≤ b → unless_broken (listed xt_scale (walk_in blocks page d)) (met (walk_in blocks page d) b) ≡ 0
  pages_end b w = unless_zero (listed xt_scale (walk_in blocks page d)) (met (walk_in blocks page d) b)
      (none_met xt_scale (λ b. xt_node forms.Full blocks (page b)) (xt_node forms.Root blocks (root_of d)) b blocks (has_pages forms.Root blocks (root_of d)) (λ m. has_pages forms.Full blocks (page m)) w)

  pub data_end : (b : ℕ) → blocks ≤ b → covers b (entries (listed xt_scale (walk_in blocks page d))) ≡ 0
  data_end b w = none_covered blocks b (entries (listed xt_scale (walk_in blocks page d))) w (entries_within (listed xt_scale (walk_in blocks page d)) refl)
