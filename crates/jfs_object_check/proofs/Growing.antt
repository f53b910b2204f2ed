-- What is counted and found of the extent tree of an inode, whether it breaks a rule or not.
use Rattle.std.proofs.Common.{◌≡◌, refl, subst, ℕ, true, false, List, Result, Ok, Err}
use Rattle.std.specs.Prelude.{OnOk}
use Rattle.jfs_inode.specs.declared.fields.Dinode.{Dinode}
use Rattle.jfs_ranges.specs.declared.view.ViewError.{ViewError}
use Rattle.jfs_owners.specs.objects.specs.Objects.{has_extents}
use Rattle.jfs_owners.specs.meaning.specs.Readers.{root_of}
use Rattle.jfs_owners.specs.findings.specs.Gains.{Gains}
use Rattle.jfs_owners.specs.findings.specs.declared.finding.Finding.{Finding}
use Rattle.jfs_owners.specs.Counts.{OwnerSets, Adds}
use Rattle.jfs_owners.proofs.Counted.{adds_none, adds_same}
use Rattle.jfs_object_check.specs.Lines.{Tells, IsThinAbove, IsThinLevel, tree_nodes, levels_have, inode_has}
use Rattle.jfs_object_check.proofs.Found.{gains_none, gains_as}

module _ (blocks : ℕ) (page : ℕ → List ℕ) (d : Dinode) where
  pub nothing_held : (o : OwnerSets) → has_extents d ≡ false → Adds (inode_has blocks page d) o o
  nothing_held o none = adds_none (inode_has blocks page d) o o refl (λ b. rw none refl)

  pub nothing_thin : (n : ℕ) (fs : List Finding) → has_extents d ≡ false → Gains (IsThinLevel blocks page n d) fs fs
  nothing_thin n fs none = gains_none (IsThinLevel blocks page n d) fs (λ f h. let some = h.0 in cc (none, some))

  module _ {T : Type 0} (has : has_extents d ≡ true) (root : List ℕ) (is : root ≡ root_of d) where
    pub levels_held : (r : Result T ViewError) (o w : OwnerSets) → OnOk r (Adds (levels_have (tree_nodes blocks page root) 8) o w) → OnOk r (Adds (inode_has blocks page d) o w)
    levels_held (Ok it) o w h =
        adds_same (levels_have (tree_nodes blocks page (root_of d)) 8) (inode_has blocks page d) o w (λ b. rw has refl) (subst (λ k. Adds (levels_have (tree_nodes blocks page k) 8) o w) is h)
    levels_held (Err e) o w h = tt

    pub levels_thin : (n : ℕ) (r : Result T ViewError) (old new : List Finding) → OnOk r (Gains (Tells n (IsThinAbove (tree_nodes blocks page root) 8)) old new) → OnOk r (Gains (IsThinLevel blocks page n d) old new)
    levels_thin n (Ok it) old new h =
        gains_as {p = Tells n (IsThinAbove (tree_nodes blocks page (root_of d)) 8)} {q = IsThinLevel blocks page n d} (λ f t. (has, t)) (λ f t. t.1) (subst (λ k. Gains (Tells n (IsThinAbove (tree_nodes blocks page k) 8)) old new) is h)
    levels_thin n (Err e) old new h = tt
