-- The walks through an object's trees.
use Rattle.std.proofs.Common.{◌≡◌, refl, ap, ◌∙◌, subst, ℕ, Bool, true, false, if◌then◌else◌, List, [], Result, Ok, Err}
use Rattle.std.specs.Prelude.{OnOk, IfErr}
use Rattle.jfs_inode.specs.declared.fields.Dinode.{Dinode}
use Rattle.jfs_dtpage.specs.declared.head.DtForm.TheVariants as names
use Rattle.jfs_xtpage.specs.declared.head.XtForm.TheVariants as extents
use Rattle.jfs_dtree.specs.Node.{name_scale, dt_node}
use Rattle.jfs_xtree.specs.Node.{xt_scale, xt_node}
use Rattle.jfs_tree.specs.Walk.{rows_of}
use Rattle.jfs_tree.specs.Spells.{spells}
use Rattle.jfs_tree.specs.Walking.{Meets, NamesFirst, ended}
use Rattle.jfs_tree.specs.declared.form.TreeError.{TreeError}
use Rattle.jfs_owners.specs.objects.specs.Objects.{has_names, has_extents, names_of, extents_of}
use Rattle.jfs_owners.specs.meaning.specs.Readers.{readers, root_of}
use Rattle.jfs_owners.specs.Held.{names_walk, extents_walk}
use Rattle.jfs_owners.specs.findings.specs.Inodes.{pages_met}
use Rattle.jfs_object_check.specs.declared.tally.Tally.{Tally}
use Rattle.jfs_object_check.specs.Tally.{with_page, with_extent, with_pages, with_tree}
use Rattle.jfs_object_check.specs.Steps.{EndsAs}
use Rattle.jfs_object_check.proofs.Counted.{pages_counted, tree_counted}
use Rattle.jfs_object_check.proofs.Found.{ends_as}

chosen : {A : Type 0} (b : Bool) (x y : A) → b ≡ true → x ≡ (if b then x else y)
chosen true x y h = refl
chosen false x y h = absurd (cc h)

-- the walk below a root, with the blocks that it was given
pub root_ends : {T : Type 0} (blocks b : ℕ) (page : ℕ → List ℕ) (root : List ℕ) (r : Result T TreeError) → b ≡ blocks → OnOk r (spells xt_scale (λ n. xt_node extents.Full b (page n)) (xt_node extents.Root b root) ≡ Ok (rows_of (extents_walk b page root)))
    → IfErr r (NamesFirst xt_scale (λ n. xt_node extents.Full b (page n)) (xt_node extents.Root b root)) → EndsAs xt_scale (extents_walk blocks page root) r
root_ends blocks b page root r same good bad =
    subst (λ (n : ℕ). EndsAs xt_scale (extents_walk n page root) r) same (ends_as xt_scale (λ n. xt_node extents.Full b (page n)) (xt_node extents.Root b root) r good bad)

module _ {T : Type 0} (blocks b : ℕ) (page : ℕ → List ℕ) (d : Dinode) (root : List ℕ) (r : Result T TreeError) (same : b ≡ blocks) (at : root ≡ root_of d) where
  pub names_are : has_names d ≡ true → names_walk b page root ≡ names_of (readers blocks) page d
  names_are has = ap (λ n. names_walk n page root) same ∙ ap (names_walk blocks page) at ∙ chosen (has_names d) (names_walk blocks page (root_of d)) [] has

  pub names_end : has_names d ≡ true → OnOk r (spells name_scale (λ n. dt_node names.Full b (page n)) (dt_node names.Root b root) ≡ Ok (rows_of (names_walk b page root)))
      → IfErr r (NamesFirst name_scale (λ n. dt_node names.Full b (page n)) (dt_node names.Root b root)) → EndsAs name_scale (names_of (readers blocks) page d) r
  names_end has good bad = subst (λ ms. EndsAs name_scale ms r) (names_are has) (ends_as name_scale (λ n. dt_node names.Full b (page n)) (dt_node names.Root b root) r good bad)

  extents_are : has_extents d ≡ true → extents_walk b page root ≡ extents_of (readers blocks) page d
  extents_are has = ap (λ n. extents_walk n page root) same ∙ ap (extents_walk blocks page) at ∙ chosen (has_extents d) (extents_walk blocks page (root_of d)) [] has

  pub extents_end : has_extents d ≡ true → OnOk r (spells xt_scale (λ n. xt_node extents.Full b (page n)) (xt_node extents.Root b root) ≡ Ok (rows_of (extents_walk b page root)))
      → IfErr r (NamesFirst xt_scale (λ n. xt_node extents.Full b (page n)) (xt_node extents.Root b root)) → EndsAs xt_scale (extents_of (readers blocks) page d) r
  extents_end has good bad = subst (λ ms. EndsAs xt_scale ms r) (extents_are has) (ends_as xt_scale (λ n. xt_node extents.Full b (page n)) (xt_node extents.Root b root) r good bad)

  pub names_met : (v w : Tally) → has_names d ≡ true → (end : List ℕ) × Meets name_scale (λ old n new. new ≡ with_page n old) (λ old n x new. new ≡ old) [] v (names_walk b page root) (ended end r) w
      → OnOk r (w ≡ with_pages (pages_met (names_of (readers blocks) page d)) v)
  names_met v w has m = subst (λ ms. OnOk r (w ≡ with_pages (pages_met ms) v)) (names_are has) (by r m.1)
    where
      by : (r : Result T TreeError) → Meets name_scale (λ old n new. new ≡ with_page n old) (λ old n x new. new ≡ old) [] v (names_walk b page root) (ended m.0 r) w → OnOk r (w ≡ with_pages (pages_met (names_walk b page root)) v)
      by (Ok it) h = pages_counted name_scale [] v (names_walk b page root) m.0 w h
      by (Err e) h = tt

  pub extents_met : (v w : Tally) → has_extents d ≡ true → (end : ℕ) × Meets xt_scale (λ old n new. new ≡ with_page n old) (λ old n x new. new ≡ with_extent x old) 0 v (extents_walk b page root) (ended end r) w
      → OnOk r (w ≡ with_tree (pages_met (extents_of (readers blocks) page d)) (rows_of (extents_of (readers blocks) page d)) v)
  extents_met v w has m = subst (λ ms. OnOk r (w ≡ with_tree (pages_met ms) (rows_of ms) v)) (extents_are has) (by r m.1)
    where
      by : (r : Result T TreeError) → Meets xt_scale (λ old n new. new ≡ with_page n old) (λ old n x new. new ≡ with_extent x old) 0 v (extents_walk b page root) (ended m.0 r) w → OnOk r (w ≡ with_tree (pages_met (extents_walk b page root)) (rows_of (extents_walk b page root)) v)
      by (Ok it) h = tree_counted xt_scale 0 v (extents_walk b page root) m.0 w h
      by (Err e) h = tt
