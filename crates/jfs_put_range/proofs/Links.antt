-- Links that are set once a range stands in a tree.
use Rattle.std.proofs.Common.{◌≡◌, ◌≤◌, ap, ◌∙◌, sym, subst, ℕ, ◌+◌, List, arith}
use Rattle.jfs_bits.specs.declared.extent.Xad.{Xad}
use Rattle.jfs_disk.specs.Image.{Image}
use Rattle.jfs_tree.specs.Walk.{Node, Scale, IsOrder}
use Rattle.jfs_tree.specs.Spells.{no_page, with_root, spells, footprint}
use Rattle.jfs_tree.specs.Edit.{count_in}
use Rattle.jfs_tree.specs.Draft.{shown}
use Rattle.jfs_tree.specs.Call.{nodes, IsRead}
use Rattle.jfs_tree.specs.Fresh.{HasPages}
use Rattle.jfs_tree.specs.Linking.{IsChild, LinksTree}
use Rattle.jfs_tree.specs.Becomes.{Becomes}
use Rattle.jfs_tree.specs.declared.draft.Drafted.{Drafted}
use Rattle.jfs_tree.specs.declared.form.TreeError.{TreeError}
use Rattle.jfs_tree.specs.declared.form.TreeError.TheVariants.{View, Bad, Memory}
use Rattle.jfs_tree.proofs.Linkings.{same_nodes, links_keep}
use Rattle.jfs_xtpage.specs.declared.head.XtForm.{XtForm}
use Rattle.jfs_xtpage.specs.declared.head.XtForm.TheVariants.{Full}
use Rattle.jfs_xtree.specs.Laws.{order}
use Rattle.jfs_xtree.specs.Node.{xt_scale, xt_node, frame_of}
use Rattle.jfs_xtree.proofs.Adds.{has_pages}
use Rattle.jfs_put_range.specs.Tops.{AreFilled, StepsRange, FillsRange, RefusesRange}

-- links that are set twice
pub links_again : {P E : Type 0} (node : List ℕ → Node P E) (frame : List ℕ → List ℕ) (image later : Image) (old mid new : List Drafted) (root : Node P E) → later ≡ image → LinksTree node frame image old mid root → LinksTree node frame later mid new root → LinksTree node frame image old new root
links_again node frame image later old mid new root same first next =
    let l = subst (λ (i : Image). LinksTree node frame i mid new root) same next in
    record {
      same = λ n. l.same n ∙ first.same n;
      frames = λ n. l.frames n ∙ first.frames n;
      keeps = λ own closed top n off. l.keeps own (λ m k has child. closed m k has (subst (λ x. IsChild x k) (first.same m) child)) top n off ∙ first.keeps own closed top n off;
    }

off_new : (new left old free : ℕ) → new + left ≡ old + free → old ≡ 0 → free ≡ left → new ≡ 0
off_new new left old free e z same = omega (arith, e, z, same)

-- what became of the tree is so still
becomes_linked : {P E : Type 0} (node : List ℕ → Node P E) (frame : List ℕ → List ℕ) (s : Scale P E) → IsOrder s → (image later : Image) (list : List E) (old mid new : List Drafted) (root after : Node P E) (free left : List ℕ) (bound : ℕ) → later ≡ image → bound ≤ no_page → HasPages bound after
    → ((bytes : List ℕ) → HasPages bound (node bytes)) → LinksTree node frame later mid new after → Becomes s node list (shown old image) (shown mid image) root after free left → Becomes s node list (shown old image) (shown new image) root after free left
becomes_linked node frame s o image later list old mid new root after free left bound same small top all links b =
    let e : nodes node new image ≡ nodes node mid image = same_nodes node frame image later mid new after same links in
    record {
      spelled = ap (λ f. spells s f after) e ∙ b.spelled;
      pages = λ n. ap (λ f. footprint s f after n + count_in n left) e ∙ b.pages n;
      keeps = λ n foot count. links_keep node frame s o image later mid new after list bound same small top all links b.spelled n (off_new _ _ _ _ (b.pages n) foot count) ∙ b.keeps n foot count;
      fewer = b.fewer;
    }

module _ (form : XtForm) (blocks : ℕ) (image later : Image) (root after : List ℕ) (old mid new : List Drafted) (free : List ℕ) (same : later ≡ image) (links : LinksTree (xt_node Full blocks) (frame_of Full) later mid new (xt_node form blocks after)) where
  pub steps_linked : (xs : List Xad) (left : List ℕ) → blocks ≤ no_page → StepsRange form blocks image xs root after old mid free left → StepsRange form blocks image xs root after old new free left
  steps_linked xs left small steps es spelled spare =
      becomes_linked (xt_node Full blocks) (frame_of Full) xt_scale order image later _ old mid new (xt_node form blocks root) (xt_node form blocks after) free left blocks same small (has_pages form blocks after) (has_pages Full blocks) links (steps es spelled spare)

  pub fills_linked : FillsRange form blocks image root after old mid free → FillsRange form blocks image root after old new free
  fills_linked fills es spelled spare least most filled =
      subst (λ f. AreFilled least (with_root (xt_node form blocks after) f)) (sym (same_nodes (xt_node Full blocks) (frame_of Full) image later mid new (xt_node form blocks after) same links)) (fills es spelled spare least most filled)

-- a page that can't be read refutes nothing
pub refuses_read : (form : XtForm) (blocks : ℕ) (image : Image) (root : List ℕ) (old : List Drafted) (free : List ℕ) (e : TreeError) → IsRead e → RefusesRange form blocks image root old free e
refuses_read form blocks image root old free (View e) h es spelled spare = tt
refuses_read form blocks image root old free (Bad page rule) h es spelled spare = absurd h
refuses_read form blocks image root old free Memory h es spelled spare = tt
