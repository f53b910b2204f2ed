use Rattle.std.proofs.Common.{◌≡◌, refl, sym, subst, ℕ, [], ◌∷◌, ◌++◌, length}
use Rattle.jfs_bits.specs.declared.extent.Xad.{Xad}
use Rattle.jfs_disk.specs.Image.{page_of}
use Rattle.jfs_tree.specs.Spells.{tree_of}
use Rattle.jfs_tree.specs.Call.{pages_of}
use Rattle.jfs_tree.specs.Walking.{NamesFirst}
use Rattle.jfs_tree.proofs.Walked.{gathers}
use Rattle.jfs_xtpage.specs.declared.head.XtForm.TheVariants.{Full}
use Rattle.jfs_xtree.specs.Node.{xt_scale, xt_node}
use Rattle.jfs_xtree.specs.Spells.{root_form, root_node, page_nodes, tree_error}
use Rattle.jfs_xtree.specs.declared.listing.Gathered.{Gathered}
use Rattle.jfs_xtree.proofs.Entered.{list_as, first_as}
use Rattle.jfs_xtree.proofs.listing.extents.Goals as goal

pub returns-in-Ok-clause-list : goal.returns-in-Ok-clause-list
returns-in-Ok-clause-list g c tells =
    let met = c.in-Ok.ensures.met tells in
    let image = g.V.PageView.image c.args.view.now in
    let start : Gathered = record { extents = c.new.result } in
    list_as c.blocks-blocks.result (g.V.PageView.block_count c.args.view.now) c.root_form.result (root_form (length c.args.root.now)) image c.args.root.now c.new.result c.walk_tree.new.visitor.extents
    c.blocks-blocks.ensures c.root_form.ensures c.new.ensures
    (gathers xt_scale (λ (old : Gathered) (n : ℕ) (new : Gathered). new ≡ old) (λ (old : Gathered) (n : ℕ) (x : Xad) (new : Gathered). new.extents ≡ old.extents ++ x ∷ []) (λ (v : Gathered). v.extents)
    (λ v n u h. subst (λ (w : Gathered). w.extents ≡ v.extents) (sym h) refl) (λ v n x u h. h) 0 start
    (tree_of xt_scale (pages_of (xt_node Full c.blocks-blocks.result) image) (xt_node c.root_form.result c.blocks-blocks.result c.args.root.now)) met.0 c.walk_tree.new.visitor met.1)
    (c.in-Ok.ensures.spelled tells)

pub returns-in-Err-clause-bad : goal.returns-in-Err-clause-bad
returns-in-Err-clause-bad g c tells =
    subst (λ r. NamesFirst xt_scale (page_nodes (g.V.PageView.block_count c.args.view.now) (page_of (g.V.PageView.image c.args.view.now))) (root_node (g.V.PageView.block_count c.args.view.now) c.args.root.now) (tree_error r)) (sym c.handed_on.ensures)
    (first_as c.blocks-blocks.result (g.V.PageView.block_count c.args.view.now) c.root_form.result (root_form (length c.args.root.now)) (g.V.PageView.image c.args.view.now) c.args.root.now c.in-Err.e
    c.blocks-blocks.ensures c.root_form.ensures (c.in-Err.ensures.bad tells))
