use Rattle.std.proofs.Common.{◌≡◌, sym, ap, subst, ℕ, [], ◌∷◌, ◌++◌}
use Rattle.jfs_disk.specs.Image.{page_of}
use Rattle.jfs_name.specs.declared.name.NameEntry.{NameEntry}
use Rattle.jfs_dtpage.specs.declared.head.DtForm.TheVariants.{Root, Full}
use Rattle.jfs_tree.specs.Spells.{tree_of}
use Rattle.jfs_tree.specs.Call.{pages_of}
use Rattle.jfs_tree.proofs.Walked.{gathers}
use Rattle.jfs_dtree.specs.Node.{name_scale, dt_node}
use Rattle.jfs_dtree.specs.Spells.{root_node, page_nodes, NamesFirstBroken}
use Rattle.jfs_dtree.specs.declared.listing.Gathered.{Gathered}
use Rattle.jfs_dtree.proofs.Entered.{list_as, first_as}
use Rattle.jfs_dtree.proofs.listing.list.Goals as goal

pub returns-in-Ok-clause-list : goal.returns-in-Ok-clause-list
returns-in-Ok-clause-list g c tells =
    let met = c.in-Ok.ensures.met tells in
    let image = g.V.PageView.image c.args.view.now in
    let b = c.blocks-blocks.result in
    let start : Gathered = record { alloc = c.args.alloc; names = c.new.result } in
    list_as b (g.V.PageView.block_count c.args.view.now) image c.args.root.now c.new.result c.walk_tree.new.visitor.names c.blocks-blocks.ensures c.new.ensures
    (gathers name_scale (λ (old : Gathered) (n : ℕ) (new : Gathered). new ≡ old) (λ (old : Gathered) (n : ℕ) (x : NameEntry) (new : Gathered). new.names ≡ old.names ++ x ∷ []) (λ (v : Gathered). v.names)
    (λ v n u h. ap (λ (w : Gathered). w.names) h) (λ v n x u h. h) [] start (tree_of name_scale (pages_of (dt_node Full b) image) (dt_node Root b c.args.root.now)) met.0 c.walk_tree.new.visitor met.1)
    (c.in-Ok.ensures.spelled tells)

pub returns-in-Err-clause-bad : goal.returns-in-Err-clause-bad
returns-in-Err-clause-bad g c tells =
    subst (NamesFirstBroken (page_nodes (g.V.PageView.block_count c.args.view.now) (page_of (g.V.PageView.image c.args.view.now))) (root_node (g.V.PageView.block_count c.args.view.now) c.args.root.now)) (sym c.handed_on.ensures)
    (first_as c.blocks-blocks.result (g.V.PageView.block_count c.args.view.now) (g.V.PageView.image c.args.view.now) c.args.root.now c.in-Err.e c.blocks-blocks.ensures (c.in-Err.ensures.bad tells))
