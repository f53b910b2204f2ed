-- One level more, and all of them.
use Rattle.std.proofs.Common.{◌≡◌, ◌++◌, ◌+◌, ◌≤◌, refl, sym, ap, ◌∙◌, subst, ℕ, List, length, arith}
use Rattle.std.specs.List.{flat_map}
use Rattle.jfs_disk.specs.Image.{Image, page_of}
use Rattle.jfs_tree.specs.Form.{AllBelow}
use Rattle.jfs_tree.specs.Levels.{pages_below}
use Rattle.jfs_tree.specs.Spells.{no_page}
use Rattle.jfs_xtpage.specs.declared.head.XtForm.TheVariants.{Root}
use Rattle.jfs_xtree.specs.Node.{xt_node}
use Rattle.jfs_xtree.specs.Spells.{page_nodes}
use Rattle.jfs_owners.specs.findings.specs.Gains.{Gains}
use Rattle.jfs_owners.specs.findings.specs.declared.finding.Finding.{Finding}
use Rattle.jfs_owners.specs.Counts.{OwnerSets, Adds}
use Rattle.jfs_object_check.specs.Lines.{Tells, IsThinOn, IsThinAbove, tree_nodes, rows_have, line_has, levels_have}
use Rattle.jfs_object_check.proofs.Beside.{first_level}
use Rattle.jfs_object_check.proofs.Holding.{root_adds, level_adds}
use Rattle.jfs_object_check.proofs.Thinly.{level_more, one_level, root_alone}
use Rattle.jfs_object_check.proofs.levels.count_levels.Goals as goal

module _ (a b : ℕ) (z w : Image) (l m : List ℕ) (blocks : a ≡ b) (image : z ≡ w) (line : l ≡ m) where
  line_stays : (below : List ℕ) → below ≡ flat_map (λ p. pages_below (page_nodes a (page_of z) p)) l → below ≡ flat_map (λ p. pages_below (page_nodes b (page_of w) p)) m
  line_stays below h =
      h ∙ ap (λ n. flat_map (λ p. pages_below (page_nodes n (page_of z) p)) l) blocks ∙ ap (λ (x : Image). flat_map (λ p. pages_below (page_nodes b (page_of x) p)) l) image
      ∙ ap (flat_map (λ p. pages_below (page_nodes b (page_of w) p))) line

  gain_stays : (n : ℕ) (f0 f1 : List Finding) → Gains (Tells n (IsThinOn (page_nodes a (page_of z)) l (length l))) f0 f1 → Gains (Tells n (IsThinOn (page_nodes b (page_of w)) m (length m))) f0 f1
  gain_stays n f0 f1 g =
      subst (λ k. Gains (Tells n (IsThinOn (page_nodes b (page_of w)) k (length k))) f0 f1) line
      (subst (λ (x : Image). Gains (Tells n (IsThinOn (page_nodes b (page_of x)) l (length l))) f0 f1) image
      (subst (λ k. Gains (Tells n (IsThinOn (page_nodes k (page_of z)) l (length l))) f0 f1) blocks g))

  adds_stay : (o u : OwnerSets) → Adds (line_has (page_nodes a (page_of z)) l) o u → Adds (line_has (page_nodes b (page_of w)) m) o u
  adds_stay o u h =
      subst (λ k. Adds (line_has (page_nodes b (page_of w)) k) o u) line
      (subst (λ (x : Image). Adds (line_has (page_nodes b (page_of x)) l) o u) image (subst (λ k. Adds (line_has (page_nodes k (page_of z)) l) o u) blocks h))

pub loop-depth-init : goal.loop-depth-init
loop-depth-init g c =
    let blocks = g.V.PageView.block_count c.args.view.now in
    let pages = page_of (g.V.PageView.image c.args.view.now) in
    let root = c.args.root.now in
    let e = c.in-Ok.ensures in
    record {
      image = λ tells. refl;
      count_of_blocks = refl;
      device = refl;
      fault = refl;
      within = subst (λ b. AllBelow b c.count_node.new.below.items) c.blocks-blocks.ensures (e.within (subst (AllBelow c.blocks-blocks.result) (sym c.new-line.ensures.items) tt));
      level = λ tells. e.below ∙ ap (λ xs. xs ++ pages_below (xt_node Root c.blocks-blocks.result root)) c.new-line.ensures.items ∙ ap (λ b. pages_below (xt_node Root b root)) c.blocks-blocks.ensures
          ∙ sym (first_level (xt_node Root blocks root) (page_nodes blocks pages));
      thin = λ tells. root_alone (tree_nodes blocks pages root) c.args.n c.args.findings.now.items;
      held = λ tells. root_adds (tree_nodes blocks pages root) c.args.owners.now c.count_node.new.owners (subst (λ b. Adds (rows_have (xt_node Root b root)) c.args.owners.now c.count_node.new.owners) c.blocks-blocks.ensures e.held);
    }

pub loop-depth-preserved : goal.loop-depth-preserved
loop-depth-preserved g c =
    let blocks = g.V.PageView.block_count c.args.view.now in
    let image = g.V.PageView.image c.args.view.now in
    let pages = page_of image in
    let root = xt_node Root blocks c.args.root.now in
    let most : blocks ≤ no_page = (let h = c.blocks-blocks.ensures in let t = c.blocks-blocks.type_inv in omega (arith, h, t)) in
    let i = c.loop-depth.invariant in
    let e = c.in_ok-line.ensures in
    record {
      image = λ tells. e.image tells ∙ i.image tells;
      count_of_blocks = e.count_of_blocks ∙ i.count_of_blocks;
      device = e.device ∙ i.device;
      fault = e.fault ∙ i.fault;
      within = subst (λ b. AllBelow b c.in_ok-line.line.items) i.count_of_blocks e.within;
      level = λ tells. level_more root (page_nodes blocks pages) blocks c.loop-depth._depth (c.loop-depth._depth + 1) c.loop-depth.line.items c.in_ok-line.line.items most i.within (i.level tells) (omega arith)
          (line_stays (g.V.PageView.block_count c.loop-depth.view) blocks (g.V.PageView.image c.loop-depth.view) image c.as_slice.result.now c.loop-depth.line.items i.count_of_blocks (i.image tells) c.as_slice.ensures.value c.in_ok-line.line.items (e.below tells));
      thin = λ tells. one_level root (page_nodes blocks pages) blocks most c.args.n c.loop-depth._depth (c.loop-depth._depth + 1) c.loop-depth.line.items c.args.findings.now.items c.loop-depth.findings.items c.count_line.new.findings.items
          i.within (i.level tells) (omega arith) (i.thin tells)
          (gain_stays (g.V.PageView.block_count c.loop-depth.view) blocks (g.V.PageView.image c.loop-depth.view) image c.as_slice.result.now c.loop-depth.line.items i.count_of_blocks (i.image tells) c.as_slice.ensures.value c.args.n c.loop-depth.findings.items c.count_line.new.findings.items (e.thin tells));
      held = λ tells. level_adds root (page_nodes blocks pages) blocks most c.loop-depth._depth (c.loop-depth._depth + 1) c.loop-depth.line.items c.args.owners.now c.loop-depth.owners c.count_line.new.owners i.within (i.level tells) (omega arith) (i.held tells)
          (adds_stay (g.V.PageView.block_count c.loop-depth.view) blocks (g.V.PageView.image c.loop-depth.view) image c.as_slice.result.now c.loop-depth.line.items i.count_of_blocks (i.image tells) c.as_slice.ensures.value c.loop-depth.owners c.count_line.new.owners (e.held tells));
    }

pub returns-clause-thin : goal.returns-clause-thin
returns-clause-thin g c = λ tells.
    subst (λ d. Gains (Tells c.args.n (IsThinAbove (tree_nodes (g.V.PageView.block_count c.args.view.now) (page_of (g.V.PageView.image c.args.view.now)) c.args.root.now) d)) c.args.findings.now.items c.loop-depth.findings.items) (omega arith) (c.loop-depth.invariant.thin tells)

pub returns-clause-held : goal.returns-clause-held
returns-clause-held g c = λ tells.
    subst (λ d. Adds (levels_have (tree_nodes (g.V.PageView.block_count c.args.view.now) (page_of (g.V.PageView.image c.args.view.now)) c.args.root.now) d) c.args.owners.now c.loop-depth.owners) (omega arith) (c.loop-depth.invariant.held tells)
