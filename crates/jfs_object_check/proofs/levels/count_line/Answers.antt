-- One page more, and all of them.
use Rattle.std.proofs.Common.{◌≡◌, ◌++◌, ◌-◌, refl, ap, ◌∙◌, subst, ℕ, length, slice_index_or, take_all, arith}
use Rattle.jfs_bits.specs.declared.extent.Xad.{Xad}
use Rattle.jfs_disk.specs.Image.{Image, page_of}
use Rattle.jfs_tree.specs.Walk.{Node}
use Rattle.jfs_tree.specs.Form.{AllBelow}
use Rattle.jfs_tree.specs.Levels.{entry_count, pages_below}
use Rattle.jfs_xtree.specs.Spells.{page_nodes}
use Rattle.jfs_owners.specs.findings.specs.Gains.{Gains}
use Rattle.jfs_owners.specs.Counts.{OwnerSets, Adds}
use Rattle.jfs_object_check.specs.Lines.{Tells, IsThinOn, page_holds, line_has}
use Rattle.jfs_object_check.proofs.Beside.{below_at, line_more}
use Rattle.jfs_object_check.proofs.Holding.{page_more}
use Rattle.jfs_object_check.proofs.Thinly.{one_thin}
use Rattle.jfs_object_check.proofs.levels.count_line.Goals as goal

node_stays : (a b : ℕ) (z w : Image) (p : ℕ) → a ≡ b → z ≡ w → page_nodes a (page_of z) p ≡ page_nodes b (page_of w) p
node_stays a b z w p e i = ap (λ n. page_nodes n (page_of z) p) e ∙ ap (λ (x : Image). page_nodes b (page_of x) p) i

holds_stay : (a b : ℕ) (z w : Image) (p : ℕ) (o u : OwnerSets) → a ≡ b → z ≡ w → Adds (page_holds (page_nodes a (page_of z)) p) o u → Adds (page_holds (page_nodes b (page_of w)) p) o u
holds_stay a b z w p o u e i h = subst (λ (x : Image). Adds (page_holds (page_nodes b (page_of x)) p) o u) i (subst (λ n. Adds (page_holds (page_nodes n (page_of z)) p) o u) e h)

pub count_page-requires : goal.count_page-requires
count_page-requires g c =
    let l = below_at (g.V.PageView.block_count c.args.view.now) c.loop-i.i c.args.line.now c.requires.within c.loop-i-test.true in
    let e = c.loop-i.invariant.count_of_blocks in
    record { page = omega (arith, l, e) }

pub loop-i-preserved : goal.loop-i-preserved
loop-i-preserved g c =
    let blocks = g.V.PageView.block_count c.args.view.now in
    let pages = page_of (g.V.PageView.image c.args.view.now) in
    let p = slice_index_or c.args.line.now c.loop-i.i 0 in
    let i = c.loop-i.invariant in
    let e = c.in_ok-count.ensures in
    record {
      image = λ tells. e.image tells ∙ i.image tells;
      count_of_blocks = e.count_of_blocks ∙ i.count_of_blocks;
      device = e.device ∙ i.device;
      fault = e.fault ∙ i.fault;
      within = subst (λ b. AllBelow b c.loop-i.below.items → AllBelow b c.count_page.new.below.items) i.count_of_blocks e.within i.within;
      below = λ tells.
          let same = node_stays (g.V.PageView.block_count c.loop-i.view) blocks (g.V.PageView.image c.loop-i.view) (g.V.PageView.image c.args.view.now) p i.count_of_blocks (i.image tells) in
          line_more (λ n. pages_below (page_nodes blocks pages n)) c.args.line.now c.loop-i.i p c.loop-i.below.items c.count_page.new.below.items c.loop-i-test.true refl (i.below tells)
          (e.below tells ∙ ap (λ (node : Node ℕ Xad). c.loop-i.below.items ++ pages_below node) same);
      thin = λ tells.
          let same = node_stays (g.V.PageView.block_count c.loop-i.view) blocks (g.V.PageView.image c.loop-i.view) (g.V.PageView.image c.args.view.now) p i.count_of_blocks (i.image tells) in
          one_thin (page_nodes blocks pages) c.args.n c.args.line.now c.loop-i.i p c.in_ok-count.count c.from.result (length c.args.line.now - 1 - c.loop-i.i) c.is_thin-thin.result c.args.findings.now.items c.loop-i.findings.items c.note_if.new.findings.items
          refl (e.count tells ∙ ap (λ (node : Node ℕ Xad). entry_count node) same) c.is_thin-thin.ensures (omega arith) c.from.ensures (i.thin tells) c.in-Ok.ensures.found;
      held = λ tells. page_more (page_nodes blocks pages) c.args.line.now c.loop-i.i p c.args.owners.now c.loop-i.owners c.count_page.new.owners c.loop-i-test.true refl (i.held tells)
          (holds_stay (g.V.PageView.block_count c.loop-i.view) blocks (g.V.PageView.image c.loop-i.view) (g.V.PageView.image c.args.view.now) p c.loop-i.owners c.count_page.new.owners i.count_of_blocks (i.image tells) (e.held tells));
    }

pub returns-clause-thin : goal.returns-clause-thin
returns-clause-thin g c = λ tells.
    subst (λ k. Gains (Tells c.args.n (IsThinOn (page_nodes (g.V.PageView.block_count c.args.view.now) (page_of (g.V.PageView.image c.args.view.now))) c.args.line.now k)) c.args.findings.now.items c.loop-i.findings.items) (omega arith) (c.loop-i.invariant.thin tells)

pub returns-clause-held : goal.returns-clause-held
returns-clause-held g c = λ tells.
    subst (λ ns. Adds (line_has (page_nodes (g.V.PageView.block_count c.args.view.now) (page_of (g.V.PageView.image c.args.view.now))) ns) c.args.owners.now c.loop-i.owners) (take_all c.loop-i.i c.args.line.now (omega arith)) (c.loop-i.invariant.held tells)
