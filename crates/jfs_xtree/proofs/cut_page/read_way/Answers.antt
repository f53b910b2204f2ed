use Rattle.std.proofs.Common.{◌<◌, ap, sym, subst, ◌∙◌, arith, List, ℕ}
use Rattle.jfs_disk.specs.Image.{page_of}
use Rattle.jfs_xtpage.specs.Page.{head_of, entries_of, entry_of}
use Rattle.jfs_xtree.specs.Spells.{page_nodes}
use Rattle.jfs_xtree.specs.CutParts.{key_at}
use Rattle.jfs_xtree.proofs.CutFrees.{a_leaf, read_leaf}
use Rattle.jfs_xtree.proofs.CutWays.{way_past, way_refused, way_breaks, way_misses}
use Rattle.jfs_xtree.proofs.cut_page.read_way.Goals as goal

pub returns-then-most-eq0-clause-bad : goal.returns-then-most-eq0-clause-bad
returns-then-most-eq0-clause-bad g c tells = λ bound.
    let x = entry_of c.args.bytes.now c.args.place in
    way_past (page_nodes c.args.blocks (page_of (g.V.PageView.image c.args.view.now))) bound c.args.most c.args.low.now (key_at c.args.low.now c.args.place x.offset) c.page_of-n.result x.at.addr c.if-most-eq0.true c.page_of-n.ensures.page

pub returns-in-Err-clause-bad : goal.returns-in-Err-clause-bad
returns-in-Err-clause-bad g c tells = λ bound.
    let x = entry_of c.args.bytes.now c.args.place in
    way_refused (page_nodes c.args.blocks (page_of (g.V.PageView.image c.args.view.now))) bound c.args.most c.args.low.now c.args.place x.offset c.page_of-n.result x.at.addr c.in-Err.e (let z = c.if-most-eq0.false in omega (arith, z)) c.page_of-n.ensures.page c.in-Err.ensures.passes

pub returns-in-Err-read_page-clause-bad : goal.returns-in-Err-read_page-clause-bad
returns-in-Err-read_page-clause-bad g c tells = λ bound.
    let x = entry_of c.args.bytes.now c.args.place in
    way_breaks (page_nodes c.args.blocks (page_of (g.V.PageView.image c.args.view.now))) bound c.args.most c.args.low.now c.args.place x.offset c.page_of-n.result x.at.addr c.pass_key.new.met c.in-Err-read_page.e (let z = c.if-most-eq0.false in omega (arith, z))
    c.page_of-n.ensures.page c.in-Ok.ensures.passes (c.in-Err-read_page.ensures.bad tells)

pub returns-then-not-fits_key-clause-bad : goal.returns-then-not-fits_key-clause-bad
returns-then-not-fits_key-clause-bad g c tells = λ bound.
    let x = entry_of c.args.bytes.now c.args.place in
    let image = g.V.PageView.image c.args.view.now in
    let same = sym c.bytes-then-is_leaf.ensures.value in
    let leaf = read_leaf c.args.blocks c.page_of-n.result image c.in-Ok-read_page.page.0 c.bytes.result.now c.get_u8.result c.is_leaf.result (c.in-Ok-read_page.ensures.bytes tells) c.bytes.ensures.value c.in-Ok-read_page.ensures.sound c.is_leaf.ensures c.get_u8.ensures.value c.if-is_leaf.true in
    let n = subst (λ (b : List ℕ). 2 < (head_of b).nextindex) same c.in-Ok-read_page.ensures.some in
    way_misses (page_nodes c.args.blocks (page_of image)) bound c.args.most c.args.low.now c.args.place x.offset c.page_of-n.result x.at.addr c.pass_key.new.met c.bytes-then-is_leaf.result.now (let z = c.if-most-eq0.false in omega (arith, z))
    c.page_of-n.ensures.page c.in-Ok.ensures.passes (leaf ∙ ap (λ b. a_leaf (entries_of b)) same) (omega (arith, n)) (sym c.fits_key.ensures ∙ c.if-not-fits_key.true)
