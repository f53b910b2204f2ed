use Rattle.std.proofs.Common.{◌++◌, ◌/◌, ◌∙◌, ap, ℕ, List}
use Rattle.jfs_disk.specs.Image.{page_of}
use Rattle.jfs_xtree.specs.Spells.{broken_for, found_for}
use Rattle.jfs_read.specs.Read.{block_by}
use Rattle.jfs_way.specs.meaning.specs.Readers.{root_of}
use Rattle.jfs_read.proofs.Parts.{hole_part, page_part, way_went, on_ok, way_pushed, way_met}
use Rattle.jfs_read.proofs.block.push_part.Goals as goal

pub returns-in-Ok-None-clause-part : goal.returns-in-Ok-None-clause-part
returns-in-Ok-None-clause-part g c tells =
    let b = g.V.PageView.block_count c.args.view.now in
    let p = page_of (g.V.PageView.image c.args.view.now) in
    on_ok c.push_zeros.result c.push_zeros.ensures.pushed (λ e. e ∙ ap (λ (xs : List ℕ). c.args.bytes.now ++ xs)
    (hole_part b p c.args.at.now.inode c.args.at.now.page c.args.i c.args.count c.requires.one (broken_for b p (root_of c.args.at.now.inode) (c.args.i / 4096)) (rw c.in-Ok-None.field-0-is at (c.in-Ok-None.ensures.meets tells))))

pub returns-in-Ok-None-clause-way : goal.returns-in-Ok-None-clause-way
returns-in-Ok-None-clause-way g c tells =
    let b = g.V.PageView.block_count c.args.view.now in
    let p = page_of (g.V.PageView.image c.args.view.now) in
    way_pushed c.args.at.now.page (broken_for b p (root_of c.args.at.now.inode) (c.args.i / 4096)) c.push_zeros.result
    (way_went b p c.args.at.now.inode c.args.at.now.page c.args.i c.args.count c.requires.one (broken_for b p (root_of c.args.at.now.inode) (c.args.i / 4096)) c.in-Ok-None.field-0 (c.in-Ok-None.ensures.meets tells))
    c.push_zeros.ensures.memory

pub returns-in-Ok-clause-part : goal.returns-in-Ok-clause-part
returns-in-Ok-clause-part g c tells =
    let b = g.V.PageView.block_count c.args.view.now in
    let p = page_of (g.V.PageView.image c.args.view.now) in
    on_ok c.push.result c.push.ensures.pushed (λ e. e ∙ ap (λ (xs : List ℕ). c.args.bytes.now ++ xs)
    (page_part b p c.args.at.now.inode c.args.at.now.page c.args.i c.args.count c.requires.one (broken_for b p (root_of c.args.at.now.inode) (c.args.i / 4096)) c.in-Ok-Some.n c.in-Ok.page.now.0
    (rw c.in-Ok-Some.field-0-is at (c.in-Ok-Some.ensures.meets tells)) (rw (c.page_at.ensures.image tells) at (c.in-Ok.ensures.bytes tells)) c.push.ensures.width))

pub returns-in-Err-clause-way : goal.returns-in-Err-clause-way
returns-in-Err-clause-way g c tells =
    let b = g.V.PageView.block_count c.args.view.now in
    let p = page_of (g.V.PageView.image c.args.view.now) in
    way_met c.args.at.now.page (broken_for b p (root_of c.args.at.now.inode) (c.args.i / 4096)) (block_by (found_for b p (root_of c.args.at.now.inode) (c.args.i / 4096)) (c.args.i / 4096)) c.in-Err.e (c.in-Err.ensures.meets tells)
