use Rattle.std.proofs.Common.{◌≡◌, ◌+◌, suc, true, Some, None, refl, ap, ◌∙◌, arith}
use Rattle.jfs_bits.specs.Bits.{is_taken}
use Rattle.jfs_disk.specs.Image.{page_of}
use Rattle.jfs_findings.specs.objects.specs.Contents.{block_of}
use Rattle.jfs_map_check.proofs.Iags.{counted_ok, noted_ok, none_counted}
use Rattle.jfs_map_check.proofs.inode_map.check_iag.Goals as goal

pub returns-in-Ok-None-clause-counts : goal.returns-in-Ok-None-clause-counts
returns-in-Ok-None-clause-counts g c tells =
    let next : suc c.args.k ≡ c.from.result + 1 = (let f = c.from.ensures in omega (arith, f)) in
    let none : block_of c.args.extents.now (c.from.result + 1) ≡ None = cc (c.in-Ok-None.ensures.0) in
    none_counted (is_taken c.args.used.now) (page_of (g.V.PageView.image c.args.view.now)) c.args.extents.now c.args.k (record { canonical = true; extents = 0; free = 0 }) refl refl (ap (block_of c.args.extents.now) next ∙ none)

pub returns-in-Ok-clause-counts : goal.returns-in-Ok-clause-counts
returns-in-Ok-clause-counts g c tells =
    let n = c.in-Ok-Some.n in
    let next : suc c.args.k ≡ c.from.result + 1 = (let f = c.from.ensures in omega (arith, f)) in
    let at : block_of c.args.extents.now (c.from.result + 1) ≡ Some n = cc (c.in-Ok-Some.ensures.0) in
    counted_ok (is_taken c.args.used.now) (page_of (g.V.PageView.image c.args.view.now)) c.args.extents.now c.args.k n c.in-Ok.page.now.0 c.note_iag.result (ap (block_of c.args.extents.now) next ∙ at) (c.in-Ok.ensures.bytes tells)
    c.note_iag.ensures.extents c.note_iag.ensures.free

pub returns-in-Ok-clause-findings : goal.returns-in-Ok-clause-findings
returns-in-Ok-clause-findings g c tells =
    let n = c.in-Ok-Some.n in
    let next : suc c.args.k ≡ c.from.result + 1 = (let f = c.from.ensures in omega (arith, f)) in
    let at : block_of c.args.extents.now (c.from.result + 1) ≡ Some n = cc (c.in-Ok-Some.ensures.0) in
    noted_ok (is_taken c.args.used.now) (page_of (g.V.PageView.image c.args.view.now)) c.args.extents.now c.args.k n c.in-Ok.page.now.0 c.args.findings.now.items c.note_iag.new.findings.items c.note_iag.result (ap (block_of c.args.extents.now) next ∙ at) (c.in-Ok.ensures.bytes tells)
    c.note_iag.ensures.findings
