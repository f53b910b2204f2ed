use Rattle.std.proofs.Common.{◌≡◌, Some, length, sym, ◌∙◌}
use Rattle.jfs_disk.specs.Image.{page_of}
use Rattle.jfs_bmap.specs.Set.{taken_at}
use Rattle.jfs_findings.specs.objects.specs.Contents.{block_of}
use Rattle.jfs_findings.specs.Gains.{Gains}
use Rattle.jfs_map_check.specs.Found.{IsWrongAt, IsWrongIn}
use Rattle.jfs_map_check.proofs.Gaining.{if_ok}
use Rattle.jfs_map_check.proofs.Noted.{there}
use Rattle.jfs_map_check.proofs.block_map.check_page.Goals as goal

pub returns-in-Ok-clause-findings : goal.returns-in-Ok-clause-findings
returns-in-Ok-clause-findings g c tells =
    let m = c.args.map.now in
    let pages = page_of (g.V.PageView.image c.args.view.now) in
    let n = c.in-Ok-Some.n in
    let at : block_of c.args.extents.now c.args.j ≡ Some n = cc (c.in-Ok-Some.ensures.0) in
    if_ok (Gains (IsWrongAt (length m.owned) m.agsize (taken_at m.owned) c.args.j n c.in-Ok.page.now.0) c.args.findings.now.items c.note_page.new.findings.items)
    (Gains (IsWrongIn (length m.owned) m.agsize (taken_at m.owned) pages c.args.extents.now c.args.j) c.args.findings.now.items c.note_page.new.findings.items)
    c.note_page.result
    (there (length m.owned) m.agsize (taken_at m.owned) pages c.args.extents.now c.args.j n c.in-Ok.page.now.0 c.args.findings.now.items c.note_page.new.findings.items (sym c.is_in_use.ensures ∙ c.if-not-is_in_use.false) at (c.in-Ok.ensures.bytes tells))
    c.note_page.ensures.findings
