use Rattle.std.proofs.Common.{◌≡◌, ℕ, length, subst, ◌∙◌}
use Rattle.jfs_disk.specs.Image.{page_of}
use Rattle.jfs_super.specs.declared.fields.Super.{Super}
use Rattle.jfs_bmap.specs.Set.{taken_at}
use Rattle.jfs_bmap.specs.OwnedBlocks.{owned_of}
use Rattle.jfs_bmap.specs.MapFile.{pages_of}
use Rattle.jfs_findings.specs.mount_rules.specs.Subject.{subject_of}
use Rattle.jfs_findings.specs.Gains.{Gains}
use Rattle.jfs_map_check.specs.Found.{KnowsOwners, IsOfBlockMap, IsWrongBelow}
use Rattle.jfs_map_check.proofs.Gaining.{if_ok}
use Rattle.jfs_map_check.proofs.OfBlockMap.{made_size, of_block_map}
use Rattle.jfs_map_check.proofs.block_map.check_block_map.Goals as goal

pub check_pages-requires : goal.check_pages-requires
check_pages-requires g c = made_size c.blocks-blocks.result c.args.agsize c.args.owned.now c.in-Ok.map c.in-Ok.ensures ∙ c.blocks-blocks.ensures

pub returns-clause-findings : goal.returns-clause-findings
returns-clause-findings g c tells =
    let m = c.in-Ok.map in
    let size = g.V.PageView.block_count c.args.view.now in
    let pages = page_of (g.V.PageView.image c.args.view.now) in
    let is : m ≡ owned_of c.args.owned.now size c.args.agsize = subst (λ (n : ℕ). m ≡ owned_of c.args.owned.now n c.args.agsize) c.blocks-blocks.ensures c.in-Ok.ensures in
    if_ok (Gains (IsWrongBelow (length m.owned) m.agsize (taken_at m.owned) pages c.args.extents.now (pages_of (length m.owned))) c.args.findings.now.items c.check_pages.new.findings.items)
    ((super : Super) → KnowsOwners (subject_of super pages) size c.args.agsize c.args.owned.now c.args.extents.now → Gains (IsOfBlockMap (subject_of super pages)) c.args.findings.now.items c.check_pages.new.findings.items)
    c.check_pages.result
    (λ gains super knows. of_block_map super pages size c.args.agsize c.args.owned.now c.args.extents.now m c.args.findings.now.items c.check_pages.new.findings.items is gains knows)
    (c.check_pages.ensures.findings tells)
