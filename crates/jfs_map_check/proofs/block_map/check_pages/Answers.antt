use Rattle.std.proofs.Common.{◌≡◌, length, subst, ◌∙◌, arith}
use Rattle.std.specs.Prelude.{Option, ℕ}
use Rattle.std.proofs.lemmas.Result.{err_from_is_err_and}
use Rattle.jfs_disk.specs.Image.{Image, page_of}
use Rattle.jfs_bmap.specs.Set.{taken_at}
use Rattle.jfs_findings.specs.objects.specs.Contents.{block_of}
use Rattle.jfs_findings.specs.reader.specs.Reading.{OutsideIsPast}
use Rattle.jfs_findings.specs.Gains.{Gains}
use Rattle.jfs_map_check.specs.Found.{IsWrongIn}
use Rattle.jfs_map_check.proofs.Gaining.{some_past}
use Rattle.jfs_map_check.proofs.Noted.{one_more, from_rest}
use Rattle.jfs_map_check.proofs.block_map.check_pages.Goals as goal

pub loop-j-preserved : goal.loop-j-preserved
loop-j-preserved g c =
    let m = c.args.map.now in
    let i = c.loop-j.invariant in
    let e = c.in_ok-check_page.ensures in
    let pages = page_of (g.V.PageView.image c.args.view.now) in
    let rest = c.from_block-rest.result.now in
    let here : block_of rest c.loop-j.j ≡ block_of c.args.extents.now c.loop-j.j = c.from_block-rest.ensures.same c.loop-j.j (omega arith) ∙ i.rest c.loop-j.j (omega arith) in
    record {
      rest = λ k h. c.from_block-rest.ensures.same k (omega (arith, h)) ∙ i.rest k (omega (arith, h));
      image = λ tells. e.image tells ∙ i.image tells;
      count_of_blocks = e.count_of_blocks ∙ i.count_of_blocks;
      device = e.device ∙ i.device;
      fault = e.fault ∙ i.fault;
      findings = λ tells.
          one_more (length m.owned) m.agsize (taken_at m.owned) pages c.args.extents.now c.loop-j.j c.args.findings.now.items c.loop-j.findings.items c.check_page.new.findings.items (i.findings tells)
          (from_rest (length m.owned) m.agsize (taken_at m.owned) pages c.args.extents.now c.loop-j.j rest c.loop-j.findings.items c.check_page.new.findings.items here
          (subst (λ (z : Image). Gains (IsWrongIn (length m.owned) m.agsize (taken_at m.owned) (page_of z) rest c.loop-j.j) c.loop-j.findings.items c.check_page.new.findings.items) (i.image tells) (e.findings tells)));
    }

pub returns-in_err-check_page-clause-outside : goal.returns-in_err-check_page-clause-outside
returns-in_err-check_page-clause-outside g c =
    let p = err_from_is_err_and c.from_residual.result c.from_residual.ensures.1 in
    let here : block_of c.from_block-rest.result.now c.loop-j.j ≡ block_of c.args.extents.now c.loop-j.j = c.from_block-rest.ensures.same c.loop-j.j (omega arith) ∙ c.loop-j.invariant.rest c.loop-j.j (omega arith) in
    let past = subst (λ (o : Option ℕ). OutsideIsPast (g.V.PageView.block_count c.loop-j.view) o c.in_err-check_page.field-0.0) here c.in_err-check_page.ensures.outside in
    rw (p.1, p.2) (some_past (g.V.PageView.block_count c.args.view.now) (g.V.PageView.block_count c.loop-j.view) c.args.extents.now c.loop-j.j c.in_err-check_page.field-0.0 c.loop-j.invariant.count_of_blocks past)
