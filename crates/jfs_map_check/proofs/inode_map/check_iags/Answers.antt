use Rattle.std.proofs.Common.{◌≡◌, suc, refl, subst, ◌∙◌, arith}
use Rattle.std.specs.Prelude.{Option, ℕ}
use Rattle.std.proofs.lemmas.Result.{err_from_is_err_and}
use Rattle.jfs_bits.specs.Bits.{is_taken}
use Rattle.jfs_disk.specs.Image.{Image, page_of}
use Rattle.jfs_findings.specs.objects.specs.Contents.{block_of}
use Rattle.jfs_findings.specs.reader.specs.Reading.{OutsideIsPast}
use Rattle.jfs_findings.specs.Gains.{Gains}
use Rattle.jfs_map_check.specs.Inodes.{IsWrongIagIn}
use Rattle.jfs_map_check.proofs.Gaining.{some_past}
use Rattle.jfs_map_check.proofs.Iags.{no_totals, no_iag, more_iags, totals_go_on, counts_by, gains_by}
use Rattle.jfs_map_check.proofs.inode_map.check_iags.Goals as goal

pub loop-k-init : goal.loop-k-init
loop-k-init g c = record {
  rest = λ j h. refl;
  image = λ tells. refl;
  count_of_blocks = refl;
  device = refl;
  fault = refl;
  extents_most = omega arith;
  free_most = omega arith;
  totals = λ tells. no_totals (is_taken c.args.used.now) (page_of (g.V.PageView.image c.args.view.now)) c.args.extents.now;
  findings = λ tells. no_iag (is_taken c.args.used.now) (page_of (g.V.PageView.image c.args.view.now)) c.args.extents.now c.args.findings.now.items;
}

pub loop-k-preserved : goal.loop-k-preserved
loop-k-preserved g c =
    let taken = is_taken c.args.used.now in
    let image = g.V.PageView.image c.args.view.now in
    let i = c.loop-k.invariant in
    let e = c.in_ok-report.ensures in
    let pages = page_of (g.V.PageView.image c.loop-k.view) in
    let rest = c.from_block-rest.result.now in
    let here : block_of rest (suc c.loop-k.k) ≡ block_of c.args.extents.now (suc c.loop-k.k) = c.from_block-rest.ensures.same (suc c.loop-k.k) (omega arith) ∙ i.rest (suc c.loop-k.k) (omega arith) in
    record {
      rest = λ j h. c.from_block-rest.ensures.same j (omega (arith, h)) ∙ i.rest j (omega (arith, h));
      image = λ tells. e.image tells ∙ i.image tells;
      count_of_blocks = e.count_of_blocks ∙ i.count_of_blocks;
      device = e.device ∙ i.device;
      fault = e.fault ∙ i.fault;
      extents_most = (let before = i.extents_most in let more = e.most.0 in omega (arith, before, more));
      free_most = (let before = i.free_most in let more = e.most.1 in omega (arith, before, more));
      totals = λ tells. totals_go_on taken image (g.V.PageView.image c.loop-k.view) c.args.extents.now c.loop-k.k c.loop-k.there c.loop-k.free _ (i.image tells) (i.totals tells)
          (counts_by taken pages c.args.extents.now rest c.loop-k.k _ here (e.counts tells));
      findings = λ tells.
          more_iags taken (page_of image) c.args.extents.now c.loop-k.k c.args.findings.now.items c.loop-k.findings.items c.check_iag.new.findings.items (i.findings tells)
          (subst (λ (z : Image). Gains (IsWrongIagIn taken (page_of z) c.args.extents.now c.loop-k.k) c.loop-k.findings.items c.check_iag.new.findings.items) (i.image tells)
          (gains_by taken pages c.args.extents.now rest c.loop-k.k c.loop-k.findings.items c.check_iag.new.findings.items here (e.findings tells)));
    }

pub returns-in_err-report-clause-outside : goal.returns-in_err-report-clause-outside
returns-in_err-report-clause-outside g c =
    let p = err_from_is_err_and c.from_residual.result c.from_residual.ensures.1 in
    let next = suc c.loop-k.k in
    let here : block_of c.from_block-rest.result.now next ≡ block_of c.args.extents.now next = c.from_block-rest.ensures.same next (omega arith) ∙ c.loop-k.invariant.rest next (omega arith) in
    let past = subst (λ (o : Option ℕ). OutsideIsPast (g.V.PageView.block_count c.loop-k.view) o c.in_err-report.field-0.0) here c.in_err-report.ensures.outside in
    rw (p.1, p.2) (some_past (g.V.PageView.block_count c.args.view.now) (g.V.PageView.block_count c.loop-k.view) c.args.extents.now next c.in_err-report.field-0.0 c.loop-k.invariant.count_of_blocks past)
