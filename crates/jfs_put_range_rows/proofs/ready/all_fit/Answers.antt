use Rattle.std.proofs.Common.{◌≡◌, ◌<◌, ◌+◌, ◌^◌, true, sym, ap, ◌∙◌, take, get_or, arith}
use Rattle.std.proofs.lemmas.List.{take_all}
use Rattle.std.proofs.lemmas.List.Elements.{All-more, All-same}
use Rattle.jfs_bits.specs.declared.extent.Xad.{Xad}
use Rattle.jfs_xtpage.specs.Page.{end_of}
use Rattle.jfs_xtree.specs.Node.{IsGood}
use Rattle.jfs_xtree.specs.Writing.{is_recorded}
use Rattle.jfs_put_range_rows.proofs.Looked.{from_more, to_more, rises_on}
use Rattle.jfs_put_range_rows.proofs.ready.all_fit.Goals as goal

-- what an index past the list would give
abbrev blank : Xad
blank = record { flag = 0; offset = 0; at = record { len = 0; addr = 0 } }

pub loop-x-preserved : goal.loop-x-preserved
loop-x-preserved c =
    let yes = c.if-not-fits.false in
    let list = c.args.list.now in
    let i = c.loop-x.x-index in
    let more = c.loop-x-test.true in
    let above = c.loop-x.invariant.low in
    let low = c.fits.ensures.low yes in
    let end = ap (λ n. (get_or list i blank).offset + n) c.from.ensures ∙ c.fits.ensures.end yes in
    record {
      recorded = All-more (λ x. is_recorded x ≡ true) list i blank more c.loop-x.invariant.recorded (c.fits.ensures.recorded yes);
      good = All-more (IsGood 8192) list i blank more c.loop-x.invariant.good (c.fits.ensures.good yes);
      ends = All-more (λ x. end_of x < 2 ^ 40) list i blank more c.loop-x.invariant.ends (c.fits.ensures.ends yes);
      from = λ rest. c.loop-x.invariant.from (from_more c.args.start list i blank more (omega (arith, above, low)) rest);
      to = λ rest. c.loop-x.invariant.to (to_more (c.args.start + 17) list i blank more (c.fits.ensures.to yes) rest);
      rises = rises_on list i c.loop-x.low ((get_or list i blank).offset + c.from.result) blank more low end ∙ c.loop-x.invariant.rises;
      low = omega (arith, above, low);
    }

pub returns-clause-recorded : goal.returns-clause-recorded
returns-clause-recorded c is = All-same (λ x. is_recorded x ≡ true) c.args.list.now (take c.loop-x.x-index c.args.list.now) (sym (take_all c.loop-x.x-index c.args.list.now c.loop-x-test.false)) c.loop-x.invariant.recorded

pub returns-clause-good : goal.returns-clause-good
returns-clause-good c is = All-same (IsGood 8192) c.args.list.now (take c.loop-x.x-index c.args.list.now) (sym (take_all c.loop-x.x-index c.args.list.now c.loop-x-test.false)) c.loop-x.invariant.good

pub returns-clause-ends : goal.returns-clause-ends
returns-clause-ends c is = All-same (λ x. end_of x < 2 ^ 40) c.args.list.now (take c.loop-x.x-index c.args.list.now) (sym (take_all c.loop-x.x-index c.args.list.now c.loop-x-test.false)) c.loop-x.invariant.ends
