use Rattle.std.proofs.Common.{◌∙◌, sym, take}
use Rattle.std.proofs.lemmas.List.{take_all}
use Rattle.std.proofs.lemmas.List.Elements.{All-more, All-same}
use Rattle.jfs_bits.specs.declared.extent.Xad.{Xad}
use Rattle.jfs_bits.specs.Extent.{FitsXad}
use Rattle.jfs_written_rows.proofs.Looked.{long_more, rises_on}
use Rattle.jfs_written_rows.proofs.ready.are_ready.Goals as goal

-- what an index past the list would give
abbrev blank : Xad
blank = record { flag = 0; offset = 0; at = record { len = 0; addr = 0 } }

pub loop-x-preserved : goal.loop-x-preserved
loop-x-preserved c = record {
  fits = All-more FitsXad c.args.list.now c.loop-x.x-index blank c.loop-x-test.true c.loop-x.invariant.fits (c.is_ready.ensures.fits c.if-not-is_ready.false);
  long = λ rest. c.loop-x.invariant.long (long_more c.args.list.now c.loop-x.x-index blank c.loop-x-test.true (c.is_ready.ensures.long c.if-not-is_ready.false) rest);
  rises = rises_on c.args.list.now c.loop-x.x-index c.loop-x.low c.end_of-low.result blank c.loop-x-test.true c.if-x-low.false c.end_of-low.ensures ∙ c.loop-x.invariant.rises;
}

pub returns-clause-fits : goal.returns-clause-fits
returns-clause-fits c is = All-same FitsXad c.args.list.now (take c.loop-x.x-index c.args.list.now) (sym (take_all c.loop-x.x-index c.args.list.now c.loop-x-test.false)) c.loop-x.invariant.fits
