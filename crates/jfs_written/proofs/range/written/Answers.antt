use Rattle.std.proofs.Common.{arith}
use Rattle.jfs_bits.specs.declared.extent.Xad.{Xad}
use Rattle.jfs_written.proofs.Steps.{long_at, pass_end}
use Rattle.jfs_written.proofs.range.written.Goals as goal

-- what an index past the list would give
abbrev blank : Xad
blank = record { flag = 0; offset = 0; at = record { len = 0; addr = 0 } }

pub write_entry-requires-clause-entry_long : goal.write_entry-requires-clause-entry_long
write_entry-requires-clause-entry_long c = long_at c.args.entries.now c.loop-e.e-index blank c.requires.entries_long c.loop-e-test.true

pub write_hole-requires-2-clause-order : goal.write_hole-requires-2-clause-order
write_hole-requires-2-clause-order c = let f = c.loop-e.invariant.fits in omega (arith, f)

pub returns : goal.returns
returns c =
    pass_end c.loop-e.list.items c.write_hole-2.new.list.items c.args.entries.now c.args.xs.now c.loop-e.e-index c.loop-e.from 18446744073709551615 c.loop-e-test.false c.requires.range (omega arith) c.requires.entries_rise c.requires.range_rises
    c.loop-e.invariant.rest c.in_ok-write_hole.ensures.list
