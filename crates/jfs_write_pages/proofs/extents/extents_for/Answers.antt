use Rattle.std.proofs.Common.{◌-◌, ◌^◌, false, length, arith}
use Rattle.jfs_write_pages.specs.declared.spot.Spot.{Spot}
use Rattle.jfs_write_pages.proofs.Steps.{spot_fits}
use Rattle.jfs_write_pages.proofs.extents.extents_for.Goals as goal

abbrev blank : Spot
blank = record { index = 0; block = 0; recorded = false }

pub push_before-requires : goal.push_before-requires
push_before-requires c = let t = c.loop-i-test.true in let f = (spot_fits (2 ^ 32) c.args.spots.now (length c.args.spots.now - 1 - c.loop-i.i) blank c.requires (omega (arith, t))).1 in omega (arith, f)
