use Rattle.std.proofs.Common.{◌≡◌, ◌<◌, ◌∙◌, length, take, get_or, sym, ap, arith}
use Rattle.std.specs.Option.{option_copied}
use Rattle.std.proofs.lemmas.Option.{get_or_from_slice_get}
use Rattle.std.proofs.lemmas.List.{take_more, take_all, length-take-le}
use Rattle.jfs_bits.specs.declared.descriptor.Pxd.{Pxd}
use Rattle.jfs_bmap.proofs.Puts.{some-there}
use Rattle.jfs_bmap.proofs.Releases.{released-none, released-more}
use Rattle.jfs_bmap.proofs.block_map.BlockMap.release.Goals.{in-Some, in_default}
use Rattle.jfs_bmap.proofs.block_map.BlockMap.release.Goals as goal

pub loop-i-init : goal.loop-i-init
loop-i-init c = released-none c.args.entry c.args.self.now

pub release_run-requires : goal.release_run-requires
release_run-requires c = rw c.loop-i.invariant (omega (arith, length-take-le c.loop-i.i c.args.list.now))

pub loop-i-preserved : goal.loop-i-preserved
loop-i-preserved c =
    let none : Pxd = record { len = 0; addr = 0 } in
    let within : c.loop-i.i < length c.args.list.now = omega (arith, c.len-i-end.ensures) in
    let run = get_or c.args.list.now c.loop-i.i none in
    elim c.match-get.branch [
      | in-Some w ↦ (
          let here : run ≡ w.in-Some.run'.now = get_or_from_slice_get c.args.list.now c.loop-i.i w.in-Some.run'.now none (sym c.get.ensures ∙ ap option_copied w.in-Some.is) in
          rw (w.self-is, w.release_run.ensures, c.loop-i.invariant, take_more c.args.list.now c.loop-i.i none within, here) (released-more (take c.loop-i.i c.args.list.now) w.in-Some.run'.now c.args.entry c.args.self.now))
      | in_default w ↦ absurd (some-there c.args.list.now c.loop-i.i within (sym (ap option_copied w.in_default.is) ∙ c.get.ensures))
    ]

pub returns : goal.returns
returns c = rw (take_all c.loop-i.i c.args.list.now (omega (arith, c.len-i-end.ensures))) at c.loop-i.invariant
