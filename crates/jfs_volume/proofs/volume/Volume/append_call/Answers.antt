use Rattle.std.proofs.Common.{◌≡◌, ℕ}
use Rattle.jfs_bmap.specs.States.{AreReserved}
use Rattle.jfs_volume.specs.Runs.{taken_in}
use Rattle.jfs_volume.specs.declared.calling.Called.TheVariants as called
use Rattle.jfs_volume.proofs.CallJoins.{given_back}
use Rattle.jfs_volume.proofs.volume.Volume.append_call.Goals as goal

pub returns-in_default : goal.returns-in_default
returns-in_default g c =
    let reserved : AreReserved c.args.self.now.map (taken_in c.args.tx.now) = rw (← c.self.view_is, ← c.as_slice.ensures, ← c.in-Ok.ensures) (c.are_reserved.ensures.0 c.if-not-are_reserved.false) in
    let other : (number : ℕ) → c.append_reserved-called.result ≡ called.Entered number → ⊥ = c.in_default.not-Entered in
    given_back g.D.Disk.tells g.D.Disk.tells_crashes c.args.entry c.args.tx.now c.args.pages.now c.args.self.now c.append_reserved-called.new.self c.give_back.new.self c.append_reserved-called.result reserved other c.append_reserved-called.ensures c.give_back.ensures
