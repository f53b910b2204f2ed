use Rattle.std.proofs.Common.{arith}
use Rattle.jfs_shared.proofs.Stands.{told_stands}
use Rattle.jfs_shared.proofs.collected.SharedVolumeCollectedRecorded.told.Goals as goal

pub told-requires : goal.told-requires
told-requires g c =
    let m = c.requires.may in
    let told = m.6.told_is in
    let taken = m.6.taken_is in (omega (arith, told, m.7), omega (arith, taken, m.8))

pub returns : goal.returns
returns g c = record {
  tells = λ base list taken told points known s.
      let x = c.args.self.now in
      let m = c.requires.may in
      let is = s.taken_is in
      let same = m.6.taken_is in
      told_stands g.D.Disk.tells g.D.Disk.tells_crashes base list taken told points known x.points x.is_broken_off x.volume s c.args.n c.told.new.self (omega (arith, is, same, m.8)) c.told.ensures.parts c.told.ensures.shows c.told.ensures.told;
}
