use Rattle.std.proofs.Common.{[], refl, ap, ◌∙◌, Option, arith}
use Rattle.jfs_disk.specs.declared.disk.Fault.{Fault}
use Rattle.jfs_halves.specs.crash_core.specs.Step.{halted_by}
use Rattle.jfs_volume.proofs.Stand.{none}
use Rattle.jfs_volume.proofs.Settled.{alone_then}
use Rattle.jfs_volume.proofs.Rising.{homes_stop, homes_on, counts_join}
use Rattle.jfs_volume.proofs.volume.Volume.home_all.Goals as goal

pub loop-n-init : goal.loop-n-init
loop-n-init g c = record {
  counts = record { blocks = refl; appended = refl; taken = refl; told = refl; points = refl; count = refl; room = refl; text = refl };
  alone = record { parts = refl; view = λ t. refl };
  halted = refl;
  faults = refl;
  above = λ q some. omega arith;
  homes = λ seen asked told crashes half s. ([], none seen asked c.args.self.now c.args.self.now half s (λ t k. refl));
}

pub loop-n-preserved : goal.loop-n-preserved
loop-n-preserved g c =
    let inv = c.loop-n.invariant in
    let e = c.home_lowest.ensures in
    record {
      counts = counts_join c.args.self.now c.loop-n.self c.home_lowest.new.self inv.counts e.counts;
      alone = alone_then g.D.Disk.tells c.args.self.now c.loop-n.self c.home_lowest.new.self inv.alone e.alone;
      halted = c.in-Ok.ensures.halted ∙ inv.halted;
      faults = c.in-Ok.ensures.cause ∙ inv.faults;
      above = λ q some. let past = c.in-Ok.ensures.lowest c.loop-n._n inv.above q some in omega (arith, past);
      homes = λ seen asked told crashes half s.
          let w = inv.homes seen asked told crashes half s in
          homes_on seen asked c.args.self.now c.loop-n.self c.home_lowest.new.self half w.0 w.1 (c.in-Ok.ensures.home seen asked told crashes _ w.1.stands);
    }

pub returns-in-Err-clause-home : goal.returns-in-Err-clause-home
returns-in-Err-clause-home g c seen asked told crashes half s =
    let w = c.loop-n.invariant.homes seen asked told crashes half s in
    let failed = c.in-Err.ensures.home seen asked told crashes _ w.1.stands in
    homes_stop seen asked c.args.self.now c.loop-n.self c.home_lowest.new.self half w.0 failed.0 c.in-Err.fault w.1 failed.1

pub returns-in-Err-clause-alone : goal.returns-in-Err-clause-alone
returns-in-Err-clause-alone g c = alone_then g.D.Disk.tells c.args.self.now c.loop-n.self c.home_lowest.new.self c.loop-n.invariant.alone c.home_lowest.ensures.alone

pub returns-in-Err-clause-halts : goal.returns-in-Err-clause-halts
returns-in-Err-clause-halts g c = c.in-Err.ensures.halts ∙ ap (λ (x : Option Fault). halted_by c.in-Err.fault x) c.loop-n.invariant.halted
