use Rattle.std.specs.Global.{Vec}
use Rattle.std.proofs.Common.{ℕ, ap, Ok, Err, drop, string_bytes, sym, subst}
use Rattle.jfs_command.specs.declared.outcome.End.{End}
use Rattle.jfs_command.specs.Log.{LogEnds}
use Rattle.jfs_command.proofs.Looking.{faults_of}
use Rattle.jfs_command.proofs.LogShown.{records_met, lines_said, not_read, at_layout}
use Rattle.jfs_command.proofs.log.read_lines.Goals as goal

pub log_lines-requires : goal.log_lines-requires
log_lines-requires g c =
    let layout = c.geometry-layout.result in
    let read = c.in-Ok.ensures.read in
    records_met layout.log.len layout.blocks (drop layout.log.addr read.0) c.in-Ok.read read.2

pub returns-in-Ok-log_lines-clause-log : goal.returns-in-Ok-log_lines-clause-log
returns-in-Ok-log_lines-clause-log g c =
    let layout = c.geometry-layout.result in
    let read = c.in-Ok.ensures.read in
    let count = faults_of g.D.Disk c.args.disk.now c.read_ring.new.disk in (
      read.0,
      read.1,
      at_layout layout c.args.s.now read.0 count (Ok c.into_bytes.result) c.geometry-layout.ensures.layout
          (lines_said layout.log.len layout.blocks (drop layout.log.addr read.0) c.in-Ok.read (string_bytes c.in-Ok-log_lines.text) count c.into_bytes.result read.2 c.in-Ok-log_lines.ensures (ap (λ (v : Vec ℕ). v.items) c.into_bytes.ensures.value) c.in-Ok.ensures.quiet),
    )

pub returns-in-Ok-clause-log : goal.returns-in-Ok-clause-log
returns-in-Ok-clause-log g c = let read = c.in-Ok.ensures.read in (read.0, read.1, tt)

pub returns-clause-log : goal.returns-clause-log
returns-clause-log g c =
    let layout = c.geometry-layout.result in
    let read = c.in-Err.ensures.read in
    let before = g.D.Disk.fault_count c.args.disk.now in
    let now = g.D.Disk.fault_count c.read_ring.new.disk in
    let end = not_read layout.log.len layout.blocks (drop layout.log.addr read.0) before now c.in-Err.error read.2 c.in-Err.ensures.cause c.in-Err.ensures.refused c.end_of.ensures.label in (
      read.0,
      read.1,
      at_layout layout c.args.s.now read.0 (record { before = before; now = now }) (Err c.end_of.result) c.geometry-layout.ensures.layout
          (subst (λ (e : End). LogEnds layout.log.len layout.blocks (drop layout.log.addr read.0) (record { before = before; now = now }) (Err e)) (sym c.end_of.ensures.is) end),
    )
