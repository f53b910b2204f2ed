use Rattle.std.proofs.Common.{refl, subst, ◌∙◌}
use Rattle.jfs_server.specs.Stopped.{HaltsAs}
use Rattle.jfs_server.proofs.Ended.{at_first, still, handed_out, entries_of, is_stopped, ends_as}
use Rattle.jfs_server.proofs.stopping.hand_out.Goals as goal

pub do_last-ending-requires : goal.do_last-ending-requires
do_last-ending-requires g c = record { together = (_, at_first g.D.Disk c.requires.end.0 c.args.volume c.args.log c.requires.end.1) }

pub returns : goal.returns
returns g c = record {
  stopped = λ passes at_end.
      let d = g.D.Disk in
      let first = at_first d passes c.args.volume c.args.log at_end in
      let e = c.do_last-ending.ensures in
      let v = c.do_last-ending.new.shared in
      let y = c.do_last-ending.new.log in
      let n = still d passes c.args.volume c.args.log at_end v y (e.list _ first) in
      let mid = c.halt_as.new.volume in
      let halts : HaltsAs y.side.halted v.volume mid = subst (λ h. HaltsAs h v.volume mid) c.halted.ensures (subst (λ p. HaltsAs c.halted.result p mid) c.into_volume-volume.ensures c.halt_as.ensures) in
      let h = handed_out d passes n.0 v y n.1 n.3 mid c.take_entries-history.new.self halts c.take_entries-history.ensures.rest in
      is_stopped d passes n.0 v y n.1 n.3 _ mid.halted h refl
      (c.take_entries-history.ensures.entries ∙ entries_of y.side.halted v.volume mid halts)
      c.is_broken_off-is_broken_off.ensures
      (g.met.D.Disk.reads_now y.side.part)
      c.args.last
      (ends_as d passes n.0 v y n.1 n.3 c.args.volume.shared c.args.log _ first n.2 c.args.last c.do_last-ending.result e.home e.rests e.runs e.left e.full e.durable);
}
