use Rattle.std.specs.Prelude.{is_some}
use Rattle.std.proofs.Common.{◌≡◌, refl, inr, ap, sym, ◌∙◌, arith, None, Option, [], ◌∷◌, ◌++◌}
use Rattle.std.proofs.lemmas.List.{length-append}
use Rattle.jfs_disk.specs.declared.disk.Fault.{Fault}
use Rattle.jfs_groups.specs.Points.{halt_mark}
use Rattle.jfs_kept_history.specs.legal.specs.served.specs.crash_core.specs.Step.{halted_by}
use Rattle.jfs_shared.proofs.Stands.{few_points, marked_stands, none_of}
use Rattle.jfs_shared.proofs.shared.SharedVolume.halt_for_log.Goals as goal

pub overflow_add-self : goal.overflow_add-self
overflow_add-self g c =
    let s = c.requires.stands in
    let x = c.args.self.now in
    let runs : x.volume.halted ≡ None = none_of x.volume.halted (ap is_some (sym c.halted.ensures) ∙ (sym c.is_some.ensures ∙ c.if-is_some.false)) in
    omega (arith, few_points g.D.Disk.tells g.D.Disk.tells_crashes s.0 s.1 s.2 s.3 s.4 s.5 x.points x.is_broken_off x.volume s.6 runs c.text_end.result c.text_end.ensures c.text_end.type_inv)

pub returns-clause-halts : goal.returns-clause-halts
returns-clause-halts g c base list taken told points known s =
    let x = c.args.self.now in
    let runs : x.volume.halted ≡ None = none_of x.volume.halted (ap is_some (sym c.halted.ensures) ∙ (sym c.is_some.ensures ∙ c.if-is_some.false)) in
    let new : c.halt.new.self ≡ record x.volume { halted = halted_by c.args.fault None } = c.halt.ensures.halted ∙ ap (λ (h : Option Fault). record x.volume { halted = halted_by c.args.fault h }) runs in (
      points ++ halt_mark ∷ [],
      inr refl,
      marked_stands g.D.Disk.tells g.D.Disk.tells_crashes base list taken told points known x.points x.is_broken_off x.volume s c.args.fault c.halt.new.self runs new,
      (let many = s.points_are in omega (arith, many, length-append points (halt_mark ∷ []))),
    )
