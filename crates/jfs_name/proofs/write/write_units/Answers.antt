use Rattle.std.proofs.Common.{◌∷◌, [], get_or, ℕ, Vec, Global, sym, ap, ◌∙◌}
use Rattle.std.proofs.lemmas.List.{append-nil}
use Rattle.jfs_name.proofs.Spelling.{spelled-none, write_step, plain_is, other_is}
use Rattle.jfs_name.proofs.write.write_units.Goals as goal
use Rattle.jfs_name.proofs.write.write_units.Goals.{in-Some+in_ok-push-in-Some, in-None+in_ok-extend_from_slice-in-None}

pub loop-unit-init : goal.loop-unit-init
loop-unit-init c = rw (spelled-none) (sym (append-nil c.args.into.now.items))

pub loop-unit-preserved : goal.loop-unit-preserved
loop-unit-preserved c = elim c.match-plain_byte.branch [
  | in-Some+in_ok-push-in-Some w ↦
      write_step c.match-plain_byte.into.items c.loop-unit.into.items c.args.into.now.items (w.in-Some.byte ∷ []) c.args.units.now c.loop-unit.unit-index c.loop-unit-test.true
      (ap (λ (v : Vec ℕ Global). v.items) w.into-is ∙ w.in_ok-push-in-Some.ensures.items) c.loop-unit.invariant (plain_is (get_or c.args.units.now c.loop-unit.unit-index 0) w.in-Some.byte c.plain_byte.result c.plain_byte.ensures w.in-Some.is)
  | in-None+in_ok-extend_from_slice-in-None w ↦
      write_step c.match-plain_byte.into.items c.loop-unit.into.items c.args.into.now.items w.escape.result c.args.units.now c.loop-unit.unit-index c.loop-unit-test.true
      (ap (λ (v : Vec ℕ Global). v.items) w.into-is ∙ w.in_ok-extend_from_slice-in-None.ensures.items) c.loop-unit.invariant
      (w.escape.ensures ∙ other_is (get_or c.args.units.now c.loop-unit.unit-index 0) c.plain_byte.result c.plain_byte.ensures w.in-None.is)
]
