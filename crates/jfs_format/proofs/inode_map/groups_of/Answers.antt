use Rattle.std.proofs.Common.{inl, inr, arith}
use Rattle.std.proofs.lemmas.Bool.{cases_eq}
use Rattle.std.proofs.lemmas.List.{get_or-set_same, get_or-set_other, length-set}
use Rattle.jfs_iag.specs.Control.{no_group}
use Rattle.jfs_format.proofs.inode_map.groups_of.Goals as goal

pub loop-g-preserved : goal.loop-g-preserved
loop-g-preserved c =
    let i = c.loop-g.invariant in
    let g = c.loop-g.g in
    let size = i.size in
    let group = c.group_of.result in
    record {
      size = simp length-set i.size;
      each = λ j h. elim (cases_eq j g) [
        | inl same ↦ rw (same, get_or-set_same c.loop-g.groups g group no_group (omega arith)) c.group_of.ensures
        | inr other ↦ rw (get_or-set_other c.loop-g.groups g j group no_group other) (i.each j (omega arith))
      ];
    }
