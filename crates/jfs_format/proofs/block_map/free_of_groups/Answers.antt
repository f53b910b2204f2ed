use Rattle.std.proofs.Common.{◌∙◌, inl, inr, arith}
use Rattle.std.proofs.lemmas.Bool.{cases_eq}
use Rattle.std.proofs.lemmas.List.{get_or-set_same, get_or-set_other, length-set}
use Rattle.jfs_format.proofs.block_map.free_of_groups.Goals as goal

pub loop-g-preserved : goal.loop-g-preserved
loop-g-preserved c =
    let i = c.loop-g.invariant in
    let g = c.loop-g.g in
    let size = i.size in
    let free = c.from.result in
    record {
      size = simp length-set i.size;
      each = λ j h. elim (cases_eq j g) [
        | inl same ↦ rw (same, get_or-set_same c.loop-g.groups g free 0 (omega arith)) (c.from.ensures ∙ c.free_from.ensures.count)
        | inr other ↦ rw (get_or-set_other c.loop-g.groups g j free 0 other) (i.each j (omega arith))
      ];
    }
