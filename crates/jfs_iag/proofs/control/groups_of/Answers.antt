use Rattle.std.proofs.Common.{◌∙◌, inl, inr, arith}
use Rattle.std.proofs.lemmas.Bool.{cases_eq}
use Rattle.std.proofs.lemmas.List.{get_or-set_same, get_or-set_other, length-set}
use Rattle.jfs_iag.specs.Control.{no_group}
use Rattle.jfs_iag.proofs.control.groups_of.Goals as goal

pub loop-g-preserved : goal.loop-g-preserved
loop-g-preserved c =
    let i = c.loop-g.invariant in
    let value = c.group_of.result in
    record {
      size = simp length-set i.size;
      value = λ j h. elim (cases_eq j c.loop-g.g) [
        | inl e ↦ rw e (get_or-set_same c.loop-g.groups c.loop-g.g value no_group (omega (arith, i.size)) ∙ c.group_of.ensures)
        | inr n ↦ get_or-set_other c.loop-g.groups c.loop-g.g j value no_group n ∙ i.value j (omega arith)
      ];
    }
