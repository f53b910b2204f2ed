use Rattle.std.proofs.Common.{◌∙◌, inl, inr, arith}
use Rattle.std.proofs.lemmas.Bool.{cases_eq}
use Rattle.std.proofs.lemmas.List.{get_or-set_same, get_or-set_other, length-set}
use Rattle.jfs_dmapctl.proofs.map_control.groups_of.Goals as goal

pub loop-k-preserved : goal.loop-k-preserved
loop-k-preserved c =
    let i = c.loop-k.invariant in
    let value = c.get_u64.result in
    record {
      size = simp length-set i.size;
      counts = λ j h. elim (cases_eq j c.loop-k.k) [
        | inl e ↦ rw e (get_or-set_same c.loop-k.groups c.loop-k.k value 0 (omega (arith, i.size)) ∙ c.get_u64.ensures.value)
        | inr n ↦ get_or-set_other c.loop-k.groups c.loop-k.k j value 0 n ∙ i.counts j (omega arith)
      ];
    }
