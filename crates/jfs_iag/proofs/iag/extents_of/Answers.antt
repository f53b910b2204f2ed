use Rattle.std.proofs.Common.{◌∙◌, inl, inr, arith}
use Rattle.std.proofs.lemmas.Bool.{cases_eq}
use Rattle.std.proofs.lemmas.List.{get_or-set_same, get_or-set_other, length-set}
use Rattle.jfs_iag.specs.Iag.{no_run}
use Rattle.jfs_iag.proofs.iag.extents_of.Goals as goal

pub loop-e-preserved : goal.loop-e-preserved
loop-e-preserved c =
    let i = c.loop-e.invariant in
    let value = c.get_pxd.result in
    record {
      size = simp length-set i.size;
      value = λ j h. elim (cases_eq j c.loop-e.e) [
        | inl e ↦ rw e (get_or-set_same c.loop-e.extents c.loop-e.e value no_run (omega (arith, i.size)) ∙ c.get_pxd.ensures.value)
        | inr n ↦ get_or-set_other c.loop-e.extents c.loop-e.e j value no_run n ∙ i.value j (omega arith)
      ];
      fits = λ j h. elim (cases_eq j c.loop-e.e) [
        | inl e ↦ rw (e, get_or-set_same c.loop-e.extents c.loop-e.e value no_run (omega (arith, i.size))) c.get_pxd.ensures.fits
        | inr n ↦ rw (get_or-set_other c.loop-e.extents c.loop-e.e j value no_run n) (i.fits j (omega arith))
      ];
    }
