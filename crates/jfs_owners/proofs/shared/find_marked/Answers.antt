use Rattle.std.proofs.Common.{◌<◌, refl, sym, ◌∙◌, ◌+◌, ◌-◌, ◌*◌, arith}
use Rattle.std.specs.Prelude.{min}
use Rattle.jfs_owners.proofs.Gained.{with_word, no_word}
use Rattle.jfs_owners.proofs.shared.find_marked.Goals as goal
use Rattle.jfs_owners.proofs.shared.find_marked.Goals.{then-get_u32-ne0+in_ok-find_from, else-get_u32-ne0}

pub loop-w-preserved : goal.loop-w-preserved
loop-w-preserved c =
    let l : 32 * c.loop-w.w < c.args.blocks = (let d = c.div_ceil-w-end.ensures in let t = c.loop-w-test.true in omega (arith, d, t)) in
    elim c.if-get_u32-ne0.branch [
      | then-get_u32-ne0+in_ok-find_from w ↦ rw w.findings-is
          (with_word c.args.set.now c.loop-w.w c.args.blocks c.args.findings.now.items c.loop-w.findings.items w.find_from.new.findings.items l c.loop-w.invariant (rw w.min.ensures at w.in_ok-find_from.ensures))
      | else-get_u32-ne0 w ↦ rw w.findings-is
          (with_word c.args.set.now c.loop-w.w c.args.blocks c.args.findings.now.items c.loop-w.findings.items c.loop-w.findings.items l c.loop-w.invariant
          (no_word c.args.set.now c.loop-w.w (32 * c.loop-w.w) (32 * c.loop-w.w + min (c.args.blocks - 32 * c.loop-w.w) 32) c.loop-w.findings.items refl (omega arith) (sym c.get_u32.ensures.value ∙ w.if-get_u32-ne0.false)))
    ]
