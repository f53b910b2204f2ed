use Rattle.std.proofs.Common.{◌≡◌, sym, ◌∙◌, subst, ℕ, ◌+◌, arith}
use Rattle.jfs_findings.specs.Gains.{Gains}
use Rattle.jfs_owners.specs.Shared.{IsMarked}
use Rattle.jfs_owners.proofs.Gained.{with_block, past_block}
use Rattle.jfs_owners.proofs.shared.find_from.Goals as goal
use Rattle.jfs_owners.proofs.shared.find_from.Goals.{then-bit+in_ok-push, else-bit}

pub loop-b-preserved : goal.loop-b-preserved
loop-b-preserved c = elim c.if-bit.branch [
  | then-bit+in_ok-push w ↦ rw (w.findings-is, w.in_ok-push.ensures.items, w.from.ensures)
      (with_block c.args.set.now c.args.first c.loop-b.b c.args.findings.now.items c.loop-b.findings.items (omega arith) (sym c.bit.ensures ∙ w.if-bit.true) c.loop-b.invariant)
  | else-bit w ↦ rw w.findings-is (past_block c.args.set.now c.args.first c.loop-b.b c.args.findings.now.items c.loop-b.findings.items (omega arith) (sym c.bit.ensures ∙ w.if-bit.false) c.loop-b.invariant)
]

pub returns : goal.returns
returns c =
    let end : c.loop-b.b ≡ c.args.first + c.args.n = omega arith in
    subst (λ (m : ℕ). Gains (IsMarked c.args.set.now c.args.first m) c.args.findings.now.items c.loop-b.findings.items) end c.loop-b.invariant
