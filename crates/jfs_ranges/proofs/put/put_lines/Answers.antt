use Rattle.std.proofs.Common.{◌≡◌, ◌∙◌, ◌*◌, ◌-◌, length, sym, inl, inr, arith}
use Rattle.jfs_ranges.proofs.Overlaid.{overlaid-none, overlaid-piece}
use Rattle.jfs_ranges.proofs.put.put_lines.Goals as goal
use Rattle.jfs_ranges.proofs.put.put_lines.Goals.{then-from-ge4096-via-then-from-ge4096, then-from-ge4096-via-else-from-ge4096+then-passed-bytes}

pub returns-then-from-ge4096 : goal.returns-then-from-ge4096
returns-then-from-ge4096 c =
    let size : length c.args.page.now.0 ≡ 4096 = omega arith in
    elim c.then-from-ge4096.branch [
      | then-from-ge4096-via-then-from-ge4096 w ↦ sym (overlaid-none c.args.at c.args.bytes.now (4096 * c.args.n) c.args.page.now.0 (inl (omega (arith, w.if-from-ge4096.true))))
      | then-from-ge4096-via-else-from-ge4096+then-passed-bytes w ↦ sym (overlaid-none c.args.at c.args.bytes.now (4096 * c.args.n) c.args.page.now.0 (inr (omega (arith, w.if-passed-bytes.true))))
    ]

pub returns : goal.returns
returns c =
    let size : length c.args.page.now.0 ≡ 4096 = omega arith in
    c.put_slice.ensures ∙ (rw c.piece_of-piece.ensures
    (overlaid-piece c.args.at c.args.bytes.now (4096 * c.args.n) c.saturating_sub-from.result c.saturating_sub-passed.result (4096 - c.saturating_sub-from.result) c.args.page.now.0
    (omega arith) (omega arith) (omega arith) (omega arith) (omega arith)))
