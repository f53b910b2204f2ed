use Rattle.std.proofs.Common.{◌≡◌, ◌+◌, ◌*◌, ◌∙◌, ℕ, List, length, ap, arith}
use Rattle.std.specs.Prelude.{replicate}
use Rattle.jfs_bits.specs.Field.{range_of}
use Rattle.jfs_buddy.proofs.Parts.{range_of-replicate}
use Rattle.jfs_dmapctl.specs.Control.{whole_of}
use Rattle.jfs_dmapctl.proofs.Heads.{Head, head-put, head-stays}
use Rattle.jfs_dmapctl.proofs.page.ctl_canonical.Goals as goal

zeros : (page : List ℕ) (size : ℕ) → page ≡ replicate size 0 → size ≡ 4096 → range_of page 1382 2714 ≡ replicate 2714 0
zeros page size e n = ap (λ (z : List ℕ). range_of z 1382 2714) e ∙ range_of-replicate size 1382 2714 0 (omega arith)

pub returns : goal.returns
returns c =
    let size : length c.fill.new.self ≡ 4096 = omega arith in
    let level = c.requires.level in
    let first : Head c.args.level c.fill.new.self c.put_head.new.bytes = rw c.put_head.ensures (head-put c.args.level c.fill.new.self size level) in
    let second = head-stays c.args.level c.fill.new.self c.put_head.new.bytes c.clear.new.bytes first (omega (arith, size)) c.clear.ensures.stays in
    let h = head-stays c.args.level c.fill.new.self c.clear.new.bytes c.put_leaves.new.bytes second (omega (arith, size)) c.put_leaves.ensures.stays in
    let whole : 14 + 10 * c.args.level ≡ whole_of c.args.level + 1 = omega arith in
    record {
      size = h.size;
      known = level;
      leaves = h.leaves;
      l2_leaves = h.l2_leaves;
      first_leaf = h.first_leaf;
      height = h.height;
      whole = h.whole;
      tree = c.put_leaves.ensures.tree (rw whole at (c.clear.ensures.tree (omega arith)));
      pad = h.pad ∙ zeros c.fill.new.self (length c.args.page.now.0) (c.fill.ensures.after (λ y h. h)) (omega arith);
    }
