use Rattle.std.proofs.Common.{◌≡◌, ◌*◌, ◌+◌, subst, arith}
use Rattle.std.specs.Prelude.{min, ℕ}
use Rattle.jfs_findings.specs.Gains.{Gains}
use Rattle.jfs_map_check.specs.Found.{IsOtherBit}
use Rattle.jfs_map_check.proofs.Noted.{no_bits, word_same, bit_more}
use Rattle.jfs_map_check.proofs.block_map.note_word.Goals as goal

pub returns-then-same_word : goal.returns-then-same_word
returns-then-same_word c = word_same c.args.k c.args.n c.args.have.now c.args.want.now c.args.w (min (32 * c.args.w + 32) c.args.count) c.args.findings.now.items (omega arith) (c.same_word.ensures.0 c.if-same_word.true)

pub loop-i-init : goal.loop-i-init
loop-i-init c = no_bits c.args.k c.args.n c.args.have.now c.args.want.now (32 * c.args.w) (32 * c.args.w) c.args.findings.now.items (omega arith)

pub loop-i-preserved : goal.loop-i-preserved
loop-i-preserved c = bit_more _ _ _ _ _ _ _ _ _ (omega arith) c.loop-i.invariant c.in_ok-note_bit.ensures

pub returns : goal.returns
returns c =
    let end : c.loop-i.i ≡ min (32 * c.args.w + 32) c.args.count = omega arith in
    subst (λ (z : ℕ). Gains (IsOtherBit c.args.k c.args.n c.args.have.now c.args.want.now (32 * c.args.w) z) c.args.findings.now.items c.loop-i.findings.items) end c.loop-i.invariant
