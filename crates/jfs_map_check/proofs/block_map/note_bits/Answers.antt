use Rattle.std.proofs.Common.{◌≡◌, ◌*◌, arith}
use Rattle.std.specs.Prelude.{min}
use Rattle.jfs_bits.proofs.Parts.{part-is}
use Rattle.jfs_map_check.proofs.Noted.{no_bits, word_more, bits_of}
use Rattle.jfs_map_check.proofs.block_map.note_bits.Goals as goal

pub loop-w-init : goal.loop-w-init
loop-w-init c = no_bits _ _ _ _ _ _ _ (omega arith)

pub loop-w-preserved : goal.loop-w-preserved
loop-w-preserved c = word_more _ _ _ _ c.loop-w.w c.args.count _ _ _ c.loop-w.invariant c.in_ok-note_word.ensures

pub returns : goal.returns
returns c =
    let end : min (32 * c.loop-w.w) c.args.count ≡ c.args.count = omega arith in
    bits_of _ _ _ _ _ _ _ _ _ _ (part-is c.args.page.now.0 3072 1024) (part-is c.args.canonical.now.0 3072 1024) end c.loop-w.invariant
