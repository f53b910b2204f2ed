use Rattle.std.proofs.Common.{◌≡◌, ◌∙◌, ◌+◌, ◌-◌, ap, sym, rules, arith, Ok, min}
use Rattle.jfs_plain.specs.declared.reply.Reply.TheVariants.{Bytes}
use Rattle.jfs_plain.specs.Step.{bytes_from}
use Rattle.jfs_plain.specs.Plain.{byte_at, tree_of}
use Rattle.jfs_plain.proofs.Chained.{same, then_ok}
use Rattle.jfs_plain.proofs.Splice.{bytes_more, bytes_none}
use Rattle.jfs_plain.proofs.plain.PlainTree.read.Goals as goal

pub loop-i-preserved : goal.loop-i-preserved
loop-i-preserved c =
    rw (c.in_ok-push.ensures.ok, c.byte.ensures)
    (bytes_more (byte_at c.args.self.now c.in_ok-n.n) c.loop-i.bytes (c.args.offset + c.loop-i.i) (c.args.offset + (c.loop-i.i + 1)) (c.min-count.result - c.loop-i.i) (c.min-count.result - (c.loop-i.i + 1)) (omega arith) (omega (arith, c.loop-i-test.true))
    ∙ c.loop-i.invariant)

pub returns : goal.returns
returns c =
    let count : c.min-count.result ≡ min c.args.count (c.in_ok-n.node.now.size - c.args.offset) = search rules in
    let f = byte_at c.args.self.now c.in_ok-n.n in
    let all : c.loop-i.bytes ≡ bytes_from f c.args.offset (min c.args.count (c.in_ok-n.node.now.size - c.args.offset)) =
    sym (bytes_none f c.loop-i.bytes (c.args.offset + c.loop-i.i) (c.min-count.result - c.loop-i.i) (omega (arith, c.loop-i-test.false))) ∙ c.loop-i.invariant ∙ ap (λ (k : _). bytes_from f c.args.offset k) count in
    (_, then_ok _ c.in_ok-n.ensures.ok ∙ ap (λ x. Ok (Bytes x, tree_of c.args.self.now)) (sym all), same _)
