use Rattle.std.proofs.Common.{◌+◌, ◌-◌, ◌∙◌, sym, arith}
use Rattle.jfs_plain.proofs.Splice.{bytes_more, bytes_none}
use Rattle.jfs_image.specs.View.{image_of}
use Rattle.jfs_image.specs.Held.{byte_in_file}
use Rattle.jfs_image.proofs.content.stored_bytes.Goals as goal

pub loop-i-preserved : goal.loop-i-preserved
loop-i-preserved c =
    rw (c.in_ok-push.ensures.items, c.stored_byte.ensures)
    (bytes_more (byte_in_file (image_of c.args.view.now) c.args.extents.now) c.loop-i.bytes.items c.loop-i.i (c.loop-i.i + 1) (c.args.count - c.loop-i.i) (c.args.count - (c.loop-i.i + 1)) (omega arith) (omega (arith, c.loop-i-test.true))
    ∙ c.loop-i.invariant)

pub returns : goal.returns
returns c = sym (bytes_none (byte_in_file (image_of c.args.view.now) c.args.extents.now) c.loop-i.bytes.items c.loop-i.i (c.args.count - c.loop-i.i) (omega (arith, c.loop-i-test.false))) ∙ c.loop-i.invariant
