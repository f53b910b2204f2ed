use Rattle.std.proofs.Common.{◌*◌, ap, ◌∙◌, List, ℕ, ◌++◌, arith}
use Rattle.jfs_disk.specs.Image.{page_of}
use Rattle.jfs_readlink.specs.Target.{byte_at}
use Rattle.jfs_readlink.proofs.Bytes.{front_bytes}
use Rattle.jfs_readlink.proofs.stored.push_part.Goals as goal

pub returns-in-Ok-extend_from_slice-clause-bytes : goal.returns-in-Ok-extend_from_slice-clause-bytes
returns-in-Ok-extend_from_slice-clause-bytes g c tells =
    c.in-Ok-extend_from_slice.ensures.ok
    ∙ ap (λ (bs : List ℕ). c.args.bytes.now ++ bs) (front_bytes (byte_at (page_of (g.V.PageView.image c.args.view.now)) c.args.extents.now) (4096 * c.args.j) c.args.n c.in-Ok.part (omega (arith, c.requires))
    (λ i l. c.in-Ok.ensures.bytes tells i (omega (arith, l, c.requires))))
