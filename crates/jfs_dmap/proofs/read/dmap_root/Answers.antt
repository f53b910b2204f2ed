use Rattle.std.proofs.Common.{◌∙◌, ap, to_z, w8, arith}
use Rattle.std.proofs.lemmas.Int.{to_z-of_z}
use Rattle.jfs_dmap.proofs.Roots.{root-value}
use Rattle.jfs_dmap.proofs.read.dmap_root.Goals as goal

pub returns : goal.returns
returns c =
    to_z-of_z w8 c.cast_signed.result (omega arith)
    ∙ c.cast_signed.ensures
    ∙ ap (to_z w8) c.get_u8.ensures.value
    ∙ root-value c.args.page.now.0 c.requires (omega arith)
