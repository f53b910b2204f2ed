use Rattle.std.proofs.Common.{◌∙◌, List, ℕ, ap, arith}
use Rattle.jfs_bits.specs.Field.{range_of}
use Rattle.jfs_bits.proofs.Parts.{range_of-replicate}
use Rattle.jfs_iag.proofs.Carried.{control-carried}
use Rattle.jfs_imap.specs.Inodes.{is_used, extent_at}
use Rattle.jfs_format.specs.Inodes.{in_use}
use Rattle.jfs_format.specs.Volume.{extent_of, iags_of, inodes_in}
use Rattle.jfs_format.specs.Map.{place_of}
use Rattle.jfs_format.proofs.Maps.{same-in}
use Rattle.jfs_format.proofs.inode_map.fill_control.Goals as goal

pub returns : goal.returns
returns c =
    let table = c.args.table in
    let l = c.args.l in
    let m = inodes_in table l in
    record {
      size = c.write_inode_control.ensures.size;
      fields = c.control_of.result;
      held = c.write_inode_control.ensures.value;
      canonical = control-carried (in_use table) (is_used m) (place_of (extent_of table l)) (extent_at m) (iags_of table l) l.groups c.control_of.result (same-in table l) c.control_of.ensures;
      pad = c.write_inode_control.ensures.pad ∙ ap (λ (z : List ℕ). range_of z 32 2016) c.zeros.ensures ∙ range_of-replicate 4096 32 2016 0 (omega arith);
    }
