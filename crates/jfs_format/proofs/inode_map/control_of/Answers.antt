use Rattle.std.proofs.Common.{◌*◌, ◌∙◌, refl, sym, ap, ℕ, arith}
use Rattle.jfs_format.specs.Volume.{iags_of}
use Rattle.jfs_format.proofs.Maps.{count-there, count-free, some-iags}
use Rattle.jfs_format.proofs.inode_map.control_of.Goals as goal

pub returns : goal.returns
returns c =
    let some = (some-iags c.requires.0 c.args.table c.args.l c.requires.1).0 in
    record {
      freeiag = refl;
      nextiag = c.iags.ensures;
      numinos = ap (λ (n : ℕ). 32 * n) (sym (count-there c.args.table c.args.l (128 * iags_of c.args.table c.args.l) (omega (arith, some))));
      numfree = c.free.ensures.value ∙ sym (count-free c.args.table c.args.l (4096 * iags_of c.args.table c.args.l) (omega (arith, some)));
      nbperiext = refl;
      l2nbperiext = refl;
      diskblock = refl;
      maxag = refl;
      groups = c.groups_of.ensures;
    }
