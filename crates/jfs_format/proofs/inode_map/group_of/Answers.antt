use Rattle.std.proofs.Common.{◌*◌, ◌∙◌, sym, ap, ℕ}
use Rattle.std.specs.Prelude.{◌==◌, if◌then◌else◌}
use Rattle.jfs_format.specs.Volume.{iags_of}
use Rattle.jfs_format.proofs.Maps.{group-there, group-free, group-scaled, some-iags}
use Rattle.jfs_format.proofs.inode_map.group_of.Goals as goal

pub returns : goal.returns
returns c =
    let b = c.requires.1 in
    let some = (some-iags c.requires.0 c.args.table c.args.l b).0 in
    record {
      inofree = c.first_inode.ensures;
      extfree = c.first_place.ensures;
      numinos = c.of_group.ensures ∙ group-scaled (c.args.g == 0) ∙ ap (λ (n : ℕ). 32 * n) (sym (group-there c.args.table c.args.l (iags_of c.args.table c.args.l) c.args.l.groups c.args.g some b.some_groups));
      numfree = c.of_group-2.ensures ∙ ap (λ (n : ℕ). if c.args.g == 0 then n else 0) c.free.ensures.value ∙ sym (group-free c.args.table c.args.l (iags_of c.args.table c.args.l) c.args.l.groups c.args.g some b.some_groups);
    }
