use Rattle.std.proofs.lemmas.Bool.{eq-eqb, ne_eqb}
use Rattle.jfs_format.specs.Volume.{iags_of}
use Rattle.jfs_format.proofs.Maps.{first-inode, some-iags}
use Rattle.jfs_format.proofs.inode_map.first_inode.Goals as goal

pub returns-then-g-eq0 : goal.returns-then-g-eq0
returns-then-g-eq0 c =
    let b = c.requires.1 in
    rw (eq-eqb c.args.g 0 c.if-g-eq0.true) at (first-inode c.args.table c.args.l (iags_of c.args.table c.args.l) c.args.l.groups c.args.g (some-iags c.requires.0 c.args.table c.args.l b).0 b.some_groups)

pub returns-else-g-eq0 : goal.returns-else-g-eq0
returns-else-g-eq0 c =
    let b = c.requires.1 in
    rw (ne_eqb c.args.g 0 c.if-g-eq0.false) at (first-inode c.args.table c.args.l (iags_of c.args.table c.args.l) c.args.l.groups c.args.g (some-iags c.requires.0 c.args.table c.args.l b).0 b.some_groups)
