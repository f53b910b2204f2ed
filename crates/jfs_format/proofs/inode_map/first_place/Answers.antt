use Rattle.std.proofs.Common.{inl, inr, arith}
use Rattle.std.proofs.lemmas.Bool.{cases_lt}
use Rattle.jfs_format.specs.Volume.{iags_of}
use Rattle.jfs_format.proofs.Maps.{first-place, some-iags}
use Rattle.jfs_format.proofs.inode_map.first_place.Goals as goal

pub returns-then-g-min : goal.returns-then-g-min
returns-then-g-min c =
    let b = c.requires.1 in
    (first-place c.args.table c.args.l (iags_of c.args.table c.args.l) c.args.l.groups c.args.g (some-iags c.requires.0 c.args.table c.args.l b).0 b.some_groups).0
    (omega (arith, c.if-g-min.true, c.min.ensures)) (omega (arith, c.if-g-min.true, c.min.ensures, c.iags.ensures))

pub returns-else-g-min : goal.returns-else-g-min
returns-else-g-min c =
    let b = c.requires.1 in
    (first-place c.args.table c.args.l (iags_of c.args.table c.args.l) c.args.l.groups c.args.g (some-iags c.requires.0 c.args.table c.args.l b).0 b.some_groups).1
    (elim (cases_lt c.args.g c.args.l.groups) [
      | inl h ↦ inr (omega (arith, c.if-g-min.false, c.min.ensures, c.iags.ensures, h))
      | inr h ↦ inl h
    ])
