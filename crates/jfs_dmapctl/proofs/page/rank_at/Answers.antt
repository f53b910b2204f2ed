use Rattle.std.specs.Prelude.{pos, negsuc}
use Rattle.std.proofs.lemmas.List.{get_or_default}
use Rattle.jfs_dmapctl.specs.Control.{value_at}
use Rattle.jfs_dmapctl.proofs.Values.{value-read}
use Rattle.jfs_dmapctl.proofs.page.rank_at.Goals as goal

pub returns : goal.returns
returns c =
    let same = get_or_default c.args.leaves.now c.args.v (pos 0) (negsuc 0) c.requires.within in
    rw (same, value-read c.args.level (value_at c.args.leaves.now c.args.v) c.requires.level (c.requires.values c.args.v)) at c.rank_of_value.ensures
