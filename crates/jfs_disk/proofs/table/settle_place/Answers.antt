use Rattle.std.proofs.Common.{ap, sym, ◌∙◌}
use Rattle.std.specs.Prelude.{replicate}
use Rattle.jfs_disk.specs.Crash.{PageHistory, resting}
use Rattle.jfs_disk.specs.Table.{page_in}
use Rattle.jfs_disk.specs.Settled.{settled_by}
use Rattle.jfs_disk.proofs.Crashed.{left_by-resting}
use Rattle.jfs_disk.proofs.table.settle_place.Goals as goal

pub returns-in-None : goal.returns-in-None
returns-in-None c =
    ap page_in c.in-None.is
    ∙ sym (ap resting (left_by-resting c.args.choice (replicate 4096 0)))
    ∙ sym (ap (λ (page : PageHistory). settled_by c.args.choice page) (ap page_in c.in-None.is))
