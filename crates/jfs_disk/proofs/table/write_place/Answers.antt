use Rattle.std.proofs.Common.{ap, sym, ◌∙◌}
use Rattle.jfs_disk.specs.Crash.{PageHistory, resting}
use Rattle.jfs_disk.specs.Put.{page_after}
use Rattle.jfs_disk.specs.Slot.{history_in}
use Rattle.jfs_disk.specs.Table.{page_in}
use Rattle.jfs_disk.proofs.table.write_place.Goals as goal

pub returns-in_ok-new-in-None-clause-ok : goal.returns-in_ok-new-in-None-clause-ok
returns-in_ok-new-in-None-clause-ok c =
    ap history_in c.in_ok-new-in-None.ensures.ok ∙ c.in_ok-write_slot-in-None.ensures.ok
    ∙ ap (λ (page : PageHistory). page_after c.args.fails c.args.from.now.0 page) (c.in_ok-slot-in-None.ensures ∙ ap resting c.zeros.ensures ∙ sym (ap page_in c.in-None.is))
