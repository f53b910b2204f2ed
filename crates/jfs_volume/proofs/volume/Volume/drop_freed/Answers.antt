use Rattle.std.proofs.Common.{inr}
use Rattle.jfs_volume.proofs.volume.Volume.drop_freed.Goals as goal

pub returns-then-dirty-freed-clause-drop : goal.returns-then-dirty-freed-clause-drop
returns-then-dirty-freed-clause-drop g c = λ seen asked told crashes half s freed. inr (c.drop_page.ensures.drop seen asked told crashes half s freed)
