use Rattle.std.proofs.Common.{◌∙◌, ap, subst}
use Rattle.jfs_core.specs.Core.{Core, IsInBounds}
use Rattle.jfs_disk.specs.Pages.{contents}
use Rattle.jfs_core.proofs.Pages.{told_from_parts}
use Rattle.jfs_core.proofs.state.CoreState.told_page.Goals as goal

pub returns : goal.returns
returns c =
    let v = c.self.view_is in
    told_from_parts c.args.self.now c.args.page c.self.inside.told c.deref.result.now (contents c.self.inside.mounted) c.copy_at-bytes.result.0 c.replay.new.page.0
    (subst (λ (s : Core). IsInBounds s) v c.self.invariant) c.requires
    (ap (λ (s : Core). s.told) v) (c.deref.ensures.value ∙ ap (λ (s : Core). s.history) v) (ap (λ (s : Core). s.mounted) v) c.copy_at-bytes.ensures c.replay.ensures
