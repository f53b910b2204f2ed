use Rattle.std.proofs.Common.{◌∙◌, ap}
use Rattle.jfs_core.specs.Core.{Core}
use Rattle.jfs_disk.specs.Pages.{contents}
use Rattle.jfs_core.proofs.Crashes.{crash_from_parts, crash_image}
use Rattle.jfs_core.proofs.state.CoreState.crash.Goals as goal

crash : goal.returns-clause-crash
crash c sound =
    let v = c.self.view_is in
    crash_from_parts c.args.self.now c.args.choices.now c.args.n c.self.inside.durable c.self.inside.taken c.stable_count-from.result c.deref.result.now c.deref-2.result.now
    (contents c.in_ok-image.image) sound
    (ap (λ (s : Core). s.durable) v) (ap (λ (s : Core). s.taken) v) c.stable_count-from.ensures.count
    (c.deref.ensures.value ∙ ap (λ (s : Core). s.history) v) (c.deref-2.ensures.value ∙ ap (λ (s : Core). s.blocks) v)
    c.if-n-self.false c.if-self-n.false c.in_ok-image.ensures

pub returns-clause-crash : goal.returns-clause-crash
returns-clause-crash c sound = crash c sound

pub returns-clause-image : goal.returns-clause-image
returns-clause-image c sound = crash_image c.args.self.now c.args.choices.now c.args.n (contents c.in_ok-image.image) (crash c sound)
