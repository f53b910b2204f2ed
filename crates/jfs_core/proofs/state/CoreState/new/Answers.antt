use Rattle.std.proofs.Common.{◌≡◌, ◌<◌, ◌^◌, List, sym, ap, subst, refl, length, arith}
use Rattle.std.proofs.lemmas.List.{length-map}
use Rattle.std.proofs.lemmas.Grind.{common_steps}
use Rattle.jfs_disk.specs.declared.page.Page.{Page}
use Rattle.jfs_core.specs.Core.{Core}
use Rattle.jfs_disk.specs.Pages.{contents}
use Rattle.jfs_core.specs.Sound.{IsSound}
use Rattle.jfs_core.proofs.Mounting.{core_mounted, AreMounted-page}
use Rattle.jfs_core.proofs.Steps.{sound_fresh}
use Rattle.jfs_core.proofs.state.CoreState.new.Goals as goal

is_fresh : goal.returns-clause-fresh
is_fresh c =
    let size : length (contents c.args.low.now) ≡ length c.args.low.now = length-map c.args.low.now (λ (p : Page). p.0) in
    core_mounted (contents c.args.low.now) c.loop-page.page-index (contents c.loop-page.mounted) c.loop-page.slots.items c.new.result.items c.push.new.self.items (let all = ap (λ (ps : List Page). length ps) c.as_slice-page-items.ensures in omega (arith, size)) c.loop-page.invariant c.new.ensures.items (grind (arith, common_steps))

pub returns-clause-fresh : goal.returns-clause-fresh
returns-clause-fresh c = is_fresh c

pub returns-clause-sound : goal.returns-clause-sound
returns-clause-sound c =
    let image = contents c.args.low.now in
    let size : length image ≡ length c.args.low.now = length-map c.args.low.now (λ (p : Page). p.0) in
    let few : length image < 2 ^ 32 = omega (arith, size, c.requires) in
    subst (λ (core : Core). IsSound core) (sym (is_fresh c))
    (sound_fresh image (record { number = refl; sizes = λ n l. let all = ap (λ (ps : List Page). length ps) c.as_slice-page-items.ensures in c.loop-page.invariant.sizes n (omega (arith, size)) }) few)

pub loop-page-preserved : goal.loop-page-preserved
loop-page-preserved c =
    AreMounted-page c.args.low.now c.as_slice-page-items.result.now c.loop-page.page-index _ (contents c.loop-page.mounted) (contents c.mount_page.new.mounted) c.loop-page.slots.items c.mount_page.new.slots.items
    c.as_slice-page-items.ensures c.loop-page-test.true c.loop-page.invariant c.in_ok-mount_page.ensures.mounted c.in_ok-mount_page.ensures.slots c.mount_page.ensures.size
