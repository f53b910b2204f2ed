use Rattle.std.proofs.Common.{◌<◌, ◌∙◌, sym, ap, subst, arith, Ok}
use Rattle.jfs_bits.specs.Bits.{is_taken}
use Rattle.jfs_disk.specs.Image.{Image, page_of}
use Rattle.jfs_records.specs.Redo.{all_of}
use Rattle.jfs_redo_steps.specs.steps.specs.After.{extents_after}
use Rattle.jfs_mount_maps.specs.sets.specs.Sets.{AreUsedBlocks}
use Rattle.jfs_mount_maps.specs.mount_rules.specs.Subject.{subject_of, volume}
use Rattle.jfs_mount_maps.specs.mount_rules.specs.Steps.{AreRead, HasMaps}
use Rattle.jfs_redo.proofs.Places.{used-alone}
use Rattle.jfs_redo.proofs.plan.make_plan.Goals as goal

pub returns-in-Ok-plan_with-clause-plans : goal.returns-in-Ok-plan_with-clause-plans
returns-in-Ok-plan_with-clause-plans g c tells s same =
    let image = g.V.PageView.image c.args.view.now in
    let subject = subject_of s (page_of image) in
    let all = all_of c.args.transactions.now in
    let has : HasMaps subject (Ok c.in-Ok.found) = subst (HasMaps subject) c.in-Ok.is (c.in_ok-found.ensures.files tells s same) in
    let used : AreUsedBlocks image c.in-Ok.found.maps c.in_ok-used.used.items =
    subst (λ (i : Image). AreUsedBlocks i c.in-Ok.found.maps c.in_ok-used.used.items) (c.in_ok-found.ensures.image tells) (c.in_ok-used.ensures.used tells) in
    let done = c.in-Ok-plan_with.ensures in
    record {
      unbroken = has.1;
      read = subst (AreRead subject) (sym done.maps) has.0;
      used = λ b low.
          let within : b < c.in-Ok.found.maps.blocks = omega (arith, low, done.plan.number) in
          done.used b within ∙ used-alone all (is_taken c.in_ok-used.used.items) (volume subject).used b (used s has.0 b within);
      places = done.places ∙ ap (extents_after all) has.2;
    }
