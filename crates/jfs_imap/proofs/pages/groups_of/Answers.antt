use Rattle.std.proofs.Common.{◌*◌, ◌/◌, ◌%◌, ◌&&◌, ℕ, inl, inr, get_or, ap, arith}
use Rattle.std.specs.Prelude.{◌==◌}
use Rattle.std.proofs.lemmas.Bool.{cases_eq}
use Rattle.std.proofs.lemmas.List.{get_or-set_same, get_or-set_other, length-set}
use Rattle.jfs_bits.specs.Bits.{is_taken}
use Rattle.jfs_bits.proofs.Counts.{count_below-most}
use Rattle.jfs_iag.specs.declared.control.InodeGroup.{InodeGroup}
use Rattle.jfs_iag.specs.Iag.{no_run}
use Rattle.jfs_iag.specs.Control.{no_group}
use Rattle.jfs_iag.specs.Canonical.{is_there, in_inode_list, in_place_list}
use Rattle.jfs_iag.proofs.Carried.{next-carried}
use Rattle.jfs_imap.specs.Lists.{is_listed}
use Rattle.jfs_imap.proofs.Listed.{inode-marks, place-marks}
use Rattle.jfs_imap.proofs.pages.groups_of.Goals as goal

pub overflow_mul-groups : goal.overflow_mul-groups
overflow_mul-groups c =
    let g = c.loop-g.g in
    omega (arith, c.extents_by_group-there.ensures.counts g (omega arith), count_below-most (128 * c.args.iags) (λ (e : ℕ). is_there (get_or c.args.extents.now e no_run) && e / 128 % c.args.numag == g), c.requires.most)

pub loop-g-preserved : goal.loop-g-preserved
loop-g-preserved c =
    let i = c.loop-g.invariant in
    let g = c.loop-g.g in
    let size = i.size in
    let extent = λ (e : ℕ). get_or c.args.extents.now e no_run in
    let group : InodeGroup = record { inofree = c.next_in.result; extfree = c.next_in-in-loop-g.result; numinos = 32 * get_or c.extents_by_group-there.result g 0; numfree = get_or c.free_by_group-free_inodes.result g 0 } in
    record {
      size = simp length-set i.size;
      each = λ j h. elim (cases_eq j g) [
        | inl same ↦ rw (same, get_or-set_same c.loop-g.groups g group no_group (omega arith)) (record {
          inofree = next-carried (is_listed c.args.free.now c.args.numag g) (in_inode_list (is_taken c.args.set.now) extent c.args.numag g) c.args.iags 0 c.next_in.result (λ k b. inode-marks c.args.iags c.args.numag c.args.set.now c.args.extents.now c.args.free.now c.args.places.now g k c.requires b) c.next_in.ensures;
          extfree = next-carried (is_listed c.args.places.now c.args.numag g) (in_place_list extent c.args.numag g) c.args.iags 0 c.next_in-in-loop-g.result (λ k b. place-marks c.args.iags c.args.numag c.args.set.now c.args.extents.now c.args.free.now c.args.places.now g k c.requires b) c.next_in-in-loop-g.ensures;
          numinos = ap (λ (z : ℕ). 32 * z) (c.extents_by_group-there.ensures.counts g (omega arith));
          numfree = c.free_by_group-free_inodes.ensures.counts g (omega arith);
        })
        | inr other ↦ rw (get_or-set_other c.loop-g.groups g j group no_group other) (i.each j (omega arith))
      ];
    }
