use Rattle.std.proofs.Common.{◌≡◌, ◌+◌, ◌*◌, ◌∙◌, not, true, get_or, sym}
use Rattle.jfs_bits.specs.Bits.{is_taken, any_below}
use Rattle.jfs_iag.specs.Iag.{no_run}
use Rattle.jfs_iag.specs.Canonical.{is_there}
use Rattle.jfs_iag.proofs.Maps.{and_true, word-free}
use Rattle.jfs_iag.proofs.canonical.extent_has_free.Goals as goal

pub returns-then-is_there : goal.returns-then-is_there
returns-then-is_there c =
    let there : is_there (get_or c.args.extents.now c.args.e no_run) ≡ true = sym c.is_there.ensures ∙ c.if-is_there.true in
    c.has_clear_bit.ensures
    ∙ word-free c.args.set.now c.get_u32.result c.args.e c.get_u32.ensures.value
    ∙ sym (and_true (is_there (get_or c.args.extents.now c.args.e no_run)) (any_below 32 (λ i. not (is_taken c.args.set.now (32 * c.args.e + i)))) there)
