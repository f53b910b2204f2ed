use Rattle.std.proofs.Common.{◌≡◌, ◌-◌, ◌*◌, ◌%◌, ◌^◌, ℕ, refl, sym, ap, ◌∙◌, w8, arith}
use Rattle.std.specs.Prelude.{nat_le, if◌then◌else◌}
use Rattle.std.proofs.lemmas.Bool.{le-leb, lt-leb}
use Rattle.std.proofs.lemmas.Nat.{one_shl}
use Rattle.std.proofs.lemmas.Int.{to_z-of_z}
use Rattle.jfs_bmap.proofs.GroupNumbers.{l2-least, log-same, div_ceil-same}
use Rattle.jfs_bmap.proofs.group.map_numbers.Goals as goal
use Rattle.jfs_bmap.proofs.group.map_numbers.Goals.{then-agl2size-le23, else-agl2size-le23}

pub overflow_sub-l2_leaves : goal.overflow_sub-l2_leaves
overflow_sub-l2_leaves c = omega (arith, log-same c.ilog2-agl2size.result c.requires.power.0 c.args.agsize c.ilog2-agl2size.ensures.power_le c.ilog2-agl2size.ensures.next_power_gt c.requires.power.1, l2-least _ _ c.requires)

pub returns : goal.returns
returns c taken free agfree greatest =
    let l2 = c.ilog2-agl2size.result in
    let log = log-same l2 c.requires.power.0 c.args.agsize c.ilog2-agl2size.ensures.power_le c.ilog2-agl2size.ensures.next_power_gt c.requires.power.1 in
    let level : c.if-agl2size-le23.aglevel ≡ (if nat_le l2 23 then 0 else 1) = elim c.if-agl2size-le23.branch [
      | then-agl2size-le23 w ↦ rw (le-leb l2 23 w.if-agl2size-le23.true) w.aglevel-is
      | else-agl2size-le23 w ↦ rw (lt-leb l2 23 w.if-agl2size-le23.false) w.aglevel-is
    ] in
    record {
      mapsize = c.from.ensures;
      nfree = c.from-2.ensures ∙ free;
      l2nbperpage = refl;
      numag = c.div_ceil-numag.ensures ∙ div_ceil-same c.args.blocks c.args.agsize (omega (arith, c.requires.least));
      maxag = refl;
      maxlevel = refl;
      agpref = refl;
      shape = record {
        level = level;
        height = refl;
        width = one_shl ((l2 - 13 - 10 * c.if-agl2size-le23.aglevel) % 2) 32 (omega arith);
        start = c.first_of_level.ensures;
      };
      agl2size = c.requires.power.1 ∙ ap (λ (z : ℕ). 2 ^ z) (sym log);
      group_size = c.from-3.ensures;
      agfree = agfree;
      maxfreebud = to_z-of_z w8 c.args.maxfreebud (omega arith) ∙ greatest;
    }
