use Rattle.std.proofs.Common.{◌-◌, ℕ, inl, inr, ap, ◌∙◌, arith}
use Rattle.std.specs.Prelude.{min, Some, None}
use Rattle.std.proofs.lemmas.Bool.{cases_eq}
use Rattle.std.proofs.lemmas.Nat.{one_shl}
use Rattle.std.proofs.Math.Pow.{pow_mono}
use Rattle.jfs_bmap.proofs.Reservations.{greatest-size, none-above, within-23}
use Rattle.jfs_bmap.proofs.Opened.{found-is, enough-most, none-enough}
use Rattle.jfs_bmap.proofs.block_map.BlockMap.next_run.Goals as goal

pub next_power_of_two-requires : goal.next_power_of_two-requires
next_power_of_two-requires c = omega (arith, enough-most c.self.inside c.args.self.now c.self.view_is c.self.invariant.0 c.args.left c.requires.enough)

pub loop-below-init : goal.loop-below-init
loop-below-init c k b less =
    let p = c.next_power_of_two in
    let g = c.ilog2-greatest in
    let size = greatest-size c.args.left p.result g.result p.ensures.power.0 c.requires.some p.ensures.power.1 p.ensures.lower_bound p.ensures.upper_bound g.ensures.power_le g.ensures.next_power_gt in
    absurd (none-above c.args.left c.ilog2-greatest.result k size.1 (omega arith) less)

pub find-requires : goal.find-requires
find-requires c =
    let p = c.next_power_of_two in
    let g = c.ilog2-greatest in
    let size = greatest-size c.args.left p.result g.result p.ensures.power.0 c.requires.some p.ensures.power.1 p.ensures.lower_bound p.ensures.upper_bound g.ensures.power_le g.ensures.next_power_gt in
    let m = enough-most c.self.inside c.args.self.now c.self.view_is c.self.invariant.0 c.args.left c.requires.enough in
    omega (arith, within-23 c.args.left g.result m size.0)

pub returns-in-Some : goal.returns-in-Some
returns-in-Some c =
    let p = c.next_power_of_two in
    let g = c.ilog2-greatest in
    let size = greatest-size c.args.left p.result g.result p.ensures.power.0 c.requires.some p.ensures.power.1 p.ensures.lower_bound p.ensures.upper_bound g.ensures.power_le g.ensures.next_power_gt in
    let l2 = g.result - c.loop-below.below in
    record {
      l2 = l2;
      size = omega (arith, pow_mono {i = l2} {j = g.result} (omega arith), size.0);
      lowest = rw c.from.ensures (found-is c.self.inside c.args.self.now c.self.view_is c.self.invariant.0 l2 (Some c.in-Some.first) c.in-Some.ensures);
      none_greater = λ k b h. found-is c.self.inside c.args.self.now c.self.view_is c.self.invariant.0 k None (c.loop-below.invariant k (omega arith) h);
      len = c.min.ensures ∙ ap (λ (z : ℕ). min c.args.left z) (one_shl l2 32 (omega (arith, g.ensures.bound)));
    }

pub loop-below-preserved : goal.loop-below-preserved
loop-below-preserved c k b less = elim (cases_eq k (c.ilog2-greatest.result - c.loop-below.below)) [
  | inl e ↦ rw e c.in_default.ensures
  | inr n ↦ c.loop-below.invariant k (omega arith) less
]

pub unreachable-requires : goal.unreachable-requires
unreachable-requires c =
    let none = c.loop-below.invariant 0 (omega arith) (omega (arith, c.requires.some)) in
    omega (arith, c.requires.some, none-enough c.self.inside c.args.self.now c.self.view_is c.self.invariant.0 c.args.left c.requires.enough none)
