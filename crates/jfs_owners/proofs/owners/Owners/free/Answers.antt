use Rattle.std.proofs.Common.{◌≡◌, ◌-◌, not, refl, arith}
use Rattle.jfs_bits.specs.Bits.{is_taken, count_below}
use Rattle.jfs_bits.proofs.Counts.{count_below-most}
use Rattle.jfs_owners.proofs.SetBits.{free_left, free_told}
use Rattle.jfs_owners.proofs.owners.Owners.free.Goals as goal

pub overflow_sub-result : goal.overflow_sub-result
overflow_sub-result c = omega (arith, c.count_taken.ensures, count_below-most c.self.inside.blocks (is_taken c.as_slice.result.now))

pub returns : goal.returns
returns c =
    let left : c.self.inside.blocks - c.count_taken.result ≡ count_below c.args.self.now.blocks (λ b. not (is_taken c.args.self.now.owned b)) =
    free_left c.args.self.now (record { blocks = c.self.inside.blocks; owned = c.self.inside.owned.items; shared = c.self.inside.shared.items }) c.as_slice.result.now c.self.inside.blocks c.count_taken.result
    c.self.view_is c.as_slice.ensures.value refl c.count_taken.ensures in
    record { counts = free_told c.args.self.now (c.self.inside.blocks - c.count_taken.result) left; plain = left }
