-- What the rules say of a superblock that breaks none.
use Rattle.std.proofs.Common.{◌≡◌, ◌≤◌, ◌<◌, ◌+◌, ◌*◌, ◌%◌, ◌^◌, ℕ, Bool, true, false, count_ones, refl, arith}
use Rattle.std.specs.Prelude.{nat_le, ◌==◌, ◌&&◌}
use Rattle.std.specs.Int.{div_ceil, is_power_of_two}
use Rattle.std.proofs.lemmas.Bool.{eqb-true, leb-true}
use Rattle.std.proofs.lemmas.Grind.{div_ceil_times}
use Rattle.std.proofs.Math.Nat.{mul-le-mul_right}
use Rattle.jfs_bits.specs.declared.rule.Rule.TheVariants as rules
use Rattle.jfs_bits.specs.Broken.{Row}
use Rattle.jfs_bits.proofs.Broken.{each_holds}
use Rattle.jfs_super.specs.declared.fields.Super.{Super}
use Rattle.jfs_super.specs.declared.read.BadSuper.{BadSuper}
use Rattle.jfs_super.specs.Rules.{rows, shape_rows, flag_rows, size_rows, log_rows, blocks_of, ends_within, IsAccepted}
use Rattle.jfs_super.specs.Geometry.{geometry_of, IsLayout}
use Rattle.jfs_super.proofs.Powers.{power_from_one}

both : (a b : Bool) → (a && b) ≡ true → (a ≡ true) × (b ≡ true)
both true true e = (refl, refl)
both true false e = absurd cc
both false b e = absurd cc

-- so many groups hold so many times the blocks of one
within_groups : (blocks group most : ℕ) → 0 < group → div_ceil blocks group ≤ most → blocks ≤ most * group
within_groups blocks group most some few =
    let fits = div_ceil_times blocks group some in
    let all : div_ceil blocks group * group ≤ most * group = mul-le-mul_right group few in
    omega arith

-- what an accepted superblock says of its layout
pub accepted_layout : (s : Super) (pages : ℕ) → IsAccepted s pages → IsLayout (geometry_of s)
unfolding rows shape_rows flag_rows size_rows log_rows
accepted_layout s pages h =
    let fine : Row BadSuper = record { answer = record { rule = rules.Short; value = 0 }; holds = true } in
    let size = both (s.size % 8 == 0 && nat_le 64 (blocks_of s)) (nat_le (blocks_of s) (2 ^ 23)) (each_holds (rows s pages) 12 fine h refl) in
    let least = both (s.size % 8 == 0) (nat_le 64 (blocks_of s)) size.0 in
    let groups = both (is_power_of_two s.agsize && nat_le 8192 s.agsize) (nat_le (div_ceil (blocks_of s) s.agsize) 128) (each_holds (rows s pages) 13 fine h refl) in
    let group = both (is_power_of_two s.agsize) (nat_le 8192 s.agsize) groups.0 in
    let log = both (nat_le (blocks_of s) s.logpxd.addr && nat_le 256 s.logpxd.len && nat_le s.logpxd.len 32768) (ends_within s.logpxd pages) (each_holds (rows s pages) 15 fine h refl) in
    let longest = both (nat_le (blocks_of s) s.logpxd.addr && nat_le 256 s.logpxd.len) (nat_le s.logpxd.len 32768) log.0 in
    let shortest = both (nat_le (blocks_of s) s.logpxd.addr) (nat_le 256 s.logpxd.len) longest.0 in
    let least_group = leb-true 8192 s.agsize group.1 in
    record {
      least = leb-true 64 (blocks_of s) least.1;
      most = leb-true (blocks_of s) (2 ^ 23) size.1;
      group = least_group;
      power = power_from_one s.agsize (eqb-true (count_ones s.agsize) 1 group.0);
      groups = within_groups (blocks_of s) s.agsize 128 (omega arith) (leb-true (div_ceil (blocks_of s) s.agsize) 128 groups.1);
      behind = leb-true (blocks_of s) s.logpxd.addr shortest.0;
      shortest = leb-true 256 s.logpxd.len shortest.1;
      longest = leb-true s.logpxd.len 32768 longest.1;
    }

-- an accepted superblock has its page
pub accepted_pages : (s : Super) (pages : ℕ) → IsAccepted s pages → 9 ≤ pages
unfolding rows shape_rows
accepted_pages s pages h = leb-true 9 pages (each_holds (rows s pages) 0 (record { answer = record { rule = rules.Short; value = 0 }; holds = true }) h refl)

-- an accepted superblock's log ends within the disk
pub accepted_log : (s : Super) (pages : ℕ) → IsAccepted s pages → s.logpxd.addr + s.logpxd.len ≤ pages
unfolding rows shape_rows flag_rows size_rows log_rows
accepted_log s pages h =
    let fine : Row BadSuper = record { answer = record { rule = rules.Short; value = 0 }; holds = true } in
    let log = both (nat_le (blocks_of s) s.logpxd.addr && nat_le 256 s.logpxd.len && nat_le s.logpxd.len 32768) (ends_within s.logpxd pages) (each_holds (rows s pages) 15 fine h refl) in
    leb-true (s.logpxd.addr + s.logpxd.len) pages log.1
