-- A new volume's superblock and inodes break no rule.
use Rattle.std.proofs.Common.{◌≡◌, ◌≤◌, ◌+◌, ◌*◌, ◌/◌, ◌%◌, ◌^◌, ℕ, zero, suc, Bool, true, false, ◌&&◌, refl, arith}
use Rattle.std.specs.Prelude.{nat_le, ◌==◌, if◌then◌else◌}
use Rattle.std.specs.Int.{div_ceil, is_power_of_two}
use Rattle.std.specs.Int.Count.{ones}
use Rattle.std.proofs.lemmas.Bool.{and_from, eq-eqb, le-leb}
use Rattle.jfs_bits.proofs.Broken.{none-first_broken}
use Rattle.jfs_super.specs.Rules.{rows, shape_rows, flag_rows, size_rows, log_rows, IsAccepted}
use Rattle.jfs_inode.specs.Rules as inodes
use Rattle.jfs_bmap.proofs.GroupNumbers.{div_ceil-same}
use Rattle.jfs_format.specs.declared.volume.NewVolume.{NewVolume}
use Rattle.jfs_format.specs.Layout.{IsLayout, group_size, blocks_for, layout_of, second_table, second_map}
use Rattle.jfs_format.specs.Superblock.{new_super}
use Rattle.jfs_format.specs.Volume.{wanted}
use Rattle.jfs_format.specs.Laws.{SuperIsAccepted, InodesAreAccepted, FreeAreCounted}
use Rattle.jfs_format.proofs.Layouts.{layout-bounds}
use Rattle.jfs_format.proofs.Blocks.{free-count}
use Rattle.jfs_format.proofs.Maps.{free-inodes}

power-of_group : (blocks : ℕ) → is_power_of_two (group_size blocks) ≡ true
unfolding ones
power-of_group blocks = by (nat_le blocks (2 ^ 20)) (nat_le blocks (2 ^ 21)) (nat_le blocks (2 ^ 22))
  where
    by : (a b c : Bool) → is_power_of_two (if a then 2 ^ 13 else (if b then 2 ^ 14 else (if c then 2 ^ 15 else 2 ^ 16))) ≡ true
    by true b c = refl
    by false true c = refl
    by false false true = refl
    by false false false = refl

power-of_layout : (pages : ℕ) → is_power_of_two (layout_of pages).agsize ≡ true
unfolding layout_of
power-of_layout pages = power-of_group (blocks_for pages)

accepted : (pages : ℕ) (v : NewVolume) → IsLayout pages v.layout → 9 ≤ pages → is_power_of_two v.layout.agsize ≡ true → IsAccepted (new_super v) pages
unfolding rows shape_rows flag_rows size_rows log_rows new_super
accepted pages v b some power =
    let l = v.layout in
    let blocks : 8 * l.blocks / 8 ≡ l.blocks = omega arith in
    let size = and_from (8 * l.blocks % 8 == 0 && nat_le 64 (8 * l.blocks / 8)) (nat_le (8 * l.blocks / 8) (2 ^ 23))
    (and_from (8 * l.blocks % 8 == 0) (nat_le 64 (8 * l.blocks / 8)) (eq-eqb (8 * l.blocks % 8) 0 (omega arith)) (le-leb 64 (8 * l.blocks / 8) (omega (arith, b.least))))
    (le-leb (8 * l.blocks / 8) (2 ^ 23) (omega (arith, b.most))) in
    let groups : div_ceil (8 * l.blocks / 8) l.agsize ≤ 128 = rw blocks (omega (arith, div_ceil-same l.blocks l.agsize (omega (arith, b.sizes.least)), b.groups, b.most_groups)) in
    let agsize = and_from (is_power_of_two l.agsize && nat_le 8192 l.agsize) (nat_le (div_ceil (8 * l.blocks / 8) l.agsize) 128)
    (and_from (is_power_of_two l.agsize) (nat_le 8192 l.agsize) power (le-leb 8192 l.agsize b.sizes.least)) (le-leb (div_ceil (8 * l.blocks / 8) l.agsize) 128 groups) in
    let begins = le-leb (8 * l.blocks / 8) l.log.addr (omega (arith, b.work, b.behind)) in
    let log = and_from (nat_le (8 * l.blocks / 8) l.log.addr && nat_le 256 l.log.len && nat_le l.log.len 32768) (nat_le (l.log.addr + l.log.len) pages)
    (and_from (nat_le (8 * l.blocks / 8) l.log.addr && nat_le 256 l.log.len) (nat_le l.log.len 32768) (and_from (nat_le (8 * l.blocks / 8) l.log.addr) (nat_le 256 l.log.len) begins (le-leb 256 l.log.len b.shortest)) (le-leb l.log.len 32768 b.longest))
    (le-leb (l.log.addr + l.log.len) pages (omega (arith, b.end))) in
    let table = le-leb (second_table l + 4) (8 * l.blocks / 8) (omega (arith, b.within)) in
    let map = le-leb (second_map l + 2) (8 * l.blocks / 8) (omega (arith, b.within)) in
    none-first_broken (rows (new_super v) pages)
    (le-leb 9 pages some, (refl, (refl, (refl, (refl, (refl, (refl, (refl, (refl, (refl, (refl, (refl, (size, (agsize, (refl, (log, (table, (map, tt))))))))))))))))))

pub super-accepted : SuperIsAccepted
super-accepted pages uuid label now f = accepted pages (wanted pages uuid label now) (layout-bounds pages f) (omega (arith, f.least)) (power-of_layout pages)

pub inodes-accepted : InodesAreAccepted
unfolding inodes.rows
inodes-accepted v zero h = refl
inodes-accepted v (suc zero) h = refl
inodes-accepted v (suc (suc zero)) h = refl
inodes-accepted v (suc (suc (suc zero))) h = refl
inodes-accepted v (suc (suc (suc (suc n)))) h = absurd (omega (arith, h))

pub free-counted : FreeAreCounted
free-counted pages f =
    let b = layout-bounds pages f in
    record { blocks = free-count (layout_of pages) (omega (arith, b.within)); inodes = free-inodes pages (layout_of pages) b }
