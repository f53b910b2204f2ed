-- The numbers of a layout.
use Rattle.std.proofs.Common.{◌≡◌, ◌≤◌, ◌<◌, ◌+◌, ◌-◌, ◌*◌, ◌/◌, ◌^◌, ℕ, Bool, true, false, refl, ◌⊎◌, inl, inr, arith}
use Rattle.std.specs.Prelude.{min, nat_le, if◌then◌else◌}
use Rattle.std.specs.Int.{IsPowerOfTwo}
use Rattle.std.proofs.lemmas.Bool.{cases_lt, le-leb, lt-leb}
use Rattle.jfs_format.specs.Layout.{IsFormattable, IsLayout, log_pages, work_pages, blocks_for, group_size, dmaps_for, layout_of}

-- what follows of the size of a group
record IsGroupSize (blocks size : ℕ) : Type 0 where
  least : 8192 ≤ size
  few : size ≤ 2 ^ 16
  power : IsPowerOfTwo size
  most : blocks ≤ 128 * size
  some : 0 < (blocks + size - 1) / size
  groups : (blocks + size - 1) / size ≤ 128
  each : (blocks + size - 1) / size ≤ min (dmaps_for blocks) 128
  twice : min (dmaps_for blocks) 128 ≤ 2 * ((blocks + size - 1) / size)

group-size : (blocks : ℕ) → 64 ≤ blocks → blocks ≤ 2 ^ 23 → IsGroupSize blocks (group_size blocks)
group-size blocks some most = first (cases_lt (2 ^ 20) blocks)
  where
    third : 2 ^ 21 < blocks → (2 ^ 22 < blocks) ⊎ (blocks ≤ 2 ^ 22) → IsGroupSize blocks (group_size blocks)
    third low (inr h) = rw (lt-leb blocks (2 ^ 20) (omega arith), lt-leb blocks (2 ^ 21) (omega arith), le-leb blocks (2 ^ 22) h)
        (record { least = omega arith; few = omega arith; power = (15, refl); most = omega arith; some = omega arith; groups = omega arith; each = omega arith; twice = omega arith })
    third low (inl h) = rw (lt-leb blocks (2 ^ 20) (omega arith), lt-leb blocks (2 ^ 21) (omega arith), lt-leb blocks (2 ^ 22) h)
        (record { least = omega arith; few = omega arith; power = (16, refl); most = omega arith; some = omega arith; groups = omega arith; each = omega arith; twice = omega arith })

    second : 2 ^ 20 < blocks → (2 ^ 21 < blocks) ⊎ (blocks ≤ 2 ^ 21) → IsGroupSize blocks (group_size blocks)
    second low (inr h) = rw (lt-leb blocks (2 ^ 20) low, le-leb blocks (2 ^ 21) h)
        (record { least = omega arith; few = omega arith; power = (14, refl); most = omega arith; some = omega arith; groups = omega arith; each = omega arith; twice = omega arith })
    second low (inl h) = third h (cases_lt (2 ^ 22) blocks)

    first : (2 ^ 20 < blocks) ⊎ (blocks ≤ 2 ^ 20) → IsGroupSize blocks (group_size blocks)
    first (inr h) = rw (le-leb blocks (2 ^ 20) h)
        (record { least = omega arith; few = omega arith; power = (13, refl); most = omega arith; some = omega arith; groups = omega arith; each = omega arith; twice = omega arith })
    first (inl h) = second h (cases_lt (2 ^ 21) blocks)

-- the parts fill the disk
record IsSplit (pages log work blocks : ℕ) : Type 0 where
  least : 3008 ≤ blocks
  most : blocks ≤ 2 ^ 23
  sum : blocks + work + log ≡ pages
  work_size : work < 2 ^ 24
  shortest : 1024 ≤ log
  longest : log ≤ 32768

split : (pages : ℕ) → IsFormattable pages → IsSplit pages (log_pages pages) (work_pages pages) (blocks_for pages)
split pages f = record {
  least = omega (arith, f.least, f.most);
  most = omega (arith, f.least, f.most);
  sum = omega (arith, f.least, f.most);
  work_size = omega (arith, f.least, f.most);
  shortest = omega (arith, f.least, f.most);
  longest = omega (arith, f.least, f.most);
}

placed : (pages log work blocks size : ℕ) → IsFormattable pages → IsSplit pages log work blocks → IsGroupSize blocks size → IsLayout pages (record {
  blocks = blocks;
  agsize = size;
  groups = (blocks + size - 1) / size;
  dmaps = dmaps_for blocks;
  iags = min (dmaps_for blocks) 128;
  work = record { len = work; addr = blocks };
  log = record { len = log; addr = pages - log };
})
placed pages log work blocks size f s g = record {
  least = omega (arith, s.least);
  most = s.most;
  sizes = record { some = omega (arith, s.least); least = g.least; power = g.power; most = g.most };
  few = g.few;
  groups = refl;
  some_groups = g.some;
  most_groups = g.groups;
  dmaps = refl;
  some_dmaps = omega (arith, s.least);
  most_dmaps = omega (arith, s.most);
  iags = refl;
  each_group = g.each;
  two_each = g.twice;
  owned = omega (arith, s.most);
  within = omega (arith, s.least, s.most);
  work = refl;
  work_size = s.work_size;
  behind = omega (arith, s.sum);
  shortest = omega (arith, s.shortest);
  longest = s.longest;
  end = omega (arith, s.sum);
  count = f.most;
}

pub layout-bounds : (pages : ℕ) → IsFormattable pages → IsLayout pages (layout_of pages)
unfolding layout_of
layout-bounds pages f =
    let s = split pages f in
    placed pages (log_pages pages) (work_pages pages) (blocks_for pages) (group_size (blocks_for pages)) f s (group-size (blocks_for pages) (omega (arith, s.least)) s.most)

pub group_size-some : (blocks : ℕ) → 0 < group_size blocks
group_size-some blocks = by (nat_le blocks (2 ^ 20)) (nat_le blocks (2 ^ 21)) (nat_le blocks (2 ^ 22))
  where
    by : (a b c : Bool) → 0 < (if a then 2 ^ 13 else (if b then 2 ^ 14 else (if c then 2 ^ 15 else 2 ^ 16)))
    by true b c = omega arith
    by false true c = omega arith
    by false false true = omega arith
    by false false false = omega arith
