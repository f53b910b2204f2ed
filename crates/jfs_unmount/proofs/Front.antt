-- A superblock lies in the first sector of its page.
use Rattle.std.proofs.Common.{◌≡◌, ◌≤◌, ◌+◌, ◌*◌, ◌%◌, ◌/◌, ◌^◌, ℕ, List, length, take, drop, sym, ap, ◌∙◌, arith}
use Rattle.std.proofs.lemmas.List.{take-take, take-append-le, length-take-le}
use Rattle.jfs_bits.specs.Field.{field_of, range_of}
use Rattle.jfs_bits.proofs.Ranges.{field_of-range, range_of-within}
use Rattle.jfs_disk.specs.Crash.{torn}
use Rattle.jfs_super.specs.Super.{super_of}

-- ---- what is read there

in_front : (page : List ℕ) (at width : ℕ) → at + width ≤ 512 → range_of (range_of page 0 512) at width ≡ range_of page at width
in_front page at width within = range_of-within page 0 512 at width within ∙ ap (λ (n : ℕ). range_of page n width) (let e : 0 + at ≡ at = omega arith in e)

module _ (one other : List ℕ) (same : range_of one 0 512 ≡ range_of other 0 512) where
  range_same : (at width : ℕ) → at + width ≤ 512 → range_of one at width ≡ range_of other at width
  range_same at width within = sym (in_front one at width within) ∙ ap (λ (front : List ℕ). range_of front at width) same ∙ in_front other at width within

  field_same : (at width : ℕ) → at + width ≤ 512 → field_of one at width ≡ field_of other at width
  field_same at width within = field_of-range one at width ∙ ap (λ (part : List ℕ). field_of part 0 width) (range_same at width within) ∙ sym (field_of-range other at width)

  pub super_same : super_of one ≡ super_of other
  super_same = λ i. record {
    magic = field_same 0 4 (omega arith) i;
    version = field_same 4 4 (omega arith) i;
    size = field_same 8 8 (omega arith) i;
    bsize = field_same 16 4 (omega arith) i;
    l2bsize = field_same 20 2 (omega arith) i;
    l2bfactor = field_same 22 2 (omega arith) i;
    pbsize = field_same 24 4 (omega arith) i;
    l2pbsize = field_same 28 2 (omega arith) i;
    agsize = field_same 32 4 (omega arith) i;
    flag = record { 0 = field_same 36 4 (omega arith) i };
    state = record { 0 = field_same 40 4 (omega arith) i };
    compress = field_same 44 4 (omega arith) i;
    ait2 = record { len = field_same 48 4 (omega arith) i % 2 ^ 24; addr = field_same 48 4 (omega arith) i / 2 ^ 24 * 2 ^ 32 + field_same 52 4 (omega arith) i };
    aim2 = record { len = field_same 56 4 (omega arith) i % 2 ^ 24; addr = field_same 56 4 (omega arith) i / 2 ^ 24 * 2 ^ 32 + field_same 60 4 (omega arith) i };
    logdev = field_same 64 4 (omega arith) i;
    logserial = field_same 68 4 (omega arith) i;
    logpxd = record { len = field_same 72 4 (omega arith) i % 2 ^ 24; addr = field_same 72 4 (omega arith) i / 2 ^ 24 * 2 ^ 32 + field_same 76 4 (omega arith) i };
    fsckpxd = record { len = field_same 80 4 (omega arith) i % 2 ^ 24; addr = field_same 80 4 (omega arith) i / 2 ^ 24 * 2 ^ 32 + field_same 84 4 (omega arith) i };
    time = record { sec = field_same 88 4 (omega arith) i; nano = field_same 92 4 (omega arith) i };
    fsckloglen = field_same 96 4 (omega arith) i;
    fscklog = field_same 100 1 (omega arith) i;
    fpack = range_same 101 11 (omega arith) i;
    xsize = field_same 112 8 (omega arith) i;
    xfsckpxd = record { len = field_same 120 4 (omega arith) i % 2 ^ 24; addr = field_same 120 4 (omega arith) i / 2 ^ 24 * 2 ^ 32 + field_same 124 4 (omega arith) i };
    xlogpxd = record { len = field_same 128 4 (omega arith) i % 2 ^ 24; addr = field_same 128 4 (omega arith) i / 2 ^ 24 * 2 ^ 32 + field_same 132 4 (omega arith) i };
    uuid = range_same 136 16 (omega arith) i;
    label = range_same 152 16 (omega arith) i;
    loguuid = range_same 168 16 (omega arith) i;
  }

-- ---- the first sector of a torn page

torn_front : (sectors : ℕ) (front rest : List ℕ) → 1 ≤ sectors → sectors ≤ 8 → length front ≡ 4096 → range_of (torn sectors front rest) 0 512 ≡ range_of front 0 512
unfolding torn range_of
torn_front sectors front rest some within size =
    take-append-le 512 (take (512 * sectors) front) (drop (512 * sectors) rest) (let long = length-take-le (512 * sectors) front (omega (arith, within, size)) in omega (arith, long, some))
    ∙ take-take 512 (512 * sectors) front (omega (arith, some))

-- so the superblock is the new page's, where one sector of it is there
pub torn_super : (sectors : ℕ) (front rest : List ℕ) → 1 ≤ sectors → sectors ≤ 8 → length front ≡ 4096 → super_of (torn sectors front rest) ≡ super_of front
torn_super sectors front rest some within size = super_same (torn sectors front rest) front (torn_front sectors front rest some within size)
