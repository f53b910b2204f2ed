-- Descriptors of several numbers. (JFS Layout: pxd_t, timestruc_t.)
use Rattle.std.specs.Prelude.{ℕ, ◌+◌, ◌*◌, ◌/◌, ◌%◌, ◌^◌, ◌<◌, List, ◌++◌}
use Rattle.byteorder.specs.Endian.{little_bytes}
use Rattle.jfs_bits.specs.declared.descriptor.Pxd.{Pxd}
use Rattle.jfs_bits.specs.declared.descriptor.Moment.{Moment}
use Rattle.jfs_bits.specs.Field.{field_of}

-- the first word has the length in its low 24 bits and the address bits 39..32 in its high 8 bits; the second has the address bits 31..0
abbrev pub pxd_of : List ℕ → ℕ → Pxd
pxd_of bytes at = record { len = field_of bytes at 4 % 2 ^ 24; addr = field_of bytes at 4 / 2 ^ 24 * 2 ^ 32 + field_of bytes (at + 4) 4 }

-- what has a place in these bits
pub record FitsPxd (p : Pxd) : Type 0 where
  pub len : p.len < 2 ^ 24
  pub addr : p.addr < 2 ^ 40

unfoldable pub pxd_bytes : Pxd → List ℕ
pxd_bytes p = little_bytes 4 (p.len + p.addr / 2 ^ 32 * 2 ^ 24) ++ little_bytes 4 (p.addr % 2 ^ 32)

-- seconds, then nanoseconds
abbrev pub moment_of : List ℕ → ℕ → Moment
moment_of bytes at = record { sec = field_of bytes at 4; nano = field_of bytes (at + 4) 4 }

unfoldable pub moment_bytes : Moment → List ℕ
moment_bytes m = little_bytes 4 m.sec ++ little_bytes 4 m.nano
