-- The parent directory, which a directory's root names. (JFS Layout, dtroot_t: idotdot.)
use Rattle.std.specs.Prelude.{ℕ, List}
use Rattle.jfs_bits.specs.Field.{field_of}

abbrev pub parent_of : List ℕ → ℕ
parent_of root = field_of root 20 4
