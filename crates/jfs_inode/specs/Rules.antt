-- The rules of an inode, in the order in which they are looked at. (JFS Layout, and this project's profile.)
use Rattle.std.specs.Prelude.{ℕ, nat_le, ◌==◌, List, [], ◌∷◌}
use Rattle.std.specs.Int.RustNames.{bit_and}
use Rattle.std.specs.List.{list_any}
use Rattle.jfs_bits.specs.declared.rule.Rule.TheVariants as rules
use Rattle.jfs_bits.specs.Broken.{Row}
use Rattle.jfs_inode.specs.declared.fields.Dinode.{Dinode}
use Rattle.jfs_inode.specs.declared.read.BadInode.{BadInode}

-- the type of an object: the four high bits of its Unix mode (POSIX, S_IFMT)
abbrev pub type_of : Dinode → ℕ
type_of d = bit_and d.mode 0xf000

-- directories, regular files and symbolic links; then character and block devices, pipes and sockets
abbrev pub known_types : List ℕ
known_types = 0x4000 ∷ 0x8000 ∷ 0xa000 ∷ 0x2000 ∷ 0x6000 ∷ 0x1000 ∷ 0xc000 ∷ []

-- an inode has its own number at its place, a known type, and at most 65,535 names
unfoldable pub rows : Dinode → ℕ → List (Row BadInode)
rows d number =
    record { answer = record { rule = rules.Fields; value = d.number }; holds = d.number == number } ∷
    record { answer = record { rule = rules.Kind; value = d.mode }; holds = list_any (λ type. type == type_of d) known_types } ∷
    record { answer = record { rule = rules.Links; value = d.nlink }; holds = nat_le d.nlink 65535 } ∷ []
