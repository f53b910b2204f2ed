-- The rules of a superblock, in the order in which they are looked at. (JFS Layout, and this project's profile.)
use Rattle.std.specs.Prelude.{◌≡◌, ℕ, ◌+◌, ◌/◌, ◌%◌, ◌^◌, Bool, not, nat_le, ◌==◌, ◌&&◌, ◌||◌, List, [], ◌∷◌, ◌++◌, None, refl}
use Rattle.std.specs.Int.{div_ceil, is_power_of_two}
use Rattle.std.specs.Int.RustNames.{bit_and}
use Rattle.std.specs.List.{list_any}
use Rattle.jfs_bits.specs.declared.descriptor.Pxd.{Pxd}
use Rattle.jfs_bits.specs.declared.rule.Rule.{Rule}
use Rattle.jfs_bits.specs.declared.rule.Rule.TheVariants as rules
use Rattle.jfs_bits.specs.Broken.{Row, first_broken}
use Rattle.jfs_super.specs.declared.fields.Super.{Super}
use Rattle.jfs_super.specs.declared.fields.TheConstants.VolumeState.{CLEAN, MOUNTED, DIRTY, REDO_FAILED, EXTENDING}
use Rattle.jfs_super.specs.declared.read.BadSuper.{BadSuper}

-- a rule, the value of its field, and whether it holds
abbrev row : Rule → ℕ → Bool → Row BadSuper
row rule value holds = record { answer = record { rule = rule; value = value }; holds = holds }

-- the run ends within so many blocks
abbrev pub ends_within : Pxd → ℕ → Bool
ends_within run blocks = nat_le (run.addr + run.len) blocks

-- the number of blocks of the file system part
abbrev pub blocks_of : Super → ℕ
blocks_of s = s.size / 8

-- one or the other flag is set in the flag word
abbrev has_flag : Super → ℕ → Bool
has_flag s flag = bit_and s.flag.0 flag == flag

-- the number of allocation groups
abbrev groups_of : Super → ℕ
groups_of s = div_ceil (blocks_of s) s.agsize

unfoldable pub shape_rows : Super → ℕ → List (Row BadSuper)
shape_rows s pages =
    row rules.Short pages (nat_le 9 pages) ∷
    row rules.Magic s.magic (s.magic == 0x3153464A) ∷
    row rules.Version s.version (s.version == 1 || s.version == 2) ∷
    row rules.Bsize s.bsize (s.bsize == 4096) ∷
    row rules.L2bsize s.l2bsize (s.l2bsize == 12) ∷
    row rules.L2bfactor s.l2bfactor (s.l2bfactor == 3) ∷
    row rules.Pbsize s.pbsize (s.pbsize == 512) ∷
    row rules.L2pbsize s.l2pbsize (s.l2pbsize == 9) ∷ []

-- an inline log, no volume of OS/2, no directory index, no compression
unfoldable pub flag_rows : Super → List (Row BadSuper)
flag_rows s =
    row rules.Inline s.flag.0 (has_flag s 0x800) ∷
    row rules.Os2 s.flag.0 (not (has_flag s 0x40000000)) ∷
    row rules.Index s.flag.0 (not (has_flag s 0x200000)) ∷
    row rules.Compress s.compress (s.compress == 0) ∷ []

-- the states of a volume, by their numbers on the disk
abbrev pub known_states : List ℕ
known_states = 0 ∷ 1 ∷ 2 ∷ 4 ∷ 8 ∷ []

-- which state has which number
pub states_are_numbered : (CLEAN.0 ≡ 0) × (MOUNTED.0 ≡ 1) × (DIRTY.0 ≡ 2) × (REDO_FAILED.0 ≡ 4) × (EXTENDING.0 ≡ 8)
states_are_numbered = (refl, refl, refl, refl, refl)

-- 64 to 2^23 whole blocks, at most 128 groups of a power of two, and a known state
unfoldable pub size_rows : Super → List (Row BadSuper)
size_rows s =
    row rules.Size s.size (s.size % 8 == 0 && nat_le 64 (blocks_of s) && nat_le (blocks_of s) (2 ^ 23)) ∷
    row rules.Agsize s.agsize (is_power_of_two s.agsize && nat_le 8192 s.agsize && nat_le (groups_of s) 128) ∷
    row rules.State s.state.0 (list_any (λ state. state == s.state.0) known_states) ∷ []

-- the log lies behind the blocks and within the disk; the second inode table has 4 blocks and the second inode map 2, within the blocks
unfoldable pub log_rows : Super → ℕ → List (Row BadSuper)
log_rows s pages =
    row rules.Log s.logpxd.addr (nat_le (blocks_of s) s.logpxd.addr && nat_le 256 s.logpxd.len && nat_le s.logpxd.len 32768 && ends_within s.logpxd pages) ∷
    row rules.Second s.ait2.addr (s.ait2.len == 4 && ends_within s.ait2 (blocks_of s)) ∷
    row rules.Second s.aim2.addr (s.aim2.len == 2 && ends_within s.aim2 (blocks_of s)) ∷ []

-- all rules of a superblock on a disk of so many pages, in their order
unfoldable pub rows : Super → ℕ → List (Row BadSuper)
rows s pages = shape_rows s pages ++ (flag_rows s ++ (size_rows s ++ log_rows s pages))

-- a superblock that breaks no rule on a disk of so many pages
abbrev pub IsAccepted : Super → ℕ → Type 0
IsAccepted s pages = first_broken (rows s pages) ≡ None
