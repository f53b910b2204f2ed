-- The command `super`: it prints the superblock, or names the first rule that it breaks.
use Rattle.std.specs.Prelude.{◌≡◌, ℕ, List, ◌++◌, codes}
use Rattle.std.specs.Fmt.{decimal}
use Rattle.uuid.specs.Text.{lower, hyphenated_text}
use Rattle.byteorder.specs.Endian.{little_bytes}
use Rattle.jfs_super.specs.declared.fields.Super.{Super}
use Rattle.jfs_super.specs.Rules.{blocks_of}
use Rattle.jfs_command.specs.Text.{line, pair_text, hex_text, label_text}
use Rattle.jfs_command.specs.Held.{Held}
use Rattle.jfs_command.specs.Meaning.{Meaning, Answer, finished, every_status, only_looks}
use Rattle.jfs_command.specs.Superblock.{LooksAtSuper, AfterSuperblock}

-- the ten lines of a superblock
unfoldable pub super_text : Super → List ℕ
super_text s =
    line (codes "magic") (little_bytes 4 s.magic)
    ++ line (codes "version") (decimal s.version)
    ++ line (codes "blocks") (decimal (blocks_of s))
    ++ line (codes "agsize") (decimal s.agsize)
    ++ line (codes "flags") (hex_text s.flag.0)
    ++ line (codes "state") (decimal s.state.0)
    ++ line (codes "log") (pair_text s.logpxd.addr s.logpxd.len)
    ++ line (codes "work") (pair_text s.fsckpxd.addr s.fsckpxd.len)
    ++ line (codes "uuid") (hyphenated_text lower s.uuid)
    ++ line (codes "label") (label_text s.label)

abbrev pub SuperSays : Held → Answer → Type 0
SuperSays held = AfterSuperblock held (λ s answer. answer ≡ finished (super_text s))

-- it looks at page 8 alone
abbrev pub super_meaning : Meaning
super_meaning = only_looks LooksAtSuper (λ tells. SuperSays) every_status
