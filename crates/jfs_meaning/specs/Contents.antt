-- What a file holds, byte by byte. (POSIX: a hole reads as zeros, and nothing stands behind a file's end.)
use Rattle.std.specs.Prelude.{ℕ, ◌/◌, ◌%◌, ◌&&◌, ◌==◌, Bool, nat_lt, if◌then◌else◌, List, get_or, Option, Some, None}
use Rattle.jfs_inode.specs.Rules.{type_of}
use Rattle.jfs_inode.specs.declared.fields.Dinode.{Dinode}
use Rattle.jfs_objects.specs.Readers.{Readers}
use Rattle.jfs_objects.specs.Objects.{Object}
use Rattle.jfs_objects.specs.Contents.{contents_of}

-- Where there is no block, there are zeros: in a hole, in an extent that isn't recorded, and past the last extent.
abbrev pub byte_of : Option (List ℕ) → ℕ → ℕ
byte_of None i = 0
byte_of (Some bytes) i = get_or bytes i 0

-- the byte at an offset in an object's blocks
abbrev pub stored : Readers → (ℕ → List ℕ) → Option Object → ℕ → ℕ
stored r page o i = byte_of (contents_of r page o (i / 4096)) (i % 4096)

abbrev pub is_regular : Dinode → Bool
is_regular d = type_of d == 0x8000

-- A regular file has the bytes before its end. Whatever its blocks hold behind it doesn't count.
abbrev pub byte_in : Readers → (ℕ → List ℕ) → Option Object → ℕ → ℕ
byte_in r page None i = 0
byte_in r page (Some o) i = if is_regular o.inode && nat_lt i o.inode.size then stored r page (Some o) i else 0
