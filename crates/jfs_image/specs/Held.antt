-- What an object is and holds, as it was read.
use Rattle.std.specs.Prelude.{◌≡◌, ℕ, ◌/◌, ◌%◌, nat_lt, if◌then◌else◌, List, [], get_or, Option, Some, None, Ok}
use Rattle.jfs_bits.specs.declared.extent.Xad.{Xad}
use Rattle.jfs_bits.specs.Broken.{first_broken}
use Rattle.jfs_bits.specs.Field.{range_of}
use Rattle.jfs_disk.specs.Image.{Image, page_of}
use Rattle.jfs_inode.specs.Rules.{rows}
use Rattle.jfs_inode.specs.declared.fields.Dinode.{Dinode}
use Rattle.jfs_name.specs.declared.name.NameEntry.{NameEntry}
use Rattle.jfs_plain.specs.Step.{bytes_from}
use Rattle.jfs_plain.specs.declared.node.Node.{Node}
use Rattle.jfs_reader.specs.objects.specs.Readers.{Readers}
use Rattle.jfs_reader.specs.objects.specs.Objects.{Object, IsWhole, names_of, extents_of, listed}
use Rattle.jfs_reader.specs.objects.specs.Contents.{block_of, bytes_at}
use Rattle.jfs_reader.specs.meaning.specs.Contents.{byte_of, byte_in}
use Rattle.jfs_reader.specs.meaning.specs.Node.{is_symbolic, node_of}
use Rattle.jfs_image.specs.declared.standing.Held.{Held}

-- the byte at an offset of a file with these extents
abbrev pub byte_in_file : Image → List Xad → ℕ → ℕ
byte_in_file image extents i = byte_of (bytes_at (page_of image) (block_of extents (i / 4096))) (i % 4096)

-- A target of fewer than 256 bytes stands in the inode, a longer one in the blocks of these extents.
abbrev pub target_in : Image → List Xad → Dinode → List ℕ
target_in image extents d = if is_symbolic d
    then (if nat_lt d.size 256 then range_of d.rest 128 d.size else bytes_from (byte_in_file image extents) 0 d.size)
    else []

-- the names of an inode, or none where its tree breaks a rule
abbrev pub NamesMay : Readers → (ℕ → List ℕ) → Dinode → Option (List NameEntry) → Type 0
NamesMay r page d None = (es : List NameEntry) → listed r.names_order (names_of r page d) ≡ Ok es → ⊥
NamesMay r page d (Some es) = listed r.names_order (names_of r page d) ≡ Ok es

abbrev pub ExtentsMay : Readers → (ℕ → List ℕ) → Dinode → Option (List Xad) → Type 0
ExtentsMay r page d None = (es : List Xad) → listed r.extents_order (extents_of r page d) ≡ Ok es → ⊥
ExtentsMay r page d (Some es) = listed r.extents_order (extents_of r page d) ≡ Ok es

-- an object that breaks no rule, its node and its bytes
pub record IsHeld (r : Readers) (page : ℕ → List ℕ) (n : ℕ) (o : Object) (node : Node) (bytes : List ℕ) : Type 0 where
  pub inode : first_broken (rows o.inode n) ≡ None
  pub whole : IsWhole r o
  pub node_is : node_of r page o ≡ Some node
  pub bytes_are : (i : ℕ) → byte_in r page (Some o) i ≡ get_or bytes i 0

-- its inode breaks a rule, or a tree of it does
abbrev pub Breaks : Readers → ℕ → Object → Type 0
Breaks r n o = first_broken (rows o.inode n) ≡ None → IsWhole r o → ⊥

abbrev pub HeldIs : Readers → (ℕ → List ℕ) → ℕ → Object → Option Held → Type 0
HeldIs r page n o None = Breaks r n o
HeldIs r page n o (Some held) = IsHeld r page n o held.node held.bytes.items
