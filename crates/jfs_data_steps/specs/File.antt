-- A regular file with other extents, another size and other data.
use Rattle.std.specs.Prelude.{ℕ, ◌/◌, ◌%◌, nat_lt, if◌then◌else◌, List}
use Rattle.jfs_bits.specs.Field.{put_bytes}
use Rattle.jfs_bits.specs.declared.descriptor.Moment.{Moment}
use Rattle.jfs_bits.specs.declared.extent.Xad.{Xad}
use Rattle.jfs_inode.specs.declared.fields.Dinode.{Dinode}
use Rattle.jfs_loss.specs.plain.specs.Tree.{Tree}
use Rattle.jfs_loss.specs.plain.specs.Moves.{sized, changed}
use Rattle.jfs_loss.specs.objects.specs.Contents.{block_of, bytes_at}
use Rattle.jfs_loss.specs.objects.specs.Changes.{put}
use Rattle.jfs_loss.specs.meaning.specs.Contents.{byte_of}

-- the inode with another root of its tree, so many bytes and so many blocks, written now
abbrev pub resized : Dinode → List ℕ → ℕ → ℕ → Moment → Dinode
resized d root size own now = record d { rest = put_bytes 96 root d.rest; size = size; nblocks = own; mtime = now; ctime = now }

-- The bytes of a file of this size whose blocks these extents name: zeros where no recorded extent has the block, and nothing behind the end.
abbrev pub bytes_held : (ℕ → List ℕ) → List Xad → ℕ → ℕ → ℕ
bytes_held page es size i = if nat_lt i size then byte_of (bytes_at page (block_of es (i / 4096))) (i % 4096) else 0

-- the tree in which file `n` has another size and these bytes, and is written now
abbrev pub refilled : ℕ → ℕ → (ℕ → ℕ) → Moment → Tree → Tree
refilled n size bytes now t = record (changed n (sized size now) t) { bytes = put n bytes t.bytes }
