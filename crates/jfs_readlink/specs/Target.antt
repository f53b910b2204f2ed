-- What readlink tells, whatever the volume holds. (POSIX: readlink.)
use Rattle.std.specs.Prelude.{◌≡◌, ℕ, ◌/◌, ◌%◌, nat_lt, if◌then◌else◌, List, Result, Ok, Err}
use Rattle.jfs_bits.specs.Field.{range_of}
use Rattle.jfs_bits.specs.declared.extent.Xad.{Xad}
use Rattle.jfs_bits.specs.declared.rule.Rule.{Rule}
use Rattle.jfs_bits.specs.declared.rule.Rule.TheVariants.{Range}
use Rattle.jfs_imap.specs.Inodes.{Inodes}
use Rattle.jfs_xtree.specs.Node.{xt_scale}
use Rattle.jfs_xtree.specs.declared.error.XtError.{XtError}
use Rattle.jfs_xtree.specs.declared.error.XtError.TheVariants as tree
use Rattle.jfs_way.specs.objects.specs.Objects.{extents_of, listed}
use Rattle.jfs_way.specs.objects.specs.Contents.{block_of, bytes_at}
use Rattle.jfs_way.specs.meaning.specs.Readers.{readers}
use Rattle.jfs_way.specs.meaning.specs.Contents.{byte_of}
use Rattle.jfs_way.specs.meaning.specs.Node.{is_symbolic}
use Rattle.jfs_plain.specs.Tree.{Tree, and_then}
use Rattle.jfs_plain.specs.Step.{bytes_from}
use Rattle.jfs_plain.specs.declared.refusal.Refusal.{Refusal}
use Rattle.jfs_plain.specs.declared.refusal.Refusal.TheVariants.{NotFile, Damaged}
use Rattle.jfs_plain.specs.declared.reply.Reply.{Reply}
use Rattle.jfs_plain.specs.declared.reply.Reply.TheVariants.{Target}
use Rattle.jfs_way.specs.reader.specs.Reading.{IsPast}
use Rattle.jfs_way.specs.reader.specs.declared.error.ReadError.{ReadError}
use Rattle.jfs_way.specs.reader.specs.declared.error.ReadError.TheVariants as read
use Rattle.jfs_way.specs.Answer.{at_root, view_refusal}
use Rattle.jfs_way.specs.Way.{path_of}
use Rattle.jfs_way.specs.declared.object.Held.{Held}

-- the byte at an offset of a file with these extents
abbrev pub byte_at : (ℕ → List ℕ) → List Xad → ℕ → ℕ
byte_at pages extents i = byte_of (bytes_at pages (block_of extents (i / 4096))) (i % 4096)

-- The first broken rule of a link's tree, with its page; the root stands on its inode's page.
abbrev pub if_spelled : ℕ → (List Xad → List ℕ) → Result (List Xad) (ℕ × Rule) → Result (List ℕ) Refusal
if_spelled page holds (Ok extents) = Ok (holds extents)
if_spelled page holds (Err bad) = Err (Damaged (at_root page bad.0) bad.1)

-- The target of an inode, which is to be a symbolic link: one of fewer than 256 bytes stands in the inode from byte 256 on, a longer one in the link's blocks.
abbrev pub target_from : ℕ → (ℕ → List ℕ) → Held → Result (List ℕ) Refusal
target_from blocks pages at = if is_symbolic at.inode
    then (if nat_lt at.inode.size 256 then Ok (range_of at.inode.rest 128 at.inode.size)
    else if_spelled at.page (λ extents. bytes_from (byte_at pages extents) 0 at.inode.size) (listed xt_scale (extents_of (readers blocks) pages at.inode)))
    else Err NotFile

-- the target of the link at the end of a path, whatever the volume holds
abbrev pub target_at : ℕ → (ℕ → List ℕ) → Inodes → List (List ℕ) → Result (List ℕ) Refusal
target_at blocks pages inodes path = and_then (path_of blocks pages inodes path) (target_from blocks pages)

-- The plain step answers this, and leaves the tree.
abbrev pub IsTarget : Tree → Reply × Tree → List ℕ → Type 0
IsTarget t out target = out ≡ (Target target, t)

-- ---- errors from below, as refusals

abbrev pub extents_refusal : ℕ → XtError → Refusal
extents_refusal page (tree.View e) = view_refusal e
extents_refusal page (tree.Bad bad rule) = Damaged (at_root page bad) rule

-- Where a tree spells its extents, these lie within the file system part, so the second one never comes of a view that tells its pages.
abbrev pub read_refusal : ℕ → ReadError → Refusal
read_refusal page (read.View e) = view_refusal e
read_refusal page read.Outside = Damaged page Range

-- some block of the file lies past the end
abbrev pub SomeOutside : ℕ → List Xad → ReadError → Type 0
SomeOutside blocks extents (read.View e) = Unit {0}
SomeOutside blocks extents read.Outside = (j : ℕ) × IsPast blocks (block_of extents j)
