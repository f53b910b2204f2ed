-- The bytes of a file, as the pages on the ways to its blocks tell them. (POSIX: pread.)
use Rattle.std.specs.Prelude.{◌≡◌, ◌⊎◌, true, ℕ, zero, suc, ◌+◌, ◌-◌, ◌/◌, ◌%◌, min, if◌then◌else◌, List, [], ◌∷◌, Option, Some, None, Result, Ok, Err}
use Rattle.jfs_bits.specs.declared.extent.Xad.{Xad}
use Rattle.jfs_bits.specs.declared.rule.Rule.{Rule}
use Rattle.jfs_inode.specs.declared.fields.Dinode.{Dinode}
use Rattle.jfs_imap.specs.Inodes.{Inodes}
use Rattle.jfs_xtree.specs.Spells.{broken_for, found_for, spells_extents}
use Rattle.jfs_way.specs.objects.specs.Objects.{has_names}
use Rattle.jfs_way.specs.objects.specs.Contents.{block_of, bytes_at}
use Rattle.jfs_way.specs.meaning.specs.Readers.{root_of}
use Rattle.jfs_way.specs.meaning.specs.Contents.{byte_of, is_regular}
use Rattle.jfs_plain.specs.Tree.{Tree, and_then}
use Rattle.jfs_plain.specs.Step.{bytes_from}
use Rattle.jfs_plain.specs.declared.refusal.Refusal.{Refusal}
use Rattle.jfs_plain.specs.declared.refusal.Refusal.TheVariants.{IsDir, NotFile, Damaged}
use Rattle.jfs_plain.specs.declared.reply.Reply.{Reply}
use Rattle.jfs_plain.specs.declared.reply.Reply.TheVariants.{Bytes}
use Rattle.jfs_xtree.specs.declared.error.XtError.{XtError}
use Rattle.jfs_xtree.specs.declared.error.XtError.TheVariants.{View, Bad}
use Rattle.jfs_way.specs.Answer.{is_open, at_root, view_refusal}
use Rattle.jfs_way.specs.Way.{path_of}
use Rattle.jfs_way.specs.declared.object.Held.{Held}

-- ---- errors from below, as refusals

abbrev pub extents_refusal : ℕ → XtError → Refusal
extents_refusal page (View e) = view_refusal e
extents_refusal page (Bad bad rule) = Damaged (at_root page bad) rule

-- a value, where no page on the way to it breaks a rule
abbrev pub unless_bad : {X : Type 0} → ℕ → Option (ℕ × Rule) → X → Result X Refusal
unless_bad page None x = Ok x
unless_bad page (Some bad) x = Err (Damaged (at_root page bad.0) bad.1)

-- ---- the bytes of an inode's blocks

-- the block of an extent that holds block `k` of the file
abbrev pub block_by : Option Xad → ℕ → Option ℕ
block_by None k = None
block_by (Some e) k = block_of (e ∷ []) k

-- Block `k` of the file, as the leaf at the end of its way tells it: it reads as zeros where that leaf has no extent for it, or one that isn't recorded.
abbrev pub content_on : ℕ → (ℕ → List ℕ) → Dinode → ℕ → Option (List ℕ)
content_on blocks pages d k = bytes_at pages (block_by (found_for blocks pages (root_of d) k) k)

abbrev pub byte_on_way : ℕ → (ℕ → List ℕ) → Dinode → ℕ → ℕ
byte_on_way blocks pages d i = byte_of (content_on blocks pages d (i / 4096)) (i % 4096)

-- The first broken rule on the ways to so many blocks from block `k` on, one block after the other, and the page that breaks it.
abbrev pub or_next : Option (ℕ × Rule) → Option (ℕ × Rule) → Option (ℕ × Rule)
or_next None next = next
or_next (Some bad) next = Some bad

unfoldable pub broken_in : ℕ → (ℕ → List ℕ) → Dinode → ℕ → ℕ → Option (ℕ × Rule)
broken_in blocks pages d k zero = None
broken_in blocks pages d k (suc n) = or_next (broken_for blocks pages (root_of d) k) (broken_in blocks pages d (suc k) n)

-- how many blocks so many bytes touch
abbrev pub touched : ℕ → ℕ → ℕ
touched offset zero = 0
touched offset (suc more) = (offset + more) / 4096 + 1 - offset / 4096

-- So many bytes from an offset on. The first page on the ways to their blocks that breaks a rule is named; the root stands on its inode's page.
abbrev pub stored_on : ℕ → (ℕ → List ℕ) → Held → ℕ → ℕ → Result (List ℕ) Refusal
stored_on blocks pages at offset count = unless_bad at.page (broken_in blocks pages at.inode (offset / 4096) (touched offset count)) (bytes_from (byte_on_way blocks pages at.inode) offset count)

-- Where the root spells extents, a refusal is open: nothing is damaged.
abbrev pub OpenWhereSpelled : ℕ → (ℕ → List ℕ) → Dinode → Refusal → Type 0
OpenWhereSpelled blocks pages d why = (es : List Xad) → spells_extents blocks pages (root_of d) ≡ Ok es → is_open why ≡ true

-- ---- a file

-- a regular file is wanted
abbrev pub if_regular : Held → Result (List ℕ) Refusal → Result (List ℕ) Refusal
if_regular at bytes = if has_names at.inode then Err IsDir else if is_regular at.inode then bytes else Err NotFile

-- the bytes before the file's end
abbrev pub bytes_in : ℕ → (ℕ → List ℕ) → Held → ℕ → ℕ → Result (List ℕ) Refusal
bytes_in blocks pages at offset count = if_regular at (stored_on blocks pages at offset (min count (at.inode.size - offset)))

-- the bytes of the file at the end of a path, whatever the volume holds
abbrev pub read_at : ℕ → (ℕ → List ℕ) → Inodes → List (List ℕ) → ℕ → ℕ → Result (List ℕ) Refusal
read_at blocks pages inodes path offset count = and_then (path_of blocks pages inodes path) (λ at. bytes_in blocks pages at offset count)

-- The plain step answers these bytes, and leaves the tree.
abbrev pub IsBytes : Tree → Reply × Tree → List ℕ → Type 0
IsBytes t out bytes = out ≡ (Bytes bytes, t)

-- ---- one block, for the prover alone

-- a page is named exactly where it is the first on a way that breaks a rule; else the call goes through, or what it is answered is open
abbrev pub IsWayOf : {X : Type 0} → ℕ → Option (ℕ × Rule) → Result X Refusal → Type 0
IsWayOf page first (Ok x) = first ≡ None
IsWayOf page first (Err why) = ((bad : ℕ × Rule) × (first ≡ Some bad) × (why ≡ Damaged (at_root page bad.0) bad.1)) ⊎ (is_open why ≡ true)
