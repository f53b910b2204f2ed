-- Entries of a mounted volume's history, and what each leaves.
use Rattle.std.specs.Prelude.{ℕ, Bool, List, [], ◌∷◌, if◌then◌else◌}
use Rattle.jfs_bits.specs.declared.descriptor.Moment.{Moment}
use Rattle.jfs_disk.specs.Image.{Image}
use Rattle.jfs_ranges.specs.declared.edit.Edit.{Edit}
use Rattle.jfs_map_files.specs.bmap.specs.States.{Blocks}
use Rattle.jfs_map_files.specs.imap.specs.Inodes.{Inodes}
use Rattle.jfs_plain.specs.declared.call.Call.{Call}
use Rattle.jfs_plain.specs.declared.call.Entry.{Entry}
use Rattle.jfs_plain.specs.declared.reply.Reply.{Reply}
use Rattle.jfs_core.specs.declared.entry.Entry.{Entry as Logged}
use Rattle.jfs_records.specs.Records.{Noted, tx_of}
use Rattle.jfs_records.specs.Entries.{Item, entry}

-- what a mounted volume shows: its pages, and its two maps in memory, where a block may be busy
pub record Shown : Type 0 where
  pub pages : Image
  pub map : Blocks
  pub inodes : Inodes

-- A call that has its place in the history: who asked for it, what it was answered, what it changed with what its records name beside that, and what the volume shows after it.
pub record Happened : Type 0 where
  pub client : ℕ
  pub line : ℕ
  pub call : Call
  pub lazy : Bool
  pub now : Moment
  pub reply : Reply
  pub noted : List Noted
  -- whether it has a COMMIT in the log: so has each call that may change something and is answered ok, also where no byte changes
  pub logs : Bool
  pub after : Shown

-- its transaction
abbrev pub edits : Happened → List Edit
edits h = tx_of h.noted

-- an entry as it is handed out
abbrev pub entry_of : Happened → Entry
entry_of h = record { client = h.client; line = h.line; call = h.call; lazy = h.lazy; reply = h.reply }

-- an entry as the crash core has it
abbrev pub logged : Happened → Logged
logged h = record { tx = edits h }

-- what stands in the log of the entry with a number
abbrev pub items_of : ℕ → Happened → List Item
items_of n h = if h.logs then entry n h.noted ∷ [] else []

-- the pages after entries
abbrev pub image_after : Image → List Happened → Image
image_after image [] = image
image_after image (h ∷ hs) = image_after h.after.pages hs
