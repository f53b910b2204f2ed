-- A legal history of a plain file tree, by what a mounted volume held.
use Rattle.std.specs.Prelude.{◌++◌, ◌∷◌, [], ℕ, List}
use Rattle.jfs_bits.specs.declared.descriptor.Moment.{Moment}
use Rattle.jfs_call.specs.halves.specs.Parts.{Parts}
use Rattle.jfs_call.specs.plain.specs.declared.call.Entry.{Entry}
use Rattle.jfs_served.specs.Holds.{MayServe, KeepsTree}
use Rattle.jfs_served.specs.Step.{TakesStep}

-- an entry, and the moment that its call was handed
pub record Timed : Type 0 where
  pub entry : Entry
  pub now : Moment

-- From the first parts to the last: each entry's reply and the tree after it are those of a step of a plain file tree, with the volume's room before it. The volume after it is consistent, and follows from the one before by one transaction, or keeps its tree and its room, or, where the call was refused for a fault, has other bytes in blocks of a file's own or of nobody; and between two steps it keeps tree and room.
pub data IsLegal (area : ℕ → ℕ) (log_pages : ℕ) (start : Parts) : List Timed → Parts → Type 0 where
  starts : IsLegal area log_pages start [] start
  keeps : (es : List Timed) (old new : Parts) → IsLegal area log_pages start es old → KeepsTree area log_pages old new → IsLegal area log_pages start es new
  takes : (es : List Timed) (e : Timed) (old new : Parts) → IsLegal area log_pages start es old → TakesStep area log_pages e.entry.call e.now e.entry.reply old new → IsLegal area log_pages start (es ++ e ∷ []) new

-- what was served so far, and the next call may come
pub record HasServed (area : ℕ → ℕ) (log_pages : ℕ) (start : Parts) (es : List Timed) (p : Parts) : Type 0 where
  pub legal : IsLegal area log_pages start es p
  pub serves : MayServe area log_pages p
