-- A legal history of a plain file tree, with the calls that were refused for a fault of the disk.
use Rattle.std.specs.Prelude.{◌≡◌, ℕ, Bool, true, false, List, None}
use Rattle.jfs_bits.specs.declared.descriptor.Moment.{Moment}
use Rattle.jfs_served.specs.halves.specs.Parts.{Parts}
use Rattle.jfs_served.specs.plain.specs.declared.call.Entry.{Entry}
use Rattle.jfs_served.specs.plain.specs.declared.refusal.Refusal.TheVariants.{IoFault, ReadOnly}
use Rattle.jfs_served.specs.plain.specs.declared.reply.Reply.{Reply}
use Rattle.jfs_served.specs.plain.specs.declared.reply.Reply.TheVariants.{Refused}
use Rattle.jfs_served.specs.Holds.{HoldsTree, KeepsTree}
use Rattle.jfs_served.specs.Legal.{Timed, IsLegal, HasServed}

-- the call was refused for a fault of the disk: its own, or that which had halted the volume
abbrev pub has_failed : Reply → Bool
has_failed (Refused (IoFault fault)) = true
has_failed (Refused (ReadOnly fault)) = true
has_failed _ = false

-- a call that was handed at this moment
abbrev pub at : Moment → Entry → Timed
at now e = record { entry = e; now = now }

-- All entries are a legal history: each reply is that of a plain file tree. A call that was refused for a fault of its own leaves all objects, and all bytes but those that it writes over.
abbrev pub AreLegal : (ℕ → ℕ) → ℕ → Parts → List Timed → Type 0
AreLegal area log_pages start es = (last : Parts) × IsLegal area log_pages start es last

-- They are, and the next call may come: what the calls so far have served, by the name that it has here.
abbrev pub GoOn : (ℕ → ℕ) → ℕ → Parts → List Timed → Parts → Type 0
GoOn area log_pages start es p = HasServed area log_pages start es p

-- They are, and no call comes any more: the volume is still a consistent one, and while it runs it has the tree of the last of them.
pub record IsOver (area : ℕ → ℕ) (log_pages : ℕ) (start : Parts) (es : List Timed) (p : Parts) : Type 0 where
  pub last : Parts
  pub legal : IsLegal area log_pages start es last
  pub holds : HoldsTree area log_pages p
  pub keeps : p.halted ≡ None → KeepsTree area log_pages last p
