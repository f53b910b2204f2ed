-- What a call on a volume does: the plain step, or it is refused for a fault or for damage, which no plain step is.
use Rattle.std.specs.Prelude.{◌≡◌, ℕ, ◌+◌, ◌/◌, ◌==◌, ◌&&◌, ◌||◌, nat_le, nat_lt, Bool, true, false, length, Result, Ok, Err}
use Rattle.jfs_bits.specs.declared.descriptor.Moment.{Moment}
use Rattle.jfs_bits.specs.declared.rule.Rule.{Rule}
use Rattle.jfs_disk.specs.declared.disk.Fault.{Fault}
use Rattle.jfs_plain.specs.Call.{is_changing}
use Rattle.jfs_plain.specs.Tree.{Tree, Found}
use Rattle.jfs_plain.specs.Moves.{Same}
use Rattle.jfs_plain.specs.Step.{Room, PlainStep, file}
use Rattle.jfs_plain.specs.declared.call.Call.{Call}
use Rattle.jfs_plain.specs.declared.call.Call.TheVariants as calls
use Rattle.jfs_plain.specs.declared.refusal.Refusal.{Refusal}
use Rattle.jfs_plain.specs.declared.refusal.Refusal.TheVariants.{NotFile, ReadOnly, IoFault, Damaged}
use Rattle.jfs_plain.specs.declared.reply.Reply.{Reply}
use Rattle.jfs_plain.specs.declared.reply.Reply.TheVariants.{Refused}

-- What a volume may meet beside the tree. Whoever says what a call does says when each of these is so.
pub record Causes : Type 1 where
  -- the volume had halted at this fault before the call
  pub halted : Fault → Type 0
  -- a device failed in the call, with this fault
  pub failed : Fault → Type 0
  -- this page, which the call read, breaks this rule
  pub damaged : ℕ → Rule → Type 0

-- A call that a halted volume refuses: one that may change the tree, and `sync`.
abbrev pub is_sync : Call → Bool
is_sync calls.Sync = true
is_sync _ = false

abbrev pub writes : Call → Bool
writes call = is_changing call || is_sync call

-- ---- what a fault leaves

-- the file whose bytes a call writes over
abbrev pub written_file : Tree → Call → Result Found Refusal
written_file t (calls.Write path offset new) = file t path
written_file t (calls.Fill path offset count byte) = file t path
written_file t (calls.Truncate path end) = file t path
written_file t _ = Err NotFile

abbrev pub is_between : ℕ → ℕ → ℕ → Bool
is_between i first end = nat_le first i && nat_lt i end

-- Whether a call writes over byte i of a file of so many bytes. A truncate zeroes the rest of the block in which the new end lies. What a write past
-- the end and a truncate that lengthens zero lies behind the end, and so do the bytes that such a write puts: none is a byte of the file yet.
abbrev pub writes_over : Call → ℕ → ℕ → Bool
writes_over (calls.Write path offset new) size i = nat_lt i size && is_between i offset (offset + length new)
writes_over (calls.Fill path offset count byte) size i = nat_lt i size && is_between i offset (offset + count)
writes_over (calls.Truncate path end) size i = nat_lt i size && (nat_le end i && (i / 4096 == end / 4096))
writes_over _ size i = false

abbrev pub writes_over_in : Result Found Refusal → Call → ℕ → ℕ → Bool
writes_over_in (Err why) call n i = false
writes_over_in (Ok o) call n i = o.inode == n && writes_over call o.node.size i

-- A call that failed leaves all objects, and all bytes but those that it writes over.
pub record LeavesRest (t : Tree) (call : Call) (u : Tree) : Type 0 where
  pub nodes : (n : ℕ) → u.nodes n ≡ t.nodes n
  pub bytes : (n i : ℕ) → writes_over_in (written_file t call) call n i ≡ false → u.bytes n i ≡ t.bytes n i

-- ---- the step of a call

abbrev pub RefusedStep : Causes → Tree → Room → Call → Moment → Refusal → Tree → Type 0
RefusedStep causes t room call now (ReadOnly fault) u = causes.halted fault × (writes call ≡ true) × Same t u
RefusedStep causes t room call now (IoFault fault) u = causes.failed fault × LeavesRest t call u
RefusedStep causes t room call now (Damaged page rule) u = causes.damaged page rule × Same t u
RefusedStep causes t room call now why u = PlainStep t room call now (Refused why) u

-- Of this tree, with this room, the call gets this reply, and leaves that tree.
abbrev pub CallStep : Causes → Tree → Room → Call → Moment → Reply → Tree → Type 0
CallStep causes t room call now (Refused why) u = RefusedStep causes t room call now why u
CallStep causes t room call now reply u = PlainStep t room call now reply u

-- ---- its laws

-- nothing fails and nothing is damaged; and whatever may be
abbrev pub no_cause : Causes
no_cause = record { halted = λ fault. ⊥; failed = λ fault. ⊥; damaged = λ page rule. ⊥ }

abbrev pub any_cause : Causes
any_cause = record { halted = λ fault. Unit {0}; failed = λ fault. Unit {0}; damaged = λ page rule. Unit {0} }

-- The plain steps are the steps of calls in which nothing fails and nothing is damaged.
pub record CallStepLaw : Type 0 where
  pub plain_is_call : (t u : Tree) (room : Room) (call : Call) (now : Moment) (reply : Reply) → PlainStep t room call now reply u → CallStep no_cause t room call now reply u
  pub call_is_plain : (t u : Tree) (room : Room) (call : Call) (now : Moment) (reply : Reply) → CallStep no_cause t room call now reply u → PlainStep t room call now reply u

abbrev pub is_io_fault : Refusal → Bool
is_io_fault (IoFault fault) = true
is_io_fault _ = false

-- a call that is refused for another cause than a fault in it leaves the tree
abbrev pub RefusalLaw : Type 0
RefusalLaw = (t u : Tree) (room : Room) (call : Call) (now : Moment) (why : Refusal) → is_io_fault why ≡ false → CallStep any_cause t room call now (Refused why) u → Same t u
