-- What a call writes before its transaction, and what that transaction frees.
use Rattle.std.specs.Prelude.{◌≡◌, ◌⊎◌, ◌<◌, ◌≤◌, ℕ, Bool, true, false, List, []}
use Rattle.jfs_ranges.specs.declared.edit.Edit.{Edit}
use Rattle.jfs_plain.specs.CallStep.{LeavesRest}
use Rattle.jfs_plain.specs.declared.call.Call.{Call}
use Rattle.jfs_plain.specs.declared.call.Call.TheVariants as calls
use Rattle.jfs_plain.specs.declared.reply.Reply.TheVariants.{Done}
use Rattle.jfs_truncate.specs.objects.specs.Volume.{Volume}
use Rattle.jfs_look.specs.meaning.specs.Readers.{readers}
use Rattle.jfs_look.specs.meaning.specs.Tree.{tree_on}
use Rattle.jfs_look.specs.meaning.specs.Consistent.{IsConsistent}
use Rattle.jfs_chmod.specs.steps.specs.After.{takes, frees}
use Rattle.jfs_truncate.specs.data_steps.specs.After.{EachOnce, AreWholePages, LieWithin, with_data}
use Rattle.jfs_truncate.specs.data_steps.specs.Laws.{PutsOwn}
use Rattle.jfs_truncate.specs.data_steps.specs.declared.pages.DataPage.{DataPage}
use Rattle.jfs_files.specs.declared.outcome.FileOutcome.{FileOutcome}
use Rattle.jfs_files.specs.declared.outcome.FileOutcome.TheVariants.{Changed, Same}

-- ---- of every view

-- the blocks that are written lie within the file system part, each with a whole page
abbrev pub FitsData : ℕ → FileOutcome → Type 0
FitsData blocks (Changed tx written) = LieWithin blocks written × AreWholePages written
FitsData blocks _ = Unit {0}

-- the calls that write blocks of files
abbrev pub puts_data : Call → Bool
puts_data (calls.Write path offset new) = true
puts_data (calls.Fill path offset count byte) = true
puts_data (calls.Truncate path end) = true
puts_data _ = false

-- those that may write many
abbrev pub puts_bytes : Call → Bool
puts_bytes (calls.Write path offset new) = true
puts_bytes (calls.Fill path offset count byte) = true
puts_bytes _ = false

abbrev pub WritesNone : FileOutcome → Type 0
WritesNone (Changed tx written) = written ≡ []
WritesNone _ = Unit {0}

abbrev pub WritesOnce : FileOutcome → Type 0
WritesOnce (Changed tx written) = EachOnce written
WritesOnce _ = Unit {0}

-- ---- on a consistent volume

-- The data alone, before the transaction, leaves all objects, and all bytes but those that the call writes over; and the volume is consistent then. It goes into a regular file's own blocks, and such as aren't in use, into each once.
pub record StartsWith (blocks : ℕ) (v : Volume) (call : Call) (written : List DataPage) : Type 0 where
  pub rest : LeavesRest (tree_on (readers blocks) v) call (tree_on (readers blocks) (with_data written v))
  pub consistent : IsConsistent (readers blocks) (with_data written v)
  pub own : (written ≡ []) ⊎ PutsOwn blocks v written
  pub once : EachOnce written

abbrev pub Starts : ℕ → Volume → Call → FileOutcome → Type 0
Starts blocks v call (Changed tx written) = StartsWith blocks v call written
Starts blocks v call _ = Unit {0}

abbrev pub StartsSize : ℕ → Volume → List (List ℕ) → ℕ → FileOutcome → Type 0
StartsSize blocks v path end outcome = Starts blocks v (calls.Truncate path end) outcome

-- ---- what is freed

-- the one call that may free blocks that it took itself
abbrev pub renames : Call → Bool
renames (calls.Rename from to) = true
renames _ = false

-- no block
abbrev pub FreesNone : List Edit → Type 0
FreesNone tx = (b : ℕ) → frees tx b ≡ 0

abbrev pub FreesNothing : FileOutcome → Type 0
FreesNothing (Changed tx written) = FreesNone tx
FreesNothing _ = Unit {0}

-- blocks in use alone, each once
pub record FreesOnce (used : ℕ → Bool) (tx : List Edit) : Type 0 where
  pub owned : (b : ℕ) → 0 < frees tx b → used b ≡ true
  pub once : (b : ℕ) → frees tx b ≤ 1

abbrev pub FreesUsed : (ℕ → Bool) → FileOutcome → Type 0
FreesUsed used (Changed tx written) = FreesOnce used tx
FreesUsed used _ = Unit {0}

-- blocks in use, or such as the transaction took, each once
pub record FreesOwn (used : ℕ → Bool) (tx : List Edit) : Type 0 where
  pub owned : (b : ℕ) → 0 < frees tx b → (used b ≡ true) ⊎ (0 < takes tx b)
  pub once : (b : ℕ) → frees tx b ≤ 1

abbrev pub FreesOrTaken : (ℕ → Bool) → FileOutcome → Type 0
FreesOrTaken used (Changed tx written) = FreesOwn used tx
FreesOrTaken used _ = Unit {0}

-- ---- done without a change

-- it isn't
abbrev pub ChangesIfDone : FileOutcome → Type 0
ChangesIfDone (Same Done) = ⊥
ChangesIfDone _ = Unit {0}

-- it is a reply alone
abbrev pub RepliesAlone : FileOutcome → Type 0
RepliesAlone (Same reply) = Unit {0}
RepliesAlone _ = ⊥

-- Of the calls that may change the tree, a rename alone may be done without a change. The calls that only look change nothing, and neither does `sync`.
abbrev pub ChangesBy : Call → FileOutcome → Type 0
ChangesBy (calls.Mkdir path mode) outcome = ChangesIfDone outcome
ChangesBy (calls.Create path mode) outcome = ChangesIfDone outcome
ChangesBy (calls.Symlink path target) outcome = ChangesIfDone outcome
ChangesBy (calls.Link from to) outcome = ChangesIfDone outcome
ChangesBy (calls.Unlink path) outcome = ChangesIfDone outcome
ChangesBy (calls.Rmdir path) outcome = ChangesIfDone outcome
ChangesBy (calls.Chmod path mode) outcome = ChangesIfDone outcome
ChangesBy (calls.Write path offset new) outcome = ChangesIfDone outcome
ChangesBy (calls.Fill path offset count byte) outcome = ChangesIfDone outcome
ChangesBy (calls.Truncate path end) outcome = ChangesIfDone outcome
ChangesBy (calls.Rename from to) outcome = Unit {0}
ChangesBy _ outcome = RepliesAlone outcome
