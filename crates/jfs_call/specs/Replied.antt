-- A reply that joins the history without a transaction.
use Rattle.std.specs.Prelude.{◌≡◌, ◌⊎◌, ℕ, Bool, true, false}
use Rattle.jfs_plain.specs.declared.call.Request.{Request}
use Rattle.jfs_plain.specs.declared.refusal.Refusal.TheVariants.{OutOfMemory, ReadOnly}
use Rattle.jfs_plain.specs.declared.reply.Reply.{Reply}
use Rattle.jfs_plain.specs.declared.reply.Reply.TheVariants.{Refused}
use Rattle.jfs_volume_calls.specs.halves.specs.Parts.{Parts}
use Rattle.jfs_volume_calls.specs.volume.specs.Join.{entry_with, with_entry}
use Rattle.jfs_call.specs.declared.outcome.Outcome.{Outcome}
use Rattle.jfs_call.specs.declared.outcome.Outcome.TheVariants.{Replied, NeedsLog, NoMemory}
use Rattle.jfs_call.specs.declared.reply.Caller.{Caller}

-- nothing but the list of entries changes
pub record IsReply (caller : Caller) (request : Request) (given : Reply) (wait : Bool) (old new : Parts) (reply : Reply) (number : ℕ) (waits : Bool) : Type 0 where
  pub reply_is : reply ≡ given
  pub waits_is : waits ≡ wait
  pub number_is : number ≡ new.appended
  pub parts : new ≡ with_entry (entry_with caller.client caller.line request given) old

abbrev pub IsReplied : Caller → Request → Reply → Bool → Parts → Parts → Outcome → Type 0
IsReplied caller request given wait old new (Replied reply entry waits) = IsReply caller request given wait old new reply entry waits
IsReplied caller request given wait old new NeedsLog = ⊥
IsReplied caller request given wait old new NoMemory = new ≡ old

-- ---- a file call that changes nothing

-- want of memory has no entry; and no file call is refused as a halted volume's
abbrev pub is_kept_back : Reply → Bool
is_kept_back (Refused OutOfMemory) = true
is_kept_back (Refused (ReadOnly fault)) = true
is_kept_back _ = false

abbrev pub TellsSame : Caller → Request → Reply → Parts → Parts → Outcome → Type 0
TellsSame caller request reply old new outcome = ((is_kept_back reply ≡ false) × IsReplied caller request reply false old new outcome) ⊎ ((outcome ≡ NoMemory) × (new ≡ old))
