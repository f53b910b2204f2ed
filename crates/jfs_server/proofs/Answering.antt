-- What a volume answers a call, in the words of many clients' calls.
use Rattle.std.proofs.Common.{◌≡◌, ℕ, Bool, true, false, refl}
use Rattle.std.proofs.lemmas.Bool.{false≢true}
use Rattle.jfs_bits.specs.declared.descriptor.Moment.{Moment}
use Rattle.jfs_disk.specs.declared.disk.Disk.{Ghosts}
use Rattle.jfs_plain.specs.declared.call.Call.{Call}
use Rattle.jfs_plain.specs.declared.call.Call.TheVariants as calls
use Rattle.jfs_plain.specs.declared.call.Request.{Request}
use Rattle.jfs_plain.specs.declared.reply.Reply.{Reply}
use Rattle.jfs_shared.specs.legal.specs.served.specs.call.specs.Answer as answer
use Rattle.jfs_shared.specs.legal.specs.served.specs.call.specs.Answer.{IsAnswered}
use Rattle.jfs_shared.specs.legal.specs.served.specs.call.specs.declared.outcome.Outcome.{Outcome}
use Rattle.jfs_shared.specs.legal.specs.served.specs.call.specs.declared.outcome.Outcome.TheVariants as outcomes
use Rattle.jfs_shared.specs.legal.specs.served.specs.files.specs.Written.{renames}
use Rattle.jfs_shared.specs.legal.specs.served.specs.halves.specs.Parts.{Parts}
use Rattle.jfs_serving.specs.Calls as serving
use Rattle.jfs_serving.specs.Calls.{asked, is_rename}
use Rattle.jfs_shared.specs.Calls as shared
use Rattle.jfs_shared.specs.declared.shared.SharedVolume.{SharedVolume}
use Rattle.jfs_shared.specs.Shared.{standing as shared_standing}
use Rattle.jfs_server.specs.Served.{standing, client_of, entry_in, moment_of, answers_of, given_by}

a_rename : (call : Call) → renames call ≡ true → is_rename call ≡ true
a_rename (calls.Rename from to) e = refl
a_rename _ e = absurd (false≢true e)

waits_if : (waits : Bool) (request : Request) (reply : Reply) (old new : Parts) → answer.WaitsIf waits request reply old new → serving.WaitsIf waits request reply
waits_if true request reply old new w = (w.reply_is, w.writes_it, w.eager)
waits_if false request reply old new w = λ may. a_rename request.call ((w may.0 may.2).renames_it may.1)

module _ {D : Type 0} (d : Ghosts D) (client line : ℕ) (request : Request) (now : Moment) (old new : SharedVolume D) where
  pub call_is : (outcome : Outcome) → shared.CallIs (shared_standing d) client line request now old new outcome → IsAnswered client line request old.volume new.volume outcome
      → serving.CallIs client_of entry_in moment_of (standing d) (asked client line request now) (record { shared = old }) (record { shared = new }) (given_by outcome)
  call_is (outcomes.Replied reply number waits) c a = (
    shared.recorded client line request now reply c.0,
    record { client_is = refl; entry_is = refl; moment_is = refl },
    λ base list taken told points known s. c.1 base list taken told points known s,
    waits_if waits request reply old.volume new.volume a.waits,
  )
  call_is outcomes.NeedsLog c a = λ base list taken told points known s. c base list taken told points known s
  call_is outcomes.NoMemory c a = λ base list taken told points known s. c base list taken told points known s

  pub answers : (outcome : Outcome) → IsAnswered client line request old.volume new.volume outcome → answers_of d (asked client line request now) (record { shared = old }) (record { shared = new }) (given_by outcome)
  answers (outcomes.Replied reply number waits) a = a
  answers outcomes.NeedsLog a = a
  answers outcomes.NoMemory a = a
