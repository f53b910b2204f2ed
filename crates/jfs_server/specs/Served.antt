-- A mounted volume as the value of the volume turn, and the entries of its list.
use Rattle.std.specs.Prelude.{ℕ}
use Rattle.jfs_bits.specs.declared.descriptor.Moment.{Moment}
use Rattle.jfs_disk.specs.declared.disk.Disk.{Ghosts}
use Rattle.jfs_groups.specs.declared.log.SharedLog.{SharedLog}
use Rattle.jfs_shared.specs.legal.specs.served.specs.call.specs.Answer.{IsAnswered}
use Rattle.jfs_shared.specs.legal.specs.served.specs.call.specs.declared.outcome.Outcome.{Outcome}
use Rattle.jfs_shared.specs.legal.specs.served.specs.call.specs.declared.outcome.Outcome.TheVariants as outcomes
use Rattle.jfs_plain.specs.declared.call.Entry.{Entry}
use Rattle.jfs_serving.specs.Calls.{Asked}
use Rattle.jfs_serving.specs.declared.serves.Given.{Given}
use Rattle.jfs_serving.specs.declared.serves.Given.TheVariants as gives
use Rattle.jfs_shared.specs.Entries.{Recorded}
use Rattle.jfs_shared.specs.Shared as shared
use Rattle.jfs_turns.specs.Standing.{Standing}
use Rattle.jfs_server.specs.declared.served.ServedVolume.{ServedVolume}

-- it stands for what the volume stands for that it guards
abbrev pub standing : {D : Type 0} (d : Ghosts D) → Standing (ServedVolume D) Recorded
standing d v base list taken told points known = shared.standing d v.shared base list taken told points known

abbrev pub log_standing : {D : Type 0} (d : Ghosts D) → Standing (SharedLog D d) Recorded
log_standing d = shared.log_standing d

-- ---- entries

abbrev pub client_of : Recorded → ℕ
client_of e = e.entry.client

abbrev pub entry_in : Recorded → Entry
entry_in e = e.entry

abbrev pub moment_of : Recorded → Moment
moment_of e = e.now

-- ---- calls

-- an answer of a volume, as what it gives a call
abbrev pub given_by : Outcome → Given
given_by (outcomes.Replied reply entry waits) = gives.Replied reply entry waits
given_by outcomes.NeedsLog = gives.NeedsLog
given_by outcomes.NoMemory = gives.NoMemory

-- and the other way
abbrev pub outcome_by : Given → Outcome
outcome_by (gives.Replied reply entry waits) = outcomes.Replied reply entry waits
outcome_by gives.NeedsLog = outcomes.NeedsLog
outcome_by gives.NoMemory = outcomes.NoMemory

-- what a volume says of an answer: its entry, its cause, and what becomes of its counts
abbrev pub answers_of : {D : Type 0} → Ghosts D → Asked → ServedVolume D → ServedVolume D → Given → Type 0
answers_of d a old new given = IsAnswered a.client a.line a.request old.shared.volume new.shared.volume (outcome_by given)
