-- What write and fill answer.
use Rattle.std.specs.Prelude.{ℕ, List, Result, Ok, Err}
use Rattle.jfs_bits.specs.declared.descriptor.Moment.{Moment}
use Rattle.jfs_create.specs.bmap.specs.States.{Blocks}
use Rattle.jfs_plain.specs.declared.call.Call.{Call}
use Rattle.jfs_plain.specs.declared.call.Call.TheVariants as calls
use Rattle.jfs_plain.specs.declared.refusal.Refusal.{Refusal}
use Rattle.jfs_plain.specs.declared.reply.Reply.{Reply}
use Rattle.jfs_plain.specs.declared.reply.Reply.TheVariants.{Refused}
use Rattle.jfs_truncate.specs.objects.specs.Volume.{Volume}
use Rattle.jfs_write.specs.Call.{IsWritten, IsStopped, IsDeep}
use Rattle.jfs_write.specs.declared.answer.Stop.{Stop}
use Rattle.jfs_write.specs.declared.answer.Stop.TheVariants as stops
use Rattle.jfs_write.specs.declared.make.Written.{Written}
use Rattle.jfs_files.specs.Written.{Starts}
use Rattle.jfs_map_files.specs.declared.maps.Maps.{Maps}
use Rattle.jfs_files.specs.declared.outcome.FileOutcome.{FileOutcome}
use Rattle.jfs_files.specs.declared.outcome.FileOutcome.TheVariants.{Changed, Same, NeedsLog}

-- what is done, or why it isn't, as an outcome
abbrev pub outcome_of : Result Written Stop → FileOutcome
outcome_of (Ok out) = Changed out.tx out.blocks
outcome_of (Err (stops.Refused why)) = Same (Refused why)
outcome_of (Err stops.NeedsLog) = NeedsLog

-- The bytes are put into the file at the end of a path, with the map that its transaction leads to; or they aren't, or a commit is due, each for its cause.
abbrev pub IsBytesRefused : ℕ → (ℕ → List ℕ) → Maps → List (List ℕ) → ℕ → ℕ → Reply → Type 0
IsBytesRefused blocks pages maps path offset count (Refused why) = IsStopped blocks pages maps.inodes path offset count maps.file_limit maps.blocks (stops.Refused why)
IsBytesRefused blocks pages maps path offset count _ = ⊥

abbrev pub MeetsBytes : ℕ → (ℕ → List ℕ) → Maps → List (List ℕ) → ℕ → List ℕ → ℕ → Moment → FileOutcome → Type 0
MeetsBytes blocks pages maps path offset bytes count now (Changed tx written) = (after : Blocks) × IsWritten blocks pages maps.inodes path offset bytes maps.file_limit now maps.blocks after (record { tx = tx; blocks = written })
MeetsBytes blocks pages maps path offset bytes count now (Same reply) = IsBytesRefused blocks pages maps path offset count reply
MeetsBytes blocks pages maps path offset bytes count now NeedsLog = IsStopped blocks pages maps.inodes path offset count maps.file_limit maps.blocks stops.NeedsLog

-- a write to a file whose tree is too deep is refused, whatever the plain step answers
abbrev pub bars : ℕ → (ℕ → List ℕ) → Maps → Call → Refusal → Type 0
bars blocks pages maps (calls.Write path offset new) why = IsDeep blocks pages maps.inodes path why
bars blocks pages maps (calls.Fill path offset count byte) why = IsDeep blocks pages maps.inodes path why
bars blocks pages maps _ why = ⊥

-- the data of each
abbrev pub StartsWrite : ℕ → Volume → List (List ℕ) → ℕ → List ℕ → FileOutcome → Type 0
StartsWrite blocks v path offset bytes outcome = Starts blocks v (calls.Write path offset bytes) outcome

abbrev pub StartsFill : ℕ → Volume → List (List ℕ) → ℕ → ℕ → ℕ → FileOutcome → Type 0
StartsFill blocks v path offset count byte outcome = Starts blocks v (calls.Fill path offset count byte) outcome
