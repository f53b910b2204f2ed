-- What a rename answers.
use Rattle.std.specs.Prelude.{◌≡◌, ℕ, List, [], Result, Ok, Err}
use Rattle.jfs_bits.specs.declared.descriptor.Moment.{Moment}
use Rattle.jfs_create.specs.bmap.specs.States.{Blocks}
use Rattle.jfs_plain.specs.declared.refusal.Refusal.{Refusal}
use Rattle.jfs_plain.specs.declared.reply.Reply.{Reply}
use Rattle.jfs_plain.specs.declared.reply.Reply.TheVariants.{Done, Refused}
use Rattle.jfs_rename.specs.Renames.{RenamesAs}
use Rattle.jfs_rename.specs.declared.renaming.Renamed.{Renamed}
use Rattle.jfs_rename.specs.declared.renaming.Renamed.TheVariants as renamed
use Rattle.jfs_map_files.specs.declared.maps.Maps.{Maps}
use Rattle.jfs_files.specs.declared.outcome.FileOutcome.{FileOutcome}
use Rattle.jfs_files.specs.declared.outcome.FileOutcome.TheVariants.{Changed, Same, NeedsLog}

-- what is done, or why it isn't, as an outcome
abbrev pub outcome_by : Result Renamed Refusal → FileOutcome
outcome_by (Ok (renamed.Done tx)) = Changed tx []
outcome_by (Ok renamed.Same) = Same Done
outcome_by (Ok renamed.NeedsLog) = NeedsLog
outcome_by (Err why) = Same (Refused why)

-- Nothing changes, where both names are one object's; or it is refused.
abbrev pub IsRenameReply : ℕ → (ℕ → List ℕ) → Maps → List (List ℕ) → List (List ℕ) → Moment → Reply → Type 0
IsRenameReply blocks pages maps from to now Done = RenamesAs blocks pages maps.blocks maps.blocks maps.inodes from to maps.file_limit now (Ok renamed.Same)
IsRenameReply blocks pages maps from to now (Refused why) = RenamesAs blocks pages maps.blocks maps.blocks maps.inodes from to maps.file_limit now (Err why)
IsRenameReply blocks pages maps from to now _ = ⊥

-- The object gets the name, with the map that its transaction leads to; or nothing changes; or it is refused, or a commit is due, each for its cause.
abbrev pub MeetsRename : ℕ → (ℕ → List ℕ) → Maps → List (List ℕ) → List (List ℕ) → Moment → FileOutcome → Type 0
MeetsRename blocks pages maps from to now (Changed tx written) = ((after : Blocks) × RenamesAs blocks pages maps.blocks after maps.inodes from to maps.file_limit now (Ok (renamed.Done tx))) × (written ≡ [])
MeetsRename blocks pages maps from to now (Same reply) = IsRenameReply blocks pages maps from to now reply
MeetsRename blocks pages maps from to now NeedsLog = RenamesAs blocks pages maps.blocks maps.blocks maps.inodes from to maps.file_limit now (Ok renamed.NeedsLog)
