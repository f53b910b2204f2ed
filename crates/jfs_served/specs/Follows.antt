-- How the volume after a call follows from the one before it.
use Rattle.std.specs.Prelude.{◌≡◌, ℕ, List}
use Rattle.jfs_disk.specs.declared.disk.Fault.{Fault}
use Rattle.jfs_ranges.specs.declared.edit.Edit.{Edit}
use Rattle.jfs_alike.specs.Alike.{AreAlike}
use Rattle.jfs_call.specs.files.specs.Written.{StartsWith}
use Rattle.jfs_call.specs.volume.specs.data_steps.specs.After.{after_writes, with_data}
use Rattle.jfs_call.specs.volume.specs.data_steps.specs.Laws.{PutsOwn}
use Rattle.jfs_call.specs.volume.specs.data_steps.specs.declared.pages.DataPage.{DataPage}
use Rattle.jfs_call.specs.halves.specs.Parts.{Parts}
use Rattle.jfs_call.specs.plain.specs.declared.call.Call.{Call}
use Rattle.jfs_call.specs.plain.specs.declared.refusal.Refusal.TheVariants.{IoFault}
use Rattle.jfs_call.specs.plain.specs.declared.reply.Reply.{Reply}
use Rattle.jfs_call.specs.plain.specs.declared.reply.Reply.TheVariants.{Done, Refused}
use Rattle.jfs_served.specs.Holds.{blocks_at, volume_at, KeepsTree}

-- Data is put, which alone changes no object, and no byte but those that the call writes over; and behind it the edits of a transaction are made.
pub record Moves (area : ℕ → ℕ) (call : Call) (old new : Parts) : Type 0 where
  pub tx : List Edit
  pub put : List DataPage
  pub starts : StartsWith (blocks_at old) (volume_at area old) call put
  pub size : blocks_at new ≡ blocks_at old
  pub alike : AreAlike (after_writes (blocks_at old) put tx (volume_at area old)) (volume_at area new)

-- Data was put in part, and no transaction followed: blocks that are a file's own, or aren't in use, hold other bytes.
pub record Tears (area : ℕ → ℕ) (old new : Parts) : Type 0 where
  pub put : List DataPage
  pub own : PutsOwn (blocks_at old) (volume_at area old) put
  pub size : blocks_at new ≡ blocks_at old
  pub alike : AreAlike (with_data put (volume_at area old)) (volume_at area new)

-- The volume keeps its tree and its room; or the call is done, by a transaction; or it is refused for a fault, and the write of its data failed. So the blocks that are free behind a call are those before it, but for what its transaction takes and frees.
pub data FollowsBy (area : ℕ → ℕ) (log_pages : ℕ) (call : Call) (reply : Reply) (old new : Parts) : Type 0 where
  keeps : KeepsTree area log_pages old new → FollowsBy area log_pages call reply old new
  moves : reply ≡ Done → Moves area call old new → FollowsBy area log_pages call reply old new
  tears : (fault : Fault) → reply ≡ Refused (IoFault fault) → Tears area old new → FollowsBy area log_pages call reply old new
