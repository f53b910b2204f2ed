-- Both turns in one hand, between the calls of their holder.
use Rattle.std.specs.Prelude.{◌≡◌, ◌≤◌, ℕ, suc, List, [], ◌∷◌, ◌++◌, length}
use Rattle.atomic_table.specs.Seated.{TableId}
use Rattle.jfs_bits.specs.declared.descriptor.Moment.{Moment}
use Rattle.jfs_plain.specs.declared.call.Entry.{Entry}
use Rattle.jfs_plain.specs.declared.reply.Reply.{Reply}
use Rattle.jfs_turns.specs.Both.{AreOf as HalvesAreOf, AreHeld, whole}
use Rattle.jfs_turns.specs.Lists.{IsPrefix}
use Rattle.jfs_turns.specs.Standing.{Standing, VolumeStands, LogStands}
use Rattle.jfs_turns.specs.declared.both.BothTurns.{BothTurns}
use Rattle.jfs_turns.specs.declared.view.View.{View}
use Rattle.jfs_serving.specs.Calls.{Asked, WaitsIf, IsEntryOf}
use Rattle.jfs_serving.specs.Called.{IsAnsweredAt}
use Rattle.jfs_serving.specs.Room.{Seen, HasRoom}
use Rattle.jfs_serving.specs.declared.serves.Given.{Given}
use Rattle.jfs_serving.specs.declared.serves.Given.TheVariants.{Replied, NeedsLog, NoMemory}

-- what both halves know of the log: its list is a front of the volume's, both have the same syncpoints, no bound passes the log's counts, and these are in order
pub record Knows {E : Type 0} (u : View E) : Type 0 where
  pub front : IsPrefix u.log_list u.list
  pub points : u.log_points ≡ u.points
  pub durable_exact : u.durable ≤ u.log_durable
  pub stable_exact : u.stable ≤ u.log_stable
  pub durable_within : u.log_durable ≤ length u.log_list
  pub durable_taken : u.log_durable ≤ u.taken
  pub stable_within : u.log_stable ≤ length u.log_points

-- what they know, as the two values may stand for
abbrev pub seen_of : {E : Type 0} → View E → ℕ → ℕ → Seen E
seen_of u told known = record { base = u.base; list = u.list; log_list = u.log_list; taken = u.taken; told = told; durable = u.log_durable; points = u.points; known = known; stable = u.log_stable }

-- with one entry more
abbrev pub with_entry : {E : Type 0} → View E → E → View E
with_entry u e = record u { list = u.list ++ e ∷ [] }

module _ {V L E : Type 0} where
  abbrev pub IsBothOf : TableId → BothTurns V L E → Type 0
  IsBothOf table both = HalvesAreOf table both × AreHeld both

  -- the pass and its calls left are the same
  abbrev pub IsSamePass : BothTurns V L E → BothTurns V L E → Type 0
  IsSamePass old new = (new.volume.client ≡ old.volume.client) × (new.log.client ≡ old.log.client) × (new.volume.calls_left ≡ old.volume.calls_left)

  module _ (of_volume : Standing V E) (of_log : Standing L E) where
    -- both values stand for what the halves know
    pub record BothStand (both : BothTurns V L E) : Type 0 where
      pub volume : VolumeStands of_volume both.volume.value (whole both)
      pub log : LogStands of_log both.log.value (whole both)
      pub knows : Knows (whole both)

    -- they have made room, and nothing is marked yet
    pub record BothHaveRoom (count : V → ℕ) (both : BothTurns V L E) : Type 0 where
      pub points : List ℕ
      pub has : HasRoom of_volume of_log count (seen_of (whole both) 0 0) points both.volume.value both.log.value
      pub knows : Knows (whole both)

module _ {V E : Type 0} (client : E → ℕ) (entry : E → Entry) (moment : E → Moment) (of_volume : Standing V E) (answers : Asked → V → V → Given → Type 0) where
  -- The volume stands for what was known and the call's entry.
  pub record IsJoined (a : Asked) (reply : Reply) (u : View E) (x : V) (e : E) : Type 0 where
    pub is : IsEntryOf client entry moment a reply e
    pub stands : VolumeStands of_volume x (with_entry u e)
    pub answered : IsAnsweredAt of_volume answers a reply u.base u.list

  -- where the call is replied; else for what was known
  abbrev pub AsksIs : Asked → View E → V → Given → Type 0
  AsksIs a u x (Replied reply number waits) = (e : E) × IsJoined a reply u x e × (number ≡ suc (length u.list)) × WaitsIf waits a.request reply
  AsksIs a u x NeedsLog = VolumeStands of_volume x u
  AsksIs a u x NoMemory = VolumeStands of_volume x u
