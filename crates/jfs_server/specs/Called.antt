-- What a call tells its client.
use Rattle.std.specs.Prelude.{◌≡◌, ◌⊎◌, ◌+◌}
use Rattle.jfs_disk.specs.declared.disk.Disk.{Ghosts}
use Rattle.jfs_groups.specs.declared.log.SharedLog.{SharedLog}
use Rattle.jfs_plain.specs.declared.call.Ack.{Ack}
use Rattle.jfs_plain.specs.declared.reply.Reply.{Reply}
use Rattle.jfs_serving.specs.Calls.{Asked}
use Rattle.jfs_serving.specs.Called as serving
use Rattle.jfs_serving.specs.Called.{Keeps, HasNoEntry}
use Rattle.jfs_shared.specs.Entries.{Recorded}
use Rattle.jfs_turns.specs.declared.turns.Pass.{Pass}
use Rattle.jfs_server.specs.Served.{standing, log_standing, client_of, entry_in, moment_of, answers_of}
use Rattle.jfs_server.specs.declared.served.ServedVolume.{ServedVolume}

module _ {D : Type 0} (d : Ghosts D) where
  -- the entry of the call joined the list, behind entries of other clients and before such
  abbrev pub HasEntry : Asked → Reply → Ack → Pass (ServedVolume D) (SharedLog D d) Recorded → Pass (ServedVolume D) (SharedLog D d) Recorded → Type 0
  HasEntry a reply ack p q = serving.HasCalled client_of entry_in moment_of (standing d) (log_standing d) (answers_of d) (λ y. y.side.halted) a reply ack p.seat.me.0 q.seat.me.0 × (q.calls_left + 1 ≡ p.calls_left)

  -- memory ran out: the list grew by entries of other clients alone
  abbrev pub HasNone : Reply → Ack → Pass (ServedVolume D) (SharedLog D d) Recorded → Pass (ServedVolume D) (SharedLog D d) Recorded → Type 0
  HasNone reply ack p q = HasNoEntry client_of reply ack p.seat.me.0 q.seat.me.0 × (q.calls_left ≡ p.calls_left)

  -- The pass is the same client's, of the same server, and what it knew goes on: its base and its bounds. It hasn't come back.
  pub record KeepsPass (p q : Pass (ServedVolume D) (SharedLog D d) Recorded) : Type 0 where
    pub table : q.seat.table_id ≡ p.seat.table_id
    pub client : q.client ≡ p.client
    pub keeps : Keeps p.seat.me.0 q.seat.me.0

  pub record IsCalled (a : Asked) (reply : Reply) (ack : Ack) (p q : Pass (ServedVolume D) (SharedLog D d) Recorded) : Type 0 where
    pub keeps : KeepsPass p q
    pub called : HasEntry a reply ack p q ⊎ HasNone reply ack p q
