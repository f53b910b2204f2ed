-- Clients of a server, as what goes through scripts.
use Rattle.std.specs.Prelude.{ℕ, vec_capacity}
use Rattle.jfs_disk.specs.declared.disk.Disk.{Ghosts}
use Rattle.jfs_plain.specs.declared.call.Ack.{Ack}
use Rattle.jfs_plain.specs.declared.call.Request.{Request}
use Rattle.jfs_plain.specs.declared.reply.Reply.{Reply}
use Rattle.jfs_server.specs.Client.{State, left_of, Did}
use Rattle.jfs_server.specs.declared.client.Client.{Client}

module _ {D G : Type 0} (d : Ghosts D) where
  abbrev pub state_of : Client D G d → State d
  state_of c = record { pass = c.pass; now = c.now; waits = c.waits.items; failed = c.failed }

  -- how many calls it has left
  abbrev pub left_in : Client D G d → ℕ
  left_in c = left_of d c.pass (vec_capacity c.waits) c.waits.items

  -- what a call of it does
  abbrev pub did_in : Client D G d → ℕ → Request → Reply → Ack → Client D G d → Type 0
  did_in c line request reply ack after = Did d (state_of c) line request reply ack (state_of after)
