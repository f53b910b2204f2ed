-- What a call makes of a client, and of its marks.
use Rattle.std.proofs.Common.{◌≡◌, ◌⊎◌, ℕ, ◌+◌, Bool, true, false, nat_lt, Some, inl, inr, sym, ◌∙◌, arith}
use Rattle.std.proofs.lemmas.Bool.{false≢true, ltb-true, lt-ltb}
use Rattle.jfs_disk.specs.declared.disk.Disk.{Ghosts}
use Rattle.jfs_groups.specs.declared.log.SharedLog.{SharedLog}
use Rattle.jfs_plain.specs.declared.call.Ack.{Ack}
use Rattle.jfs_plain.specs.declared.call.Request.{Request}
use Rattle.jfs_plain.specs.declared.reply.Reply.{Reply}
use Rattle.jfs_serving.specs.Calls.{asked}
use Rattle.jfs_shared.specs.Entries.{Recorded}
use Rattle.jfs_turns.specs.declared.turns.Pass.{Pass}
use Rattle.jfs_server.specs.Called.{HasEntry, HasNone, IsCalled}
use Rattle.jfs_server.specs.Client.{marked, fails, State, Joined, Lacked, Did}
use Rattle.jfs_server.specs.declared.served.ServedVolume.{ServedVolume}

-- a call that took one of the calls left
took : (left now : ℕ) → now + 1 ≡ left → nat_lt now left ≡ true
took left now e = lt-ltb now left (omega (arith, e))

took_none : (left now : ℕ) → now ≡ left → nat_lt now left ≡ true → ⊥
took_none left now e took = let less = ltb-true now left took in absurd (omega (arith, e, less))

module _ {D : Type 0} (d : Ghosts D) (old new : State d) (line : ℕ) (request : Request) (reply : Reply) (ack : Ack) (p q : Pass (ServedVolume D) (SharedLog D d) Recorded) where
  called : (joined : Bool) → joined ≡ nat_lt q.calls_left p.calls_left → new.waits ≡ marked joined ack old.waits → new.failed ≡ fails joined ack old.failed
      → HasEntry d (asked p.client line request old.now) reply ack p q ⊎ HasNone d reply ack p q → Joined d line request reply ack old new p q ⊎ Lacked d reply ack old new p q
  called true is waits failed (inl entry) = inl (record { entry = entry; waits = waits; failed = failed })
  called true is waits failed (inr none) = absurd (took_none p.calls_left q.calls_left none.1 (sym is))
  called false is waits failed (inl entry) = absurd (false≢true (is ∙ took p.calls_left q.calls_left entry.1))
  called false is waits failed (inr none) = inr (record { none = none; waits = waits; failed = failed })

  pub did_is : (joined : Bool) → joined ≡ nat_lt q.calls_left p.calls_left → new.waits ≡ marked joined ack old.waits → new.failed ≡ fails joined ack old.failed → old.pass ≡ Some p → new.pass ≡ Some q → new.now ≡ old.now
      → IsCalled d (asked p.client line request old.now) reply ack p q → Did d old line request reply ack new
  did_is joined is waits failed had has now c = record { before = p; after = q; had = had; has = has; now = now; keeps = c.keeps; called = called joined is waits failed c.called }
