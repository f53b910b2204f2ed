-- What a call makes of the list that a volume stands for.
use Rattle.std.specs.Prelude.{◌≡◌, ◌⊎◌, ◌++◌, ◌∷◌, [], ℕ, suc, Bool, true, List, length, Option}
use Rattle.jfs_bits.specs.declared.descriptor.Moment.{Moment}
use Rattle.jfs_plain.specs.declared.call.Request.{Request}
use Rattle.jfs_plain.specs.declared.reply.Reply.{Reply}
use Rattle.jfs_records.specs.Records.{Noted}
use Rattle.jfs_turns.specs.Lists.{Base}
use Rattle.jfs_turns.specs.Standing.{Standing}
use Rattle.jfs_groups.specs.Group.{Stays}
use Rattle.jfs_kept_history.specs.legal.specs.served.specs.call.specs.declared.outcome.Outcome.{Outcome}
use Rattle.jfs_kept_history.specs.legal.specs.served.specs.call.specs.declared.outcome.Outcome.TheVariants.{Replied, NeedsLog, NoMemory}
use Rattle.jfs_kept_history.specs.legal.specs.served.specs.volume.specs.Join.{entry_with}
use Rattle.jfs_shared.specs.Entries.{Recorded}

-- a client's call, by its line, with its moment and its reply; and what it has in the log
abbrev pub recorded : ℕ → ℕ → Request → Moment → Reply → Option (List Noted) → Recorded
recorded client line request now reply noted = record { entry = entry_with client line request reply; now = now; noted = noted }

-- A call breaks the history off only where memory ran out.
abbrev pub BreaksOffBy : Bool → Bool → Outcome → Type 0
BreaksOffBy old new (Replied reply number waits) = new ≡ old
BreaksOffBy old new NeedsLog = new ≡ old
BreaksOffBy old new NoMemory = (new ≡ old) ⊎ (new ≡ true)

module _ {V : Type 0} (stands : Standing V Recorded) where
  -- Whatever list it stood for, it stands for that and one entry more, whose number it is.
  abbrev pub Joins : Recorded → ℕ → V → V → Type 0
  Joins e number old new = (base : Base) (list : List Recorded) (taken told : ℕ) (points : List ℕ) (known : ℕ)
      → stands old base list taken told points known → stands new base (list ++ e ∷ []) taken told points known × (number ≡ suc (length list))

  -- Exactly a call that is replied has an entry.
  abbrev pub CallIs : ℕ → ℕ → Request → Moment → V → V → Outcome → Type 0
  CallIs client line request now old new (Replied reply number waits) = (noted : Option (List Noted)) × Joins (recorded client line request now reply noted) number old new
  CallIs client line request now old new NeedsLog = Stays stands old new
  CallIs client line request now old new NoMemory = Stays stands old new
