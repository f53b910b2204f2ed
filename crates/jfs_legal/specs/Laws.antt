-- What calls and commits leave of a legal history, on a disk that tells its contents.
use Rattle.std.specs.Prelude.{◌≡◌, ◌⊎◌, ◌++◌, ◌∷◌, [], ℕ, List, None}
use Rattle.jfs_served.specs.halves.specs.Parts.{Parts}
use Rattle.jfs_served.specs.call.specs.Does.{Does}
use Rattle.jfs_served.specs.call.specs.DoesLent.{Both, Asking, End, NeedsThen, DoesAgain}
use Rattle.jfs_served.specs.call.specs.declared.outcome.Outcome.{Outcome}
use Rattle.jfs_served.specs.call.specs.declared.outcome.Outcome.TheVariants.{Replied, NeedsLog, NoMemory}
use Rattle.jfs_served.specs.volume.specs.Join.{entry_with}
use Rattle.jfs_served.specs.volume.specs.Settles.{Settles, StaysShown}
use Rattle.jfs_served.specs.volume_calls.specs.Written.{KeepsPages, LeavesMaps}
use Rattle.jfs_served.specs.Holds.{MayServe}
use Rattle.jfs_served.specs.Legal.{Timed}
use Rattle.jfs_legal.specs.History.{at, AreLegal, GoOn, IsOver}

-- What a call leaves of a history that goes on: with its entry it goes on; one that needs the log has none, and may be asked again; and where memory lacked the entries so far are legal.
abbrev pub Leaves : (ℕ → ℕ) → ℕ → Parts → List Timed → Asking → Parts → Outcome → Type 0
Leaves area log_pages start es a new (Replied reply number waits) = GoOn area log_pages start (es ++ at a.now (entry_with a.caller.client a.caller.line a.request reply) ∷ []) new
Leaves area log_pages start es a new NeedsLog = GoOn area log_pages start es new
Leaves area log_pages start es a new NoMemory = AreLegal area log_pages start es

-- at the start
abbrev pub BeginLaw : Type 0
BeginLaw = (area : ℕ → ℕ) (log_pages : ℕ) (start : Parts) → MayServe area log_pages start → GoOn area log_pages start [] start

-- what goes on is legal
abbrev pub LegalLaw : Type 0
LegalLaw = (area : ℕ → ℕ) (log_pages : ℕ) (start : Parts) (es : List Timed) (p : Parts) → GoOn area log_pages start es p → AreLegal area log_pages start es

-- a call that is lent no log
abbrev pub CallLaw : (tells crashes : Type 0) → Type 0
CallLaw tells crashes = tells → (area : ℕ → ℕ) (log_pages : ℕ) (start : Parts) (es : List Timed) (a : Asking) (old new : Parts) (outcome : Outcome)
    → GoOn area log_pages start es old → Does tells crashes a.caller a.request a.now old new outcome → Leaves area log_pages start es a new outcome

-- a call that is lent the log
abbrev pub LentLaw : (tells crashes : Type 0) → Type 0
LentLaw tells crashes = tells → (area : ℕ → ℕ) (log_pages : ℕ) (start : Parts) (es : List Timed) (a : Asking) (old : Both) (end : End)
    → GoOn area log_pages start es old.volume → Does tells crashes a.caller a.request a.now old.volume end.both.volume end.outcome ⊎ NeedsThen tells crashes a (DoesAgain tells crashes a) old end
    → Leaves area log_pages start es a end.both.volume end.outcome

-- Groups are taken, entries are acknowledged, a volume halts: pages stay but for those that entries freed.
abbrev pub SettledLaw : (tells : Type 0) → Type 0
SettledLaw tells = tells → (area : ℕ → ℕ) (log_pages : ℕ) (start : Parts) (es : List Timed) (old new : Parts)
    → GoOn area log_pages start es old → Settles old new → KeepsPages tells old new → GoOn area log_pages start es new

-- pages go home, and those of the maps are written, or some of them where a write failed
abbrev pub PointedLaw : (tells : Type 0) → Type 0
PointedLaw tells = tells → (area : ℕ → ℕ) (log_pages : ℕ) (start : Parts) (es : List Timed) (old new : Parts)
    → GoOn area log_pages start es old → Settles old new → StaysShown tells old new → LeavesMaps old new → GoOn area log_pages start es new

-- entries are handed out
abbrev pub HandedLaw : Type 0
HandedLaw = (area : ℕ → ℕ) (log_pages : ℕ) (start : Parts) (es : List Timed) (old : Parts)
    → GoOn area log_pages start es old → GoOn area log_pages start es (record old { entries = [] })

-- ---- a history that is over

-- One that goes on may end;
abbrev pub OverLaw : Type 0
OverLaw = (area : ℕ → ℕ) (log_pages : ℕ) (start : Parts) (es : List Timed) (p : Parts) → GoOn area log_pages start es p → IsOver area log_pages start es p

-- and it does where memory lacks for a call that is lent no log.
abbrev pub LackedLaw : (tells crashes : Type 0) → Type 0
LackedLaw tells crashes = tells → (area : ℕ → ℕ) (log_pages : ℕ) (start : Parts) (es : List Timed) (a : Asking) (old new : Parts)
    → GoOn area log_pages start es old → Does tells crashes a.caller a.request a.now old new NoMemory → IsOver area log_pages start es new

-- It stays so where groups are taken, entries are acknowledged, and a volume halts,
abbrev pub OverSettledLaw : (tells : Type 0) → Type 0
OverSettledLaw tells = tells → (area : ℕ → ℕ) (log_pages : ℕ) (start : Parts) (es : List Timed) (old new : Parts)
    → IsOver area log_pages start es old → Settles old new → KeepsPages tells old new → (new.halted ≡ None → old.halted ≡ None) → IsOver area log_pages start es new

-- where pages go home, with those of the maps,
abbrev pub OverPointedLaw : (tells : Type 0) → Type 0
OverPointedLaw tells = tells → (area : ℕ → ℕ) (log_pages : ℕ) (start : Parts) (es : List Timed) (old new : Parts)
    → IsOver area log_pages start es old → Settles old new → StaysShown tells old new → LeavesMaps old new → (new.halted ≡ None → old.halted ≡ None) → IsOver area log_pages start es new

-- and where entries are handed out.
abbrev pub OverHandedLaw : Type 0
OverHandedLaw = (area : ℕ → ℕ) (log_pages : ℕ) (start : Parts) (es : List Timed) (old : Parts)
    → IsOver area log_pages start es old → IsOver area log_pages start es (record old { entries = [] })
