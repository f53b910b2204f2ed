-- What clients are to do.
use Rattle.std.specs.Prelude.{◌≡◌, ◌<◌, ℕ, zero, suc, List, [], ◌∷◌, Result, Ok, Err}
use Rattle.std.specs.Global.{Vec}
use Rattle.jfs_gen.specs.Workload.{lines_of}
use Rattle.jfs_plain.specs.declared.call.Line.{Line}
use Rattle.jfs_run.specs.Tasks.{plan_of}
use Rattle.jfs_command.specs.declared.printed.Printed.{Printed}
use Rattle.jfs_command.specs.declared.printed.Printed.TheVariants.{History, Summary}
use Rattle.jfs_command.specs.declared.status.Status.{Status}
use Rattle.jfs_command.specs.Scripts.{ScriptsSay}

-- The lines of each client, that of the first one first, and what is printed of it.
pub record Planned : Type 0 where
  pub plan : List (List Line)
  pub printed : Printed

-- scripts as lists of lines, with what is printed of them
abbrev pub planned : List (Vec Line) → Printed → Planned
planned scripts printed = record { plan = plan_of scripts; printed = printed }

-- The clients' numbers have two digits at most.
abbrev pub IsPrintable : Printed → Type 0
IsPrintable History = Unit {0}
IsPrintable (Summary clients) = clients < 99

-- ---- generated scripts

-- those of so many clients, from this one on, with so many calls each
abbrev pub scripts_from : ℕ → ℕ → ℕ → ℕ → List (List Line)
scripts_from number calls client zero = []
scripts_from number calls client (suc more) = lines_of number client calls ∷ scripts_from number calls (suc client) more

abbrev pub generated : ℕ → ℕ → ℕ → Planned
generated number calls clients = record { plan = scripts_from number calls 1 clients; printed = Summary clients }

-- ---- orders

-- What is asked for: scripts, of which the history is printed; or generated ones, by a number, how many calls a client has, and how many clients there are.
pub data Order : Type 0 where
  by_scripts : List (List ℕ) → Order
  by_number : ℕ → ℕ → ℕ → Order

-- what is to be done, or why that is refused before the disk is looked at
abbrev pub Asks : Order → Result Planned Status → Type 0
Asks (by_scripts scripts) (Ok p) = ScriptsSay scripts (Ok p.plan) × (p.printed ≡ History)
Asks (by_scripts scripts) (Err status) = ScriptsSay scripts (Err status)
Asks (by_number number calls clients) (Ok p) = p ≡ generated number calls clients
Asks (by_number number calls clients) (Err status) = ⊥

-- it is refused in no way
abbrev pub IsTaken : Order → Type 0
IsTaken order = (p : Planned) × Asks order (Ok p)
