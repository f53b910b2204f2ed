-- What became of the calls of clients' scripts: their entries, and the numbers that were told durable.
use Rattle.std.specs.Prelude.{◌≡◌, ◌≤◌, ◌∷◌, ◌&&◌, ◌==◌, [], ℕ, suc, Bool, true, false, not, if◌then◌else◌, List, length, take}
use Rattle.std.specs.List.{AllByRecursion}
use Rattle.jfs_server.specs.shared.specs.legal.specs.served.specs.files.specs.Written.{renames}
use Rattle.jfs_plain.specs.CallStep.{writes}
use Rattle.jfs_plain.specs.declared.call.Entry.{Entry}
use Rattle.jfs_plain.specs.declared.call.Line.{Line}
use Rattle.jfs_plain.specs.declared.call.Request.{Request}
use Rattle.jfs_plain.specs.declared.reply.Reply.{Reply}
use Rattle.jfs_plain.specs.declared.reply.Reply.TheVariants.{Done}
-- whether a call was refused for a fault of the disk
pub use Rattle.jfs_server.specs.shared.specs.Faults.{any_failed}

-- ---- entries

-- the entry of a line of this client: its call, with some reply
pub record IsEntryOf (client : ℕ) (l : Line) (e : Entry) : Type 0 where
  pub client_is : e.client ≡ client
  pub line : e.line ≡ l.number
  pub call : e.call ≡ l.request.call
  pub lazy : e.lazy ≡ l.request.lazy

-- a client's lines have these entries, each its own, in their order
abbrev pub AreEntriesOf : ℕ → List Line → List Entry → Type 0
AreEntriesOf client [] [] = Unit {0}
AreEntriesOf client [] (e ∷ es) = ⊥
AreEntriesOf client (l ∷ ls) [] = ⊥
AreEntriesOf client (l ∷ ls) (e ∷ es) = IsEntryOf client l e × AreEntriesOf client ls es

-- so has a front of them
abbrev pub BeginWith : ℕ → List Line → List Entry → Type 0
BeginWith client lines es = (n : ℕ) × (n ≤ length lines) × AreEntriesOf client (take n lines) es

-- the entries of a client, in their order
abbrev pub entries_of : ℕ → List Entry → List Entry
entries_of client [] = []
entries_of client (e ∷ es) = if e.client == client then e ∷ entries_of client es else entries_of client es

-- Scripts of clients, the first one's that of this client, the next one's that of the next: `P` holds of each client's lines and its entries.
abbrev pub EachClient : (ℕ → List Line → List Entry → Type 0) → ℕ → List (List Line) → List Entry → Type 0
EachClient P client [] history = Unit {0}
EachClient P client (lines ∷ more) history = P client lines (entries_of client history) × EachClient P (suc client) more history

-- no entry is of another client than 1 to n
abbrev pub AreOfClients : ℕ → List Entry → Type 0
AreOfClients n history = AllByRecursion (λ (e : Entry). (1 ≤ e.client) × (e.client ≤ n)) history

-- Each client's lines have their entries in the history, in their order, whatever entries of other clients stand between; and there are no others.
pub record HaveEntries (plan : List (List Line)) (history : List Entry) : Type 0 where
  pub each : EachClient AreEntriesOf 1 plan history
  pub others : AreOfClients (length plan) history

-- so has a front of each client's lines
pub record HaveFronts (plan : List (List Line)) (history : List Entry) : Type 0 where
  pub each : EachClient BeginWith 1 plan history
  pub others : AreOfClients (length plan) history

-- ---- what is told

abbrev pub is_done : Reply → Bool
is_done Done = true
is_done _ = false

-- A call waits to be durable where it is done, may change the tree or is `sync`, and isn't lazy.
abbrev pub waits_with : Request → Reply → Bool
waits_with request reply = is_done reply && (not request.lazy && writes request.call)

abbrev pub waits : Entry → Bool
waits e = waits_with (record { call = e.call; lazy = e.lazy }) e.reply

-- What was taken to wait. A rename that changes nothing waits for nothing, so of a rename both may be.
abbrev pub IsTakenAs : Entry → Bool → Type 0
IsTakenAs e true = waits e ≡ true
IsTakenAs e false = waits e ≡ true → renames e.call ≡ true

abbrev pub AreTakenAs : List Entry → List Bool → Type 0
AreTakenAs [] [] = Unit {0}
AreTakenAs [] (w ∷ ws) = ⊥
AreTakenAs (e ∷ es) [] = ⊥
AreTakenAs (e ∷ es) (w ∷ ws) = IsTakenAs e w × AreTakenAs es ws

-- the numbers of those that were, of entries that are numbered from this one on
abbrev pub waiting_from : ℕ → List Bool → List ℕ
waiting_from n [] = []
waiting_from n (w ∷ ws) = if w then n ∷ waiting_from (suc n) ws else waiting_from (suc n) ws

-- ---- both

-- the entries of the calls, and the numbers that were told
pub record Calls : Type 0 where
  pub history : List Entry
  pub told : List ℕ

-- each entry that waits was told
pub record AllTold (c : Calls) : Type 0 where
  pub waiting : List Bool
  pub are : AreTakenAs c.history waiting
  pub told_is : c.told ≡ waiting_from 1 waiting

-- The first ones were: whatever was left out stands behind all that was told.
pub record FirstTold (c : Calls) : Type 0 where
  pub waiting : List Bool
  pub are : AreTakenAs c.history waiting
  pub count : ℕ
  pub told_is : c.told ≡ take count (waiting_from 1 waiting)

abbrev pub NoCalls : Calls → Type 0
NoCalls c = (c.history ≡ []) × (c.told ≡ [])

-- each line was called
abbrev pub AllCalled : List (List Line) → Calls → Type 0
AllCalled plan c = HaveEntries plan c.history × FirstTold c

-- a front of each client's lines was
abbrev pub SomeCalled : List (List Line) → Calls → Type 0
SomeCalled plan c = HaveFronts plan c.history × FirstTold c
