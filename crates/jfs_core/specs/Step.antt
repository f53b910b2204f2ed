-- The core's steps: when each is allowed, and what it does.
use Rattle.std.specs.Prelude.{◌≡◌, ◌⊎◌, ◌<◌, ◌≤◌, ℕ, suc, Bool, true, false, if◌then◌else◌, List, [], ◌∷◌, ◌++◌, length, map, set, Option, Some, None, IsSome}
use Rattle.jfs_disk.specs.Image.{page_of}
use Rattle.jfs_disk.specs.Crash.{page_written, page_failed, resting}
use Rattle.jfs_disk.specs.declared.disk.Fault.{Fault}
use Rattle.jfs_ranges.specs.declared.edit.Edit.{Edit}
use Rattle.jfs_bits.specs.Broken.{AllHold, IsFirstBroken}
use Rattle.jfs_core.specs.declared.block.Span.{Span}
use Rattle.jfs_core.specs.declared.entry.Entry.{Entry}
use Rattle.jfs_core.specs.declared.step.Why.{Why}
use Rattle.jfs_core.specs.declared.step.Why.TheVariants as whys
use Rattle.jfs_core.specs.declared.step.FaultOf.TheVariants as faults
use Rattle.jfs_core.specs.declared.step.Step.{Step}
use Rattle.jfs_core.specs.declared.step.Step.TheVariants as steps
use Rattle.jfs_core.specs.Image.{pages_changed}
use Rattle.jfs_core.specs.Core.{Core, Block, block_of, core_image, newest_of}

-- ---- allowed

-- the last entry of a span is at most n
abbrev pub EndsBy : ℕ → Option Span → Type 0
EndsBy n None = Unit {0}
EndsBy n (Some span) = span.last ≤ n

-- the first entry of a span is past n
abbrev pub BeginsPast : ℕ → Option Span → Type 0
BeginsPast n None = Unit {0}
BeginsPast n (Some span) = n < span.first

-- a block holds the first n entries, stable
abbrev pub IsSynced : ℕ → Block → Type 0
IsSynced n block = BeginsPast n block.dirty × BeginsPast n block.unsynced

-- the page's bytes after the acknowledged entries
abbrev pub told_page : Core → ℕ → List ℕ
told_page core page = page_of (core_image core core.told) page

-- what a step may ask of a state
pub data Condition : Type 0 where
  Runs : List Edit → Condition
  NoGroupIsOpen : Condition
  LogRuns : Condition
  GroupIsOpen : Condition
  PageIsDirty : ℕ → Condition
  PageIsTold : ℕ → Condition
  CountIsTold : ℕ → Condition
  CountIsSynced : ℕ → Condition
  WouldBeWritten : ℕ → List ℕ → ℕ → Condition

-- when a condition holds
abbrev pub Holds : Core → Condition → Type 0
-- the transaction is empty, or no part has halted
Holds core (Runs tx) = (tx ≡ []) ⊎ ((core.low_halted ≡ None) × (core.log_halted ≡ None))
Holds core NoGroupIsOpen = core.grouped ≡ false
Holds core LogRuns = core.log_halted ≡ None
Holds core GroupIsOpen = core.grouped ≡ true
Holds core (PageIsDirty page) = IsSome (block_of core page).dirty
-- all that the page holds in memory alone is acknowledged
Holds core (PageIsTold page) = EndsBy core.told (block_of core page).dirty
Holds core (CountIsTold c) = c ≤ core.told
-- the count doesn't fall, and every block holds so many entries, stable
Holds core (CountIsSynced c) = (newest_of core ≤ c) × ((p : ℕ) → p < length core.blocks → IsSynced c (block_of core p))
-- the page may be written back, and these are its bytes
Holds core (WouldBeWritten page bytes sectors) =
    (sectors ≤ 8) × IsSome (block_of core page).dirty × EndsBy core.told (block_of core page).dirty × (bytes ≡ told_page core page)

-- the word that a refusal has for a condition
abbrev pub why_of : Condition → Why
why_of (Runs tx) = whys.Halted
why_of NoGroupIsOpen = whys.GroupOpen
why_of LogRuns = whys.Halted
why_of GroupIsOpen = whys.NoGroup
why_of (PageIsDirty page) = whys.NotDirty
why_of (PageIsTold page) = whys.NotTold
why_of (CountIsTold c) = whys.NotTold
why_of (CountIsSynced c) = whys.NotSynced
why_of (WouldBeWritten page bytes sectors) = whys.NotDirty

-- The conditions of each step, in the order in which they are looked at. A failed call has to be one that an allowed step makes.
abbrev pub conditions : Step → List Condition
conditions (steps.Append tx) = Runs tx ∷ []
conditions steps.Take = NoGroupIsOpen ∷ []
conditions steps.GroupWrite = LogRuns ∷ GroupIsOpen ∷ []
conditions steps.Told = []
conditions (steps.Home page) = PageIsDirty page ∷ PageIsTold page ∷ []
conditions steps.LowSync = []
conditions (steps.SyncPoint c) = CountIsTold c ∷ CountIsSynced c ∷ []
conditions (steps.Fault fault faults.Read) = []
conditions (steps.Fault fault faults.LowSync) = []
conditions (steps.Fault fault faults.GroupWrite) = LogRuns ∷ GroupIsOpen ∷ []
conditions (steps.Fault fault (faults.LowWrite page bytes sectors)) = WouldBeWritten page bytes.0 sectors ∷ []

-- each of a step's conditions holds
abbrev pub IsAllowed : Core → Step → Type 0
IsAllowed core step = AllHold (Holds core) (conditions step)

-- a step is refused for a reason: the first of its conditions that doesn't hold has that word
pub record IsRefused (core : Core) (step : Step) (why : Why) : Type 0 where
  pub condition : Condition
  pub first : IsFirstBroken (Holds core) (conditions step) condition
  pub word : why ≡ why_of condition

-- ---- does

-- a span with entry n as its last one
abbrev pub spanned : ℕ → Option Span → Span
spanned n None = record { first = n; last = n }
spanned n (Some span) = record span { last = n }

-- entry n touches a page
abbrev pub dirtied : ℕ → Block → Block
dirtied n block = record block { dirty = Some (spanned n block.dirty) }

-- from page p on, the pages that entry n changes are dirty
abbrev pub marked : (ℕ → Bool) → ℕ → ℕ → List Block → List Block
marked changed n p [] = []
marked changed n p (block ∷ blocks) = (if changed p then dirtied n block else block) ∷ marked changed n (suc p) blocks

-- a span, as it joins what is unsynced
abbrev pub joined : Option Span → Option Span → Option Span
joined None dirty = dirty
joined (Some old) None = Some old
joined (Some old) (Some dirty) = Some (record { first = old.first; last = dirty.last })

-- A low write of these bytes. The page isn't dirty any more; it is unsynced, since its first entry that was so before.
abbrev pub sent_home : List ℕ → Block → Block
sent_home bytes block = record {
  pages = page_written bytes block.pages;
  dirty = None;
  unsynced = joined block.unsynced block.dirty;
}

-- a low write that failed
abbrev pub failed_home : List ℕ → ℕ → Block → Block
failed_home bytes sectors block = record block { pages = page_failed bytes sectors block.pages }

-- what a read gives is stable
abbrev pub synced : Block → Block
synced block = record block { pages = resting block.pages.seen; unsynced = None }

-- a part keeps the first fault that halted it
abbrev pub halted_by : Fault → Option Fault → Option Fault
halted_by fault None = Some fault
halted_by fault (Some first) = Some first

-- an entry joins the history, and the pages that it changes are dirty
abbrev pub appended : Entry → Core → Core
appended entry core =
    let n = length core.history in
    record core { history = core.history ++ entry ∷ []; blocks = marked (pages_changed (core_image core n) entry) (suc n) 0 core.blocks }

-- what a step makes of a state
abbrev pub does : Core → Step → Core
does core (steps.Append tx) = appended (record { tx = tx }) core
does core steps.Take = record core { taken = length core.history; points_taken = length core.syncpoints; grouped = true }
does core steps.GroupWrite = record core { durable = core.taken; points_stable = core.points_taken; grouped = false }
does core steps.Told = record core { told = core.durable }
does core (steps.Home page) = record core { blocks = set core.blocks page (sent_home (told_page core page) (block_of core page)) }
does core steps.LowSync = record core { blocks = map synced core.blocks }
does core (steps.SyncPoint c) = record core { syncpoints = core.syncpoints ++ c ∷ [] }
does core (steps.Fault fault faults.Read) = core
does core (steps.Fault fault faults.LowSync) = record core { low_halted = halted_by fault core.low_halted }
does core (steps.Fault fault faults.GroupWrite) = record core { log_halted = halted_by fault core.log_halted }
does core (steps.Fault fault (faults.LowWrite page bytes sectors)) = record core {
  blocks = set core.blocks page (failed_home bytes.0 sectors (block_of core page));
  low_halted = halted_by fault core.low_halted;
}

-- ---- runs

-- where steps lead, one after another
abbrev pub after_steps : Core → List Step → Core
after_steps core [] = core
after_steps core (step ∷ rest) = after_steps (does core step) rest

-- each step is allowed in the state that those before it lead to
abbrev pub AreAllowed : Core → List Step → Type 0
AreAllowed core [] = Unit {0}
AreAllowed core (step ∷ rest) = IsAllowed core step × AreAllowed (does core step) rest
