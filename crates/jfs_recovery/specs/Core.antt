-- The core over a face: state and steps.
use Rattle.std.specs.Prelude.{◌≡◌, ◌⊎◌, ◌<◌, ◌≤◌, ◌-◌, ℕ, zero, suc, Bool, true, false, not, ◌&&◌, ◌==◌, nat_le, if◌then◌else◌, List, [], ◌∷◌, ◌++◌, length, get_or, Option, Some, None, IsSome}
use Rattle.jfs_disk.specs.Crash.{page_written, page_failed}
use Rattle.jfs_ranges.specs.declared.edit.Edit.{Edit}
use Rattle.jfs_core.specs.declared.block.Span.{Span}
use Rattle.jfs_core.specs.Core.{Block}
use Rattle.jfs_core.specs.Step.{EndsBy, IsSynced, dirtied, sent_home, failed_home, synced}
use Rattle.jfs_kinds.specs.Owner.{Owner}
use Rattle.jfs_recovery.specs.Face.{Face, Pages, matters, IsStep, byte}
use Rattle.jfs_kinds.specs.Owner.Owner.{Data}

-- A block: as before, and the length of the history at its newest write, where that is of data; and the bytes that a crash can't lose.
pub record Slot : Type 0 where
  pub block : Block
  pub data_at : Option ℕ
  pub kept : Option (List ℕ)

-- an entry of the history, and the image after it
pub record Done : Type 0 where
  pub tx : List Edit
  pub image : Pages

abbrev pub nothing : Done
nothing = record { tx = []; image = λ p. [] }

pub record Core : Type 0 where
  -- the image that was mounted, its map pages canonical
  pub mounted : Pages
  pub history : List Done
  pub taken : ℕ
  pub durable : ℕ
  pub told : ℕ
  pub grouped : Bool
  pub syncpoints : List ℕ
  pub points_taken : ℕ
  pub points_stable : ℕ
  pub slots : ℕ → Slot

abbrev pub count : Core → ℕ
count core = length core.history

-- the image after the first k entries
abbrev pub image : Core → ℕ → Pages
image core zero = core.mounted
image core (suc k) = (get_or core.history k nothing).image

-- the k-th entry, from 0
abbrev pub entry : Core → ℕ → List Edit
entry core k = (get_or core.history k nothing).tx

abbrev pub newest : Core → ℕ
newest core = get_or core.syncpoints (length core.syncpoints - 1) 0

-- after k entries, whether a page matters, and who owns it
abbrev pub matters_at : Face → Core → ℕ → ℕ → Bool
matters_at f core p k = matters f (image core k) p

abbrev pub owner_at : Face → Core → ℕ → ℕ → Option Owner
owner_at f core p k = f.owner (image core k) p

-- ---- busy

-- An entry that isn't acknowledged freed the block.
pub record IsBusy (own : ℕ → Option Owner) (told n : ℕ) : Type 0 where
  pub freed : ℕ
  pub since : told ≤ freed
  pub before : freed < n
  pub owned : IsSome (own freed)
  pub gone : own (suc freed) ≡ None

-- ---- what an entry must keep

-- An owner stays, or goes, or comes to a block that had none and isn't busy.
abbrev pub MayOwn : Option Owner → Option Owner → Type 0 → Type 0
MayOwn old new busy = (new ≡ old) ⊎ (new ≡ None) ⊎ ((old ≡ None) × (busy → ⊥))

-- The log of one page: a page that comes to matter, or has a NoRedo, is logged whole after that; one that ceases to matter has its
-- NoRedo, and no lines after it; no other page has lines.
pub record IsLogged (f : Face) (s : Pages) (tx : List Edit) (t : Pages) (p : ℕ) : Type 0 where
  pub whole : matters f t p ≡ true → (f.closes tx p ≡ true) ⊎ (matters f s p ≡ false) →
      (a : List ℕ) (i : ℕ) → length a ≡ 4096 → i < 4096 → byte (f.redoes tx p a) i ≡ byte (t p) i
  pub shut : matters f t p ≡ false → (a : List ℕ) → length a ≡ 4096 → f.redoes tx p a ≡ a
  pub noted : matters f t p ≡ false → matters f s p ≡ true → f.closes tx p ≡ true
  pub fixed : f.is_fixed p ≡ true → t p ≡ s p

-- A page that isn't dirty with the entry stays.
pub record IsMarked (f : Face) (s : Pages) (tx : List Edit) (t : Pages) (p : ℕ) : Type 0 where
  pub stays : f.touches s tx p ≡ false → (t p ≡ s p) × (matters f t p ≡ matters f s p)

pub record MayAppend (f : Face) (core : Core) (tx : List Edit) (t : Pages) : Type 0 where
  pub follows : IsStep f (image core (count core)) tx t
  pub logged : (p : ℕ) → f.is_map p ≡ false → IsLogged f (image core (count core)) tx t p
  pub marked : (p : ℕ) → IsMarked f (image core (count core)) tx t p
  pub owners : (p : ℕ) → MayOwn (owner_at f core p (count core)) (f.owner t p) (IsBusy (owner_at f core p) core.told (count core))

-- ---- what steps do

abbrev pub appended_slot : Face → Core → List Edit → Pages → ℕ → Slot
appended_slot f core tx t p =
    let old = core.slots p in
    record old {
      block = if f.touches (image core (count core)) tx p then dirtied (suc (count core)) old.block else old.block;
      kept = if matters f t p then None else old.kept;
    }

abbrev pub appended : Face → Core → List Edit → Pages → Core
appended f core tx t = record core { history = core.history ++ record { tx = tx; image = t } ∷ []; slots = appended_slot f core tx t }

-- acknowledged: a dirty page whose last entry is acknowledged and doesn't leave it one that matters is dropped
abbrev pub dropped : (ℕ → Bool) → ℕ → Option Span → Option Span
dropped m told None = None
dropped m told (Some span) = if nat_le span.last told && not (m span.last) then None else Some span

abbrev pub told_slot : Face → Core → ℕ → Slot
told_slot f core p =
    let old = core.slots p in
    let block = old.block in
    record old { block = record block { dirty = dropped (matters_at f core p) core.durable block.dirty } }

abbrev pub acknowledged : Face → Core → Core
acknowledged f core = record core { told = core.durable; slots = told_slot f core }

abbrev pub put : ℕ → Slot → (ℕ → Slot) → ℕ → Slot
put p slot slots q = if q == p then slot else slots q

-- a write of data
abbrev pub MayWrite : (own : ℕ → Option Owner) → ℕ → ℕ → Type 0
MayWrite own told n = ((i : ℕ) × (own n ≡ Some (Data i))) ⊎ ((own n ≡ None) × (IsBusy own told n → ⊥))

abbrev pub data_slot : ℕ → List ℕ → Slot → Slot
data_slot n bytes old =
    let block = old.block in
    record { block = record block { pages = page_written bytes block.pages }; data_at = Some n; kept = None }

abbrev pub data_failed_slot : ℕ → List ℕ → ℕ → Slot → Slot
data_failed_slot n bytes sectors old =
    let block = old.block in
    record { block = record block { pages = page_failed bytes sectors block.pages }; data_at = Some n; kept = None }

-- a write back
abbrev pub home_slot : List ℕ → Slot → Slot
home_slot bytes old = record old { block = sent_home bytes old.block; data_at = None }

abbrev pub home_failed_slot : List ℕ → ℕ → Slot → Slot
home_failed_slot bytes sectors old = record old { block = failed_home bytes sectors old.block; data_at = None }

-- a sync: blocks that don't matter are kept from then on
abbrev pub synced_slot : Face → Core → ℕ → Slot
synced_slot f core p =
    let old = core.slots p in
    let block = old.block in
    record old { block = synced block; kept = if matters_at f core p (count core) then old.kept else Some block.pages.seen }

abbrev pub synced_core : Face → Core → Core
synced_core f core = record core { slots = synced_slot f core }

-- ---- steps

pub data Step : Type 0 where
  Write : ℕ → List ℕ → Step
  WriteFails : ℕ → List ℕ → ℕ → Step
  Append : List Edit → Pages → Step
  Take : Step
  GroupWrite : Step
  Told : Step
  Home : ℕ → Step
  HomeFails : ℕ → ℕ → Step
  LowSync : Step
  SyncPoint : ℕ → Step

abbrev pub told_page : Core → ℕ → List ℕ
told_page core p = image core core.told p

abbrev pub MayGoHome : Core → ℕ → Type 0
MayGoHome core p = IsSome (core.slots p).block.dirty × EndsBy core.told (core.slots p).block.dirty

abbrev pub IsAllowed : Face → Core → Step → Type 0
IsAllowed f core (Write p bytes) = (length bytes ≡ 4096) × MayWrite (owner_at f core p) core.told (count core)
IsAllowed f core (WriteFails p bytes sectors) = (sectors ≤ 8) × (length bytes ≡ 4096) × MayWrite (owner_at f core p) core.told (count core)
IsAllowed f core (Append tx t) = MayAppend f core tx t
IsAllowed f core Take = core.grouped ≡ false
IsAllowed f core GroupWrite = core.grouped ≡ true
IsAllowed f core Told = Unit {0}
IsAllowed f core (Home p) = MayGoHome core p
IsAllowed f core (HomeFails p sectors) = (sectors ≤ 8) × MayGoHome core p
IsAllowed f core LowSync = Unit {0}
IsAllowed f core (SyncPoint c) = (c ≤ core.told) × (newest core ≤ c) × ((p : ℕ) → IsSynced c (core.slots p).block)

abbrev pub does : Face → Core → Step → Core
does f core (Write p bytes) = record core { slots = put p (data_slot (count core) bytes (core.slots p)) core.slots }
does f core (WriteFails p bytes sectors) = record core { slots = put p (data_failed_slot (count core) bytes sectors (core.slots p)) core.slots }
does f core (Append tx t) = appended f core tx t
does f core Take = record core { taken = count core; points_taken = length core.syncpoints; grouped = true }
does f core GroupWrite = record core { durable = core.taken; points_stable = core.points_taken; grouped = false }
does f core Told = acknowledged f core
does f core (Home p) = record core { slots = put p (home_slot (told_page core p) (core.slots p)) core.slots }
does f core (HomeFails p sectors) = record core { slots = put p (home_failed_slot (told_page core p) sectors (core.slots p)) core.slots }
does f core LowSync = synced_core f core
does f core (SyncPoint c) = record core { syncpoints = core.syncpoints ++ c ∷ [] }

abbrev pub AreAllowed : Face → Core → List Step → Type 0
AreAllowed f core [] = Unit {0}
AreAllowed f core (s ∷ rest) = IsAllowed f core s × AreAllowed f (does f core s) rest

abbrev pub after_steps : Face → Core → List Step → Core
after_steps f core [] = core
after_steps f core (s ∷ rest) = after_steps f (does f core s) rest
