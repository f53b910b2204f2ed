-- The sound core over a face.
use Rattle.std.specs.Prelude.{◌≡◌, ◌⊎◌, ◌<◌, ◌≤◌, ◌+◌, ℕ, suc, Bool, true, false, List, [], ◌∷◌, length, map, take, drop, get_or, Option, Some}
use Rattle.jfs_disk.specs.Crash.{content_of, IsCrashPage}
use Rattle.jfs_ranges.specs.declared.edit.Edit.{Edit}
use Rattle.jfs_core.specs.declared.block.Span.{Span}
use Rattle.jfs_core.specs.Core.{AreOrdered, ArePlaced}
use Rattle.jfs_core.specs.Step.{IsSynced}
use Rattle.jfs_core.specs.Sound.{BlockOk, LiesIn, SameCell}
use Rattle.jfs_kinds.specs.Owner.{Owner}
use Rattle.jfs_recovery.specs.Face.{Face, Item, Pages, item, matters, IsStep, IsRedone}
use Rattle.jfs_recovery.specs.Core.Step.{Write, WriteFails, Append, Take, GroupWrite, Told, Home, HomeFails, LowSync, SyncPoint}
use Rattle.jfs_recovery.specs.Core.{Step, Core, Slot, entry, count, image, newest, matters_at, owner_at, IsLogged}

-- the cells of a page that matter: of a map page those with an item
abbrev pub Cares : Face → ℕ → ℕ → Type 0
Cares f p c = (f.is_map p ≡ false) ⊎ ((i : Item) × (f.home i ≡ p) × (f.cell i ≡ c))

-- from `told` on a block has one owner at most
abbrev pub HasOneOwner : (ℕ → Option Owner) → ℕ → ℕ → Type 0
HasOneOwner own told n = (j k : ℕ) → told ≤ j → j ≤ n → told ≤ k → k ≤ n → (a b : Owner) → own j ≡ Some a → own k ≡ Some b → a ≡ b

-- What is known of a block whose page after k entries is `v k`, and matters then where `m k`.
pub record SlotOk (m : ℕ → Bool) (cares : ℕ → Type 0) (v : ℕ → List ℕ) (n told : ℕ) (slot : Slot) : Type 0 where
  pub ok : BlockOk (λ k. m k ≡ true) cares v n told slot.block
  -- whether it matters changes only with an entry that it is dirty with
  pub steady : (k : ℕ) → told ≤ k → k < n → LiesIn (suc k) slot.block.dirty ⊎ (m (suc k) ≡ m k)
  -- a page that may be written back matters
  pub worth : (span : Span) → slot.block.dirty ≡ Some span → span.last ≤ told → (m n ≡ true) × (m span.last ≡ true)
  -- no page mattered when data was written over it
  pub written : (h : ℕ) → slot.data_at ≡ Some h → (h ≤ n) × (m h ≡ false) × ((k : ℕ) → told ≤ k → k ≤ h → m k ≡ false)
  pub kept : (bytes : List ℕ) → slot.kept ≡ Some bytes → (m n ≡ false) × ((j : ℕ) → j ≤ length slot.block.pages.writes → content_of slot.block.pages j ≡ bytes)

abbrev pub IsOk : Face → Core → ℕ → Slot → Type 0
IsOk f core p slot = SlotOk (matters_at f core p) (Cares f p) (λ k. image core k p) (count core) core.told slot

pub record IsSound (f : Face) (core : Core) : Type 0 where
  pub counts : AreOrdered core.told core.durable core.taken (count core)
  pub points : ArePlaced core.told core.points_stable core.points_taken core.syncpoints
  pub rising : (j : ℕ) → j < length core.syncpoints → get_or core.syncpoints j 0 ≤ newest core
  pub sizes : (p : ℕ) → length (core.mounted p) ≡ 4096
  pub canonical : (p : ℕ) → f.is_map p ≡ true → f.IsMap core.mounted (item f core.mounted) p (core.mounted p)
  pub follows : (k : ℕ) → k < count core → IsStep f (image core k) (entry core k) (image core (suc k))
  pub logged : (k p : ℕ) → k < count core → f.is_map p ≡ false → IsLogged f (image core k) (entry core k) (image core (suc k)) p
  pub owners : (p : ℕ) → HasOneOwner (owner_at f core p) core.told (count core)
  pub slots : (p : ℕ) → IsOk f core p (core.slots p)
  pub passed : (p : ℕ) → IsSynced (newest core) (core.slots p).block

-- ---- what a crash leaves

-- the low part as a crash may leave it
abbrev pub IsLeft : Core → Pages → Type 0
IsLeft core low = (p : ℕ) → IsCrashPage (core.slots p).block.pages (low p)

pub record IsLogImage (core : Core) (c n : ℕ) : Type 0 where
  pub place : (j : ℕ) × (core.points_stable ≤ j + 1) × (j < core.points_taken) × (c ≡ get_or core.syncpoints j 0)
  pub durable : core.durable ≤ n
  pub taken : n ≤ core.taken

abbrev pub window : Core → ℕ → ℕ → List (List Edit)
window core c n = drop c (take n (map (λ d. d.tx) core.history))

-- Redo gives each page that matters after n entries, and leaves each that doesn't.
pub record Recovers (f : Face) (core : Core) (low : Pages) (n : ℕ) (redone : Pages) : Type 0 where
  pub gives : (p : ℕ) → matters_at f core p n ≡ true → redone p ≡ image core n p
  pub leaves : (p : ℕ) → matters_at f core p n ≡ false → redone p ≡ low p

abbrev pub AlwaysRecovers : Face → Core → Type 0
AlwaysRecovers f core = (low : Pages) (c n : ℕ) (redone : Pages) → IsLeft core low → IsLogImage core c n → IsRedone f low (window core c n) redone → Recovers f core low n redone

-- ---- a redo that was stopped

-- each cell of each page is what the crash left, or what redo gives
abbrev pub IsMixed : (low redone other : Pages) → Type 0
IsMixed low redone other = (p cell : ℕ) → cell < 256 → SameCell (other p) (low p) cell ⊎ SameCell (other p) (redone p) cell

-- ---- what was known under other words

-- an entry after which the page matters, and before which it didn't, logs it whole
pub record ComesBetween (m : ℕ → Bool) (from k : ℕ) : Type 0 where
  pub entry : ℕ
  pub after : from ≤ entry
  pub before : entry < k
  pub none : m entry ≡ false
  pub some : m (suc entry) ≡ true

-- ---- synced bytes

-- A step writes no data over a block, and doesn't make a page of it that matters.
abbrev pub Leaves : Face → ℕ → Step → Type 0
Leaves f p (Write q bytes) = p ≡ q → ⊥
Leaves f p (WriteFails q bytes sectors) = p ≡ q → ⊥
Leaves f p (Append tx t) = matters f t p ≡ false
Leaves f p Take = Unit {0}
Leaves f p GroupWrite = Unit {0}
Leaves f p Told = Unit {0}
Leaves f p (Home q) = Unit {0}
Leaves f p (HomeFails q sectors) = Unit {0}
Leaves f p LowSync = Unit {0}
Leaves f p (SyncPoint c) = Unit {0}

abbrev pub AllLeave : Face → ℕ → List Step → Type 0
AllLeave f p [] = Unit {0}
AllLeave f p (s ∷ rest) = Leaves f p s × AllLeave f p rest

-- ---- any counts

-- Other counts of entries and syncpoints of the same history and blocks, as another part may have them.
pub record MayCount (core : Core) (durable taken stable points : ℕ) : Type 0 where
  pub told_durable : core.told ≤ durable
  pub durable_taken : durable ≤ taken
  pub taken_there : taken ≤ count core
  pub some : 1 ≤ stable
  pub stable_taken : stable ≤ points
  pub points_there : points ≤ length core.syncpoints
