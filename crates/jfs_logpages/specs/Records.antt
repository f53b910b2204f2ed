-- Records that are written one after the other, and what a reading finds of them.
use Rattle.std.specs.Prelude.{◌≡◌, ◌⊎◌, ℕ, ◌+◌, ⊤, IsTrue, List, [], ◌∷◌, length, flat_map, Option, Some, None}
use Rattle.std.specs.List.{AllByRecursion}
use Rattle.jfs_logfmt.specs.declared.log_record.Record.{Record}
use Rattle.jfs_logfmt.specs.declared.log_record.Record.TheVariants as records
use Rattle.jfs_logfmt.specs.Rules.{IsRecordOf}
use Rattle.jfs_logfmt.specs.Written.{Fits, HasNumbers, body_text, text_of}
use Rattle.jfs_logpages.specs.Back.{address_at, Met, is_followed}

-- the bytes of all
abbrev pub log_text : List Record → List ℕ
log_text rs = flat_map text_of rs

-- how many bytes a record's text has, wherever it stands
abbrev pub size_of : Record → ℕ
size_of r = length (body_text r) + 36

abbrev pub sizes_of : List Record → ℕ
sizes_of [] = 0
sizes_of (r ∷ rs) = size_of r + sizes_of rs

-- where records end, from a place on
abbrev pub ends_of : ℕ → List Record → List ℕ
ends_of from [] = []
ends_of from (r ∷ rs) = (from + size_of r) ∷ ends_of (from + size_of r) rs

-- where they stand
abbrev pub stands_at : ℕ → Record → Met
stands_at from r = record { start = from; end = from + size_of r; is = r }

abbrev pub stand_at : ℕ → List Record → List Met
stand_at from [] = []
stand_at from (r ∷ rs) = stands_at from r ∷ stand_at (from + size_of r) rs

-- a record of a volume of so many blocks that is read back as it is written
pub record IsWhole (blocks : ℕ) (r : Record) : Type 0 where
  pub fits : Fits r
  pub numbers : HasNumbers r
  pub kept : IsRecordOf blocks r

abbrev pub AreWhole : ℕ → List Record → Type 0
AreWhole blocks rs = AllByRecursion (IsWhole blocks) rs

-- ---- A place counts the bytes of the ring's text from page number 0 on.

abbrev pub first_record_of : List Record → Option Record
first_record_of [] = None
first_record_of (r ∷ rs) = Some r

-- each of records from a place on may be followed by the next one
abbrev pub IsChain : ℕ → ℕ → List Record → Type 0
IsChain ring at [] = ⊤
IsChain ring at (r ∷ rs) = IsTrue (is_followed (address_at ring 0 (at + size_of r)) r (first_record_of rs)) × IsChain ring (at + size_of r) rs

abbrev pub sync_in : Record → Option ℕ
sync_in (records.SyncPt sync) = Some sync
sync_in (records.Redo _ _ _ _ _ _ _ _) = None
sync_in (records.NoRedo _ _ _ _ _ _) = None
sync_in (records.Update _ _ _ _ _ _) = None
sync_in (records.Commit _ _) = None

abbrev pub later_or : Option ℕ → Option ℕ → Option ℕ
later_or (Some later) earlier = Some later
later_or None earlier = earlier

-- the address that the newest SYNCPT gives
abbrev pub newest_sync : List Record → Option ℕ
newest_sync [] = None
newest_sync (r ∷ rs) = later_or (newest_sync rs) (sync_in r)

-- Redo begins at the first of records from a place on: the newest SYNCPT gives its address; or it is the newest SYNCPT and gives 0, its own.
abbrev pub BeginsAt : ℕ → ℕ → List Record → Type 0
BeginsAt ring at [] = ⊥
BeginsAt ring at (r ∷ rs) = (newest_sync (r ∷ rs) ≡ Some (address_at ring 0 (at + size_of r))) ⊎ ((r ≡ records.SyncPt 0) × (newest_sync rs ≡ None))
