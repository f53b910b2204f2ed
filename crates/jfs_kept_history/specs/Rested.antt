-- A kept volume and its log, which runs or has halted, and what a crash leaves of the disk then.
use Rattle.std.specs.Prelude.{◌≡◌, ◌⊎◌, ◌≤◌, ◌-◌, ◌++◌, ◌∷◌, [], ℕ, List, length, take, drop}
use Rattle.jfs_disk.specs.Crash.{IsCrashImage, last_of}
use Rattle.jfs_disk.specs.Image.{Image, page_of}
use Rattle.jfs_super.specs.declared.fields.Super.{Super}
use Rattle.jfs_logpages.specs.Fresh.{super_page}
use Rattle.jfs_logpages.specs.declared.last.Last.{Last}
use Rattle.jfs_records.specs.Entries.{Item, point}
use Rattle.jfs_groups.specs.Text.{AreCounts, FrontOf, HoldsText, items_with}
use Rattle.jfs_legal.specs.served.specs.halves.specs.Parts.{Parts}
use Rattle.jfs_kept_history.specs.Crash.{IsRedoneToHistory}
use Rattle.jfs_kept_history.specs.Kept.{Lasting, IsKeptSince, noted_in}

-- In the log of what keeps it stand, behind the mount's SYNCPT, the records of the entries that groups have taken, and of the sync counts.
abbrev pub ItemsLaw : Type 0
ItemsLaw = (s : Super) (page : ℕ → List ℕ) (start : Parts) (list : List Lasting) (points : List ℕ) (p : Parts) → (k : IsKeptSince s page start list points p)
    → k.keeper.both.log.items ≡ point 0 ∷ items_with noted_in 0 (take p.taken list) points

-- An image of the whole disk: of the volume's part it has what a crash may leave, and behind it a log with the superblock that a mount writes.
pub record HasBothParts (s : Super) (p : Parts) (old : Image) : Type 0 where
  pub ring : p.text.ring ≡ s.logpxd.len - 2
  pub blocks : p.blocks ≡ s.logpxd.addr
  pub low : IsCrashImage (last_of p.past) (take s.logpxd.addr old)
  pub log_super : page_of (drop s.logpxd.addr old) 1 ≡ super_page s.logpxd.len s.uuid

-- The log holds the records of the entries that groups have taken and of the sync counts, and no more.
pub record HasRested (s : Super) (list : List Lasting) (points : List ℕ) (p : Parts) (old : Image) : Type 0 where
  pub parts : HasBothParts s p old
  pub last : Last
  pub last_ring : last.ring ≡ s.logpxd.len - 2
  pub log : HoldsText noted_in (s.logpxd.len - 2) (take p.taken list) points last (drop s.logpxd.addr old)

-- It is redone to the history, with all entries that groups have taken.
abbrev pub RestedLaw : (tells crashes : Type 0) → Type 0
RestedLaw tells crashes = tells → crashes → (s : Super) (page : ℕ → List ℕ) (start : Parts) (list : List Lasting) (points : List ℕ) (p : Parts) (old : Image) → length s.uuid ≡ 16 → IsKeptSince s page start list points p → HasRested s list points p old
    → IsRedoneToHistory s page start list p.taken old

-- The log holds so many entries and sync counts, all that stood in it before its last group, and a front of that group's records: of the other entries that groups have taken, or of one SYNCPT behind them all.
pub record HasLost (s : Super) (list : List Lasting) (points : List ℕ) (p : Parts) (durable stable : ℕ) (old : Image) : Type 0 where
  pub parts : HasBothParts s p old
  pub told : p.told ≤ durable
  pub within : durable ≤ p.taken
  pub few : stable ≤ length points
  pub placed : AreCounts 0 durable (take stable points)
  pub rest : (points ≡ take stable points) ⊎ ((durable ≡ p.taken) × (points ≡ take stable points ++ p.taken ∷ []))
  pub group : List Item
  pub all : items_with noted_in 0 (take p.taken list) points ≡ items_with noted_in 0 (take durable list) (take stable points) ++ group
  pub log : FrontOf (s.logpxd.len - 2) (items_with noted_in 0 (take durable list) (take stable points)) group (drop s.logpxd.addr old)

-- It is redone to the history, with all durable entries.
abbrev pub LostLaw : (tells crashes : Type 0) → Type 0
LostLaw tells crashes = tells → crashes → (s : Super) (page : ℕ → List ℕ) (start : Parts) (list : List Lasting) (points : List ℕ) (p : Parts) (durable stable : ℕ) (old : Image) → length s.uuid ≡ 16 → IsKeptSince s page start list points p → HasLost s list points p durable stable old
    → IsRedoneToHistory s page start list durable old
