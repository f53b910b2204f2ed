-- A volume on its part of the disk, and the faults that its replies tell.
use Rattle.std.specs.Prelude.{◌≡◌, ◌<◌, ◌⊎◌, ◌^◌, ◌||◌, Bool, true, false, ℕ, List, [], ◌∷◌, None}
use Rattle.jfs_bits.specs.Count.{Rose}
use Rattle.jfs_plain.specs.declared.call.Entry.{Entry}
use Rattle.jfs_groups.specs.Points.{is_marked}
use Rattle.jfs_groups.specs.Start.{Grows}
use Rattle.jfs_kept_history.specs.legal.specs.served.specs.halves.specs.Parts.{Parts}
use Rattle.jfs_kept_history.specs.legal.specs.History.{has_failed}
use Rattle.jfs_shared.specs.Base.{MountStart}

-- a call was refused for a fault of the disk
abbrev pub any_failed : List Entry → Bool
any_failed [] = false
any_failed (e ∷ es) = has_failed e.reply || any_failed es

-- the count of its part rose since the mount, or the log has halted
abbrev pub HasRisen : MountStart → List ℕ → Parts → Type 0
HasRisen m points p = Rose m.faults p.faults ⊎ (is_marked points ≡ true)

-- Its part has the pages and the room that it had at the mount, and faults were counted since.
pub record IsOfDisk (m : MountStart) (points : List ℕ) (p : Parts) : Type 0 where
  pub pages : p.count ≡ m.pages
  pub room : p.room ≡ m.room
  pub few : m.faults < 2 ^ 64
  pub faults : Grows m.faults p.faults
  -- no call was refused for a fault, and the volume runs; or there was one
  pub calm : (any_failed p.entries ≡ false) ⊎ HasRisen m points p
  pub runs : (p.halted ≡ None) ⊎ HasRisen m points p
  -- while it runs, there is no mark
  pub unmarked : p.halted ≡ None → is_marked points ≡ false
