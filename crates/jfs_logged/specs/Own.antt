-- What a transaction logs, and the pages that it keeps to.
use Rattle.std.specs.Prelude.{◌≡◌, ◌⊎◌, ◌<◌, ℕ, true, false, List, ◌++◌, Option, Some}
use Rattle.jfs_ranges.specs.declared.edit.Edit.{Edit}
use Rattle.jfs_ranges.specs.Apply.{apply_tx, touches_tx}
use Rattle.jfs_recovery.specs.records.specs.Redo.{closes_in}
use Rattle.jfs_recovery.specs.objects.specs.Readers.{Readers}
use Rattle.jfs_recovery.specs.objects.specs.Volume.{Volume}
use Rattle.jfs_recovery.specs.objects.specs.Objects.{objects}
use Rattle.jfs_recovery.specs.objects.specs.Owners.{Agrees}
use Rattle.jfs_recovery.specs.kinds.specs.Owner.{Owner, has_data, owner_of}
use Rattle.jfs_recovery.specs.kinds.specs.Owner.Owner.{Inodes, Tree}
use Rattle.jfs_recovery.specs.kinds.specs.Laws.{OwnersStay, TakesNoneFreed}
use Rattle.jfs_logged.specs.Logged.{logged_in, LogsPage, LogsWell, LeavesPage}

-- a block that the log keeps safe, or data of a regular file: none of attributes or of a long link's target
abbrev pub IsKeptOrData : Readers → Volume → ℕ → Type 0
IsKeptOrData r v b = (logged_in r v b ≡ true) ⊎ ((n : ℕ) × (0 < has_data r (objects r v n) b))

-- an inode's page, or a tree's
abbrev pub IsNode : Option Owner → Type 0
IsNode o = (o ≡ Some Inodes) ⊎ ((n : ℕ) × (o ≡ Some (Tree n)))

-- a page that the log keeps safe before, or then
abbrev pub TellsKept : Readers → Volume → Volume → ℕ → Type 0
TellsKept r v w p = (logged_in r v p ≡ true) ⊎ (logged_in r w p ≡ true)

-- Maps agree before it and after it, the fixed areas stay, and so do the owners of blocks that stay in use. Pages that stay in use are those that its edits make, and of each page what matters is logged. It has no line of a page of a fixed area, and no NoRedo of a page that stays in use; each page that it has lines of is kept safe by the log before or
-- then, or isn't in use before and then; and what comes into use is kept safe then, or is data of a regular file.
pub record LogsItsOwn (r : Readers) (v w : Volume) (tx : List Edit) : Type 0 where
  pub before : Agrees r v
  pub after : Agrees r w
  pub areas : (p : ℕ) → w.area p ≡ v.area p
  pub owners : OwnersStay r v w
  pub pages : (p : ℕ) → v.used p ≡ true → w.used p ≡ true → w.page p ≡ apply_tx p tx (v.page p)
  pub logs : (p : ℕ) → LogsPage p (logged_in r v p) (logged_in r w p) tx (w.page p)
  pub untold : (p : ℕ) → 0 < v.area p → touches_tx p tx ≡ false
  pub closed : (p : ℕ) → closes_in p tx ≡ true → v.used p ≡ true → w.used p ≡ false
  pub told : (p : ℕ) → touches_tx p tx ≡ true → TellsKept r v w p ⊎ ((v.used p ≡ false) × (w.used p ≡ false))
  pub comes : (p : ℕ) → v.used p ≡ false → w.used p ≡ true → IsKeptOrData r w p

-- Such a transaction, or a part of one, of which each page that it has lines of is kept safe before or then.
pub record LogsPart (r : Readers) (v w : Volume) (tx : List Edit) : Type 0 where
  pub own : LogsItsOwn r v w tx
  pub kept : (p : ℕ) → touches_tx p tx ≡ true → TellsKept r v w p

-- the later of two edits frees no block that the first one took
abbrev pub FreesNoneTaken : Volume → Volume → Volume → Type 0
FreesNoneTaken v w u = (b : ℕ) → v.used b ≡ false → w.used b ≡ true → u.used b ≡ true

-- ---- laws

-- One transaction part after another is both together, where the later one takes no block that the first one freed. Where it frees none that the first one took either, both are a part again.
pub record JoinLaw : Type 0 where
  pub parts : (r : Readers) (v w u : Volume) (tx more : List Edit) → LogsPart r v w tx → LogsPart r w u more → TakesNoneFreed v w u → FreesNoneTaken v w u → LogsPart r v u (tx ++ more)
  pub all : (r : Readers) (v w u : Volume) (tx more : List Edit) → LogsPart r v w tx → LogsPart r w u more → TakesNoneFreed v w u → LogsItsOwn r v u (tx ++ more)

-- Of two parts one after the other, either may come first, where what was the later one leaves each page as it is, and the other leaves those of which that one has a NoRedo. The pages are told apart from the rest, since what is left then is told of pages of 4,096 bytes.
abbrev pub OrderLaw : Type 0
OrderLaw = (r : Readers) (v w : Volume) (tx more last : List Edit) → ((p : ℕ) → v.used p ≡ true → w.used p ≡ true → w.page p ≡ apply_tx p (more ++ (tx ++ last)) (v.page p)) → ((p : ℕ) → LeavesPage p more)
    → ((p : ℕ) → closes_in p more ≡ true → (closes_in p tx ≡ false) × LeavesPage p tx) → LogsPart r v w (tx ++ (more ++ last)) → LogsPart r v w (more ++ (tx ++ last))

-- What such a transaction says of a page.
pub record OwnLaw : Type 0 where
  -- it logs what matters
  pub well : (r : Readers) (v w : Volume) (tx : List Edit) → LogsItsOwn r v w tx → LogsWell r v w tx
  -- a page that it has lines of is kept safe then, or has a NoRedo
  pub lines : (r : Readers) (v w : Volume) (tx : List Edit) → LogsItsOwn r v w tx → (p : ℕ) → touches_tx p tx ≡ true → (logged_in r w p ≡ true) ⊎ (closes_in p tx ≡ true)
  -- one that is in use before and then is an inode's or a tree's, and was
  pub nodes : (r : Readers) (v w : Volume) (tx : List Edit) → LogsItsOwn r v w tx → (p : ℕ) → touches_tx p tx ≡ true → v.used p ≡ true → w.used p ≡ true → IsNode (owner_of r v p) × IsNode (owner_of r w p)
  -- so each page that it has lines of is kept safe then, or is a regular file's data, or isn't in use
  pub told : (r : Readers) (v w : Volume) (tx : List Edit) → LogsItsOwn r v w tx → (p : ℕ) → touches_tx p tx ≡ true → IsKeptOrData r w p ⊎ (w.used p ≡ false)
  -- and so is each that was, told or not
  pub stays : (r : Readers) (v w : Volume) (tx : List Edit) → LogsItsOwn r v w tx → (p : ℕ) → IsKeptOrData r v p ⊎ (v.used p ≡ false) → IsKeptOrData r w p ⊎ (w.used p ≡ false)

-- edits that leave a page, whatever it holds, have no line of it
abbrev pub LeftLaw : Type 0
LeftLaw = (p : ℕ) (tx : List Edit) → LeavesPage p tx → touches_tx p tx ≡ false
