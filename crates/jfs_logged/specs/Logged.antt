-- What a transaction logs, of a volume before it and after it.
use Rattle.std.specs.Prelude.{◌≡◌, ◌⊎◌, ℕ, Bool, true, false, List, length}
use Rattle.jfs_ranges.specs.declared.edit.Edit.{Edit}
use Rattle.jfs_ranges.specs.Apply.{apply_tx}
use Rattle.jfs_recovery.specs.records.specs.Redo.{closes_in}
use Rattle.jfs_recovery.specs.objects.specs.Readers.{Readers}
use Rattle.jfs_recovery.specs.objects.specs.Volume.{Volume}
use Rattle.jfs_recovery.specs.kinds.specs.Owner.{owner_of, is_logged}
use Rattle.jfs_recovery.specs.kinds.specs.Laws.{OwnersStay}
use Rattle.jfs_recovery.specs.Lines.{rest_of}
use Rattle.jfs_halves.specs.Marks.{frees_page}

-- whether the log keeps a block safe
abbrev pub logged_in : Readers → Volume → ℕ → Bool
logged_in r v p = is_logged (owner_of r v p)

-- What it logs of one page, which the log kept safe before where `was` and keeps safe then where `now`: a page that comes to be kept safe, or has a NoRedo, is given whole by what follows its last NoRedo; one that isn't kept safe then is
-- left by that as it was; and one that was has a NoRedo.
pub record LogsPage (p : ℕ) (was now : Bool) (tx : List Edit) (page : List ℕ) : Type 0 where
  pub whole : now ≡ true → (closes_in p tx ≡ true) ⊎ (was ≡ false) → (a : List ℕ) → length a ≡ 4096 → apply_tx p (rest_of p tx) a ≡ page
  pub shut : now ≡ false → (a : List ℕ) → length a ≡ 4096 → apply_tx p (rest_of p tx) a ≡ a
  pub noted : now ≡ false → was ≡ true → closes_in p tx ≡ true

-- Blocks that stay in use keep their owners, pages that the log keeps safe before and after are those that its edits make, and of each page what matters is logged.
pub record LogsWell (r : Readers) (v w : Volume) (tx : List Edit) : Type 0 where
  pub owners : OwnersStay r v w
  pub pages : (p : ℕ) → logged_in r v p ≡ true → logged_in r w p ≡ true → w.page p ≡ apply_tx p tx (v.page p)
  pub logs : (p : ℕ) → LogsPage p (logged_in r v p) (logged_in r w p) tx (w.page p)

-- edits leave a page, whatever it holds
abbrev pub LeavesPage : ℕ → List Edit → Type 0
LeavesPage p tx = (a : List ℕ) → length a ≡ 4096 → apply_tx p tx a ≡ a

-- ---- laws

-- What is told of a page: lines alone, which leave a page that isn't kept safe then, and give all of one that wasn't before; or it is freed, and isn't kept safe then.
pub record IsTold (p : ℕ) (was now : Bool) (tx : List Edit) (page : List ℕ) : Type 0 where
  pub open_is : closes_in p tx ≡ false
  pub stays : was ≡ true → now ≡ true
  pub kept : now ≡ false → (a : List ℕ) → length a ≡ 4096 → apply_tx p tx a ≡ a
  pub whole : was ≡ false → now ≡ true → (a : List ℕ) → length a ≡ 4096 → apply_tx p tx a ≡ page

pub record IsFreed (p : ℕ) (now : Bool) (tx : List Edit) : Type 0 where
  pub freed : frees_page p tx ≡ true
  pub gone : now ≡ false

-- So it is logged.
abbrev pub PageLaw : Type 0
PageLaw = (p : ℕ) (was now : Bool) (tx : List Edit) (page : List ℕ) → IsTold p was now tx page ⊎ IsFreed p now tx → LogsPage p was now tx page
