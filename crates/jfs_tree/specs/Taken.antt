-- Pages of a draft, and those that a call took.
use Rattle.std.specs.Prelude.{◌≡◌, ◌<◌, ℕ, true, List}
use Rattle.jfs_disk.specs.Image.{Image}
use Rattle.jfs_tree.specs.Draft.{shown}
use Rattle.jfs_tree.specs.Frames.{IsTaken}
use Rattle.jfs_tree.specs.Tell.{is_in}
use Rattle.jfs_tree.specs.declared.draft.Drafted.{Drafted}

-- The draft has the page: what it shows there is the same over all images.
abbrev pub IsDrafted : List Drafted → ℕ → Type 0
IsDrafted drafts n = (a b : Image) → shown drafts a n ≡ shown drafts b n

-- Each page that the draft had, it has.
abbrev pub KeepsDrafted : List Drafted → List Drafted → Type 0
KeepsDrafted old new = (n : ℕ) → IsDrafted old n → IsDrafted new n

-- The draft has each of the free pages that isn't left.
abbrev pub HasTaken : List Drafted → List ℕ → List ℕ → Type 0
HasTaken drafts free left = (n : ℕ) → IsTaken free left n → IsDrafted drafts n

-- Each page that a call took is in the draft, and so is each that was there before.
pub record DraftsTaken (old new : List Drafted) (free left : List ℕ) : Type 0 where
  pub keeps : KeepsDrafted old new
  pub takes : HasTaken new free left

-- Each of these pages is one of so many and in the draft.
abbrev pub AreDrafted : ℕ → List Drafted → List ℕ → Type 0
AreDrafted blocks drafts taken = (n : ℕ) → is_in n taken ≡ true → (n < blocks) × IsDrafted drafts n
