-- The inodes in use, one after the other.
use Rattle.std.specs.Prelude.{◌≡◌, ◌≤◌, ℕ, zero, suc, ◌+◌, ◌*◌, ◌/◌, ◌%◌, if◌then◌else◌, List, get_or, Option, Some, None}
use Rattle.jfs_inode.specs.declared.fields.Dinode.{Dinode}
use Rattle.jfs_objects.specs.Volume.{home, slot_of}
use Rattle.jfs_objects.specs.Objects.{is_live}

-- an inode in use, and its page
pub record Found : Type 0 where
  pub page : ℕ
  pub inode : Dinode

-- what stands in the place of inode `n` on a page, if the inode is in use
abbrev pub live_in : (ℕ → List ℕ) → ℕ → Option ℕ → Option Found
live_in page n None = None
live_in page n (Some p) = if is_live n (slot_of (page p) (n % 8)) then Some (record { page = p; inode = slot_of (page p) (n % 8) }) else None

-- inode `n`, where inode extents begin at these places
abbrev pub found_at : (ℕ → List ℕ) → List (Option ℕ) → ℕ → Option Found
found_at page places n = live_in page n (home places n)

-- ---- what becomes of a visitor that sees them

abbrev pub Step : {W : Type 0} → (W → ℕ → Found → W → Type 0) → ℕ → Option Found → W → W → Type 0
Step sees n None old new = new ≡ old
Step sees n (Some f) old new = sees old n f new

-- it saw those among so many numbers from one on, in rising order
unfoldable pub Visits : {W : Type 0} → (W → ℕ → Found → W → Type 0) → (ℕ → Option Found) → ℕ → ℕ → W → W → Type 0
Visits sees found from zero old new = new ≡ old
Visits {W} sees found from (suc count) old new = (mid : W) × Visits sees found from count old mid × Step sees (from + count) (found (from + count)) mid new

-- and the inodes of extent `e`, which begins there
abbrev pub VisitsPlace : {W : Type 0} → (W → ℕ → Found → W → Type 0) → (ℕ → List ℕ) → ℕ → Option ℕ → W → W → Type 0
VisitsPlace sees page e None old new = new ≡ old
VisitsPlace sees page e (Some first) old new = Visits sees (λ n. live_in page n (Some (first + n % 32 / 8))) (32 * e) 32 old new

-- each extent that is there has four blocks of the file system part
abbrev pub AllFit : ℕ → List (Option ℕ) → Type 0
AllFit blocks places = (e first : ℕ) → get_or places e None ≡ Some first → first + 4 ≤ blocks
