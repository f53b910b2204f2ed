-- What a crash may leave of a disk whose writes tear by whole sectors.
use Rattle.std.specs.Prelude.{◌≡◌, ◌⊎◌, ◌<◌, ◌≤◌, ◌-◌, ◌*◌, ℕ, List, [], ◌∷◌, ◌++◌, length, take, drop, map, get_or, set}
use Rattle.jfs_disk.specs.Image.{Image, page_of}

-- the first sectors of one content of a page, then the rest of another
unfoldable pub torn : ℕ → List ℕ → List ℕ → List ℕ
torn sectors front rest = take (512 * sectors) front ++ drop (512 * sectors) rest

-- A page: what a read gives, what was stable at the last sync that succeeded, and what was written since, the oldest first.
pub record PageHistory : Type 0 where
  pub seen : List ℕ
  pub stable : List ℕ
  pub writes : List (List ℕ)

-- content 0 is the stable one, and content k the k-th write
abbrev pub content_of : PageHistory → ℕ → List ℕ
content_of page k = get_or (page.stable ∷ page.writes) k []

-- what a crash may leave of a page: the first sectors of some content, then the rest of that one or an older one
pub record IsCrashPage (page : PageHistory) (left : List ℕ) : Type 0 where
  pub base : ℕ
  pub top : ℕ
  pub sectors : ℕ
  pub older : base ≤ top
  pub there : top ≤ length page.writes
  pub within : sectors ≤ 8
  pub content : left ≡ torn sectors (content_of page top) (content_of page base)

-- a disk at one moment: each page, by its number
abbrev pub DiskState : Type 0
DiskState = List PageHistory

-- no page, where a number has none
abbrev pub no_page : PageHistory
no_page = record { seen = []; stable = []; writes = [] }

abbrev pub history_of : DiskState → ℕ → PageHistory
history_of state n = get_or state n no_page

-- what a read gives of each page
abbrev pub seen_of : DiskState → Image
seen_of state = map (λ page. page.seen) state

-- what a crash may leave of a disk: each page on its own
pub record IsCrashImage (state : DiskState) (left : Image) : Type 0 where
  pub number : length left ≡ length state
  pub each : (n : ℕ) → n < length state → IsCrashPage (history_of state n) (page_of left n)

-- ---- what the device calls do to a page

-- a page that holds what was stable, with nothing pending
abbrev pub resting : List ℕ → PageHistory
resting bytes = record { seen = bytes; stable = bytes; writes = [] }

-- a write is pending, and a read gives it
abbrev pub page_written : List ℕ → PageHistory → PageHistory
page_written bytes page = record page { seen = bytes; writes = page.writes ++ bytes ∷ [] }

-- A write that failed is pending too. Before it stands, as a write, what a read then gives: some sectors of it.
abbrev pub page_failed : List ℕ → ℕ → PageHistory → PageHistory
page_failed bytes sectors page =
    let left = torn sectors bytes page.seen in record page { seen = left; writes = page.writes ++ left ∷ bytes ∷ [] }

-- ---- what they do to a disk

unfoldable pub written : ℕ → List ℕ → DiskState → DiskState
written n bytes state = set state n (page_written bytes (history_of state n))

unfoldable pub failed : ℕ → List ℕ → ℕ → DiskState → DiskState
failed n bytes sectors state = set state n (page_failed bytes sectors (history_of state n))

-- after a sync, what a read gives is stable and nothing is pending
unfoldable pub settled : DiskState → DiskState
settled state = map (λ page. resting page.seen) state

-- a disk with nothing pending
abbrev pub at_rest : Image → DiskState
at_rest image = map resting image

-- ---- moments

-- the state now, of the states so far
abbrev pub last_of : List DiskState → DiskState
last_of past = get_or past (length past - 1) []

-- what a crash at some moment since t might have left
pub record LeftSince (past : List DiskState) (t : ℕ) (left : Image) : Type 0 where
  pub moment : ℕ
  pub since : t ≤ moment
  pub reached : moment < length past
  pub crash : IsCrashImage (get_or past moment []) left

-- of each image that a crash since t might have left, P holds
abbrev pub AllSince : (Image → Type 0) → List DiskState → ℕ → Type 0
AllSince P past t = (left : Image) → LeftSince past t left → P left

-- of each image that a crash may leave of a state, P holds
abbrev pub Leaves : (Image → Type 0) → DiskState → Type 0
Leaves P state = (left : Image) → IsCrashImage state left → P left

-- ---- failed writes

-- a read gives some sectors of the bytes that were to be written
abbrev pub TearsPage : ℕ → List ℕ → Image → Image → Type 0
TearsPage n bytes old new = (sectors : ℕ) × (sectors ≤ 8) × (new ≡ set old n (torn sectors bytes (page_of old n)))

-- The failed write is pending. Where it found no memory, the disk may be as it was.
abbrev pub LeavesTorn : ℕ → List ℕ → List DiskState → List DiskState → Type 0
LeavesTorn n bytes old new =
    (new ≡ old) ⊎ ((sectors : ℕ) × (sectors ≤ 8) × (new ≡ old ++ failed n bytes sectors (last_of old) ∷ []))
