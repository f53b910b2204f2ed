-- What a crash leaves of a disk, by choices.
use Rattle.std.specs.Prelude.{◌≡◌, ◌<◌, ℕ, List, length, Bool, ◌&&◌, nat_le, nat_eq, if◌then◌else◌, find, Option, Some, None}
use Rattle.jfs_disk.specs.Image.{Image, page_of}
use Rattle.jfs_disk.specs.Crash.{PageHistory, DiskState, history_of, content_of, torn}
use Rattle.jfs_disk.specs.declared.choice.Choice.{Choice}

-- whether the contents that a choice names are there
abbrev pub fits : Choice → PageHistory → Bool
fits choice page = nat_le choice.base choice.top && nat_le choice.top (length page.writes) && nat_le choice.sectors 8

-- the contents that a choice names, torn, and else the old bytes
abbrev pub torn_by : Choice → PageHistory → List ℕ → List ℕ
torn_by choice page old =
    if fits choice page then torn choice.sectors (content_of page choice.top) (content_of page choice.base) else old

-- A page with no choice, or with one that doesn't fit, keeps what a read gives.
abbrev pub left_by : Option Choice → PageHistory → List ℕ → List ℕ
left_by None page seen = seen
left_by (Some choice) page seen = torn_by choice page seen

-- the first choice of a page
abbrev pub choice_of : List Choice → ℕ → Option Choice
choice_of choices n = find (λ choice. nat_eq choice.page n) choices

-- what a crash leaves, page by page
pub record IsChosen (choices : List Choice) (state : DiskState) (left : Image) : Type 0 where
  pub number : length left ≡ length state
  pub each : (n : ℕ) → n < length state → page_of left n ≡ left_by (choice_of choices n) (history_of state n) (history_of state n).seen
