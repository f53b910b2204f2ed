-- The numbers that stand in the ring: for each place the number of its whole page and one more, and 0 where none stands.
use Rattle.std.specs.Prelude.{◌≡◌, ◌<◌, ◌≤◌, ◌+◌, ◌%◌, ◌&&◌, ℕ, suc, List, length, get_or, nat_eq, if◌then◌else◌}
use Rattle.jfs_disk.specs.Image.{Image, page_of}
use Rattle.jfs_logpages.specs.Ring.{head_number, tail_number}

abbrev pub StandsIn : List ℕ → ℕ → Type 0
StandsIn marks k = get_or marks (k % length marks) 0 ≡ suc k

pub record IsRunIn (marks : List ℕ) (half q : ℕ) : Type 0 where
  pub long : half ≤ q + 1
  pub each : (k : ℕ) → k ≤ q → q < k + half → StandsIn marks k

-- what is noted of a page: its number and one more, where it is whole and in its place
abbrev pub mark_of : ℕ → ℕ → List ℕ → ℕ
mark_of ring place page =
    if nat_eq (head_number page) (tail_number page) && nat_eq (head_number page % ring) place then suc (head_number page) else 0

abbrev pub AreMarks : ℕ → Image → List ℕ → Type 0
AreMarks ring image marks = (p : ℕ) → p < length marks → get_or marks p 0 ≡ mark_of ring p (page_of image (2 + p))
