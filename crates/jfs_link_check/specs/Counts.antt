-- How often inodes are named, and by which directories.
use Rattle.std.specs.Prelude.{◌≡◌, ◌<◌, ◌≤◌, ◌+◌, ◌-◌, ◌^◌, ◌==◌, if◌then◌else◌, ℕ, List, length, get_or, min}
use Rattle.jfs_object_check.specs.objects.specs.Owners.{sum_below}

-- for each inode the number of names that lead to it, and the directory that named it last
pub record CountedNames : Type 0 where
  pub counts : List ℕ
  pub namers : List ℕ

abbrev pub count_of : CountedNames → ℕ → ℕ
count_of c n = get_or c.counts n 0

abbrev pub namer_of : CountedNames → ℕ → ℕ
namer_of c n = get_or c.namers n 0

-- a count ends at the last u64 value, which no link count reaches
abbrev pub ends : ℕ → ℕ
ends n = min n (2 ^ 64 - 1)

-- All directories below a number were counted, of which `names dir n` says how many names of a directory lead to inode `n`.
pub record CountsBelow (most : ℕ) (names : ℕ → ℕ → ℕ) (below : ℕ) (c : CountedNames) : Type 0 where
  pub size : length c.counts ≡ most
  pub counts : (n : ℕ) → n < most → ends (count_of c n) ≡ ends (sum_below below (λ dir. names dir n))
  pub namers : (n : ℕ) → n < most → 0 < count_of c n → (namer_of c n < below) × (0 < names (namer_of c n) n)

-- all directories were counted
abbrev pub CountsAll : (ℕ → ℕ → ℕ) → CountedNames → Type 0
CountsAll names c = CountsBelow (length c.counts) names (length c.counts) c

-- no inode past the last one names it
abbrev pub NamesPast : ℕ → (ℕ → ℕ → ℕ) → ℕ → Type 0
NamesPast most names n = (dir : ℕ) → most ≤ dir → names dir n ≡ 0

-- ---- for the prover alone

-- names of directory `dir` were counted, of which so many lead to each inode
pub record AddsNames (dir : ℕ) (lead : ℕ → ℕ) (old new : CountedNames) : Type 0 where
  pub size : length new.counts ≡ length old.counts
  pub counts : (n : ℕ) → n < length old.counts → ends (count_of new n) ≡ ends (count_of old n + lead n)
  pub namers : (n : ℕ) → n < length old.counts → namer_of new n ≡ (if lead n == 0 then namer_of old n else dir)
