-- How a list of findings grows while a volume is looked at. In which order, and how often one is met, doesn't matter before the list is put in order.
use Rattle.std.specs.Prelude.{◌≡◌, ◌≤◌, ◌⊎◌, ◌+◌, ◌*◌, ℕ, List, length}
use Rattle.std.specs.List.{Contains}
use Rattle.jfs_findings.specs.Findings.{Rise}
use Rattle.jfs_findings.specs.declared.finding.Finding.{Finding}

-- The list gains all findings of which this is so, and no others.
pub record Gains (is : Finding → Type 0) (old new : List Finding) : Type 0 where
  pub kept : (f : Finding) → Contains old f → Contains new f
  pub all : (f : Finding) → is f → Contains new f
  pub only : (f : Finding) → Contains new f → Contains old f ⊎ is f

-- The same findings, in whichever order and however often.
pub record HasSame (old new : List Finding) : Type 0 where
  pub all : (f : Finding) → Contains old f → Contains new f
  pub only : (f : Finding) → Contains new f → Contains old f

-- Either each finding stands once, in order, and their number is kept; or the list stays as it was, at most twice as long as the number that was kept last, and some more.
abbrev pub IsCondensed : List Finding → ℕ → List Finding → ℕ → Type 0
IsCondensed old kept new now = (Rise new × (now ≡ length new)) ⊎ ((new ≡ old) × (now ≡ kept) × (length new ≤ 2 * kept + 1025))
