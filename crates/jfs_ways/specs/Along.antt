-- The first broken rule on the ways of a file's blocks, one after the other.
use Rattle.std.specs.Prelude.{ℕ, zero, suc, List, Option, Some, None}
use Rattle.jfs_bits.specs.declared.rule.Rule.{Rule}
use Rattle.jfs_xtree.specs.Spells.{broken_for}

abbrev pub or_later : Option (ℕ × Rule) → Option (ℕ × Rule) → Option (ℕ × Rule)
or_later (Some broken) later = Some broken
or_later None later = later

-- what the first of so many blocks finds broken on its way that finds anything
abbrev pub first_broken : (ℕ → Option (ℕ × Rule)) → ℕ → ℕ → Option (ℕ × Rule)
first_broken broken at zero = None
first_broken broken at (suc count) = or_later (broken at) (first_broken broken (suc at) count)

-- The first broken rule on the ways of so many blocks of a file, from one on, and the page that breaks it.
abbrev pub broken_along : ℕ → (ℕ → List ℕ) → List ℕ → ℕ → ℕ → Option (ℕ × Rule)
broken_along blocks pages root first count = first_broken (broken_for blocks pages root) first count
