-- How far a walk through a tree of names has come.
use Rattle.std.specs.Prelude.{ℕ, List, [], ◌∷◌, ◌++◌}
use Rattle.jfs_dtree.specs.declared.reached.Reached.{Reached}
use Rattle.jfs_dtree.specs.declared.reached.Reached.TheVariants.{At, Behind}

-- the least name that may come next
abbrev pub next_name : Reached → List ℕ
next_name (At key) = key
next_name (Behind name) = name ++ 0 ∷ []
