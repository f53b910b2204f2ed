-- The names of a path are short.
use Rattle.std.proofs.Common.{◌≤◌, ◌<◌, ℕ, zero, suc, List, [], ◌∷◌, length, get_or, arith}
use Rattle.jfs_plain.specs.Limits.{FitsPath, AreShort}
use Rattle.jfs_plain.proofs.Short.{path_short}

each_short : (names : List (List ℕ)) → AreShort names → (i : ℕ) → i < length names → length (get_or names i []) ≤ 255
each_short [] h i l = absurd (omega (arith, l))
each_short (name ∷ names) h zero l = h.0
each_short (name ∷ names) h (suc i) l = each_short names h.1 i (omega (arith, l))

pub short_names : (names : List (List ℕ)) → FitsPath names → (i : ℕ) → i < length names → length (get_or names i []) ≤ 255
short_names names fits i l = each_short names (path_short names fits) i l
