-- Names that a path spells.
use Rattle.std.proofs.Common.{◌≡◌, ◌≤◌, sym, subst, ℕ, List, [], ◌∷◌, ◌++◌, length}
use Rattle.jfs_name.specs.Name.{IsName}
use Rattle.jfs_name.specs.Text.{NamesTo, no_names, one_name_more, Spells, root, path, IsPath}
use Rattle.jfs_plain.specs.Limits.{FitsPath, AreShort}

short_more : (names : List (List ℕ)) (units : List ℕ) → AreShort names → length units ≤ 255 → AreShort (names ++ units ∷ [])
short_more [] units short most = (most, tt)
short_more (name ∷ names) units short most = (short.0, short_more names units short.1 most)

names_short : (text : List ℕ) (place : ℕ) (names : List (List ℕ)) → NamesTo text place names → AreShort names
names_short text _ _ no_names = tt
names_short text _ _ (one_name_more slash place names units to some goes ends is) = short_more names units (names_short text slash names to) is.most

text_short : (text : List ℕ) (names : List (List ℕ)) → Spells text names → AreShort names
text_short text names (root is none) = subst AreShort (sym none) tt
text_short text names (path to some) = names_short text (length text) names to

pub path_short : (names : List (List ℕ)) → FitsPath names → AreShort names
path_short names fits = text_short fits.0 names fits.1.1
