-- One pass over the entries and the range, for the prover alone.
use Rattle.std.specs.Prelude.{ℕ, List, [], ◌∷◌, ◌++◌}
use Rattle.jfs_bits.specs.declared.extent.Xad.{Xad}
use Rattle.jfs_xtpage.specs.Page.{end_of}
use Rattle.jfs_xtree.specs.Cutting.{kept_below}
use Rattle.jfs_xtree.specs.Writing.{kept_from, joined}

-- extents in a hole behind entries, one after the other
abbrev pub all_joined : List Xad → List Xad → List Xad
all_joined out [] = out
all_joined out (x ∷ xs) = all_joined (joined out x) xs

-- An entry, from a block of the file on, under extents: what it keeps before each, what each has in it, and what it keeps behind the last one.
abbrev pub under : ℕ → List Xad → Xad → List Xad
under from [] e = kept_from from (e ∷ [])
under from (x ∷ xs) e = kept_below x.offset (kept_from from (e ∷ [])) ++ (kept_below (end_of e) (kept_from e.offset (x ∷ [])) ++ under (end_of x) xs e)

-- The entries behind those that are done, with what the range has from a block of the file on.
abbrev pub walked : ℕ → List Xad → List Xad → List Xad → List Xad
walked from out [] xs = all_joined out (kept_from from xs)
walked from out (e ∷ es) xs = walked (end_of e) (all_joined out (kept_below e.offset (kept_from from xs)) ++ under 0 xs e) es xs
