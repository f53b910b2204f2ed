-- The names of a directory, in their order. (JFS White Paper, directory organization.)
use Rattle.std.specs.Prelude.{ℕ, Bool, List, [], ◌∷◌, Option, Some, None, if◌then◌else◌, insert, remove, slice_get, slice_set}
use Rattle.std.specs.List.{prefix_len, position_or_len}
use Rattle.std.specs.Ordering.{is_eq, is_lt, nat_cmp}
use Rattle.std.specs.Cmp.Lexicographic.{slice_cmp}
use Rattle.jfs_name.specs.declared.name.NameEntry.{NameEntry}

-- unit by unit as numbers, and a name's front before the name
abbrev pub is_before : List ℕ → List ℕ → Bool
is_before a b = is_lt (slice_cmp nat_cmp a b)

abbrev pub is_same : List ℕ → List ℕ → Bool
is_same a b = is_eq (slice_cmp nat_cmp a b)

-- the inode that a name names
abbrev pub named : List ℕ → List NameEntry → Option ℕ
named name [] = None
named name (e ∷ es) = if is_same e.name name then Some e.inode else named name es

-- where a name stands, or the end
abbrev pub place_of : List ℕ → List NameEntry → ℕ
place_of name names = position_or_len (λ e. is_same e.name name) names

-- how many stand before a name
abbrev pub place_for : List ℕ → List NameEntry → ℕ
place_for name names = prefix_len (λ e. is_before e.name name) names

abbrev pub with_name : NameEntry → List NameEntry → List NameEntry
with_name new names = insert names (place_for new.name names) new

abbrev pub without_name : List ℕ → List NameEntry → List NameEntry
without_name name names = remove names (place_of name names)

-- The name names another inode, and keeps its place.
abbrev pub set_inode : ℕ → List NameEntry → ℕ → Option NameEntry → List NameEntry
set_inode n names i None = names
set_inode n names i (Some e) = slice_set names i (record e { inode = n })

abbrev pub with_inode : List ℕ → ℕ → List NameEntry → List NameEntry
with_inode name n names = set_inode n names (place_of name names) (slice_get names (place_of name names))
