-- A file tree: objects by their inode numbers, and what the files hold. (JFS White Paper; POSIX: file hierarchy, path resolution.)
use Rattle.std.specs.Prelude.{ℕ, Bool, true, false, List, [], ◌∷◌, Option, Some, None, Result, Ok, Err, if◌then◌else◌, ◌==◌}
use Rattle.jfs_name.specs.Directory.{named}
use Rattle.jfs_plain.specs.declared.node.Node.{Node}
use Rattle.jfs_plain.specs.declared.refusal.Refusal.{Refusal}
use Rattle.jfs_plain.specs.declared.refusal.Refusal.TheVariants.{NotFound, NotDir, Exists}
use Rattle.jfs_plain.specs.declared.reply.NodeKind.{NodeKind}
use Rattle.jfs_plain.specs.declared.reply.NodeKind.TheVariants.{Dir, File, Link, Other}

-- `bytes n i` is the byte at offset i of file n; it is 0 in a hole and where there is none.
pub record Tree : Type 0 where
  pub nodes : ℕ → Option Node
  pub bytes : ℕ → ℕ → ℕ

-- the inode of the root directory
abbrev pub root : ℕ
root = 2

abbrev pub is_dir : NodeKind → Bool
is_dir Dir = true
is_dir File = false
is_dir Link = false
is_dir Other = false

abbrev pub is_file : NodeKind → Bool
is_file Dir = false
is_file File = true
is_file Link = false
is_file Other = false

abbrev pub is_link : NodeKind → Bool
is_link Dir = false
is_link File = false
is_link Link = true
is_link Other = false

-- What is refused stays so.
abbrev pub and_then : {X Y : Type 0} → Result X Refusal → (X → Result Y Refusal) → Result Y Refusal
and_then (Ok x) f = f x
and_then (Err r) f = Err r

-- a name is wanted
abbrev pub wanted : Option ℕ → Result ℕ Refusal
wanted None = Err NotFound
wanted (Some n) = Ok n

-- the object that a name leads to from an object
abbrev pub enter_from : Option Node → List ℕ → Result ℕ Refusal
enter_from None name = Err NotFound
enter_from (Some node) name = if is_dir node.kind then wanted (named name node.names) else Err NotDir

abbrev pub enter : Tree → ℕ → List ℕ → Result ℕ Refusal
enter t n name = enter_from (t.nodes n) name

-- the object at the end of a path
abbrev pub walk : Tree → ℕ → List (List ℕ) → Result ℕ Refusal
walk t n [] = Ok n
walk t n (name ∷ names) = and_then (enter t n name) (λ m. walk t m names)

-- an object that is there, by its number
pub record Found : Type 0 where
  pub inode : ℕ
  pub node : Node

abbrev pub found_at : ℕ → Node → Found
found_at n node = record { inode = n; node = node }

abbrev pub object_as : ℕ → Node → Result Found Refusal
object_as n node = Ok (found_at n node)

abbrev pub found : ℕ → Option Node → Result Found Refusal
found n None = Err NotFound
found n (Some node) = object_as n node

abbrev pub object : Tree → List (List ℕ) → Result Found Refusal
object t path = and_then (walk t root path) (λ n. found n (t.nodes n))

-- where a name stands, or could stand: a directory and a name
pub record Place : Type 0 where
  pub dir : ℕ
  pub name : List ℕ

abbrev pub place_at : ℕ → List ℕ → Place
place_at dir name = record { dir = dir; name = name }

abbrev pub place_as : ℕ → List ℕ → Result Place Refusal
place_as dir name = Ok (place_at dir name)

-- a directory is wanted
abbrev pub in_directory : Option Node → Result Place Refusal → Result Place Refusal
in_directory None there = Err NotFound
in_directory (Some node) there = if is_dir node.kind then there else Err NotDir

abbrev pub place_from : Tree → ℕ → List ℕ → List (List ℕ) → Result Place Refusal
place_from t n name [] = in_directory (t.nodes n) (place_as n name)
place_from t n name (next ∷ names) = and_then (enter t n name) (λ m. place_from t m next names)

-- the place of a path's last name; the root has none, it is always there
abbrev pub place : Tree → List (List ℕ) → Result Place Refusal
place t [] = Err Exists
place t (name ∷ names) = place_from t root name names

-- what stands at a place
abbrev pub named_in : Option Node → List ℕ → Option ℕ
named_in None name = None
named_in (Some node) name = named name node.names

abbrev pub at_place : Tree → Place → Option ℕ
at_place t p = named_in (t.nodes p.dir) p.name

-- the place of a new name
abbrev pub unless_there : Option ℕ → Place → Result Place Refusal
unless_there None p = Ok p
unless_there (Some n) p = Err Exists

abbrev pub new_place : Tree → List (List ℕ) → Result Place Refusal
new_place t path = and_then (place t path) (λ p. unless_there (at_place t p) p)

-- whether a path leads through a directory on the way to its last name
abbrev pub passes_on : Result ℕ Refusal → (ℕ → Bool) → Bool
passes_on (Err r) f = false
passes_on (Ok n) f = f n

abbrev pub passes_from : Tree → ℕ → List ℕ → List (List ℕ) → ℕ → Bool
passes_from t n name [] m = n == m
passes_from t n name (next ∷ names) m = if n == m then true else passes_on (enter t n name) (λ k. passes_from t k next names m)

abbrev pub passes : Tree → List (List ℕ) → ℕ → Bool
passes t [] m = false
passes t (name ∷ names) m = passes_from t root name names m
