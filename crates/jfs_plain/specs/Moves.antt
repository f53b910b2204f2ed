-- Changes of one object each. A call is made of them.
use Rattle.std.specs.Prelude.{◌≡◌, ℕ, Bool, not, ◌+◌, ◌-◌, ◌&&◌, ◌==◌, nat_le, nat_lt, if◌then◌else◌, length, get_or, List, [], Some, None, option_map}
use Rattle.jfs_bits.specs.declared.descriptor.Moment.{Moment}
use Rattle.jfs_name.specs.declared.name.NameEntry.{NameEntry}
use Rattle.jfs_name.specs.Directory.{with_name, without_name, with_inode}
use Rattle.jfs_plain.specs.Tree.{Tree}
use Rattle.jfs_plain.specs.declared.node.Node.{Node}
use Rattle.jfs_plain.specs.declared.node.Times.{Times}
use Rattle.jfs_plain.specs.declared.reply.NodeKind.{NodeKind}
use Rattle.jfs_plain.specs.declared.reply.NodeKind.TheVariants.{Dir, File, Link}

-- ---- what becomes of an object

abbrev pub stamped : Moment → Node → Node
stamped now o = record o { times = record o.times { changed = now } }

abbrev pub written : Moment → Node → Node
written now o = record o { times = record o.times { modified = now; changed = now } }

abbrev pub gains : NameEntry → Moment → Node → Node
gains entry now o = written now (record o { names = with_name entry o.names })

abbrev pub loses : List ℕ → Moment → Node → Node
loses name now o = written now (record o { names = without_name name o.names })

-- one of its names names another object
abbrev pub leads : List ℕ → ℕ → Moment → Node → Node
leads name n now o = written now (record o { names = with_inode name n o.names })

-- one link more, and one less
abbrev pub rises : Node → Node
rises o = record o { links = o.links + 1 }

abbrev pub falls : Node → Node
falls o = record o { links = o.links - 1 }

abbrev pub moves : ℕ → Node → Node
moves dir o = record o { parent = dir }

abbrev pub permits : ℕ → Node → Node
permits mode o = record o { mode = mode }

abbrev pub sized : ℕ → Moment → Node → Node
sized size now o = written now (record o { size = size })

-- ---- new objects: owner 0, group 0, all times the call's moment

abbrev pub all_times : Moment → Times
all_times now = record { accessed = now; modified = now; changed = now; made = now }

abbrev pub new_node : NodeKind → ℕ → ℕ → ℕ → ℕ → List ℕ → Moment → Node
new_node kind mode links size parent target now = record { kind = kind; mode = mode; uid = 0; gid = 0; links = links; size = size; parent = parent; times = all_times now; target = target; names = [] }

abbrev pub new_directory : ℕ → ℕ → Moment → Node
new_directory mode parent now = new_node Dir mode 2 0 parent [] now

abbrev pub new_file : ℕ → Moment → Node
new_file mode now = new_node File mode 1 0 0 [] now

-- mode 0777
abbrev pub new_link : List ℕ → Moment → Node
new_link target now = new_node Link 511 1 (length target) 0 target now

-- ---- what becomes of a tree

abbrev pub changed : ℕ → (Node → Node) → Tree → Tree
changed n f t = record t { nodes = λ k. if n == k then option_map f (t.nodes n) else t.nodes k }

-- a new object, which holds nothing
abbrev pub made : ℕ → Node → Tree → Tree
made n o t = record { nodes = λ k. if n == k then Some o else t.nodes k; bytes = λ k i. if n == k then 0 else t.bytes k i }

abbrev pub dropped : ℕ → Tree → Tree
dropped n t = record { nodes = λ k. if n == k then None else t.nodes k; bytes = λ k i. if n == k then 0 else t.bytes k i }

-- An object that has so many links loses a name, and goes with its last one.
abbrev pub unnamed : ℕ → ℕ → Moment → Tree → Tree
unnamed n links now t = if nat_le links 1 then dropped n t else changed n (stamped now) (changed n falls t)

-- A directory comes to another one, which has one link for it; the one that it leaves has one less.
abbrev pub shifts : Bool → ℕ → ℕ → Tree → Tree
shifts is_dir from to t = if is_dir && not (from == to) then changed from falls (changed to rises t) else t

-- An object that has so many links loses its name to another. Where a directory takes the place of one, the directory that it leaves has one link less.
abbrev pub displaced : ℕ → Bool → ℕ → ℕ → Moment → Tree → Tree
displaced n by_dir links from now t = if by_dir then changed from falls (dropped n t) else unnamed n links now t

-- an object is in another directory
abbrev pub arrives : ℕ → Bool → ℕ → Moment → Tree → Tree
arrives n is_dir to now t = changed n (stamped now) (if is_dir then changed n (moves to) t else t)

-- bytes are put into a file; a hole is left between its end and them
abbrev pub byte_after : (ℕ → ℕ) → ℕ → List ℕ → ℕ → ℕ
byte_after f offset new i = if nat_le offset i && nat_lt i (offset + length new) then get_or new (i - offset) 0 else f i

abbrev pub filled : ℕ → ℕ → List ℕ → Tree → Tree
filled n offset new t = record t { bytes = λ k i. if n == k then byte_after (t.bytes n) offset new i else t.bytes k i }

-- nothing is left behind an end
abbrev pub cut : ℕ → ℕ → Tree → Tree
cut n end t = record t { bytes = λ k i. if n == k then (if nat_lt i end then t.bytes n i else 0) else t.bytes k i }

-- ---- the same tree

pub record Same (t u : Tree) : Type 0 where
  pub nodes : (n : ℕ) → u.nodes n ≡ t.nodes n
  pub bytes : (n i : ℕ) → u.bytes n i ≡ t.bytes n i
