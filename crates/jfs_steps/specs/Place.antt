-- The place of a path's last name. (POSIX: path resolution.)
use Rattle.std.specs.Prelude.{◌≡◌, ℕ, ◌-◌, ◌==◌, if◌then◌else◌, List, [], length, get_or, take, is_some, Result, Ok, Err}
use Rattle.jfs_way.specs.imap.specs.Inodes.{Inodes}
use Rattle.jfs_way.specs.dtree.specs.Spells.{broken_for, found_for}
use Rattle.jfs_way.specs.objects.specs.Objects.{has_names}
use Rattle.jfs_way.specs.meaning.specs.Readers.{root_of}
use Rattle.jfs_way.specs.plain.specs.Tree.{Tree, Place, place_at, and_then}
use Rattle.jfs_way.specs.plain.specs.declared.refusal.Refusal.{Refusal}
use Rattle.jfs_way.specs.plain.specs.declared.refusal.Refusal.TheVariants.{NotDir, Exists}
use Rattle.jfs_way.specs.Way.{path_of, if_unbroken}
use Rattle.jfs_way.specs.Walk.{IsThere}
use Rattle.jfs_way.specs.declared.object.Held.{Held}

-- the last name, and the names before it
abbrev pub last_of : List (List ℕ) → List ℕ
last_of path = get_or path (length path - 1) []

abbrev pub front_of : List (List ℕ) → List (List ℕ)
front_of path = take (length path - 1) path

-- a directory is wanted
abbrev pub if_directory : Held → Result Held Refusal
if_directory o = if has_names o.inode then Ok o else Err NotDir

-- The directory at the end of the names before the last one. The root has no such place: it is always there.
abbrev pub place_of : ℕ → (ℕ → List ℕ) → Inodes → List (List ℕ) → Result Held Refusal
place_of blocks pages inodes path = if length path == 0 then Err Exists else and_then (path_of blocks pages inodes (front_of path)) if_directory

-- Refused where a page on the name's way breaks a rule, the first one; or where the leaf at its end has the name.
abbrev pub unless_named : ℕ → (ℕ → List ℕ) → List ℕ → Held → Result Held Refusal
unless_named blocks pages name dir = if_unbroken dir.page (broken_for blocks pages (root_of dir.inode) name) (if is_some (found_for blocks pages (root_of dir.inode) name) then Err Exists else Ok dir)

abbrev pub new_place_of : ℕ → (ℕ → List ℕ) → Inodes → List (List ℕ) → Result Held Refusal
new_place_of blocks pages inodes path = and_then (place_of blocks pages inodes path) (unless_named blocks pages (last_of path))

-- the tree's place is that of the path's last name in this directory
abbrev pub IsPlace : Tree → List (List ℕ) → Place → Held → Type 0
IsPlace t path p dir = (p ≡ place_at dir.number (last_of path)) × IsThere t dir.number
