-- Whether a path leads through an inode on the way to its end.
use Rattle.std.specs.Prelude.{◌≡◌, ◌⊎◌, ℕ, ◌==◌, Bool, true, false, if◌then◌else◌, List, [], ◌∷◌, Result, Ok, Err}
use Rattle.jfs_imap.specs.Inodes.{Inodes}
use Rattle.jfs_tree.specs.Spells.{no_page}
use Rattle.jfs_plain.specs.Tree.{Tree, walk, enter, root, place, passes, passes_on, and_then}
use Rattle.jfs_plain.specs.declared.refusal.Refusal.{Refusal}
use Rattle.jfs_link.specs.objects.specs.Objects.{has_names}
use Rattle.jfs_link.specs.way.specs.Answer.{is_open}
use Rattle.jfs_link.specs.way.specs.Way.{inode_at, name_from, path_from, path_of}
use Rattle.jfs_link.specs.way.specs.Walk.{HasCome, IfConsistent}
use Rattle.jfs_link.specs.way.specs.declared.object.Held.{Held}
use Rattle.jfs_link.specs.steps.specs.Place.{front_of}

-- ---- on any volume

abbrev pub through_from : ℕ → (ℕ → List ℕ) → Inodes → Held → List (List ℕ) → ℕ → Result Bool Refusal
through_from blocks pages inodes at [] n = Ok (at.number == n)
through_from blocks pages inodes at (name ∷ names) n = if at.number == n then Ok true else and_then (name_from blocks pages inodes at name) (λ next. through_from blocks pages inodes next names n)

abbrev pub through_of : ℕ → (ℕ → List ℕ) → Inodes → List (List ℕ) → ℕ → Result Bool Refusal
through_of blocks pages inodes names n = and_then (inode_at blocks pages inodes no_page root) (λ at. through_from blocks pages inodes at names n)

-- Nothing but a directory can come below itself.
abbrev pub inside_of : ℕ → (ℕ → List ℕ) → Inodes → Held → List (List ℕ) → Result Bool Refusal
inside_of blocks pages inodes object to = if has_names object.inode then through_of blocks pages inodes (front_of to) object.number else Ok false

-- ---- in a tree

abbrev pub through : Tree → ℕ → List (List ℕ) → ℕ → Bool
through t k [] n = k == n
through t k (name ∷ names) n = if k == n then true else passes_on (enter t k name) (λ m. through t m names n)

abbrev pub FollowsThrough : Tree → List (List ℕ) → ℕ → Result Bool Refusal → Type 0
FollowsThrough t names n (Ok x) = x ≡ through t root names n
FollowsThrough t names n (Err why) = (walk t root names ≡ Err why) ⊎ (is_open why ≡ true)

abbrev pub FollowsInside : Tree → Held → List (List ℕ) → Result Bool Refusal → Type 0
FollowsInside t object to (Ok x) = has_names object.inode ≡ true → x ≡ passes t to object.number
FollowsInside t object to (Err why) = (place t to ≡ Err why) ⊎ (is_open why ≡ true)

-- ---- the loop, for the prover alone

-- So many names are left, and the way from here on tells what the whole way does.
pub record HasGone (tells : Type 0) (blocks : ℕ) (pages : ℕ → List ℕ) (inodes : Inodes) (path names : List (List ℕ)) (n : ℕ) (at : Held) : Type 0 where
  pub come : HasCome tells blocks pages inodes path names at
  pub told : tells → IfConsistent blocks pages inodes (λ t. through t at.number names n ≡ through t root path n)
  pub met : tells → through_from blocks pages inodes at names n ≡ through_of blocks pages inodes path n
