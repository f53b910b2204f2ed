-- The tree that the maps of a `PlainTree` are, and what a change of them may leave.
use Rattle.std.specs.Prelude.{◌≡◌, ◌⊎◌, ℕ, false, List, [], Option, Some, None, Result, Ok, Err, get_or, unwrap_or, if◌then◌else◌, ◌==◌, ◌^◌, nat_lt}
use Rattle.std.specs.BTreeMap.{get}
use Rattle.std.specs.Ordering.{nat_cmp}
use Rattle.jfs_bits.specs.declared.descriptor.Moment.{Moment}
use Rattle.jfs_plain.specs.Tree.{Tree, root}
use Rattle.jfs_plain.specs.Moves.{Same, new_directory, new_file}
use Rattle.jfs_plain.specs.Step.{Room, Outcome, PlainStep}
use Rattle.jfs_plain.specs.declared.call.Call.{Call}
use Rattle.jfs_plain.specs.declared.node.Node.{Node}
use Rattle.jfs_plain.specs.declared.plain.PlainTree.{PlainTree}
use Rattle.jfs_plain.specs.declared.refusal.Refusal.{Refusal}
use Rattle.jfs_plain.specs.declared.refusal.Refusal.TheVariants.{OutOfMemory}
use Rattle.jfs_plain.specs.declared.reply.Reply.{Reply}
use Rattle.jfs_plain.specs.declared.reply.Reply.TheVariants.{Refused}

abbrev pub node_at : PlainTree → ℕ → Option Node
node_at p n = get nat_cmp p.nodes n

-- Bytes that aren't kept are zeros.
abbrev pub kept : Option (List ℕ) → List ℕ
kept o = unwrap_or o []

abbrev pub byte_at : PlainTree → ℕ → ℕ → ℕ
byte_at p n i = get_or (kept (get nat_cmp p.contents n)) i 0

abbrev pub tree_of : PlainTree → Tree
tree_of p = record { nodes = node_at p; bytes = byte_at p }

-- The tree of a new volume: an empty root directory, and the inodes 0, 1 and 3, which are kept. (JFS Layout, fileset.)
abbrev pub new_tree : Moment → Tree
new_tree now = record {
  nodes = λ n. if n == root then Some (new_directory 493 root now) else if nat_lt n 4 then Some (new_file 0 now) else None;
  bytes = λ n i. 0;
}

abbrev pub IsNew : ℕ → Moment → PlainTree → Type 0
IsNew limit now p = Same (new_tree now) (tree_of p) × (p.file_limit ≡ limit)

-- What becomes of the tree; the file limit stays.
pub record Became (old new : PlainTree) (f : Tree → Tree) : Type 0 where
  pub nodes : (n : ℕ) → node_at new n ≡ (f (tree_of old)).nodes n
  pub bytes : (n i : ℕ) → byte_at new n i ≡ (f (tree_of old)).bytes n i
  pub limit : new.file_limit ≡ old.file_limit

-- room for whatever is asked
abbrev pub ample : ℕ → ℕ → Room
ample limit fresh = record { limit = limit; free = 2 ^ 65; deep = λ dir name. false; inode = Some fresh }

-- what an outcome of a call says of its answer and of the tree after it; there may be want of memory
abbrev pub Meets : Tree → Outcome → Result Reply Refusal → Tree → Type 0
Meets t out (Ok reply) u = (v : Tree) × (out ≡ Ok (reply, v)) × Same v u
Meets t out (Err why) u = ((out ≡ Err why) ⊎ (why ≡ OutOfMemory)) × Same t u

-- The plain step with ample room, or want of memory, which leaves the tree. The file limit stays.
pub record Steps (old : PlainTree) (call : Call) (fresh : ℕ) (now : Moment) (reply : Reply) (new : PlainTree) : Type 0 where
  pub step : PlainStep (tree_of old) (ample old.file_limit fresh) call now reply (tree_of new) ⊎ ((reply ≡ Refused OutOfMemory) × Same (tree_of old) (tree_of new))
  pub limit : new.file_limit ≡ old.file_limit
