use Rattle.std.proofs.Common.{◌≡◌, ◌<◌, ◌≤◌, ◌⊎◌, ℕ}
use Rattle.jfs_bits.specs.Field.{put_bytes}
use Rattle.jfs_buddy.specs.Buddy.{IsBuddyTree}
use Rattle.jfs_dmap.specs.Dmap.{map_of, tree_of, word_rank}
use Rattle.jfs_buddy.proofs.Renewals.{renewed}
use Rattle.jfs_dmap.proofs.words.refresh.Given as goal

abbrev pub invariant-loop-word : goal.invariant-loop-word
invariant-loop-word l = record {
  stays : l.bytes ≡ put_bytes 33 (tree_of l.bytes) l.fn.bytes;
  map : map_of l.bytes ≡ map_of l.fn.bytes;
  tree : (own : ℕ → ℕ) → ((v : ℕ) → v < 256 → (v < l.first) ⊎ (l.last ≤ v) → own v ≡ word_rank (map_of l.fn.bytes) v) → IsBuddyTree 4 6 own (tree_of l.fn.bytes) → IsBuddyTree 4 6 (renewed own (word_rank (map_of l.fn.bytes)) l.word) (tree_of l.bytes);
}
