-- Words and their ranks.
use Rattle.std.proofs.Common.{◌≡◌, ◌<◌, ◌≤◌, ◌+◌, ◌*◌, ◌/◌, ◌%◌, ℕ, List, refl, sym, ap, ◌∙◌, arith}
use Rattle.jfs_bits.specs.Field.{field_of}
use Rattle.jfs_bits.specs.Bits.{is_taken, is_taken_in, max_bud_of}
use Rattle.jfs_buddy.specs.Tree.{rank_of}
use Rattle.jfs_buddy.proofs.Greatest.{run-most, greatest_run-same}
use Rattle.jfs_dmap.specs.Dmap.{word_rank}

pub rank-most : (word : ℕ) → rank_of (max_bud_of word) ≤ 6
unfolding max_bud_of
rank-most word = run-most (is_taken_in word) 5 5

pub word_rank-most : (map : List ℕ) (v : ℕ) → word_rank map v ≤ 6
word_rank-most map v = rank-most (field_of map (4 * v) 4)

-- a block of a word is a block of the map
pub word-bit : (map : List ℕ) (v i : ℕ) → i < 32 → is_taken map (32 * v + i) ≡ is_taken_in (field_of map (4 * v) 4) i
unfolding is_taken
word-bit map v i h =
    let a : (32 * v + i) / 32 ≡ v = omega arith in
    let b : (32 * v + i) % 32 ≡ i = omega arith in
    rw (a, b) refl

-- words with the same blocks have the same rank
pub word_rank-same : (old new : List ℕ) (v : ℕ) → ((i : ℕ) → i < 32 → is_taken old (32 * v + i) ≡ is_taken new (32 * v + i)) → word_rank old v ≡ word_rank new v
unfolding max_bud_of
word_rank-same old new v h =
    ap rank_of (greatest_run-same (is_taken_in (field_of old (4 * v) 4)) (is_taken_in (field_of new (4 * v) 4)) 5 5 (omega arith) (λ i b. sym (word-bit old v i b) ∙ h i b ∙ word-bit new v i b))
