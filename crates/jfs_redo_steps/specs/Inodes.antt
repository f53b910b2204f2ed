-- The inodes in use, as their link counts say.
use Rattle.std.specs.Prelude.{◌≡◌, ◌<◌, ℕ, ◌*◌, ◌%◌, ◌||◌, List, length, is_some, Option}
use Rattle.jfs_bits.specs.Bits.{is_taken, is_in_run}
use Rattle.jfs_each.specs.Each.{found_at}

-- a bit for each of 32 inodes a place, set where the inode is in use
pub record AreInodesInUse (page : ℕ → List ℕ) (places : List (Option ℕ)) (set : List ℕ) : Type 0 where
  pub size : length set ≡ 4 * length places
  pub bits : (n : ℕ) → n < 32 * length places → is_taken set n ≡ is_some (found_at page places n)

-- ---- for the prover alone

-- bit `n` is set, in a set of whole words
pub record SetsBit (n : ℕ) (old new : List ℕ) : Type 0 where
  pub size : length new ≡ length old
  pub bits : length old % 4 ≡ 0 → (b : ℕ) → b < 8 * length old → is_taken new b ≡ (is_in_run n 1 b || is_taken old b)
