use Rattle.std.proofs.Common.{◌≡◌, ◌≢◌, ◌<◌, ◌≤◌, true, false, ℕ, get_or, length}
use Rattle.jfs_map_check.proofs.compare.agree_within.Given as goal

abbrev pub invariant-loop-i : goal.invariant-loop-i
invariant-loop-i l = record {
  size : (length l.one ≡ 4096) × (length l.other ≡ 4096);
  bytes : (k : ℕ) → l.from ≤ k → k < l.i → get_or l.one k 0 < 256;
  bytes_too : (k : ℕ) → l.from ≤ k → k < l.i → get_or l.other k 0 < 256;
  yes : l.same ≡ true → (k : ℕ) → l.from ≤ k → k < l.i → get_or l.one k 0 ≡ get_or l.other k 0;
  no : l.same ≡ false → (k : ℕ) × (l.from ≤ k) × (k < l.to) × (get_or l.one k 0 ≢ get_or l.other k 0);
}
