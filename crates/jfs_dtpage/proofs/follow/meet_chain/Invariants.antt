use Rattle.std.proofs.Common.{◌≡◌, ◌≤◌, ◌+◌, ℕ}
use Rattle.jfs_dtpage.specs.Slots.{follow, behind, times}
use Rattle.jfs_dtpage.specs.Met.{left_of}
use Rattle.jfs_dtpage.proofs.follow.meet_chain.Given as goal

abbrev pub invariant-loop-more : goal.invariant-loop-more
invariant-loop-more l =
    ((k : ℕ) → left_of l.left k + times k (follow l.bytes l.first l.count) ≡ left_of l.initial.left k + times k (follow l.bytes l.slot l.more))
    × (behind l.bytes l.first l.count ≡ behind l.bytes l.slot l.more) × ((k : ℕ) → left_of l.left k ≤ left_of l.initial.left k)

abbrev pub decreases-loop-more : goal.decreases-loop-more
decreases-loop-more l = l.more
