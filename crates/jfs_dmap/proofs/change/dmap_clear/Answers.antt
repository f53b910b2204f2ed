use Rattle.std.proofs.Common.{◌≡◌, ◌<◌, ◌≤◌, ◌+◌, ◌*◌, ◌/◌, ◌∙◌, ◌&&◌, ◌⊎◌, inl, inr, not, ℕ, List, refl, sym, ap, arith}
use Rattle.jfs_bits.specs.Bits.{is_taken, is_in_run}
use Rattle.jfs_dmap.specs.Dmap.{map_of, taken_in, word_rank}
use Rattle.jfs_buddy.proofs.Parts.{field-from_range}
use Rattle.jfs_dmap.proofs.Buds.{word_rank-same}
use Rattle.jfs_bits.proofs.Counts.{beside_run, behind_run, count_below-most, count-cleared}
use Rattle.jfs_dmap.proofs.Pages.{Puts, Held, count-before, rest-stays, map-held, canonical-after}
use Rattle.jfs_dmap.proofs.change.dmap_clear.Goals as goal

pub overflow_add-free : goal.overflow_add-free
overflow_add-free c =
    let d = c.requires.canonical in
    let same = count-before c.args.page.now.0 c.clear_in.new.bytes c.clear_in-2.new.bytes d.size (omega (arith, d.size)) (omega (arith, d.size)) c.clear_in.ensures.stays c.clear_in-2.ensures.stays in
    omega (arith, c.get_u32-free.ensures.value, same, d.free, d.most, c.requires.within, count_below-most 8192 (λ b. not (taken_in c.args.page.now.0 b)))

puts_of : (c : goal.After-refresh) → Puts c.args.page.now.0 c.clear_in.new.bytes c.clear_in-2.new.bytes c.put_u32.new.bytes c.refresh.new.bytes (c.get_u32-free.result + c.args.n)
puts_of c =
    let size = c.requires.canonical.size in
    record {
      size = size;
      sizes = (omega (arith, size), omega (arith, size), omega (arith, size), omega (arith, size));
      map = c.clear_in.ensures.stays;
      copy = c.clear_in-2.ensures.stays;
      count = c.put_u32.ensures.bytes;
      tree = c.refresh.ensures.stays;
    }

held_of : (c : goal.After-refresh) → Held c.args.page.now.0 c.clear_in.new.bytes c.clear_in-2.new.bytes c.put_u32.new.bytes c.refresh.new.bytes
held_of c = map-held c.args.page.now.0 c.clear_in.new.bytes c.clear_in-2.new.bytes c.put_u32.new.bytes c.refresh.new.bytes (c.get_u32-free.result + c.args.n) (puts_of c)

set_of : goal.returns-clause-set
set_of c b = ap (λ (z : List ℕ). is_taken z b) (held_of c).map ∙ c.clear_in.ensures.set b

pub returns-clause-set : goal.returns-clause-set
returns-clause-set c = set_of c

pub returns-clause-canonical : goal.returns-clause-canonical
returns-clause-canonical c =
    let d = c.requires.canonical in
    let start = c.args.page.now.0 in
    let free = c.get_u32-free.result + c.args.n in
    let held = held_of c in
    let taken = λ (b : ℕ). not (is_in_run c.args.first c.args.n b) && taken_in start b in
    let count = count-cleared c.args.first c.args.n 8192 (taken_in start) (omega (arith, c.requires.within, d.most)) c.requires.taken in
    let outside : (v : ℕ) → v < 256 → (v < c.args.first / 32) ⊎ ((c.args.first + c.args.n + 31) / 32 ≤ v) → word_rank (map_of start) v ≡ word_rank (map_of c.put_u32.new.bytes) v =
    λ v k side. word_rank-same (map_of start) (map_of c.put_u32.new.bytes) v (λ i h.
    sym (ap (λ (z : List ℕ). is_taken z (32 * v + i)) held.before ∙ c.clear_in.ensures.set (32 * v + i) ∙ rw (beside_run c.args.first c.args.n v i h side) refl)) in
    canonical-after start c.clear_in.new.bytes c.clear_in-2.new.bytes c.put_u32.new.bytes c.refresh.new.bytes free taken (puts_of c) d
    (set_of c)
    (λ b. ap (λ (z : List ℕ). is_taken z b) held.copy ∙ c.clear_in-2.ensures.set b ∙ rw (held.copy_before, d.same b) refl)
    (λ b h k. rw (behind_run c.args.first c.args.n b (omega (arith, c.requires.within, h))) (d.past b h k))
    (omega (arith, count, d.free, c.get_u32-free.ensures.value, held.count))
    (omega (arith, d.free, d.most, c.requires.within, c.get_u32-free.ensures.value, held.count, count_below-most 8192 (λ b. not (taken_in start b))))
    (rw held.map (rw held.before at (c.refresh.ensures.tree (word_rank (map_of start)) outside (rw held.tree d.tree))))

pub returns-clause-blocks : goal.returns-clause-blocks
returns-clause-blocks c = field-from_range c.refresh.new.bytes c.args.page.now.0 0 4 (rest-stays c.args.page.now.0 c.clear_in.new.bytes c.clear_in-2.new.bytes c.put_u32.new.bytes c.refresh.new.bytes (c.get_u32-free.result + c.args.n) 0 4 (puts_of c) (inl (omega arith)))

pub returns-clause-first_block : goal.returns-clause-first_block
returns-clause-first_block c = field-from_range c.refresh.new.bytes c.args.page.now.0 8 8 (rest-stays c.args.page.now.0 c.clear_in.new.bytes c.clear_in-2.new.bytes c.put_u32.new.bytes c.refresh.new.bytes (c.get_u32-free.result + c.args.n) 8 8 (puts_of c) (inr (inl (omega arith, omega arith))))
