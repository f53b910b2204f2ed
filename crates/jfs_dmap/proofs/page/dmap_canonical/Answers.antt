use Rattle.std.proofs.Common.{◌≡◌, ◌≤◌, ◌+◌, ◌-◌, ◌∙◌, ◌||◌, inl, inr, not, length, List, ℕ, refl, sym, ap, arith}
use Rattle.std.specs.Prelude.{replicate}
use Rattle.std.proofs.lemmas.Bool.{or_left}
use Rattle.jfs_bits.specs.Field.{field_of, range_of}
use Rattle.jfs_bits.specs.Bits.{is_taken, is_in_run, count_below}
use Rattle.jfs_dmap.specs.Dmap.{map_of, taken_in}
use Rattle.jfs_buddy.proofs.Parts.{part-is, part-again, range-beside, field-from_range, range_of-replicate}
use Rattle.jfs_bits.proofs.Counts.{in_run, before_run}
use Rattle.jfs_dmap.proofs.Heads.{Head, head-put}
use Rattle.jfs_dmap.proofs.Pages.{Puts, Held, Beside, rest-stays, map-held, count-held}
use Rattle.jfs_dmap.proofs.page.dmap_canonical.Goals as goal

size_of : (c : goal.After-refresh) → length c.fill.new.self ≡ 4096
size_of c = omega arith

head_of_page : (c : goal.After-refresh) → Head c.args.start c.args.nblocks c.fill.new.self c.put_head.new.bytes
head_of_page c = rw c.put_head.ensures (head-put c.args.start c.args.nblocks c.fill.new.self (size_of c) (omega arith) (omega arith))

puts_of : (c : goal.After-refresh) → Puts c.put_head.new.bytes c.put_map.new.bytes c.put_map-2.new.bytes c.put_u32.new.bytes c.refresh.new.bytes c.count_free-free.result
puts_of c =
    let size = size_of c in
    record {
      size = omega (arith, size);
      sizes = (omega (arith, size), omega (arith, size), omega (arith, size), omega (arith, size));
      map = c.put_map.ensures.stays;
      copy = c.put_map-2.ensures.stays;
      count = c.put_u32.ensures.bytes;
      tree = part-again 33 341 c.put_u32.new.bytes c.clear.new.bytes c.refresh.new.bytes (omega arith) (omega arith) (omega (arith, size)) c.clear.ensures.stays c.refresh.ensures.stays;
    }

held_of : (c : goal.After-refresh) → Held c.put_head.new.bytes c.put_map.new.bytes c.put_map-2.new.bytes c.put_u32.new.bytes c.refresh.new.bytes
held_of c = map-held c.put_head.new.bytes c.put_map.new.bytes c.put_map-2.new.bytes c.put_u32.new.bytes c.refresh.new.bytes c.count_free-free.result (puts_of c)

field_stays : (c : goal.After-refresh) (p n : ℕ) → Beside p n → field_of c.refresh.new.bytes p n ≡ field_of c.put_head.new.bytes p n
field_stays c p n side = field-from_range c.refresh.new.bytes c.put_head.new.bytes p n (rest-stays c.put_head.new.bytes c.put_map.new.bytes c.put_map-2.new.bytes c.put_u32.new.bytes c.refresh.new.bytes c.count_free-free.result p n (puts_of c) side)

pub returns-clause-blocks : goal.returns-clause-blocks
returns-clause-blocks c = field_stays c 0 4 (inl (omega arith)) ∙ (head_of_page c).blocks

pub returns-clause-first_block : goal.returns-clause-first_block
returns-clause-first_block c = field_stays c 8 8 (inr (inl (omega arith, omega arith))) ∙ (head_of_page c).first

-- the set of both maps
set_is : (c : goal.After-refresh) (b : ℕ) → taken_in c.refresh.new.bytes b ≡ (is_in_run c.args.nblocks (8192 - c.args.nblocks) b || is_taken c.args.set.now b)
set_is c b = ap (λ (z : List ℕ). is_taken z b) (held_of c).map ∙ c.put_map.ensures.set b

pub returns-clause-set : goal.returns-clause-set
returns-clause-set c b h = set_is c b ∙ rw (before_run c.args.nblocks (8192 - c.args.nblocks) b h) refl

count_is : (c : goal.After-refresh) → c.count_free-free.result ≡ count_below 8192 (λ b. not (taken_in c.refresh.new.bytes b))
count_is c =
    let size = size_of c in
    let map : map_of c.put_map-2.new.bytes ≡ map_of c.refresh.new.bytes =
    range-beside 3072 1024 2048 1024 c.put_map.new.bytes c.put_map-2.new.bytes (omega arith) (omega (arith, size)) c.put_map-2.ensures.stays (inl (omega arith)) ∙ sym (held_of c).map in
    rw (part-is c.put_map-2.new.bytes 2048 1024, map) at c.count_free-free.ensures

zeros : (page : List ℕ) (size : ℕ) → page ≡ replicate size 0 → size ≡ 4096 → range_of page 374 1674 ≡ replicate 1674 0
zeros page size e n = ap (λ (z : List ℕ). range_of z 374 1674) e ∙ range_of-replicate size 374 1674 0 (omega arith)

pub returns-clause-canonical : goal.returns-clause-canonical
returns-clause-canonical c =
    let size = size_of c in
    let head = head_of_page c in
    let held = held_of c in
    let blocks = returns-clause-blocks c in
    let map : map_of c.refresh.new.bytes ≡ map_of c.clear.new.bytes = range-beside 33 341 2048 1024 c.clear.new.bytes c.refresh.new.bytes (omega arith) (omega (arith, size)) c.refresh.ensures.stays (inr (omega arith)) in
    let middle = λ (p n : ℕ) (a : 8 ≤ p) (b : p + n ≤ 33). field_stays c p n (inr (inl (a, b))) in
    record {
      size = omega (arith, size);
      most = omega (arith, blocks);
      past = λ b h k. set_is c b ∙ or_left (is_in_run c.args.nblocks (8192 - c.args.nblocks) b) (is_taken c.args.set.now b) (in_run c.args.nblocks (8192 - c.args.nblocks) b (omega (arith, blocks)) (omega (arith, c.requires.most)));
      same = λ b. ap (λ (z : List ℕ). is_taken z b) held.copy ∙ c.put_map-2.ensures.set b ∙ sym (set_is c b);
      free = count-held c.put_head.new.bytes c.put_map.new.bytes c.put_map-2.new.bytes c.put_u32.new.bytes c.refresh.new.bytes c.count_free-free.result (puts_of c) (omega arith) ∙ count_is c;
      leaves = middle 16 4 (omega arith) (omega arith) ∙ head.leaves;
      l2_leaves = middle 20 4 (omega arith) (omega arith) ∙ head.l2_leaves;
      first_leaf = middle 24 4 (omega arith) (omega arith) ∙ head.first_leaf;
      height = middle 28 4 (omega arith) (omega arith) ∙ head.height;
      whole = middle 32 1 (omega arith) (omega arith) ∙ head.whole;
      tree = rw map (c.refresh.ensures.tree (λ v. 0) (λ v k side. elim side [ inl a ↦ absurd (omega arith) | inr b ↦ absurd (omega arith) ]) c.clear.ensures.tree);
      pad = rest-stays c.put_head.new.bytes c.put_map.new.bytes c.put_map-2.new.bytes c.put_u32.new.bytes c.refresh.new.bytes c.count_free-free.result 374 1674 (puts_of c) (inr (inr (omega arith, omega arith))) ∙ head.pad
          ∙ zeros c.fill.new.self (length c.args.page.now.0) (c.fill.ensures.after (λ y h. h)) (omega arith);
    }
