-- The bytes of a dmap are the canonical page of its blocks.
use Rattle.std.proofs.Common.{◌≡◌, ◌<◌, ◌≤◌, ◌+◌, ◌-◌, ◌*◌, ◌^◌, ◌||◌, not, nat_lt, ℕ, Bool, true, List, [], ◌∷◌, length, refl, sym, ap, ◌∙◌, subst, arith}
use Rattle.std.specs.Prelude.{min}
use Rattle.std.proofs.lemmas.Bool.{lt-ltb, le-ltb}
use Rattle.jfs_bits.specs.Bits.{is_taken, count_below}
use Rattle.jfs_bits.specs.Field.{AreBytes, field_of, range_of}
use Rattle.jfs_bits.specs.Piece.{Piece, puts, Place, is_apart_from_all}
use Rattle.jfs_bits.proofs.Counts.{count_below-same, count_below-most}
use Rattle.jfs_bits.proofs.Parts.{field-from_range}
use Rattle.jfs_bits.proofs.Pieces.{ArePlaced, AreLaidOut, length-puts, range_of-puts_other, range_at-puts, field_of-puts}
use Rattle.jfs_buddy.specs.Buddy.{IsBuddyTree}
use Rattle.jfs_bmap.specs.dmap.specs.Dmap.{word_rank, map_of, tree_of, taken_in, head_of, IsDmap}
use Rattle.jfs_bmap.specs.dmap.proofs.Buds.{word_rank-most}
use Rattle.jfs_bmap.specs.dmap.proofs.Heads.{head-put}
use Rattle.jfs_bmap.specs.MapFile.{IsDmapPage}
use Rattle.jfs_map_bytes.specs.Parts.{set_bytes, zeros}
use Rattle.jfs_map_bytes.specs.Tree.{tree_bytes}
use Rattle.jfs_map_bytes.specs.BlockMap.{on_dmap, dmap_parts, dmap_bytes}
use Rattle.jfs_map_bytes.proofs.Bytes.{bytes-puts, bytes-little, bytes-zeros, length-zeros, range-zeros}
use Rattle.jfs_map_bytes.proofs.Joined.{length-set, bytes-set, set-bit}
use Rattle.jfs_map_bytes.proofs.Tree.{length-tree, bytes-tree, tree-is}

places : List Place
places = (4, 4) ∷ (33, 341) ∷ (2048, 1024) ∷ (3072, 1024) ∷ []

placed : (taken : ℕ → Bool) (set : List ℕ) → length set ≡ 1024 → ArePlaced (dmap_parts taken set) places
unfolding dmap_parts places
placed taken set size = (refl, refl, (refl, length-tree 4 6 (word_rank set), (refl, size, (refl, size, tt))))

-- what the parts leave of a page that begins with the other fields, and what they hold
record Held (taken : ℕ → Bool) (set before page : List ℕ) : Type 0 where
  size : length page ≡ 4096
  beside : (at width : ℕ) → is_apart_from_all (at, width) places ≡ true → range_of page at width ≡ range_of before at width
  free : field_of page 4 4 ≡ count_below 8192 (λ i. not (taken i))
  tree : tree_of page ≡ tree_bytes 4 6 (word_rank set)
  map : map_of page ≡ set
  too : range_of page 3072 1024 ≡ set

held : (taken : ℕ → Bool) (set before : List ℕ) → length set ≡ 1024 → length before ≡ 4096 → Held taken set before (puts (dmap_parts taken set) before)
unfolding dmap_parts places placed
held taken set before whole size =
    let parts : List Piece = dmap_parts taken set in
    let count : ℕ = count_below 8192 (λ i. not (taken i)) in
    let laid : AreLaidOut parts (length before) = record { places = places; placed = placed taken set whole; within = rw size refl; apart = refl } in
    record {
      size = length-puts parts places before laid.placed laid.within ∙ size;
      beside = λ at width clear. range_of-puts_other parts places before at width laid.placed laid.within clear;
      free = field_of-puts parts before 0 4 4 count laid (refl, refl) (omega (arith, count_below-most 8192 (λ i. not (taken i))));
      tree = range_at-puts parts before 1 33 341 (tree_bytes 4 6 (word_rank set)) laid (refl, refl) (length-tree 4 6 (word_rank set));
      map = range_at-puts parts before 2 2048 1024 set laid (refl, refl) whole;
      too = range_at-puts parts before 3 3072 1024 set laid (refl, refl) whole;
    }

past-end : (blocks b : ℕ) (taken : Bool) → blocks ≤ b → (not (nat_lt b blocks) || taken) ≡ true
past-end blocks b taken h = ap (λ (z : Bool). not z || taken) (le-ltb b blocks h)

before-end : (blocks b : ℕ) (taken : Bool) → b < blocks → (not (nat_lt b blocks) || taken) ≡ taken
before-end blocks b taken h = ap (λ (z : Bool). not z || taken) (lt-ltb b blocks h)

pub dmap-is : (blocks k : ℕ) (taken : ℕ → Bool) → 8192 * k < 2 ^ 64 → IsDmapPage blocks taken k (dmap_bytes blocks taken k)
unfolding dmap_bytes places
dmap-is blocks k taken small =
    let set : List ℕ = set_bytes 256 (on_dmap blocks taken k) in
    let number : ℕ = min 8192 (blocks - 8192 * k) in
    let before : List ℕ = puts (head_of (8192 * k) number) zeros in
    let page : List ℕ = puts (dmap_parts (on_dmap blocks taken k) set) before in
    let head = head-put (8192 * k) number zeros length-zeros (omega arith) small in
    let h = held (on_dmap blocks taken k) set before (length-set 256 (on_dmap blocks taken k)) head.size in
    let field = λ (at width : ℕ) (clear : is_apart_from_all (at, width) places ≡ true). field-from_range page before at width (h.beside at width clear) in
    let count : field_of page 0 4 ≡ number = field 0 4 refl ∙ head.blocks in
    let bit : (b : ℕ) → b < 8192 → taken_in page b ≡ on_dmap blocks taken k b = λ b within. ap (λ (z : List ℕ). is_taken z b) h.map ∙ set-bit 256 b (on_dmap blocks taken k) within in
    let canonical : IsDmap page = record {
      size = h.size;
      most = omega (arith, count);
      past = λ b from within. bit b within ∙ past-end blocks (8192 * k + b) (taken (8192 * k + b)) (omega (arith, count));
      same = λ b. ap (λ (z : List ℕ). is_taken z b) (h.too ∙ sym h.map);
      free = h.free ∙ count_below-same 8192 (λ i. not (on_dmap blocks taken k i)) (λ b. not (taken_in page b)) (λ b within. ap not (sym (bit b within)));
      leaves = field 16 4 refl ∙ head.leaves;
      l2_leaves = field 20 4 refl ∙ head.l2_leaves;
      first_leaf = field 24 4 refl ∙ head.first_leaf;
      height = field 28 4 refl ∙ head.height;
      whole = field 32 1 refl ∙ head.whole;
      tree = subst (λ (z : List ℕ). IsBuddyTree 4 6 (word_rank z) (tree_of page)) (sym h.map) (subst (λ (z : List ℕ). IsBuddyTree 4 6 (word_rank set) z) (sym h.tree) (tree-is 4 6 (word_rank set) (word_rank-most set) (omega arith)));
      pad = h.beside 374 1674 refl ∙ head.pad ∙ range-zeros 374 1674 (omega arith);
    } in
    record {
      dmap = record { canonical = canonical; number = count; first = field 8 8 refl ∙ head.first };
      set = λ i there within. bit i within ∙ before-end blocks (8192 * k + i) (taken (8192 * k + i)) there;
    }

pub dmap-bytes : (blocks k : ℕ) (taken : ℕ → Bool) → AreBytes (dmap_bytes blocks taken k)
unfolding dmap_bytes dmap_parts head_of
dmap-bytes blocks k taken =
    let number : ℕ = min 8192 (blocks - 8192 * k) in
    let set : List ℕ = set_bytes 256 (on_dmap blocks taken k) in
    bytes-puts (dmap_parts (on_dmap blocks taken k) set) (puts (head_of (8192 * k) number) zeros)
    (bytes-little 4 (count_below 8192 (λ i. not (on_dmap blocks taken k i))), (bytes-tree 4 6 (word_rank set), (bytes-set 256 (on_dmap blocks taken k), (bytes-set 256 (on_dmap blocks taken k), tt))))
    (bytes-puts (head_of (8192 * k) number) zeros
    (bytes-little 4 number, (bytes-little 8 (8192 * k), (bytes-little 4 256, (bytes-little 4 8, (bytes-little 4 85, (bytes-little 4 4, (bytes-little 1 5, tt))))))) bytes-zeros)
