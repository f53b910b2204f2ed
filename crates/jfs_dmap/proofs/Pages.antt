-- A canonical page after its maps, its count and its tree were put.
use Rattle.std.proofs.Common.{◌≡◌, ◌<◌, ◌≤◌, ◌+◌, ◌^◌, ℕ, Bool, true, not, ◌⊎◌, inl, inr, List, length, refl, sym, ap, ◌∙◌, arith}
use Rattle.byteorder.specs.Endian.{little_bytes}
use Rattle.jfs_bits.specs.Field.{field_of, put_bytes, range_of}
use Rattle.jfs_bits.specs.Bits.{is_taken, count_below}
use Rattle.jfs_bits.proofs.Ranges.{range_of-put_other}
use Rattle.jfs_bits.proofs.Words.{field_of-put_same}
use Rattle.jfs_buddy.specs.Buddy.{IsBuddyTree}
use Rattle.jfs_dmap.specs.Dmap.{blocks_of, map_of, tree_of, taken_in, word_rank, IsDmap}
use Rattle.jfs_buddy.proofs.Parts.{range-beside, field-from_range}
use Rattle.jfs_bits.proofs.Counts.{count_below-same}

-- both maps, the count and the tree were put, one after the other
pub record Puts (start first second third end : List ℕ) (free : ℕ) : Type 0 where
  pub size : length start ≡ 4096
  pub sizes : (length first ≡ 4096) × (length second ≡ 4096) × (length third ≡ 4096) × (length end ≡ 4096)
  pub map : first ≡ put_bytes 2048 (range_of first 2048 1024) start
  pub copy : second ≡ put_bytes 3072 (range_of second 3072 1024) first
  pub count : third ≡ put_bytes 4 (little_bytes 4 free) second
  pub tree : end ≡ put_bytes 33 (tree_of end) third

-- what lies beside all of them
abbrev pub Beside : ℕ → ℕ → Type 0
Beside p n = (p + n ≤ 4) ⊎ ((8 ≤ p) × (p + n ≤ 33)) ⊎ ((374 ≤ p) × (p + n ≤ 2048))

count-beside : (second third : List ℕ) (free p n : ℕ) → length second ≡ 4096 → third ≡ put_bytes 4 (little_bytes 4 free) second → (p + n ≤ 4) ⊎ (8 ≤ p) → range_of third p n ≡ range_of second p n
count-beside second third free p n size e side = ap (λ (z : List ℕ). range_of z p n) e ∙ range_of-put_other p n 4 (little_bytes 4 free) second (omega arith) side

pub rest-stays : (start first second third end : List ℕ) (free p n : ℕ) → Puts start first second third end free → Beside p n → range_of end p n ≡ range_of start p n
rest-stays start first second third end free p n s side =
    let z = s.sizes in
    let low : p + n ≤ 2048 = within side in
    range-beside 33 341 p n third end (z.2 ∙ sym z.3) (omega arith) s.tree (tree_side side)
    ∙ count-beside second third free p n z.1 s.count (count_side side)
    ∙ range-beside 3072 1024 p n first second (z.0 ∙ sym z.1) (omega arith) s.copy (inl (omega arith))
    ∙ range-beside 2048 1024 p n start first (s.size ∙ sym z.0) (omega (arith, s.size)) s.map (inl low)
  where
    within : Beside p n → p + n ≤ 2048
    within (inl a) = omega arith
    within (inr (inl b)) = omega arith
    within (inr (inr c)) = c.1

    tree_side : Beside p n → (p + n ≤ 33) ⊎ (33 + 341 ≤ p)
    tree_side (inl a) = inl (omega arith)
    tree_side (inr (inl b)) = inl b.1
    tree_side (inr (inr c)) = inr c.0

    count_side : Beside p n → (p + n ≤ 4) ⊎ (8 ≤ p)
    count_side (inl a) = inl a
    count_side (inr (inl b)) = inr b.0
    count_side (inr (inr c)) = inr (omega arith)

-- what the steps leave of the parts
pub record Held (start first second third end : List ℕ) : Type 0 where
  pub map : map_of end ≡ map_of first
  pub before : map_of third ≡ map_of first
  pub copy : range_of end 3072 1024 ≡ range_of second 3072 1024
  pub copy_before : range_of first 3072 1024 ≡ range_of start 3072 1024
  pub tree : tree_of third ≡ tree_of start
  pub count : field_of second 4 4 ≡ field_of start 4 4

pub map-held : (start first second third end : List ℕ) (free : ℕ) → Puts start first second third end free → Held start first second third end
map-held start first second third end free s =
    let z = s.sizes in
    let a = range-beside 33 341 2048 1024 third end (z.2 ∙ sym z.3) (omega arith) s.tree (inr (omega arith)) in
    let b = count-beside second third free 2048 1024 z.1 s.count (inr (omega arith)) in
    let c = range-beside 3072 1024 2048 1024 first second (z.0 ∙ sym z.1) (omega arith) s.copy (inl (omega arith)) in
    let d = range-beside 33 341 3072 1024 third end (z.2 ∙ sym z.3) (omega arith) s.tree (inr (omega arith)) in
    let e = count-beside second third free 3072 1024 z.1 s.count (inr (omega arith)) in
    let f = range-beside 2048 1024 3072 1024 start first (s.size ∙ sym z.0) (omega (arith, s.size)) s.map (inr (omega arith)) in
    let g = count-beside second third free 33 341 z.1 s.count (inr (omega arith)) in
    let h = range-beside 3072 1024 33 341 first second (z.0 ∙ sym z.1) (omega arith) s.copy (inl (omega arith)) in
    let i = range-beside 2048 1024 33 341 start first (s.size ∙ sym z.0) (omega (arith, s.size)) s.map (inl (omega arith)) in
    let j = range-beside 3072 1024 4 4 first second (z.0 ∙ sym z.1) (omega arith) s.copy (inl (omega arith)) in
    let k = range-beside 2048 1024 4 4 start first (s.size ∙ sym z.0) (omega (arith, s.size)) s.map (inl (omega arith)) in
    record { map = a ∙ b ∙ c; before = b ∙ c; copy = d ∙ e; copy_before = f; tree = g ∙ h ∙ i; count = field-from_range second start 4 4 (j ∙ k) }

pub count-held : (start first second third end : List ℕ) (free : ℕ) → Puts start first second third end free → free < 2 ^ 32 → field_of end 4 4 ≡ free
count-held start first second third end free s small =
    let z = s.sizes in
    field-from_range end third 4 4 (range-beside 33 341 4 4 third end (z.2 ∙ sym z.3) (omega arith) s.tree (inl (omega arith)))
    ∙ ap (λ (y : List ℕ). field_of y 4 4) s.count ∙ field_of-put_same 4 4 free second refl (omega arith) small

pub canonical-after : (start first second third end : List ℕ) (free : ℕ) (taken : ℕ → Bool) → Puts start first second third end free → IsDmap start → ((b : ℕ) → taken_in end b ≡ taken b) → ((b : ℕ) → is_taken (range_of end 3072 1024) b ≡ taken b) → ((b : ℕ) → blocks_of start ≤ b → b < 8192 → taken b ≡ true) → free ≡ count_below 8192 (λ b. not (taken b)) → free < 2 ^ 32 → IsBuddyTree 4 6 (word_rank (map_of end)) (tree_of end) → IsDmap end
canonical-after start first second third end free taken s d set copy past count small tree =
    let field = λ (p n : ℕ) (side : Beside p n). field-from_range end start p n (rest-stays start first second third end free p n s side) in
    let blocks = field 0 4 (inl (omega arith)) in
    record {
      size = s.sizes.3;
      most = rw blocks d.most;
      past = λ b h k. set b ∙ past b (rw blocks at h) k;
      same = λ b. copy b ∙ sym (set b);
      free = count-held start first second third end free s small ∙ count ∙ count_below-same 8192 (λ b. not (taken b)) (λ b. not (taken_in end b)) (λ b k. ap not (sym (set b)));
      leaves = field 16 4 (inr (inl (omega arith, omega arith))) ∙ d.leaves;
      l2_leaves = field 20 4 (inr (inl (omega arith, omega arith))) ∙ d.l2_leaves;
      first_leaf = field 24 4 (inr (inl (omega arith, omega arith))) ∙ d.first_leaf;
      height = field 28 4 (inr (inl (omega arith, omega arith))) ∙ d.height;
      whole = field 32 1 (inr (inl (omega arith, omega arith))) ∙ d.whole;
      tree = tree;
      pad = rest-stays start first second third end free 374 1674 s (inr (inr (omega arith, omega arith))) ∙ d.pad;
    }

pub count-before : (start first second : List ℕ) → length start ≡ 4096 → length first ≡ 4096 → length second ≡ 4096 → first ≡ put_bytes 2048 (range_of first 2048 1024) start → second ≡ put_bytes 3072 (range_of second 3072 1024) first → field_of second 4 4 ≡ field_of start 4 4
count-before start first second a b c map copy =
    field-from_range second start 4 4 (
    range-beside 3072 1024 4 4 first second (b ∙ sym c) (omega (arith, b)) copy (inl (omega arith))
    ∙ range-beside 2048 1024 4 4 start first (a ∙ sym b) (omega (arith, a)) map (inl (omega arith)))
