-- The lowest free run of a page, from the lowest leaf that has one.
use Rattle.std.proofs.Common.{◌≡◌, ◌<◌, ◌≤◌, ◌+◌, ◌-◌, ◌*◌, ◌/◌, ◌^◌, ℕ, suc, Bool, List, take, drop, add-one, refl, sym, ap, ◌∙◌, arith}
use Rattle.std.specs.Prelude.{Option, Some, None}
use Rattle.std.proofs.lemmas.Nat.{pow_pos, pow_below, shl-shr, div_below}
use Rattle.jfs_bits.specs.Field.{field_of}
use Rattle.jfs_bits.specs.Bits.{is_taken, is_taken_in, IsLowestFree, max_bud_of}
use Rattle.jfs_buddy.specs.Tree.{rank_of}
use Rattle.jfs_buddy.specs.Buddy.{IsLowestRun, IsBuddyTree}
use Rattle.jfs_buddy.proofs.Parts.{part-is, field-in_part}
use Rattle.jfs_buddy.proofs.Greatest.{greatest_run-same, runs-in, run-within, run-begin}
use Rattle.jfs_buddy.proofs.Spans.{part_of, AreRanks, IsLowestAt, none-lowest, whole-lowest, part-some, part-lowest, lowest-within}
use Rattle.jfs_dmap.specs.Dmap.{map_of, taken_in, word_rank, IsDmap}
use Rattle.jfs_dmap.proofs.Buds.{word-bit}

-- a leaf has the rank of its word's greatest free run
pub are-ranks : (map : List ℕ) → AreRanks 5 (is_taken map) (word_rank map)
unfolding max_bud_of
are-ranks map = record { each = λ v. ap rank_of (greatest_run-same (is_taken_in (field_of map (4 * v) 4)) (part_of 5 (is_taken map) v) 5 5 (omega arith) (λ i b. sym (word-bit map v i b))) }

-- the number of aligned runs of a size
pub runs_of : (l2 : ℕ) → l2 ≤ 13 → 8192 / 2 ^ l2 ≡ 2 ^ (13 - l2)
runs_of l2 h = ap (λ (z : ℕ). z / 2 ^ l2) (runs-in 13 l2 h) ∙ shl-shr (2 ^ (13 - l2)) l2

-- none is longer than the page
pub no_runs : (l2 : ℕ) → 13 < l2 → 8192 / 2 ^ l2 ≡ 0
no_runs l2 h =
    let less : 8192 / 2 ^ l2 < 1 = div_below 8192 (2 ^ l2) 1 (pow_pos l2) (omega (arith, pow_below 13 l2 h)) in
    omega arith

-- a run that begins on the page is one of the page's
on-page : (taken : ℕ → Bool) (l2 first : ℕ) → l2 ≤ 13 → first < 8192 → IsLowestAt taken l2 first → IsLowestFree taken (8192 / 2 ^ l2) l2 (Some first)
on-page taken l2 first h b lowest = (lowest.0, rw (runs_of l2 h) (run-begin 13 l2 lowest.0 h (omega (arith, lowest.1))), lowest.1, lowest.2, lowest.3)

-- what the tree's search says of a canonical page
abbrev pub Searched : List ℕ → ℕ → Option ℕ → Type 0
Searched page l2 o = (own : ℕ → ℕ) → IsBuddyTree 4 6 own (take 341 (drop 33 page)) → IsLowestRun 4 own 6 (l2 + 1) o

searched : (page : List ℕ) (l2 : ℕ) (o : Option ℕ) → IsDmap page → Searched page l2 o → IsLowestRun 4 (word_rank (map_of page)) 6 (suc l2) o
searched page l2 o d h = rw add-one at (h (word_rank (map_of page)) (rw (part-is page 33 341) d.tree))

-- no leaf found
pub page-none : (page : List ℕ) (l2 : ℕ) → l2 ≤ 13 → IsDmap page → Searched page l2 None → IsLowestFree (taken_in page) (8192 / 2 ^ l2) l2 None
page-none page l2 b d h j k =
    none-lowest (are-ranks (map_of page)) 4 l2 j (searched page l2 None d h) (omega (arith, run-within 13 l2 j 0 b (rw (runs_of l2 b) at k) (pow_pos l2)))

-- one that begins a run of whole words
pub page-large : (page : List ℕ) (l2 v : ℕ) → 5 ≤ l2 → l2 ≤ 13 → IsDmap page → Searched page l2 (Some v) → IsLowestFree (taken_in page) (8192 / 2 ^ l2) l2 (Some (32 * v))
page-large page l2 v a b d h =
    let lowest = searched page l2 (Some v) d h in
    let leaf : v < 256 = lowest.0 in
    on-page (taken_in page) l2 (32 * v) b (omega arith) (whole-lowest (are-ranks (map_of page)) 4 l2 v a lowest)

-- one whose word has the lowest run
pub page-small : (page : List ℕ) (l2 v : ℕ) (o : Option ℕ) → l2 < 5 → IsDmap page → Searched page l2 (Some v) → IsLowestFree (is_taken_in (field_of page (2048 + 4 * v) 4)) (2 ^ (5 - l2)) l2 o → (first : ℕ) × (o ≡ Some first) × IsLowestFree (taken_in page) (8192 / 2 ^ l2) l2 (Some (32 * v + first)) × (first < 32)
page-small page l2 v o a d h inner = cases o (rw (← field-in_part page 2048 1024 (4 * v) 4 (omega (arith, leaf))) at inner)
  where
    lowest : IsLowestRun 4 (word_rank (map_of page)) 6 (suc l2) (Some v)
    lowest = searched page l2 (Some v) d h

    word : ℕ → Bool
    word = is_taken_in (field_of (map_of page) (4 * v) 4)

    leaf : v < 256
    leaf = lowest.0

    same : (i : ℕ) → i < 32 → word i ≡ taken_in page (32 * v + i)
    same i b = sym (word-bit (map_of page) v i b)

    cases : (o : Option ℕ) → IsLowestFree word (2 ^ (5 - l2)) l2 o → (first : ℕ) × (o ≡ Some first) × IsLowestFree (taken_in page) (8192 / 2 ^ l2) l2 (Some (32 * v + first)) × (first < 32)
    cases None inner = absurd (part-some (are-ranks (map_of page)) word 4 l2 v (omega arith) same lowest inner)
    cases (Some first) inner =
        let small = lowest-within word 5 l2 first (omega arith) inner in
        (first, refl, on-page (taken_in page) l2 (32 * v + first) (omega arith) (omega (arith, leaf)) (part-lowest (are-ranks (map_of page)) word 4 l2 v (omega arith) same lowest first inner), small)

-- the word is one of the page's
pub word-within : (page : List ℕ) (l2 v : ℕ) → IsDmap page → Searched page l2 (Some v) → v < 256
word-within page l2 v d h = (searched page l2 (Some v) d h).0
