-- One dmap of many is replaced.
use Rattle.std.proofs.Common.{◌≡◌, ◌≢◌, ◌<◌, ◌≤◌, ◌+◌, ◌*◌, ◌/◌, ◌%◌, ◌^◌, ℕ, Bool, true, false, not, ◌&&◌, ◌||◌, add_assoc, inl, inr, List, [], length, get_or, set, to_z, of_z, w8, refl, sym, ap, ◌∙◌, arith}
use Rattle.std.specs.Prelude.{ℤ, ◌==◌}
use Rattle.std.proofs.lemmas.Bool.{cases_eq, cases_lt, cond-true, cond-false, eq-eqb, ne_eqb}
use Rattle.std.proofs.lemmas.Bool.Decides.{nat_tests}
use Rattle.std.proofs.lemmas.List.{get_or-set_same, get_or-set_other, length-set}
use Rattle.jfs_disk.specs.declared.page.Page.{Page}
use Rattle.jfs_bits.specs.Bits.{is_free, is_in_run, count_below, is_full, greatest_run}
use Rattle.jfs_buddy.specs.Tree.{rank_of}
use Rattle.jfs_buddy.specs.Buddy.{with_own}
use Rattle.jfs_dmap.specs.Dmap.{blocks_of, first_block_of, taken_in, IsDmap}
use Rattle.jfs_bits.proofs.Runs.{all_below-same, is_free-same}
use Rattle.jfs_bits.proofs.Counts.{before_run, behind_run, count_below-same, count-marked, count-cleared}
use Rattle.jfs_dmapctl.specs.Control.{IsValue, IsControl}
use Rattle.jfs_dmapctl.proofs.Values.{value-read, rank-most}
use Rattle.jfs_bmap.specs.Set.{taken_at, marked, cleared}
use Rattle.jfs_bmap.specs.Pages.{page_at, taken_on, set_of, leaf_ranks, IsDmapOf, AreDmaps, AreMapPages}
use Rattle.jfs_bmap.proofs.Views.{length-held, taken_at-held, page_at-is, each_below-same, taken_on-within, taken_on-past, control-same}
use Rattle.jfs_buddy.proofs.Greatest.{greatest_run-same}
use Rattle.jfs_bmap.proofs.GreatestRuns.{greatest_run-value}

-- a dmap has its blocks, and those past the volume's end are taken on it
pub taken_on-dmap : (blocks k : ℕ) (dmaps : List Page) (i : ℕ) → IsDmapOf blocks k (page_at dmaps k) → i < 8192 → taken_on blocks dmaps (8192 * k + i) ≡ taken_in (page_at dmaps k) i
taken_on-dmap blocks k dmaps i d h =
    let quotient : (8192 * k + i) / 8192 ≡ k = omega arith in
    let rest : (8192 * k + i) % 8192 ≡ i = omega arith in
    elim (cases_lt (8192 * k + i) blocks) [
      | inl b ↦ rw (quotient, rest) at (taken_on-within blocks dmaps (8192 * k + i) b)
      | inr b ↦ taken_on-past blocks dmaps (8192 * k + i) b ∙ sym (d.canonical.past i (omega (arith, d.number)) h)
    ]

-- dmap `k` of a set's dmaps, as it was read
pub record Read (blocks k : ℕ) (dmaps : List Page) (set : List Bool) (page : Page) : Type 0 where
  pub pages : AreDmaps blocks dmaps
  pub view : set_of blocks dmaps ≡ set
  pub there : 8192 * k < length set
  pub page_is : page ≡ get_or dmaps k page

-- dmap `k` has a block of the set, so of the volume
pub block-there : (blocks k : ℕ) (dmaps : List Page) (set : List Bool) → set_of blocks dmaps ≡ set → 8192 * k < length set → 8192 * k < blocks
block-there blocks k dmaps set view h = omega (arith, length-held blocks dmaps set view)

-- such a dmap is in the list
pub dmap-there : (blocks k : ℕ) (dmaps : List Page) (set : List Bool) → AreDmaps blocks dmaps → set_of blocks dmaps ≡ set → 8192 * k < length set → k < length dmaps
dmap-there blocks k dmaps set d view h = omega (arith, d.number, block-there blocks k dmaps set view h)

-- the page that was read is the dmap
pub read-is : (blocks k : ℕ) (dmaps : List Page) (set : List Bool) (page : Page) → Read blocks k dmaps set page → page_at dmaps k ≡ page.0
read-is blocks k dmaps set page r = page_at-is dmaps k page (dmap-there blocks k dmaps set r.pages r.view r.there) r.page_is

-- and it is the canonical dmap `k`
pub read-dmap : (blocks k : ℕ) (dmaps : List Page) (set : List Bool) (page : Page) → Read blocks k dmaps set page → IsDmapOf blocks k page.0
read-dmap blocks k dmaps set page r = rw (read-is blocks k dmaps set page r) at (r.pages.each k (omega (arith, block-there blocks k dmaps set r.view r.there)))

-- its blocks are those of the set
pub read-taken : (blocks k : ℕ) (dmaps : List Page) (set : List Bool) (page : Page) (i : ℕ) → Read blocks k dmaps set page → i < 8192 → taken_in page.0 i ≡ taken_at set (8192 * k + i)
read-taken blocks k dmaps set page i r h =
    let page_is = read-is blocks k dmaps set page r in
    sym (taken_at-held blocks dmaps set (8192 * k + i) r.view ∙ rw page_is at (taken_on-dmap blocks k dmaps i (rw page_is (read-dmap blocks k dmaps set page r)) h))

-- a free run of the set within the dmap is free on it
pub read-free : (blocks k first n : ℕ) (dmaps : List Page) (set : List Bool) (page : Page) → Read blocks k dmaps set page → first + n ≤ 8192 → is_free (taken_at set) (8192 * k + first) n ≡ true → is_free (taken_in page.0) first n ≡ true
read-free blocks k first n dmaps set page r within free =
    is_free-same (taken_in page.0) (taken_at set) first (8192 * k + first) n (λ i h. rw (← add_assoc (8192 * k) first i) at (read-taken blocks k dmaps set page (first + i) r (omega arith))) ∙ free

-- a taken run of the set within the dmap is taken on it
pub read-full : (blocks k first n : ℕ) (dmaps : List Page) (set : List Bool) (page : Page) → Read blocks k dmaps set page → first + n ≤ 8192 → is_full (taken_at set) (8192 * k + first) n ≡ true → is_full (taken_in page.0) first n ≡ true
unfolding is_full
read-full blocks k first n dmaps set page r within full =
    all_below-same n (λ i. taken_in page.0 (first + i)) (λ i. taken_at set (8192 * k + first + i)) (λ i h. rw (← add_assoc (8192 * k) first i) at (read-taken blocks k dmaps set page (first + i) r (omega arith))) ∙ full

-- dmap `k` is the new page
pub page-replaced : (dmaps : List Page) (k : ℕ) (page : Page) → k < length dmaps → page_at (set dmaps k page) k ≡ page.0
page-replaced dmaps k page h = ap (λ (p : Page). p.0) (get_or-set_same dmaps k page (record { 0 = [] }) h)

-- the other dmaps stay
pub page-beside : (dmaps : List Page) (k j : ℕ) (page : Page) → j ≢ k → page_at (set dmaps k page) j ≡ page_at dmaps j
page-beside dmaps k j page n = ap (λ (p : Page). p.0) (get_or-set_other dmaps k j page (record { 0 = [] }) n)

-- they are the canonical dmaps of the volume again
pub dmaps-replaced : (blocks k : ℕ) (dmaps : List Page) (page : Page) → AreDmaps blocks dmaps → IsDmapOf blocks k page.0 → AreDmaps blocks (set dmaps k page)
dmaps-replaced blocks k dmaps page d new = record {
  number = length-set dmaps k page ∙ d.number;
  each = λ j h. elim (cases_eq j k) [
    | inl e ↦ rw (e, page-replaced dmaps k page (omega (arith, d.number))) new
    | inr n ↦ rw (page-beside dmaps k j page n) (d.each j h)
  ];
}

-- blocks of the other dmaps stay as they were
pub taken_on-beside : (blocks k : ℕ) (dmaps : List Page) (page : Page) (b : ℕ) → b / 8192 ≢ k → taken_on blocks (set dmaps k page) b ≡ taken_on blocks dmaps b
unfolding taken_on
taken_on-beside blocks k dmaps page b n = rw (page-beside dmaps k (b / 8192) page n) refl

-- a leaf has at most the rank of a wholly free dmap
pub leaf_ranks-most : (taken : ℕ → Bool) (v : ℕ) → leaf_ranks taken v ≤ 14
unfolding leaf_ranks
leaf_ranks-most taken v = rank-most 0 (greatest_run (λ i. taken (8192 * v + i)) 13 13) (greatest_run-value (λ i. taken (8192 * v + i)) 0 13 13 (omega arith))

-- the leaves get the ranks of the new dmaps where leaf `k` gets that of the new page
pub ranks-replaced : (blocks k : ℕ) (dmaps : List Page) (page : Page) (v : ℕ) → k < length dmaps → IsDmapOf blocks k page.0 → with_own (leaf_ranks (taken_on blocks dmaps)) k (rank_of (greatest_run (taken_in page.0) 13 13)) v ≡ leaf_ranks (taken_on blocks (set dmaps k page)) v
unfolding leaf_ranks
ranks-replaced blocks k dmaps page v there new =
    let own = leaf_ranks (taken_on blocks dmaps) in
    let rank = rank_of (greatest_run (taken_in page.0) 13 13) in
    let old = taken_on blocks dmaps in
    let now = taken_on blocks (set dmaps k page) in
    elim (cases_eq k v) [
      | inl e ↦
          let here = page-replaced dmaps k page there in
          let same : (i : ℕ) → i < 2 ^ 13 → taken_in page.0 i ≡ now (8192 * k + i) =
          λ i h. sym (rw here at (taken_on-dmap blocks k (set dmaps k page) i (rw here new) h)) in
          cond-true (k == v) rank (own v) (eq-eqb k v e) ∙ ap rank_of (rw (← e) (greatest_run-same (taken_in page.0) (λ i. now (8192 * k + i)) 13 13 (omega arith) same))
      | inr n ↦
          let same : (i : ℕ) → i < 2 ^ 13 → old (8192 * v + i) ≡ now (8192 * v + i) =
          λ i h. sym (taken_on-beside blocks k dmaps page (8192 * v + i) (λ e. n (omega arith))) in
          cond-false (k == v) rank (own v) (ne_eqb k v n) ∙ ap rank_of (greatest_run-same (λ i. old (8192 * v + i)) (λ i. now (8192 * v + i)) 13 13 (omega arith) same)
    ]

-- the pages over the new set, where its free blocks are counted
pub pages-replaced : (blocks free rest k : ℕ) (dmaps : List Page) (control new_control : List ℕ) (page : Page) → AreMapPages blocks free dmaps control → k < length dmaps → IsDmapOf blocks k page.0 → IsControl 0 (with_own (leaf_ranks (taken_on blocks dmaps)) k (rank_of (greatest_run (taken_in page.0) 13 13))) new_control → rest ≡ count_below blocks (λ b. not (taken_on blocks (set dmaps k page) b)) → AreMapPages blocks rest (set dmaps k page) new_control
pages-replaced blocks free rest k dmaps control new_control page m there new c count = record {
  most = m.most;
  pages = dmaps-replaced blocks k dmaps page m.pages new;
  ranks = control-same 0 (with_own (leaf_ranks (taken_on blocks dmaps)) k (rank_of (greatest_run (taken_in page.0) 13 13))) (leaf_ranks (taken_on blocks (set dmaps k page))) new_control (λ v h. ranks-replaced blocks k dmaps page v there new) (leaf_ranks-most (taken_on blocks (set dmaps k page))) c;
  count = count;
}

-- a run within one dmap, by the volume's blocks
run-shifted : (k first n i : ℕ) → is_in_run (8192 * k + first) n (8192 * k + i) ≡ is_in_run first n i
run-shifted k first n i = grind (arith, nat_tests)

-- and blocks of other dmaps are none of it
run-elsewhere : (k first n b : ℕ) → first + n ≤ 8192 → b / 8192 ≢ k → is_in_run (8192 * k + first) n b ≡ false
run-elsewhere k first n b within other = elim (cases_lt b (8192 * k)) [
  | inl h ↦ before_run (8192 * k + first) n b (omega arith)
  | inr h ↦ behind_run (8192 * k + first) n b (omega arith)
]

-- dmap `k` was replaced by `page`, on which `put` changed the `n` blocks from `first` on
pub record Replaced (put : Bool → Bool → Bool) (blocks k first n : ℕ) (dmaps : List Page) (page : Page) : Type 0 where
  pub there : k < length dmaps
  pub within : first + n ≤ 8192
  pub old : IsDmapOf blocks k (page_at dmaps k)
  pub new : IsDmapOf blocks k page.0
  pub change : (i : ℕ) → taken_in page.0 i ≡ put (is_in_run first n i) (taken_in (page_at dmaps k) i)

-- what a change of the page that was read tells
pub replaced : (put : Bool → Bool → Bool) (blocks k first n : ℕ) (dmaps : List Page) (set : List Bool) (old new : Page) → Read blocks k dmaps set old → first + n ≤ 8192 → IsDmap new.0 → blocks_of new.0 ≡ blocks_of old.0 → first_block_of new.0 ≡ first_block_of old.0 → ((i : ℕ) → taken_in new.0 i ≡ put (is_in_run first n i) (taken_in old.0 i)) → Replaced put blocks k first n dmaps new
replaced put blocks k first n dmaps set old new r within canonical number first_block change =
    let page_is = read-is blocks k dmaps set old r in
    let d = read-dmap blocks k dmaps set old r in
    record {
      there = dmap-there blocks k dmaps set r.pages r.view r.there;
      within = within;
      old = rw page_is d;
      new = record { canonical = canonical; number = number ∙ d.number; first = first_block ∙ d.first };
      change = rw page_is change;
    }

-- then the set of all dmaps changes in the same way, in the run alone
pub set-replaced : (put : Bool → Bool → Bool) (blocks k first n : ℕ) (dmaps : List Page) (page : Page) → ((t : Bool) → put false t ≡ t) → Replaced put blocks k first n dmaps page → (b : ℕ) → taken_on blocks (set dmaps k page) b ≡ put (is_in_run (8192 * k + first) n b) (taken_on blocks dmaps b)
set-replaced put blocks k first n dmaps page beside r b = elim (cases_eq (b / 8192) k) [
  | inl e ↦ (let split : b ≡ 8192 * k + b % 8192 = omega arith in rw split (here (b % 8192) (omega arith)))
  | inr other ↦ taken_on-beside blocks k dmaps page b other ∙ sym (rw (run-elsewhere k first n b r.within other) (beside (taken_on blocks dmaps b)))
]
  where
    here : (i : ℕ) → i < 8192 → taken_on blocks (set dmaps k page) (8192 * k + i) ≡ put (is_in_run (8192 * k + first) n (8192 * k + i)) (taken_on blocks dmaps (8192 * k + i))
    here i h =
        let page_is = page-replaced dmaps k page r.there in
        rw page_is at (taken_on-dmap blocks k (set dmaps k page) i (rw page_is r.new) h) ∙ r.change i ∙ rw (run-shifted k first n i, taken_on-dmap blocks k dmaps i r.old h) refl

-- the control page after its leaf got the value that was read from the new page
pub leaf-set : (own : ℕ → ℕ) (k : ℕ) (page control new : List ℕ) (value : ℤ) → value ≡ greatest_run (taken_in page) 13 13 → IsControl 0 own control → ((level : ℕ) (own : ℕ → ℕ) → IsControl level own control → IsValue level (to_z w8 (of_z w8 value)) → IsControl level (with_own own k (rank_of (to_z w8 (of_z w8 value)))) new) → IsControl 0 (with_own own k (rank_of (greatest_run (taken_in page) 13 13))) new
leaf-set own k page control new value e c h =
    let fits : IsValue 0 value = rw e (greatest_run-value (taken_in page) 0 13 13 (omega arith)) in
    let read = value-read 0 value (omega arith) fits in
    rw e at (rw read at (h 0 own c (rw read fits)))

-- the set whose blocks are those of a set and of a run is that set with the run taken
pub set-marked : (blocks first n : ℕ) (dmaps others : List Page) (set : List Bool) → set_of blocks dmaps ≡ set → ((b : ℕ) → taken_on blocks others b ≡ (is_in_run first n b || taken_on blocks dmaps b)) → set_of blocks others ≡ marked first n set
set-marked blocks first n dmaps others set view h =
    rw (length-held blocks dmaps set view) (each_below-same blocks (taken_on blocks others) (λ b. is_in_run first n b || taken_at set b) (λ b k. h b ∙ ap (λ (z : Bool). is_in_run first n b || z) (sym (taken_at-held blocks dmaps set b view))))

-- the set whose blocks are those of a set without a run is that set with the run free
pub set-cleared : (blocks first n : ℕ) (dmaps others : List Page) (set : List Bool) → set_of blocks dmaps ≡ set → ((b : ℕ) → taken_on blocks others b ≡ (not (is_in_run first n b) && taken_on blocks dmaps b)) → set_of blocks others ≡ cleared first n set
set-cleared blocks first n dmaps others set view h =
    rw (length-held blocks dmaps set view) (each_below-same blocks (taken_on blocks others) (λ b. not (is_in_run first n b) && taken_at set b) (λ b k. h b ∙ ap (λ (z : Bool). not (is_in_run first n b) && z) (sym (taken_at-held blocks dmaps set b view))))

-- the free blocks after a free run was taken
pub free-marked : (blocks first n : ℕ) (dmaps others : List Page) (set : List Bool) → set_of blocks dmaps ≡ set → first + n ≤ length set → is_free (taken_at set) first n ≡ true → ((b : ℕ) → taken_on blocks others b ≡ (is_in_run first n b || taken_on blocks dmaps b)) → count_below blocks (λ b. not (taken_on blocks others b)) + n ≡ count_below blocks (λ b. not (taken_on blocks dmaps b))
free-marked blocks first n dmaps others set view within free h =
    let size = length-held blocks dmaps set view in
    let held = is_free-same (taken_on blocks dmaps) (taken_at set) first first n (λ i k. sym (taken_at-held blocks dmaps set (first + i) view)) ∙ free in
    rw (count_below-same blocks (λ b. not (taken_on blocks others b)) (λ b. not (is_in_run first n b || taken_on blocks dmaps b)) (λ b k. ap not (h b))) (count-marked first n blocks (taken_on blocks dmaps) (rw size at within) held)

-- the free blocks after a taken run was given back
pub free-cleared : (blocks first n : ℕ) (dmaps others : List Page) (set : List Bool) → set_of blocks dmaps ≡ set → first + n ≤ length set → is_full (taken_at set) first n ≡ true → ((b : ℕ) → taken_on blocks others b ≡ (not (is_in_run first n b) && taken_on blocks dmaps b)) → count_below blocks (λ b. not (taken_on blocks others b)) ≡ count_below blocks (λ b. not (taken_on blocks dmaps b)) + n
unfolding is_full
free-cleared blocks first n dmaps others set view within full h =
    let size = length-held blocks dmaps set view in
    let held = all_below-same n (λ i. taken_on blocks dmaps (first + i)) (λ i. taken_at set (first + i)) (λ i k. sym (taken_at-held blocks dmaps set (first + i) view)) ∙ full in
    count_below-same blocks (λ b. not (taken_on blocks others b)) (λ b. not (not (is_in_run first n b) && taken_on blocks dmaps b)) (λ b k. ap not (h b)) ∙ count-cleared first n blocks (taken_on blocks dmaps) (rw size at within) held
