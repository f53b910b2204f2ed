-- Sets as lists, block by block.
use Rattle.std.proofs.Common.{◌≡◌, ◌<◌, ◌≤◌, ◌+◌, ◌/◌, ◌%◌, ℕ, Bool, true, false, not, ◌&&◌, ◌||◌, inl, inr, List, [], length, get_or, refl, sym, ap, ◌∙◌, arith}
use Rattle.std.proofs.lemmas.Bool.{cases_lt, lt-ltb, le-ltb}
use Rattle.std.proofs.lemmas.List.{ext_get_or, get_or_default, get_or_past}
use Rattle.std.proofs.lemmas.List.FromFn.{get_or-map-range_with_len, length-map-range_with_len}
use Rattle.jfs_disk.specs.declared.page.Page.{Page}
use Rattle.jfs_bits.specs.Bits.{is_in_run, count_below}
use Rattle.jfs_buddy.proofs.Finds.{tree-same}
use Rattle.jfs_dmap.specs.Dmap.{taken_in}
use Rattle.jfs_bits.proofs.Counts.{count_below-same, behind_run}
use Rattle.jfs_dmapctl.specs.Control.{whole_of, tree_of, IsControl}
use Rattle.jfs_bmap.specs.Set.{each_below, taken_at, marked, cleared, free_in}
use Rattle.jfs_bmap.specs.Pages.{page_at, taken_on, set_of}

-- a list of the values below `n` has `n` of them
pub length-each_below : {X : Type 0} (n : ℕ) (f : ℕ → X) → length (each_below n f) ≡ n
length-each_below n f = length-map-range_with_len f 0 n

-- and has the value of each place there
pub each_below-at : {X : Type 0} (n : ℕ) (f : ℕ → X) (b : ℕ) (past : X) → b < n → get_or (each_below n f) b past ≡ f b
each_below-at n f b past h = get_or-map-range_with_len f 0 n b b past h (omega arith)

-- functions that agree below `n` have the same values below `n`
pub each_below-same : {X : Type 0} (n : ℕ) (f g : ℕ → X) → ((b : ℕ) → b < n → f b ≡ g b) → each_below n f ≡ each_below n g
each_below-same n f g h =
    ext_get_or (f 0) (each_below n f) (each_below n g) (length-each_below n f ∙ sym (length-each_below n g)) (λ b k.
    let within : b < n = omega (arith, length-each_below n f) in
    each_below-at n f b (f 0) within ∙ h b within ∙ sym (each_below-at n g b (f 0) within))

-- a block of such a set
pub taken_at-each_below : (n : ℕ) (f : ℕ → Bool) (b : ℕ) → b < n → taken_at (each_below n f) b ≡ f b
taken_at-each_below n f b h = each_below-at n f b true h

-- a block past the end of a set
pub taken_at-past : (set : List Bool) (b : ℕ) → length set ≤ b → taken_at set b ≡ true
taken_at-past set b h = get_or_past set b true h

-- two sets of as many blocks, of which the same are taken
pub same_sets : (s t : List Bool) → length s ≡ length t → ((b : ℕ) → b < length s → taken_at s b ≡ taken_at t b) → s ≡ t
same_sets s t e h = ext_get_or true s t e h

-- a block of the volume is taken as its dmap says
pub taken_on-within : (blocks : ℕ) (dmaps : List Page) (b : ℕ) → b < blocks → taken_on blocks dmaps b ≡ taken_in (page_at dmaps (b / 8192)) (b % 8192)
unfolding taken_on
taken_on-within blocks dmaps b h = rw (lt-ltb b blocks h) refl

-- a block past the end of the volume is taken
pub taken_on-past : (blocks : ℕ) (dmaps : List Page) (b : ℕ) → blocks ≤ b → taken_on blocks dmaps b ≡ true
unfolding taken_on
taken_on-past blocks dmaps b h = rw (le-ltb b blocks h) refl

-- the set that dmaps hold has the blocks of the volume
pub length-set_of : (blocks : ℕ) (dmaps : List Page) → length (set_of blocks dmaps) ≡ blocks
length-set_of blocks dmaps = length-each_below blocks (taken_on blocks dmaps)

-- each of which is taken as on the dmaps
pub taken_at-set_of : (blocks : ℕ) (dmaps : List Page) (b : ℕ) → taken_at (set_of blocks dmaps) b ≡ taken_on blocks dmaps b
taken_at-set_of blocks dmaps b = elim (cases_lt b blocks) [
  | inl h ↦ taken_at-each_below blocks (taken_on blocks dmaps) b h
  | inr h ↦ taken_at-past (set_of blocks dmaps) b (omega (arith, length-set_of blocks dmaps)) ∙ sym (taken_on-past blocks dmaps b h)
]

-- its free blocks are those of the dmaps
pub free_in-set_of : (blocks : ℕ) (dmaps : List Page) → free_in (set_of blocks dmaps) ≡ count_below blocks (λ b. not (taken_on blocks dmaps b))
free_in-set_of blocks dmaps =
    rw (length-set_of blocks dmaps) (count_below-same blocks (λ b. not (taken_at (set_of blocks dmaps) b)) (λ b. not (taken_on blocks dmaps b)) (λ b h. ap not (taken_at-set_of blocks dmaps b)))

-- the same of a list that is this set
pub length-held : (blocks : ℕ) (dmaps : List Page) (set : List Bool) → set_of blocks dmaps ≡ set → length set ≡ blocks
length-held blocks dmaps set e = sym (ap length e) ∙ length-set_of blocks dmaps

-- the same of a block of such a list
pub taken_at-held : (blocks : ℕ) (dmaps : List Page) (set : List Bool) (b : ℕ) → set_of blocks dmaps ≡ set → taken_at set b ≡ taken_on blocks dmaps b
taken_at-held blocks dmaps set b e = sym (ap (λ (s : List Bool). taken_at s b) e) ∙ taken_at-set_of blocks dmaps b

-- the page that is read at a place
pub page_at-is : (pages : List Page) (k : ℕ) (page : Page) → k < length pages → page ≡ get_or pages k page → page_at pages k ≡ page.0
page_at-is pages k page h e = ap (λ (p : Page). p.0) (get_or_default pages k (record { 0 = [] }) page h ∙ sym e)

-- a set keeps its length where a run is taken
pub length-marked : (first n : ℕ) (set : List Bool) → length (marked first n set) ≡ length set
length-marked first n set = length-each_below (length set) (λ b. is_in_run first n b || taken_at set b)

-- or given back
pub length-cleared : (first n : ℕ) (set : List Bool) → length (cleared first n set) ≡ length set
length-cleared first n set = length-each_below (length set) (λ b. not (is_in_run first n b) && taken_at set b)

-- the blocks that are taken after a run was taken
pub taken_at-marked : (first n : ℕ) (set : List Bool) (b : ℕ) → taken_at (marked first n set) b ≡ (is_in_run first n b || taken_at set b)
taken_at-marked first n set b = elim (cases_lt b (length set)) [
  | inl h ↦ taken_at-each_below (length set) (λ c. is_in_run first n c || taken_at set c) b h
  | inr h ↦ taken_at-past (marked first n set) b (omega (arith, length-marked first n set)) ∙ sym (rw (taken_at-past set b h) (or_true (is_in_run first n b)))
]
  where
    or_true : (x : Bool) → (x || true) ≡ true
    or_true true = refl
    or_true false = refl

-- the blocks that are taken after a run was given back
pub taken_at-cleared : (first n : ℕ) (set : List Bool) (b : ℕ) → first + n ≤ length set → taken_at (cleared first n set) b ≡ (not (is_in_run first n b) && taken_at set b)
taken_at-cleared first n set b within = elim (cases_lt b (length set)) [
  | inl h ↦ taken_at-each_below (length set) (λ c. not (is_in_run first n c) && taken_at set c) b h
  | inr h ↦ taken_at-past (cleared first n set) b (omega (arith, length-cleared first n set)) ∙ sym (rw (taken_at-past set b h, behind_run first n b (omega arith)) refl)
]

-- a control page says the same over ranks that agree on its leaves
pub control-same : (level : ℕ) (own other : ℕ → ℕ) (page : List ℕ) → ((v : ℕ) → v < 1024 → own v ≡ other v) → ((v : ℕ) → other v ≤ whole_of level + 1) → IsControl level own page → IsControl level other page
control-same level own other page h most c = record {
  size = c.size;
  known = c.known;
  leaves = c.leaves;
  l2_leaves = c.l2_leaves;
  first_leaf = c.first_leaf;
  height = c.height;
  whole = c.whole;
  tree = tree-same 5 (whole_of level + 1) own other (tree_of page) h most c.tree;
  pad = c.pad;
}
