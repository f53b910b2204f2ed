-- The inode maps of a new volume, in which the first extent of all is there and no other.
use Rattle.std.proofs.Common.{◌≡◌, ◌≤◌, ◌<◌, ◌+◌, ◌-◌, ◌*◌, ◌/◌, ◌%◌, ℕ, zero, suc, Bool, true, false, not, ◌&&◌, List, ◌∷◌, get_or, replicate, refl, sym, ap, ◌∙◌, ◌⊎◌, inl, inr, arith}
use Rattle.std.specs.Prelude.{◌==◌, nat_le, nat_lt, if◌then◌else◌}
use Rattle.std.proofs.Math.Nat.{mod-eq_of_lt, mod-lt, add-mod_right}
use Rattle.std.proofs.lemmas.Bool.{cases_lt, cases_eq, eq-eqb, ne_eqb, true≢false, lt-ltb, le-ltb, le-leb, lt-leb}
use Rattle.std.proofs.lemmas.List.FromFn.{get_or-map-range_with_len}
use Rattle.jfs_bits.specs.declared.descriptor.Pxd.{Pxd}
use Rattle.jfs_bits.specs.Bits.{is_taken, any_below, count_below}
use Rattle.jfs_bits.proofs.Buds.{any_below-from, any_below-none}
use Rattle.jfs_bits.proofs.Counts.{behind_run, count_below-same, count_below-nothing, count_below-front}
use Rattle.jfs_iag.specs.declared.canonical.Links.{Links}
use Rattle.jfs_iag.specs.Iag.{no_run}
use Rattle.jfs_iag.specs.Canonical.{is_there, has_free, is_free_inode, has_free_inode, has_free_place, in_inode_list, in_place_list, end_of_list, IsNext, IsPrevious, AreLinks, IsIagPage}
use Rattle.jfs_iag.specs.Laws.{AreSame}
use Rattle.jfs_iag.proofs.Maps.{and_true, and_false}
use Rattle.jfs_iag.proofs.Carried.{neighbors-carried, iag-carried}
use Rattle.jfs_iag.proofs.Agreed.{inode-same, inodes-listed, places-listed}
use Rattle.jfs_imap.specs.Inodes.{is_used, is_free, extent_at, IsPageOfIag}
use Rattle.jfs_format.specs.declared.layout.Layout.{Layout}
use Rattle.jfs_format.specs.declared.tables.Table.{Table}
use Rattle.jfs_format.specs.declared.tables.Table.TheVariants.{Aggregate, Fileset}
use Rattle.jfs_format.specs.Layout.{IsLayout}
use Rattle.jfs_format.specs.Inodes.{in_use}
use Rattle.jfs_format.specs.Volume.{extent_of, iags_of, inodes_in}
use Rattle.jfs_format.specs.Map.{place_of}

-- ---- the sets by their lists

no-extent : (n k : ℕ) → get_or (replicate {A = Pxd} n no_run) k no_run ≡ no_run
no-extent zero k = refl
no-extent (suc n) zero = refl
no-extent (suc n) (suc k) = no-extent n k

extent-in : (run : Pxd) (n e : ℕ) → get_or (run ∷ replicate {A = Pxd} n no_run) e no_run ≡ place_of run e
extent-in run n zero = refl
extent-in run n (suc e) = rw (ne_eqb (suc e) 0 (λ f. omega (arith, f))) (no-extent n e)

pub same-in : (table : Table) (l : Layout) → AreSame (iags_of table l) (in_use table) (is_used (inodes_in table l)) (place_of (extent_of table l)) (extent_at (inodes_in table l))
same-in table l = record {
  inodes = λ i h. sym (get_or-map-range_with_len (in_use table) 0 (4096 * iags_of table l) i i false h (omega arith));
  extents = λ e h. sym (extent-in (extent_of table l) (128 * iags_of table l - 1) e);
}

-- inodes in use lie in the first extent
pub none-behind : (table : Table) (i : ℕ) → 32 ≤ i → in_use table i ≡ false
none-behind Aggregate i h = rw (behind_run 0 5 i (omega arith), behind_run 16 1 i (omega arith)) refl
none-behind Fileset i h = behind_run 0 4 i (omega arith)

there-first : (table : Table) (l : Layout) → is_there (extent_of table l) ≡ true
there-first Aggregate l = refl
there-first Fileset l = refl

there-at : (table : Table) (l : Layout) (e : ℕ) → e ≡ 0 → is_there (place_of (extent_of table l) e) ≡ true
there-at table l e h = rw h (there-first table l)

pub not-there : (table : Table) (l : Layout) (e : ℕ) → 0 < e → is_there (place_of (extent_of table l) e) ≡ false
not-there table l e h = rw (ne_eqb e 0 (λ f. omega (arith, f))) refl

-- ---- counts

-- of a test that only numbers below `m` pass, whose key is 0
group-count : (m n g : ℕ) (test : ℕ → Bool) (key : ℕ → ℕ) → m ≤ n → ((e : ℕ) → m ≤ e → test e ≡ false) → ((e : ℕ) → e < m → key e ≡ 0) → count_below n (λ e. test e && key e == g) ≡ (if g == 0 then count_below m test else 0)
group-count m n g test key most none first = by (cases_eq g 0)
  where
    both : (a b : Bool) → a ≡ false → (a && b) ≡ false
    both a b h = and_false a b h

    right : (a b : Bool) → b ≡ true → (a && b) ≡ a
    right true b h = h
    right false b h = refl

    wrong : (a b : Bool) → b ≡ false → (a && b) ≡ false
    wrong true b h = h
    wrong false b h = refl

    each : (e : ℕ) → (g ≡ 0 → ⊥) → (e < m) ⊎ (m ≤ e) → (test e && key e == g) ≡ false
    each e other (inl low) = wrong (test e) (key e == g) (rw (first e low) (ne_eqb 0 g (λ f. other (sym f))))
    each e other (inr high) = both (test e) (key e == g) (none e high)

    by : (g ≡ 0) ⊎ (g ≡ 0 → ⊥) → count_below n (λ e. test e && key e == g) ≡ (if g == 0 then count_below m test else 0)
    by (inl same) =
        rw same (sym (count_below-front m n (λ e. test e && key e == 0) most (λ e from to. both (test e) (key e == 0) (none e from)))
        ∙ count_below-same m (λ e. test e && key e == 0) test (λ e h. right (test e) (key e == 0) (eq-eqb (key e) 0 (first e h))))
    by (inr other) = rw (ne_eqb g 0 other) (count_below-nothing n (λ e. test e && key e == g) (λ e h. each e other (cases_lt e m)))

one-there : (table : Table) (l : Layout) → count_below 1 (λ e. is_there (place_of (extent_of table l) e)) ≡ 1
unfolding count_below
one-there table l = rw (there-first table l) refl

pub count-there : (table : Table) (l : Layout) (n : ℕ) → 0 < n → count_below n (λ e. is_there (place_of (extent_of table l) e)) ≡ 1
count-there table l n some = sym (count_below-front 1 n (λ e. is_there (place_of (extent_of table l) e)) (omega arith) (λ e from to. not-there table l e (omega arith))) ∙ one-there table l

free-at : (table : Table) (l : Layout) (i : ℕ) → i < 32 → is_free_inode (in_use table) (place_of (extent_of table l)) i ≡ not (in_use table i)
free-at table l i h = and_true (is_there (place_of (extent_of table l) (i / 32))) (not (in_use table i)) (there-at table l (i / 32) (omega arith))

free-behind : (table : Table) (l : Layout) (i : ℕ) → 32 ≤ i → is_free_inode (in_use table) (place_of (extent_of table l)) i ≡ false
free-behind table l i h = and_false (is_there (place_of (extent_of table l) (i / 32))) (not (in_use table i)) (not-there table l (i / 32) (omega arith))

free-first : (table : Table) (l : Layout) → count_below 32 (is_free_inode (in_use table) (place_of (extent_of table l))) ≡ count_below 32 (λ i. not (in_use table i))
free-first table l = count_below-same 32 (is_free_inode (in_use table) (place_of (extent_of table l))) (λ i. not (in_use table i)) (λ i h. free-at table l i h)

pub count-free : (table : Table) (l : Layout) (n : ℕ) → 32 ≤ n → count_below n (is_free_inode (in_use table) (place_of (extent_of table l))) ≡ count_below 32 (λ i. not (in_use table i))
count-free table l n some =
    sym (count_below-front 32 n (is_free_inode (in_use table) (place_of (extent_of table l))) some (λ i from to. free-behind table l i from)) ∙ free-first table l

-- both of one group; all that there is belongs to group 0
key-zero : (numag n e : ℕ) → 0 < numag → 0 < n → e < n → e / n ≡ 0 → e / n % numag ≡ 0
key-zero numag n e some many h zero_is = rw zero_is (mod-eq_of_lt {n = 0} {m = numag} some)

pub group-there : (table : Table) (l : Layout) (iags numag g : ℕ) → 0 < iags → 0 < numag → count_below (128 * iags) (λ e. is_there (place_of (extent_of table l) e) && e / 128 % numag == g) ≡ (if g == 0 then 1 else 0)
group-there table l iags numag g some groups =
    group-count 1 (128 * iags) g (λ e. is_there (place_of (extent_of table l) e)) (λ e. e / 128 % numag) (omega arith) (λ e h. not-there table l e (omega arith)) (λ e h. key-zero numag 128 e groups (omega arith) (omega arith) (omega arith))
    ∙ ap (λ (z : ℕ). if g == 0 then z else 0) (one-there table l)

pub group-free : (table : Table) (l : Layout) (iags numag g : ℕ) → 0 < iags → 0 < numag → count_below (4096 * iags) (λ i. is_free_inode (in_use table) (place_of (extent_of table l)) i && i / 4096 % numag == g) ≡ (if g == 0 then count_below 32 (λ i. not (in_use table i)) else 0)
group-free table l iags numag g some groups =
    group-count 32 (4096 * iags) g (is_free_inode (in_use table) (place_of (extent_of table l))) (λ i. i / 4096 % numag) (omega arith) (λ i h. free-behind table l i h) (λ i h. key-zero numag 4096 i groups (omega arith) (omega arith) (omega arith))
    ∙ ap (λ (z : ℕ). if g == 0 then z else 0) (free-first table l)

-- ---- lists

free-sixth : (table : Table) → not (in_use table 5) ≡ true
free-sixth Aggregate = refl
free-sixth Fileset = refl

first-lists : (table : Table) (l : Layout) → has_free_inode (in_use table) (place_of (extent_of table l)) 0 ≡ true
first-lists table l =
    any_below-from 128 (λ e. has_free (in_use table) (place_of (extent_of table l)) (128 * 0 + e)) 0 (omega arith)
    (and_true (is_there (place_of (extent_of table l) 0)) (any_below 32 (λ i. not (in_use table (32 * 0 + i)))) (there-first table l)
    ∙ any_below-from 32 (λ i. not (in_use table (32 * 0 + i))) 5 (omega arith) (free-sixth table))

later-lists : (table : Table) (l : Layout) (k : ℕ) → 0 < k → has_free_inode (in_use table) (place_of (extent_of table l)) k ≡ false
later-lists table l k h =
    any_below-none 128 (λ e. has_free (in_use table) (place_of (extent_of table l)) (128 * k + e))
    (λ e _. and_false (is_there (place_of (extent_of table l) (128 * k + e))) (any_below 32 (λ i. not (in_use table (32 * (128 * k + e) + i)))) (not-there table l (128 * k + e) (omega arith)))

has-place : (table : Table) (l : Layout) (k : ℕ) → has_free_place (place_of (extent_of table l)) k ≡ true
has-place table l k = any_below-from 128 (λ e. not (is_there (place_of (extent_of table l) (128 * k + e)))) 1 (omega arith) (ap not (not-there table l (128 * k + 1) (omega arith)))

-- IAG `k` stands in its group's list of places
pub listed-place : (table : Table) (l : Layout) (numag g k : ℕ) → k % numag ≡ g → in_place_list (place_of (extent_of table l)) numag g k ≡ true
listed-place table l numag g k h = and_true (k % numag == g) (has_free_place (place_of (extent_of table l)) k) (eq-eqb (k % numag) g h) ∙ has-place table l k

pub unlisted-place : (table : Table) (l : Layout) (numag g k : ℕ) → (k % numag ≡ g → ⊥) → in_place_list (place_of (extent_of table l)) numag g k ≡ false
unlisted-place table l numag g k h = and_false (k % numag == g) (has_free_place (place_of (extent_of table l)) k) (ne_eqb (k % numag) g h)

pub listed-inode : (table : Table) (l : Layout) (numag : ℕ) → 0 < numag → in_inode_list (in_use table) (place_of (extent_of table l)) numag 0 0 ≡ true
listed-inode table l numag some = and_true (0 % numag == 0) (has_free_inode (in_use table) (place_of (extent_of table l)) 0) (eq-eqb (0 % numag) 0 (mod-eq_of_lt {n = 0} {m = numag} some)) ∙ first-lists table l

pub unlisted-inode : (table : Table) (l : Layout) (numag g k : ℕ) → 0 < k → in_inode_list (in_use table) (place_of (extent_of table l)) numag g k ≡ false
unlisted-inode table l numag g k h = no (k % numag == g) (has_free_inode (in_use table) (place_of (extent_of table l)) k) (later-lists table l k h)
  where
    no : (a b : Bool) → b ≡ false → (a && b) ≡ false
    no true b e = e
    no false b e = refl

-- group g's lists
pub first-inode : (table : Table) (l : Layout) (iags numag g : ℕ) → 0 < iags → 0 < numag → IsNext (in_inode_list (in_use table) (place_of (extent_of table l)) numag g) iags 0 (if g == 0 then 0 else end_of_list)
first-inode table l iags numag g some groups = by (cases_eq g 0)
  where
    zero-out : (k : ℕ) → (g ≡ 0 → ⊥) → (k ≡ 0) ⊎ (k ≡ 0 → ⊥) → in_inode_list (in_use table) (place_of (extent_of table l)) numag g k ≡ false
    zero-out k other (inl same) = rw same (and_false (0 % numag == g) (has_free_inode (in_use table) (place_of (extent_of table l)) 0) (ne_eqb (0 % numag) g (λ f. other (sym f ∙ mod-eq_of_lt {n = 0} {m = numag} groups))))
    zero-out k other (inr more) = unlisted-inode table l numag g k (omega (arith, more))

    by : (g ≡ 0) ⊎ (g ≡ 0 → ⊥) → IsNext (in_inode_list (in_use table) (place_of (extent_of table l)) numag g) iags 0 (if g == 0 then 0 else end_of_list)
    by (inl same) = rw same (inr (omega arith, some, listed-inode table l numag groups, λ k from to. absurd (omega arith)))
    by (inr other) = rw (ne_eqb g 0 other) (inl (refl, λ k from to. zero-out k other (cases_eq k 0)))

mod-twice : (k numag : ℕ) → 0 < numag → numag ≤ k → k < 2 * numag → k % numag ≡ k - numag
mod-twice k numag some from to =
    let e : (k - numag) + numag ≡ k = omega arith in
    rw e at (add-mod_right (k - numag) numag ∙ mod-eq_of_lt {n = k - numag} {m = numag} (omega arith))

pub first-place : (table : Table) (l : Layout) (iags numag g : ℕ) → 0 < iags → 0 < numag → (g < numag → g < iags → IsNext (in_place_list (place_of (extent_of table l)) numag g) iags 0 g) × ((numag ≤ g) ⊎ (iags ≤ g) → IsNext (in_place_list (place_of (extent_of table l)) numag g) iags 0 end_of_list)
first-place table l iags numag g some groups = (
  λ h there. inr (omega arith, there, listed-place table l numag g g (mod-eq_of_lt {n = g} {m = numag} h), λ k from to. unlisted-place table l numag g k (λ e. omega (arith, e, mod-eq_of_lt {n = k} {m = numag} (omega arith)))),
  λ past. inl (refl, λ k from to. unlisted-place table l numag g k (none k to past)),
)
  where
    none : (k : ℕ) → k < iags → (numag ≤ g) ⊎ (iags ≤ g) → k % numag ≡ g → ⊥
    none k to (inl high) e = omega (arith, e, high, mod-lt k {m = numag} groups)
    none k to (inr high) e = low k to high e (cases_lt k numag)
      where
        low : (k : ℕ) → k < iags → iags ≤ g → k % numag ≡ g → (k < numag) ⊎ (numag ≤ k) → ⊥
        low k to high e (inl small) = omega (arith, e, mod-eq_of_lt {n = k} {m = numag} small)
        low k to high e (inr large) = omega (arith, e, mod-lt k {m = numag} groups)

-- the list words of IAG `k`; each group has at most two
pub are-links : (table : Table) (l : Layout) (iags numag k : ℕ) (links : Links) → 0 < numag → iags ≤ 2 * numag → k < iags
    → links.inofreefwd ≡ end_of_list → links.inofreeback ≡ end_of_list
    → links.extfreefwd ≡ (if nat_lt (k + numag) iags then k + numag else end_of_list) → links.extfreeback ≡ (if nat_le numag k then k - numag else end_of_list)
    → AreLinks (in_use table) (place_of (extent_of table l)) iags numag k links
are-links table l iags numag k links groups twice within inofwd inoback extfwd extback = record {
  inodes = record {
    forward_in = λ h. inl (inofwd, λ j from to. unlisted-inode table l numag (k % numag) j (omega arith));
    back_in = λ h. inl (inoback, λ j to. absurd (back-first j to h (cases_eq k 0)));
    out = λ h. (inofwd, inoback);
  };
  places = record {
    forward_in = λ h. rw extfwd (forward (cases_lt (k + numag) iags));
    back_in = λ h. rw extback (back (cases_lt k numag));
    out = λ h. absurd (true≢false (sym (listed-place table l numag (k % numag) k refl) ∙ h));
  };
}
  where
    back-first : (j : ℕ) → j < k → in_inode_list (in_use table) (place_of (extent_of table l)) numag (k % numag) k ≡ true → (k ≡ 0) ⊎ (k ≡ 0 → ⊥) → ⊥
    back-first j to h (inl same) = omega (arith, same, to)
    back-first j to h (inr other) = true≢false (sym h ∙ unlisted-inode table l numag (k % numag) k (omega (arith, other)))

    forward : (k + numag < iags) ⊎ (iags ≤ k + numag) → IsNext (in_place_list (place_of (extent_of table l)) numag (k % numag)) iags (k + 1) (if nat_lt (k + numag) iags then k + numag else end_of_list)
    forward (inl more) =
        let small : k % numag ≡ k = mod-eq_of_lt {n = k} {m = numag} (omega arith) in
        rw (lt-ltb (k + numag) iags more) (inr (omega arith, more, listed-place table l numag (k % numag) (k + numag) (add-mod_right k numag), λ j from to. unlisted-place table l numag (k % numag) j (λ e. between j from to (e ∙ small) (cases_lt j numag))))
      where
        between : (j : ℕ) → k + 1 ≤ j → j < k + numag → j % numag ≡ k → (j < numag) ⊎ (numag ≤ j) → ⊥
        between j from to e (inl low) = omega (arith, e, mod-eq_of_lt {n = j} {m = numag} low)
        between j from to e (inr high) = omega (arith, e, mod-twice j numag groups high (omega arith))
    forward (inr none) = rw (le-ltb (k + numag) iags none) (inl (refl, λ j from to. unlisted-place table l numag (k % numag) j (λ e. behind j from to e (cases_lt k numag) (cases_lt j numag))))
      where
        behind : (j : ℕ) → k + 1 ≤ j → j < iags → j % numag ≡ k % numag → (k < numag) ⊎ (numag ≤ k) → (j < numag) ⊎ (numag ≤ j) → ⊥
        behind j from to e (inl a) (inl b) = omega (arith, e, mod-eq_of_lt {n = k} {m = numag} a, mod-eq_of_lt {n = j} {m = numag} b)
        behind j from to e (inl a) (inr b) = omega (arith, e, mod-eq_of_lt {n = k} {m = numag} a, mod-twice j numag groups b (omega arith))
        behind j from to e (inr a) (inl b) = omega (arith, a, b, from)
        behind j from to e (inr a) (inr b) = omega (arith, e, mod-twice k numag groups a (omega arith), mod-twice j numag groups b (omega arith))

    back : (k < numag) ⊎ (numag ≤ k) → IsPrevious (in_place_list (place_of (extent_of table l)) numag (k % numag)) k (if nat_le numag k then k - numag else end_of_list)
    back (inl low) = rw (lt-leb numag k low) (inl (refl, λ j to. unlisted-place table l numag (k % numag) j (λ e. omega (arith, e, mod-eq_of_lt {n = k} {m = numag} low, mod-eq_of_lt {n = j} {m = numag} (omega arith)))))
    back (inr high) =
        let here : k % numag ≡ k - numag = mod-twice k numag groups high (omega arith) in
        rw (le-leb numag k high) (inr (omega arith, listed-place table l numag (k % numag) (k - numag) (mod-eq_of_lt {n = k - numag} {m = numag} (omega arith) ∙ sym here), λ j from to. unlisted-place table l numag (k % numag) j (λ e. between j from to (e ∙ here) (cases_lt j numag))))
      where
        between : (j : ℕ) → k - numag < j → j < k → j % numag ≡ k - numag → (j < numag) ⊎ (numag ≤ j) → ⊥
        between j from to e (inl low) = omega (arith, e, mod-eq_of_lt {n = j} {m = numag} low)
        between j from to e (inr above) = omega (arith, e, mod-twice j numag groups above (omega arith))

-- ---- pages

pub some-iags : (pages : ℕ) (table : Table) (l : Layout) → IsLayout pages l → (0 < iags_of table l) × (iags_of table l ≤ 2 * l.groups)
some-iags pages Aggregate l b = (omega arith, omega (arith, b.some_groups))
some-iags pages Fileset l b = (omega (arith, b.iags, b.some_dmaps), b.two_each)

pub extents-first : (run : Pxd) (e : ℕ) → get_or (run ∷ replicate {A = Pxd} 127 no_run) e no_run ≡ place_of run e
extents-first run e = extent-in run 127 e

pub extents-later : (run : Pxd) (n e : ℕ) → 0 < n → get_or (replicate {A = Pxd} 128 no_run) e no_run ≡ place_of run n
extents-later run n e h = no-extent 128 e ∙ sym (rw (ne_eqb n 0 (λ f. omega (arith, f))) refl)

pub links-in : (table : Table) (l : Layout) (k : ℕ) (links : Links) → k < iags_of table l → AreLinks (in_use table) (place_of (extent_of table l)) (iags_of table l) l.groups k links → AreLinks (is_used (inodes_in table l)) (extent_at (inodes_in table l)) (iags_of table l) l.groups k links
links-in table l k links within are =
    let g = k % l.groups in
    let m = inodes_in table l in
    let place = place_of (extent_of table l) in
    record {
      inodes = neighbors-carried (in_inode_list (in_use table) place l.groups g) (in_inode_list (is_used m) (extent_at m) l.groups g) (iags_of table l) k links.inofreefwd links.inofreeback within (inodes-listed (iags_of table l) l.groups g (in_use table) (is_used m) place (extent_at m) (same-in table l)) are.inodes;
      places = neighbors-carried (in_place_list place l.groups g) (in_place_list (extent_at m) l.groups g) (iags_of table l) k links.extfreefwd links.extfreeback within (places-listed (iags_of table l) l.groups g (in_use table) (is_used m) place (extent_at m) (same-in table l)) are.places;
    }

pub iag-made : (table : Table) (l : Layout) (k start : ℕ) (set : List ℕ) (extents : List Pxd) (links : Links) (page : List ℕ) → k < iags_of table l → start ≡ k % l.groups * l.agsize
    → ((i : ℕ) → i < 4096 → is_taken set i ≡ in_use table (4096 * k + i)) → ((e : ℕ) → e < 128 → get_or extents e no_run ≡ place_of (extent_of table l) (128 * k + e))
    → AreLinks (in_use table) (place_of (extent_of table l)) (iags_of table l) l.groups k links
    → IsIagPage (is_taken set) (λ e. get_or extents e no_run) k start links page → IsPageOfIag (inodes_in table l) k page
iag-made table l k start set extents links page within is bits runs are made =
    let m = inodes_in table l in
    let same : AreSame 1 (is_taken set) (λ i. is_used m (4096 * k + i)) (λ e. get_or extents e no_run) (λ e. extent_at m (128 * k + e)) = record {
      inodes = λ i h. bits i (omega arith) ∙ (same-in table l).inodes (4096 * k + i) (omega arith);
      extents = λ e h. runs e (omega arith) ∙ (same-in table l).extents (128 * k + e) (omega arith);
    } in
    (links, links-in table l k links within are, rw is at (iag-carried (is_taken set) (λ i. is_used m (4096 * k + i)) (λ e. get_or extents e no_run) (λ e. extent_at m (128 * k + e)) k start links page same made))

pub group-scaled : (b : Bool) → (if b then 32 else 0) ≡ 32 * (if b then 1 else 0)
group-scaled true = refl
group-scaled false = refl

-- 32 inodes less those in use
fileset-free : count_below 32 (λ i. not (in_use Fileset i)) ≡ 28
unfolding count_below
fileset-free = refl

pub free-inodes : (pages : ℕ) (l : Layout) → IsLayout pages l → count_below (4096 * l.iags) (is_free (inodes_in Fileset l)) ≡ 28
free-inodes pages l b =
    let m = inodes_in Fileset l in
    let place = place_of (extent_of Fileset l) in
    count_below-same (4096 * l.iags) (is_free m) (is_free_inode (in_use Fileset) place) (λ i h. sym (inode-same l.iags (in_use Fileset) (is_used m) place (extent_at m) (same-in Fileset l) i h))
    ∙ count-free Fileset l (4096 * l.iags) (omega (arith, (some-iags pages Fileset l b).0)) ∙ fileset-free
