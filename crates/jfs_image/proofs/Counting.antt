-- Blocks counted part by part.
use Rattle.std.proofs.Common.{◌≡◌, refl, sym, ap, ◌∙◌, subst, ℕ, ◌+◌, ◌*◌, List, [], ◌∷◌, ◌++◌, map, Option, Some, None, nat_lt, arith}
use Rattle.std.specs.List.{range_with_len}
use Rattle.std.proofs.lemmas.List.FromFn.{map-range_with_len_more}
use Rattle.jfs_reader.specs.objects.specs.Readers.{Readers}
use Rattle.jfs_reader.specs.objects.specs.Owners.{run_has, extent_has, extents_have}
use Rattle.jfs_reader.specs.objects.specs.Image.{extent_on, extents_on, iags_on}
use Rattle.jfs_owners.specs.Counts.{OwnerSets, Counts, Adds}

pub counts_as : (o : OwnerSets) (f g : ℕ → ℕ) → Counts o f → ((b : ℕ) → f b ≡ g b) → Counts o g
counts_as o f g is same = record {
  owned = λ b l. is.owned b l ∙ ap (λ (n : ℕ). nat_lt 0 n) (same b);
  shared = λ b l. is.shared b l ∙ ap (λ (n : ℕ). nat_lt 1 n) (same b);
}

adds_then : (f g h : ℕ → ℕ) (o p q : OwnerSets) → Adds f o p → Adds g p q → ((b : ℕ) → h b ≡ g b + f b) → Adds h o q
adds_then f g h o p q first second same = record {
  blocks = second.blocks ∙ first.blocks;
  counts = λ count is. counts_as q (λ b. g b + (f b + count b)) (λ b. h b + count b) (second.counts (λ b. f b + count b) (first.counts count is)) (λ b. (let e = same b in omega (arith, e)));
}

adds_none : (f : ℕ → ℕ) (o : OwnerSets) → ((b : ℕ) → f b ≡ 0) → Adds f o o
adds_none f o none = record {
  blocks = refl;
  counts = λ count is. counts_as o count (λ b. f b + count b) is (λ b. (let e = none b in omega (arith, e)));
}

-- ---- inode extents

pub extent_counted : (x : Option ℕ) (first : ℕ) (o q : OwnerSets) → Some first ≡ x → Adds (run_has (record { len = 4; addr = first })) o q → Adds (extent_has x) o q
extent_counted x first o q e adds = subst (λ (y : Option ℕ). Adds (extent_has y) o q) e adds

pub none_counted : (x : Option ℕ) (o : OwnerSets) → (let none : Option ℕ = None in none ≡ x) → Adds (extent_has x) o o
none_counted x o e = subst (λ (y : Option ℕ). Adds (extent_has y) o o) e (adds_none (extent_has None) o (λ b. refl))

extents_append : (es : List (Option ℕ)) (x : Option ℕ) (b : ℕ) → extents_have (es ++ x ∷ []) b ≡ extents_have es b + extent_has x b
extents_append [] x b = omega arith
extents_append (e ∷ es) x b = let h = extents_append es x b in omega (arith, h)

-- the extents of the first places
abbrev pub have_first : Readers → (ℕ → List ℕ) → ℕ → ℕ → ℕ
have_first r page n b = extents_have (map (extent_on r page) (range_with_len 0 n)) b

pub extents_start : (r : Readers) (page : ℕ → List ℕ) (o : OwnerSets) → Adds (have_first r page 0) o o
extents_start r page o = adds_none (have_first r page 0) o (λ b. refl)

pub extents_next : (r : Readers) (page : ℕ → List ℕ) (n m : ℕ) (o p q : OwnerSets) → m ≡ n + 1 → Adds (have_first r page n) o p → Adds (extent_has (extent_on r page n)) p q → Adds (have_first r page m) o q
extents_next r page n m o p q e first second = subst (λ (k : ℕ). Adds (have_first r page k) o q) (sym e)
    (adds_then (have_first r page n) (extent_has (extent_on r page n)) (have_first r page (n + 1)) o p q first second (λ b. (
    let more = ap (λ (es : List (Option ℕ)). extents_have es b) (map-range_with_len_more (extent_on r page) 0 n n (omega arith)) in
    let last = extents_append (map (extent_on r page) (range_with_len 0 n)) (extent_on r page n) b in
    omega (arith, more, last))))

pub extents_all : (r : Readers) (page : ℕ → List ℕ) (n : ℕ) (o q : OwnerSets) → n ≡ 128 * iags_on r page → Adds (have_first r page n) o q → Adds (extents_have (extents_on r page)) o q
unfolding extents_on
extents_all r page n o q e adds = subst (λ (k : ℕ). Adds (have_first r page k) o q) e adds
