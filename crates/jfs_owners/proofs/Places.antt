-- Inode extents counted one by one.
use Rattle.std.proofs.Common.{◌≡◌, ◌<◌, ◌≤◌, refl, sym, subst, ℕ, ◌+◌, List, [], length, drop, get_or, Option, Some, None}
use Rattle.std.proofs.lemmas.List.{drop_more, drop_all}
use Rattle.jfs_findings.specs.objects.specs.Owners.{extent_has, extents_have, run_has}
use Rattle.jfs_owners.specs.Counts.{OwnerSets, Adds}
use Rattle.jfs_owners.proofs.Counted.{adds_none, adds_next}

pub adds_place : (old new : OwnerSets) (x : Option ℕ) (first addr : ℕ) → x ≡ Some first → addr ≡ first → Adds (run_has (record { len = 4; addr = addr })) old new → Adds (extent_has x) old new
adds_place old new x first addr e f a = rw e (subst (λ (n : ℕ). Adds (run_has (record { len = 4; addr = n })) old new) f a)

pub adds_no_place : (o : OwnerSets) (x : Option ℕ) → x ≡ None → Adds (extent_has x) o o
adds_no_place o x e = rw e (adds_none (λ b. 0) o o refl (λ b. refl))

-- one more, and those behind it
pub one_more : (es : List (Option ℕ)) (i : ℕ) (x : Option ℕ) (o p q : OwnerSets) → i < length es → Adds (extent_has (get_or es i x)) o p → Adds (extents_have (drop (i + 1) es)) p q → Adds (extents_have (drop i es)) o q
one_more es i x o p q l a b =
    subst (λ (xs : List (Option ℕ)). Adds (extents_have xs) o q) (sym (drop_more es i x l)) (adds_next (extent_has (get_or es i x)) (extents_have (drop (i + 1) es)) o p q a b)

-- none is left
pub none_left : (es : List (Option ℕ)) (i : ℕ) (o : OwnerSets) → length es ≤ i → Adds (extents_have (drop i es)) o o
none_left es i o l = subst (λ (xs : List (Option ℕ)). Adds (extents_have xs) o o) (sym (drop_all i es l)) (adds_none (extents_have []) o o refl (λ b. refl))
