-- The fixed parts and the objects in rising number, joined to the owners of all blocks.
use Rattle.std.proofs.Common.{◌≡◌, ap, subst, refl, ℕ, ◌+◌, add-one, List, Option, None, arith}
use Rattle.jfs_bits.specs.declared.descriptor.Pxd.{Pxd}
use Rattle.jfs_findings.specs.objects.specs.Readers.{Readers}
use Rattle.jfs_findings.specs.objects.specs.Volume.{Volume, room}
use Rattle.jfs_findings.specs.objects.specs.Objects.{Object, objects}
use Rattle.jfs_findings.specs.objects.specs.Owners.{holds, owners, extents_have, sum_below}
use Rattle.jfs_findings.specs.objects.specs.Image.{area_on, extents_on, volume_on}
use Rattle.jfs_findings.specs.objects.proofs.Owned.{holds_none}
use Rattle.jfs_owners.specs.Counts.{OwnerSets, Counts, Adds}
use Rattle.jfs_owners.specs.Held.{owned_below}
use Rattle.jfs_owners.proofs.Counted.{counts_same}

sum_none : (f : ℕ → ℕ) → sum_below 0 f ≡ 0
unfolding sum_below
sum_none f = refl

sum_next : (n : ℕ) (f : ℕ → ℕ) → sum_below (n + 1) f ≡ sum_below n f + f n
unfolding sum_below
sum_next n f = rw add-one refl

-- the fixed parts are counted, and no object yet
pub counts_fixed : (r : Readers) (blocks : ℕ) (table map : Pxd) (page : ℕ → List ℕ) (o p q : OwnerSets) → Counts o (λ b. 0) → Adds (area_on r table map page) o p → Adds (extents_have (extents_on r page)) p q
    → Counts q (owned_below r (volume_on r blocks table map page) 0)
counts_fixed r blocks table map page o p q none a e =
    let v = volume_on r blocks table map page in
    counts_same q (λ b. extents_have (extents_on r page) b + (area_on r table map page b + 0)) (owned_below r v 0)
    (λ b. (let z = sum_none (λ k. holds r (objects r v k) b) in omega (arith, z)))
    (e.counts (λ b. area_on r table map page b + 0) (a.counts (λ b. 0) none))

module _ (r : Readers) (v : Volume) where
  -- one object more
  pub counts_next : (n : ℕ) (x : Option Object) (old new : OwnerSets) → objects r v n ≡ x → Adds (holds r x) old new → Counts old (owned_below r v n) → Counts new (owned_below r v (n + 1))
  counts_next n x old new is a c =
      counts_same new (λ b. holds r x b + owned_below r v n b) (owned_below r v (n + 1))
      (λ b. (let s = sum_next n (λ k. holds r (objects r v k) b) in let t = ap (λ o. holds r o b) is in omega (arith, s, t)))
      (a.counts (owned_below r v n) c)

  -- an inode that isn't in use
  pub counts_skip : (n : ℕ) (o : OwnerSets) → objects r v n ≡ None → Counts o (owned_below r v n) → Counts o (owned_below r v (n + 1))
  counts_skip n o is c =
      counts_same o (owned_below r v n) (owned_below r v (n + 1))
      (λ b. (let s = sum_next n (λ k. holds r (objects r v k) b) in let t = ap (λ o. holds r o b) is in let z = holds_none r b in omega (arith, s, t, z))) c

  -- behind the last one
  pub counts_all : (n : ℕ) (o : OwnerSets) → n ≡ room v → Counts o (owned_below r v n) → Counts o (owners r v)
  counts_all n o e c = subst (λ k. Counts o (owned_below r v k)) e c
