-- The owners of the blocks that an object's bytes and attributes stand in.
use Rattle.std.proofs.Common.{◌≡◌, ◌≤◌, ◌<◌, ap, ℕ, true, false, Option, Some, arith}
use Rattle.std.proofs.lemmas.Bool.{cond-true, cond-false}
use Rattle.jfs_objects.specs.Readers.{Readers}
use Rattle.jfs_objects.specs.Objects.{Object, listed}
use Rattle.jfs_objects.specs.Owners.{entries, data_held, attributes_held}
use Rattle.jfs_objects.proofs.Blocks.{covered}
use Rattle.jfs_kinds.specs.Owner.{Owner, is_regular_file, has_data, has_still, has, owner_of}
use Rattle.jfs_kinds.specs.Owner.Owner.{Data, Still}
use Rattle.jfs_kinds.specs.Laws.{ContentsLaw, block_at}
use Rattle.jfs_kinds.proofs.Single.{has_owners}

has_bytes : (r : Readers) (o : Object) (k b : ℕ) → block_at r o k ≡ Some b → 0 < data_held r o b
has_bytes r o k b h = covered (entries (listed r.extents_order o.extents)) k b h

file_has : (r : Readers) (o : Object) (b : ℕ) → is_regular_file o ≡ true → has_data r (Some o) b ≡ data_held r o b
unfolding has_data
file_has r o b e = cond-true (is_regular_file o) (data_held r o b) 0 e

other_has : (r : Readers) (o : Object) (b : ℕ) → is_regular_file o ≡ false → data_held r o b ≤ has_still r (Some o) b
unfolding has_still
other_has r o b e = let d = cond-false (is_regular_file o) 0 (data_held r o b) e in omega (arith, d)

attributes_are : (r : Readers) (o : Object) (b : ℕ) → attributes_held o b ≤ has_still r (Some o) b
unfolding has_still
attributes_are r o b = omega arith

pub contents_law : ContentsLaw
contents_law r v a n o is = record {
  file = λ e k b h. alone b (Data n) (let p = has_bytes r o k b h in let q = file_has r o b e in let s = ap (λ (o : Option Object). has_data r o b) is in omega (arith, p, q, s));
  target = λ e k b h. alone b (Still n) (let p = has_bytes r o k b h in let q = other_has r o b e in let s = ap (λ (o : Option Object). has_still r o b) is in omega (arith, p, q, s));
  attributes = λ b h. alone b (Still n) (let q = attributes_are r o b in let s = ap (λ (o : Option Object). has_still r o b) is in omega (arith, h, q, s));
}
  where
    alone : (b : ℕ) (x : Owner) → 0 < has r v x b → owner_of r v b ≡ Some x
    alone = (has_owners r v a).alone
