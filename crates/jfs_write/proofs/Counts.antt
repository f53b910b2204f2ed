-- Blocks of lists, counted.
use Rattle.std.proofs.Common.{◌≡◌, ◌<◌, refl, ap, inl, inr, ℕ, ◌+◌, ◌==◌, ◌||◌, Bool, true, false, if◌then◌else◌, List, [], ◌∷◌, ◌++◌, arith, ne_eqb}
use Rattle.jfs_bits.specs.declared.descriptor.Pxd.{Pxd}
use Rattle.jfs_tree.specs.Edit.{count_in}
use Rattle.jfs_tree.specs.Form.{AllBelow}
use Rattle.jfs_tree.specs.Fresh.{blocks_of, run_from}
use Rattle.jfs_tree.specs.Tell.{is_in}
use Rattle.jfs_write_pages.specs.objects.proofs.Sums.{eq_or_not}
use Rattle.jfs_write_pages.specs.loss.proofs.Counts.{count_append}

pub blocks_append : (xs ys : List Pxd) → (b : ℕ) → count_in b (blocks_of (xs ++ ys)) ≡ count_in b (blocks_of xs) + count_in b (blocks_of ys)
blocks_append [] ys b = omega arith
blocks_append (p ∷ ps) ys b = let h = blocks_append ps ys b in let x = count_append b (run_from p.addr p.len) (blocks_of (ps ++ ys)) in let y = count_append b (run_from p.addr p.len) (blocks_of ps) in omega (arith, h, x, y)

pub counted_below : (bound : ℕ) (ns : List ℕ) (b : ℕ) → AllBelow bound ns → 0 < count_in b ns → b < bound
counted_below bound [] b h l = absurd (omega (arith, l))
counted_below bound (n ∷ ns) b h l = elim (eq_or_not n b) [
  | inl e ↦ (let f = h.0 in omega (arith, e, f))
  | inr a ↦ counted_below bound ns b h.1 (let z = ap {B = ℕ} (λ (t : Bool). if t then 1 else 0) (ne_eqb n b a) in omega (arith, l, z))
]

pub not_in : (b : ℕ) (ns : List ℕ) → count_in b ns ≡ 0 → is_in b ns ≡ false
not_in b [] h = refl
not_in b (n ∷ ns) h = by (not_in b ns) (n == b) refl h
  where
    by : (count_in b ns ≡ 0 → is_in b ns ≡ false) → (t : Bool) → (n == b) ≡ t → (if t then 1 else 0) + count_in b ns ≡ 0 → (t || is_in b ns) ≡ false
    by rest true e h = absurd (omega (arith, h))
    by rest false e h = rest (omega (arith, h))
