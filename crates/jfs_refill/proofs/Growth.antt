-- The children of a page one of which may have a page more behind it: what a caller needs of the new list.
use Rattle.std.proofs.Common.{◌≡◌, ◌≤◌, ◌<◌, refl, ℕ, ◌+◌, Bool, true, false, if◌then◌else◌, List, ◌∷◌, ◌++◌, Option, Some, None, IfSome, arith}
use Rattle.std.specs.Prelude.{nat_le}
use Rattle.std.proofs.lemmas.Bool.{le-leb, leb-true}
use Rattle.jfs_bits.specs.declared.extent.Xad.{Xad}
use Rattle.jfs_tree.specs.declared.form.Sibling.{Sibling}
use Rattle.jfs_xtpage.specs.Page.{end_of, rises_from}
use Rattle.jfs_xtree.specs.Node.{is_within, all_within, child_entry, lowered}
use Rattle.jfs_xtree.proofs.Inners.{child_within}
use Rattle.jfs_xtree.proofs.Pages.{rises_more, within_both}
use Rattle.jfs_xtree.proofs.Reading.{and_true}
use Rattle.jfs_refill.specs.Grown.{grown_entries}

lowered_within : (blocks : ℕ) (first : Bool) (key : ℕ) (x : Xad) → is_within blocks x ≡ true → is_within blocks (lowered first key x) ≡ true
lowered_within blocks first key x w = by (nat_le (end_of x) key)
  where
    by : (b : Bool) → is_within blocks (if b then x else record { flag = x.flag; offset = if first then 0 else x.offset; at = record { len = 1; addr = x.at.addr } }) ≡ true
    by true = w
    by false = let t = and_true (nat_le 1 x.at.len) (nat_le (x.at.addr + x.at.len) blocks) w in let a = leb-true 1 x.at.len t.0 in let b = leb-true (x.at.addr + x.at.len) blocks t.1 in rw (le-leb (x.at.addr + 1) blocks (omega (arith, a, b))) refl

-- the entries of the new list lie within the blocks
pub grown_within : (blocks : ℕ) (first : Bool) (x : Xad) (more : Option (Sibling ℕ)) (xs : List Xad) → is_within blocks x ≡ true → IfSome more (λ s. s.page < blocks) → all_within blocks xs ≡ true → all_within blocks (grown_entries first x more ++ xs) ≡ true
grown_within blocks first x None xs a b w = within_both blocks x xs a w
grown_within blocks first x (Some s) xs a b w =
    within_both blocks (lowered first s.key x) (child_entry s.key s.page ∷ xs) (lowered_within blocks first s.key x a) (within_both blocks (child_entry s.key s.page) xs (child_within blocks s.key s.page b) w)

-- ---- offsets that rise

lowered_ends : (first : Bool) (key : ℕ) (x : Xad) → 0 < key → (first ≡ false → x.offset < key) → end_of (lowered first key x) ≤ key
lowered_ends first key x some above = by (nat_le (end_of x) key) first refl above
  where
    by : (b f : Bool) → nat_le (end_of x) key ≡ b → (f ≡ false → x.offset < key) → end_of (if b then x else record { flag = x.flag; offset = if f then 0 else x.offset; at = record { len = 1; addr = x.at.addr } }) ≤ key
    by true f e above = leb-true (end_of x) key e
    by false true e above = omega (arith, some)
    by false false e above = let h = above refl in omega (arith, h)

lowered_begins : (first : Bool) (key low : ℕ) (x : Xad) → low ≤ x.offset → (first ≡ true → low ≡ 0) → low ≤ (lowered first key x).offset
lowered_begins first key low x l zero = by (nat_le (end_of x) key) first zero
  where
    by : (b f : Bool) → (f ≡ true → low ≡ 0) → low ≤ (if b then x else record { flag = x.flag; offset = if f then 0 else x.offset; at = record { len = 1; addr = x.at.addr } }).offset
    by true f zero = l
    by false true zero = let z = zero refl in omega (arith, z)
    by false false zero = l

-- what stands behind the child and its key
abbrev pub RisesBehind : Bool → Xad → Option (Sibling ℕ) → List Xad → Type 0
RisesBehind first x None xs = rises_from (end_of x) xs ≡ true
RisesBehind first x (Some s) xs = (0 < s.key) × (first ≡ false → x.offset < s.key) × (rises_from (s.key + 1) xs ≡ true)

-- entries rise where the key of the page behind is past the child's own, and before what stands behind; a first child's own key isn't looked at
pub grown_rises : (low : ℕ) (first : Bool) (x : Xad) (more : Option (Sibling ℕ)) (xs : List Xad) → low ≤ x.offset → (first ≡ true → low ≡ 0) → RisesBehind first x more xs → rises_from low (grown_entries first x more ++ xs) ≡ true
grown_rises low first x None xs l zero r = rises_more low x xs l r
grown_rises low first x (Some s) xs l zero r =
    rises_more low (lowered first s.key x) (child_entry s.key s.page ∷ xs) (lowered_begins first s.key low x l zero) (rises_more (end_of (lowered first s.key x)) (child_entry s.key s.page) xs (lowered_ends first s.key x r.0 r.1) r.2)
