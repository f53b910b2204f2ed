-- The laws of offsets and extents, for the prover alone.
use Rattle.std.proofs.Common.{◌≡◌, ◌≤◌, ◌<◌, ◌⊎◌, inl, inr, refl, ℕ, Bool, true, false, ◌||◌, ◌==◌, if◌then◌else◌, arith}
use Rattle.std.specs.Prelude.{nat_le}
use Rattle.std.proofs.lemmas.Bool.{leb-true, le-leb, lt-leb}
use Rattle.std.proofs.lemmas.Bool.Decides.{nat_tests}
use Rattle.jfs_bits.specs.declared.extent.Xad.{Xad}
use Rattle.jfs_tree.specs.Walk.{IsOrder}
use Rattle.jfs_xtpage.specs.Page.{end_of}
use Rattle.jfs_xtree.specs.Node.{xt_scale}

at_least_one : (n : ℕ) → 1 ≤ (if n == 0 then 1 else n)
at_least_one n = grind (arith, nat_tests)

pub ends_after : (x : Xad) → x.offset < end_of x
ends_after x = let h = at_least_one x.at.len in omega (arith, h)

either : (a b : Bool) → (a || b) ≡ true → (a ≡ true) ⊎ (b ≡ true)
either true b e = inl refl
either false true e = inr refl
either false false e = absurd cc

eqb-true : (a b : ℕ) → (a == b) ≡ true → a ≡ b
eqb-true a b e = grind (arith, nat_tests)

clear : (k : ℕ) (x e : Xad) → xt_scale.fits k e ≡ true → (nat_le (end_of e) x.offset ≡ true) ⊎ (nat_le (end_of x) e.offset ≡ true) → (nat_le k x.offset ≡ true) ⊎ (nat_le (end_of x) k ≡ true)
clear k x e f side = elim (either (k == 0) (k == e.offset) f) [
  | inl z ↦ inl (le-leb k x.offset (let h = eqb-true k 0 z in omega (arith, h)))
  | inr is ↦ let h = eqb-true k e.offset is in elim side [
    | inl l ↦ let g = leb-true (end_of e) x.offset l in let w = ends_after e in inl (le-leb k x.offset (omega (arith, h, g, w)))
    | inr l ↦ let g = leb-true (end_of x) e.offset l in inr (le-leb (end_of x) k (omega (arith, h, g)))
  ]
]

or_left : (a b : Bool) → a ≡ true → (a || b) ≡ true
or_left true b e = refl
or_left false b e = absurd cc

before : (k : ℕ) (x e : Xad) → nat_le k x.offset ≡ true → nat_le (end_of x) e.offset ≡ true → xt_scale.fits k e ≡ true → xt_scale.fits k x ≡ true
before k x e a b f = elim (either (k == 0) (k == e.offset) f) [
  | inl z ↦ or_left (k == 0) (k == x.offset) z
  | inr is ↦ absurd (let h = eqb-true k e.offset is in let g = leb-true k x.offset a in let l = leb-true (end_of x) e.offset b in let w = ends_after x in omega (arith, h, g, l, w))
]

pub order : IsOrder xt_scale
order = record {
  refl_le = λ a. le-leb a a (omega arith);
  trans_le = λ a b c p q. (let h = leb-true a b p in let g = leb-true b c q in le-leb a c (omega (arith, h, g)));
  least_le = λ a. le-leb 0 a (omega arith);
  span_le = λ e. (let h = ends_after e in le-leb e.offset (end_of e) (omega (arith, h)));
  takes_place = λ e. lt-leb (end_of e) e.offset (ends_after e);
  fits_least = λ e. refl;
  clear_key = clear;
  fits_before = before;
}
