-- An extent that goes between its neighbours shares no block of the file with any of a leaf's extents.
use Rattle.std.proofs.Common.{◌≡◌, ◌≤◌, ◌<◌, ◌⊎◌, inl, inr, refl, subst, true, ℕ, zero, suc, ◌+◌, List, arith}
use Rattle.std.proofs.lemmas.Bool.{le-leb, cases_lt}
use Rattle.jfs_bits.specs.declared.extent.Xad.{Xad}
use Rattle.jfs_tree.specs.Walk.{Node, Leaf, Inner, Broken}
use Rattle.jfs_tree.specs.Edit.{IsApart}
use Rattle.jfs_tree.specs.Apart.{ApartAt}
use Rattle.jfs_xtpage.specs.declared.head.XtForm.{XtForm}
use Rattle.jfs_xtpage.specs.Page.{entries_of, entries_from, entry_of, count_of, end_of, rises_from, IsRising}
use Rattle.jfs_xtpage.proofs.Rising.{later}
use Rattle.jfs_xtree.specs.Node.{xt_scale, xt_node, IsPlace, GoesBetween}
use Rattle.jfs_xtree.proofs.Found.{ended}
use Rattle.jfs_xtree.proofs.Reading.{is_rising, leaf_is}

apart_from : (bytes : List ℕ) (p n : ℕ) (x : Xad) → ((j : ℕ) → p ≤ j → j < p + n → (end_of (entry_of bytes j) ≤ x.offset) ⊎ (end_of x ≤ (entry_of bytes j).offset)) → IsApart xt_scale x (entries_from bytes p n)
apart_from bytes p zero x h = tt
apart_from bytes p (suc n) x h = (
  elim (h p (omega arith) (omega arith)) [ inl a ↦ inl (le-leb (end_of (entry_of bytes p)) x.offset a) | inr b ↦ inr (le-leb (end_of x) (entry_of bytes p).offset b) ],
  apart_from bytes (suc p) n x (λ j a b. h j (omega (arith, a)) (omega (arith, b))),
)

goes_apart : (bytes : List ℕ) (place : ℕ) (x : Xad) → rises_from 0 (entries_of bytes) ≡ true → IsPlace bytes x.offset place → GoesBetween bytes place x → IsApart xt_scale x (entries_of bytes)
goes_apart bytes place x rises at goes = apart_from bytes 0 (count_of bytes) x (λ j a b.
    elim (cases_lt j place) [
      | inl l ↦ inl (ended bytes place x rises at (λ i e. goes.before i (omega (arith, e))) j l)
      | inr o ↦ inr (let first = goes.behind (omega (arith, o, b)) in let rest = later bytes (count_of bytes) place j (is_rising bytes rises) (omega (arith, o)) (omega (arith, b)) in omega (arith, first, rest))
    ])

pub put_apart : (form : XtForm) (blocks : ℕ) (bytes : List ℕ) (place : ℕ) (x : Xad) → GoesBetween bytes place x → (IsRising bytes (count_of bytes) → IsPlace bytes x.offset place) → ApartAt xt_scale x (xt_node form blocks bytes)
put_apart form blocks bytes place x goes at = by (xt_node form blocks bytes) refl
  where
    by : (m : Node ℕ Xad) → xt_node form blocks bytes ≡ m → ApartAt xt_scale x m
    by (Leaf es) e = let t = leaf_is form blocks bytes es e in subst (IsApart xt_scale x) t.2 (goes_apart bytes place x t.0.order (at (is_rising bytes t.0.order)) goes)
    by (Inner cs) e = tt
    by (Broken rule) e = tt
