-- The keys of an inner page rise, also with one more behind the child at a place, where it goes there.
use Rattle.std.proofs.Common.{◌≡◌, ◌<◌, refl, sym, ap, ◌∙◌, subst, ℕ, zero, suc, ◌+◌, ◌-◌, List, [], ◌∷◌, ◌++◌, map, take, drop, true, false, arith}
use Rattle.std.specs.Prelude.{nat_le}
use Rattle.std.proofs.lemmas.Bool.{leb-false, lt-leb}
use Rattle.jfs_bits.specs.declared.extent.Xad.{Xad}
use Rattle.jfs_tree.specs.Walk.{Child}
use Rattle.jfs_tree.specs.Edit.{KeysAbove, KeysRise}
use Rattle.jfs_tree.specs.Form.{GoesBehind, HasRisingKeys}
use Rattle.jfs_tree.specs.Refusal.{begin_of, end_of, IsBetween}
use Rattle.jfs_tree.proofs.Refusing.{rise_with}
use Rattle.jfs_xtpage.specs.declared.head.XtForm.{XtForm}
use Rattle.jfs_xtpage.specs.Page.{entries_of, entries_from, entry_of, count_of, end_of as extent_end, rises_from}
use Rattle.jfs_xtpage.proofs.Entries.{last}
use Rattle.jfs_xtree.specs.Node.{xt_scale, child_of, xt_node, TakesChild}
use Rattle.jfs_xtree.specs.Laws.{order}
use Rattle.jfs_xtree.proofs.Reading.{inner_is}
use Rattle.jfs_xtree.proofs.Pages.{rises_less}
use Rattle.jfs_xtree.proofs.Ways.{cut_at, map_cut}
use Rattle.jfs_xtree.proofs.Inners.{cut_of}

end_past : (x : Xad) → x.offset < extent_end x
end_past x = leb-false (extent_end x) x.offset (order.takes_place x)

keys_above : (k low : ℕ) (xs : List Xad) → k < low → rises_from low xs ≡ true → KeysAbove xt_scale k (map child_of xs)
keys_above k low [] h r = tt
keys_above k low (x ∷ xs) h r =
    let t = rises_less low x xs r in
    (lt-leb x.offset k (let l = t.0 in omega (arith, h, l)), keys_above x.offset (extent_end x) xs (end_past x) t.1)

keys_rise : (xs : List Xad) → rises_from 0 xs ≡ true → KeysRise xt_scale (map child_of xs)
keys_rise [] r = tt
keys_rise (x ∷ xs) r = let t = rises_less 0 x xs r in keys_above 0 (extent_end x) xs (let p = end_past x in omega (arith, p)) t.1

pub rising_keys : (form : XtForm) (blocks : ℕ) (bytes : List ℕ) → HasRisingKeys xt_scale (xt_node form blocks bytes)
rising_keys form blocks bytes cs is = let t = inner_is form blocks bytes cs is in subst (KeysRise xt_scale) t.2 (keys_rise (entries_of bytes) t.0.order)

-- ---- a key behind a child

begins : (front : List (Child ℕ)) (e : Child ℕ) (key : ℕ) → 0 < key → ((front ≡ [] → ⊥) → e.key < key) → nat_le key (begin_of xt_scale front e) ≡ false
begins [] e key some above = lt-leb key 0 some
begins (f ∷ front) e key some above = lt-leb key e.key (above (λ is. cc))

ends : (bytes : List ℕ) (low key p m : ℕ) → nat_le key low ≡ false → (0 < m → key < (entry_of bytes p).offset) → IsBetween xt_scale low (end_of (map child_of (entries_from bytes p m))) key
ends bytes low key p zero above below = above
ends bytes low key p (suc m) above below = (above, lt-leb (entry_of bytes p).offset key (below (omega arith)))

past_front : (bytes : List ℕ) (place key : ℕ) → TakesChild bytes place key → (map child_of (take place (entries_of bytes)) ≡ [] → ⊥) → (entry_of bytes place).offset < key
past_front bytes zero key takes some = absurd (some refl)
past_front bytes (suc p) key takes some = takes.above (omega arith)

pub goes_behind : (form : XtForm) (blocks : ℕ) (bytes : List ℕ) (place : ℕ) (child : Child ℕ) → TakesChild bytes place child.key → GoesBehind xt_scale (xt_node form blocks bytes) place child
goes_behind form blocks bytes place child takes all at =
    let t = inner_is form blocks bytes (at.front ++ at.before ∷ at.back) at.was in
    let cut = cut_of form blocks bytes place child all at in
    let front = map child_of (take place (entries_of bytes)) in
    let e = child_of (entry_of bytes place) in
    let within = takes.within in
    let parts = ap (map child_of) (cut_at bytes place within) ∙ map_cut (take place (entries_of bytes)) (entry_of bytes place) (drop (place + 1) (entries_of bytes)) in
    let low = begins front e child.key takes.some (past_front bytes place child.key takes) in
    let tail = last bytes 0 (place + 1) (count_of bytes) (place + 1) (count_of bytes - (place + 1)) (omega (arith, within)) (omega arith) in
    let between = subst (λ xs. IsBetween xt_scale (begin_of xt_scale front e) (end_of (map child_of xs)) child.key) tail
    (ends bytes (begin_of xt_scale front e) child.key (place + 1) (count_of bytes - (place + 1)) low (λ h. takes.below (omega (arith, h)))) in
    subst (KeysRise xt_scale) (sym cut.all_is)
    (rise_with xt_scale front e child (map child_of (drop (place + 1) (entries_of bytes))) (subst (KeysRise xt_scale) parts (keys_rise (entries_of bytes) t.0.order)) between)
