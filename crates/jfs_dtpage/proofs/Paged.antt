-- The two edits of a page, from what each of their steps leaves.
use Rattle.std.proofs.Common.{◌≡◌, ◌≤◌, ◌<◌, ◌+◌, ◌-◌, ◌*◌, ℕ, suc, List, ◌++◌, length, get_or, sym, ap, ◌∙◌, subst, length-append, arith}
use Rattle.std.specs.List.{insert, remove}
use Rattle.jfs_bits.specs.Field.{field_of}
use Rattle.jfs_dtpage.specs.declared.head.DtForm.{DtForm}
use Rattle.jfs_dtpage.specs.declared.head.DtForm.TheVariants.{Root, Full}
use Rattle.jfs_dtpage.specs.Form.{bytes_of, count_of, free_of, first_free, is_leaf, table_at, most_of, more_slots, KeepsHead}
use Rattle.jfs_dtpage.specs.Slots.{follow, behind, slots_at, times, AreWithin, Kept}
use Rattle.jfs_dtpage.specs.Order.{GoesAt}
use Rattle.jfs_dtpage.specs.Page.{length_of, chain_of, Entry, name_in, table_of, names_of, taken_of, free_chain, usable, TableFits, IsDtPage}
use Rattle.jfs_dtpage.specs.Given.{is_named}
use Rattle.jfs_dtpage.proofs.Lists.{times-append, all_from}
use Rattle.jfs_dtpage.proofs.Chains.{follow_split, length-follow}
use Rattle.jfs_dtpage.proofs.Pages.{usable_within, table_length, chain_usable}
use Rattle.jfs_dtpage.proofs.Counted.{usable_one, usable_fit, length_chains}
use Rattle.jfs_dtpage.proofs.Changes.{edits, table_left, keeps_head, head_by_slots, same_fits}
use Rattle.jfs_dtpage.proofs.Putting.{PutsEntry, need_of}
use Rattle.jfs_dtpage.proofs.Released.{Releases}
use Rattle.jfs_dtpage.proofs.Joined.{Joins, joins, Leaves, leaves}

-- ---- room

pub both_fit : (form : DtForm) (old : List ℕ) → IsDtPage form old → count_of old + free_of old ≤ most_of form
both_fit form old page =
    let a = usable_fit form old (taken_of form old ++ free_chain old) page.1.0.table (λ k. let o = page.1.1.1.0.once k in let b = times-append k (taken_of form old) (free_chain old) in omega (arith, o, b)) in
    let b = length-append (taken_of form old) (free_chain old) in
    let c = length_chains (is_leaf old) old (table_of form old) in
    let d = length-follow old (first_free old) (free_of old) in
    omega (arith, a, b, c, d, table_length form old)

pub table_room : (form : DtForm) (bytes : List ℕ) (n : ℕ) → TableFits form bytes → n ≤ most_of form → table_at form bytes + n ≤ bytes_of form
table_room Root bytes n fits most = omega (arith, most)
table_room Full bytes n fits most = let high = fits.2 in omega (arith, most, high)

-- the first slots of the free chain
pub front_free : (form : DtForm) (old : List ℕ) (slot n : ℕ) → IsDtPage form old → slot ≡ first_free old → n ≤ free_of old → (k : ℕ) → times k (follow old slot n) ≤ usable form old k
front_free form old slot n page first h k =
    let parts = ap (λ (s : ℕ). follow old s (free_of old)) (sym first) ∙ follow_split old slot n (free_of old - n) (free_of old) (omega (arith, h)) in
    let a = page.1.1.1.0.once k in
    let b = ap (times k) parts ∙ times-append k (follow old slot n) (follow old (behind old slot n) (free_of old - n)) in
    omega (arith, a, b)

pub usable_once : (form : DtForm) (old : List ℕ) (xs : List ℕ) → ((k : ℕ) → times k xs ≤ usable form old k) → (k : ℕ) → times k xs ≤ 1
usable_once form old xs h k = let a = h k in let b = usable_one form old k in omega (arith, a, b)

pub usable_all : (form : DtForm) (old : List ℕ) (xs : List ℕ) → length old ≡ bytes_of form → ((k : ℕ) → times k xs ≤ usable form old k) → AreWithin old xs
usable_all form old xs size h = all_from (λ slot. 32 * slot + 32 ≤ length old) xs (λ k there. let a = h k in usable_within form old k size (omega (arith, there, a)))

-- ---- an entry put in

pub record Inserts (form : DtForm) (old new : List ℕ) (place : ℕ) (e : Entry) : Type 0 where
  pub joins : Joins form old new place e
  pub head : KeepsHead form old new

pub inserts : (form : DtForm) (old mid tab new : List ℕ) (place slot : ℕ) (e : Entry) (rest at count free : ℕ) → IsDtPage form old → is_leaf old ≡ is_named e → slot ≡ first_free old → count ≡ count_of old → suc (need_of e) ≤ free_of old → PutsEntry old mid slot e rest
    → at ≡ table_at form mid → slots_at tab at (count + 1) ≡ insert (slots_at mid at count) place slot → Kept at (count + 1) mid tab
    → field_of new 17 1 ≡ count + 1 → field_of new 18 1 ≡ free → free + suc (need_of e) ≡ free_of old → field_of new 19 1 ≡ rest → Kept 17 3 tab new → GoesAt (names_of form old) place (name_in e) → Inserts form old new place e
inserts form old mid tab new place slot e rest at count free page kind first n room p t table kt c1 c2 f c3 kc goes =
    let xs = follow old slot (suc (need_of e)) in
    let h = front_free form old slot (suc (need_of e)) page first room in
    let fit = both_fit form old page in
    let most : count + 1 ≤ most_of form = omega (arith, fit, room, n) in
    let kept_tab = subst (λ (p : ℕ). Kept p (count + 1) mid tab) t kt in
    let left = table_left form old mid tab new xs count (count + 1) (count + 1) page.1.0.table (omega (arith, most)) h p.kept kept_tab kc (λ ys. insert ys place slot)
    (subst (λ (p : ℕ). slots_at tab p (count + 1) ≡ insert (slots_at mid p count) place slot) t table) (sym n) c1 in
    let ed = edits form old mid tab new xs (count + 1) page.1.0.table most h p.kept kept_tab kc in
    record {
      joins = joins form old mid new place slot e rest page kind first p ed goes left (omega (arith, c2, f)) c3;
      head = keeps_head form old new ed.head;
    }

-- the table's room, while the entry's slots have been written
pub insert_room : (form : DtForm) (old mid : List ℕ) (slot : ℕ) (e : Entry) (rest at count : ℕ) → IsDtPage form old → slot ≡ first_free old → count ≡ count_of old → suc (need_of e) ≤ free_of old → PutsEntry old mid slot e rest → at ≡ table_at form mid → at + count + 1 ≤ bytes_of form
insert_room form old mid slot e rest at count page first n room p t =
    let h = front_free form old slot (suc (need_of e)) page first room in
    let fit = both_fit form old page in
    let fits = same_fits form old mid (head_by_slots form old mid (follow old slot (suc (need_of e))) h p.kept) page.1.0.table in
    let r = table_room form mid (count + 1) fits (omega (arith, fit, room, n)) in
    omega (arith, r, t)

-- ---- an entry taken out

pub record Removes (form : DtForm) (old new : List ℕ) (place : ℕ) : Type 0 where
  pub leaves : Leaves form old new place
  pub head : KeepsHead form old new

pub removes : (form : DtForm) (old mid tab new : List ℕ) (place slot at count free : ℕ) → IsDtPage form old → place < count_of old → slot ≡ get_or (table_of form old) place 0 → count ≡ count_of old → Releases (is_leaf old) old mid slot (first_free old)
    → at ≡ table_at form mid → slots_at tab at (count - 1) ≡ remove (slots_at mid at count) place → Kept at count mid tab
    → field_of new 17 1 ≡ count - 1 → field_of new 18 1 ≡ free → free ≡ free_of old + suc (more_slots (is_leaf old) (length_of (is_leaf old) old slot)) → field_of new 19 1 ≡ slot → Kept 17 3 tab new → Removes form old new place
removes form old mid tab new place slot at count free page within is n r t table kt c1 c2 f c3 kc =
    let xs = chain_of (is_leaf old) old slot in
    let h : (k : ℕ) → times k xs ≤ usable form old k = λ k. subst (λ (s : ℕ). times k (chain_of (is_leaf old) old s) ≤ usable form old k) (sym is) (chain_usable form old place page.1.1.0 within k) in
    let fit = both_fit form old page in
    let most : count ≤ most_of form = omega (arith, fit, n) in
    let kept_tab = subst (λ (p : ℕ). Kept p count mid tab) t kt in
    let left = table_left form old mid tab new xs count (count - 1) count page.1.0.table most h r.kept kept_tab kc (λ ys. remove ys place)
    (subst (λ (p : ℕ). slots_at tab p (count - 1) ≡ remove (slots_at mid p count) place) t table) (sym n) c1 in
    let ed = edits form old mid tab new xs count page.1.0.table most h r.kept kept_tab kc in
    record {
      leaves = leaves form old mid new place slot page within is r ed left (c2 ∙ f) c3;
      head = keeps_head form old new ed.head;
    }

pub remove_room : (form : DtForm) (old mid : List ℕ) (place slot at count : ℕ) → IsDtPage form old → place < count_of old → slot ≡ get_or (table_of form old) place 0 → count ≡ count_of old → Releases (is_leaf old) old mid slot (first_free old) → at ≡ table_at form mid → at + count ≤ bytes_of form
remove_room form old mid place slot at count page within is n r t =
    let h : (k : ℕ) → times k (chain_of (is_leaf old) old slot) ≤ usable form old k = λ k. subst (λ (s : ℕ). times k (chain_of (is_leaf old) old s) ≤ usable form old k) (sym is) (chain_usable form old place page.1.1.0 within k) in
    let fit = both_fit form old page in
    let fits = same_fits form old mid (head_by_slots form old mid (chain_of (is_leaf old) old slot) h r.kept) page.1.0.table in
    let room = table_room form mid count fits (omega (arith, fit, n)) in
    omega (arith, room, t)

pub most_small : (form : DtForm) → most_of form ≤ 123
most_small Root = omega arith
most_small Full = omega arith
