-- A page of which no slot, no count and nothing of the table changed.
use Rattle.std.proofs.Common.{◌≡◌, ◌≤◌, ◌+◌, ◌*◌, ◌/◌, ◌%◌, ℕ, Bool, List, map, inl, inr, refl, sym, ap, ◌∙◌, subst, arith}
use Rattle.std.specs.Prelude.{◌==◌, if◌then◌else◌, nat_le, nat_lt, ◌&&◌, ◌||◌}
use Rattle.jfs_bits.specs.Field.{field_of}
use Rattle.jfs_dtpage.specs.declared.head.DtForm.TheVariants.{Full}
use Rattle.std.specs.List.{flat_map, AllByRecursion}
use Rattle.jfs_dtpage.specs.declared.head.DtForm.{DtForm}
use Rattle.jfs_dtpage.specs.Form.{flag_of, count_of, free_of, first_free, is_leaf, head_of, linked}
use Rattle.jfs_dtpage.specs.Slots.{follow, behind, slots_at, times, Kept, SameSlot}
use Rattle.jfs_dtpage.specs.Order.{IsRising}
use Rattle.jfs_dtpage.specs.Page.{chain_of, Ends, name_of, entry_of, table_of, entries_of, names_of, taken_of, free_chain, usable, FlagFits, TableFits, IsDtPage}
use Rattle.jfs_dtpage.proofs.Lists.{all_from, slots_same}
use Rattle.jfs_dtpage.proofs.Pages.{usable_range}
use Rattle.jfs_dtpage.proofs.Chains.{follow_same, behind_same}
use Rattle.jfs_dtpage.proofs.Entries.{SameEntry, chain_same, name_same, entry_same}
use Rattle.jfs_dtpage.proofs.Edited.{all_map, all_flat}
use Rattle.jfs_dtpage.proofs.Joined.{all_same, ends_kept, page_of}

-- what a change of the header's other fields leaves
pub record Alike (form : DtForm) (old new : List ℕ) : Type 0 where
  pub flag : flag_of new ≡ flag_of old
  pub count : count_of new ≡ count_of old
  pub free : free_of new ≡ free_of old
  pub first : first_free new ≡ first_free old
  pub fits : TableFits form new
  pub usable_is : (k : ℕ) → usable form new k ≡ usable form old k
  pub table : table_of form new ≡ table_of form old
  pub slots : (k : ℕ) → 1 ≤ usable form old k → SameSlot old new k

leaf_alike : (form : DtForm) (old new : List ℕ) → Alike form old new → is_leaf new ≡ is_leaf old
leaf_alike form old new a = ap (λ (f : ℕ). f / 2 % 2 == 1) a.flag

pub entries_alike : (form : DtForm) (old new : List ℕ) → IsDtPage form old → Alike form old new → entries_of form new ≡ entries_of form old
entries_alike form old new page a =
    let leaf = is_leaf old in
    let same = all_same leaf old new (table_of form old) (λ k there. a.slots k (let o = page.1.1.0.once k in omega (arith, o, there))) in
    ap (λ (b : Bool). map (entry_of b new) (table_of form new)) (leaf_alike form old new a) ∙ ap (map (entry_of leaf new)) a.table
    ∙ all_map (SameEntry leaf old new) (entry_of leaf new) (entry_of leaf old) (λ x s. entry_same leaf old new x s) (table_of form old) same

pub page_alike : (form : DtForm) (old new : List ℕ) → IsDtPage form old → Alike form old new → IsDtPage form new
page_alike form old new page a =
    let leaf = is_leaf old in
    let chains = page.1.1.0 in
    let frees = page.1.1.1.0 in
    let leaf_new = leaf_alike form old new a in
    let same = all_same leaf old new (table_of form old) (λ k there. a.slots k (let o = chains.once k in omega (arith, o, there))) in
    let names : names_of form new ≡ names_of form old =
    ap (λ (b : Bool). map (name_of b new) (table_of form new)) leaf_new ∙ ap (map (name_of leaf new)) a.table
    ∙ all_map (SameEntry leaf old new) (name_of leaf new) (name_of leaf old) (λ x s. name_same leaf old new x s) (table_of form old) same in
    let taken : taken_of form new ≡ taken_of form old =
    ap (λ (b : Bool). flat_map (chain_of b new) (table_of form new)) leaf_new ∙ ap (flat_map (chain_of leaf new)) a.table
    ∙ all_flat (SameEntry leaf old new) (chain_of leaf new) (chain_of leaf old) (λ x s. chain_same leaf old new x s) (table_of form old) same in
    let kept_free = all_from (SameSlot old new) (free_chain old) (λ k there. a.slots k (let o = frees.once k in omega (arith, o, there))) in
    let free : free_chain new ≡ free_chain old = ap (λ (s : ℕ). follow new s (free_of new)) a.first ∙ ap (λ (n : ℕ). follow new (first_free old) n) a.free ∙ follow_same old new (first_free old) (free_of old) kept_free in
    let once : (k : ℕ) → times k (taken_of form new) + times k (free_chain new) ≡ usable form new k =
    λ k. let o = frees.once k in let t = ap (times k) taken in let f = ap (times k) free in let u = a.usable_is k in omega (arith, o, t, f, u) in
    let ends : AllByRecursion (Ends leaf new) (table_of form new) = subst (AllByRecursion (Ends leaf new)) (sym a.table) (ends_kept leaf old new (table_of form old) same chains.ends) in
    let few = page.1.0.entries in let most = page.1.0.free in
    page_of form new (subst (λ (f : ℕ). FlagFits form (f % 8)) (sym a.flag) page.0)
    (record { table = a.fits; entries = omega (arith, a.count, few); free = omega (arith, a.free, most) })
    (record { ends = subst (λ (b : Bool). AllByRecursion (Ends b new) (table_of form new)) (sym leaf_new) ends; once = λ k. let o = once k in omega (arith, o) })
    (record { ends = ap (λ (s : ℕ). behind new s (free_of new)) a.first ∙ ap (λ (n : ℕ). behind new (first_free old) n) a.free ∙ behind_same old new (first_free old) (free_of old) kept_free ∙ frees.ends; once = once })
    (subst IsRising (sym names) page.1.1.1.1.0)

-- ---- other neighbours

pub linked_alike : (old new : List ℕ) → IsDtPage Full old → Kept 0 16 old new → Alike Full old new
unfolding table_of
linked_alike old new page kept =
    let fits = page.1.0.table in
    let slots = kept 20 1 (inr (omega arith)) in
    let table = kept 21 1 (inr (omega arith)) in
    let count = kept 17 1 (inr (omega arith)) in
    let low = fits.1 in let high = fits.2 in
    record {
      flag = kept 16 1 (inr (omega arith));
      count = count;
      free = kept 18 1 (inr (omega arith));
      first = kept 19 1 (inr (omega arith));
      fits = (slots ∙ fits.0, omega (arith, table, low), omega (arith, table, high));
      usable_is = λ k. ap (λ (t : ℕ). if nat_le 1 k && nat_lt k 128 && (nat_lt k t || nat_le (t + 4) k) then 1 else 0) table;
      table = ap (λ (t : ℕ). slots_at new (32 * t) (count_of new)) table ∙ ap (λ (n : ℕ). slots_at new (32 * field_of old 21 1) n) count
          ∙ slots_same old new (32 * field_of old 21 1) (count_of old) (λ i l. kept (32 * field_of old 21 1 + i) 1 (inr (omega (arith, low))));
      slots = λ k u from width w. let r = (usable_range Full old k u).0 in kept (32 * k + from) width (inr (omega (arith, r)));
    }

pub linked_head : (old mid new : List ℕ) (next prev : ℕ) → field_of mid 0 8 ≡ next → Kept 0 8 old mid → field_of new 8 8 ≡ prev → Kept 8 8 mid new → head_of Full new ≡ record (head_of Full old) { place = linked next prev (head_of Full old).place }
linked_head old mid new next prev n a p b =
    let both : (from width : ℕ) → 16 ≤ from → field_of new from width ≡ field_of old from width = λ from width h. b from width (inr (omega (arith, h))) ∙ a from width (inr (omega (arith, h))) in
    let first : field_of new 0 8 ≡ next = b 0 8 (inl (omega arith)) ∙ n in
    rw (first, p, both 16 1 (omega arith), both 17 1 (omega arith), both 18 1 (omega arith), both 19 1 (omega arith), both 20 1 (omega arith), both 21 1 (omega arith), both 24 4 (omega arith), both 28 4 (omega arith)) refl
