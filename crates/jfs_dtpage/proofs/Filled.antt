-- The slots of a page are those of its entries, and the free ones.
use Rattle.std.proofs.Common.{◌≡◌, ◌≤◌, ◌+◌, ◌-◌, ◌*◌, ℕ, zero, suc, Bool, true, false, List, [], ◌∷◌, ◌++◌, length, map, refl, ap, ◌∙◌, length-append, arith}
use Rattle.std.specs.Prelude.{min}
use Rattle.std.specs.List.{flat_map}
use Rattle.std.proofs.lemmas.List.Sums.{sum_by-cons}
use Rattle.jfs_dtpage.specs.declared.head.DtForm.{DtForm}
use Rattle.jfs_dtpage.specs.Form.{link_at, first_units, more_slots, free_of, first_free, most_of, is_leaf}
use Rattle.jfs_dtpage.specs.Slots.{next_of, units_at, gather}
use Rattle.jfs_dtpage.specs.Page.{link_of, length_of, chain_of, name_of, entry_of, entries_of, table_of, taken_of, free_chain, IsDtPage}
use Rattle.jfs_dtpage.specs.Fill.{slots_of_entry, slots_in}
use Rattle.jfs_dtpage.proofs.Lists.{times-append, length-units_at}
use Rattle.jfs_dtpage.proofs.Chains.{length-follow}
use Rattle.jfs_dtpage.proofs.Counted.{usable_whole}
use Rattle.jfs_dtpage.proofs.Joined.{length_chain}

-- ---- one entry

length_gather : (bytes : List ℕ) (slot n units : ℕ) → units ≤ 15 * n → length (gather bytes slot n units) ≡ units
unfolding gather
length_gather bytes slot zero units h = omega (arith, h)
length_gather bytes slot (suc n) units h =
    let a = length-append (units_at bytes (32 * slot + 2) (min units 15)) (gather bytes (next_of bytes slot) n (units - 15)) in
    let b = length-units_at bytes (32 * slot + 2) (min units 15) in
    let c = length_gather bytes (next_of bytes slot) n (units - 15) (omega (arith, h)) in
    omega (arith, a, b, c)

pub length_name : (leaf : Bool) (bytes : List ℕ) (slot : ℕ) → length (name_of leaf bytes slot) ≡ length_of leaf bytes slot
unfolding name_of
length_name leaf bytes slot =
    let units = length_of leaf bytes slot in
    let first = first_units leaf in
    let a = length-append (units_at bytes (32 * slot + link_at leaf + 2) (min units first)) (gather bytes (link_of leaf bytes slot) (more_slots leaf units) (units - first)) in
    let b = length-units_at bytes (32 * slot + link_at leaf + 2) (min units first) in
    let c = length_gather bytes (link_of leaf bytes slot) (more_slots leaf units) (units - first) (omega arith) in
    omega (arith, a, b, c)

entry_slots : (leaf : Bool) (bytes : List ℕ) (slot : ℕ) → slots_of_entry (entry_of leaf bytes slot) ≡ suc (more_slots leaf (length_of leaf bytes slot))
unfolding entry_of
entry_slots true bytes slot = ap (λ (n : ℕ). suc (more_slots true n)) (length_name true bytes slot)
entry_slots false bytes slot = ap (λ (n : ℕ). suc (more_slots false n)) (length_name false bytes slot)

-- ---- all entries

taken_slots : (leaf : Bool) (bytes : List ℕ) (xs : List ℕ) → length (flat_map (chain_of leaf bytes) xs) ≡ slots_in (map (entry_of leaf bytes) xs)
taken_slots leaf bytes [] = refl
taken_slots leaf bytes (x ∷ xs) =
    let a = length-append (chain_of leaf bytes x) (flat_map (chain_of leaf bytes) xs) in
    let b = length_chain leaf bytes x in
    let c = taken_slots leaf bytes xs in
    let d = sum_by-cons slots_of_entry (entry_of leaf bytes x) (map (entry_of leaf bytes) xs) in
    let e = entry_slots leaf bytes x in
    omega (arith, a, b, c, d, e)

pub filled : (form : DtForm) (bytes : List ℕ) → IsDtPage form bytes → free_of bytes + slots_in (entries_of form bytes) ≡ most_of form
filled form bytes page =
    let all = usable_whole form bytes (taken_of form bytes ++ free_chain bytes) page.1.0.table (λ k. times-append k (taken_of form bytes) (free_chain bytes) ∙ page.1.1.1.0.once k) in
    let a = length-append (taken_of form bytes) (free_chain bytes) in
    let b = taken_slots (is_leaf bytes) bytes (table_of form bytes) in
    let c = length-follow bytes (first_free bytes) (free_of bytes) in
    omega (arith, all, a, b, c)
