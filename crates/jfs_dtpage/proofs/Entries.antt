-- An entry by its first slot: what it reads as, and where a page keeps it.
use Rattle.std.proofs.Common.{◌≡◌, ◌≤◌, ◌+◌, ◌-◌, ◌*◌, ℕ, Bool, true, false, List, ◌∷◌, ◌++◌, length, take, refl, ap, ◌∙◌, length-append, arith}
use Rattle.std.specs.Prelude.{min}
use Rattle.std.specs.List.{AllByRecursion}
use Rattle.std.proofs.lemmas.List.{take_at}
use Rattle.jfs_bits.specs.Field.{field_of}
use Rattle.jfs_dtpage.specs.Form.{link_at, first_units, more_slots}
use Rattle.jfs_dtpage.specs.Slots.{follow, behind, units_at, gather, slots_for, AreWithin, SameSlot}
use Rattle.jfs_dtpage.specs.Page.{link_of, length_of, chain_of, Ends, name_of, entry_of}
use Rattle.jfs_dtpage.proofs.Kept.{same_field}
use Rattle.jfs_dtpage.proofs.Lists.{units_same}
use Rattle.jfs_dtpage.proofs.Chains.{follow_same, behind_same, gather_same}

-- ---- reading

pub first_within : (leaf : Bool) (bytes : List ℕ) (slot : ℕ) → AreWithin bytes (chain_of leaf bytes slot) → 32 * slot + 32 ≤ length bytes
unfolding chain_of
first_within leaf bytes slot all = all.0

pub further_within : (leaf : Bool) (bytes : List ℕ) (slot : ℕ) → AreWithin bytes (chain_of leaf bytes slot) → AreWithin bytes (follow bytes (link_of leaf bytes slot) (more_slots leaf (length_of leaf bytes slot)))
unfolding chain_of
further_within leaf bytes slot all = all.1

-- an entry's first units end with the slot
first_fits : (leaf : Bool) → link_at leaf + 2 + 2 * first_units leaf ≤ 32
first_fits true = omega arith
first_fits false = omega arith

pub name_fits : (leaf : Bool) (slot start link first units here size : ℕ) → 32 * slot + 32 ≤ size → start ≡ 32 * slot → link ≡ link_at leaf → first ≡ first_units leaf → here ≡ min units first → start + link + 2 + 2 * here ≤ size
name_fits leaf slot start link first units here size w s l f h = let z = first_fits leaf in omega (arith, w, s, l, f, h, z)

-- a name that was copied in two parts
pub name_read : (leaf : Bool) (bytes : List ℕ) (slot units : ℕ) (first further rest : List ℕ) → units ≡ length_of leaf bytes slot → length first ≡ min units (first_units leaf) → length further ≡ units - first_units leaf
    → first ≡ units_at bytes (32 * slot + link_at leaf + 2) (length first) → further ≡ gather bytes (link_of leaf bytes slot) (slots_for (length further)) (length further)
    → take units ((first ++ further) ++ rest) ≡ name_of leaf bytes slot
unfolding name_of
name_read leaf bytes slot units first further rest u a b f g =
    let whole : length (first ++ further) ≡ units = let n = length-append first further in omega (arith, n, a, b) in
    let one : first ≡ units_at bytes (32 * slot + link_at leaf + 2) (min units (first_units leaf)) = f ∙ ap (λ (k : ℕ). units_at bytes (32 * slot + link_at leaf + 2) k) a in
    let two : further ≡ gather bytes (link_of leaf bytes slot) (slots_for (units - first_units leaf)) (units - first_units leaf) = g ∙ ap (λ (k : ℕ). gather bytes (link_of leaf bytes slot) (slots_for k) k) b in
    take_at (first ++ further) rest units whole ∙ ap (λ (z : List ℕ). z ++ further) one ∙ ap (λ (z : List ℕ). units_at bytes (32 * slot + link_at leaf + 2) (min units (first_units leaf)) ++ z) two
    ∙ ap (λ (k : ℕ). units_at bytes (32 * slot + link_at leaf + 2) (min k (first_units leaf)) ++ gather bytes (link_of leaf bytes slot) (slots_for (k - first_units leaf)) (k - first_units leaf)) u

-- ---- a page that keeps an entry's slots keeps the entry

abbrev pub SameEntry : Bool → List ℕ → List ℕ → ℕ → Type 0
SameEntry leaf old new slot = AllByRecursion (SameSlot old new) (chain_of leaf old slot)

same_first : (leaf : Bool) (old new : List ℕ) (slot : ℕ) → SameEntry leaf old new slot → SameSlot old new slot
unfolding chain_of
same_first leaf old new slot s = s.0

same_further : (leaf : Bool) (old new : List ℕ) (slot : ℕ) → SameEntry leaf old new slot → AllByRecursion (SameSlot old new) (follow old (link_of leaf old slot) (more_slots leaf (length_of leaf old slot)))
unfolding chain_of
same_further leaf old new slot s = s.1

link_same : (leaf : Bool) (old new : List ℕ) (slot : ℕ) → SameSlot old new slot → link_of leaf new slot ≡ link_of leaf old slot
link_same leaf old new slot s = let z = first_fits leaf in s (link_at leaf) 1 (omega (arith, z))

length_same : (leaf : Bool) (old new : List ℕ) (slot : ℕ) → SameSlot old new slot → length_of leaf new slot ≡ length_of leaf old slot
length_same leaf old new slot s = let z = first_fits leaf in same_field old new slot (link_at leaf + 1) 1 (32 * slot + link_at leaf + 1) s (omega arith) (omega (arith, z))

pub chain_same : (leaf : Bool) (old new : List ℕ) (slot : ℕ) → SameEntry leaf old new slot → chain_of leaf new slot ≡ chain_of leaf old slot
unfolding chain_of
chain_same leaf old new slot s =
    ap (λ (k : ℕ). slot ∷ follow new (link_of leaf new slot) (more_slots leaf k)) (length_same leaf old new slot (same_first leaf old new slot s))
    ∙ ap (λ (k : ℕ). slot ∷ follow new k (more_slots leaf (length_of leaf old slot))) (link_same leaf old new slot (same_first leaf old new slot s))
    ∙ ap (λ (xs : List ℕ). slot ∷ xs) (follow_same old new (link_of leaf old slot) (more_slots leaf (length_of leaf old slot)) (same_further leaf old new slot s))

pub ends_same : (leaf : Bool) (old new : List ℕ) (slot : ℕ) → SameEntry leaf old new slot → Ends leaf old slot → Ends leaf new slot
unfolding Ends
ends_same leaf old new slot s e =
    ap (λ (k : ℕ). behind new (link_of leaf new slot) (more_slots leaf k)) (length_same leaf old new slot (same_first leaf old new slot s))
    ∙ ap (λ (k : ℕ). behind new k (more_slots leaf (length_of leaf old slot))) (link_same leaf old new slot (same_first leaf old new slot s))
    ∙ behind_same old new (link_of leaf old slot) (more_slots leaf (length_of leaf old slot)) (same_further leaf old new slot s) ∙ e

pub name_same : (leaf : Bool) (old new : List ℕ) (slot : ℕ) → SameEntry leaf old new slot → name_of leaf new slot ≡ name_of leaf old slot
unfolding name_of
name_same leaf old new slot s =
    let z = first_fits leaf in
    let n = length_of leaf old slot in
    let first : units_at new (32 * slot + link_at leaf + 2) (min n (first_units leaf)) ≡ units_at old (32 * slot + link_at leaf + 2) (min n (first_units leaf)) =
    units_same old new (32 * slot + link_at leaf + 2) (min n (first_units leaf)) (λ i h. same_field old new slot (link_at leaf + 2 + 2 * i) 2 (32 * slot + link_at leaf + 2 + 2 * i) (same_first leaf old new slot s) (omega arith) (omega (arith, z, h))) in
    let further = gather_same old new (link_of leaf old slot) (more_slots leaf n) (n - first_units leaf) (same_further leaf old new slot s) in
    rw (length_same leaf old new slot (same_first leaf old new slot s), link_same leaf old new slot (same_first leaf old new slot s), first, further) refl

pub entry_same : (leaf : Bool) (old new : List ℕ) (slot : ℕ) → SameEntry leaf old new slot → entry_of leaf new slot ≡ entry_of leaf old slot
unfolding entry_of
entry_same true old new slot s =
    let inode : field_of new (32 * slot) 4 ≡ field_of old (32 * slot) 4 = same_field old new slot 0 4 (32 * slot) (same_first true old new slot s) (omega arith) (omega arith) in
    rw (inode, name_same true old new slot s) refl
entry_same false old new slot s =
    let one : field_of new (32 * slot) 4 ≡ field_of old (32 * slot) 4 = same_field old new slot 0 4 (32 * slot) (same_first false old new slot s) (omega arith) (omega arith) in
    let two : field_of new (32 * slot + 4) 4 ≡ field_of old (32 * slot + 4) 4 = same_first false old new slot s 4 4 (omega arith) in
    rw (one, two, name_same false old new slot s) refl
