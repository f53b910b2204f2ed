-- A page's slots: those of its entries are slots that entries may have.
use Rattle.std.proofs.Common.{◌≡◌, ◌≤◌, ◌<◌, ◌+◌, ◌*◌, ℕ, zero, suc, Bool, true, false, List, [], ◌∷◌, length, get_or, Some, refl, sym, ap, ◌∙◌, arith}
use Rattle.std.specs.Prelude.{slice_get, nat_le, nat_lt, ◌&&◌, ◌||◌, if◌then◌else◌}
use Rattle.std.specs.Option.{option_map}
use Rattle.std.specs.List.{flat_map}
use Rattle.std.proofs.lemmas.Bool.{ltb-true, leb-true, and_parts}
use Rattle.std.proofs.lemmas.List.{get_or-map, length-map}
use Rattle.std.proofs.lemmas.Option.{slice_get-map, slice_get-get_or}
use Rattle.jfs_bits.specs.Field.{field_of}
use Rattle.jfs_bits.specs.declared.descriptor.Pxd.{Pxd}
use Rattle.jfs_bits.specs.Descriptor.{pxd_of}
use Rattle.jfs_dtpage.specs.declared.head.DtForm.{DtForm}
use Rattle.jfs_dtpage.specs.declared.head.DtForm.TheVariants.{Root, Full}
use Rattle.jfs_dtpage.specs.Form.{slots_of, bytes_of, count_of, is_leaf, table_at, is_usable}
use Rattle.jfs_dtpage.specs.Slots.{times, AreWithin}
use Rattle.jfs_dtpage.specs.Order.{name_at}
use Rattle.jfs_dtpage.specs.Page.{chain_of, name_of, Named, Below, entry_of, entries_of, names_of, table_of, usable, ChainsFit}
use Rattle.jfs_dtpage.proofs.Lists.{length-slots_at, get_or-slots_at, times-append, all_from}

-- ---- slots that entries may have

pub one_if : (b : Bool) → 1 ≤ (if b then 1 else 0) → b ≡ true
one_if true h = refl
one_if false h = absurd (none h)
  where
    none : 1 ≤ 0 → ⊥
    none h = omega (arith, h)

pub usable_range : (form : DtForm) (bytes : List ℕ) (slot : ℕ) → 1 ≤ usable form bytes slot → (1 ≤ slot) × (slot < slots_of form)
usable_range Root bytes slot h = let p = and_parts (nat_le 1 slot) (nat_lt slot 9) (one_if (is_usable Root bytes slot) h) in (leb-true 1 slot p.0, ltb-true slot 9 p.1)
usable_range Full bytes slot h =
    let p = and_parts (nat_le 1 slot && nat_lt slot 128) (nat_lt slot (field_of bytes 21 1) || nat_le (field_of bytes 21 1 + 4) slot) (one_if (is_usable Full bytes slot) h) in
    let q = and_parts (nat_le 1 slot) (nat_lt slot 128) p.0 in
    (leb-true 1 slot q.0, ltb-true slot 128 q.1)

pub usable_within : (form : DtForm) (bytes : List ℕ) (slot : ℕ) → length bytes ≡ bytes_of form → 1 ≤ usable form bytes slot → 32 * slot + 32 ≤ length bytes
usable_within form bytes slot size h = let r = usable_range form bytes slot h in let low = r.1 in omega (arith, size, low)

-- ---- the sorted table

pub table_length : (form : DtForm) (bytes : List ℕ) → length (table_of form bytes) ≡ count_of bytes
unfolding table_of
table_length form bytes = length-slots_at bytes (table_at form bytes) (count_of bytes)

pub table_slot : (form : DtForm) (bytes : List ℕ) (place : ℕ) → place < count_of bytes → get_or (table_of form bytes) place 0 ≡ field_of bytes (table_at form bytes + place) 1
unfolding table_of
table_slot form bytes place h = get_or-slots_at bytes (table_at form bytes) (count_of bytes) place h

pub names_length : (form : DtForm) (bytes : List ℕ) → length (names_of form bytes) ≡ count_of bytes
names_length form bytes = length-map (table_of form bytes) (name_of (is_leaf bytes) bytes) ∙ table_length form bytes

pub name_is : (form : DtForm) (bytes : List ℕ) (place : ℕ) → place < count_of bytes → name_at (names_of form bytes) place ≡ name_of (is_leaf bytes) bytes (get_or (table_of form bytes) place 0)
name_is form bytes place h = get_or-map (name_of (is_leaf bytes) bytes) (table_of form bytes) place 0 [] (omega (arith, h, table_length form bytes))

pub entry_is : (form : DtForm) (bytes : List ℕ) (place : ℕ) → place < count_of bytes → slice_get (entries_of form bytes) place ≡ Some (entry_of (is_leaf bytes) bytes (get_or (table_of form bytes) place 0))
entry_is form bytes place h =
    slice_get-map (entry_of (is_leaf bytes) bytes) (table_of form bytes) place ∙ ap (option_map (entry_of (is_leaf bytes) bytes)) (slice_get-get_or (table_of form bytes) place 0 (omega (arith, h, table_length form bytes)))

-- ---- the slots of one of the entries

times_part : (f : ℕ → List ℕ) (xs : List ℕ) (i k : ℕ) → i < length xs → times k (f (get_or xs i 0)) ≤ times k (flat_map f xs)
times_part f [] i k h = absurd (none i h)
  where
    none : (i : ℕ) → i < 0 → ⊥
    none i h = omega (arith, h)
times_part f (x ∷ xs) zero k h = let n = times-append k (f x) (flat_map f xs) in omega (arith, n)
times_part f (x ∷ xs) (suc i) k h = let n = times-append k (f x) (flat_map f xs) in let r = times_part f xs i k (omega (arith, h)) in omega (arith, n, r)

pub chain_usable : (form : DtForm) (bytes : List ℕ) (place : ℕ) → ChainsFit form bytes → place < count_of bytes → (k : ℕ) → times k (chain_of (is_leaf bytes) bytes (get_or (table_of form bytes) place 0)) ≤ usable form bytes k
chain_usable form bytes place fit h k =
    let part = times_part (chain_of (is_leaf bytes) bytes) (table_of form bytes) place k (omega (arith, h, table_length form bytes)) in
    let once = fit.once k in
    omega (arith, part, once)

pub chain_within : (form : DtForm) (bytes : List ℕ) (place : ℕ) → length bytes ≡ bytes_of form → ChainsFit form bytes → place < count_of bytes → AreWithin bytes (chain_of (is_leaf bytes) bytes (get_or (table_of form bytes) place 0))
chain_within form bytes place size fit h =
    all_from (λ slot. 32 * slot + 32 ≤ length bytes) (chain_of (is_leaf bytes) bytes (get_or (table_of form bytes) place 0))
    (λ k there. let u = chain_usable form bytes place fit h k in usable_within form bytes k size (omega (arith, there, u)))

pub slot_within : (form : DtForm) (bytes : List ℕ) (place : ℕ) → length bytes ≡ bytes_of form → ChainsFit form bytes → place < count_of bytes → 32 * get_or (table_of form bytes) place 0 + 32 ≤ length bytes
unfolding chain_of
slot_within form bytes place size fit h = (chain_within form bytes place size fit h).0

-- ---- what an entry reads as

entry_by_leaf : (bytes : List ℕ) (slot : ℕ) → entry_of true bytes slot ≡ Named (field_of bytes (32 * slot) 4) (name_of true bytes slot)
unfolding entry_of
entry_by_leaf bytes slot = refl

entry_by_inner : (bytes : List ℕ) (slot : ℕ) → entry_of false bytes slot ≡ Below (pxd_of bytes (32 * slot)) (name_of false bytes slot)
unfolding entry_of
entry_by_inner bytes slot = refl

pub leaf_entry : (form : DtForm) (bytes : List ℕ) (place inode at : ℕ) → is_leaf bytes ≡ true → place < count_of bytes → at ≡ 32 * get_or (table_of form bytes) place 0 → inode ≡ field_of bytes at 4
    → slice_get (entries_of form bytes) place ≡ Some (Named inode (name_at (names_of form bytes) place))
leaf_entry form bytes place inode at leaf h e v =
    let slot = get_or (table_of form bytes) place 0 in
    entry_is form bytes place h ∙ ap (λ (b : Bool). Some (entry_of b bytes slot)) leaf ∙ ap Some (entry_by_leaf bytes slot)
    ∙ ap (λ (n : ℕ). Some (Named n (name_of true bytes slot))) (sym (v ∙ ap (λ (p : ℕ). field_of bytes p 4) e))
    ∙ ap (λ (n : List ℕ). Some (Named inode n)) (ap (λ (b : Bool). name_of b bytes slot) (sym leaf) ∙ sym (name_is form bytes place h))

pub inner_entry : (form : DtForm) (bytes : List ℕ) (place : ℕ) (child : Pxd) (at : ℕ) → is_leaf bytes ≡ false → place < count_of bytes → at ≡ 32 * get_or (table_of form bytes) place 0 → child ≡ pxd_of bytes at
    → slice_get (entries_of form bytes) place ≡ Some (Below child (name_at (names_of form bytes) place))
inner_entry form bytes place child at inner h e v =
    let slot = get_or (table_of form bytes) place 0 in
    entry_is form bytes place h ∙ ap (λ (b : Bool). Some (entry_of b bytes slot)) inner ∙ ap Some (entry_by_inner bytes slot)
    ∙ ap (λ (n : Pxd). Some (Below n (name_of false bytes slot))) (sym (v ∙ ap (λ (p : ℕ). pxd_of bytes p) e))
    ∙ ap (λ (n : List ℕ). Some (Below child n)) (ap (λ (b : Bool). name_of b bytes slot) (sym inner) ∙ sym (name_is form bytes place h))
