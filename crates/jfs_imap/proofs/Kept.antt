-- What is kept beside the set tells which inodes are free.
use Rattle.std.proofs.Common.{◌≡◌, ◌<◌, ◌≤◌, ◌+◌, ◌*◌, ◌/◌, ◌%◌, ℕ, Bool, true, false, not, ◌&&◌, List, length, get_or, inl, inr, refl, sym, ap, ◌∙◌, arith}
use Rattle.std.specs.Prelude.{nat_lt, Some, None}
use Rattle.std.proofs.lemmas.Bool.{cases_lt, true≢false, and_parts, lt-ltb, ltb-true, false_from_ne_true}
use Rattle.std.proofs.lemmas.List.{get_or_past}
use Rattle.jfs_bits.specs.declared.descriptor.Pxd.{Pxd}
use Rattle.jfs_bits.specs.Field.{field_of}
use Rattle.jfs_bits.specs.Bits.{is_taken, is_taken_in, any_below}
use Rattle.jfs_bits.proofs.Buds.{any_below-from}
use Rattle.jfs_bits.proofs.SameMaps.{word-bit}
use Rattle.jfs_iag.specs.Iag.{no_run}
use Rattle.jfs_iag.specs.Canonical.{is_there, has_free}
use Rattle.jfs_iag.proofs.Maps.{and_true, and_false, word-free}
use Rattle.jfs_imap.specs.declared.inode_map.Pick.TheVariants.{Number, NeedsExtent, NoInodes}
use Rattle.jfs_imap.specs.Summary.{IsFirstMarked}
use Rattle.jfs_imap.specs.Inodes.{inodes_of, is_used, is_free, bits_of, IsPick, NoneFree, AreKept}
use Rattle.jfs_imap.proofs.Marks.{unmarked, bit-at, not_false, length-bits_of}

-- an inode is free by its extent and its bit
pub free-by_bit : (set : List ℕ) (extents : List Pxd) (iags agsize numag i : ℕ) → length extents ≡ 128 * iags → is_free (inodes_of set extents iags agsize numag) i ≡ (is_there (get_or extents (i / 32) no_run) && not (is_taken set i))
free-by_bit set extents iags agsize numag i size =
    elim (cases_lt i (4096 * iags)) [
      | inl h ↦ ap (λ (z : Bool). is_there (get_or extents (i / 32) no_run) && not z) (bit-at (4096 * iags) set i h)
      | inr h ↦ (
          let past : get_or extents (i / 32) no_run ≡ no_run = get_or_past extents (i / 32) no_run (omega (arith, size)) in
          let none : is_there (get_or extents (i / 32) no_run) ≡ false = ap is_there past in
          and_false (is_there (get_or extents (i / 32) no_run)) (not (get_or (bits_of (4096 * iags) set) i false)) none ∙ sym (and_false (is_there (get_or extents (i / 32) no_run)) (not (is_taken set i)) none))
    ]

-- a free inode lies within the map
pub free-within : (set : List ℕ) (extents : List Pxd) (iags agsize numag i : ℕ) → length extents ≡ 128 * iags → is_free (inodes_of set extents iags agsize numag) i ≡ true → i < 4096 * iags
free-within set extents iags agsize numag i size free =
    elim (cases_lt i (4096 * iags)) [
      | inl h ↦ h
      | inr h ↦ (
          let past : get_or extents (i / 32) no_run ≡ no_run = get_or_past extents (i / 32) no_run (omega (arith, size)) in
          absurd (true≢false (sym free ∙ and_false (is_there (get_or extents (i / 32) no_run)) (not (get_or (bits_of (4096 * iags) set) i false)) (ap is_there past))))
    ]

-- an extent without a free inode has none
none-in : (taken : ℕ → Bool) (extent : ℕ → Pxd) (e r : ℕ) → r < 32 → has_free taken extent e ≡ false → (is_there (extent e) && not (taken (32 * e + r))) ≡ false
none-in taken extent e r h none =
    false_from_ne_true (is_there (extent e) && not (taken (32 * e + r))) (λ free.
    let parts = and_parts (is_there (extent e)) (not (taken (32 * e + r))) free in
    let any = any_below-from 32 (λ i. not (taken (32 * e + i))) r h parts.1 in
    true≢false (sym (and_true (is_there (extent e)) (any_below 32 (λ i. not (taken (32 * e + i)))) parts.0 ∙ any) ∙ none))

clear-extent : (set : List ℕ) (extents : List Pxd) (iags agsize numag i : ℕ) → length extents ≡ 128 * iags → has_free (is_taken set) (λ e. get_or extents e no_run) (i / 32) ≡ false → is_free (inodes_of set extents iags agsize numag) i ≡ false
clear-extent set extents iags agsize numag i size none =
    let place : 32 * (i / 32) + i % 32 ≡ i = omega arith in
    free-by_bit set extents iags agsize numag i size ∙ rw place at (none-in (is_taken set) (λ e. get_or extents e no_run) (i / 32) (i % 32) (omega arith) none)

pub none-free : (iags numag agsize : ℕ) (set : List ℕ) (extents : List Pxd) (having lacking : List Bool) → AreKept iags numag set extents having lacking → IsFirstMarked having None → NoneFree (inodes_of set extents iags agsize numag)
none-free iags numag agsize set extents having lacking k none i =
    clear-extent set extents iags agsize numag i k.extents_size (sym (k.free (i / 32)) ∙ unmarked having none (i / 32))

pub first-free : (iags numag agsize : ℕ) (set : List ℕ) (extents : List Pxd) (having lacking : List Bool) (e i : ℕ) → AreKept iags numag set extents having lacking → IsFirstMarked having (Some e)
    → i < 32 → is_taken_in (field_of set (4 * e) 4) i ≡ false → ((r : ℕ) → r < i → is_taken_in (field_of set (4 * e) 4) r ≡ true) → IsPick (inodes_of set extents iags agsize numag) (Number (32 * e + i))
first-free iags numag agsize set extents having lacking e i k first small clear before =
    let m = inodes_of set extents iags agsize numag in
    let extent : (32 * e + i) / 32 ≡ e = omega arith in
    let there = (and_parts (is_there (get_or extents e no_run)) (any_below 32 (λ i. not (is_taken set (32 * e + i)))) (sym (k.free e) ∙ first.1)).0 in
    let unused : not (is_taken set (32 * e + i)) ≡ true = ap not (word-bit set e i small ∙ clear) in (
      free-by_bit set extents iags agsize numag (32 * e + i) k.extents_size ∙ and_true (is_there (get_or extents ((32 * e + i) / 32) no_run)) (not (is_taken set (32 * e + i))) (rw extent there) ∙ unused,
      λ j h. elim (cases_lt (j / 32) e) [
        | inl low ↦ clear-extent set extents iags agsize numag j k.extents_size (sym (k.free (j / 32)) ∙ first.2 (j / 32) low)
        | inr high ↦ (
            let same : j / 32 ≡ e = omega arith in
            let place : 32 * e + j % 32 ≡ j = omega arith in
            let used : is_taken set j ≡ true = rw place at (word-bit set e (j % 32) (omega arith) ∙ before (j % 32) (omega arith)) in
            free-by_bit set extents iags agsize numag j k.extents_size ∙ clear-too (is_there (get_or extents (j / 32) no_run)) (is_taken set j) used)
      ],
    )
  where
    clear-too : (a b : Bool) → b ≡ true → (a && not b) ≡ false
    clear-too true b e = ap not e
    clear-too false b e = refl

-- the places
pub place-there : (iags numag : ℕ) (set : List ℕ) (extents : List Pxd) (having lacking : List Bool) (e : ℕ) → AreKept iags numag set extents having lacking → get_or lacking e false ≡ true → (e < length extents) × (is_there (get_or extents e no_run) ≡ false)
place-there iags numag set extents having lacking e k marked =
    let parts = and_parts (nat_lt e (128 * iags)) (not (is_there (get_or extents e no_run))) (sym (k.places e) ∙ marked) in
    (omega (arith, ltb-true e (128 * iags) parts.0, k.extents_size), not_true (is_there (get_or extents e no_run)) parts.1)
  where
    not_true : (b : Bool) → not b ≡ true → b ≡ false
    not_true true e = absurd (true≢false (sym e))
    not_true false e = refl

pub place-taken : (iags numag : ℕ) (set : List ℕ) (extents : List Pxd) (having lacking : List Bool) (e : ℕ) → AreKept iags numag set extents having lacking → get_or lacking e false ≡ false → e < length extents → is_there (get_or extents e no_run) ≡ true
place-taken iags numag set extents having lacking e k clear within =
    not_false (is_there (get_or extents e no_run)) (sym (and_true (nat_lt e (128 * iags)) (not (is_there (get_or extents e no_run))) (lt-ltb e (128 * iags) (omega (arith, within, k.extents_size)))) ∙ sym (k.places e) ∙ clear)

pub needs-extent : (iags numag agsize : ℕ) (set : List ℕ) (extents : List Pxd) (having lacking : List Bool) (e : ℕ) → AreKept iags numag set extents having lacking → IsFirstMarked having None → IsFirstMarked lacking (Some e) → IsPick (inodes_of set extents iags agsize numag) (NeedsExtent e)
needs-extent iags numag agsize set extents having lacking e k none first =
    let p = place-there iags numag set extents having lacking e k first.1 in
    (none-free iags numag agsize set extents having lacking k none, (p.0, p.1, λ q h. place-taken iags numag set extents having lacking q k (first.2 q h) (omega (arith, h, p.0))))

pub no-inodes : (iags numag agsize : ℕ) (set : List ℕ) (extents : List Pxd) (having lacking : List Bool) → AreKept iags numag set extents having lacking → IsFirstMarked having None → IsFirstMarked lacking None → IsPick (inodes_of set extents iags agsize numag) NoInodes
no-inodes iags numag agsize set extents having lacking k none full =
    (none-free iags numag agsize set extents having lacking k none, λ e h. place-taken iags numag set extents having lacking e k (unmarked lacking full e) h)

pub clear-there : (iags numag : ℕ) (set : List ℕ) (extents : List Pxd) (having lacking : List Bool) (e word : ℕ) → AreKept iags numag set extents having lacking → IsFirstMarked having (Some e) → word ≡ field_of set (4 * e) 4 → any_below 32 (λ i. not (is_taken_in word i)) ≡ true
clear-there iags numag set extents having lacking e word k first is =
    word-free set word e is ∙ (and_parts (is_there (get_or extents e no_run)) (any_below 32 (λ i. not (is_taken set (32 * e + i)))) (sym (k.free e) ∙ first.1)).1

-- a bit past the map's end isn't set
pub past-unused : (set : List ℕ) (extents : List Pxd) (iags agsize numag n : ℕ) → iags ≤ n / 4096 → get_or (bits_of (4096 * iags) set) n false ≡ false
past-unused set extents iags agsize numag n h = get_or_past (bits_of (4096 * iags) set) n false (omega (arith, length-bits_of (4096 * iags) set))

pub used-within : (set : List ℕ) (extents : List Pxd) (iags agsize numag n : ℕ) → is_used (inodes_of set extents iags agsize numag) n ≡ true → n < 4096 * iags
used-within set extents iags agsize numag n used =
    elim (cases_lt n (4096 * iags)) [
      | inl h ↦ h
      | inr h ↦ absurd (true≢false (sym used ∙ get_or_past (bits_of (4096 * iags) set) n false (omega (arith, length-bits_of (4096 * iags) set))))
    ]
