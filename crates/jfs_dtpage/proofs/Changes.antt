-- A page after an entry was put in or taken out: what its header and slots keep.
use Rattle.std.proofs.Common.{◌≡◌, ◌≤◌, ◌<◌, ◌+◌, ◌*◌, ◌/◌, ◌%◌, ℕ, List, refl, sym, ap, ◌∙◌, ◌⊎◌, inl, inr, arith}
use Rattle.std.specs.Prelude.{if◌then◌else◌, nat_le, nat_lt, ◌&&◌, ◌||◌, ◌==◌}
use Rattle.std.proofs.lemmas.Bool.{ltb-true, leb-true, and_parts, or_cases}
use Rattle.jfs_bits.specs.Field.{field_of}
use Rattle.jfs_dtpage.specs.declared.head.DtForm.{DtForm}
use Rattle.jfs_dtpage.specs.declared.head.DtForm.TheVariants.{Root, Full}
use Rattle.jfs_dtpage.specs.declared.head.Place.TheVariants.{InInode}
use Rattle.jfs_dtpage.specs.Form.{flag_of, count_of, head_of, is_leaf, table_at, is_usable, most_of, KeepsHead}
use Rattle.jfs_dtpage.specs.Slots.{slots_at, times, Kept, SameSlot, KeptBut}
use Rattle.jfs_dtpage.specs.Page.{table_of, usable, TableFits}
use Rattle.jfs_dtpage.proofs.Kept.{same_field}
use Rattle.jfs_dtpage.proofs.Lists.{slots_same}
use Rattle.jfs_dtpage.proofs.Pages.{usable_range, one_if}
use Rattle.jfs_dtpage.proofs.Counted.{unusable_table}

-- the header's fields, the counts and a root's table aside
abbrev pub SameHead : DtForm → List ℕ → List ℕ → Type 0
SameHead Root old new = (from width : ℕ) → ((from + width ≤ 17) ⊎ (20 ≤ from)) → from + width ≤ 24 → field_of new from width ≡ field_of old from width
SameHead Full old new = (from width : ℕ) → ((from + width ≤ 17) ⊎ (20 ≤ from)) → from + width ≤ 32 → field_of new from width ≡ field_of old from width

pub same_flag : (form : DtForm) (old new : List ℕ) → SameHead form old new → flag_of new ≡ flag_of old
same_flag Root old new s = s 16 1 (inl (omega arith)) (omega arith)
same_flag Full old new s = s 16 1 (inl (omega arith)) (omega arith)

pub same_leaf : (form : DtForm) (old new : List ℕ) → SameHead form old new → is_leaf new ≡ is_leaf old
same_leaf form old new s = ap (λ (f : ℕ). f / 2 % 2 == 1) (same_flag form old new s)

pub same_place : (form : DtForm) (old new : List ℕ) → SameHead form old new → (head_of form new).place ≡ (head_of form old).place
same_place Root old new s = ap InInode (s 20 4 (inr (omega arith)) (omega arith))
same_place Full old new s =
    let next = s 0 8 (inl (omega arith)) (omega arith) in
    let prev = s 8 8 (inl (omega arith)) (omega arith) in
    let slots = s 20 1 (inr (omega arith)) (omega arith) in
    let table = s 21 1 (inr (omega arith)) (omega arith) in
    let one = s 24 4 (inr (omega arith)) (omega arith) in
    let two = s 28 4 (inr (omega arith)) (omega arith) in
    rw (next, prev, slots, table, one, two) refl

pub same_table : (form : DtForm) (old new : List ℕ) → SameHead form old new → table_at form new ≡ table_at form old
same_table Root old new s = refl
same_table Full old new s = ap (λ (t : ℕ). 32 * t) (s 21 1 (inr (omega arith)) (omega arith))

pub same_usable : (form : DtForm) (old new : List ℕ) → SameHead form old new → (k : ℕ) → usable form new k ≡ usable form old k
same_usable Root old new s k = refl
same_usable Full old new s k = ap (λ (t : ℕ). if nat_le 1 k && nat_lt k 128 && (nat_lt k t || nat_le (t + 4) k) then 1 else 0) (s 21 1 (inr (omega arith)) (omega arith))

pub same_fits : (form : DtForm) (old new : List ℕ) → SameHead form old new → TableFits form old → TableFits form new
same_fits Root old new s fits = tt
same_fits Full old new s fits =
    let a = s 20 1 (inr (omega arith)) (omega arith) in let b = s 21 1 (inr (omega arith)) (omega arith) in
    let low = fits.1 in let high = fits.2 in
    (a ∙ fits.0, omega (arith, b, low), omega (arith, b, high))

-- ---- slots that an entry may have were written

pub head_by_slots : (form : DtForm) (old mid : List ℕ) (xs : List ℕ) → ((k : ℕ) → times k xs ≤ usable form old k) → KeptBut xs old mid → SameHead form old mid
head_by_slots Root old mid xs h kept = λ from width side w. same_field old mid 0 from width from (kept 0 (let a = h 0 in omega (arith, a))) (omega arith) (omega (arith, w))
head_by_slots Full old mid xs h kept = λ from width side w. same_field old mid 0 from width from (kept 0 (let a = h 0 in omega (arith, a))) (omega arith) (omega (arith, w))

pub table_by_slots : (form : DtForm) (old mid : List ℕ) (xs : List ℕ) (n : ℕ) → n ≤ most_of form → ((k : ℕ) → times k xs ≤ usable form old k) → KeptBut xs old mid → slots_at mid (table_at form old) n ≡ slots_at old (table_at form old) n
table_by_slots Root old mid xs n most h kept =
    slots_same old mid 24 n (λ i l. same_field old mid 0 (24 + i) 1 (24 + i) (kept 0 (let a = h 0 in omega (arith, a))) (omega arith) (omega (arith, l, most)))
table_by_slots Full old mid xs n most h kept =
    let t = field_of old 21 1 in
    slots_same old mid (32 * t) n (λ i l.
    let q = i / 32 in
    let few : q < 4 = omega (arith, l, most) in
    let z = unusable_table old q few in
    same_field old mid (t + q) (i % 32) 1 (32 * t + i) (kept (t + q) (let a = h (t + q) in omega (arith, a, z))) (omega arith) (omega arith))

-- ---- the table and the counts were written

pub head_by_table : (form : DtForm) (mid tab new : List ℕ) (size : ℕ) → TableFits form mid → Kept (table_at form mid) size mid tab → Kept 17 3 tab new → SameHead form mid new
head_by_table Root mid tab new size fits a b = λ from width side w. b from width side ∙ a from width (inl w)
head_by_table Full mid tab new size fits a b = λ from width side w. let low = fits.1 in b from width side ∙ a from width (inl (omega (arith, w, low)))

beside : (form : DtForm) (bytes : List ℕ) (k size : ℕ) → size ≤ most_of form → 1 ≤ usable form bytes k → (32 * k + 32 ≤ table_at form bytes) ⊎ (table_at form bytes + size ≤ 32 * k)
beside Root bytes k size most h = let r = (usable_range Root bytes k h).0 in inr (omega (arith, r, most))
beside Full bytes k size most h =
    let t = field_of bytes 21 1 in
    let p = and_parts (nat_le 1 k && nat_lt k 128) (nat_lt k t || nat_le (t + 4) k) (one_if (is_usable Full bytes k) h) in
    elim (or_cases (nat_lt k t) (nat_le (t + 4) k) p.1) [
      | inl e ↦ let l = ltb-true k t e in inl (omega (arith, l))
      | inr e ↦ let l = leb-true (t + 4) k e in inr (omega (arith, l, most))
    ]

pub slots_by_table : (form : DtForm) (mid tab new : List ℕ) (size k : ℕ) → size ≤ most_of form → Kept (table_at form mid) size mid tab → Kept 17 3 tab new → 1 ≤ usable form mid k → SameSlot mid new k
slots_by_table form mid tab new size k most a b u from width w =
    let low = (usable_range form mid k u).0 in
    b (32 * k + from) width (inr (omega (arith, low))) ∙ a (32 * k + from) width (elim (beside form mid k size most u) [ inl l ↦ inl (omega (arith, l, w)) | inr r ↦ inr (omega (arith, r)) ])

table_behind : (form : DtForm) (bytes : List ℕ) → TableFits form bytes → 20 ≤ table_at form bytes
table_behind Root bytes fits = omega arith
table_behind Full bytes fits = let low = fits.1 in omega (arith, low)

pub table_by_counts : (form : DtForm) (mid tab new : List ℕ) (n : ℕ) → TableFits form mid → Kept 17 3 tab new → slots_at new (table_at form mid) n ≡ slots_at tab (table_at form mid) n
table_by_counts form mid tab new n fits b = let low = table_behind form mid fits in slots_same tab new (table_at form mid) n (λ i l. b (table_at form mid + i) 1 (inr (omega (arith, low))))

-- ---- both

-- The slots `xs`, the table and the counts were written.
pub record Edits (form : DtForm) (old mid new : List ℕ) (xs : List ℕ) : Type 0 where
  pub head : SameHead form old new
  pub kept : KeptBut xs old mid
  pub slots : (k : ℕ) → 1 ≤ usable form old k → SameSlot mid new k
  pub before : (k : ℕ) → times k xs ≤ usable form old k

both_heads : (form : DtForm) (old mid new : List ℕ) → SameHead form old mid → SameHead form mid new → SameHead form old new
both_heads Root old mid new a b = λ from width side w. b from width side w ∙ a from width side w
both_heads Full old mid new a b = λ from width side w. b from width side w ∙ a from width side w

pub edits : (form : DtForm) (old mid tab new : List ℕ) (xs : List ℕ) (size : ℕ) → TableFits form old → size ≤ most_of form → ((k : ℕ) → times k xs ≤ usable form old k) → KeptBut xs old mid → Kept (table_at form mid) size mid tab → Kept 17 3 tab new → Edits form old mid new xs
edits form old mid tab new xs size fits most h kept a b =
    let one = head_by_slots form old mid xs h kept in
    record {
      head = both_heads form old mid new one (head_by_table form mid tab new size (same_fits form old mid one fits) a b);
      kept = kept;
      slots = λ k u. slots_by_table form mid tab new size k most a b (let s = same_usable form old mid one k in omega (arith, s, u));
      before = h;
    }

-- the table that a call left, for the whole page
pub table_left : (form : DtForm) (old mid tab new : List ℕ) (xs : List ℕ) (n m wide : ℕ) → TableFits form old → n ≤ most_of form → ((k : ℕ) → times k xs ≤ usable form old k) → KeptBut xs old mid → Kept (table_at form mid) wide mid tab → Kept 17 3 tab new
    → (f : List ℕ → List ℕ) → slots_at tab (table_at form mid) m ≡ f (slots_at mid (table_at form mid) n) → count_of old ≡ n → count_of new ≡ m → table_of form new ≡ f (table_of form old)
unfolding table_of
table_left form old mid tab new xs n m wide fits most h kept a b f e o c =
    let one = head_by_slots form old mid xs h kept in
    let fits_mid = same_fits form old mid one fits in
    let two = head_by_table form mid tab new wide fits_mid a b in
    ap (λ (p : ℕ). slots_at new p (count_of new)) (same_table form mid new two) ∙ ap (λ (k : ℕ). slots_at new (table_at form mid) k) c ∙ table_by_counts form mid tab new m fits_mid b ∙ e
    ∙ ap f (ap (λ (p : ℕ). slots_at mid p n) (same_table form old mid one) ∙ table_by_slots form old mid xs n most h kept ∙ ap (λ (k : ℕ). slots_at old (table_at form old) k) (sym o))

pub keeps_head : (form : DtForm) (old new : List ℕ) → SameHead form old new → KeepsHead form old new
keeps_head form old new s = record { flag = same_flag form old new s; place = same_place form old new s }
