-- The bits of parts that stand one behind the other.
use Rattle.std.proofs.Common.{Option, Some, None, ◌≡◌, ◌<◌, ◌≤◌, ◌+◌, ◌*◌, ◌/◌, ◌%◌, ℕ, zero, suc, Bool, ◌&&◌, List, [], ◌∷◌, ◌++◌, length, take, drop, inl, inr, refl, sym, ap, ◌∙◌, append_assoc, arith}
use Rattle.std.proofs.lemmas.Bool.{cases_lt}
use Rattle.std.proofs.Math.Nat.{mul-suc}
use Rattle.std.proofs.lemmas.List.{drop_at, drop-append-le, take-append-le, length-drop, length-append, append-nil}
use Rattle.byteorder.specs.Endian.{little_from}
use Rattle.jfs_bits.specs.Field.{field_of, range_of}
use Rattle.jfs_bits.specs.Bits.{is_taken, is_taken_in}
use Rattle.jfs_bits.proofs.Fields.{little_from-drop}
use Rattle.jfs_buddy.proofs.Parts.{field-from_range}
use Rattle.std.specs.Option.{option_map}
use Rattle.jfs_bits.specs.declared.extent.Xad.{Xad}
use Rattle.jfs_mount.specs.objects.specs.Contents.{block_of, bytes_at}
use Rattle.jfs_mount.specs.Files.{IsWithin}
use Rattle.jfs_mount.specs.reader.specs.Reading.{IsPast}
use Rattle.jfs_sets.specs.Parts.{or_zeros, part_of, parts_from, AreParts}

field-front : (xs ys : List ℕ) (at width : ℕ) → at + width ≤ length xs → field_of (xs ++ ys) at width ≡ field_of xs at width
unfolding range_of
field-front xs ys at width h =
    field-from_range (xs ++ ys) xs at width (ap (λ (z : List ℕ). take width z) (drop-append-le at xs ys (omega arith)) ∙ take-append-le width (drop at xs) ys (omega (arith, length-drop at xs)))

field-back : (xs ys : List ℕ) (i width : ℕ) → field_of (xs ++ ys) (length xs + i) width ≡ field_of ys i width
unfolding field_of
field-back xs ys i width = sym (little_from-drop width i (length xs) (xs ++ ys)) ∙ ap (λ (z : List ℕ). little_from i width z) (drop_at xs ys (length xs) refl)

taken-front : (xs ys : List ℕ) (q i : ℕ) → length xs ≡ 4 * q → i < 8 * length xs → is_taken (xs ++ ys) i ≡ is_taken xs i
unfolding is_taken
taken-front xs ys q i words h = ap (λ (z : ℕ). is_taken_in z (i % 32)) (field-front xs ys (4 * (i / 32)) 4 (omega arith))

taken-back : (xs ys : List ℕ) (q i : ℕ) → length xs ≡ 4 * q → is_taken (xs ++ ys) (8 * length xs + i) ≡ is_taken ys i
unfolding is_taken
taken-back xs ys q i words =
    let place : 4 * ((8 * length xs + i) / 32) ≡ length xs + 4 * (i / 32) = omega arith in
    let bit : (8 * length xs + i) % 32 ≡ i % 32 = omega arith in
    rw (place, bit) (ap (λ (z : ℕ). is_taken_in z (i % 32)) (field-back xs ys (4 * (i / 32)) 4))

-- bit `i` of part `k`
pub taken-parts : (part : ℕ → List ℕ) (size q first pages k i : ℕ) → size ≡ 4 * q → ((j : ℕ) → first ≤ j → j < first + pages → length (part j) ≡ size) → k < pages → i < 8 * size
    → is_taken (parts_from part first pages) (8 * (size * k) + i) ≡ is_taken (part (first + k)) i
unfolding parts_from
taken-parts part size q first zero k i words each h small = absurd (omega arith)
taken-parts part size q first (suc pages) zero i words each h small =
    let len = each first (omega arith) (omega arith) in
    let none : 8 * (size * 0) + i ≡ i = omega arith in
    let here : first + 0 ≡ first = omega arith in
    rw (none, here) (taken-front (part first) (parts_from part (suc first) pages) q i (len ∙ words) (omega (arith, len)))
taken-parts part size q first (suc pages) (suc k) i words each h small =
    let len = each first (omega arith) (omega arith) in
    let next : 8 * (size * suc k) + i ≡ 8 * length (part first) + (8 * (size * k) + i) = omega (arith, mul-suc size k, len) in
    let there : first + suc k ≡ suc first + k = omega arith in
    rw (next, there) (taken-back (part first) (parts_from part (suc first) pages) q (8 * (size * k) + i) (len ∙ words)
    ∙ taken-parts part size q (suc first) pages k i words (λ j low high. each j (omega arith) (omega arith)) (omega arith) small)

-- ---- reading

-- the parts that are read, and those that are left, are all; each that is read has its size
pub record IsReading (size : ℕ) (part : ℕ → List ℕ) (first pages k : ℕ) (bytes : List ℕ) : Type 0 where
  pub left : ℕ
  pub all : k + left ≡ pages
  pub are : bytes ++ parts_from part (first + k) left ≡ parts_from part first pages
  pub each : (j : ℕ) → first ≤ j → j < first + k → length (part j) ≡ size

pub reading-none : (size : ℕ) (part : ℕ → List ℕ) (first pages : ℕ) → IsReading size part first pages 0 []
reading-none size part first pages = record {
  left = pages;
  all = omega arith;
  are = let here : first + 0 ≡ first = omega arith in rw here refl;
  each = λ j low high. absurd (omega arith);
}

pub reading-next : (size : ℕ) (part : ℕ → List ℕ) (first pages k : ℕ) (bytes more : List ℕ) → k < pages → more ≡ part (first + k) → length more ≡ size → IsReading size part first pages k bytes → IsReading size part first pages (k + 1) (bytes ++ more)
unfolding parts_from
reading-next size part first pages k bytes more less is len r = by r.left r.all r.are
  where
    by : (left : ℕ) → k + left ≡ pages → bytes ++ parts_from part (first + k) left ≡ parts_from part first pages → IsReading size part first pages (k + 1) (bytes ++ more)
    by zero all are = absurd (omega arith)
    by (suc left) all are = record {
      left = left;
      all = omega arith;
      are = let next : first + (k + 1) ≡ suc (first + k) = omega arith in
          rw next (append_assoc bytes more (parts_from part (suc (first + k)) left) ∙ ap (λ (z : List ℕ). bytes ++ (z ++ parts_from part (suc (first + k)) left)) is ∙ are);
      each = λ j low high. elim (cases_lt j (first + k)) [
        | inl before ↦ r.each j low before
        | inr here ↦ let j_is : j ≡ first + k = omega arith in rw j_is (sym (ap (λ (z : List ℕ). length z) is) ∙ len)
      ];
    }

pub reading-all : (size : ℕ) (part : ℕ → List ℕ) (first pages : ℕ) (bytes : List ℕ) → IsReading size part first pages pages bytes → AreParts size part first pages bytes
unfolding parts_from
reading-all size part first pages bytes r = by r.left r.all r.are
  where
    by : (left : ℕ) → pages + left ≡ pages → bytes ++ parts_from part (first + pages) left ≡ parts_from part first pages → AreParts size part first pages bytes
    by zero all are = record { are = sym (append-nil bytes) ∙ are; each = r.each }
    by (suc left) all are = absurd (omega arith)

-- what was read of a page, by extents that have the page where the file has it
pub read-part : (page now : ℕ → List ℕ) (extents rest : List Xad) (at size j there : ℕ) (part : Option (List ℕ)) → now ≡ page → block_of rest j ≡ block_of extents j → j ≡ there
    → part ≡ option_map (λ p. range_of p at size) (bytes_at now (block_of rest j)) → or_zeros size part ≡ part_of page extents at size there
read-part page now extents rest at size j there part same here is told =
    ap (λ (o : Option (List ℕ)). or_zeros size o) (told ∙ ap (λ (x : ℕ → List ℕ). option_map (λ p. range_of p at size) (bytes_at x (block_of rest j))) same)
    ∙ ap (λ (o : Option ℕ). or_zeros size (option_map (λ p. range_of p at size) (bytes_at page o))) here
    ∙ ap (λ (n : ℕ). part_of page extents at size n) is

-- extents that lie within the volume name no page outside of it
pub no-outside : (blocks count : ℕ) (wanted there : Option ℕ) → count ≡ blocks → there ≡ wanted → IsWithin blocks wanted → IsPast count there → ⊥
no-outside blocks count wanted None same is within past = past
no-outside blocks count wanted (Some b) same is within past = let below = within b (sym is) in omega (arith, same, past, below)
