-- What a page holds byte by byte once bytes are put into it.
use Rattle.std.proofs.Common.{◌≡◌, ◌≤◌, ◌<◌, inl, inr, refl, sym, ap, ◌∙◌, ℕ, ◌+◌, ◌-◌, ◌&&◌, Bool, true, false, if◌then◌else◌, List, ◌++◌, length, length-append, take, drop, replicate, arith}
use Rattle.std.specs.Prelude.{nat_le, nat_lt, min, get_or}
use Rattle.std.proofs.lemmas.Bool.{cases_lt, lt-ltb}
use Rattle.std.proofs.lemmas.Bool.Decides.{nat_tests}
use Rattle.std.proofs.lemmas.List.{length-take, length-drop, length-replicate, get_or-take, get_or-drop, get_or-replicate, get_or_append_left, get_or-append_right}
use Rattle.jfs_bits.specs.Field.{put_bytes}
use Rattle.jfs_write_pages.specs.Pages.{kept, part, patched, content}

-- the byte at a place of the file, by what is put, the size and what was there
abbrev pub byte_for : ℕ → ℕ → List ℕ → ℕ → ℕ → ℕ
byte_for size offset bytes i old = if nat_le offset i && nat_lt i (offset + length bytes) then get_or bytes (i - offset) 0 else (if nat_lt i size then old else 0)

pub kept_length : (n : ℕ) (page : List ℕ) → length page ≡ 4096 → length (kept n page) ≡ 4096
kept_length n page size = length-append {A = ℕ} (take n page) (replicate (length page - n) 0) ∙ both
  where
    both : length (take n page) + length {A = ℕ} (replicate (length page - n) 0) ≡ 4096
    both = let a = length-take n page in let b = length-replicate {A = ℕ} (length page - n) 0 in let m = least n (length page) in omega (arith, a, b, m, size)
      where
        least : (a b : ℕ) → min a b + (b - a) ≡ b
        least a b = grind (arith, nat_tests)

kept_at : (n j : ℕ) (page : List ℕ) → length page ≡ 4096 → j < 4096 → get_or (kept n page) j 0 ≡ (if nat_lt j n then get_or page j 0 else 0)
kept_at n j page size l = elim (cases_lt j n) [
  | inl s ↦ get_or_append_left (take n page) (replicate (length page - n) 0) 0 j (let a = length-take n page in let m = less j n (length page) s (omega (arith, size, l)) in omega (arith, a, m))
      ∙ get_or-take n page j 0 s ∙ sym (ap (λ (t : Bool). if t then get_or page j 0 else 0) (lt-ltb j n s))
  | inr s ↦ get_or-append_right (take n page) (replicate (length page - n) 0) n j 0 (length-take n page ∙ least n (length page) (omega (arith, s, size, l))) s
      ∙ get_or-replicate (length page - n) (j - n) 0 0 (omega (arith, s, size, l)) ∙ sym (ap (λ (t : Bool). if t then get_or page j 0 else 0) (past j n s))
]
  where
    less : (j a b : ℕ) → j < a → j < b → j < min a b
    less j a b l m = grind (arith, nat_tests)

    least : (a b : ℕ) → a ≤ b → min a b ≡ a
    least a b l = grind (arith, nat_tests)

    past : (j n : ℕ) → n ≤ j → nat_lt j n ≡ false
    past j n l = grind (arith, nat_tests)

module _ (offset : ℕ) (bytes : List ℕ) (start : ℕ) (page : List ℕ) (size : length page ≡ 4096) where
  abbrev at : ℕ
  at = offset - start

  abbrev new : List ℕ
  new = part offset bytes start

  new_length : length new ≡ min (4096 - at) (length bytes - (start - offset))
  new_length = length-take (4096 - at) (drop (start - offset) bytes) ∙ ap (min (4096 - at)) (length-drop (start - offset) bytes)

  pub patched_at : (j : ℕ) → j < 4096 → get_or (patched offset bytes start page) j 0 ≡ (if nat_le offset (start + j) && nat_lt (start + j) (offset + length bytes) then get_or bytes (start + j - offset) 0 else get_or page j 0)
  unfolding put_bytes
  patched_at j l = elim (cases_lt j at) [
    | inl s ↦ get_or_append_left (take at page) (new ++ drop (at + length new) page) 0 j (let a = length-take at page in let m = less j at (length page) s (omega (arith, size, l)) in omega (arith, a, m))
        ∙ get_or-take at page j 0 s ∙ sym (ap (λ (t : Bool). if t then get_or bytes (start + j - offset) 0 else get_or page j 0) (before offset start j (offset + length bytes) s))
    | inr s ↦ get_or-append_right (take at page) (new ++ drop (at + length new) page) at j 0 (length-take at page ∙ least at (length page) (omega (arith, s, size, l))) s
        ∙ elim (cases_lt (j - at) (length new)) [
          | inl i ↦ get_or_append_left new (drop (at + length new) page) 0 (j - at) i ∙ get_or-take (4096 - at) (drop (start - offset) bytes) (j - at) 0 (omega (arith, s, l)) ∙ get_or-drop (start - offset) bytes (j - at) 0
              ∙ ap (λ (k : ℕ). get_or bytes k 0) (places offset start j s)
              ∙ sym (ap (λ (t : Bool). if t then get_or bytes (start + j - offset) 0 else get_or page j 0) (inside offset start j (length bytes) (length new) new_length s i))
          | inr i ↦ get_or-append_right new (drop (at + length new) page) (length new) (j - at) 0 refl i ∙ get_or-drop (at + length new) page (j - at - length new) 0
              ∙ ap (λ (k : ℕ). get_or page k 0) (let n : at + length new + (j - at - length new) ≡ j = omega (arith, s, i) in n)
              ∙ sym (ap (λ (t : Bool). if t then get_or bytes (start + j - offset) 0 else get_or page j 0) (behind offset start j (length bytes) (length new) new_length l s i))
        ]
  ]
    where
      less : (j a b : ℕ) → j < a → j < b → j < min a b
      less j a b l m = grind (arith, nat_tests)

      least : (a b : ℕ) → a ≤ b → min a b ≡ a
      least a b l = grind (arith, nat_tests)

      before : (o s j n : ℕ) → j < o - s → (nat_le o (s + j) && nat_lt (s + j) n) ≡ false
      before o s j n l = grind (arith, nat_tests)

      places : (o s j : ℕ) → o - s ≤ j → (s - o) + (j - (o - s)) ≡ s + j - o
      places o s j l = omega (arith, l)

      inside : (o s j n m : ℕ) → m ≡ min (4096 - (o - s)) (n - (s - o)) → o - s ≤ j → j - (o - s) < m → (nat_le o (s + j) && nat_lt (s + j) (o + n)) ≡ true
      inside o s j n m e l i = grind (arith, nat_tests)

      behind : (o s j n m : ℕ) → m ≡ min (4096 - (o - s)) (n - (s - o)) → j < 4096 → o - s ≤ j → m ≤ j - (o - s) → (nat_le o (s + j) && nat_lt (s + j) (o + n)) ≡ false
      behind o s j n m e b l i = grind (arith, nat_tests)

pub content_at : (size offset : ℕ) (bytes : List ℕ) (start : ℕ) (page : List ℕ) (j : ℕ) → length page ≡ 4096 → j < 4096 → get_or (content size offset bytes start page) j 0 ≡ byte_for size offset bytes (start + j) (get_or page j 0)
content_at size offset bytes start page j whole l =
    patched_at offset bytes start (kept (size - start) page) (kept_length (size - start) page whole) j l
    ∙ ap (λ (x : ℕ). if nat_le offset (start + j) && nat_lt (start + j) (offset + length bytes) then get_or bytes (start + j - offset) 0 else x)
    (kept_at (size - start) j page whole l ∙ ap (λ (t : Bool). if t then get_or page j 0 else 0) (shift size start j))
  where
    shift : (n s j : ℕ) → nat_lt j (n - s) ≡ nat_lt (s + j) n
    shift n s j = grind (arith, nat_tests)
