-- A ring that shows pages up to one number reads as their text.
use Rattle.std.proofs.Common.{◌≡◌, ◌≤◌, ◌<◌, ◌+◌, ◌-◌, ◌*◌, ◌/◌, ℕ, zero, suc, List, ◌++◌, length, take, drop, get_or, nat_le, if◌then◌else◌, refl, sym, ap, ◌∙◌, ◌⊎◌, inl, inr, arith}
use Rattle.std.proofs.lemmas.Bool.{cases_lt, le-leb, lt-leb}
use Rattle.std.proofs.lemmas.List.{length-append, length-take-le, length-drop, drop_all, ext_get_or, get_or-take, get_or-drop, get_or_append_left, get_or-append_right}
use Rattle.jfs_disk.specs.Image.{Image}
use Rattle.jfs_bits.specs.Field.{range_of}
use Rattle.jfs_logpages.specs.Ring.{slot, eor_of, body_of, bodies, text_of, last_end, IsRun, IsPageOf, Reads, Shows}
use Rattle.jfs_logpages.proofs.Ends.{last_end-within, last_end-lower}

pub length-body : (page : List ℕ) → length page ≡ 4096 → length (body_of page) ≡ 4080
unfolding range_of
length-body page size = length-take-le 4080 (drop 8 page) (omega (arith, length-drop 8 page))

pub byte-body : (page : List ℕ) (i : ℕ) → i < 4080 → get_or (body_of page) i 0 ≡ get_or page (8 + i) 0
unfolding range_of
byte-body page i h = get_or-take 4080 (drop 8 page) i 0 h ∙ get_or-drop 8 page i 0

-- the pages from `first` on, n of them, are those of a text
abbrev Pages : ℕ → Image → List ℕ → List ℕ → ℕ → ℕ → Type 0
Pages ring image text ends first n = (k : ℕ) → k < n → IsPageOf text ends (first + k) (slot ring image (first + k))

length-bodies : (ring : ℕ) (image : Image) (text ends : List ℕ) (first n : ℕ) → Pages ring image text ends first n → length (bodies ring image first n) ≡ 4080 * n
length-bodies ring image text ends first zero pages = omega arith
length-bodies ring image text ends first (suc n) pages =
    omega (
      arith,
      length-append (bodies ring image first n) (body_of (slot ring image (first + n))),
      length-body (slot ring image (first + n)) (pages n (omega arith)).size,
      length-bodies ring image text ends first n (λ k h. pages k (omega arith)),
    )

byte-bodies : (ring : ℕ) (image : Image) (text ends : List ℕ) (first n : ℕ) → Pages ring image text ends first n → (i : ℕ) → i < 4080 * n → 4080 * first + i < length text → get_or (bodies ring image first n) i 0 ≡ get_or text (4080 * first + i) 0
byte-bodies ring image text ends first zero pages i h g = absurd (omega arith)
byte-bodies ring image text ends first (suc n) pages i h g =
    by (length-bodies ring image text ends first n (λ k h. pages k (omega arith))) (λ l. byte-bodies ring image text ends first n (λ k h. pages k (omega arith)) i l g) (cases_lt i (4080 * n))
  where
    page : List ℕ
    page = slot ring image (first + n)

    by : length (bodies ring image first n) ≡ 4080 * n → (i < 4080 * n → get_or (bodies ring image first n) i 0 ≡ get_or text (4080 * first + i) 0)
        → (i < 4080 * n) ⊎ (4080 * n ≤ i) → get_or (bodies ring image first n ++ body_of page) i 0 ≡ get_or text (4080 * first + i) 0
    by long rest (inl front) = get_or_append_left (bodies ring image first n) (body_of page) 0 i (omega arith) ∙ rest front
    by long rest (inr back) =
        let j = i - 4080 * n in
        get_or-append_right (bodies ring image first n) (body_of page) (4080 * n) i 0 long back
        ∙ byte-body page j (omega arith)
        ∙ (pages n (omega arith)).begins j (omega arith) (omega arith)
        ∙ ap (λ (m : ℕ). get_or text m 0) (omega arith)

pub text-shown : (ring : ℕ) (image : Image) (text ends : List ℕ) (first n : ℕ) → Pages ring image text ends first n → last_end ends (4080 * (first + n)) ≤ length text
    → text_of ring image first n ≡ drop (4080 * first) (take (last_end ends (4080 * (first + n))) text)
text-shown ring image text ends first zero pages fits =
    sym (drop_all (4080 * first) (take (last_end ends (4080 * (first + 0))) text)
    (omega (arith, length-take-le (last_end ends (4080 * (first + 0))) text fits, last_end-within ends (4080 * (first + 0)))))
text-shown ring image text ends first (suc n) pages fits =
    by (λ f. text-shown ring image text ends first n (λ k h. pages k (omega arith)) f) (cases_lt 8 (eor_of page))
  where
    page : List ℕ
    page = slot ring image (first + n)

    place : 4080 * suc (first + n) ≡ 4080 * (first + suc n)
    place = omega arith

    cut : ℕ
    cut = last_end ends (4080 * (first + suc n))

    eor : eor_of page ≡ 8 + (cut - 4080 * (first + n))
    eor = (pages n (omega arith)).eor ∙ ap (λ (m : ℕ). 8 + (last_end ends m - 4080 * (first + n))) place

    within : cut ≤ 4080 * (first + suc n)
    within = last_end-within ends (4080 * (first + suc n))

    by : (last_end ends (4080 * (first + n)) ≤ length text → text_of ring image first n ≡ drop (4080 * first) (take (last_end ends (4080 * (first + n))) text))
        → (8 < eor_of page) ⊎ (eor_of page ≤ 8)
        → (if nat_le (eor_of page) 8 then text_of ring image first n else bodies ring image first n ++ take (eor_of page - 8) (body_of page)) ≡ drop (4080 * first) (take cut text)
    by rest (inr nothing) =
        let lower : last_end ends (4080 * (first + n)) ≡ cut = last_end-lower ends (4080 * (first + n)) (4080 * (first + suc n)) (omega arith) (omega (arith, eor, nothing)) in
        rw (le-leb (eor_of page) 8 nothing) (rest (omega (arith, lower, fits)) ∙ ap (λ (c : ℕ). drop (4080 * first) (take c text)) lower)
    by rest (inl some) = rw (lt-leb (eor_of page) 8 some) (ends_here (omega (arith, some, eor)))
      where
        front : length (bodies ring image first n) ≡ 4080 * n
        front = length-bodies ring image text ends first n (λ k h. pages k (omega arith))

        tail : length (take (eor_of page - 8) (body_of page)) ≡ eor_of page - 8
        tail = length-take-le (eor_of page - 8) (body_of page) (omega (arith, eor, within, length-body page (pages n (omega arith)).size))

        byte : 4080 * (first + n) < cut → (i : ℕ) → 4080 * first + i < cut → (i < 4080 * n) ⊎ (4080 * n ≤ i) → get_or (bodies ring image first n ++ take (eor_of page - 8) (body_of page)) i 0 ≡ get_or text (4080 * first + i) 0
        byte more i h (inl low) =
            get_or_append_left (bodies ring image first n) (take (eor_of page - 8) (body_of page)) 0 i (omega (arith, front))
            ∙ byte-bodies ring image text ends first n (λ k h. pages k (omega arith)) i low (omega (arith, fits))
        byte more i h (inr high) =
            let j = i - 4080 * n in
            get_or-append_right (bodies ring image first n) (take (eor_of page - 8) (body_of page)) (4080 * n) i 0 front high
            ∙ get_or-take (eor_of page - 8) (body_of page) j 0 (omega (arith, eor))
            ∙ byte-body page j (omega (arith, within))
            ∙ (pages n (omega arith)).begins j (omega (arith, within)) (omega (arith, fits))
            ∙ ap (λ (m : ℕ). get_or text m 0) (omega arith)

        ends_here : 4080 * (first + n) < cut → bodies ring image first n ++ take (eor_of page - 8) (body_of page) ≡ drop (4080 * first) (take cut text)
        ends_here more =
            let long : length (bodies ring image first n ++ take (eor_of page - 8) (body_of page)) ≡ cut - 4080 * first = omega (arith, length-append (bodies ring image first n) (take (eor_of page - 8) (body_of page)), front, tail, eor) in
            let target : length (drop (4080 * first) (take cut text)) ≡ cut - 4080 * first = omega (arith, length-drop (4080 * first) (take cut text), length-take-le cut text fits) in
            ext_get_or 0 (bodies ring image first n ++ take (eor_of page - 8) (body_of page)) (drop (4080 * first) (take cut text)) (long ∙ sym target)
            (λ i h. byte more i (omega arith) (cases_lt i (4080 * n))
            ∙ sym (get_or-drop (4080 * first) (take cut text) i 0 ∙ get_or-take cut text (4080 * first + i) 0 (omega arith)))

-- the ring of a text up to a page reads as that text, half a ring back
pub reads-shown : (ring : ℕ) (image : Image) (text ends : List ℕ) (q : ℕ) → 2 ≤ ring → Shows ring text ends q image → last_end ends (4080 * suc q) ≤ length text
    → Reads ring image (q + 1 - ring / 2) (drop (4080 * (q + 1 - ring / 2)) (take (last_end ends (4080 * suc q)) text))
reads-shown ring image text ends q some shows fits = record {
  last = q;
  run = record { long = shows.long; each = λ k h g. (shows.each k h g).number };
  greatest = λ r run. greatest r run (cases_lt q r) (cases_lt r (q + ring / 2));
  start = refl;
  content = sym (text-shown ring image text ends first (ring / 2) pages (omega (arith, fits, whole))
      ∙ ap (λ (c : ℕ). drop (4080 * first) (take c text)) whole);
}
  where
    first : ℕ
    first = q + 1 - ring / 2

    whole : last_end ends (4080 * (first + ring / 2)) ≡ last_end ends (4080 * suc q)
    whole = ap (λ (m : ℕ). last_end ends m) (omega (arith, shows.long))

    pages : (k : ℕ) → k < ring / 2 → IsPageOf text ends (first + k) (slot ring image (first + k))
    pages k h = shows.each (first + k) (omega (arith, shows.long)) (omega (arith, shows.long))

    greatest : (r : ℕ) → IsRun ring image r → (q < r) ⊎ (r ≤ q) → (r < q + ring / 2) ⊎ (q + ring / 2 ≤ r) → r ≤ q
    greatest r run (inr low) near = low
    greatest r run (inl high) (inl near) = absurd (shows.next (run.each (suc q) (omega arith) (omega arith)))
    greatest r run (inl high) (inr far) = absurd (shows.none r far (run.each r (omega arith) (omega arith)))
