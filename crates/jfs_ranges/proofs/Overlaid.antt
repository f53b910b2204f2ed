-- Bytes put over a page.
use Rattle.std.proofs.Common.{◌≡◌, ◌<◌, ◌≤◌, ◌+◌, ◌-◌, ◌*◌, ℕ, zero, suc, List, [], ◌∷◌, ◌++◌, length, take, drop, get_or, refl, sym, ap, ◌∙◌, arith, inl, inr, ◌⊎◌, false, nat_lt, ◌&&◌}
use Rattle.std.proofs.lemmas.List.{get_or_past, take-append-drop, length-take-le, length-drop, take_all, drop-drop, drop_more, drop_all}
use Rattle.std.proofs.lemmas.Bool.{cases_lt}
use Rattle.std.proofs.lemmas.Bool.Decides.{nat_tests}
use Rattle.jfs_bits.specs.Field.{put_bytes}
use Rattle.jfs_ranges.specs.declared.edit.Edit.{Edit}
use Rattle.jfs_ranges.specs.declared.edit.Edit.TheVariants.{Lines, NoRedo, Alloc, Free}
use Rattle.jfs_ranges.specs.Apply.{place_of_line, byte_after, overlaid, apply_edit, touches_edit}

-- where no new byte lies in a part, it stays
pub overlaid-none : (at : ℕ) (new : List ℕ) (place : ℕ) (xs : List ℕ) → (place + length xs ≤ at) ⊎ (length new ≤ place - at) → overlaid at new place xs ≡ xs
overlaid-none at new place [] h = refl
overlaid-none at new place (x ∷ xs) h =
    let here : byte_after at new place x ≡ x = byte_after-none at new place x (weaker h) in
    rw (here, overlaid-none at new (suc place) xs (further h)) refl
  where
    weaker : (place + length (x ∷ xs) ≤ at) ⊎ (length new ≤ place - at) → (place < at) ⊎ (length new ≤ place - at)
    weaker (inl h) = inl (omega arith)
    weaker (inr h) = inr h

    further : (place + length (x ∷ xs) ≤ at) ⊎ (length new ≤ place - at) → (suc place + length xs ≤ at) ⊎ (length new ≤ suc place - at)
    further (inl h) = inl (omega arith)
    further (inr h) = inr (omega arith)

    byte_after-none : (at : ℕ) (new : List ℕ) (place old : ℕ) → (place < at) ⊎ (length new ≤ place - at) → byte_after at new place old ≡ old
    byte_after-none at new place old (inl h) = grind (arith, nat_tests)
    byte_after-none at new place old (inr h) = grind (arith, nat_tests, get_or_past)

-- part by part
overlaid-append : (at : ℕ) (new : List ℕ) (place next : ℕ) (xs ys : List ℕ) → next ≡ place + length xs → overlaid at new place (xs ++ ys) ≡ overlaid at new place xs ++ overlaid at new next ys
overlaid-append at new place next [] ys e = let same : place ≡ next = omega arith in ap (λ (p : ℕ). overlaid at new p ys) same
overlaid-append at new place next (x ∷ xs) ys e = ap (λ (zs : List ℕ). byte_after at new place x ∷ zs) (overlaid-append at new (suc place) next xs ys (omega arith))

-- where new bytes lie all over a part, they are there
overlaid-whole : (at : ℕ) (new : List ℕ) (place : ℕ) (xs : List ℕ) → at ≤ place → (place - at) + length xs ≤ length new → overlaid at new place xs ≡ take (length xs) (drop (place - at) new)
overlaid-whole at new place [] h w = refl
overlaid-whole at new place (x ∷ xs) h w =
    let k = place - at in
    let here : byte_after at new place x ≡ get_or new k x = grind (arith, nat_tests) in
    let next : suc place - at ≡ k + 1 = omega arith in
    let rest : overlaid at new (suc place) xs ≡ take (length xs) (drop (k + 1) new) =
    overlaid-whole at new (suc place) xs (omega arith) (omega arith) ∙ ap (λ (j : ℕ). take (length xs) (drop j new)) next in
    rw (here, rest) (sym (ap (λ (ys : List ℕ). take (suc (length xs)) ys) (drop_more new k x (omega arith))))

-- the bytes before the first new one stay
front-stays : (at : ℕ) (new : List ℕ) (place from : ℕ) (xs : List ℕ) → from ≡ at - place → from ≤ length xs → overlaid at new place (take from xs) ≡ take from xs
front-stays at new place zero xs e h = refl
front-stays at new place (suc k) xs e h = overlaid-none at new place (take (suc k) xs) (inl (omega (arith, length-take-le (suc k) xs h)))

-- and those past the last new one
rest-stays : (at : ℕ) (new : List ℕ) (next end : ℕ) (xs : List ℕ) → (length xs ≤ end) ⊎ (length new ≤ next - at) → overlaid at new next (drop end xs) ≡ drop end xs
rest-stays at new next end xs (inl past) = let none : drop end xs ≡ [] = drop_all end xs past in rw none refl
rest-stays at new next end xs (inr past) = overlaid-none at new next (drop end xs) (inr past)

-- `count` new bytes lie in the page: the first `passed` of them stand before it, and its own first `from` bytes before them
overlaid-count : (at : ℕ) (new : List ℕ) (place from passed count : ℕ) (xs : List ℕ) → from ≡ at - place → passed ≡ place - at → from + count ≤ length xs → passed + count ≤ length new →
    (length xs ≤ from + count) ⊎ (length new ≤ passed + count) →
    take from xs ++ (take count (drop passed new) ++ drop (from + count) xs) ≡ overlaid at new place xs
overlaid-count at new place from passed count xs ef ep inside there end =
    let front = take from xs in
    let middle = take count (drop from xs) in
    let rest = drop (from + count) xs in
    let front_length : length front ≡ from = length-take-le from xs (omega arith) in
    let middle_length : length middle ≡ count = length-take-le count (drop from xs) (omega (arith, length-drop from xs)) in
    let split : xs ≡ front ++ (middle ++ rest) =
    sym (take-append-drop from xs) ∙ ap (λ (ys : List ℕ). front ++ ys) (sym (take-append-drop count (drop from xs)) ∙ ap (λ (ys : List ℕ). middle ++ ys) (drop-drop count from xs)) in
    let put : overlaid at new (place + from) middle ≡ take count (drop passed new) =
    overlaid-whole at new (place + from) middle (omega arith) (omega (arith, middle_length))
    ∙ (let skip : (place + from) - at ≡ passed = omega arith in rw (middle_length, skip) refl) in
    sym (
    ap (λ (ys : List ℕ). overlaid at new place ys) split
    ∙ overlaid-append at new place (place + from) front (middle ++ rest) (omega (arith, front_length))
    ∙ ap (λ (ys : List ℕ). ys ++ overlaid at new (place + from) (middle ++ rest)) (front-stays at new place from xs ef (omega arith))
    ∙ ap (λ (ys : List ℕ). front ++ ys) (
    overlaid-append at new (place + from) (place + from + count) middle rest (omega (arith, middle_length))
    ∙ ap (λ (ys : List ℕ). ys ++ overlaid at new (place + from + count) rest) put
    ∙ ap (λ (ys : List ℕ). take count (drop passed new) ++ ys) (rest-stays at new (place + from + count) (from + count) xs (further end))))
  where
    further : (length xs ≤ from + count) ⊎ (length new ≤ passed + count) → (length xs ≤ from + count) ⊎ (length new ≤ (place + from + count) - at)
    further (inl h) = inl h
    further (inr h) = inr (omega arith)

-- as many bytes are put as there are and as the page has room for
pub overlaid-piece : (at : ℕ) (new : List ℕ) (place from passed most : ℕ) (xs : List ℕ) → from ≡ at - place → passed ≡ place - at → from < length xs → passed < length new → most ≡ length xs - from →
    put_bytes from (take most (drop passed new)) xs ≡ overlaid at new place xs
unfolding put_bytes
overlaid-piece at new place from passed most xs ef ep inside more em = at_end (cases_lt most (length new - passed))
  where
    left : length (drop passed new) ≡ length new - passed
    left = length-drop passed new

    at_end : (most < length new - passed) ⊎ (length new - passed ≤ most) → take from xs ++ (take most (drop passed new) ++ drop (from + length (take most (drop passed new))) xs) ≡ overlaid at new place xs
    at_end (inl h) =
        let count : length (take most (drop passed new)) ≡ most = length-take-le most (drop passed new) (omega (arith, left)) in
        rw count (overlaid-count at new place from passed most xs ef ep (omega arith) (omega arith) (inl (omega arith)))
    at_end (inr h) =
        let all : take most (drop passed new) ≡ drop passed new = take_all most (drop passed new) (omega (arith, left)) in
        let count = length new - passed in
        let same : take count (drop passed new) ≡ drop passed new = take_all count (drop passed new) (omega (arith, left)) in
        rw (all, left) (ap (λ (ys : List ℕ). take from xs ++ (ys ++ drop (from + count) xs)) (sym same)
        ∙ overlaid-count at new place from passed count xs ef ep (omega arith) (omega arith) (inr (omega arith)))

-- an edit that doesn't touch a page leaves it
pub apply_edit-untouched : (n : ℕ) (edit : Edit) (page : List ℕ) → length page ≡ 4096 → touches_edit n edit ≡ false → apply_edit n edit page ≡ page
apply_edit-untouched n (Lines p kind first bytes) page size h = overlaid-none (place_of_line p kind first) bytes (4096 * n) page (outside (place_of_line p kind first) (length bytes) h)
  where
    outside : (at count : ℕ) → (nat_lt at (4096 * n + 4096) && nat_lt (4096 * n - at) count) ≡ false → (4096 * n + length page ≤ at) ⊎ (count ≤ 4096 * n - at)
    outside at count h = grind (arith, nat_tests)
apply_edit-untouched n (NoRedo p) page size h = refl
apply_edit-untouched n (Alloc p) page size h = refl
apply_edit-untouched n (Free p) page size h = refl

-- ---- an edit keeps a page's length

length-overlaid : (at : ℕ) (new : List ℕ) (place : ℕ) (xs : List ℕ) → length (overlaid at new place xs) ≡ length xs
length-overlaid at new place [] = refl
length-overlaid at new place (x ∷ xs) = ap (λ (n : ℕ). suc n) (length-overlaid at new (suc place) xs)

pub length-apply_edit : (n : ℕ) (edit : Edit) (page : List ℕ) → length (apply_edit n edit page) ≡ length page
length-apply_edit n (Lines p kind first bytes) page = length-overlaid (place_of_line p kind first) bytes (4096 * n) page
length-apply_edit n (NoRedo p) page = refl
length-apply_edit n (Alloc p) page = refl
length-apply_edit n (Free p) page = refl
