-- The contents of a page in memory.
use Rattle.std.proofs.Common.{◌≡◌, ◌≤◌, ◌<◌, ◌-◌, ℕ, suc, List, [], ◌∷◌, ◌++◌, length, get_or, sym, ap, ◌∙◌, ◌⊎◌, inl, inr, arith, Box}
use Rattle.std.specs.Global.{Global}
use Rattle.std.proofs.lemmas.List.{length-append, length-map, get_or_append_left, get_or_push, get_or-map, map-append}
use Rattle.std.proofs.lemmas.Bool.{cases_lt}
use Rattle.jfs_disk.specs.Pages.{boxed_contents, content_in}
use Rattle.jfs_disk.specs.declared.page.Page.{Page}

-- each content has 4,096 bytes
abbrev pub AreSized : Box Page Global → List (Box Page Global) → Type 0
AreSized stable writes = (k : ℕ) → k ≤ length writes → length (content_in stable writes k) ≡ 4096

-- nothing pending
pub AreSized-none : (stable : Box Page Global) (writes : List (Box Page Global)) → writes ≡ [] → length stable.value.0 ≡ 4096 → AreSized stable writes
AreSized-none stable writes e size k h =
    let none : k ≡ 0 = omega (arith, ap (λ (ws : List (Box Page Global)). length ws) e) in
    ap (λ (n : ℕ). length (content_in stable writes n)) none ∙ size

-- one more write
pub AreSized-push : (stable : Box Page Global) (writes more : List (Box Page Global)) (page : Box Page Global) → AreSized stable writes → more ≡ writes ++ page ∷ [] → length page.value.0 ≡ 4096 → AreSized stable more
AreSized-push stable writes more page sized e size k h = by-place (cases_lt k (suc (length writes)))
  where
    bytes : boxed_contents more ≡ boxed_contents writes ++ page.value.0 ∷ []
    bytes = ap boxed_contents e ∙ map-append (λ (p : Box Page Global). p.value.0) writes (page ∷ [])

    long : length (boxed_contents writes) ≡ length writes
    long = length-map writes (λ (p : Box Page Global). p.value.0)

    total : length more ≡ suc (length writes)
    total = ap (λ (ws : List (Box Page Global)). length ws) e ∙ omega (arith, length-append writes (page ∷ []))

    content : content_in stable more k ≡ get_or ((stable.value.0 ∷ boxed_contents writes) ++ page.value.0 ∷ []) k []
    content = ap (λ (ws : List (List ℕ)). get_or (stable.value.0 ∷ ws) k []) bytes

    by-place : (k < suc (length writes)) ⊎ (suc (length writes) ≤ k) → length (content_in stable more k) ≡ 4096
    by-place (inl before) =
        ap (λ (b : List ℕ). length b) (content ∙ get_or_append_left (stable.value.0 ∷ boxed_contents writes) (page.value.0 ∷ []) [] k (omega (arith, long)))
        ∙ sized k (omega arith)
    by-place (inr after) =
        ap (λ (b : List ℕ). length b) (content ∙ get_or_push (stable.value.0 ∷ boxed_contents writes) page.value.0 [] k (omega (arith, long, total)))
        ∙ size

-- the write that a read gives
pub content_in-write : (stable : Box Page Global) (writes : List (Box Page Global)) (shown : ℕ) (page : Box Page Global) → 0 < shown → shown ≤ length writes → page ≡ get_or writes (shown - 1) page → content_in stable writes shown ≡ page.value.0
content_in-write stable writes shown page positive h e =
    let next : shown ≡ suc (shown - 1) = omega arith in
    ap (λ (k : ℕ). content_in stable writes k) next
    ∙ get_or-map (λ (p : Box Page Global). p.value.0) writes (shown - 1) page [] (omega arith)
    ∙ ap (λ (p : Box Page Global). p.value.0) (sym e)
