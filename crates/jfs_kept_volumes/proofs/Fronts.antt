-- Events that two halves have of the same volume, and fronts of them.
use Rattle.std.proofs.Common.{◌≡◌, ◌≤◌, ◌<◌, ◌+◌, ℕ, suc, List, [], ◌∷◌, ◌++◌, length, drop, get_or, refl, sym, ap, ◌∙◌, arith}
use Rattle.jfs_commits_held.specs.volume_calls.specs.halves.specs.Entry.{Happened}
use Rattle.jfs_log_window.specs.Events.{Event, Entered, Pointed, entries_in, count, points_in, points_from}

-- each sync count is that of the entries before it at least
least : (n d : ℕ) (es : List Event) → 0 < length (points_from n es) → n ≤ get_or (points_from n es) 0 d
least n d [] some = absurd (omega (arith, some))
least n d (Entered h ∷ es) some = let more = least (suc n) d es some in omega (arith, more)
least n d (Pointed ∷ es) some = omega arith

-- So a SYNCPT isn't where an entry joined.
apart : {A : Type 0} (n : ℕ) (points : List ℕ) (es : List Event) → n ∷ points ≡ points_from (suc n) es → A
apart n points es e = absurd (
    let some = ap (λ (l : List ℕ). length l) e in
    let low = least (suc n) 0 es (omega (arith, some)) in
    let first = ap (λ (l : List ℕ). get_or l 0 0) e in
    omega (arith, low, first))

-- the entries and the sync counts say what happened in which order
pub same_events : (n : ℕ) (es fs : List Event) → entries_in es ≡ entries_in fs → points_from n es ≡ points_from n fs → es ≡ fs
same_events n [] [] entries points = refl
same_events n [] (Entered h ∷ fs) entries points = absurd (let e = ap (λ (l : List Happened). length l) entries in omega (arith, e))
same_events n [] (Pointed ∷ fs) entries points = absurd (let e = ap (λ (l : List ℕ). length l) points in omega (arith, e))
same_events n (Entered h ∷ es) [] entries points = absurd (let e = ap (λ (l : List Happened). length l) entries in omega (arith, e))
same_events n (Pointed ∷ es) [] entries points = absurd (let e = ap (λ (l : List ℕ). length l) points in omega (arith, e))
same_events n (Entered h ∷ es) (Entered k ∷ fs) entries points =
    let first : h ≡ k = ap (λ (l : List Happened). get_or l 0 h) entries in
    ap (λ (x : Happened). Entered x ∷ es) first ∙ ap (λ (l : List Event). Entered k ∷ l) (same_events (suc n) es fs (ap (λ (l : List Happened). drop 1 l) entries) points)
same_events n (Entered h ∷ es) (Pointed ∷ fs) entries points = apart n (points_from n fs) es (sym points)
same_events n (Pointed ∷ es) (Entered k ∷ fs) entries points = apart n (points_from n es) fs points
same_events n (Pointed ∷ es) (Pointed ∷ fs) entries points = ap (λ (l : List Event). Pointed ∷ l) (same_events n es fs entries (ap (λ (l : List ℕ). drop 1 l) points))

pub length-events : (es : List Event) → length es ≡ count es + points_in es
length-events [] = refl
length-events (Entered h ∷ es) = let more = length-events es in omega (arith, more)
length-events (Pointed ∷ es) = let more = length-events es in omega (arith, more)

-- of two fronts of one list, the longer one begins with the other
pub longer_front : (xs ys zs rest : List Event) → xs ++ ys ≡ zs ++ rest → length xs ≤ length zs → zs ≡ xs ++ drop (length xs) zs
longer_front [] ys zs rest e low = refl
longer_front (x ∷ xs) ys [] rest e low = absurd (omega (arith, low))
longer_front (x ∷ xs) ys (z ∷ zs) rest e low =
    let first : z ≡ x = sym (ap (λ (l : List Event). get_or l 0 x) e) in
    ap (λ (a : Event). a ∷ zs) first ∙ ap (λ (l : List Event). x ∷ l) (longer_front xs ys zs rest (ap (λ (l : List Event). drop 1 l) e) (omega (arith, low)))
