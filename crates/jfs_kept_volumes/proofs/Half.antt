-- Texts that keep within half the ring.
use Rattle.std.proofs.Common.{◌≡◌, ◌≤◌, ◌+◌, ◌/◌, ℕ, List, [], ◌∷◌, ◌++◌, refl, ap, ◌∙◌, subst, inl, inr, append_assoc, arith}
use Rattle.std.specs.List.{AllByRecursion}
use Rattle.jfs_logpages.specs.Group.{pages_of}
use Rattle.jfs_commits_held.specs.volume_calls.specs.records.specs.Entries.{Item, entry, point, item_size, text_size}
use Rattle.jfs_commits_held.specs.volume_calls.specs.records.proofs.ReadBack.{text_size-append}
use Rattle.jfs_log_window.specs.Window.{IsOfEntry}
use Rattle.jfs_kept_volumes.specs.Rest.{since, KeepsHalf}
use Rattle.jfs_kept_volumes.specs.Logs.{IsGroup}

-- ---- entries behind a text

pub since-entries : (n : ℕ) (is ws : List Item) → AllByRecursion IsOfEntry ws → since n (is ++ ws) ≡ since n is + text_size ws
since-entries n [] [] all = omega arith
since-entries n [] (entry tid tx ∷ ws) all = let more = since-entries (n + item_size (entry tid tx)) [] ws all.1 in omega (arith, more)
since-entries n [] (point sync ∷ ws) all = absurd all.0
since-entries n (entry tid tx ∷ is) ws all = since-entries (n + item_size (entry tid tx)) is ws all
since-entries n (point sync ∷ is) ws all = since-entries 36 is ws all

keep : (ring n : ℕ) (ws : List Item) → AllByRecursion IsOfEntry ws → pages_of (n + text_size ws + 36) ≤ ring / 2 → KeepsHalf ring n ws
keep ring n [] all room = omega (arith, room)
keep ring n (entry tid tx ∷ ws) all room = keep ring (n + item_size (entry tid tx)) ws all.1 (omega (arith, room))
keep ring n (point sync ∷ ws) all room = absurd all.0

pub keeps-entries : (ring n : ℕ) (is ws : List Item) → KeepsHalf ring n is → AllByRecursion IsOfEntry ws → pages_of (since n is + text_size ws + 36) ≤ ring / 2 → KeepsHalf ring n (is ++ ws)
keeps-entries ring n [] ws keeps all room = keep ring n ws all room
keeps-entries ring n (entry tid tx ∷ is) ws keeps all room = keeps-entries ring (n + item_size (entry tid tx)) is ws keeps all room
keeps-entries ring n (point sync ∷ is) ws keeps all room = (keeps.0, keeps-entries ring 36 is ws keeps.1 all room)

-- a SYNCPT behind a text
pub keeps-point : (ring n sync : ℕ) (is : List Item) → 4 ≤ ring → KeepsHalf ring n is → KeepsHalf ring n (is ++ point sync ∷ [])
keeps-point ring n sync [] some keeps = (keeps, omega (arith, some))
keeps-point ring n sync (entry tid tx ∷ is) some keeps = keeps-point ring (n + item_size (entry tid tx)) sync is some keeps
keeps-point ring n sync (point other ∷ is) some keeps = (keeps.0, keeps-point ring 36 sync is some keeps.1)

pub since-point : (n sync : ℕ) (is : List Item) → since n (is ++ point sync ∷ []) ≡ 36
since-point n sync [] = refl
since-point n sync (entry tid tx ∷ is) = since-point (n + item_size (entry tid tx)) sync is
since-point n sync (point other ∷ is) = since-point 36 sync is

-- ---- parts of a text

start : (ring n : ℕ) (is : List Item) → KeepsHalf ring n is → pages_of (n + 36) ≤ ring / 2
start ring n [] keeps = keeps
start ring n (entry tid tx ∷ is) keeps = let more = start ring (n + item_size (entry tid tx)) is keeps in omega (arith, more)
start ring n (point sync ∷ is) keeps = keeps.0

pub keeps-front : (ring n : ℕ) (is js : List Item) → KeepsHalf ring n (is ++ js) → KeepsHalf ring n is
keeps-front ring n [] js keeps = start ring n js keeps
keeps-front ring n (entry tid tx ∷ is) js keeps = keeps-front ring (n + item_size (entry tid tx)) is js keeps
keeps-front ring n (point sync ∷ is) js keeps = (keeps.0, keeps-front ring 36 is js keeps.1)

keeps-rest : (ring n : ℕ) (is js : List Item) → KeepsHalf ring n (is ++ js) → KeepsHalf ring (since n is) js
keeps-rest ring n [] js keeps = keeps
keeps-rest ring n (entry tid tx ∷ is) js keeps = keeps-rest ring (n + item_size (entry tid tx)) is js keeps
keeps-rest ring n (point sync ∷ is) js keeps = keeps-rest ring 36 is js keeps.1

keeps-behind : (ring n : ℕ) (es js : List Item) → AllByRecursion IsOfEntry es → KeepsHalf ring n (es ++ js) → KeepsHalf ring (n + text_size es) js
keeps-behind ring n es js all keeps = subst (λ (k : ℕ). KeepsHalf ring k js) (since-entries n [] es all) (keeps-rest ring n es js keeps)

ends : (ring n : ℕ) (es : List Item) → AllByRecursion IsOfEntry es → KeepsHalf ring n es → pages_of (n + text_size es + 36) ≤ ring / 2
ends ring n [] all keeps = omega (arith, keeps)
ends ring n (entry tid tx ∷ es) all keeps = let more = ends ring (n + item_size (entry tid tx)) es all.1 keeps in omega (arith, more)
ends ring n (point sync ∷ es) all keeps = absurd all.0

-- ---- a group behind what is stable

group_fits : (ring n : ℕ) (post group : List Item) → AllByRecursion IsOfEntry post → IsGroup group → KeepsHalf ring n (post ++ group) → pages_of (n + text_size post + text_size group) ≤ ring / 2
group_fits ring n post group all (inl entries) keeps = let room = ends ring (n + text_size post) group entries (keeps-behind ring n post group all keeps) in omega (arith, room)
group_fits ring n post group all (inr (front, entries, is)) keeps =
    let room = (keeps-behind ring (n + text_size post) front (point 0 ∷ []) entries (subst (λ (g : List Item). KeepsHalf ring (n + text_size post) g) is (keeps-behind ring n post group all keeps))).0 in
    let size = ap text_size is ∙ text_size-append front (point 0 ∷ []) in
    omega (arith, room, size)

pub half_fits : (ring : ℕ) (is group pre post : List Item) → KeepsHalf ring 0 (is ++ group) → IsGroup group → is ≡ pre ++ point 0 ∷ post → AllByRecursion IsOfEntry post → pages_of (text_size (point 0 ∷ post) + text_size group) ≤ ring / 2
half_fits ring is group pre post keeps one e all =
    let split : (pre ++ point 0 ∷ post) ++ group ≡ pre ++ (point 0 ∷ (post ++ group)) = append_assoc pre (point 0 ∷ post) group in
    let rest = keeps-rest ring 0 pre (point 0 ∷ (post ++ group)) (subst (λ (l : List Item). KeepsHalf ring 0 l) split (subst (λ (l : List Item). KeepsHalf ring 0 (l ++ group)) e keeps)) in
    let room = group_fits ring 36 post group all one rest.1 in
    omega (arith, room)
