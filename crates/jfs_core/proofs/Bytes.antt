-- What entries do to a byte of the image.
use Rattle.std.proofs.Common.{◌≡◌, ◌<◌, ◌≤◌, ◌⊎◌, ◌+◌, ◌-◌, ◌*◌, ℕ, zero, suc, false, nat_le, List, [], ◌∷◌, ◌++◌, length, take, drop, get_or, refl, sym, ap, ◌∙◌, inl, inr, arith}
use Rattle.std.proofs.lemmas.Bool.{cases_lt, cond-true, cond-false, le-leb, lt-leb, or_parts}
use Rattle.std.proofs.lemmas.List.{get_or_default, get_or_past, take-take, take-append-drop, drop-append-le, length-take-le}
use Rattle.jfs_disk.specs.Image.{Image, page_of}
use Rattle.jfs_ranges.specs.declared.edit.Edit.{Edit}
use Rattle.jfs_ranges.specs.declared.edit.Edit.TheVariants.{Lines, NoRedo, Alloc, Free}
use Rattle.jfs_ranges.specs.Apply.{place_of_line, byte_after, overlaid, apply_edit, apply_tx, touches_edit, touches_tx}
use Rattle.jfs_ranges.proofs.Overlaid.{apply_edit-untouched}
use Rattle.jfs_core.specs.declared.entry.Entry.{Entry}
use Rattle.jfs_core.specs.Image.{History, pages_after, image_step, pages_changed, image_after, page_after}

-- ---- pages

pub length-overlaid : (at : ℕ) (new : List ℕ) (place : ℕ) (xs : List ℕ) → length (overlaid at new place xs) ≡ length xs
length-overlaid at new place [] = refl
length-overlaid at new place (x ∷ xs) = ap (λ (n : ℕ). suc n) (length-overlaid at new (suc place) xs)

length-apply_edit : (n : ℕ) (edit : Edit) (page : List ℕ) → length (apply_edit n edit page) ≡ length page
length-apply_edit n (Lines p kind first bytes) page = length-overlaid (place_of_line p kind first) bytes (4096 * n) page
length-apply_edit n (NoRedo p) page = refl
length-apply_edit n (Alloc p) page = refl
length-apply_edit n (Free p) page = refl

pub length-apply_tx : (n : ℕ) (tx : List Edit) (page : List ℕ) → length (apply_tx n tx page) ≡ length page
length-apply_tx n [] page = refl
length-apply_tx n (edit ∷ edits) page = length-apply_tx n edits (apply_edit n edit page) ∙ length-apply_edit n edit page

pub apply_tx-untouched : (n : ℕ) (tx : List Edit) (page : List ℕ) → length page ≡ 4096 → touches_tx n tx ≡ false → apply_tx n tx page ≡ page
apply_tx-untouched n [] page size h = refl
apply_tx-untouched n (edit ∷ edits) page size h =
    let parts = or_parts (touches_edit n edit) (touches_tx n edits) h in
    let here : apply_edit n edit page ≡ page = apply_edit-untouched n edit page size parts.0 in
    ap (λ (p : List ℕ). apply_tx n edits p) here ∙ apply_tx-untouched n edits page size parts.1

-- ---- images

pub length-pages_after : (n : ℕ) (tx : List Edit) (image : Image) → length (pages_after n tx image) ≡ length image
length-pages_after n tx [] = refl
length-pages_after n tx (page ∷ pages) = ap (λ (k : ℕ). suc k) (length-pages_after (suc n) tx pages)

pub page_of-pages_after : (n : ℕ) (tx : List Edit) (image : Image) (p : ℕ) → p < length image → page_of (pages_after n tx image) p ≡ apply_tx (n + p) tx (page_of image p)
page_of-pages_after n tx [] p h = absurd (omega arith)
page_of-pages_after n tx (page ∷ pages) zero h = let e : n + 0 ≡ n = omega arith in rw e refl
page_of-pages_after n tx (page ∷ pages) (suc p) h =
    let e : n + suc p ≡ suc n + p = omega arith in
    rw e (page_of-pages_after (suc n) tx pages p (omega arith))

pub length-image_step : (image : Image) (entry : Entry) → length (image_step image entry) ≡ length image
length-image_step image entry = length-pages_after 0 entry.tx image

-- a page that an entry doesn't change stays
pub page_of-image_step : (image : Image) (entry : Entry) (p : ℕ) → p < length image → length (page_of image p) ≡ 4096 → pages_changed image entry p ≡ false → page_of (image_step image entry) p ≡ page_of image p
page_of-image_step image entry p h size same =
    let place : 0 + p ≡ p = omega arith in
    page_of-pages_after 0 entry.tx image p h
    ∙ ap (λ (q : ℕ). apply_tx q entry.tx (page_of image p)) place
    ∙ apply_tx-untouched p entry.tx (page_of image p) size same

pub length-image_after : (entries : History) (image : Image) → length (image_after entries image) ≡ length image
length-image_after [] image = refl
length-image_after (entry ∷ entries) image = length-image_after entries (image_step image entry) ∙ length-image_step image entry

pub image_after-append : (xs ys : History) (image : Image) → image_after (xs ++ ys) image ≡ image_after ys (image_after xs image)
image_after-append [] ys image = refl
image_after-append (x ∷ xs) ys image = image_after-append xs ys (image_step image x)

pub page_of-image_after : (entries : History) (image : Image) (p : ℕ) → p < length image → page_of (image_after entries image) p ≡ page_after p entries (page_of image p)
page_of-image_after [] image p h = refl
page_of-image_after (entry ∷ entries) image p h =
    let e : 0 + p ≡ p = omega arith in
    page_of-image_after entries (image_step image entry) p (omega (arith, length-image_step image entry))
    ∙ ap (λ (page : List ℕ). page_after p entries page) (page_of-pages_after 0 entry.tx image p h ∙ ap (λ (n : ℕ). apply_tx n entry.tx (page_of image p)) e)

pub page_after-append : (p : ℕ) (xs ys : History) (page : List ℕ) → page_after p (xs ++ ys) page ≡ page_after p ys (page_after p xs page)
page_after-append p [] ys page = refl
page_after-append p (x ∷ xs) ys page = page_after-append p xs ys (apply_tx p x.tx page)

pub length-page_after : (p : ℕ) (entries : History) (page : List ℕ) → length (page_after p entries page) ≡ length page
length-page_after p [] page = refl
length-page_after p (entry ∷ entries) page = length-page_after p entries (apply_tx p entry.tx page) ∙ length-apply_tx p entry.tx page

-- ---- bytes

-- the byte at a place after an edit, a transaction, entries
byte_edit : ℕ → Edit → ℕ → ℕ
byte_edit place (Lines p kind first bytes) old = byte_after (place_of_line p kind first) bytes place old
byte_edit place (NoRedo p) old = old
byte_edit place (Alloc p) old = old
byte_edit place (Free p) old = old

byte_tx : ℕ → List Edit → ℕ → ℕ
byte_tx place [] old = old
byte_tx place (edit ∷ edits) old = byte_tx place edits (byte_edit place edit old)

pub byte_all : ℕ → History → ℕ → ℕ
byte_all place [] old = old
byte_all place (entry ∷ entries) old = byte_all place entries (byte_tx place entry.tx old)

get_or-overlaid : (at : ℕ) (new : List ℕ) (place : ℕ) (xs : List ℕ) (i : ℕ) → i < length xs → get_or (overlaid at new place xs) i 0 ≡ byte_after at new (place + i) (get_or xs i 0)
get_or-overlaid at new place [] i h = absurd (omega arith)
get_or-overlaid at new place (x ∷ xs) zero h = let e : place + 0 ≡ place = omega arith in rw e refl
get_or-overlaid at new place (x ∷ xs) (suc i) h =
    let e : place + suc i ≡ suc place + i = omega arith in
    rw e (get_or-overlaid at new (suc place) xs i (omega arith))

get_or-apply_edit : (n : ℕ) (edit : Edit) (page : List ℕ) (i : ℕ) → i < length page → get_or (apply_edit n edit page) i 0 ≡ byte_edit (4096 * n + i) edit (get_or page i 0)
unfolding byte_edit
get_or-apply_edit n (Lines p kind first bytes) page i h = get_or-overlaid (place_of_line p kind first) bytes (4096 * n) page i h
get_or-apply_edit n (NoRedo p) page i h = refl
get_or-apply_edit n (Alloc p) page i h = refl
get_or-apply_edit n (Free p) page i h = refl

get_or-apply_tx : (n : ℕ) (tx : List Edit) (page : List ℕ) (i : ℕ) → i < length page → get_or (apply_tx n tx page) i 0 ≡ byte_tx (4096 * n + i) tx (get_or page i 0)
unfolding byte_tx
get_or-apply_tx n [] page i h = refl
get_or-apply_tx n (edit ∷ edits) page i h =
    get_or-apply_tx n edits (apply_edit n edit page) i (omega (arith, length-apply_edit n edit page))
    ∙ ap (λ (b : ℕ). byte_tx (4096 * n + i) edits b) (get_or-apply_edit n edit page i h)

pub get_or-page_after : (p : ℕ) (entries : History) (page : List ℕ) (i : ℕ) → i < length page → get_or (page_after p entries page) i 0 ≡ byte_all (4096 * p + i) entries (get_or page i 0)
unfolding byte_all
get_or-page_after p [] page i h = refl
get_or-page_after p (entry ∷ entries) page i h =
    get_or-page_after p entries (apply_tx p entry.tx page) i (omega (arith, length-apply_tx p entry.tx page))
    ∙ ap (λ (b : ℕ). byte_all (4096 * p + i) entries b) (get_or-apply_tx p entry.tx page i h)

-- ---- an edit covers a byte, or passes it

abbrev pub CoversOrPasses : (ℕ → ℕ) → Type 0
CoversOrPasses f = ((x y : ℕ) → f x ≡ f y) ⊎ ((x : ℕ) → f x ≡ x)

both : (f g : ℕ → ℕ) → CoversOrPasses f → CoversOrPasses g → CoversOrPasses (λ x. g (f x))
both f g one (inl covers) = inl (λ x y. covers (f x) (f y))
both f g (inl covers) (inr passes) = inl (λ x y. passes (f x) ∙ covers x y ∙ sym (passes (f y)))
both f g (inr first) (inr passes) = inr (λ x. passes (f x) ∙ first x)

after_cases : (at : ℕ) (new : List ℕ) (place : ℕ) → CoversOrPasses (byte_after at new place)
after_cases at new place = within (cases_lt place at)
  where
    inside : at ≤ place → (place - at < length new) ⊎ (length new ≤ place - at) → CoversOrPasses (byte_after at new place)
    inside h (inl l) = inl (λ x y. cond-true (nat_le at place) (get_or new (place - at) x) x (le-leb at place h) ∙ get_or_default new (place - at) x y l ∙ sym (cond-true (nat_le at place) (get_or new (place - at) y) y (le-leb at place h)))
    inside h (inr l) = inr (λ x. cond-true (nat_le at place) (get_or new (place - at) x) x (le-leb at place h) ∙ get_or_past new (place - at) x l)

    within : (place < at) ⊎ (at ≤ place) → CoversOrPasses (byte_after at new place)
    within (inl l) = inr (λ x. cond-false (nat_le at place) (get_or new (place - at) x) x (lt-leb at place l))
    within (inr l) = inside l (cases_lt (place - at) (length new))

edit_cases : (place : ℕ) (edit : Edit) → CoversOrPasses (byte_edit place edit)
unfolding byte_edit
edit_cases place (Lines p kind first bytes) = after_cases (place_of_line p kind first) bytes place
edit_cases place (NoRedo p) = inr (λ x. refl)
edit_cases place (Alloc p) = inr (λ x. refl)
edit_cases place (Free p) = inr (λ x. refl)

tx_cases : (place : ℕ) (tx : List Edit) → CoversOrPasses (byte_tx place tx)
unfolding byte_tx
tx_cases place [] = inr (λ x. refl)
tx_cases place (edit ∷ edits) = both (byte_edit place edit) (byte_tx place edits) (edit_cases place edit) (tx_cases place edits)

pub all_cases : (place : ℕ) (entries : History) → CoversOrPasses (byte_all place entries)
unfolding byte_all
all_cases place [] = inr (λ x. refl)
all_cases place (entry ∷ entries) = both (byte_tx place entry.tx) (byte_all place entries) (tx_cases place entry.tx) (all_cases place entries)

pub byte_all-append : (place : ℕ) (xs ys : History) (old : ℕ) → byte_all place (xs ++ ys) old ≡ byte_all place ys (byte_all place xs old)
unfolding byte_all
byte_all-append place [] ys old = refl
byte_all-append place (x ∷ xs) ys old = byte_all-append place xs ys (byte_tx place x.tx old)

-- ---- redo of a byte

-- From the value after `mid`, the entries that led there and those that follow give the value after all of them.
pub redo_byte : (place : ℕ) (front mid last : History) (first : ℕ) →
    let there = byte_all place mid (byte_all place front first) in
    byte_all place last (byte_all place mid there) ≡ byte_all place last there
redo_byte place front mid last first = at (all_cases place mid)
  where
    at : CoversOrPasses (byte_all place mid) → byte_all place last (byte_all place mid (byte_all place mid (byte_all place front first))) ≡ byte_all place last (byte_all place mid (byte_all place front first))
    at (inl covers) = ap (λ (b : ℕ). byte_all place last b) (covers (byte_all place mid (byte_all place front first)) (byte_all place front first))
    at (inr passes) = ap (λ (b : ℕ). byte_all place last b) (passes (byte_all place mid (byte_all place front first)))

pub take_split : (k n : ℕ) (entries : History) → k ≤ n → take n entries ≡ take k entries ++ drop k (take n entries)
take_split k n entries h = sym (take-append-drop k (take n entries)) ∙ ap (λ (xs : History). xs ++ drop k (take n entries)) (take-take k n entries h)

pub drop_split : (c k n : ℕ) (entries : History) → c ≤ k → k ≤ n → n ≤ length entries → drop c (take n entries) ≡ drop c (take k entries) ++ drop k (take n entries)
drop_split c k n entries ck kn within =
    ap (λ (xs : History). drop c xs) (take_split k n entries kn) ∙ drop-append-le c (take k entries) (drop k (take n entries)) (omega (arith, length-take-le k entries (omega arith)))
