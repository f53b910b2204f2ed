-- Images one after another, and redo of one entry more.
use Rattle.std.proofs.Common.{◌≡◌, ◌<◌, ◌≤◌, ◌⊎◌, ℕ, zero, suc, true, false, if◌then◌else◌, List, [], ◌∷◌, ◌++◌, length, map, take, drop, get_or, refl, sym, ap, ◌∙◌, inl, inr, arith}
use Rattle.std.proofs.lemmas.Bool.{cases_Bool, cond-true, cond-false}
use Rattle.std.proofs.lemmas.List.{drop-append-le, length-take-le, length-map, get_or-map}
use Rattle.jfs_ranges.specs.declared.edit.Edit.{Edit}
use Rattle.jfs_recovery.specs.Face.{Face, IsFace, Item, Value, Pages, item, lined, items_after, IsClosed, redo_page, redo_item}
use Rattle.jfs_recovery.specs.Core.{Core, Done, nothing, entry, image, count}
use Rattle.jfs_recovery.specs.Sound.{window, IsSound}

-- ---- lists

pub take_one_more : (xs : List (List Edit)) (k : ℕ) → k < length xs → take (suc k) xs ≡ take k xs ++ get_or xs k [] ∷ []
take_one_more [] k h = absurd (omega arith)
take_one_more (x ∷ xs) zero h = refl
take_one_more (x ∷ xs) (suc k) h = ap (λ (ys : List (List Edit)). x ∷ ys) (take_one_more xs k (omega arith))

drop_taken : (xs : List (List Edit)) (c : ℕ) → drop c (take c xs) ≡ []
drop_taken xs zero = refl
drop_taken [] (suc c) = refl
drop_taken (x ∷ xs) (suc c) = drop_taken xs c

-- ---- images

pub closed_item : (f : Face) → IsFace f → (s : Pages) (items : Item → Value) (t : Pages) → IsClosed f s items t → (i : Item) → item f t i ≡ items i
closed_item f laws s items t h i = laws.read_back s items i (t (f.home i)) (h.maps (f.home i) (laws.at_home i))

-- a map page of an image follows from its items and other pages
pub record Follows (f : Face) (t : Pages) (p : ℕ) : Type 0 where
  pub pages : Pages
  pub items : Item → Value
  pub same_pages : (q : ℕ) → f.is_map q ≡ false → pages q ≡ t q
  pub same_items : (i : Item) → items i ≡ item f t i
  pub map : f.IsMap pages items p (t p)

closed_again : (f : Face) → IsFace f → (s : Pages) (items : Item → Value) (t : Pages) → IsClosed f s items t → (p : ℕ) → f.is_map p ≡ true → Follows f t p
closed_again f laws s items t h p e = record {
  pages = s;
  items = items;
  same_pages = λ q d. sym (h.pages q d);
  same_items = λ i. sym (closed_item f laws s items t h i);
  map = h.maps p e;
}

pub size_closed : (f : Face) → IsFace f → (s : Pages) (items : Item → Value) (t : Pages) → IsClosed f s items t → ((p : ℕ) → length (s p) ≡ 4096) → (p : ℕ) → length (t p) ≡ 4096
size_closed f laws s items t h size p = at (cases_Bool (f.is_map p))
  where
    at : (f.is_map p ≡ true) ⊎ (f.is_map p ≡ false) → length (t p) ≡ 4096
    at (inl e) = laws.size_map s items p (t p) (h.maps p e)
    at (inr e) = ap (λ (a : List ℕ). length a) (h.pages p e) ∙ size p

pub size_image : (f : Face) → IsFace f → (core : Core) → IsSound f core → (k : ℕ) → k ≤ count core → (p : ℕ) → length (image core k p) ≡ 4096
size_image f laws core kept zero h p = kept.sizes p
size_image f laws core kept (suc k) h p =
    size_closed f laws (lined f (image core k) (entry core k)) (items_after f (image core k) (entry core k)) (image core (suc k)) (kept.follows k (omega arith))
    (λ q. laws.size_lines (entry core k) q (image core k q) (size_image f laws core kept k (omega arith) q)) p

pub canonical_image : (f : Face) → IsFace f → (core : Core) → IsSound f core → (k : ℕ) → k ≤ count core → (p : ℕ) → f.is_map p ≡ true → Follows f (image core k) p
canonical_image f laws core kept zero h p e = record { pages = core.mounted; items = item f core.mounted; same_pages = λ q d. refl; same_items = λ i. refl; map = kept.canonical p e }
canonical_image f laws core kept (suc k) h p e =
    closed_again f laws (lined f (image core k) (entry core k)) (items_after f (image core k) (entry core k)) (image core (suc k)) (kept.follows k (omega arith)) p e

pub item_next : (f : Face) → IsFace f → (core : Core) → IsSound f core → (i : Item) (k : ℕ) → k < count core → item f (image core (suc k)) i ≡ f.sets (entry core k) i (item f (image core k) i)
item_next f laws core kept i k l = closed_item f laws (lined f (image core k) (entry core k)) (items_after f (image core k) (entry core k)) (image core (suc k)) (kept.follows k l) i

abbrev txs : Core → List (List Edit)
txs core = map (λ (d : Done). d.tx) core.history

size_txs : (core : Core) → length (txs core) ≡ count core
size_txs core = length-map core.history (λ (d : Done). d.tx)

tx_at : (core : Core) (k : ℕ) → k < count core → get_or (txs core) k [] ≡ entry core k
tx_at core k h = get_or-map (λ (d : Done). d.tx) core.history k nothing [] h

-- ---- redo of one entry more

pub window_empty : (core : Core) (c : ℕ) → window core c c ≡ []
window_empty core c = drop_taken (txs core) c

pub window_next : (core : Core) (c n : ℕ) → c ≤ n → n < count core → window core c (suc n) ≡ window core c n ++ entry core n ∷ []
window_next core c n h w =
    ap (λ (xs : List (List Edit)). drop c xs) (take_one_more (txs core) n (omega (arith, size_txs core)) ∙ ap (λ (x : List Edit). take n (txs core) ++ x ∷ []) (tx_at core n w))
    ∙ drop-append-le c (take n (txs core)) (entry core n ∷ []) (omega (arith, length-take-le n (txs core) (omega (arith, size_txs core))))

redo_page-append : (f : Face) (p : ℕ) (left : List ℕ) (xs : List (List Edit)) (tx : List Edit) (now : List ℕ) →
    redo_page f p left now (xs ++ tx ∷ []) ≡ f.redoes tx p (if f.closes tx p then left else redo_page f p left now xs)
unfolding redo_page
redo_page-append f p left [] tx now = refl
redo_page-append f p left (x ∷ xs) tx now = redo_page-append f p left xs tx (f.redoes x p (if f.closes x p then left else now))

pub size_redo : (f : Face) → IsFace f → (p : ℕ) (left : List ℕ) → length left ≡ 4096 → (xs : List (List Edit)) (now : List ℕ) → length now ≡ 4096 → length (redo_page f p left now xs) ≡ 4096
unfolding redo_page
size_redo f laws p left size [] now h = h
size_redo f laws p left size (x ∷ xs) now h =
    size_redo f laws p left size xs (f.redoes x p (if f.closes x p then left else now)) (laws.size_redoes x p (if f.closes x p then left else now) (at (cases_Bool (f.closes x p))))
  where
    at : (f.closes x p ≡ true) ⊎ (f.closes x p ≡ false) → length (if f.closes x p then left else now) ≡ 4096
    at (inl e) = ap (λ (a : List ℕ). length a) (cond-true (f.closes x p) left now e) ∙ size
    at (inr e) = ap (λ (a : List ℕ). length a) (cond-false (f.closes x p) left now e) ∙ h

pub redo_none : (f : Face) (core : Core) (p c : ℕ) (left : List ℕ) → redo_page f p left left (window core c c) ≡ left
unfolding redo_page
redo_none f core p c left = ap (λ (xs : List (List Edit)). redo_page f p left left xs) (window_empty core c)

pub redo_next : (f : Face) (core : Core) (p c n : ℕ) (left : List ℕ) → c ≤ n → n < count core →
    let tx = entry core n in
    redo_page f p left left (window core c (suc n)) ≡ f.redoes tx p (if f.closes tx p then left else redo_page f p left left (window core c n))
redo_next f core p c n left h w =
    ap (λ (xs : List (List Edit)). redo_page f p left left xs) (window_next core c n h w) ∙ redo_page-append f p left (window core c n) (entry core n) left

redo_item-append : (f : Face) (i : Item) (xs : List (List Edit)) (tx : List Edit) (now : Value) → redo_item f i now (xs ++ tx ∷ []) ≡ f.sets tx i (redo_item f i now xs)
unfolding redo_item
redo_item-append f i [] tx now = refl
redo_item-append f i (x ∷ xs) tx now = redo_item-append f i xs tx (f.sets x i now)

pub redo_item_none : (f : Face) (core : Core) (i : Item) (c : ℕ) (x : Value) → redo_item f i x (window core c c) ≡ x
unfolding redo_item
redo_item_none f core i c x = ap (λ (xs : List (List Edit)). redo_item f i x xs) (window_empty core c)

pub redo_item_next : (f : Face) (core : Core) (i : Item) (c n : ℕ) (x : Value) → c ≤ n → n < count core →
    redo_item f i x (window core c (suc n)) ≡ f.sets (entry core n) i (redo_item f i x (window core c n))
redo_item_next f core i c n x h w =
    ap (λ (xs : List (List Edit)). redo_item f i x xs) (window_next core c n h w) ∙ redo_item-append f i (window core c n) (entry core n) x
