-- Canonical pages are the same where what the maps keep is, and the pages of inodes.
use Rattle.std.proofs.Common.{◌≡◌, ◌⊎◌, ◌<◌, ◌≤◌, ◌+◌, ◌*◌, ◌/◌, ◌%◌, ◌&&◌, ◌||◌, ◌==◌, not, nat_lt, ℕ, zero, suc, Bool, true, false, true≢false, List, Option, Some, None, refl, sym, ap, ◌∙◌, subst, inl, inr, arith}
use Rattle.std.proofs.lemmas.Bool.{cases_Bool, cases_lt, or_cases, and_from, lt-ltb, eqb-true}
use Rattle.jfs_bits.specs.Bits.{any_below}
use Rattle.jfs_bits.specs.declared.descriptor.Pxd.{Pxd}
use Rattle.jfs_bits.proofs.Buds.{any_below-from, any_below-at}
use Rattle.jfs_iag.specs.declared.canonical.Links.{Links}
use Rattle.jfs_iag.specs.Laws.{AreSame}
use Rattle.jfs_iag.specs.Canonical.{IsPrevious, AreNeighbors, AreLinks, in_inode_list, in_place_list, IsIagPage}
use Rattle.jfs_iag.proofs.Agreed.{inodes-listed, places-listed, next-same, iags-same, controls-same}
use Rattle.jfs_steps.specs.bmap.specs.MapFile.{pages_of, is_in_use}
use Rattle.jfs_steps.specs.bmap.proofs.Agreed.{map-pages-same}
use Rattle.jfs_steps.specs.objects.specs.Volume.{page_in, slot_of}
use Rattle.jfs_steps.specs.objects.specs.Objects.{is_live}
use Rattle.jfs_steps.specs.objects.specs.Owners.{extent_has}
use Rattle.jfs_steps.specs.objects.specs.Image.{extent_place}
use Rattle.jfs_steps.specs.objects.proofs.Homes.{has_it}
use Rattle.jfs_recovery.specs.Face.{Item, Value, Pages}
use Rattle.jfs_recovery.specs.Face.Item.{BlockBit, ExtentPlace}
use Rattle.jfs_face.specs.Places.{Places, is_block_page, is_inode_page, is_map_page}
use Rattle.jfs_face.specs.Items.{places, place_of, bit_of, extent_by}
use Rattle.jfs_face.specs.MapPages.{taken_by, home_by, is_used_on, inode_used_by, has_inodes, IsInodeMapPage, IsCanonicalPage}

-- ---- list words

previous_same : (listed others : ℕ → Bool) (count before a b : ℕ) → before ≤ count → ((k : ℕ) → k < count → listed k ≡ others k) → IsPrevious listed before a → IsPrevious others before b → a ≡ b
previous_same listed others count before a b within same (inl x) (inl y) = x.0 ∙ sym y.0
previous_same listed others count before a b within same (inl x) (inr y) = absurd (true≢false (sym y.1 ∙ sym (same b (omega (arith, y.0, within))) ∙ x.1 b y.0))
previous_same listed others count before a b within same (inr x) (inl y) = absurd (true≢false (sym x.1 ∙ same a (omega (arith, x.0, within)) ∙ y.1 a x.0))
previous_same listed others count before a b within same (inr x) (inr y) =
    elim (cases_lt a b) [
      | inl h ↦ absurd (true≢false (sym y.1 ∙ sym (same b (omega (arith, y.0, within))) ∙ x.2 b h y.0))
      | inr h ↦ elim (cases_lt b a) [
        | inl k ↦ absurd (true≢false (sym x.1 ∙ same a (omega (arith, x.0, within)) ∙ y.2 a k x.0))
        | inr k ↦ omega arith
      ]
    ]

pub neighbors_same : (listed others : ℕ → Bool) (count k f b f' b' : ℕ) → k < count → ((j : ℕ) → j < count → listed j ≡ others j) → AreNeighbors listed count k f b → AreNeighbors others count k f' b' → (f ≡ f') × (b ≡ b')
neighbors_same listed others count k f b f' b' within same x y = at (cases_Bool (listed k))
  where
    at : (listed k ≡ true) ⊎ (listed k ≡ false) → (f ≡ f') × (b ≡ b')
    at (inl e) =
        let e' = sym (same k within) ∙ e in
        (next-same listed others count (k + 1) f f' same (x.forward_in e) (y.forward_in e'), previous_same listed others count k b b' (omega arith) same (x.back_in e) (y.back_in e'))
    at (inr e) =
        let e' = sym (same k within) ∙ e in
        ((x.out e).0 ∙ sym (y.out e').0, (x.out e).1 ∙ sym (y.out e').1)

links_same : (used others : ℕ → Bool) (extent extents : ℕ → Pxd) (iags numag k : ℕ) (a b : Links) → k < iags → AreSame iags used others extent extents → AreLinks used extent iags numag k a → AreLinks others extents iags numag k b → a ≡ b
links_same used others extent extents iags numag k a b within same x y =
    let g = k % numag in
    let inodes = neighbors_same (in_inode_list used extent numag g) (in_inode_list others extents numag g) iags k a.inofreefwd a.inofreeback b.inofreefwd b.inofreeback within (inodes-listed iags numag g used others extent extents same) x.inodes y.inodes in
    let free = neighbors_same (in_place_list extent numag g) (in_place_list extents numag g) iags k a.extfreefwd a.extfreeback b.extfreefwd b.extfreeback within (places-listed iags numag g used others extent extents same) x.places y.places in
    four a.inofreefwd b.inofreefwd a.inofreeback b.inofreeback a.extfreefwd b.extfreefwd a.extfreeback b.extfreeback inodes.0 inodes.1 free.0 free.1
  where
    four : (p p' q q' r r' t t' : ℕ) → p ≡ p' → q ≡ q' → r ≡ r' → t ≡ t' →
        (let one : Links = record { inofreefwd = p; inofreeback = q; extfreefwd = r; extfreeback = t } in one) ≡ (let one : Links = record { inofreefwd = p'; inofreeback = q'; extfreefwd = r'; extfreeback = t' } in one)
    four p p' q q' r r' t t' e g h i = rw (e, g, h, i) refl

-- ---- inodes in use

abbrev SameItems : (Item → Value) → (Item → Value) → Type 0
SameItems items others = (i : Item) → items i ≡ others i

abbrev SamePages : Places → (Item → Value) → Pages → Pages → Type 0
SamePages pl items s t = (q : ℕ) → is_map_page pl q ≡ false → has_inodes pl items q ≡ true → s q ≡ t q

extent_same : (items others : Item → Value) → SameItems items others → (e : ℕ) → extent_by items e ≡ extent_by others e
extent_same items others same e = ap place_of (same (ExtentPlace e))

some_is : {e f : ℕ} → Some e ≡ Some f → e ≡ f
some_is h = cc (h)

on_page : (pl : Places) (items : Item → Value) (n p : ℕ) → n < 4096 * pl.iags → home_by items n ≡ Some p → is_map_page pl p ≡ false → has_inodes pl items p ≡ true
on_page pl items n p within home free = by_case (extent_place (extent_by items (n / 32))) refl home
  where
    by_case : (x : Option ℕ) → extent_place (extent_by items (n / 32)) ≡ x → page_in x n ≡ Some p → has_inodes pl items p ≡ true
    by_case None e h = absurd (cc (h))
    by_case (Some first) e h =
        let has : 1 ≤ extent_has (Some first) p = has_it first (n % 32 / 8) p (omega arith) (some_is h) in
        let there : 1 ≤ extent_has (extent_place (extent_by items (n / 32))) p = subst (λ (o : Option ℕ). 1 ≤ extent_has o p) (sym e) has in
        and_from (not (is_map_page pl p)) (any_below (places pl) (λ e. nat_lt 0 (extent_has (extent_place (extent_by items e)) p))) (ap not free)
        (any_below-from (places pl) (λ e. nat_lt 0 (extent_has (extent_place (extent_by items e)) p)) (n / 32) (omega arith) (lt-ltb 0 (extent_has (extent_place (extent_by items (n / 32))) p) (omega (arith, there))))

inode_same : (pl : Places) (s t : Pages) (items others : Item → Value) → SameItems items others → SamePages pl others s t → (n : ℕ) → n < 4096 * pl.iags → inode_used_by pl s items n ≡ inode_used_by pl t others n
inode_same pl s t items others same pages n within =
    ap (is_used_on pl s n) (ap (λ (p : Pxd). page_in (extent_place p) n) (extent_same items others same (n / 32))) ∙ by_home (home_by others n) refl
  where
    by_home : (o : Option ℕ) → home_by others n ≡ o → is_used_on pl s n o ≡ is_used_on pl t n o
    by_home None e = refl
    by_home (Some p) e = at (cases_Bool (is_map_page pl p))
      where
        at : (is_map_page pl p ≡ true) ⊎ (is_map_page pl p ≡ false) → is_used_on pl s n (Some p) ≡ is_used_on pl t n (Some p)
        at (inl m) =
            ap (λ (x : Bool). not x && is_live n (slot_of (s p) (n % 8))) m ∙ sym (ap (λ (x : Bool). not x && is_live n (slot_of (t p) (n % 8))) m)
        at (inr m) = ap (λ (a : List ℕ). not (is_map_page pl p) && is_live n (slot_of a (n % 8))) (pages p m (on_page pl others n p within e m))

-- ---- pages

inode_page_same : (pl : Places) (s t : Pages) (items others : Item → Value) → SameItems items others → SamePages pl others s t → (p : ℕ) (a b : List ℕ) → IsCanonicalPage pl s items p a → IsCanonicalPage pl t others p b →
    (k : ℕ) → k ≤ pl.iags → pl.inode_map k ≡ p → a ≡ b
inode_page_same pl s t items others same pages p a b x y k low here = by_number k low (x.inode_map k low here) (y.inode_map k low here)
  where
    used : ℕ → Bool
    used = inode_used_by pl s items

    used' : ℕ → Bool
    used' = inode_used_by pl t others

    all : AreSame pl.iags used used' (extent_by items) (extent_by others)
    all = record { inodes = λ i h. inode_same pl s t items others same pages i h; extents = λ e h. extent_same items others same e }

    by_number : (k : ℕ) → k ≤ pl.iags → IsInodeMapPage pl used (extent_by items) k a → IsInodeMapPage pl used' (extent_by others) k b → a ≡ b
    by_number zero low m w = controls-same used used' (extent_by items) (extent_by others) pl.iags pl.numag a b all x.bytes y.bytes m w
    by_number (suc k) low m w =
        let one : AreSame 1 (λ i. used (4096 * k + i)) (λ i. used' (4096 * k + i)) (λ e. extent_by items (128 * k + e)) (λ e. extent_by others (128 * k + e)) =
        record { inodes = λ i h. all.inodes (4096 * k + i) (omega arith); extents = λ e h. all.extents (128 * k + e) (omega arith) } in
        let links = links_same used used' (extent_by items) (extent_by others) pl.iags pl.numag k m.0 w.0 (omega arith) all m.1 w.1 in
        let start = k % pl.numag * pl.agsize in
        iags-same (λ i. used (4096 * k + i)) (λ i. used' (4096 * k + i)) (λ e. extent_by items (128 * k + e)) (λ e. extent_by others (128 * k + e)) k start m.0 a b one x.bytes y.bytes m.2
        (subst (λ (l : Links). IsIagPage (λ i. used' (4096 * k + i)) (λ e. extent_by others (128 * k + e)) k start l b) (sym links) w.2)

pub pages_agree : (pl : Places) (s t : Pages) (items others : Item → Value) → SameItems items others → SamePages pl others s t → (p : ℕ) (a b : List ℕ) → is_map_page pl p ≡ true →
    IsCanonicalPage pl s items p a → IsCanonicalPage pl t others p b → a ≡ b
pages_agree pl s t items others same pages p a b is_map x y = at (or_cases (is_block_page pl p) (is_inode_page pl p) is_map)
  where
    at : (is_block_page pl p ≡ true) ⊎ (is_inode_page pl p ≡ true) → a ≡ b
    at (inl e) =
        let found = any_below-at (pages_of pl.blocks) (λ k. is_in_use pl.blocks k && pl.block_map k == p) e in
        let k = found.0 in
        let both = split (is_in_use pl.blocks k) (pl.block_map k == p) found.2 in
        let here = eqb-true (pl.block_map k) p both.1 in
        map-pages-same pl.blocks pl.agsize k (taken_by pl items) (taken_by pl others) a b (λ c. ap (λ (v : Value). not (nat_lt c pl.blocks) || bit_of v) (same (BlockBit c))) x.bytes y.bytes (x.block_map k both.0 here) (y.block_map k both.0 here)
      where
        split : (u v : Bool) → (u && v) ≡ true → (u ≡ true) × (v ≡ true)
        split true true h = (refl, refl)
        split true false h = absurd (cc (h))
        split false v h = absurd (cc (h))
    at (inr e) =
        let found = any_below-at (suc pl.iags) (λ k. pl.inode_map k == p) e in
        inode_page_same pl s t items others same pages p a b x y found.0 (omega (arith, found.1)) (eqb-true (pl.inode_map found.0) p found.2)
