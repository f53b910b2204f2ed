-- Map pages that an entry doesn't change.
use Rattle.std.proofs.Common.{◌≡◌, ◌⊎◌, ◌<◌, ◌≤◌, ◌+◌, ◌*◌, ◌/◌, ◌%◌, ◌&&◌, ◌||◌, ◌==◌, not, nat_lt, ℕ, zero, suc, Bool, true, false, true≢false, List, [], ◌∷◌, refl, sym, ap, ◌∙◌, subst, inl, inr, arith}
use Rattle.std.proofs.lemmas.Bool.{cases_Bool, or_cases, or_parts, ltb-true, eqb-true, cond-false}
use Rattle.jfs_bits.specs.Bits.{any_below, is_in_run}
use Rattle.jfs_bits.proofs.Buds.{any_below-from, any_below-at}
use Rattle.jfs_ranges.specs.declared.edit.Edit.{Edit}
use Rattle.jfs_ranges.specs.declared.edit.Edit.TheVariants.{Lines, NoRedo, Alloc, Free}
use Rattle.jfs_ranges.specs.Apply.{apply_tx}
use Rattle.jfs_iag.specs.declared.canonical.Links.{Links}
use Rattle.jfs_iag.specs.Laws.{AreSame}
use Rattle.jfs_iag.specs.Canonical.{has_free_inode, in_inode_list, in_place_list, AreLinks, IsIagPage}
use Rattle.jfs_iag.proofs.Agreed.{iags-same, controls-same}
use Rattle.jfs_steps.specs.bmap.specs.MapFile.{pages_of, is_in_use, tells_of}
use Rattle.jfs_steps.specs.bmap.proofs.Agreed.{only-their-pages}
use Rattle.jfs_steps.specs.After.{is_extent, place_in, four_from}
use Rattle.jfs_recovery.specs.Face.{Item, Value, Pages}
use Rattle.jfs_recovery.specs.Face.Item.{BlockBit, ExtentPlace}
use Rattle.jfs_recovery.specs.Face.Value.{InUse, At}
use Rattle.jfs_face.specs.Places.{Places, is_block_page, is_inode_page}
use Rattle.jfs_face.specs.Items.{bit_of, place_of, set_item, set_by, extent_by}
use Rattle.jfs_face.specs.MapPages.{taken_by, IsInodeMapPage, IsCanonicalPage}
use Rattle.jfs_face.specs.Volume.{items_on}
use Rattle.jfs_face.specs.Marks.{moves, any_moves, block_page_changes, puts, any_puts, differ, used_before, used_after, extent_before, extent_after, iag_changes, lists_change, inode_page_changes, MarksLaw}
use Rattle.jfs_face.proofs.Agreed.{neighbors_same}

-- ---- tests that fail

none : (n : ℕ) (test : ℕ → Bool) → any_below n test ≡ false → (i : ℕ) → i < n → test i ≡ false
none n test h i l = at (cases_Bool (test i))
  where
    at : (test i ≡ true) ⊎ (test i ≡ false) → test i ≡ false
    at (inl e) = absurd (true≢false (sym (any_below-from n test i l e) ∙ h))
    at (inr e) = e

alike : (a b : Bool) → differ a b ≡ false → a ≡ b
alike true true h = refl
alike true false h = absurd (cc (h))
alike false true h = absurd (cc (h))
alike false false h = refl

second : (a b : Bool) → a ≡ true → (a && b) ≡ false → b ≡ false
second true b e h = h
second false b e h = absurd (cc (e))

split : (u v : Bool) → (u && v) ≡ true → (u ≡ true) × (v ≡ true)
split true true h = (refl, refl)
split true false h = absurd (cc (h))
split false v h = absurd (cc (h))

-- ---- items that an entry passes over

block_passed : (edit : Edit) (b : ℕ) (x : Value) → moves edit b ≡ false → set_item edit (BlockBit b) x ≡ x
block_passed (Lines page kind first bytes) b x h = cond-false (is_extent kind first bytes && is_in_run page 4 b) (InUse true) x h
block_passed (NoRedo page) b x h = refl
block_passed (Alloc run) b x h = cond-false (is_in_run run.addr run.len b) (InUse true) x h
block_passed (Free run) b x h = cond-false (is_in_run run.addr run.len b) (InUse false) x h

block_stays : (tx : List Edit) (b : ℕ) (x : Value) → any_moves tx b ≡ false → set_by tx (BlockBit b) x ≡ x
block_stays [] b x h = refl
block_stays (edit ∷ edits) b x h =
    let parts = or_parts (moves edit b) (any_moves edits b) h in
    block_stays edits b (set_item edit (BlockBit b) x) parts.1 ∙ block_passed edit b x parts.0

extent_passed : (edit : Edit) (e : ℕ) (x : Value) → puts edit e ≡ false → set_item edit (ExtentPlace e) x ≡ x
extent_passed (Lines page kind first bytes) e x h = cond-false (is_extent kind first bytes && place_in bytes == e) (At (four_from page)) x h
extent_passed (NoRedo page) e x h = refl
extent_passed (Alloc run) e x h = refl
extent_passed (Free run) e x h = refl

extent_stays : (tx : List Edit) (e : ℕ) (x : Value) → any_puts tx e ≡ false → set_by tx (ExtentPlace e) x ≡ x
extent_stays [] e x h = refl
extent_stays (edit ∷ edits) e x h =
    let parts = or_parts (puts edit e) (any_puts edits e) h in
    extent_stays edits e (set_item edit (ExtentPlace e) x) parts.1 ∙ extent_passed edit e x parts.0

-- ---- the block map

taken_stays : (pl : Places) (s : Pages) (tx : List Edit) (k : ℕ) → block_page_changes pl tx k ≡ false → (b : ℕ) → tells_of k b ≡ true → taken_by pl (λ i. set_by tx i (items_on pl s i)) b ≡ taken_by pl (items_on pl s) b
taken_stays pl s tx k quiet b tells = at (cases_Bool (nat_lt b pl.blocks))
  where
    items : Item → Value
    items = items_on pl s

    at : (nat_lt b pl.blocks ≡ true) ⊎ (nat_lt b pl.blocks ≡ false) → taken_by pl (λ i. set_by tx i (items i)) b ≡ taken_by pl items b
    at (inl e) =
        let still = second (tells_of k b) (any_moves tx b) tells (none pl.blocks (λ b. tells_of k b && any_moves tx b) quiet b (ltb-true b pl.blocks e)) in
        ap (λ (v : Value). not (nat_lt b pl.blocks) || bit_of v) (block_stays tx b (items (BlockBit b)) still)
    at (inr e) =
        ap (λ (t : Bool). not t || bit_of (set_by tx (BlockBit b) (items (BlockBit b)))) e ∙ sym (ap (λ (t : Bool). not t || bit_of (items (BlockBit b))) e)

-- ---- the inode map

abbrev After : Places → Pages → List Edit → Item → Value
After pl s tx i = set_by tx i (items_on pl s i)

iag_same : (pl : Places) (s : Pages) (tx : List Edit) (k : ℕ) → iag_changes pl s tx k ≡ false →
    AreSame 1 (λ i. used_after pl s tx (4096 * k + i)) (λ i. used_before pl s (4096 * k + i)) (λ e. extent_by (After pl s tx) (128 * k + e)) (λ e. extent_by (items_on pl s) (128 * k + e))
iag_same pl s tx k quiet =
    let parts = or_parts (any_below 4096 (λ i. differ (used_before pl s (4096 * k + i)) (used_after pl s tx (4096 * k + i)))) (any_below 128 (λ e. any_puts tx (128 * k + e))) quiet in
    record {
      inodes = λ i h. sym (alike (used_before pl s (4096 * k + i)) (used_after pl s tx (4096 * k + i)) (none 4096 (λ i. differ (used_before pl s (4096 * k + i)) (used_after pl s tx (4096 * k + i))) parts.0 i (omega (arith, h))));
      extents = λ e h. ap place_of (extent_stays tx (128 * k + e) (items_on pl s (ExtentPlace (128 * k + e))) (none 128 (λ e. any_puts tx (128 * k + e)) parts.1 e (omega (arith, h))));
    }

all_same : (pl : Places) (s : Pages) (tx : List Edit) → any_below pl.iags (λ k. iag_changes pl s tx k) ≡ false → AreSame pl.iags (used_after pl s tx) (used_before pl s) (extent_by (After pl s tx)) (extent_by (items_on pl s))
all_same pl s tx quiet = record {
  inodes = λ i h.
      let here : 4096 * (i / 4096) + i % 4096 ≡ i = omega arith in
      subst (λ (n : ℕ). used_after pl s tx n ≡ used_before pl s n) here
      ((iag_same pl s tx (i / 4096) (none pl.iags (λ k. iag_changes pl s tx k) quiet (i / 4096) (omega (arith, h)))).inodes (i % 4096) (omega arith));
  extents = λ e h.
      let here : 128 * (e / 128) + e % 128 ≡ e = omega arith in
      subst (λ (n : ℕ). extent_by (After pl s tx) n ≡ extent_by (items_on pl s) n) here
      ((iag_same pl s tx (e / 128) (none pl.iags (λ k. iag_changes pl s tx k) quiet (e / 128) (omega (arith, h)))).extents (e % 128) (omega arith));
}

-- the lists of a group have the same IAGs
lists_same : (pl : Places) (s : Pages) (tx : List Edit) → lists_change pl s tx ≡ false → (g k : ℕ) → k < pl.iags →
    (in_inode_list (used_after pl s tx) (extent_by (After pl s tx)) pl.numag g k ≡ in_inode_list (used_before pl s) (extent_by (items_on pl s)) pl.numag g k)
    × (in_place_list (extent_by (After pl s tx)) pl.numag g k ≡ in_place_list (extent_by (items_on pl s)) pl.numag g k)
lists_same pl s tx quiet g k low =
    let before = has_free_inode (used_before pl s) (extent_by (items_on pl s)) k in
    let after = has_free_inode (used_after pl s tx) (extent_by (After pl s tx)) k in
    let parts = or_parts (differ before after) (differ (extent_before pl s k) (extent_after pl s tx k)) (none pl.iags (λ k.
    differ (has_free_inode (used_before pl s) (extent_by (items_on pl s)) k) (has_free_inode (used_after pl s tx) (extent_by (After pl s tx)) k)
    || differ (extent_before pl s k) (extent_after pl s tx k)) quiet k low) in
    (ap (λ (t : Bool). k % pl.numag == g && t) (sym (alike before after parts.0)), ap (λ (t : Bool). k % pl.numag == g && t) (sym (alike (extent_before pl s k) (extent_after pl s tx k) parts.1)))

links_stay : (pl : Places) (s : Pages) (tx : List Edit) → lists_change pl s tx ≡ false → (k : ℕ) → k < pl.iags → (a b : Links) → AreLinks (used_after pl s tx) (extent_by (After pl s tx)) pl.iags pl.numag k a →
    AreLinks (used_before pl s) (extent_by (items_on pl s)) pl.iags pl.numag k b → a ≡ b
links_stay pl s tx quiet k low a b x y =
    let g = k % pl.numag in
    let inodes = neighbors_same (in_inode_list (used_after pl s tx) (extent_by (After pl s tx)) pl.numag g) (in_inode_list (used_before pl s) (extent_by (items_on pl s)) pl.numag g) pl.iags k
    a.inofreefwd a.inofreeback b.inofreefwd b.inofreeback low (λ j l. (lists_same pl s tx quiet g j l).0) x.inodes y.inodes in
    let free = neighbors_same (in_place_list (extent_by (After pl s tx)) pl.numag g) (in_place_list (extent_by (items_on pl s)) pl.numag g) pl.iags k
    a.extfreefwd a.extfreeback b.extfreefwd b.extfreeback low (λ j l. (lists_same pl s tx quiet g j l).1) x.places y.places in
    four a.inofreefwd b.inofreefwd a.inofreeback b.inofreeback a.extfreefwd b.extfreefwd a.extfreeback b.extfreeback inodes.0 inodes.1 free.0 free.1
  where
    four : (p p' q q' r r' t t' : ℕ) → p ≡ p' → q ≡ q' → r ≡ r' → t ≡ t' →
        (let one : Links = record { inofreefwd = p; inofreeback = q; extfreefwd = r; extfreeback = t } in one) ≡ (let one : Links = record { inofreefwd = p'; inofreeback = q'; extfreefwd = r'; extfreeback = t' } in one)
    four p p' q q' r r' t t' e g h i = rw (e, g, h, i) refl

inode_page_stays : (pl : Places) (s : Pages) (tx : List Edit) (p : ℕ) (old new : List ℕ) → IsCanonicalPage pl s (items_on pl s) p old → IsCanonicalPage pl (λ q. apply_tx q tx (s q)) (After pl s tx) p new →
    (k : ℕ) → k ≤ pl.iags → inode_page_changes pl s tx k ≡ false → IsInodeMapPage pl (used_after pl s tx) (extent_by (After pl s tx)) k new → IsInodeMapPage pl (used_before pl s) (extent_by (items_on pl s)) k old → new ≡ old
inode_page_stays pl s tx p old new x y zero low quiet m w = controls-same (used_after pl s tx) (used_before pl s) (extent_by (After pl s tx)) (extent_by (items_on pl s)) pl.iags pl.numag new old (all_same pl s tx quiet) y.bytes x.bytes m w
inode_page_stays pl s tx p old new x y (suc k) low quiet m w =
    let parts = or_parts (iag_changes pl s tx k) (lists_change pl s tx) quiet in
    let links = links_stay pl s tx parts.1 k (omega arith) m.0 w.0 m.1 w.1 in
    let start = k % pl.numag * pl.agsize in
    iags-same (λ i. used_after pl s tx (4096 * k + i)) (λ i. used_before pl s (4096 * k + i)) (λ e. extent_by (After pl s tx) (128 * k + e)) (λ e. extent_by (items_on pl s) (128 * k + e)) k start m.0 new old
    (iag_same pl s tx k parts.0) y.bytes x.bytes m.2
    (subst (λ (l : Links). IsIagPage (λ i. used_before pl s (4096 * k + i)) (λ e. extent_by (items_on pl s) (128 * k + e)) k start l old) (sym links) w.2)

-- ---- both

pub untold_stay : MarksLaw
untold_stay pl s tx p old new is_map quiet x y = at (or_cases (is_block_page pl p) (is_inode_page pl p) is_map)
  where
    blocks : ℕ → Bool
    blocks k = is_in_use pl.blocks k && pl.block_map k == p && block_page_changes pl tx k

    inodes : ℕ → Bool
    inodes k = pl.inode_map k == p && inode_page_changes pl s tx k

    parts : (any_below (pages_of pl.blocks) blocks ≡ false) × (any_below (suc pl.iags) inodes ≡ false)
    parts = or_parts (any_below (pages_of pl.blocks) blocks) (any_below (suc pl.iags) inodes) quiet

    at : (is_block_page pl p ≡ true) ⊎ (is_inode_page pl p ≡ true) → new ≡ old
    at (inl e) =
        let found = any_below-at (pages_of pl.blocks) (λ k. is_in_use pl.blocks k && pl.block_map k == p) e in
        let k = found.0 in
        let both = split (is_in_use pl.blocks k) (pl.block_map k == p) found.2 in
        let here = eqb-true (pl.block_map k) p both.1 in
        let still = second (is_in_use pl.blocks k && pl.block_map k == p) (block_page_changes pl tx k) found.2 (none (pages_of pl.blocks) blocks parts.0 k found.1) in
        only-their-pages pl.blocks pl.agsize k (taken_by pl (After pl s tx)) (taken_by pl (items_on pl s)) new old (λ b tells. taken_stays pl s tx k still b tells) y.bytes x.bytes (y.block_map k both.0 here) (x.block_map k both.0 here)
    at (inr e) =
        let found = any_below-at (suc pl.iags) (λ k. pl.inode_map k == p) e in
        let k = found.0 in
        let here = eqb-true (pl.inode_map k) p found.2 in
        let still = second (pl.inode_map k == p) (inode_page_changes pl s tx k) found.2 (none (suc pl.iags) inodes parts.1 k found.1) in
        let low : k ≤ pl.iags = omega (arith, found.1) in
        inode_page_stays pl s tx p old new x y k low still (y.inode_map k low here) (x.inode_map k low here)
