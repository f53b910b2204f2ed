-- Pages of a map that an entry doesn't change stay.
use Rattle.std.proofs.Common.{◌≡◌, ◌⊎◌, ◌==◌, ◌%◌, ◌&&◌, ◌||◌, not, ℕ, suc, Bool, true, false, true≢false, List, [], ◌∷◌, length, Option, Some, None, refl, sym, ap, ◌∙◌, subst, inl, inr, arith}
use Rattle.std.proofs.lemmas.Bool.{cases_Bool, or_parts, or_from, and_parts}
use Rattle.std.proofs.Math.Path.{fun_ext}
use Rattle.jfs_bits.specs.Bits.{any_below, is_in_run}
use Rattle.jfs_bits.specs.declared.rule.PageKind.{PageKind}
use Rattle.jfs_bits.specs.declared.rule.PageKind.TheVariants as kinds
use Rattle.jfs_bits.proofs.Buds.{any_below-from, any_below-at}
use Rattle.jfs_ranges.specs.declared.edit.Edit.{Edit}
use Rattle.jfs_ranges.specs.declared.edit.Edit.TheVariants.{Lines, NoRedo, Alloc, Free}
use Rattle.jfs_map_files.specs.bmap.specs.MapFile.{pages_of, is_in_use, tells_of}
use Rattle.jfs_face.specs.recovery.specs.records.specs.Marks.{is_new_extent}
use Rattle.jfs_face.specs.recovery.specs.objects.specs.Volume.{slot_of}
use Rattle.jfs_face.specs.recovery.specs.objects.specs.Objects.{is_live}
use Rattle.jfs_face.specs.recovery.specs.Face.{Face, IsFace, Pages, Item, Value}
use Rattle.jfs_face.specs.recovery.specs.Core.{count, image}
use Rattle.jfs_face.specs.recovery.proofs.Images.{canonical_image}
use Rattle.jfs_face.specs.Places.{Places, is_block_page, is_inode_page, is_map_page}
use Rattle.jfs_face.specs.MapPages.{home_by, is_used_on, IsInodeMapPage, IsCanonicalPage}
use Rattle.jfs_face.specs.Items.{extent_by}
use Rattle.jfs_face.specs.Marks.{moves, any_moves, block_page_changes, inode_page_changes, map_changes}
use Rattle.jfs_face.specs.Volume.{items_on, face_of}
use Rattle.jfs_face.proofs.Marked.{untold_stay}
use Rattle.jfs_face.proofs.Whole.{is_face}
use Rattle.jfs_survival.specs.MapMarks.{has_run, block_map_changes, inode_map_changes, map_marks, MarkedLaw}
use Rattle.jfs_survival.proofs.Blocks.{never}

-- ---- canonical pages of the same items, and of the same pages but for those of maps

used_same : (pl : Places) (s t : Pages) → ((q : ℕ) → is_map_page pl q ≡ false → s q ≡ t q) → (n : ℕ) (home : Option ℕ) → is_used_on pl s n home ≡ is_used_on pl t n home
used_same pl s t same n None = refl
used_same pl s t same n (Some q) = at (cases_Bool (is_map_page pl q))
  where
    at : (is_map_page pl q ≡ true) ⊎ (is_map_page pl q ≡ false) → (not (is_map_page pl q) && is_live n (slot_of (s q) (n % 8))) ≡ (not (is_map_page pl q) && is_live n (slot_of (t q) (n % 8)))
    at (inl this) = rw this refl
    at (inr page) = ap (λ (x : List ℕ). not (is_map_page pl q) && is_live n (slot_of x (n % 8))) (same q page)

canonical_with : (pl : Places) (s t : Pages) (items others : Item → Value) (p : ℕ) (page : List ℕ) → ((q : ℕ) → is_map_page pl q ≡ false → s q ≡ t q) → ((i : Item) → items i ≡ others i)
    → IsCanonicalPage pl s items p page → IsCanonicalPage pl t others p page
canonical_with pl s t items others p page same_pages same_items h = subst (λ (x : Item → Value). IsCanonicalPage pl t x p page) (fun_ext same_items) (record {
  size = h.size;
  bytes = h.bytes;
  kept = h.kept;
  block_map = h.block_map;
  inode_map = λ k low at. subst (λ (used : ℕ → Bool). IsInodeMapPage pl used (extent_by items) k page) (fun_ext (λ n. used_same pl s t same_pages n (home_by items n))) (h.inode_map k low at);
})

-- ---- edits without runs move no block

second_false : (a b c : Bool) → b ≡ false → ((a && b) && c) ≡ false
second_false true false c e = refl
second_false false false c e = refl
second_false a true c e = absurd (true≢false e)

moves_none : (e : Edit) (b : ℕ) → has_run e ≡ false → moves e b ≡ false
moves_none (Lines page kind first bytes) b none = by kind none
  where
    by : (k : PageKind) → is_new_extent k bytes ≡ false → moves (Lines page k first bytes) b ≡ false
    by kinds.Inode e = second_false (first == 0) (length bytes == 16384) (is_in_run page 4 b) e
    by kinds.Xtree e = refl
    by kinds.Dtree e = refl
    by kinds.Index e = refl
moves_none (NoRedo page) b none = refl
moves_none (Alloc run) b none = absurd (true≢false none)
moves_none (Free run) b none = absurd (true≢false none)

none_move : (tx : List Edit) (b : ℕ) → block_map_changes tx ≡ false → any_moves tx b ≡ false
none_move [] b none = refl
none_move (e ∷ es) b none =
    let parts = or_parts (has_run e) (block_map_changes es) none in
    or_from (moves e b) (any_moves es b) (moves_none e b parts.0) (none_move es b parts.1)

-- so a page that changes tells of runs
runs_are : (pl : Places) (tx : List Edit) (k : ℕ) → block_page_changes pl tx k ≡ true → block_map_changes tx ≡ true
runs_are pl tx k some = by (cases_Bool (block_map_changes tx))
  where
    by : (block_map_changes tx ≡ true) ⊎ (block_map_changes tx ≡ false) → block_map_changes tx ≡ true
    by (inl e) = e
    by (inr none) =
        let found = any_below-at pl.blocks (λ b. tells_of k b && any_moves tx b) some in
        never (any_moves tx found.0) (and_parts (tells_of k found.0) (any_moves tx found.0) found.2).1 (none_move tx found.0 none)

-- ---- a page whose map isn't marked doesn't change

unmarked : (pl : Places) (s : Pages) (tx : List Edit) (p : ℕ) → map_marks pl s tx p ≡ false → map_changes pl s tx p ≡ false
unmarked pl s tx p none =
    both (any_below (pages_of pl.blocks) blocks) (any_below (suc pl.iags) inodes) (no_block (cases_Bool (any_below (pages_of pl.blocks) blocks))) (no_inode (cases_Bool (any_below (suc pl.iags) inodes)))
  where
    blocks : ℕ → Bool
    blocks k = is_in_use pl.blocks k && pl.block_map k == p && block_page_changes pl tx k

    inodes : ℕ → Bool
    inodes k = pl.inode_map k == p && inode_page_changes pl s tx k

    parts : ((is_block_page pl p && block_map_changes tx) ≡ false) × ((is_inode_page pl p && inode_map_changes pl s tx) ≡ false)
    parts = or_parts (is_block_page pl p && block_map_changes tx) (is_inode_page pl p && inode_map_changes pl s tx) none

    both : (a b : Bool) → a ≡ false → b ≡ false → (a || b) ≡ false
    both false b e d = d
    both true b e d = absurd (cc (e))

    and_true : (a b : Bool) → a ≡ true → b ≡ true → (a && b) ≡ true
    and_true true b e d = d
    and_true false b e d = absurd (cc (e))

    three : (a b c : Bool) → (a && b && c) ≡ true → (a ≡ true) × (b ≡ true) × (c ≡ true)
    three true true true e = (refl, refl, refl)
    three true true false e = absurd (cc (e))
    three true false true e = absurd (cc (e))
    three true false false e = absurd (cc (e))
    three false true true e = absurd (cc (e))
    three false true false e = absurd (cc (e))
    three false false true e = absurd (cc (e))
    three false false false e = absurd (cc (e))

    no_block : (any_below (pages_of pl.blocks) blocks ≡ true) ⊎ (any_below (pages_of pl.blocks) blocks ≡ false) → any_below (pages_of pl.blocks) blocks ≡ false
    no_block (inr e) = e
    no_block (inl e) =
        let found = any_below-at (pages_of pl.blocks) blocks e in
        let k = found.0 in
        let all = three (is_in_use pl.blocks k) (pl.block_map k == p) (block_page_changes pl tx k) found.2 in
        never (is_block_page pl p && block_map_changes tx)
        (and_true (is_block_page pl p) (block_map_changes tx) (any_below-from (pages_of pl.blocks) (λ j. is_in_use pl.blocks j && pl.block_map j == p) k found.1 (and_true (is_in_use pl.blocks k) (pl.block_map k == p) all.0 all.1))
        (runs_are pl tx k all.2)) parts.0

    no_inode : (any_below (suc pl.iags) inodes ≡ true) ⊎ (any_below (suc pl.iags) inodes ≡ false) → any_below (suc pl.iags) inodes ≡ false
    no_inode (inr e) = e
    no_inode (inl e) =
        let found = any_below-at (suc pl.iags) inodes e in
        let k = found.0 in
        let all = and_parts (pl.inode_map k == p) (inode_page_changes pl s tx k) found.2 in
        never (is_inode_page pl p && inode_map_changes pl s tx)
        (and_true (is_inode_page pl p) (inode_map_changes pl s tx) (any_below-from (suc pl.iags) (λ j. pl.inode_map j == p) k found.1 all.0) (any_below-from (suc pl.iags) (λ j. inode_page_changes pl s tx j) k found.1 all.1)) parts.1

pub marked_law : MarkedLaw
marked_law r pl core tx t p areas sound follows this none =
    let f : Face = face_of r pl (map_marks pl) in
    let laws : IsFace f = is_face r pl (map_marks pl) areas in
    let s : Pages = image core (count core) in
    let old = canonical_image f laws core sound (count core) (omega arith) p this in
    untold_stay pl s tx p (s p) (t p) this (unmarked pl s tx p none) (canonical_with pl old.pages s old.items (items_on pl s) p (s p) old.same_pages old.same_items old.map) (follows.maps p this)
