-- What an entry makes of dirty pages, of the newest image, and of the pages of the maps in the core.
use Rattle.std.proofs.Common.{◌≡◌, ◌⊎◌, ◌<◌, ◌≤◌, ◌+◌, ◌&&◌, ◌||◌, ◌==◌, refl, sym, ap, ◌∙◌, subst, ℕ, zero, suc, Bool, true, false, true≢false, if◌then◌else◌, List, [], ◌∷◌, length, get_or, Option, IsSome, is_some, inl, inr, arith}
use Rattle.std.proofs.lemmas.Bool.{cases_lt, and_parts, eqb-true}
use Rattle.std.proofs.lemmas.List.{length_push}
use Rattle.jfs_bits.proofs.Buds.{any_below-at}
use Rattle.jfs_ranges.specs.Apply.{apply_tx, touches_tx}
use Rattle.jfs_ranges.specs.declared.edit.Edit.{Edit}
use Rattle.jfs_joined_held.specs.held.specs.canonical_maps.proofs.OwnPlaces.{own_places}
use Rattle.jfs_joined_held.specs.held.specs.canonical_maps.specs.Images.{after_entry}
use Rattle.jfs_joined_held.specs.held.specs.canonical_maps.specs.Places.{HaveOwnPlaces}
use Rattle.jfs_joined_held.specs.held.specs.survival.proofs.Lines.{not_left}
use Rattle.jfs_joined_held.specs.held.specs.survival.specs.MapMarks.{block_map_changes, inode_map_changes, map_marks}
use Rattle.jfs_joined_held.specs.held.specs.survival.specs.face.specs.Places.{Places, is_block_page, is_inode_page, is_map_page}
use Rattle.jfs_joined_held.specs.held.specs.survival.specs.logged.proofs.Joined.{rest_untouched}
use Rattle.jfs_joined_held.specs.held.specs.survival.specs.logged.specs.Logged.{logged_in, LogsPage}
use Rattle.jfs_joined_held.specs.held.specs.survival.specs.recovery.proofs.Kept.{last_image}
use Rattle.jfs_joined_held.specs.held.specs.survival.specs.recovery.specs.Core.{count, image}
use Rattle.jfs_joined_held.specs.held.specs.survival.specs.recovery.specs.Face.{Pages, byte}
use Rattle.jfs_joined_held.specs.held.specs.survival.specs.recovery.specs.Lines.{rest_of}
use Rattle.jfs_joined_held.specs.held.specs.survival.specs.recovery.specs.crash_core.proofs.Bytes.{apply_tx-untouched}
use Rattle.jfs_joined_held.specs.held.specs.survival.specs.recovery.specs.crash_core.specs.Core.{Block, no_block}
use Rattle.jfs_joined_held.specs.held.specs.survival.specs.recovery.specs.crash_core.specs.Step.{dirtied, marked}
use Rattle.jfs_joined_held.specs.held.specs.survival.specs.recovery.specs.kinds.proofs.Single.{has_owners as one_owner}
use Rattle.jfs_joined_held.specs.held.specs.survival.specs.recovery.specs.kinds.specs.Owner.{Owner, is_logged}
use Rattle.jfs_joined_held.specs.held.specs.survival.specs.recovery.specs.kinds.specs.Owner.Owner.{Area}
use Rattle.jfs_joined_held.specs.held.specs.survival.specs.recovery.specs.records.specs.Redo.{closes_in}
use Rattle.jfs_joined_held.specs.held.specs.image_volumes.proofs.Read.{no_map_page}
use Rattle.jfs_joined_held.specs.held.specs.Changes.{LeadsTo, next}
use Rattle.jfs_joined_held.specs.held.specs.Held.{Mount, Held, IsHeld, face_at, newest_image}
use Rattle.jfs_joined_held.specs.held.proofs.Played.{areas}
use Rattle.jfs_joined_held.specs.volume.specs.data_steps.specs.objects.specs.Volume.{Volume}
use Rattle.jfs_joined_held.specs.volume.specs.halves.specs.Both.{Changes}
use Rattle.jfs_joined_held.specs.volume.specs.halves.specs.Change.{Enters}
use Rattle.jfs_joined_held.specs.volume.specs.halves.specs.Entry.{Happened, edits}
use Rattle.jfs_joined_held.specs.volume.specs.halves.specs.Half.{block_in}
use Rattle.jfs_joined_held.specs.volume.specs.bmap.specs.MapFile.{pages_of, is_in_use}

-- ---- dirty pages of the half

dirty_marked : (lines : ℕ → Bool) (k q : ℕ) (blocks : List Block) (p : ℕ) → IsSome (get_or (marked lines k q blocks) p no_block).dirty → (lines (q + p) ≡ true) ⊎ IsSome (get_or blocks p no_block).dirty
dirty_marked lines k q [] p some = inr some
dirty_marked lines k q (block ∷ blocks) zero some = by (lines q) refl some
  where
    by : (b : Bool) → lines q ≡ b → IsSome (if b then dirtied k block else block).dirty → (lines (q + 0) ≡ true) ⊎ IsSome block.dirty
    by true e s = inl (ap lines (omega arith) ∙ e)
    by false e s = inr s
dirty_marked lines k q (block ∷ blocks) (suc p) some = by (dirty_marked lines k (suc q) blocks p some)
  where
    by : (lines (suc q + p) ≡ true) ⊎ IsSome (get_or blocks p no_block).dirty → (lines (q + suc p) ≡ true) ⊎ IsSome (get_or blocks p no_block).dirty
    by (inl e) = inl (ap lines (omega arith) ∙ e)
    by (inr s) = inr s

-- a page is dirty with lines of it, or was so
pub dirty_then : (m : Mount) (x : Held) (h : Happened) (w : Volume) (q : ℕ) → IsSome (block_in (next m x (Changes (Enters h)) w).both.volume q).dirty → (touches_tx q (edits h) ≡ true) ⊎ IsSome (block_in x.both.volume q).dirty
dirty_then m x h w q some = by (dirty_marked (λ p. touches_tx p (edits h)) (suc (length x.both.volume.history)) 0 x.both.volume.blocks q some)
  where
    by : (touches_tx (0 + q) (edits h) ≡ true) ⊎ IsSome (block_in x.both.volume q).dirty → (touches_tx q (edits h) ≡ true) ⊎ IsSome (block_in x.both.volume q).dirty
    by (inl e) = inl (subst (λ (k : ℕ). touches_tx k (edits h) ≡ true) (let same : 0 + q ≡ q = omega arith in same) e)
    by (inr was) = inr was

-- ---- the maps stand apart

pub stand_apart : (m : Mount) (x : Held) → IsHeld m x → HaveOwnPlaces m.places
stand_apart m x held = let v = held.now.is.stands in subst (λ (pl : Places). HaveOwnPlaces pl) v.places (own_places m.readers m.blocks m.agsize m.numag m.table m.map (newest_image x) v.sound.agrees v.pages)

pub block_of : (pl : Places) (q : ℕ) → is_block_page pl q ≡ true → (k : ℕ) × (is_in_use pl.blocks k ≡ true) × (pl.block_map k ≡ q)
block_of pl q e =
    let found = any_below-at (pages_of pl.blocks) (λ k. is_in_use pl.blocks k && pl.block_map k == q) e in
    let both = and_parts (is_in_use pl.blocks found.0) (pl.block_map found.0 == q) found.2 in
    (found.0, both.0, eqb-true (pl.block_map found.0) q both.1)

pub inode_of : (pl : Places) (q : ℕ) → is_inode_page pl q ≡ true → (k : ℕ) × (k < suc pl.iags) × (pl.inode_map k ≡ q)
inode_of pl q e =
    let found = any_below-at (suc pl.iags) (λ k. pl.inode_map k == q) e in
    (found.0, found.1, eqb-true (pl.inode_map found.0) q found.2)

not_both : (pl : Places) → HaveOwnPlaces pl → (q : ℕ) → is_block_page pl q ≡ true → is_inode_page pl q ≡ true → ⊥
not_both pl own q a b =
    let x = block_of pl q a in
    let y = inode_of pl q b in
    own.both x.0 y.0 x.1 (let l = y.1 in omega (arith, l)) (x.2 ∙ sym y.2)

is_false : (b : Bool) → (b ≡ true → ⊥) → b ≡ false
is_false true never = absurd (never refl)
is_false false never = refl

pub marks_of_blocks : (pl : Places) → HaveOwnPlaces pl → (s : Pages) (tx : List Edit) (q : ℕ) → is_block_page pl q ≡ true → map_marks pl s tx q ≡ block_map_changes tx
marks_of_blocks pl own s tx q is = rw (is, is_false (is_inode_page pl q) (λ e. not_both pl own q is e)) (last (block_map_changes tx))
  where
    last : (b : Bool) → (b || false) ≡ b
    last true = refl
    last false = refl

pub marks_of_inodes : (pl : Places) → HaveOwnPlaces pl → (s : Pages) (tx : List Edit) (q : ℕ) → is_inode_page pl q ≡ true → map_marks pl s tx q ≡ inode_map_changes pl s tx
marks_of_inodes pl own s tx q is = rw (is, is_false (is_block_page pl q) (λ e. not_both pl own q e is)) refl

-- ---- the core

some_dirtied : (b : Bool) (n : ℕ) (block : Block) → is_some (if b then dirtied n block else block).dirty ≡ (b || is_some block.dirty)
some_dirtied true n block = refl
some_dirtied false n block = refl

module _ (m : Mount) (x : Held) (held : IsHeld m x) (h : Happened) (w : Volume) (leads : LeadsTo m x h w) where
  abbrev pl : Places
  pl = m.places

  abbrev tx : List Edit
  tx = edits h

  -- no NoRedo is of a page of a map, since it has no lines to give it whole
  no_close : (q : ℕ) → is_map_page pl q ≡ true → closes_in q tx ≡ false
  no_close q is = is_false (closes_in q tx) (λ closed. not_left (λ (a : List ℕ). apply_tx q (rest_of q tx) a) (w.page q) (λ a i size l. ap (λ (p : List ℕ). byte p i) (logs.whole now (inl closed) a size)) (λ a size. apply_tx-untouched q (rest_of q tx) a size (rest_untouched q tx (leads.keeps.no_maps q is))))
    where
      logs : LogsPage q (logged_in m.readers x.volume q) (logged_in m.readers w q) tx (w.page q)
      logs = leads.follows.after.logs.logs q

      area : 0 < w.area q
      area = by (cases_lt 0 (w.area q))
        where
          by : (0 < w.area q) ⊎ (w.area q ≤ 0) → 0 < w.area q
          by (inl l) = l
          by (inr none) = absurd (true≢false (sym is ∙ no_map_page pl q (areas m x held) (let same = held.now.shows.area q in let kept = leads.follows.after.area q in omega (arith, none, same, kept))))

      now : logged_in m.readers w q ≡ true
      now = ap (λ (o : Option Owner). is_logged o) ((one_owner m.readers w leads.follows.sound.agrees).alone q Area area)

  -- an entry touches a page of a map where its map is marked
  pub touched_by : (q : ℕ) → is_map_page pl q ≡ true → (face_at m).touches (newest_image x) tx q ≡ map_marks pl (newest_image x) tx q
  touched_by q is = by (touches_tx q tx) (closes_in q tx) (is_map_page pl q) (map_marks pl (newest_image x) tx q) (leads.keeps.no_maps q is) (no_close q is) is
    where
      by : (a b c d : Bool) → a ≡ false → b ≡ false → c ≡ true → (a || b || (c && d)) ≡ d
      by false false true d p q r = refl
      by true b c d p q r = absurd (true≢false p)
      by false true c d p q r = absurd (true≢false q)
      by false false false d p q r = absurd (true≢false (sym r))

  -- it is dirty there, or was so
  pub mark_then : (q : ℕ) → is_map_page pl q ≡ true → is_some ((next m x (Changes (Enters h)) w).core.slots q).block.dirty ≡ (map_marks pl (newest_image x) tx q || is_some (x.core.slots q).block.dirty)
  mark_then q is = some_dirtied ((face_at m).touches (newest_image x) tx q) (suc (count x.core)) (x.core.slots q).block ∙ ap (λ (b : Bool). b || is_some (x.core.slots q).block.dirty) (touched_by q is)

  -- the newest image is that after the entry
  more : count (next m x (Changes (Enters h)) w).core ≡ suc (count x.core)
  more = let e = length_push x.core.history (record { tx = tx; image = after_entry pl (newest_image x) tx }) in omega (arith, e)

  pub image_then : image (next m x (Changes (Enters h)) w).core (count (next m x (Changes (Enters h)) w).core) ≡ after_entry pl (newest_image x) tx
  image_then = ap (λ (k : ℕ). image (next m x (Changes (Enters h)) w).core k) more ∙ last_image (face_at m) x.core tx (after_entry pl (newest_image x) tx)
