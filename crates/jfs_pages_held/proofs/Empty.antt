-- An entry without edits leaves images and marks.
use Rattle.std.proofs.Common.{◌≡◌, ◌⊎◌, ◌*◌, ◌+◌, ◌&&◌, ◌||◌, refl, sym, ap, ◌∙◌, subst, ℕ, zero, suc, Bool, true, false, true≢false, if◌then◌else◌, List, [], IsSome, inl, inr}
use Rattle.std.proofs.Math.Path.{fun_ext}
use Rattle.std.proofs.lemmas.Bool.{cases_Bool, or_from}
use Rattle.jfs_bits.specs.Bits.{any_below}
use Rattle.jfs_bits.proofs.Buds.{any_below-none}
use Rattle.jfs_iag.specs.Canonical.{has_free_inode}
use Rattle.jfs_ranges.specs.Apply.{apply_tx, touches_tx}
use Rattle.jfs_ranges.specs.declared.edit.Edit.{Edit}
use Rattle.jfs_joined_held.specs.held.specs.canonical_maps.specs.Images.{after_entry}
use Rattle.jfs_joined_held.specs.held.specs.image_volumes.proofs.Next.{next_law}
use Rattle.jfs_joined_held.specs.held.specs.image_volumes.specs.Next.{HasNext}
use Rattle.jfs_joined_held.specs.held.specs.survival.proofs.MapsMarked.{marked_law}
use Rattle.jfs_joined_held.specs.held.specs.survival.specs.MapMarks.{inode_map_changes, map_marks}
use Rattle.jfs_joined_held.specs.held.specs.survival.specs.face.specs.Items.{extent_by}
use Rattle.jfs_joined_held.specs.held.specs.survival.specs.face.specs.Marks.{any_puts, differ, used_before, used_after, extent_before, extent_after, iag_changes, lists_change, inode_page_changes}
use Rattle.jfs_joined_held.specs.held.specs.survival.specs.face.specs.Places.{Places, is_block_page, is_inode_page, is_map_page}
use Rattle.jfs_joined_held.specs.held.specs.survival.specs.face.specs.Volume.{items_on}
use Rattle.jfs_joined_held.specs.held.specs.survival.specs.recovery.specs.Face.{Pages}
use Rattle.jfs_joined_held.specs.held.specs.survival.specs.recovery.specs.Core.{count}
use Rattle.jfs_joined_held.specs.held.specs.survival.specs.recovery.specs.crash_core.specs.Step.{dirtied}
use Rattle.jfs_joined_held.specs.held.specs.Changes.{LeadsTo, next}
use Rattle.jfs_joined_held.specs.held.specs.Held.{Mount, Held, IsHeld, newest_image}
use Rattle.jfs_joined_held.specs.held.proofs.Played.{areas}
use Rattle.jfs_joined_held.specs.volume.specs.data_steps.specs.objects.specs.Volume.{Volume}
use Rattle.jfs_joined_held.specs.volume.specs.halves.specs.Both.{Changes}
use Rattle.jfs_joined_held.specs.volume.specs.halves.specs.Change.{Enters}
use Rattle.jfs_joined_held.specs.volume.specs.halves.specs.Entry.{Happened, edits}
use Rattle.jfs_joined_held.specs.volume.specs.halves.specs.Half.{block_in}
use Rattle.jfs_pages_held.specs.Beside.{MarksStay, DirtyStays}
use Rattle.jfs_pages_held.specs.Called.{EmptyLaw}
use Rattle.jfs_pages_held.proofs.Entry.{dirty_then, touched_by, image_then}

-- ---- no edits mark no map

and_none : (a : Bool) → (a && false) ≡ false
and_none true = refl
and_none false = refl

alike : (a : Bool) → differ a a ≡ false
alike true = refl
alike false = refl

no_iag : (pl : Places) (s : Pages) (k : ℕ) → iag_changes pl s [] k ≡ false
no_iag pl s k = or_from (any_below 4096 (λ i. differ (used_before pl s (4096 * k + i)) (used_after pl s [] (4096 * k + i)))) (any_below 128 (λ e. any_puts [] (128 * k + e)))
    (any_below-none 4096 (λ i. differ (used_before pl s (4096 * k + i)) (used_after pl s [] (4096 * k + i))) (λ i l. alike (used_before pl s (4096 * k + i))))
    (any_below-none 128 (λ e. any_puts [] (128 * k + e)) (λ e l. refl))

no_lists : (pl : Places) (s : Pages) → lists_change pl s [] ≡ false
no_lists pl s = any_below-none pl.iags (λ k.
    differ (has_free_inode (used_before pl s) (extent_by (items_on pl s)) k) (has_free_inode (used_after pl s []) (extent_by (items_on pl s)) k)
    || differ (extent_before pl s k) (extent_after pl s [] k))
    (λ k l. or_from (differ (has_free_inode (used_before pl s) (extent_by (items_on pl s)) k) (has_free_inode (used_after pl s []) (extent_by (items_on pl s)) k)) (differ (extent_before pl s k) (extent_after pl s [] k))
    (alike (has_free_inode (used_before pl s) (extent_by (items_on pl s)) k)) (alike (extent_before pl s k)))

no_page : (pl : Places) (s : Pages) (k : ℕ) → inode_page_changes pl s [] k ≡ false
no_page pl s zero = any_below-none pl.iags (λ k. iag_changes pl s [] k) (λ k l. no_iag pl s k)
no_page pl s (suc k) = or_from (iag_changes pl s [] k) (lists_change pl s []) (no_iag pl s k) (no_lists pl s)

no_marks : (pl : Places) (s : Pages) (q : ℕ) → map_marks pl s [] q ≡ false
no_marks pl s q = or_from (is_block_page pl q && false) (is_inode_page pl q && inode_map_changes pl s []) (and_none (is_block_page pl q))
    (ap (λ (b : Bool). is_inode_page pl q && b) (any_below-none (suc pl.iags) (λ k. inode_page_changes pl s [] k) (λ k l. no_page pl s k)) ∙ and_none (is_inode_page pl q))

-- ---- so the entry leaves all

module _ (m : Mount) (x : Held) (h : Happened) (w : Volume) (held : IsHeld m x) (leads : LeadsTo m x h w) (none : edits h ≡ []) where
  abbrev pl : Places
  pl = m.places

  abbrev s : Pages
  s = newest_image x

  unmarked : (q : ℕ) → map_marks pl s (edits h) q ≡ false
  unmarked q = ap (λ (tx : List Edit). map_marks pl s tx q) none ∙ no_marks pl s q

  there : HasNext m.readers m.blocks m.agsize m.numag m.table m.map pl (map_marks pl) s w (edits h)
  there = next_law m.readers m.blocks m.agsize m.numag m.table m.map pl (map_marks pl) s x.volume w (edits h) held.fits held.now leads.follows

  page_same : (p : ℕ) → after_entry pl s (edits h) p ≡ s p
  page_same p = by (cases_Bool (is_map_page pl p))
    where
      by : (is_map_page pl p ≡ true) ⊎ (is_map_page pl p ≡ false) → after_entry pl s (edits h) p ≡ s p
      by (inl is) = marked_law m.readers pl x.core (edits h) (after_entry pl s (edits h)) p (areas m x held) held.core_is.sound there.follows.follows is (unmarked p)
      by (inr other) = there.follows.follows.pages p other ∙ ap (λ (tx : List Edit). apply_tx p tx (s p)) none

  dirty_same : (q : ℕ) → is_map_page pl q ≡ true → ((next m x (Changes (Enters h)) w).core.slots q).block.dirty ≡ (x.core.slots q).block.dirty
  dirty_same q is = ap (λ (b : Bool). (if b then dirtied (suc (count x.core)) (x.core.slots q).block else (x.core.slots q).block).dirty) (touched_by m x held h w leads q is ∙ unmarked q)

  pub empty : MarksStay pl x.core (next m x (Changes (Enters h)) w).core × DirtyStays x.both.volume (next m x (Changes (Enters h)) w).both.volume
  empty = (
    record { image_is = image_then m x held h w leads ∙ fun_ext page_same; marks = dirty_same },
    λ q some. by q (dirty_then m x h w q some),
  )
    where
      by : (q : ℕ) → (touches_tx q (edits h) ≡ true) ⊎ IsSome (block_in x.both.volume q).dirty → IsSome (block_in x.both.volume q).dirty
      by q (inr some) = some
      by q (inl lines) = absurd (true≢false (sym lines ∙ ap (λ (tx : List Edit). touches_tx q tx) none))

pub empty_law : EmptyLaw
empty_law m x h w held leads none = empty m x h w held leads none
