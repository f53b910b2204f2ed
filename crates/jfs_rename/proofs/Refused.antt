-- A rename that nothing bars is refused for faults and want of memory alone.
use Rattle.std.proofs.Common.{◌≡◌, ◌<◌, refl, sym, ap, ◌∙◌, inl, inr, ℕ, Bool, true, false, true≢false, ◌&&◌, nat_lt, List, [], length, Option, Some, None, Result, Ok, Err, arith}
use Rattle.jfs_bits.specs.declared.descriptor.Moment.{Moment}
use Rattle.jfs_bits.specs.declared.descriptor.Pxd.{Pxd}
use Rattle.jfs_imap.specs.Inodes.{Inodes}
use Rattle.jfs_bmap.specs.States.{Blocks, is_owned}
use Rattle.jfs_name.specs.declared.name.NameEntry.{NameEntry}
use Rattle.jfs_name.specs.Directory.{named}
use Rattle.jfs_ranges.specs.declared.edit.Edit.{Edit}
use Rattle.jfs_ranges.specs.declared.view.ViewError.{ViewError}
use Rattle.jfs_ranges.specs.declared.view.ViewError.TheVariants.{Read, Memory}
use Rattle.jfs_tree.specs.Edit.{count_in}
use Rattle.jfs_tree.specs.Fresh.{blocks_of}
use Rattle.jfs_dtree.specs.Adding.{RefusesName}
use Rattle.jfs_dtree.specs.Room.{is_deep}
use Rattle.jfs_dtree.specs.Spells.{spells_names, owned_pages}
use Rattle.jfs_dtree.specs.declared.error.DtError.{DtError}
use Rattle.jfs_dtree.specs.declared.error.DtError.TheVariants as dt
use Rattle.jfs_plain.specs.Tree.{named_in}
use Rattle.jfs_plain.specs.Step.{entry_as}
use Rattle.jfs_plain.specs.declared.node.Node.{Node}
use Rattle.jfs_plain.specs.declared.refusal.Refusal.{Refusal}
use Rattle.jfs_link.specs.objects.specs.Objects.{IsWhole, spelled, has_names}
use Rattle.jfs_link.specs.objects.specs.Owners.{holds}
use Rattle.jfs_link.specs.objects.proofs.Owned.{owned_once}
use Rattle.jfs_link.specs.objects.proofs.Sums.{zero_or_more}
use Rattle.jfs_link.specs.meaning.specs.Readers.{readers, root_of}
use Rattle.jfs_link.specs.room.proofs.Rooms.{held_law}
use Rattle.jfs_link.specs.way.specs.Answer.{is_open, names_refusal}
use Rattle.jfs_link.specs.way.specs.Volume.{volume_of}
use Rattle.jfs_link.specs.way.specs.Way.{name_from}
use Rattle.jfs_link.specs.way.specs.Walk.{IsHeld, IsShown, tree_in}
use Rattle.jfs_link.specs.way.specs.declared.object.Held.{Held}
use Rattle.jfs_link.specs.steps.specs.Gains.{GainRefused}
use Rattle.jfs_link.specs.steps.specs.Place.{last_of}
use Rattle.jfs_link.specs.steps.proofs.LastNames.{object_is}
use Rattle.jfs_link.specs.claim.specs.Take.{AreFresh}
use Rattle.jfs_link.specs.lead_steps.proofs.Turned.{dir_holds, no_extents_of}
use Rattle.jfs_unlink.specs.loss.proofs.Holds.{extents_listed}
use Rattle.jfs_unlink.proofs.Ended.{root_is}
use Rattle.jfs_unlink.proofs.Meeting.{only_open}
use Rattle.jfs_rename_steps.specs.Moves.{FreeRefused, OverRefused, gain_of}
use Rattle.jfs_rename_steps.specs.Objects.{goes, MeetsIf}
use Rattle.jfs_rename_steps.specs.declared.moving.Moving.{Moving}
use Rattle.jfs_rename.specs.Asks.{MayMove, MayReplace}
use Rattle.jfs_rename.specs.Done.{AreOn, room_in}
use Rattle.jfs_rename.proofs.Ground.{was_q, node_q}
use Rattle.jfs_rename.proofs.Moved.{stays_open}
use Rattle.jfs_rename.proofs.Replaced.{stays_open_over}

views : (dir page : ℕ) (e : ViewError) → is_open (names_refusal dir page (dt.View e)) ≡ true
views dir page (Read fault) = refl
views dir page Memory = refl

module _ (blocks : ℕ) (pages : ℕ → List ℕ) (area : ℕ → ℕ) (bm : Blocks) (inodes : Inodes) (moving : Moving) (on : AreOn blocks pages area bm inodes moving) (from to : List (List ℕ)) (now : Moment) (log_pages : ℕ)
    (may : MayMove from to moving (room_in blocks pages area bm inodes log_pages) (tree_in blocks pages area bm inodes)) (free : List Pxd) (fresh : AreFresh bm 8 (blocks_of free)) where
  abbrev dir : Held
  dir = moving.target

  abbrev name : List ℕ
  name = last_of to

  abbrev es : List NameEntry
  es = (node_q blocks pages area bm inodes moving on from to may.ends).node.names

  spelled_es : spells_names blocks pages (root_of dir.inode) ≡ Ok es
  spelled_es = (node_q blocks pages area bm inodes moving on from to may.ends).names on.dirs.1

  unnamed : named name es ≡ None
  unnamed = sym (ap (λ (x : Option Node). named_in x name) (node_q blocks pages area bm inodes moving on from to may.ends).there) ∙ may.free

  unused : (b : ℕ) → 0 < count_in b (blocks_of free) → (volume_of pages area bm inodes).used b ≡ false
  unused b l = by (nat_lt b (length bm.states)) (fresh.unowned b l)
    where
      by : (x : Bool) → is_owned bm b ≡ false → (x && is_owned bm b) ≡ false
      by true e = e
      by false e = refl

  spare : (b : ℕ) → 0 < count_in b (blocks_of free) → owned_pages blocks pages (root_of dir.inode) b ≡ 0
  spare b l = elim (zero_or_more (owned_pages blocks pages (root_of dir.inode) b)) [
    | inl e ↦ e
    | inr o ↦ absurd (true≢false (sym ((owned_once (readers blocks) (volume_of pages area bm inodes) on.con.sound.agrees).in_use dir.number b
        (let h = dir_holds blocks pages dir.inode es b on.dirs.1 (no_extents_of dir.inode on.dirs.1) spelled_es in let x = ap (λ o. holds (readers blocks) o b) (was_q blocks pages area bm inodes moving on from to may.ends) in omega (arith, h, x, o))) ∙ unused b l))
  ]

  not_deep : is_deep blocks pages (root_of dir.inode) name ≡ false
  not_deep = sym (ap (λ (y : Bool). y && is_deep blocks pages (root_of dir.inode) name) on.dirs.1) ∙ sym (held_law blocks log_pages pages area bm inodes dir name on.con on.held.2 on.shown.2 may.ends.target_there) ∙ may.takes_name

  gain_open : (why : Refusal) → GainRefused blocks pages dir name (gain_of moving now) free why → is_open why ≡ true
  gain_open why (inl o) = o
  gain_open why (inr (e, is, refuses, tells)) = by e is refuses
    where
      some : {k : ℕ} → None ≡ Some k → ⊥
      some h = cc (h)

      by : (e : DtError) → why ≡ names_refusal dir.number dir.page e → RefusesName blocks pages (entry_as name moving.object.number) (root_of dir.inode) (blocks_of free) e → is_open why ≡ true
      by (dt.View v) is h = ap is_open is ∙ views dir.number dir.page v
      by (dt.Bad page rule) is h = absurd (h es spelled_es (record { once = fresh.once; apart = spare }))
      by dt.Exists is h = absurd (some (sym unnamed ∙ (h es spelled_es).1))
      by dt.Missing is h = absurd h
      by dt.TooDeep is h = absurd (true≢false (sym (h es spelled_es).1 ∙ not_deep))

  pub free_open : (why : Refusal) → FreeRefused blocks pages moving (last_of from) name now free why → is_open why ≡ true
  free_open why (inl g) = gain_open why g
  free_open why (inr (after, left, g, inl o)) = o
  free_open why (inr (after, left, g, inr (there, a, loss))) = stays_open blocks pages area bm inodes moving on from to now log_pages may free fresh left after g why there a loss

module _ (blocks : ℕ) (pages : ℕ → List ℕ) (area : ℕ → ℕ) (bm : Blocks) (inodes : Inodes) (moving : Moving) (on : AreOn blocks pages area bm inodes moving) (there : Held) (held_k : IsHeld blocks inodes there) (shown_k : IsShown pages there)
    (from to : List (List ℕ)) (now : Moment) (limit log_pages : ℕ) (same_limit : (room_in blocks pages area bm inodes log_pages).limit ≡ limit) (may : MayReplace from to limit moving there (room_in blocks pages area bm inodes log_pages) (tree_in blocks pages area bm inodes))
    (found : name_from blocks pages inodes moving.target (last_of to) ≡ Ok there) where
  whole_k : IsWhole (readers blocks) (spelled (readers blocks) pages there.inode)
  whole_k = on.con.sound.whole there.number (spelled (readers blocks) pages there.inode) (object_is blocks pages area bm inodes on.con there held_k shown_k may.stands)

  frees_open : (x : Bool) (why : Refusal) → MeetsIf x blocks pages there why → is_open why ≡ true
  frees_open true why (inl h) = absurd (h.1.1 whole_k.extents (sym (extents_listed blocks pages there.inode (root_is blocks pages area bm inodes on.con there held_k shown_k may.stands on.whole) h.1.0) ∙ whole_k.extents_are))
  frees_open true why (inr h) = h
  frees_open false why h = h

  pub over_open : (why : Refusal) → OverRefused blocks pages moving there (last_of from) (last_of to) now why → is_open why ≡ true
  over_open why (inl m) = frees_open (goes there.inode) why m
  over_open why (inr (inl l)) = only_open blocks pages inodes moving.target there (last_of to) found why l
  over_open why (inr (inr (freed, target, led, put, frees, leads, puts, lines, inl o))) = o
  over_open why (inr (inr (freed, target, led, put, frees, leads, puts, lines, inr (arriving, a, loss)))) =
      stays_open_over blocks pages area bm inodes moving on there held_k shown_k from to now limit log_pages same_limit may freed target led put frees leads puts lines why arriving a loss
