-- The inode map with a transaction's marks has in use the objects that there are after it.
use Rattle.std.proofs.Common.{◌≡◌, ◌<◌, ◌≤◌, ◌⊎◌, inl, inr, refl, sym, ap, ◌∙◌, subst, ℕ, ◌+◌, ◌*◌, ◌/◌, ◌%◌, Bool, true, false, true≢false, not, ◌&&◌, ◌||◌, ◌==◌, nat_le, nat_lt, if◌then◌else◌, List, length, get_or, set, map, Option, Some, None, is_some, arith, eqb-true}
use Rattle.std.proofs.lemmas.Bool.{cases_lt, and_parts, lt-ltb, ltb-true, leb-true, eq-eqb, le-leb}
use Rattle.std.proofs.lemmas.List.{get_or-set_same, get_or-set_other, get_or_past, length-set, map-set, length-map}
use Rattle.std.proofs.lemmas.List.FromFn.{length-map-range_with_len}
use Rattle.jfs_bits.specs.Bits.{is_in_run}
use Rattle.jfs_bits.specs.declared.descriptor.Pxd.{Pxd}
use Rattle.jfs_iag.specs.Iag.{no_run}
use Rattle.jfs_iag.specs.Canonical.{is_there}
use Rattle.jfs_marks.specs.imap.specs.Inodes.{Inodes, is_used, extent_at, home_in, home_of, with_put_back}
use Rattle.jfs_room.specs.bmap.specs.States.{Blocks}
use Rattle.jfs_ranges.specs.declared.edit.Edit.{Edit}
use Rattle.jfs_ranges.specs.Apply.{apply_tx, touches_tx}
use Rattle.jfs_marks.specs.records.specs.declared.note.Note.{Note}
use Rattle.jfs_marks.specs.objects.specs.Image.{extent_place}
use Rattle.jfs_marks.specs.objects.specs.Readers.{Readers}
use Rattle.jfs_marks.specs.objects.specs.Volume.{Volume, home, slot_of}
use Rattle.jfs_marks.specs.objects.specs.Objects.{objects, is_live}
use Rattle.jfs_marks.specs.objects.proofs.Found.{no_home, home_within as home_in_room}
use Rattle.jfs_room.specs.meaning.specs.Readers.{readers}
use Rattle.jfs_room.specs.way.specs.Volume.{volume_of, PlacesWithin}
use Rattle.jfs_room.specs.way.proofs.Places.{home_is, home_within}
use Rattle.jfs_marks.specs.steps.specs.After.{extents_after, four_from}
use Rattle.jfs_marks.specs.data_steps.specs.After.{is_put, put_data, with_data, after_writes}
use Rattle.jfs_marks.specs.data_steps.specs.declared.pages.DataPage.{DataPage}
use Rattle.jfs_marks.specs.declared.founded.Founded.{Founded}
use Rattle.jfs_marks.specs.declared.founded.Founded.TheVariants as founded
use Rattle.jfs_marks.specs.declared.changes.Met.{Met}
use Rattle.jfs_marks.specs.declared.changes.Met.TheVariants as met
use Rattle.jfs_marks.specs.declared.changes.Changes.{Changes}
use Rattle.jfs_marks.specs.declared.marks.InodeMarks.{InodeMarks}
use Rattle.jfs_marks.specs.Founded.{founded_in}
use Rattle.jfs_marks.specs.Standing.{home_with, standing}
use Rattle.jfs_marks.specs.Changes.{same_number, tx_changes}
use Rattle.jfs_marks.specs.Marks.{IsExtended, AreMarked, with_taken_if, with_freed_if}
use Rattle.jfs_entered.specs.Marked.{HasMarks, IsMapAfter, InodesLaw}
use Rattle.jfs_entered.proofs.Small.{differ, last_bits, last_extents, not_true, of_option, other_put, put_whole, reached_one, same_back, same_some, untouched}
use Rattle.jfs_entered.proofs.Noted.{Visits, Reached, From, was, now, looked, Seen, Comes, Goes, stems, seen}
use Rattle.jfs_entered.proofs.Extents.{none_founded, visited, are_short, extent_within}
use Rattle.jfs_entered.proofs.Homes.{InPlace, places, extents_one, home_after, Stands, stands_out, stands_in, live_at, number_at}
use Rattle.jfs_marks.proofs.Fitted.{lowest_is, used_with, met_of, IsFoundedAs, Says, says}

-- ---- objects before and after

module _ (blocks : ℕ) (pages : ℕ → List ℕ) (area : ℕ → ℕ) (bm : Blocks) (inodes : Inodes) (ds : List DataPage) (tx : List Edit) (notes : List Note) (marks : InodeMarks) (h : HasMarks blocks pages area bm inodes ds tx notes marks) where
  abbrev r : Readers
  r = readers blocks

  abbrev f : Founded
  f = founded_in tx

  abbrev v : Volume
  v = volume_of pages area bm inodes

  abbrev mid : Volume
  mid = with_data ds v

  abbrev w : Volume
  w = after_writes blocks ds tx v

  abbrev c : Changes
  c = tx_changes blocks pages inodes f tx ds

  said : Says inodes f c.taken c.freed marks
  said = says inodes h.are.0 f c.taken c.freed marks h.are.1 (sym h.are.2)

  in_its_place : InPlace inodes f
  in_its_place = by f said.extent_is
    where
      by : (g : Founded) → IsFoundedAs inodes g marks.extent → InPlace inodes g
      by founded.Nothing is = tt
      by (founded.One x) is = is.1.0
      by founded.Several is = is

  home_before : (n : ℕ) → home v.extents n ≡ home_of inodes n
  home_before n = home_is inodes n

  home_now : (n : ℕ) → home w.extents n ≡ home_with inodes f n
  home_now n = home_after inodes tx f refl in_its_place n

  -- a new extent's numbers had no place
  keeps_home : (n p : ℕ) → home_of inodes n ≡ Some p → home_with inodes f n ≡ Some p
  keeps_home n p e = by f said.extent_is
    where
      by : (g : Founded) → IsFoundedAs inodes g marks.extent → home_with inodes g n ≡ Some p
      by founded.Nothing is = e
      by founded.Several is = e
      by (founded.One x) is = at (n / 32 == x.place) refl
        where
          at : (b : Bool) → (n / 32 == x.place) ≡ b → (if b then Some (x.first + n % 32 / 8) else home_of inodes n) ≡ Some p
          at false q = e
          at true q = absurd (let none : home_of inodes n ≡ None = (ap (λ (k : ℕ). home_in (extent_at inodes k) n) (eqb-true (n / 32) x.place q)
              ∙ ap (λ (b : Bool). if b then Some ((extent_at inodes x.place).addr + n % 32 / 8) else None) is.1.1) in let clash = sym none ∙ e in cc (clash))

  -- an inode stands in an old extent, or on a page that is looked at
  where_it_is : (n p : ℕ) → home_with inodes f n ≡ Some p → (home_of inodes n ≡ Some p) ⊎ Visits p tx
  where_it_is n p e = by f refl e
    where
      by : (g : Founded) → f ≡ g → home_with inodes g n ≡ Some p → (home_of inodes n ≡ Some p) ⊎ Visits p tx
      by founded.Nothing is e = inl e
      by founded.Several is e = inl e
      by (founded.One x) is e = at (n / 32 == x.place) e
        where
          number : {a b : ℕ} → Some a ≡ Some b → a ≡ b
          number h = cc (h)

          at : (b : Bool) → (if b then Some (x.first + n % 32 / 8) else home_of inodes n) ≡ Some p → (home_of inodes n ≡ Some p) ⊎ Visits p tx
          at false e = inl e
          at true e = inr (subst (λ (q : ℕ). Visits q tx) (number e) ((extents_one tx x is).visits (n % 32 / 8) (omega arith)))

  never_several : (o : Option ℕ) → met_of o ≡ met.Several → ⊥
  never_several None e = cc (e)
  never_several (Some n) e = cc (e)

  looked_from : (p k : ℕ) → Seen blocks pages inodes f tx ds p k c → looked blocks pages inodes f tx ds p ≡ true
  looked_from p k s = by s.looked_at
    where
      by : (looked blocks pages inodes f tx ds p ≡ true) ⊎ (c.taken ≡ met.Several) → looked blocks pages inodes f tx ds p ≡ true
      by (inl e) = e
      by (inr e) = absurd (never_several marks.taken (sym said.taken_is ∙ e))

  -- a page that is looked at has what the transaction makes of it
  page_now : (p : ℕ) → looked blocks pages inodes f tx ds p ≡ true → w.page p ≡ apply_tx p tx (pages p)
  page_now p l = let parts = and_parts (nat_lt p blocks) (not (is_put p ds)) l in
      ap (λ (b : Bool). if b then apply_tx p tx (put_data ds pages p) else put_data ds pages p) parts.0 ∙ ap (apply_tx p tx) (other_put ds p (pages p) (not_true (is_put p ds) parts.1))

  -- one that isn't told has what the data left
  page_kept : (p : ℕ) → p < blocks → touches_tx p tx ≡ false → w.page p ≡ mid.page p
  page_kept p l t = ap (λ (b : Bool). if b then apply_tx p tx (put_data ds pages p) else put_data ds pages p) (lt-ltb p blocks l) ∙ untouched p tx (put_data ds pages p) (put_whole ds p (pages p) h.put_whole (h.whole p l)) t

  abbrev is_before : ℕ → Bool
  is_before n = is_some (objects r v n)

  abbrev is_after : ℕ → Bool
  is_after n = is_some (objects r w n)

  same_mid : (n : ℕ) → is_before n ≡ is_some (objects r mid n)
  same_mid n = sym (h.before.sound.agrees.inodes n) ∙ h.put.sound.agrees.inodes n

  at_home_before : (n p : ℕ) → home_of inodes n ≡ Some p → is_before n ≡ is_live n (slot_of (pages p) (n % 8))
  at_home_before n p e = live_at r v n p (home_before n ∙ e)

  at_home_mid : (n p : ℕ) → home_of inodes n ≡ Some p → is_before n ≡ is_live n (slot_of (mid.page p) (n % 8))
  at_home_mid n p e = same_mid n ∙ live_at r mid n p (home_before n ∙ e)

  at_home_now : (n p : ℕ) → home_with inodes f n ≡ Some p → is_after n ≡ is_live n (slot_of (w.page p) (n % 8))
  at_home_now n p e = live_at r w n p (home_now n ∙ e)

  was_stands : (n p : ℕ) → home_of inodes n ≡ Some p → is_before n ≡ true → was blocks pages inodes f tx ds p (n % 8) ≡ Some n
  was_stands n p e b = let l = sym (at_home_before n p e) ∙ b in stands_in inodes founded.Nothing p (n % 8) (slot_of (pages p) (n % 8)) n
      (record { slot_is = refl; at = e; number = number_at r v n p h.before (home_before n ∙ e) l; live = l })

  was_out : (n p : ℕ) → was blocks pages inodes f tx ds p (n % 8) ≡ Some n → is_before n ≡ true
  was_out n p e = let s = stands_out inodes founded.Nothing p (n % 8) (slot_of (pages p) (n % 8)) n e in at_home_before n p s.at ∙ s.live

  now_stands : (n p : ℕ) → home_with inodes f n ≡ Some p → looked blocks pages inodes f tx ds p ≡ true → is_after n ≡ true → now blocks pages inodes f tx ds p (n % 8) ≡ Some n
  now_stands n p e l a = let live = sym (at_home_now n p e) ∙ a in
      let number = number_at r w n p h.after (home_now n ∙ e) live in
      subst (λ (page : List ℕ). standing inodes f p page (n % 8) ≡ Some n) (page_now p l)
      (stands_in inodes f p (n % 8) (slot_of (w.page p) (n % 8)) n (record { slot_is = refl; at = e; number = number; live = live }))

  now_out : (n p k : ℕ) → looked blocks pages inodes f tx ds p ≡ true → now blocks pages inodes f tx ds p k ≡ Some n → is_after n ≡ true
  now_out n p k l e = let s = stands_out inodes f p k (slot_of (apply_tx p tx (pages p)) k) n e in
      at_home_now n p s.at ∙ ap (λ (page : List ℕ). is_live n (slot_of page (n % 8))) (page_now p l) ∙ ap (λ (j : ℕ). is_live n (slot_of (apply_tx p tx (pages p)) j)) s.slot_is ∙ s.live

  -- ---- what comes, and what goes

  comes_seen : (n p : ℕ) → home_with inodes f n ≡ Some p → Visits p tx → is_before n ≡ false → is_after n ≡ true → marks.taken ≡ Some n
  comes_seen n p e at b a =
      let s = seen blocks pages inodes f tx ds p (n % 8) at (omega arith) in
      let it = now_stands n p e (looked_from p (n % 8) s) a in
      by s.slot it
    where
      by : (same_number (was blocks pages inodes f tx ds p (n % 8)) (now blocks pages inodes f tx ds p (n % 8)) ≡ true)
          ⊎ (Reached (now blocks pages inodes f tx ds p (n % 8)) c.taken × Reached (was blocks pages inodes f tx ds p (n % 8)) c.freed)
          → now blocks pages inodes f tx ds p (n % 8) ≡ Some n → marks.taken ≡ Some n
      by (inl same) it = absurd (true≢false (sym (was_out n p (same_back (was blocks pages inodes f tx ds p (n % 8)) (now blocks pages inodes f tx ds p (n % 8)) n same it)) ∙ b))
      by (inr got) it = reached_one marks.taken n c.taken said.taken_is (subst (λ (o : Option ℕ). Reached o c.taken) it got.0)

  touched_or_not : (n p : ℕ) → home_of inodes n ≡ Some p → Visits p tx ⊎ (w.page p ≡ mid.page p)
  touched_or_not n p e = by (touches_tx p tx) refl
    where
      by : (t : Bool) → touches_tx p tx ≡ t → Visits p tx ⊎ (w.page p ≡ mid.page p)
      by true t = inl (visited blocks tx notes p h.loggable.each h.loggable.all t)
      by false t = inr (page_kept p (home_within blocks inodes n h.within p e) t)

  comes_in : (n : ℕ) → is_before n ≡ false → is_after n ≡ true → marks.taken ≡ Some n
  comes_in n b a = by (home_with inodes f n) refl
    where
      stays : (p : ℕ) → home_with inodes f n ≡ Some p → home_of inodes n ≡ Some p → w.page p ≡ mid.page p → marks.taken ≡ Some n
      stays p e old same = absurd (true≢false (sym a ∙ at_home_now n p e ∙ ap (λ (page : List ℕ). is_live n (slot_of page (n % 8))) same ∙ sym (at_home_mid n p old) ∙ b))

      old : (p : ℕ) → home_with inodes f n ≡ Some p → home_of inodes n ≡ Some p → Visits p tx ⊎ (w.page p ≡ mid.page p) → marks.taken ≡ Some n
      old p e there (inl at) = comes_seen n p e at b a
      old p e there (inr same) = stays p e there same

      where_at : (p : ℕ) → home_with inodes f n ≡ Some p → (home_of inodes n ≡ Some p) ⊎ Visits p tx → marks.taken ≡ Some n
      where_at p e (inl there) = old p e there (touched_or_not n p there)
      where_at p e (inr at) = comes_seen n p e at b a

      by : (o : Option ℕ) → home_with inodes f n ≡ o → marks.taken ≡ Some n
      by None e = absurd (true≢false (sym a ∙ ap is_some (no_home r w n (home_now n ∙ e))))
      by (Some p) e = where_at p e (where_it_is n p e)

  goes_out : (n : ℕ) → is_before n ≡ true → is_after n ≡ false → marks.freed ≡ Some n
  goes_out n b a = by (home_of inodes n) refl
    where
      gone : (p : ℕ) → home_of inodes n ≡ Some p → Visits p tx → marks.freed ≡ Some n
      gone p e at =
          let s = seen blocks pages inodes f tx ds p (n % 8) at (omega arith) in
          from s.slot (looked_from p (n % 8) s)
        where
          from : (same_number (was blocks pages inodes f tx ds p (n % 8)) (now blocks pages inodes f tx ds p (n % 8)) ≡ true)
              ⊎ (Reached (now blocks pages inodes f tx ds p (n % 8)) c.taken × Reached (was blocks pages inodes f tx ds p (n % 8)) c.freed)
              → looked blocks pages inodes f tx ds p ≡ true → marks.freed ≡ Some n
          from (inl same) l = absurd (true≢false (sym (now_out n p (n % 8) l (same_some (was blocks pages inodes f tx ds p (n % 8)) (now blocks pages inodes f tx ds p (n % 8)) n same (was_stands n p e b))) ∙ a))
          from (inr got) l = reached_one marks.freed n c.freed said.freed_is (subst (λ (o : Option ℕ). Reached o c.freed) (was_stands n p e b) got.1)

      old : (p : ℕ) → home_of inodes n ≡ Some p → Visits p tx ⊎ (w.page p ≡ mid.page p) → marks.freed ≡ Some n
      old p e (inl at) = gone p e at
      old p e (inr same) = absurd (true≢false (sym b ∙ at_home_mid n p e ∙ ap (λ (page : List ℕ). is_live n (slot_of page (n % 8))) (sym same) ∙ sym (at_home_now n p (keeps_home n p e)) ∙ a))

      by : (o : Option ℕ) → home_of inodes n ≡ o → marks.freed ≡ Some n
      by None e = absurd (true≢false (sym b ∙ ap is_some (no_home r v n (home_before n ∙ e))))
      by (Some p) e = old p e (touched_or_not n p e)

  pub taken_live : (n : ℕ) → marks.taken ≡ Some n → is_after n ≡ true
  taken_live n e = let s : Comes blocks pages inodes f tx ds n = subst (λ (m : Met). From (Comes blocks pages inodes f tx ds) m) (said.taken_is ∙ ap met_of e) (stems blocks pages inodes f tx ds).taken in
      now_out n s.page_of_it s.slot s.looked_at s.stands

  pub freed_dead : (n : ℕ) → marks.freed ≡ Some n → is_after n ≡ false
  freed_dead n e = by (is_after n) refl
    where
      s : Goes blocks pages inodes f tx ds n
      s = subst (λ (m : Met). From (Goes blocks pages inodes f tx ds) m) (said.freed_is ∙ ap met_of e) (stems blocks pages inodes f tx ds).freed

      stood : Stands inodes founded.Nothing s.page_of_it s.slot (slot_of (pages s.page_of_it) s.slot) n
      stood = stands_out inodes founded.Nothing s.page_of_it s.slot (slot_of (pages s.page_of_it) s.slot) n s.stood

      by : (x : Bool) → is_after n ≡ x → x ≡ false
      by false a = refl
      by true a = absurd (differ n (was blocks pages inodes f tx ds s.page_of_it s.slot) (now blocks pages inodes f tx ds s.page_of_it s.slot) s.other s.stood
          (subst (λ (k : ℕ). now blocks pages inodes f tx ds s.page_of_it k ≡ Some n) stood.slot_is
          (now_stands n s.page_of_it (keeps_home n s.page_of_it stood.at) s.looked_at a)))

  -- an inode that is taken wasn't in use, and one that is freed was
  pub taken_fresh : (n : ℕ) → marks.taken ≡ Some n → is_before n ≡ false
  taken_fresh n e = by (is_before n) refl
    where
      s : Comes blocks pages inodes f tx ds n
      s = subst (λ (m : Met). From (Comes blocks pages inodes f tx ds) m) (said.taken_is ∙ ap met_of e) (stems blocks pages inodes f tx ds).taken

      stands : Stands inodes f s.page_of_it s.slot (slot_of (apply_tx s.page_of_it tx (pages s.page_of_it)) s.slot) n
      stands = stands_out inodes f s.page_of_it s.slot (slot_of (apply_tx s.page_of_it tx (pages s.page_of_it)) s.slot) n s.stands

      same_page : {p q : ℕ} → Some p ≡ Some q → p ≡ q
      same_page h = cc (h)

      by : (x : Bool) → is_before n ≡ x → x ≡ false
      by false b = refl
      by true b = at (home_of inodes n) refl
        where
          at : (o : Option ℕ) → home_of inodes n ≡ o → true ≡ false
          at None h = sym b ∙ ap is_some (no_home r v n (home_before n ∙ h))
          at (Some p) h = absurd (
              let here : p ≡ s.page_of_it = same_page (sym (keeps_home n p h) ∙ stands.at) in
              let stood = was_stands n p h b in
              differ n (was blocks pages inodes f tx ds s.page_of_it s.slot) (now blocks pages inodes f tx ds s.page_of_it s.slot) s.other
              (subst (λ (k : ℕ). was blocks pages inodes f tx ds s.page_of_it k ≡ Some n) stands.slot_is (subst (λ (q : ℕ). was blocks pages inodes f tx ds q (n % 8) ≡ Some n) here stood)) s.stands)

  pub freed_live : (n : ℕ) → marks.freed ≡ Some n → is_before n ≡ true
  freed_live n e = was_out n s.page_of_it (subst (λ (k : ℕ). was blocks pages inodes f tx ds s.page_of_it k ≡ Some n) (sym stood.slot_is) s.stood)
    where
      s : Goes blocks pages inodes f tx ds n
      s = subst (λ (m : Met). From (Goes blocks pages inodes f tx ds) m) (said.freed_is ∙ ap met_of e) (stems blocks pages inodes f tx ds).freed

      stood : Stands inodes founded.Nothing s.page_of_it s.slot (slot_of (pages s.page_of_it) s.slot) n
      stood = stands_out inodes founded.Nothing s.page_of_it s.slot (slot_of (pages s.page_of_it) s.slot) n s.stood

  -- a freed inode isn't one of the first four
  freed_behind : (n : ℕ) → marks.freed ≡ Some n → nat_le 4 n ≡ true
  freed_behind n e = by (cases_lt n 4)
    where
      s : Goes blocks pages inodes f tx ds n
      s = subst (λ (m : Met). From (Goes blocks pages inodes f tx ds) m) (said.freed_is ∙ ap met_of e) (stems blocks pages inodes f tx ds).freed

      stood : Stands inodes founded.Nothing s.page_of_it s.slot (slot_of (pages s.page_of_it) s.slot) n
      stood = stands_out inodes founded.Nothing s.page_of_it s.slot (slot_of (pages s.page_of_it) s.slot) n s.stood

      by : (n < 4) ⊎ (4 ≤ n) → nat_le 4 n ≡ true
      by (inr l) = le-leb 4 n l
      by (inl l) = absurd (true≢false (sym (at_home_now n s.page_of_it (keeps_home n s.page_of_it stood.at)
          ∙ ap (λ (x : Bool). x || not ((slot_of (w.page s.page_of_it) (n % 8)).nlink == 0)) (lt-ltb n 4 l)) ∙ freed_dead n e))

  -- ---- the map with the marks

  kept_length : (mid : Inodes) → IsExtended inodes marks.extent mid → length mid.extents ≡ length inodes.extents
  kept_length mid is = by marks.extent is
    where
      by : (x : Option Pxd) → IsExtended inodes x mid → length mid.extents ≡ length inodes.extents
      by None is = ap (λ (m : Inodes). length m.extents) is
      by (Some at) is = ap (λ (m : Inodes). length m.extents) is.2 ∙ length-set inodes.extents is.0 at

  kept_bits : (mid : Inodes) → IsExtended inodes marks.extent mid → length mid.taken ≡ length inodes.taken
  kept_bits mid is = by marks.extent is
    where
      by : (x : Option Pxd) → IsExtended inodes x mid → length mid.taken ≡ length inodes.taken
      by None is = ap (λ (m : Inodes). length m.taken) is
      by (Some at) is = ap (λ (m : Inodes). length m.taken) is.2 ∙ length-map-range_with_len (λ (k : ℕ). not (is_in_run (32 * is.0) 32 k) && is_used inodes k) 0 (length inodes.taken)

  -- the extents are those of the volume after
  extents_with : (mid : Inodes) → IsExtended inodes marks.extent mid → map extent_place mid.extents ≡ extents_after tx (places inodes)
  extents_with mid is = by f refl said.extent_is
    where
      by : (g : Founded) → f ≡ g → IsFoundedAs inodes g marks.extent → map extent_place mid.extents ≡ extents_after tx (places inodes)
      by founded.Several e s = absurd s
      by founded.Nothing e s = ap (λ (m : Inodes). map extent_place m.extents) (subst (λ (x : Option Pxd). IsExtended inodes x mid) s is) ∙ sym ((none_founded tx founded.Nothing e).1 (places inodes))
      by (founded.One x) e s = let it : IsExtended inodes (Some (four_from x.first)) mid = subst (λ (x : Option Pxd). IsExtended inodes x mid) s.0 is in
          ap (λ (m : Inodes). map extent_place m.extents) it.2 ∙ map-set extent_place inodes.extents it.0 (four_from x.first)
          ∙ ap (λ (k : ℕ). set (places inodes) k (Some x.first)) (lowest_is inodes it.0 x.place it.1 s.1) ∙ sym ((extents_one tx x e).extents (places inodes))

  -- no inode of a new extent was in use
  used_mid : (mid : Inodes) → IsExtended inodes marks.extent mid → (i : ℕ) → is_used mid i ≡ is_before i
  used_mid mid is i = by marks.extent is ∙ h.before.sound.agrees.inodes i
    where
      by : (x : Option Pxd) → IsExtended inodes x mid → is_used mid i ≡ is_used inodes i
      by None is = ap (λ (m : Inodes). is_used m i) is
      by (Some at) is = ap (λ (m : Inodes). is_used m i) is.2 ∙ used_with inodes is.0 at i ∙ in_run (is_in_run (32 * is.0) 32 i) refl
        where
          in_run : (b : Bool) → is_in_run (32 * is.0) 32 i ≡ b → (not b && is_used inodes i) ≡ is_used inodes i
          in_run false e = refl
          in_run true e = sym (h.before.sound.agrees.inodes i ∙ ap is_some (no_home r v i (home_before i ∙ none)))
            where
              parts : (nat_le (32 * is.0) i ≡ true) × (nat_lt i (32 * is.0 + 32) ≡ true)
              parts = and_parts (nat_le (32 * is.0) i) (nat_lt i (32 * is.0 + 32)) e

              place : i / 32 ≡ is.0
              place = let a = leb-true (32 * is.0) i parts.0 in let b = ltb-true i (32 * is.0 + 32) parts.1 in omega (arith, a, b)

              none : home_of inodes i ≡ None
              none = ap (λ (k : ℕ). home_in (extent_at inodes k) i) place ∙ ap (λ (b : Bool). if b then Some ((extent_at inodes is.0).addr + i % 32 / 8) else None) is.1.1

  -- an inode that there is has a bit
  has_bit : (mid : Inodes) → IsExtended inodes marks.extent mid → (n : ℕ) → is_after n ≡ true → n < length mid.taken
  has_bit mid is n a = by (home w.extents n) refl
    where
      by : (o : Option ℕ) → home w.extents n ≡ o → n < length mid.taken
      by None e = absurd (true≢false (sym a ∙ ap is_some (no_home r w n e)))
      by (Some p) e = let l = home_in_room w n p e in let m = kept_bits mid is in let k = h.bits in
          let same = ap (λ (x : List (Option ℕ)). length x) (sym (extents_with mid is)) ∙ length-map mid.extents extent_place ∙ kept_length mid is in omega (arith, l, m, k, same)

  -- the bit of an inode that is taken
  used_taken : (mid : Inodes) → IsExtended inodes marks.extent mid → (i : ℕ) → ((marks.taken ≡ Some i) → is_used (with_taken_if marks.taken mid) i ≡ true) × (((marks.taken ≡ Some i) → ⊥) → is_used (with_taken_if marks.taken mid) i ≡ is_before i)
  used_taken mid is i = by marks.taken refl
    where
      by : (o : Option ℕ) → marks.taken ≡ o → ((o ≡ Some i) → is_used (with_taken_if o mid) i ≡ true) × (((o ≡ Some i) → ⊥) → is_used (with_taken_if o mid) i ≡ is_before i)
      by None e = ((λ x. absurd (cc (x))), λ x. used_mid mid is i)
      by (Some n) e = (
        (λ x. subst (λ (k : ℕ). get_or (set mid.taken n true) k false ≡ true) (number x) (get_or-set_same mid.taken n true false (has_bit mid is n (taken_live n e)))),
        λ x. get_or-set_other mid.taken n i true false (λ same. x (ap Some (sym same))) ∙ used_mid mid is i,
      )
        where
          number : {a b : ℕ} → Some a ≡ Some b → a ≡ b
          number h = cc (h)

  -- and of one that is given back
  used_freed : (m : Inodes) (i : ℕ) → ((marks.freed ≡ Some i) → is_used (with_freed_if marks.freed m) i ≡ false) × (((marks.freed ≡ Some i) → ⊥) → is_used (with_freed_if marks.freed m) i ≡ is_used m i)
  used_freed m i = by marks.freed refl
    where
      number : {a b : ℕ} → Some a ≡ Some b → a ≡ b
      number h = cc (h)

      cleared : (n : ℕ) → get_or (set m.taken n false) n false ≡ false
      cleared n = elim (cases_lt n (length m.taken)) [
        | inl l ↦ get_or-set_same m.taken n false false l
        | inr l ↦ get_or_past (set m.taken n false) n false (let s = length-set m.taken n false in omega (arith, l, s))
      ]

      by : (o : Option ℕ) → marks.freed ≡ o → ((o ≡ Some i) → is_used (with_freed_if o m) i ≡ false) × (((o ≡ Some i) → ⊥) → is_used (with_freed_if o m) i ≡ is_used m i)
      by None e = ((λ x. absurd (cc (x))), λ x. refl)
      by (Some n) e = (
        (λ x. subst (λ (k : ℕ). is_used (with_put_back n m) k ≡ false) (number x) (ap (λ (b : Bool). is_used (if b && is_used m n then record m { taken = set m.taken n false } else m) n) (freed_behind n e) ∙ at (is_used m n) refl)),
        λ x. other (nat_le 4 n && is_used m n) (λ same. x (ap Some (sym same))),
      )
        where
          at : (b : Bool) → is_used m n ≡ b → is_used (if b then record m { taken = set m.taken n false } else m) n ≡ false
          at true u = cleared n
          at false u = u

          other : (b : Bool) → (i ≡ n → ⊥) → is_used (if b then record m { taken = set m.taken n false } else m) i ≡ is_used m i
          other true ne = get_or-set_other m.taken n i false false ne
          other false ne = refl

  same_ends : (n : ℕ) → ((marks.taken ≡ Some n) → ⊥) → ((marks.freed ≡ Some n) → ⊥) → is_before n ≡ is_after n
  same_ends n t g = by (is_before n) refl (is_after n) refl
    where
      by : (x : Bool) → is_before n ≡ x → (y : Bool) → is_after n ≡ y → x ≡ y
      by true b true a = refl
      by false b false a = refl
      by false b true a = absurd (t (comes_in n b a))
      by true b false a = absurd (g (goes_out n b a))

  in_use_now : (mid : Inodes) → IsExtended inodes marks.extent mid → (i : ℕ) → is_used (with_freed_if marks.freed (with_taken_if marks.taken mid)) i ≡ is_after i
  in_use_now mid is i = by_freed (of_option marks.freed i)
    where
      by_taken : ((marks.freed ≡ Some i) → ⊥) → (marks.taken ≡ Some i) ⊎ (marks.taken ≡ Some i → ⊥) → is_used (with_taken_if marks.taken mid) i ≡ is_after i
      by_taken g (inl t) = (used_taken mid is i).0 t ∙ sym (taken_live i t)
      by_taken g (inr t) = (used_taken mid is i).1 t ∙ same_ends i t g

      by_freed : (marks.freed ≡ Some i) ⊎ (marks.freed ≡ Some i → ⊥) → is_used (with_freed_if marks.freed (with_taken_if marks.taken mid)) i ≡ is_after i
      by_freed (inl g) = (used_freed (with_taken_if marks.taken mid) i).0 g ∙ sym (freed_dead i g)
      by_freed (inr g) = (used_freed (with_taken_if marks.taken mid) i).1 g ∙ by_taken g (of_option marks.taken i)

  -- ---- the map

  within_mid : (mid : Inodes) → IsExtended inodes marks.extent mid → PlacesWithin blocks mid
  within_mid mid is = by f refl said.extent_is
    where
      by : (g : Founded) → f ≡ g → IsFoundedAs inodes g marks.extent → PlacesWithin blocks mid
      by founded.Several e s = absurd s
      by founded.Nothing e s = subst (λ (m : Inodes). PlacesWithin blocks m) (sym (subst (λ (x : Option Pxd). IsExtended inodes x mid) s is)) h.within
      by (founded.One x) e s = let it : IsExtended inodes (Some (four_from x.first)) mid = subst (λ (x : Option Pxd). IsExtended inodes x mid) s.0 is in
          subst (λ (m : Inodes). PlacesWithin blocks m) (sym it.2) (λ k there. at k it.0 it.1.0 there (k == it.0) refl)
        where
          small : x.first + 4 ≤ blocks
          small = from (extent_within blocks tx founded.Nothing x (are_short blocks tx notes h.loggable.each h.loggable.all) e)
            where
              from : (founded.Nothing ≡ founded.One x) ⊎ (x.first + 4 ≤ blocks) → x.first + 4 ≤ blocks
              from (inl q) = absurd (cc (q))
              from (inr q) = q

          at : (k e : ℕ) → e < length inodes.extents → is_there (get_or (set inodes.extents e (four_from x.first)) k no_run) ≡ true → (b : Bool) → (k == e) ≡ b → (get_or (set inodes.extents e (four_from x.first)) k no_run).addr + 4 ≤ blocks
          at k e l there true q = subst (λ (p : Pxd). p.addr + 4 ≤ blocks) (sym (ap (λ (j : ℕ). get_or (set inodes.extents e (four_from x.first)) j no_run) (eqb-true k e q) ∙ get_or-set_same inodes.extents e (four_from x.first) no_run l)) small
          at k e l there false q = let same = get_or-set_other inodes.extents e k (four_from x.first) no_run (λ eq. true≢false (sym (eq-eqb k e eq) ∙ q)) in
              subst (λ (p : Pxd). p.addr + 4 ≤ blocks) (sym same) (h.within k (ap is_there (sym same) ∙ there))

  map_after_marks : (new : Inodes) → AreMarked inodes marks new → IsMapAfter blocks inodes new tx w
  map_after_marks new m = subst (λ (x : Inodes). IsMapAfter blocks inodes x tx w) (sym m.is) (record {
    extents = ap (λ (es : List Pxd). map extent_place es) (last_extents marks.taken marks.freed m.mid) ∙ extents_with m.mid m.extended;
    in_use = λ n. in_use_now m.mid m.extended n ∙ sym (h.after.sound.agrees.inodes n);
    places = ap (λ (es : List Pxd). length es) (last_extents marks.taken marks.freed m.mid) ∙ kept_length m.mid m.extended;
    within = λ e there. (let same = last_extents marks.taken marks.freed m.mid in subst (λ (es : List Pxd). (get_or es e no_run).addr + 4 ≤ blocks) (sym same) (within_mid m.mid m.extended e (ap (λ (es : List Pxd). is_there (get_or es e no_run)) (sym same) ∙ there)));
    bits = last_bits marks.taken marks.freed m.mid ∙ kept_bits m.mid m.extended ∙ h.bits ∙ ap (λ (n : ℕ). 32 * n) (sym (ap (λ (es : List Pxd). length es) (last_extents marks.taken marks.freed m.mid) ∙ kept_length m.mid m.extended));
  })

pub inodes_law : InodesLaw
inodes_law blocks pages area bm inodes new ds tx notes marks h m = map_after_marks blocks pages area bm inodes ds tx notes marks h new m
