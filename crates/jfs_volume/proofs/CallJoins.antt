-- The entry of a file call joins, or what was reserved for it is given back.
use Rattle.std.proofs.Common.{◌≡◌, ◌≤◌, ◌==◌, ◌&&◌, ◌||◌, ◌++◌, refl, sym, ap, ap₂, ◌∙◌, subst, ℕ, Bool, true, false, not, is_some, List, [], ◌∷◌, length, Option, Some, None, inl, inr, arith}
use Rattle.jfs_bits.specs.declared.descriptor.Moment.{Moment}
use Rattle.jfs_disk.specs.Image.{Image, page_of}
use Rattle.jfs_halves.specs.crash_core.specs.Image.{pages_after}
use Rattle.jfs_disk.specs.declared.disk.Fault.{Fault}
use Rattle.std.proofs.lemmas.Bool.{eqb-true}
use Rattle.jfs_bmap.specs.States.{Blocks, BlockState, Free, put_state, state_of, is_busy_state, AreReserved}
use Rattle.jfs_ranges.specs.View.{AreWhole}
use Rattle.jfs_ranges.specs.declared.edit.Edit.{Edit}
use Rattle.jfs_marks.specs.data_steps.specs.After.{LieWithin, EachOnce, is_put}
use Rattle.jfs_marks.specs.data_steps.specs.declared.pages.DataPage.{DataPage}
use Rattle.jfs_pages.specs.declared.dirty.Dirty.{Dirty}
use Rattle.jfs_pages.specs.Device.{IsFault, IsSame}
use Rattle.jfs_pages.specs.Dirty.{dirty_of}
use Rattle.jfs_plain.specs.declared.call.Entry.{Entry}
use Rattle.jfs_records.specs.declared.note.Note.{Note}
use Rattle.jfs_records.specs.Records.{Noted, noted}
use Rattle.jfs_records.specs.Sizes.{entry_size}
use Rattle.jfs_marks.specs.Notes.{notes_on}
use Rattle.jfs_marks.specs.declared.marks.InodeMarks.{InodeMarks}
use Rattle.jfs_halves.specs.Half.{VolumeHalf}
use Rattle.jfs_halves.specs.Parts.{Parts, Text, StandsFor, Asked, OfEachHalf}
use Rattle.jfs_halves.specs.Change.{Enters, SameStates}
use Rattle.jfs_halves.specs.Moves.{Moves}
use Rattle.jfs_volume.specs.Append.{Adds, AddsEntry, Appends, IsWritable, ShowsEntry, StaysAll, Fails, TellsFault, unreserved}
use Rattle.jfs_volume.specs.Data.{AreClean, put_pages, IsPartlyPut}
use Rattle.jfs_volume.specs.Room.{has_room}
use Rattle.jfs_volume.specs.Runs.{taken_in}
use Rattle.jfs_volume.specs.Written.{writes, StopsWriting}
use Rattle.jfs_volume.specs.Called.{IsJoined, happened, GivesBack, MayGiveBack, GoesOn, FailsBy, CallIs, StaysOut, ReservedIs, IsRead, FitsBeside, LacksRoom, are_clean}
use Rattle.jfs_volume.specs.declared.calling.Beside.{Beside}
use Rattle.jfs_volume.specs.declared.calling.Called.{Called}
use Rattle.jfs_volume.specs.declared.calling.Called.TheVariants as called
use Rattle.jfs_volume.specs.declared.joined.Joined.TheVariants as joined
use Rattle.jfs_volume.proofs.Appending.{from_before, stops_before, kept_stays, kept_same}
use Rattle.jfs_volume.proofs.Entering.{stays_moves}
use Rattle.jfs_volume.proofs.Texts.{tx_of-noted}

pub lies_within : (few many : ℕ) (put : List DataPage) → few ≤ many → LieWithin few put → LieWithin many put
lies_within few many [] more all = tt
lies_within few many (d ∷ ds) more all = let first = all.0 in (omega (arith, first, more), lies_within few many ds more all.1)

-- ---- pages that aren't dirty

none_some : {X : Type 0} (x : Option X) → not (is_some x) ≡ true → x ≡ None
none_some None h = refl
none_some (Some x) h = absurd (cc (h))

both_left : (a b : Bool) → (a && b) ≡ true → a ≡ true
both_left true b h = refl
both_left false b h = absurd (cc (h))

both_right : (a b : Bool) → (a && b) ≡ true → b ≡ true
both_right true b h = h
both_right false b h = absurd (cc (h))

clean_at : (d : DataPage) (ds : List DataPage) (dirty : List Dirty) (b : ℕ) (here : Bool) → (d.block == b) ≡ here → (here || is_put b ds) ≡ true → dirty_of dirty d.block ≡ None → ((c : ℕ) → is_put c ds ≡ true → dirty_of dirty c ≡ None) → dirty_of dirty b ≡ None
clean_at d ds dirty b true same put first rest = subst (λ (n : ℕ). dirty_of dirty n ≡ None) (eqb-true d.block b same) first
clean_at d ds dirty b false same put first rest = rest b put

pub are_all_clean : (put : List DataPage) (dirty : List Dirty) → are_clean put dirty ≡ true → AreClean put dirty
are_all_clean [] dirty h b put = absurd (cc (put))
are_all_clean (d ∷ ds) dirty h b put = let first = both_left (not (is_some (dirty_of dirty d.block))) (are_clean ds dirty) h in let rest = both_right (not (is_some (dirty_of dirty d.block))) (are_clean ds dirty) h in
    clean_at d ds dirty b (d.block == b) refl put (none_some (dirty_of dirty d.block) first) (are_all_clean ds dirty rest)

-- ---- what was read before

-- reserved blocks that are free again don't see what was read
writable_over : (tx : List Edit) (put : List DataPage) (old mid : Parts) → mid ≡ record old { view = mid.view; disk = mid.disk; past = mid.past; faults = mid.faults } → IsWritable put (unreserved tx old) → IsWritable put (unreserved tx mid)
writable_over tx put old mid same may b is = (ap (λ (p : Parts). dirty_of p.dirty b) same ∙ (may b is).0, ap (λ (p : Parts). is_busy_state (state_of (put_state Free (taken_in tx) p.map) b)) same ∙ (may b is).1)

module _ (tells crashes : Type 0) (old mid new : Parts) (read : IsRead tells crashes old mid) where
  adds_over : (entry : Entry) (list : List Noted) (marks : InodeMarks) → Adds entry list marks mid new → Adds entry list marks old new
  adds_over entry list marks a = let b = subst (λ (p : Parts). Adds entry list marks p new) read.parts a in record { parts = b.parts; dirty = b.dirty; map = b.map; inodes = b.inodes }

  same_dirty : mid.dirty ≡ old.dirty
  same_dirty = ap (λ (p : Parts). p.dirty) read.parts

  -- they stand for the same half
  stands_over : (seen asked : Bool) (tx : List Edit) (half : VolumeHalf) → Asked seen tells → Asked asked crashes → StandsFor seen asked (unreserved tx old) half → StandsFor seen asked (unreserved tx mid) half
  stands_over seen asked tx half told crash s = (stays_moves seen asked tx old mid half s (record {
    parts = read.parts ∙ ap (λ (p : Parts). record old { view = mid.view; disk = mid.disk; past = mid.past; faults = mid.faults; map = p.map }) (sym read.parts);
    map = record { states = ap (λ (p : Parts). p.map.states) read.parts; agsize = ap (λ (p : Parts). p.map.agsize) read.parts };
  }) (λ t. read.view (told t)) (λ t. read.disk.image (told t)) (λ t k. read.disk.states (crash k))).stands

  pub enters : (entry : Entry) (tx : List Edit) (put : List DataPage) (number : ℕ) (beside : Beside) → (tells → AreWhole old.blocks old.view) → are_clean put old.dirty ≡ true → IsWritable put (unreserved tx old) → mid.faults ≡ old.faults
      → FitsBeside tells (length old.map.states) (page_of old.view) old.inodes tx put beside
      → (IsWritable put (unreserved tx mid) → (now : Moment) → OfEachHalf tells crashes (unreserved tx mid) (λ seen asked half. Appends seen asked entry now (noted tx beside.notes) put mid new half (joined.Entered number)))
      → AddsEntry entry (noted tx beside.notes) beside.marks mid new (joined.Entered number) → has_room mid.text (entry_size (noted tx beside.notes)) ≡ true → TellsFault mid.faults new.faults (joined.Entered number) → (tells → AreClean put mid.dirty → ShowsEntry put tx mid new (joined.Entered number))
      → IsJoined tells crashes entry tx put number old new
  enters entry tx put number beside whole clean writable faults fits appends (a, is) roomy told shows = record {
    joins = record {
      notes = beside.notes;
      marks = beside.marks;
      each = fits.each;
      notes_are = fits.notes_are;
      loggable = fits.loggable;
      room = subst (λ (text : Text). has_room text (entry_size (noted tx beside.notes)) ≡ true) (ap (λ (p : Parts). p.text) read.parts) roomy;
      marks_are = fits.marks.are;
      behind = fits.behind;
      gone = fits.gone;
      adds = adds_over entry (noted tx beside.notes) beside.marks a;
      number_is = is ∙ sym (ap (λ (p : Parts). p.appended) a.parts);
      clean = clean;
      whole = whole;
      shows = λ t. shows t (subst (λ (dirty : List Dirty). AreClean put dirty) (sym same_dirty) (are_all_clean put old.dirty clean)) ∙ ap (λ (image : Image). pages_after 0 tx (put_pages put image)) (read.view t);
      faults = told ∙ faults;
    };
    writable = writable;
    moves = λ now seen asked t k half s. from_before seen asked (unreserved tx old) (unreserved tx mid) new half (writes put ++ Enters (happened entry now tx beside.notes put new.inodes half) ∷ []) (λ x y. read.disk.states (k y))
        (subst (λ (es : List Edit). Moves seen asked (unreserved es mid) new half (writes put ++ Enters (happened entry now tx beside.notes put new.inodes half) ∷ [])) (tx_of-noted tx beside.notes fits.each)
        (appends (writable_over tx put old mid read.parts writable) now seen asked t k half (stands_over seen asked tx half t k s)).0);
  }

  -- ---- it doesn't join

  -- memory for the map, pages and faults may be others
  out_over : new ≡ record mid { view = new.view; disk = new.disk; past = new.past; faults = new.faults; map = new.map } → SameStates new.map mid.map → StaysOut old new
  out_over same map =
      let over : new ≡ record old { view = new.view; disk = new.disk; past = new.past; faults = new.faults; map = new.map } =
      same ∙ ap (λ (p : Parts). record p { view = new.view; disk = new.disk; past = new.past; faults = new.faults; map = new.map }) read.parts in
      record {
        joins_not = record { parts = over ∙ sym (ap (λ (p : Parts). record old { view = new.view; disk = new.disk; past = new.past; faults = new.faults; map = new.map; halted = p.halted }) over) };
        map = same_as map (ap (λ (p : Parts). p.map) read.parts);
      }
    where
      same_as : SameStates new.map mid.map → mid.map ≡ old.map → SameStates new.map old.map
      same_as m e = record { states = m.states ∙ ap (λ (b : Blocks). b.states) e; agsize = m.agsize ∙ ap (λ (b : Blocks). b.agsize) e }

  same_halted : mid.halted ≡ old.halted
  same_halted = ap (λ (p : Parts). p.halted) read.parts

  disk_over : IsSame tells crashes mid.disk new.disk mid.past new.past → IsSame tells crashes old.disk new.disk old.past new.past
  disk_over same = record { image = λ t. same.image t ∙ read.disk.image t; states = λ t. same.states t ∙ read.disk.states t }

  view_over : (put : List DataPage) → are_clean put old.dirty ≡ true → (tells → AreClean put mid.dirty → new.view ≡ mid.view) → tells → new.view ≡ old.view
  view_over put clean shows t = shows t (subst (λ (dirty : List Dirty). AreClean put dirty) (sym same_dirty) (are_all_clean put old.dirty clean)) ∙ read.view t

  pub stays : (tx : List Edit) (put : List DataPage) → are_clean put old.dirty ≡ true → mid.faults ≡ old.faults → StaysAll tells crashes mid new → new.faults ≡ mid.faults → (tells → AreClean put mid.dirty → new.view ≡ mid.view) → StaysOut old new × GoesOn tells crashes old new
  stays tx put clean faults s told shows = (
    out_over s.stays.parts s.stays.map,
    record {
      halted = ap (λ (p : Parts). p.halted) s.stays.parts ∙ same_halted;
      view = view_over put clean shows;
      faults = told ∙ faults;
      disk = disk_over s.disk;
    },
  )

  pub crowded : (tx : List Edit) (put : List DataPage) (beside : Beside) → are_clean put old.dirty ≡ true → mid.faults ≡ old.faults → FitsBeside tells (length old.map.states) (page_of old.view) old.inodes tx put beside → new ≡ mid
      → has_room mid.text (entry_size (noted tx beside.notes)) ≡ false → new.faults ≡ mid.faults → (tells → AreClean put mid.dirty → new.view ≡ mid.view) → StaysOut old new × GoesOn tells crashes old new × LacksRoom tells tx old
  crowded tx put beside clean faults fits same full told shows =
      let out = stays tx put clean faults (subst (λ (p : Parts). StaysAll tells crashes mid p) (sym same) (kept_stays mid mid (kept_same mid))) told shows in (
        out.0,
        out.1,
        record {
          notes = beside.notes;
          each = fits.each;
          notes_are = fits.notes_are;
          full = subst (λ (text : Text). has_room text (entry_size (noted tx beside.notes)) ≡ false) (ap (λ (p : Parts). p.text) read.parts) full;
        },
      )

  pub unread : (tx : List Edit) (put : List DataPage) (fault : Fault) → are_clean put old.dirty ≡ true → mid.faults ≡ old.faults → StaysAll tells crashes mid new → IsFault mid.faults new.faults fault → (tells → AreClean put mid.dirty → new.view ≡ mid.view)
      → StaysOut old new × FailsBy tells crashes tx put fault old (unreserved tx new)
  unread tx put fault clean faults s told shows = (
    out_over s.stays.parts s.stays.map,
    record {
      is_fault = subst (λ (n : ℕ). IsFault n new.faults fault) faults told;
      fails = inl (record { halted = ap (λ (p : Parts). p.halted) s.stays.parts ∙ same_halted; view = view_over put clean shows; disk = disk_over s.disk });
    },
  )

  pub fails : (entry : Entry) (tx : List Edit) (put : List DataPage) (notes : List Note) (fault : Fault) → are_clean put old.dirty ≡ true → IsWritable put (unreserved tx old) → mid.faults ≡ old.faults → length tx ≡ length notes
      → (IsWritable put (unreserved tx mid) → (now : Moment) → OfEachHalf tells crashes (unreserved tx mid) (λ seen asked half. Appends seen asked entry now (noted tx notes) put mid new half (joined.Failed fault)))
      → Fails fault mid new → IsFault mid.faults new.faults fault → (tells → AreClean put mid.dirty → EachOnce put → IsPartlyPut put mid.view new.view) → StaysOut old new × FailsBy tells crashes tx put fault old (unreserved tx new)
  fails entry tx put notes fault clean writable faults each appends f told shows = (
    record {
      joins_not = record { parts = halted_over };
      map = record { states = f.map.states ∙ ap (λ (p : Parts). p.map.states) read.parts; agsize = f.map.agsize ∙ ap (λ (p : Parts). p.map.agsize) read.parts };
    },
    record {
      is_fault = subst (λ (n : ℕ). IsFault n new.faults fault) faults told;
      fails = inr (record {
        halted = ap (λ (p : Parts). p.halted) f.parts;
        view = λ t once. subst (λ (image : Image). IsPartlyPut put image new.view) (read.view t) (shows t (subst (λ (dirty : List Dirty). AreClean put dirty) (sym same_dirty) (are_all_clean put old.dirty clean)) once);
        moves = λ seen asked t k half s. stops_before seen asked put (unreserved tx old) (unreserved tx mid) (unreserved tx new) half fault (λ x y. read.disk.states (k y))
            (subst (λ (es : List Edit). StopsWriting seen asked put (unreserved es mid) (unreserved es new) half fault) (tx_of-noted tx notes each)
            (appends (writable_over tx put old mid read.parts writable) (record { sec = 0; nano = 0 }) seen asked t k half (stands_over seen asked tx half t k s)));
      });
    },
  )
    where
      over : new ≡ record old { view = new.view; disk = new.disk; past = new.past; faults = new.faults; map = new.map; halted = Some fault }
      over = f.parts ∙ ap (λ (p : Parts). record p { view = new.view; disk = new.disk; past = new.past; faults = new.faults; map = new.map; halted = Some fault }) read.parts

      halted_over : new ≡ record old { view = new.view; disk = new.disk; past = new.past; faults = new.faults; map = new.map; halted = new.halted }
      halted_over = over ∙ sym (ap (λ (p : Parts). record old { view = new.view; disk = new.disk; past = new.past; faults = new.faults; map = new.map; halted = p.halted }) over)

-- pages that show the same lack the same room
pub same_room : (tells : Type 0) (tx : List Edit) (old mid : Parts) → mid.text ≡ old.text → length mid.map.states ≡ length old.map.states → (tells → mid.view ≡ old.view) → LacksRoom tells tx mid → LacksRoom tells tx old
same_room tells tx old mid text size view lacks = record {
  notes = lacks.notes;
  each = lacks.each;
  notes_are = λ t. lacks.notes_are t ∙ ap₂ (λ (blocks : ℕ) (image : Image). notes_on blocks (page_of image) tx) size (view t);
  full = ap (λ (t : Text). has_room t (entry_size (noted tx lacks.notes))) (sym text) ∙ lacks.full;
}

-- ---- what was reserved is given back

same_put : (a b : Blocks) (tx : List Edit) → SameStates a b → SameStates (put_state Free (taken_in tx) a) (put_state Free (taken_in tx) b)
same_put a b tx s = record { states = ap (λ (states : List BlockState). (put_state Free (taken_in tx) (record b { states = states })).states) s.states; agsize = s.agsize }

gives : (tx : List Edit) (old mid : Parts) → AreReserved old.map (taken_in tx) → StaysOut old mid → GivesBack tx old (unreserved tx mid)
gives tx old mid reserved s = record {
  reserved = reserved;
  joins_not = record { parts = ap (λ (p : Parts). record p { map = put_state Free (taken_in tx) mid.map }) s.joins_not.parts };
  map = same_put mid.map old.map tx s.map;
}

may_give : (tx : List Edit) (old new : Parts) → GivesBack tx old new → MayGiveBack tx old new
may_give tx old new g = record { joins_not = g.joins_not; map = inl (g.reserved, g.map) }

goes : (tells crashes : Type 0) (tx : List Edit) (old mid : Parts) → GoesOn tells crashes old mid → GoesOn tells crashes old (unreserved tx mid)
goes tells crashes tx old mid g = record { halted = g.halted; view = g.view; faults = g.faults; disk = g.disk }

unreserving : (tells crashes : Type 0) (entry : Entry) (tx : List Edit) (put : List DataPage) (old mid : Parts) (result : Called) → AreReserved old.map (taken_in tx) → ((number : ℕ) → result ≡ called.Entered number → ⊥) → ReservedIs tells crashes entry tx put old mid result
    → CallIs tells crashes entry tx put old (unreserved tx mid) result
unreserving tells crashes entry tx put old mid (called.Entered number) reserved other r = absurd (other number refl)
unreserving tells crashes entry tx put old mid called.NoRoom reserved other r = (gives tx old mid reserved r.0, goes tells crashes tx old mid r.1, r.2)
unreserving tells crashes entry tx put old mid called.NoMemory reserved other r = (may_give tx old (unreserved tx mid) (gives tx old mid reserved r.0), goes tells crashes tx old mid r.1)
unreserving tells crashes entry tx put old mid (called.Failed fault) reserved other r = (gives tx old mid reserved r.0, r.1)
unreserving tells crashes entry tx put old mid called.Unfit reserved other r = (may_give tx old (unreserved tx mid) (gives tx old mid reserved r.0), goes tells crashes tx old mid r.1, r.2)

pub given_back : (tells crashes : Type 0) (entry : Entry) (tx : List Edit) (put : List DataPage) (old mid new : Parts) (result : Called) → AreReserved old.map (taken_in tx) → ((number : ℕ) → result ≡ called.Entered number → ⊥) → ReservedIs tells crashes entry tx put old mid result
    → new ≡ unreserved tx mid → CallIs tells crashes entry tx put old new result
given_back tells crashes entry tx put old mid new result reserved other r is = subst (λ (p : Parts). CallIs tells crashes entry tx put old p result) (sym is) (unreserving tells crashes entry tx put old mid result reserved other r)
