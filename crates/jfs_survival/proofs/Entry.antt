-- An entry that logs what matters may be appended.
use Rattle.std.proofs.Common.{◌≡◌, ◌⊎◌, ◌||◌, ◌&&◌, ℕ, Bool, true, false, List, length, Option, refl, sym, ap, ◌∙◌, inl, inr, arith}
use Rattle.std.proofs.lemmas.Bool.{cases_Bool}
use Rattle.jfs_ranges.specs.declared.edit.Edit.{Edit}
use Rattle.jfs_ranges.specs.Apply.{apply_tx, touches_tx}
use Rattle.jfs_face.specs.recovery.specs.crash_core.proofs.Bytes.{apply_tx-untouched}
use Rattle.jfs_face.specs.recovery.specs.records.specs.Redo.{closes_in}
use Rattle.jfs_face.specs.recovery.specs.objects.specs.Readers.{Readers}
use Rattle.jfs_face.specs.recovery.specs.objects.specs.Volume.{Volume}
use Rattle.jfs_face.specs.recovery.specs.kinds.specs.Owner.{Owner, is_logged}
use Rattle.jfs_face.specs.recovery.specs.kinds.specs.Owner.Owner.{Data}
use Rattle.jfs_face.specs.recovery.specs.kinds.proofs.Stay.{is_free}
use Rattle.jfs_face.specs.recovery.specs.kinds.proofs.Single.{has_owners}
use Rattle.jfs_face.specs.recovery.specs.Face.{Face, IsFace, Pages, byte, matters}
use Rattle.jfs_face.specs.recovery.specs.Core.{Core, count, image, owner_at, IsBusy, MayOwn, IsLogged, IsMarked, MayAppend}
use Rattle.jfs_face.specs.recovery.specs.Sound.{IsSound}
use Rattle.jfs_face.specs.recovery.specs.Lines.{rest_of}
use Rattle.jfs_face.specs.recovery.proofs.Images.{size_image}
use Rattle.jfs_face.specs.Places.{Places, AreInAreas, is_map_page}
use Rattle.jfs_face.specs.Volume.{face_of}
use Rattle.jfs_face.proofs.Whole.{is_face}
use Rattle.jfs_logged.specs.Logged.{logged_in, LogsPage}
use Rattle.jfs_logged.proofs.Joined.{rest_untouched}
use Rattle.jfs_survival.specs.Entry.{IsEntry, EntryLaw, DataLaw}
use Rattle.jfs_survival.proofs.Blocks.{never}
use Rattle.jfs_survival.proofs.Lines.{not_left, whole_lines}

-- which tests of a touch failed
not_touched : (a b c d : Bool) → (a || b || (c && d)) ≡ false → (a ≡ false) × (b ≡ false) × (c ≡ true → d ≡ false)
not_touched true b c d e = absurd (touched b (c && d) e)
  where
    touched : (b x : Bool) → (true || b || x) ≡ false → ⊥
    touched true true e = cc
    touched true false e = cc
    touched false true e = cc
    touched false false e = cc
not_touched false true c d e = absurd (touched (c && d) e)
  where
    touched : (x : Bool) → (false || true || x) ≡ false → ⊥
    touched true e = cc
    touched false e = cc
not_touched false false true d e = (refl, refl, λ h. e)
not_touched false false false d e = (refl, refl, λ h. absurd (cc (h)))

module _ (r : Readers) (pl : Places) (changes : Pages → List Edit → ℕ → Bool) (core : Core) (tx : List Edit) (t : Pages) (v w : Volume) (areas : AreInAreas pl) (sound : IsSound (face_of r pl changes) core)
    (entry : IsEntry r pl changes core tx t v w) where
  abbrev f : Face
  f = face_of r pl changes

  laws : IsFace f
  laws = is_face r pl changes areas

  abbrev s : Pages
  s = image core (count core)

  size : (p : ℕ) → length (s p) ≡ 4096
  size p = size_image f laws core sound (count core) (omega arith) p

  was : (p : ℕ) → matters f s p ≡ logged_in r v p
  was p = ap (λ (o : Option Owner). is_logged o) (entry.before p)

  now : (p : ℕ) → matters f t p ≡ logged_in r w p
  now p = ap (λ (o : Option Owner). is_logged o) (entry.after p)

  logs : (p : ℕ) → LogsPage p (logged_in r v p) (logged_in r w p) tx (w.page p)
  logs = entry.logs.logs

  why_so : (p : ℕ) → (closes_in p tx ≡ true) ⊎ (matters f s p ≡ false) → (closes_in p tx ≡ true) ⊎ (logged_in r v p ≡ false)
  why_so p (inl c) = inl c
  why_so p (inr e) = inr (sym (was p) ∙ e)

  -- a page that is given whole is the volume's
  page_is : (p : ℕ) → is_map_page pl p ≡ false → matters f t p ≡ true → (closes_in p tx ≡ true) ⊎ (matters f s p ≡ false) → t p ≡ w.page p
  page_is p page there why =
      let given = (logs p).whole (sym (now p) ∙ there) (why_so p why) in
      let same = given (s p) (size p) in
      let w_size : length (w.page p) ≡ 4096 = ap (λ (a : List ℕ). length a) (sym same) ∙ laws.size_redoes tx p (s p) (size p) in
      entry.follows.pages p page ∙ whole_lines f laws tx p (w.page p) w_size (λ a i a_size l. ap (λ (x : List ℕ). byte x i) (given a a_size)) (s p) (size p)

  logged : (p : ℕ) → is_map_page pl p ≡ false → IsLogged f s tx t p
  logged p page = record {
    whole = λ there why a i a_size l. ap (λ (x : List ℕ). byte x i) ((logs p).whole (sym (now p) ∙ there) (why_so p why) a a_size ∙ sym (page_is p page there why));
    shut = λ gone a a_size. (logs p).shut (sym (now p) ∙ gone) a a_size;
    noted = λ gone there. (logs p).noted (sym (now p) ∙ gone) (sym (was p) ∙ there);
    fixed = λ fixed. (let x = entry.fixed p fixed in entry.follows.pages p page ∙ ap (apply_tx p tx) (sym x.0) ∙ sym (entry.logs.pages p (sym (was p) ∙ laws.fixed s p fixed) (sym (now p) ∙ laws.fixed t p fixed)) ∙ x.1 ∙ x.0);
  }

  marked : (p : ℕ) → IsMarked f s tx t p
  marked p = record { stays = λ none. stays (not_touched (touches_tx p tx) (closes_in p tx) (is_map_page pl p) (changes s tx p) none) (cases_Bool (is_map_page pl p)) }
    where
      stays : (touches_tx p tx ≡ false) × (closes_in p tx ≡ false) × (is_map_page pl p ≡ true → changes s tx p ≡ false) → (is_map_page pl p ≡ true) ⊎ (is_map_page pl p ≡ false) → (t p ≡ s p) × (matters f t p ≡ matters f s p)
      stays (lines, noredo, unchanged) (inl this) = (entry.marked p this (unchanged this), laws.area t p this ∙ sym (laws.area s p this))
      stays (lines, noredo, unchanged) (inr page) = (entry.follows.pages p page ∙ apply_tx-untouched p tx (s p) (size p) lines, now p ∙ same (cases_Bool (logged_in r v p)) (cases_Bool (logged_in r w p)) ∙ sym (was p))
        where
          same : (logged_in r v p ≡ true) ⊎ (logged_in r v p ≡ false) → (logged_in r w p ≡ true) ⊎ (logged_in r w p ≡ false) → logged_in r w p ≡ logged_in r v p
          same (inl a) (inl b) = b ∙ sym a
          same (inr a) (inr b) = b ∙ sym a
          same (inl a) (inr b) = never (closes_in p tx) ((logs p).noted b a) noredo
          same (inr a) (inl b) = not_left (λ (x : List ℕ). apply_tx p (rest_of p tx) x) (w.page p) (λ x i x_size l. ap (λ (y : List ℕ). byte y i) ((logs p).whole b (inr a) x x_size)) (λ x x_size. apply_tx-untouched p (rest_of p tx) x x_size (rest_untouched p tx lines))

  owners : (p : ℕ) → MayOwn (owner_at f core p (count core)) (f.owner t p) (IsBusy (owner_at f core p) core.told (count core))
  owners p = at (cases_Bool (v.used p)) (cases_Bool (w.used p))
    where
      at : (v.used p ≡ true) ⊎ (v.used p ≡ false) → (w.used p ≡ true) ⊎ (w.used p ≡ false) → MayOwn (owner_at f core p (count core)) (f.owner t p) (IsBusy (owner_at f core p) core.told (count core))
      at (inl a) (inl b) = inl (entry.after p ∙ entry.logs.owners p a b ∙ sym (entry.before p))
      at x (inr b) = inr (inl (entry.after p ∙ is_free r w entry.agrees_then p b))
      at (inr a) (inl b) = inr (inr (entry.before p ∙ is_free r v entry.agrees p a, entry.fresh p a b))

  pub may_append : MayAppend f core tx t
  may_append = record { follows = entry.follows; logged = logged; marked = marked; owners = owners }

pub entry_law : EntryLaw
entry_law r pl changes core tx t v w areas sound entry = may_append r pl changes core tx t v w areas sound entry

pub data_law : DataLaw
data_law r pl changes core v n b seen agrees free (inl none) = inr (seen b ∙ is_free r v agrees b none, free none)
data_law r pl changes core v n b seen agrees free (inr some) = inl (n, seen b ∙ (has_owners r v agrees).alone b (Data n) some)
