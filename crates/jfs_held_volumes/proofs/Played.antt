-- Each change is the steps of the core that it is said to be.
use Rattle.std.proofs.Common.{◌≡◌, ℕ, Bool, true, false, true≢false, if◌then◌else◌, List, [], ◌∷◌, length, Option, Some, is_some, refl, sym, ap, ◌∙◌, subst, inl, inr, arith}
use Rattle.jfs_disk.specs.declared.disk.Fault.{Fault}
use Rattle.jfs_image_volumes.specs.survival.specs.halves.specs.Entry.{edits}
use Rattle.jfs_image_volumes.specs.survival.specs.halves.specs.Half.{page_in}
use Rattle.jfs_image_volumes.specs.survival.specs.halves.specs.Change.{Enters, Takes, Tells, HandsOut, GoesHome, Tears, Drops, Writes, WriteTears, Stops, LogStops, Syncs, Points, Knows}
use Rattle.jfs_image_volumes.specs.survival.specs.halves.specs.Both.{BothChange, Changes, GroupIsWritten, GroupFails, Fits}
use Rattle.jfs_image_volumes.specs.survival.specs.recovery.specs.objects.specs.Readers.{Readers}
use Rattle.jfs_image_volumes.specs.survival.specs.recovery.specs.objects.specs.Volume.{Volume}
use Rattle.jfs_image_volumes.specs.survival.specs.recovery.specs.kinds.specs.Owner.{Owner, owner_of, is_logged}
use Rattle.jfs_image_volumes.specs.survival.specs.recovery.specs.kinds.specs.Owner.Owner.{Data}
use Rattle.jfs_image_volumes.specs.survival.specs.recovery.specs.kinds.proofs.Single.{has_owners as one_owner}
use Rattle.jfs_image_volumes.specs.survival.specs.recovery.specs.kinds.proofs.Stay.{is_free}
use Rattle.jfs_image_volumes.specs.survival.specs.recovery.specs.Face.{Face}
use Rattle.jfs_image_volumes.specs.survival.specs.recovery.specs.Core.{count, owner_at, matters_at, IsBusy}
use Rattle.jfs_image_volumes.specs.survival.specs.recovery.specs.Core.Step.{Write, WriteFails, Home, HomeFails}
use Rattle.jfs_image_volumes.specs.survival.specs.face.specs.Places.{AreInAreas, is_map_page}
use Rattle.jfs_image_volumes.specs.survival.specs.face.proofs.Owned.{map_matters}
use Rattle.jfs_image_volumes.specs.survival.specs.logged.specs.Logged.{logged_in}
use Rattle.jfs_image_volumes.specs.survival.specs.Entry.{IsSeenBy}
use Rattle.jfs_image_volumes.specs.survival.specs.MapMarks.{map_marks}
use Rattle.jfs_image_volumes.specs.survival.specs.Played.{IsFree, IsData, IsPlayed}
use Rattle.jfs_image_volumes.specs.survival.proofs.Busy.{free_law}
use Rattle.jfs_image_volumes.specs.survival.proofs.Changes.{counted}
use Rattle.jfs_image_volumes.specs.survival.proofs.Enters.{enters_law}
use Rattle.jfs_image_volumes.specs.survival.proofs.Entry.{data_law as may_write}
use Rattle.jfs_image_volumes.specs.survival.proofs.Seen.{seen_law}
use Rattle.jfs_image_volumes.specs.canonical_maps.specs.Images.{after_entry}
use Rattle.jfs_image_volumes.proofs.Enters.{entered_law}
use Rattle.jfs_image_volumes.proofs.Next.{in_areas}
use Rattle.jfs_held_volumes.specs.Held.{Mount, Held, IsHeld, face_at, newest_image}
use Rattle.jfs_held_volumes.specs.Changes.{IsFileData, TakesData, MayLeave, MayBeWritten, MayChange, steps_of}

module _ (m : Mount) (x : Held) (held : IsHeld m x) where
  abbrev r : Readers
  r = m.readers

  abbrev f : Face
  f = face_at m

  abbrev v : Volume
  v = x.volume

  abbrev n : ℕ
  n = count x.core

  pub areas : AreInAreas m.places
  areas = in_areas r m.blocks m.agsize m.numag m.table m.map m.places (newest_image x) held.now.is.stands

  pub seen : IsSeenBy r m.places (newest_image x) v
  seen = seen_law r m.places (newest_image x) v held.now.sound held.now.shows

  -- whether a page matters is told by the volume now
  matters_is : (p : ℕ) → matters_at f x.core p n ≡ logged_in r v p
  matters_is p = ap (λ (o : Option Owner). is_logged o) (seen p)

  owner_of_data : (p : ℕ) (d : IsFileData r v p) → owner_of r v p ≡ Some (Data d.0)
  owner_of_data p (k, more) = (one_owner r v held.now.sound.agrees).alone p (Data k) more

  not_logged : (p : ℕ) → TakesData r v p → logged_in r v p ≡ false
  not_logged p (inl free) = ap (λ (o : Option Owner). is_logged o) (is_free r v held.now.sound.agrees p free)
  not_logged p (inr own) = ap (λ (o : Option Owner). is_logged o) (owner_of_data p own)

  used_by_data : (p : ℕ) → IsFileData r v p → v.used p ≡ true
  used_by_data p own = (one_owner r v held.now.sound.agrees).used p ∙ ap (λ (o : Option Owner). is_some o) (owner_of_data p own)

  -- ---- a page that goes home

  none_busy : (p : ℕ) → x.both.volume.told ≡ length x.both.volume.history → IsBusy (owner_at f x.core p) x.core.told n → ⊥
  none_busy p all z =
      let told = held.core_is.told in
      let number = counted f x.both x.core held.core_is in
      let since = z.since in
      let before = z.before in
      omega (arith, told, number, since, before, all)

  free : (p : ℕ) → matters_at f x.core p n ≡ false → MayLeave m x p → IsFree f x.core p
  free p none (inl logged) = absurd (true≢false (sym logged ∙ sym (matters_is p) ∙ none))
  free p none (inr (inl own)) = may_write r m.places (map_marks m.places) x.core v own.0 p seen held.now.sound.agrees (λ unused. absurd (true≢false (sym (used_by_data p own) ∙ unused))) (inr own.1)
  free p none (inr (inr (unused, all))) = may_write r m.places (map_marks m.places) x.core v 0 p seen held.now.sound.agrees (λ _. none_busy p all) (inl unused)

  goes : (p : ℕ) → MayLeave m x p → IsPlayed f x.both x.core (Changes (GoesHome p)) (steps_of m x (Changes (GoesHome p)))
  goes p leave = by (matters_at f x.core p n) refl
    where
      by : (b : Bool) → matters_at f x.core p n ≡ b → IsPlayed f x.both x.core (Changes (GoesHome p)) (if b then Home p ∷ [] else Write p (page_in x.both.volume p) ∷ [])
      by true e = inl (e, refl)
      by false e = inr (free p e leave, refl)

  tears : (p sectors : ℕ) (fault : Fault) → MayLeave m x p → IsPlayed f x.both x.core (Changes (Tears p sectors fault)) (steps_of m x (Changes (Tears p sectors fault)))
  tears p sectors fault leave = by (matters_at f x.core p n) refl
    where
      by : (b : Bool) → matters_at f x.core p n ≡ b → IsPlayed f x.both x.core (Changes (Tears p sectors fault)) (if b then HomeFails p sectors ∷ [] else WriteFails p (page_in x.both.volume p) sectors ∷ [])
      by true e = inl (e, refl)
      by false e = inr (free p e leave, refl)

  -- ---- a block that is written

  -- no page of a map has a file's data
  no_map : (p : ℕ) → TakesData r v p → is_map_page m.places p ≡ true → ⊥
  no_map p takes is_map = true≢false (sym (map_matters r m.places areas (newest_image x) p is_map) ∙ matters_is p ∙ not_logged p takes)

  no_map_is : (p : ℕ) → TakesData r v p → is_map_page m.places p ≡ false
  no_map_is p takes = by (is_map_page m.places p) refl
    where
      by : (b : Bool) → is_map_page m.places p ≡ b → b ≡ false
      by false e = refl
      by true e = absurd (no_map p takes e)

  is_data : (p : ℕ) (bytes : List ℕ) → length bytes ≡ 4096 → TakesData r v p → (IsBusy (owner_at f x.core p) x.core.told n → ⊥) → IsData f x.core p bytes
  is_data p bytes size (inl unused) idle = record { size = size; may = may_write r m.places (map_marks m.places) x.core v 0 p seen held.now.sound.agrees (λ _. idle) (inl unused) }
  is_data p bytes size (inr own) idle = record { size = size; may = may_write r m.places (map_marks m.places) x.core v own.0 p seen held.now.sound.agrees (λ _. idle) (inr own.1) }

  written : (p : ℕ) (bytes left : List ℕ) (w : Volume) → Fits x.both (Changes (Writes p bytes)) → MayBeWritten m x p bytes left w → IsPlayed f x.both x.core (Changes (Writes p bytes)) (steps_of m x (Changes (Writes p bytes)))
  written p bytes left w fits (inl (size, takes, e)) =
      subst (λ (b : Bool). IsPlayed f x.both x.core (Changes (Writes p bytes)) (if b then Home p ∷ [] else Write p bytes ∷ [])) (sym (no_map_is p takes))
      (inl (is_data p bytes size takes (free_law.writes_none r m.places (map_marks m.places) x.both x.core p held.states fits.0), refl))
  written p bytes left w fits (inr (home, e)) =
      subst (λ (b : Bool). IsPlayed f x.both x.core (Changes (Writes p bytes)) (if b then Home p ∷ [] else Write p bytes ∷ [])) (sym home.is_map) (inr (home, refl))

  torn : (p : ℕ) (bytes left : List ℕ) (sectors : ℕ) (fault : Fault) (w : Volume) → Fits x.both (Changes (WriteTears p bytes sectors fault)) → MayBeWritten m x p bytes left w
      → IsPlayed f x.both x.core (Changes (WriteTears p bytes sectors fault)) (steps_of m x (Changes (WriteTears p bytes sectors fault)))
  torn p bytes left sectors fault w fits (inl (size, takes, e)) =
      subst (λ (b : Bool). IsPlayed f x.both x.core (Changes (WriteTears p bytes sectors fault)) (if b then HomeFails p sectors ∷ [] else WriteFails p bytes sectors ∷ [])) (sym (no_map_is p takes))
      (inl (is_data p bytes size takes (free_law.writes_none r m.places (map_marks m.places) x.both x.core p held.states fits.0.1), refl))
  torn p bytes left sectors fault w fits (inr (home, e)) =
      subst (λ (b : Bool). IsPlayed f x.both x.core (Changes (WriteTears p bytes sectors fault)) (if b then HomeFails p sectors ∷ [] else WriteFails p bytes sectors ∷ [])) (sym home.is_map) (inr (home, refl))

  -- ---- each change

  pub plays : (c : BothChange) (w : Volume) → Fits x.both c → MayChange m x c w → IsPlayed f x.both x.core c (steps_of m x c)
  plays (Changes (Enters h)) w fits leads =
      enters_law r m.places x.both x.core h (after_entry m.places (newest_image x) (edits h)) v w areas held.core_is held.states fits
      (entered_law r m.blocks m.agsize m.numag m.table m.map m.places x.both x.core h v w held.fits held.now leads.follows leads.keeps)
  plays (Changes Takes) w fits may = refl
  plays (Changes (Tells k)) w fits may = refl
  plays (Changes HandsOut) w fits may = refl
  plays (Changes (GoesHome p)) w fits may = goes p may.0
  plays (Changes (Tears p sectors fault)) w fits may = tears p sectors fault may.0
  plays (Changes (Drops p)) w fits may = refl
  plays (Changes (Writes p bytes)) w fits may = written p bytes bytes w fits may
  plays (Changes (WriteTears p bytes sectors fault)) w fits may = torn p bytes may.0 sectors fault w fits may.1
  plays (Changes (Stops fault)) w fits may = refl
  plays (Changes (LogStops fault)) w fits may = refl
  plays (Changes Syncs) w fits may = refl
  plays (Changes Points) w fits may = (may.0, refl)
  plays (Changes Knows) w fits may = refl
  plays GroupIsWritten w fits may = refl
  plays (GroupFails fault) w fits may = refl
