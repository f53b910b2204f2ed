-- Changes keep the maps of a held volume.
use Rattle.std.proofs.Common.{◌≡◌, ◌⊎◌, ℕ, true, false, List, [], ◌∷◌, ◌++◌, is_some, refl, sym, ap, ◌∙◌, subst, inl, inr, arith}
use Rattle.std.specs.List.{AllByRecursion}
use Rattle.jfs_ranges.specs.Apply.{touches_tx}
use Rattle.jfs_shown.specs.objects.specs.Contents.{block_of}
use Rattle.jfs_shown.specs.objects.specs.Image.{file_extents}
use Rattle.jfs_left_maps.specs.Items.{HasFours}
use Rattle.jfs_left_maps.proofs.Sizes.{sizes_law}
use Rattle.jfs_mounted_places.specs.held.specs.survival.specs.halves.specs.Entry.{Happened, edits}
use Rattle.jfs_mounted_places.specs.held.specs.survival.specs.halves.specs.Half.{Halves}
use Rattle.jfs_mounted_places.specs.held.specs.survival.specs.halves.specs.Change.{Enters, Takes, Tells, HandsOut, GoesHome, Tears, Drops, Writes, WriteTears, Stops, LogStops, Syncs, Points, Knows}
use Rattle.jfs_mounted_places.specs.held.specs.survival.specs.halves.specs.Both.{BothChange, Changes, GroupIsWritten, GroupFails, Fits, changed}
use Rattle.jfs_mounted_places.specs.held.specs.survival.specs.recovery.specs.Face.{Face, Pages}
use Rattle.jfs_mounted_places.specs.held.specs.survival.specs.recovery.specs.Core.{Core, Step, AreAllowed, does, after_steps}
use Rattle.jfs_mounted_places.specs.held.specs.survival.specs.recovery.specs.Core.Step.{Write, WriteFails, Append, Take, GroupWrite, Told, Home, HomeFails, LowSync, SyncPoint}
use Rattle.jfs_mounted_places.specs.held.specs.survival.specs.recovery.specs.objects.specs.Volume.{Volume}
use Rattle.jfs_mounted_places.specs.held.specs.survival.specs.face.specs.Places.{is_map_page}
use Rattle.jfs_mounted_places.specs.held.specs.survival.specs.face.proofs.Whole.{is_face}
use Rattle.jfs_mounted_places.specs.held.specs.survival.specs.MapMarks.{map_marks}
use Rattle.jfs_mounted_places.specs.held.specs.survival.proofs.Changes.{step_is}
use Rattle.jfs_mounted_places.specs.held.specs.survival.proofs.Lines.{reads_lines}
use Rattle.jfs_mounted_places.specs.held.specs.Held.{Mount, Held, IsHeld, face_at}
use Rattle.jfs_mounted_places.specs.held.specs.Changes.{MayChange, steps_of, next}
use Rattle.jfs_mounted_places.specs.held.proofs.Kept.{part_size, change_law as held_change}
use Rattle.jfs_mounted_places.specs.held.proofs.Played.{areas, plays}
use Rattle.jfs_held_maps.specs.Maps.{KeepsMaps, ChangeLaw, RunLaw, ReplaceLaw}

-- ---- the image that was mounted

mounted_step : (f : Face) (core : Core) (s : Step) → (does f core s).mounted ≡ core.mounted
mounted_step f core (Write p bytes) = refl
mounted_step f core (WriteFails p bytes sectors) = refl
mounted_step f core (Append tx t) = refl
mounted_step f core Take = refl
mounted_step f core GroupWrite = refl
mounted_step f core Told = refl
mounted_step f core (Home p) = refl
mounted_step f core (HomeFails p sectors) = refl
mounted_step f core LowSync = refl
mounted_step f core (SyncPoint c) = refl

pub mounted_stays : (f : Face) (core : Core) (steps : List Step) → (after_steps f core steps).mounted ≡ core.mounted
mounted_stays f core [] = refl
mounted_stays f core (s ∷ rest) = mounted_stays f (does f core s) rest ∙ mounted_step f core s

-- ---- the history

history_is : (both : Halves) (c : BothChange) → ((changed both c).volume.history ≡ both.volume.history) ⊎ ((h : Happened) × (c ≡ Changes (Enters h)))
history_is both (Changes (Enters h)) = inr (h, refl)
history_is both (Changes Takes) = inl refl
history_is both (Changes (Tells n)) = inl refl
history_is both (Changes HandsOut) = inl refl
history_is both (Changes (GoesHome p)) = inl refl
history_is both (Changes (Tears p sectors fault)) = inl refl
history_is both (Changes (Drops p)) = inl refl
history_is both (Changes (Writes p bytes)) = inl refl
history_is both (Changes (WriteTears p bytes sectors fault)) = inl refl
history_is both (Changes (Stops fault)) = inl refl
history_is both (Changes (LogStops fault)) = inl refl
history_is both (Changes Syncs) = inl refl
history_is both (Changes Points) = inl refl
history_is both (Changes Knows) = inl refl
history_is both GroupIsWritten = inl refl
history_is both (GroupFails fault) = inl refl

abbrev IsOff : ℕ → Happened → Type 0
IsOff p h = touches_tx p (edits h) ≡ false

one_more : (p : ℕ) (hs : List Happened) (h : Happened) → AllByRecursion (IsOff p) hs → IsOff p h → AllByRecursion (IsOff p) (hs ++ h ∷ [])
one_more p [] h all one = (one, tt)
one_more p (g ∷ hs) h all one = (all.0, one_more p hs h all.1 one)

-- ---- a change

module _ (m : Mount) (x : Held) (held : IsHeld m x) (keeps : KeepsMaps m x) where
  abbrev f : Face
  f = face_at m

  module _ (c : BothChange) (w : Volume) (fits : Fits x.both c) (may : MayChange m x c w) where
    allowed : AreAllowed f x.core (steps_of m x c)
    allowed = (step_is f (is_face m.readers m.places (map_marks m.places) (areas m x held)) (reads_lines m.readers m.places (map_marks m.places)) x.both x.core held.core_is c (steps_of m x c) fits (plays m x held c w fits may)).allowed

    mounted : (next m x c w).core.mounted ≡ x.core.mounted
    mounted = mounted_stays f x.core (steps_of m x c)

    lines : (p : ℕ) → is_map_page m.places p ≡ true → AllByRecursion (IsOff p) (changed x.both c).volume.history
    lines p is_map = by (history_is x.both c)
      where
        enters : (h : Happened) → MayChange m x (Changes (Enters h)) w → AllByRecursion (IsOff p) (changed x.both (Changes (Enters h))).volume.history
        enters h leads = one_more p x.both.volume.history h (keeps.lines p is_map) (leads.keeps.no_maps p is_map)

        by : ((changed x.both c).volume.history ≡ x.both.volume.history) ⊎ ((h : Happened) × (c ≡ Changes (Enters h))) → AllByRecursion (IsOff p) (changed x.both c).volume.history
        by (inl same) = subst (AllByRecursion (IsOff p)) (sym same) (keeps.lines p is_map)
        by (inr (h, e)) =
            subst (λ (d : BothChange). AllByRecursion (IsOff p) (changed x.both d).volume.history) (sym e)
            (enters h (subst (λ (d : BothChange). MayChange m x d w) e may))

    changes : KeepsMaps m (next m x c w)
    changes = record {
      room = (let size = part_size x.both c in let room = keeps.room in omega (arith, size, room));
      some = keeps.some;
      whole = λ k low. ap (λ (s : Pages). is_some (block_of (file_extents m.readers s 2) k)) mounted ∙ keeps.whole k low;
      extents = subst (HasFours m.places) (sym mounted) keeps.extents;
      sizes = sizes_law.steps m.readers m.places (map_marks m.places) x.core (steps_of m x c) (areas m x held) held.core_is.sound allowed keeps.sizes;
      lines = lines;
    }

pub change_law : ChangeLaw
change_law m x c w held keeps fits may = changes m x held keeps c w fits may

pub run_law : RunLaw
run_law m x [] held keeps may = keeps
run_law m x (d ∷ ds) held keeps (fits, change, rest) =
    run_law m (next m x d.change d.volume) ds (held_change m x d.change d.volume held fits change) (change_law m x d.change d.volume held keeps fits change) rest

pub replaced : ReplaceLaw
replaced m x w volumes keeps = record { room = keeps.room; some = keeps.some; whole = keeps.whole; extents = keeps.extents; sizes = keeps.sizes; lines = keeps.lines }
