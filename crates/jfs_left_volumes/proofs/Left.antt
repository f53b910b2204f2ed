-- Redo of a volume that a crash left, by its own log, leads to a volume of the history.
use Rattle.std.proofs.Common.{◌≡◌, ℕ, List, map, take, drop, get_or, sym, ap, subst, ◌∙◌, arith}
use Rattle.std.specs.List.{AllByRecursion}
use Rattle.std.proofs.lemmas.List.{take-map, drop-map}
use Rattle.jfs_ranges.specs.declared.edit.Edit.{Edit}
use Rattle.jfs_halves.specs.Entry.{Happened, edits}
use Rattle.jfs_halves.specs.Half.{Halves}
use Rattle.jfs_recovery.specs.Face.{Face, IsRedone}
use Rattle.jfs_recovery.specs.Core.{Core}
use Rattle.jfs_recovery.specs.Sound.{IsLogImage, window}
use Rattle.jfs_survival.specs.Stands.{IsCoreOf}
use Rattle.jfs_survival.specs.Laws.{left_by}
use Rattle.jfs_recovery.specs.Core.{after_steps}
use Rattle.jfs_halves.specs.Both.{after}
use Rattle.jfs_face.specs.Volume.{face_of}
use Rattle.jfs_image_volumes.proofs.Crash.{crash_law}
use Rattle.jfs_log_window.specs.Events.{IsQuiet}
use Rattle.jfs_log_window.specs.Window.{IsWindow}
use Rattle.jfs_left_volumes.specs.Left.{LeftLaw}
use Rattle.jfs_left_volumes.proofs.Quiet.{quiet-take, quiet-drop, redone_same}

-- a window of the halves is one of their core
pub log_image : (f : Face) (both : Halves) (core : Core) (c n : ℕ) → IsCoreOf f both core → IsWindow both c n → IsLogImage core c n
log_image f both core c n is w = record {
  place = (
    w.place.0,
    omega (arith, w.place.1, is.points_stable),
    omega (arith, w.place.2, is.points_taken),
    w.place.3 ∙ sym (ap (λ (l : List ℕ). get_or l w.place.0 0) is.syncpoints),
  );
  durable = omega (arith, w.durable, is.durable);
  taken = omega (arith, w.taken, is.taken);
}

pub window_is : (f : Face) (both : Halves) (core : Core) (c n : ℕ) → IsCoreOf f both core → map edits (drop c (take n both.volume.history)) ≡ window core c n
window_is f both core c n is = sym (drop-map edits c (take n both.volume.history)) ∙ ap (drop c) (sym (take-map edits n both.volume.history) ∙ ap (take n) (sym is.history))

pub left_law : LeftLaw
left_law r blocks agsize numag table map_at pl changes both core list steps volumes is run are low crash ring size log w quiet redone is_redone =
    let f : Face = face_of r pl changes in
    let later : Core = after_steps f core steps in
    let hs : List Happened = drop w.c (take w.n (after both list).volume.history) in
    let all : AllByRecursion IsQuiet hs = quiet-drop w.c (take w.n (after both list).volume.history) (quiet-take w.n (after both list).volume.history quiet) in
    let by_entries : IsRedone f (left_by later low) (map edits hs) redone = redone_same r pl changes (left_by later low) hs redone all (subst (λ (txs : List (List Edit)). IsRedone f (left_by later low) txs redone) w.are is_redone) in
    crash_law r blocks agsize numag table map_at pl changes both core list steps volumes is run are low crash w.c w.n (log_image f (after both list) later w.c w.n run.core_is w.window) redone
    (subst (λ (txs : List (List Edit)). IsRedone f (left_by later low) txs redone) (window_is f (after both list) later w.c w.n run.core_is) by_entries)
