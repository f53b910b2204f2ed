-- Changes of the volume in which the log has no part, beside the log.
use Rattle.std.proofs.Common.{◌≡◌, Bool, List, [], ◌∷◌, ◌++◌, map, refl, sym, ap, ◌∙◌, subst}
use Rattle.std.specs.List.{AllByRecursion}
use Rattle.jfs_disk.specs.Crash.{DiskState}
use Rattle.jfs_volume.specs.halves.specs.Half.{VolumeHalf, LogHalf, Halves}
use Rattle.jfs_volume.specs.halves.specs.Change.{Change, Enters, Takes, Tells, HandsOut, GoesHome, Tears, Drops, Writes, WriteTears, Stops, LogStops, Syncs, Points, Knows, changed, states_of, after, FitAll, states_after}
use Rattle.jfs_volume.specs.halves.specs.Both.{Changes, log_changed, FitsLog, after as after_both, FitAll as FitBoth, states_after as states_both}
use Rattle.jfs_volume.specs.halves.specs.Parts.{Parts, StandsFor}
use Rattle.jfs_volume.specs.halves.specs.Log.{LogParts, LogStandsFor}
use Rattle.jfs_volume.specs.halves.specs.Moves.{Moves, MovesBoth}

-- changes of the volume alone
abbrev pub IsQuiet : Change → Type 0
IsQuiet (Enters h) = Unit {0}
IsQuiet Takes = ⊥
IsQuiet (Tells n) = ⊥
IsQuiet HandsOut = Unit {0}
IsQuiet (GoesHome p) = Unit {0}
IsQuiet (Tears p sectors fault) = Unit {0}
IsQuiet (Drops p) = Unit {0}
IsQuiet (Writes p bytes) = Unit {0}
IsQuiet (WriteTears p bytes sectors fault) = Unit {0}
IsQuiet (Stops fault) = Unit {0}
IsQuiet (LogStops fault) = ⊥
IsQuiet Syncs = Unit {0}
IsQuiet Points = Unit {0}
IsQuiet Knows = ⊥

abbrev pub AreQuiet : List Change → Type 0
AreQuiet list = AllByRecursion IsQuiet list

quiet_log : (half : VolumeHalf) (log : LogHalf) (c : Change) → IsQuiet c → log_changed half log c ≡ log
quiet_log half log (Enters h) q = refl
quiet_log half log Takes q = absurd q
quiet_log half log (Tells n) q = absurd q
quiet_log half log HandsOut q = refl
quiet_log half log (GoesHome p) q = refl
quiet_log half log (Tears p sectors fault) q = refl
quiet_log half log (Drops p) q = refl
quiet_log half log (Writes p bytes) q = refl
quiet_log half log (WriteTears p bytes sectors fault) q = refl
quiet_log half log (Stops fault) q = refl
quiet_log half log (LogStops fault) q = absurd q
quiet_log half log Syncs q = refl
quiet_log half log Points q = refl
quiet_log half log Knows q = absurd q

quiet_fits : (both : Halves) (c : Change) → IsQuiet c → FitsLog both c
quiet_fits both (Enters h) q = tt
quiet_fits both Takes q = absurd q
quiet_fits both (Tells n) q = absurd q
quiet_fits both HandsOut q = tt
quiet_fits both (GoesHome p) q = tt
quiet_fits both (Tears p sectors fault) q = tt
quiet_fits both (Drops p) q = tt
quiet_fits both (Writes p bytes) q = tt
quiet_fits both (WriteTears p bytes sectors fault) q = tt
quiet_fits both (Stops fault) q = tt
quiet_fits both (LogStops fault) q = absurd q
quiet_fits both Syncs q = tt
quiet_fits both Points q = tt
quiet_fits both Knows q = absurd q

-- where the waiting text stands
pub record SamePlace (a b : VolumeHalf) : Type 0 where
  pub ring : a.waiting.ring ≡ b.waiting.ring
  pub place : a.waiting.place ≡ b.waiting.place

quiet_place : (half : VolumeHalf) (c : Change) → IsQuiet c → SamePlace (changed half c) half
quiet_place half (Enters h) q = record { ring = refl; place = refl }
quiet_place half Takes q = absurd q
quiet_place half (Tells n) q = absurd q
quiet_place half HandsOut q = record { ring = refl; place = refl }
quiet_place half (GoesHome p) q = record { ring = refl; place = refl }
quiet_place half (Tears p sectors fault) q = record { ring = refl; place = refl }
quiet_place half (Drops p) q = record { ring = refl; place = refl }
quiet_place half (Writes p bytes) q = record { ring = refl; place = refl }
quiet_place half (WriteTears p bytes sectors fault) q = record { ring = refl; place = refl }
quiet_place half (Stops fault) q = record { ring = refl; place = refl }
quiet_place half (LogStops fault) q = absurd q
quiet_place half Syncs q = record { ring = refl; place = refl }
quiet_place half Points q = record { ring = refl; place = refl }
quiet_place half Knows q = absurd q

pub places : (half : VolumeHalf) (list : List Change) → AreQuiet list → SamePlace (after half list) half
places half [] q = record { ring = refl; place = refl }
places half (c ∷ cs) q =
    let rest = places (changed half c) cs q.1 in
    let first = quiet_place half c q.0 in
    record { ring = rest.ring ∙ first.ring; place = rest.place ∙ first.place }

-- the volume's half beside a log's
abbrev beside : LogHalf → VolumeHalf → Halves
beside log half = record { volume = half; log = log }

pub after_lift : (half : VolumeHalf) (log : LogHalf) (list : List Change) → AreQuiet list → after_both (beside log half) (map Changes list) ≡ beside log (after half list)
after_lift half log [] q = refl
after_lift half log (c ∷ cs) q = ap (λ (l : LogHalf). after_both (beside l (changed half c)) (map Changes cs)) (quiet_log half log c q.0) ∙ after_lift (changed half c) log cs q.1

fit_lift : (half : VolumeHalf) (log : LogHalf) (list : List Change) → AreQuiet list → FitAll half list → FitBoth (beside log half) (map Changes list)
fit_lift half log [] q f = tt
fit_lift half log (c ∷ cs) q f = (
  (f.0, quiet_fits (beside log half) c q.0),
  subst (λ (l : LogHalf). FitBoth (beside l (changed half c)) (map Changes cs)) (sym (quiet_log half log c q.0)) (fit_lift (changed half c) log cs q.1 f.1),
)

states_lift : (half : VolumeHalf) (log : LogHalf) (list : List Change) → AreQuiet list → states_both (beside log half) (map Changes list) ≡ states_after half list
states_lift half log [] q = refl
states_lift half log (c ∷ cs) q =
    ap (λ (states : List DiskState). states_of half c ++ states)
    (ap (λ (l : LogHalf). states_both (beside l (changed half c)) (map Changes cs)) (quiet_log half log c q.0) ∙ states_lift (changed half c) log cs q.1)

pub log_kept : (seen asked : Bool) (l : LogParts) (both : Halves) (half : VolumeHalf) → LogStandsFor seen asked l both → SamePlace half both.volume → LogStandsFor seen asked l (beside both.log half)
log_kept seen asked l both half s same = record {
  durable = s.durable;
  halted = s.halted;
  ring = s.ring ∙ sym same.ring;
  place = λ runs. s.place runs ∙ sym same.place;
  items = λ t runs. rw same.ring (s.items t runs);
  resting = s.resting;
}

-- the same changes of both
pub lift : (seen asked : Bool) (old new : Parts) (l : LogParts) (both : Halves) (list : List Change) → AreQuiet list → Moves seen asked old new both.volume list → LogStandsFor seen asked l both → MovesBoth seen asked old new l both (map Changes list)
lift seen asked old new l both list q m s = record {
  fit = fit_lift both.volume both.log list q m.fit;
  stands = subst (λ (h : Halves). StandsFor seen asked new h.volume) (sym (after_lift both.volume both.log list q)) m.stands;
  log_stands = subst (λ (h : Halves). LogStandsFor seen asked l h) (sym (after_lift both.volume both.log list q)) (log_kept seen asked l both (after both.volume list) s (places both.volume list q));
  past = λ t k. m.past t k ∙ ap (λ (states : List DiskState). old.past ++ states) (sym (states_lift both.volume both.log list q));
}
