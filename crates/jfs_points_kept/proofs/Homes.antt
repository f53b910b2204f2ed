-- Dirty pages go home.
use Rattle.std.specs.Bool.{⊤}
use Rattle.std.proofs.Common.{◌≡◌, ◌⊎◌, refl, sym, ap, ◌∙◌, subst, ℕ, true, List, [], ◌∷◌, ◌++◌, map, Option, Some, None, Result, Ok, Err, inl, inr}
use Rattle.jfs_disk.specs.declared.disk.Fault.{Fault}
use Rattle.jfs_kept_volumes.proofs.Same.{same_law}
use Rattle.jfs_kept_volumes.specs.Keeper.{Keeper, kept_after, GrowsBy}
use Rattle.jfs_kept_volumes.specs.Steps.{KeepsVolume}
use Rattle.jfs_kept_volumes.specs.commits_held.specs.volume_calls.specs.halves.specs.Both.{BothChange, Changes}
use Rattle.jfs_kept_volumes.specs.commits_held.specs.volume_calls.specs.halves.specs.Change.{Change, Enters, Takes, Tells, HandsOut, GoesHome, Tears, Drops, Writes, WriteTears, Stops, LogStops, Syncs, Points, Knows, FitAll as FitAllOfVolume}
use Rattle.jfs_kept_volumes.specs.commits_held.specs.volume_calls.specs.halves.specs.Moves.{Moves}
use Rattle.jfs_kept_volumes.specs.commits_held.specs.volume_calls.specs.halves.specs.Parts.{Parts}
use Rattle.jfs_kept_volumes.specs.commits_held.specs.volume_calls.specs.volume.specs.Settle.{go_home, IsStop, stops, tears}
use Rattle.jfs_kept_volumes.specs.commits_held.specs.volume_calls.specs.volume.specs.Settles.{HomesAlone, HaltsAt, HomeHalts}
use Rattle.jfs_kept_volumes.specs.commits_held.specs.volume_calls.specs.volume.specs.data_steps.specs.objects.specs.Volume.{Volume}
use Rattle.jfs_kept_volumes.specs.commits_held.specs.volume_calls.specs.volume.specs.pages.specs.declared.error.HomeError.{HomeError}
use Rattle.jfs_kept_volumes.specs.commits_held.specs.volume_calls.specs.volume.specs.pages.specs.declared.error.HomeError.TheVariants.{NotYet, WriteFault}
use Rattle.jfs_kept_volumes.specs.pages_held.proofs.Beside.{dirty_law, beside_law}
use Rattle.jfs_kept_volumes.specs.pages_held.proofs.Homing.{itself, same_volume}
use Rattle.jfs_kept_volumes.specs.pages_held.proofs.Maps.{leave_law}
use Rattle.jfs_kept_volumes.specs.pages_held.proofs.Stay.{stay_law}
use Rattle.jfs_kept_volumes.specs.pages_held.specs.Beside.{AreBeside, KeepsFiles}
use Rattle.jfs_kept_volumes.specs.pages_held.specs.Homes.{AllTold}
use Rattle.jfs_kept_volumes.specs.pages_held.specs.Pages.{MayBeDirty, HasHomes}
use Rattle.jfs_kept_volumes.specs.pages_held.specs.joined_held.specs.Held.{volume_at, held_at}
use Rattle.jfs_kept_volumes.specs.pages_held.specs.joined_held.specs.held.proofs.Crash.{run_law}
use Rattle.jfs_kept_volumes.specs.pages_held.specs.joined_held.specs.held.proofs.Kept.{replaced}
use Rattle.jfs_kept_volumes.specs.pages_held.specs.joined_held.specs.held.specs.Changes.{HasTheSame, next, leaving, after, AllMay}
use Rattle.jfs_kept_volumes.specs.pages_held.specs.joined_held.specs.held.specs.Held.{Mount, Held, IsHeld}
use Rattle.jfs_kept_volumes.specs.pages_held.specs.joined_held.specs.held.specs.survival.specs.face.specs.Places.{Places}
use Rattle.jfs_kept_volumes.specs.Kept.{IsKept, Steps}
use Rattle.jfs_points_kept.specs.Steps.{HomeAllLaw, HomeOneLaw, SyncLaw}
use Rattle.jfs_points_kept.proofs.Low.{AreLow, Low, keeps}

-- ---- changes that send pages home, sync them, or fail at it

abbrev pub Homes : Change → Type 0
Homes (GoesHome p) = Unit {0}
Homes (Tears p sectors fault) = Unit {0}
Homes (Stops fault) = Unit {0}
Homes Syncs = Unit {0}
Homes (Enters h) = ⊥
Homes Takes = ⊥
Homes (Tells n) = ⊥
Homes HandsOut = ⊥
Homes (Drops p) = ⊥
Homes (Writes p bytes) = ⊥
Homes (WriteTears p bytes sectors fault) = ⊥
Homes (LogStops fault) = ⊥
Homes Points = ⊥
Homes Knows = ⊥

abbrev pub AreHomes : List Change → Type 0
AreHomes [] = Unit {0}
AreHomes (c ∷ cs) = Homes c × AreHomes cs

-- so they are such changes of the low part as this
record IsSo (pl : Places) (v : Volume) (cs : List Change) : Type 0 where
  low : AreLow cs
  beside : AreBeside pl (leaving v (map Changes cs))

homes_are : (pl : Places) (v : Volume) (cs : List Change) → AreHomes cs → IsSo pl v cs
homes_are pl v [] h = record { low = tt; beside = tt }
homes_are pl v (GoesHome p ∷ cs) h = let r = homes_are pl v cs h.1 in record { low = (tt, r.low); beside = (tt, r.beside) }
homes_are pl v (Tears p sectors fault ∷ cs) h = let r = homes_are pl v cs h.1 in record { low = (tt, r.low); beside = (tt, r.beside) }
homes_are pl v (Stops fault ∷ cs) h = let r = homes_are pl v cs h.1 in record { low = (tt, r.low); beside = (tt, r.beside) }
homes_are pl v (Syncs ∷ cs) h = let r = homes_are pl v cs h.1 in record { low = (tt, r.low); beside = (tt, r.beside) }
homes_are pl v (Enters e ∷ cs) h = absurd h.0
homes_are pl v (Takes ∷ cs) h = absurd h.0
homes_are pl v (Tells n ∷ cs) h = absurd h.0
homes_are pl v (HandsOut ∷ cs) h = absurd h.0
homes_are pl v (Drops p ∷ cs) h = absurd h.0
homes_are pl v (Writes p bytes ∷ cs) h = absurd h.0
homes_are pl v (WriteTears p bytes sectors fault ∷ cs) h = absurd h.0
homes_are pl v (LogStops fault ∷ cs) h = absurd h.0
homes_are pl v (Points ∷ cs) h = absurd h.0
homes_are pl v (Knows ∷ cs) h = absurd h.0

-- ---- they may be made

-- where pages go home, all is acknowledged
abbrev pub Asks : Change → Held → Type 0
Asks (GoesHome p) x = AllTold x.both
Asks (Tears p sectors fault) x = AllTold x.both
Asks c x = Unit {0}

same_as : (v w : Volume) → v ≡ w → HasTheSame v w
same_as v w e = subst (λ (u : Volume). HasTheSame v u) e (itself v)

module _ (m : Mount) (v : Volume) where
  -- pages that may be dirty may go home, one after the other
  goes : (x : Held) (c : Change) → x.volume ≡ v → HasHomes m.readers x.both.volume x.volume → HasHomes m.readers (next m x (Changes c) v).both.volume v ⊎ (Homes c → ⊥)
  goes x (GoesHome p) e homes = inl (λ q some. subst (λ (u : Volume). MayBeDirty m.readers u q) e (homes q (dirty_law x.both.volume (GoesHome p ∷ []) (tt, tt) q some)))
  goes x (Tears p sectors fault) e homes = inl (λ q some. subst (λ (u : Volume). MayBeDirty m.readers u q) e (homes q (dirty_law x.both.volume (Tears p sectors fault ∷ []) (tt, tt) q some)))
  goes x (Stops fault) e homes = inl (λ q some. subst (λ (u : Volume). MayBeDirty m.readers u q) e (homes q some))
  goes x Syncs e homes = inl (λ q some. subst (λ (u : Volume). MayBeDirty m.readers u q) e (homes q (dirty_law x.both.volume (Syncs ∷ []) (tt, tt) q some)))
  goes x (Enters h) e homes = inr (λ z. z)
  goes x Takes e homes = inr (λ z. z)
  goes x (Tells n) e homes = inr (λ z. z)
  goes x HandsOut e homes = inr (λ z. z)
  goes x (Drops p) e homes = inr (λ z. z)
  goes x (Writes p bytes) e homes = inr (λ z. z)
  goes x (WriteTears p bytes sectors fault) e homes = inr (λ z. z)
  goes x (LogStops fault) e homes = inr (λ z. z)
  goes x Points e homes = inr (λ z. z)
  goes x Knows e homes = inr (λ z. z)

  on : {A : Type 0} (c : Change) → Homes c → A ⊎ (Homes c → ⊥) → A
  on c h (inl a) = a
  on c h (inr never) = absurd (never h)

  pub homes_may : (cs : List Change) (x : Held) → x.volume ≡ v → AllTold x.both → HasHomes m.readers x.both.volume x.volume → FitAllOfVolume x.both.volume cs → AreHomes cs → AllMay m x (leaving v (map Changes cs))
  homes_may [] x e all homes fit h = tt
  homes_may (GoesHome p ∷ cs) x e all homes fit h = ((fit.0, tt), (leave_law m x p all homes fit.0.1, same_as x.volume v e), homes_may cs (next m x (Changes (GoesHome p)) v) refl all (on (GoesHome p) tt (goes x (GoesHome p) e homes)) fit.1 h.1)
  homes_may (Tears p sectors fault ∷ cs) x e all homes fit h =
      ((fit.0, tt), (leave_law m x p all homes fit.0.1.1, same_as x.volume v e), homes_may cs (next m x (Changes (Tears p sectors fault)) v) refl all (on (Tears p sectors fault) tt (goes x (Tears p sectors fault) e homes)) fit.1 h.1)
  homes_may (Stops fault ∷ cs) x e all homes fit h = ((fit.0, tt), same_as x.volume v e, homes_may cs (next m x (Changes (Stops fault)) v) refl all (on (Stops fault) tt (goes x (Stops fault) e homes)) fit.1 h.1)
  homes_may (Syncs ∷ cs) x e all homes fit h = ((fit.0, tt), same_as x.volume v e, homes_may cs (next m x (Changes Syncs) v) refl all (on Syncs tt (goes x Syncs e homes)) fit.1 h.1)
  homes_may (Enters e ∷ cs) x _ all homes fit h = absurd h.0
  homes_may (Takes ∷ cs) x e all homes fit h = absurd h.0
  homes_may (Tells n ∷ cs) x e all homes fit h = absurd h.0
  homes_may (HandsOut ∷ cs) x e all homes fit h = absurd h.0
  homes_may (Drops p ∷ cs) x e all homes fit h = absurd h.0
  homes_may (Writes p bytes ∷ cs) x e all homes fit h = absurd h.0
  homes_may (WriteTears p bytes sectors fault ∷ cs) x e all homes fit h = absurd h.0
  homes_may (LogStops fault ∷ cs) x e all homes fit h = absurd h.0
  homes_may (Points ∷ cs) x e all homes fit h = absurd h.0
  homes_may (Knows ∷ cs) x e all homes fit h = absurd h.0

-- ---- a keeper

pub record KeptBy (m : Mount) (area : ℕ → ℕ) (new : Parts) (x y : Keeper) : Type 0 where
  pub kept : IsKept m area new y
  pub grows : GrowsBy [] [] x y

-- what has halted stays so
pub halts_stay : (old new : Option Fault) (result : Result (Unit {0}) Fault) → HaltsAt old new result → new ≡ None → old ≡ None
halts_stay old new (Ok done) e none = sym e ∙ none
halts_stay None new (Err fault) e none = refl
halts_stay (Some first) new (Err fault) e none = absurd (let no = sym e ∙ none in cc (no))

home_halts : (old new : Option Fault) (result : Result (Unit {0}) HomeError) → HomeHalts old new result → new ≡ None → old ≡ None
home_halts old new (Ok done) e none = sym e ∙ none
home_halts old new (Err (NotYet lsn told)) e none = sym e ∙ none
home_halts None new (Err (WriteFault fault)) e none = refl
home_halts (Some first) new (Err (WriteFault fault)) e none = absurd (let no = sym e ∙ none in cc (no))

module _ (m : Mount) (area : ℕ → ℕ) (old new : Parts) (x : Keeper) (kept : IsKept m area old x) (alone : HomesAlone ⊤ old new) (halts : new.halted ≡ None → old.halted ≡ None) where
  abbrev z : Held
  z = held_at x.both x.core x.volumes area old

  abbrev v : Volume
  v = volume_at area old

  volume_stays : KeepsVolume area old new
  volume_stays = same_law area old new (alone.view tt) (ap (λ (p : Parts). p.map) alone.parts) (ap (λ (p : Parts). p.inodes) alone.parts)

  files : KeepsFiles old new
  files = record {
    files = ap (λ (p : Parts). p.files) alone.parts;
    agsize = ap (λ (p : Parts). p.map.agsize) alone.parts;
    inodes = ap (λ (p : Parts). p.inodes) alone.parts;
    halted = halts;
  }

  -- changes that may be made, of which no page of a map is one
  pub kept_by : (cs : List Change) → AreHomes cs → Moves true true old new x.both.volume cs → AllMay m z (leaving v (map Changes cs)) → KeptBy m area new x (kept_after m area old x (leaving v (map Changes cs)))
  kept_by cs h moves may =
      let list : List BothChange = map Changes cs in
      let so = homes_are m.places v cs h in
      let run = run_law m z (leaving v list) kept.rests.held.held may in
      let held : IsHeld m (record (after m z (leaving v list)) { volume = volume_at area new }) =
      replaced m (after m z (leaving v list)) (volume_at area new) run.held (subst (λ (u : Volume). HasTheSame u (volume_at area new)) (sym (same_volume m z v list refl)) volume_stays.same) in
      let low : Low m area old new x (kept_after m area old x (leaving v list)) = keeps m area old new x cs kept.rests so.low moves may volume_stays.sizes held in
      let marks = beside_law m z (leaving v list) kept.rests.held.held may so.beside in
      record {
        kept = record {
          rests = low.rests;
          pages = stay_law m area old new x.both (kept_after m area old x (leaving v list)).both x.core (kept_after m area old x (leaving v list)).core x.volumes (kept_after m area old x (leaving v list)).volumes
              kept.rests.held low.rests.held files marks.0 low.dirty kept.pages;
        };
        grows = low.grows;
      }

  pub by_changes : (cs : List Change) → AreHomes cs → Moves true true old new x.both.volume cs → AllMay m z (leaving v (map Changes cs)) → Steps m area new [] [] x
  by_changes cs h moves may = let k = kept_by cs h moves may in record { keeper = kept_after m area old x (leaving v (map Changes cs)); kept = k.kept; grows = k.grows }

  pub by_homes : (cs : List Change) → AreHomes cs → AllTold x.both → Moves true true old new x.both.volume cs → Steps m area new [] [] x
  by_homes cs h all moves = by_changes cs h moves (homes_may m v cs z refl all kept.pages.homes moves.fit h)

-- ---- laws

homes_all : (pages : List ℕ) (last : List Change) → AreHomes last → AreHomes (go_home pages ++ last)
homes_all [] last h = h
homes_all (p ∷ ps) last h = (tt, homes_all ps last h)

homes_only : (pages : List ℕ) → AreHomes (go_home pages)
homes_only [] = tt
homes_only (p ∷ ps) = (tt, homes_only ps)

pub home_all_law : HomeAllLaw
home_all_law m area old new x (Ok done) kept all (pages, moves) alone halts = by_homes m area old new x kept alone (halts_stay old.halted new.halted (Ok done) halts) (go_home pages) (homes_only pages) all moves
home_all_law m area old new x (Err fault) kept all stop alone halts = by_homes m area old new x kept alone (halts_stay old.halted new.halted (Err fault) halts) (go_home stop.pages ++ stop.last ∷ []) (homes_all stop.pages (stop.last ∷ []) (by stop.last stop.is)) all stop.moves
  where
    by : (c : Change) → IsStop fault c → AreHomes (c ∷ [])
    by _ stops = (tt, tt)
    by _ (tears n sectors) = (tt, tt)

pub home_one_law : HomeOneLaw
home_one_law m area n old new x (Ok done) kept all moves alone halts = by_homes m area old new x kept alone (home_halts old.halted new.halted (Ok done) halts) (GoesHome n ∷ []) (tt, tt) all moves
home_one_law m area n old new x (Err (NotYet lsn told)) kept all moves alone halts = by_homes m area old new x kept alone (home_halts old.halted new.halted (Err (NotYet lsn told)) halts) [] tt all moves
home_one_law m area n old new x (Err (WriteFault fault)) kept all (inl (sectors, moves)) alone halts = by_homes m area old new x kept alone (home_halts old.halted new.halted (Err (WriteFault fault)) halts) (Tears n sectors fault ∷ []) (tt, tt) all moves
home_one_law m area n old new x (Err (WriteFault fault)) kept all (inr moves) alone halts = by_homes m area old new x kept alone (home_halts old.halted new.halted (Err (WriteFault fault)) halts) (Stops fault ∷ []) (tt, tt) all moves

-- a sync may be made whatever waits
pub sync_law : SyncLaw
sync_law m area old new x (Ok done) kept moves alone halts = by_changes m area old new x kept alone (halts_stay old.halted new.halted (Ok done) halts) (Syncs ∷ []) (tt, tt) moves ((moves.fit.0, tt), itself (volume_at area old), tt)
sync_law m area old new x (Err fault) kept moves alone halts = by_changes m area old new x kept alone (halts_stay old.halted new.halted (Err fault) halts) (Stops fault ∷ []) (tt, tt) moves ((moves.fit.0, tt), itself (volume_at area old), tt)
