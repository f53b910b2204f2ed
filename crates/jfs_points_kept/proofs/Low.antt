-- Changes of the low part: they leave the log, the history and the sync counts, and lead to a keeper of the parts after them.
use Rattle.std.proofs.Common.{◌≡◌, refl, sym, ap, ◌∙◌, subst, ℕ, true, List, [], ◌∷◌, ◌++◌, map, append-nil, IsSome, arith}
use Rattle.jfs_kept_volumes.specs.held_maps.proofs.Kept.{run_law as run_maps}
use Rattle.jfs_kept_volumes.proofs.Made.{same_part, same_mounted}
use Rattle.jfs_kept_volumes.proofs.Maps.{of_volume}
use Rattle.jfs_kept_volumes.proofs.Rests.{rest_law}
use Rattle.jfs_kept_volumes.specs.Keeper.{Keeper, kept_after, GrowsBy}
use Rattle.jfs_kept_volumes.specs.Kept.{IsHeldAtRest}
use Rattle.jfs_kept_volumes.specs.Rest.{IsAtRest}
use Rattle.jfs_kept_volumes.specs.Steps.{SameSizes}
use Rattle.jfs_kept_volumes.specs.commits_held.specs.volume_calls.specs.halves.specs.Both.{BothChange, Changes, FitAll, changed, after as after_both}
use Rattle.jfs_kept_volumes.specs.commits_held.specs.volume_calls.specs.halves.specs.Change.{Change, Enters, Takes, Tells, HandsOut, GoesHome, Tears, Drops, Writes, WriteTears, Stops, LogStops, Syncs, Points, Knows, Fits, changed as changed_half, after as after_half, FitAll as FitAllOfVolume}
use Rattle.jfs_kept_volumes.specs.commits_held.specs.volume_calls.specs.halves.specs.Half.{VolumeHalf, Halves, block_in}
use Rattle.jfs_kept_volumes.specs.commits_held.specs.volume_calls.specs.halves.specs.Moves.{Moves}
use Rattle.jfs_kept_volumes.specs.commits_held.specs.volume_calls.specs.halves.specs.Parts.{Parts, StandsFor}
use Rattle.jfs_kept_volumes.specs.pages_held.proofs.Beside.{dirty_law}
use Rattle.jfs_kept_volumes.specs.pages_held.specs.Beside.{NoEntries, DirtyStays}
use Rattle.jfs_kept_volumes.specs.pages_held.specs.joined_held.specs.Held.{blocks_at, volume_at, held_at}
use Rattle.jfs_kept_volumes.specs.pages_held.specs.joined_held.specs.held.proofs.Crash.{run_law}
use Rattle.jfs_kept_volumes.specs.pages_held.specs.joined_held.specs.held.specs.Changes.{Made, next, leaving, after, AllMay}
use Rattle.jfs_kept_volumes.specs.pages_held.specs.joined_held.specs.held.specs.Held.{Mount, Held, IsHeld, face_at}
use Rattle.jfs_kept_volumes.specs.pages_held.specs.joined_held.specs.held.specs.survival.proofs.Changes.{counted}
use Rattle.jfs_kept_volumes.specs.pages_held.specs.joined_held.specs.held.specs.Laws.{StaysHeld}
use Rattle.jfs_kept_volumes.specs.commits_held.specs.volume_calls.specs.volume.specs.data_steps.specs.meaning.specs.Readers.{readers}
use Rattle.jfs_kept_volumes.specs.commits_held.specs.volume_calls.specs.volume.specs.data_steps.specs.objects.specs.Volume.{Volume}

-- ---- which changes these are

abbrev pub IsLow : Change → Type 0
IsLow (GoesHome p) = Unit {0}
IsLow (Tears p sectors fault) = Unit {0}
IsLow (Writes p bytes) = Unit {0}
IsLow (WriteTears p bytes sectors fault) = Unit {0}
IsLow (Stops fault) = Unit {0}
IsLow Syncs = Unit {0}
IsLow (Enters h) = ⊥
IsLow Takes = ⊥
IsLow (Tells n) = ⊥
IsLow HandsOut = ⊥
IsLow (Drops p) = ⊥
IsLow (LogStops fault) = ⊥
IsLow Points = ⊥
IsLow Knows = ⊥

abbrev pub AreLow : List Change → Type 0
AreLow [] = Unit {0}
AreLow (c ∷ cs) = IsLow c × AreLow cs

pub low_join : (xs ys : List Change) → AreLow xs → AreLow ys → AreLow (xs ++ ys)
low_join [] ys a b = b
low_join (c ∷ cs) ys a b = (a.0, low_join cs ys a.1 b)

no_entries : (cs : List Change) → AreLow cs → NoEntries cs
no_entries [] low = tt
no_entries (GoesHome p ∷ cs) low = (tt, no_entries cs low.1)
no_entries (Tears p sectors fault ∷ cs) low = (tt, no_entries cs low.1)
no_entries (Writes p bytes ∷ cs) low = (tt, no_entries cs low.1)
no_entries (WriteTears p bytes sectors fault ∷ cs) low = (tt, no_entries cs low.1)
no_entries (Stops fault ∷ cs) low = (tt, no_entries cs low.1)
no_entries (Syncs ∷ cs) low = (tt, no_entries cs low.1)
no_entries (Enters h ∷ cs) low = absurd low.0
no_entries (Takes ∷ cs) low = absurd low.0
no_entries (Tells n ∷ cs) low = absurd low.0
no_entries (HandsOut ∷ cs) low = absurd low.0
no_entries (Drops p ∷ cs) low = absurd low.0
no_entries (LogStops fault ∷ cs) low = absurd low.0
no_entries (Points ∷ cs) low = absurd low.0
no_entries (Knows ∷ cs) low = absurd low.0

-- ---- what they leave

-- the log's half asks nothing of them, and its text stays at rest
record Lasts (blocks : ℕ) (both : Halves) (c : Change) : Type 0 where
  rest : IsAtRest blocks (changed both (Changes c))
  fits : Fits both.volume c → FitAll both (Changes c ∷ [])
  history : (changed_half both.volume c).history ≡ both.volume.history
  points : (changed_half both.volume c).points ≡ both.volume.points
  told : (changed_half both.volume c).told ≡ both.volume.told

lasts : (blocks : ℕ) (both : Halves) (c : Change) → IsLow c → Fits both.volume c → IsAtRest blocks both → Lasts blocks both c
lasts blocks both (GoesHome p) low fits rest = record { rest = rest_law blocks both (GoesHome p) rest fits tt; fits = λ f. ((f, tt), tt); history = refl; points = refl; told = refl }
lasts blocks both (Tears p sectors fault) low fits rest = record { rest = rest_law blocks both (Tears p sectors fault) rest fits tt; fits = λ f. ((f, tt), tt); history = refl; points = refl; told = refl }
lasts blocks both (Writes p bytes) low fits rest = record { rest = rest_law blocks both (Writes p bytes) rest fits tt; fits = λ f. ((f, tt), tt); history = refl; points = refl; told = refl }
lasts blocks both (WriteTears p bytes sectors fault) low fits rest = record { rest = rest_law blocks both (WriteTears p bytes sectors fault) rest fits tt; fits = λ f. ((f, tt), tt); history = refl; points = refl; told = refl }
lasts blocks both (Stops fault) low fits rest = record { rest = rest_law blocks both (Stops fault) rest fits tt; fits = λ f. ((f, tt), tt); history = refl; points = refl; told = refl }
lasts blocks both Syncs low fits rest = record { rest = rest_law blocks both Syncs rest fits tt; fits = λ f. ((f, tt), tt); history = refl; points = refl; told = refl }
lasts blocks both (Enters h) low fits rest = absurd low
lasts blocks both Takes low fits rest = absurd low
lasts blocks both (Tells n) low fits rest = absurd low
lasts blocks both HandsOut low fits rest = absurd low
lasts blocks both (Drops p) low fits rest = absurd low
lasts blocks both (LogStops fault) low fits rest = absurd low
lasts blocks both Points low fits rest = absurd low
lasts blocks both Knows low fits rest = absurd low

-- the same of lists
pub record LastAll (blocks : ℕ) (both : Halves) (cs : List Change) : Type 0 where
  pub rest : IsAtRest blocks (after_both both (map Changes cs))
  pub fits : FitAll both (map Changes cs)
  pub volume : (after_both both (map Changes cs)).volume ≡ after_half both.volume cs
  pub history : (after_half both.volume cs).history ≡ both.volume.history
  pub points : (after_half both.volume cs).points ≡ both.volume.points
  pub told : (after_half both.volume cs).told ≡ both.volume.told

pub last_all : (blocks : ℕ) (cs : List Change) (both : Halves) → AreLow cs → FitAllOfVolume both.volume cs → IsAtRest blocks both → LastAll blocks both cs
last_all blocks [] both low fits rest = record { rest = rest; fits = tt; volume = refl; history = refl; points = refl; told = refl }
last_all blocks (c ∷ cs) both low fits rest =
    let this = lasts blocks both c low.0 fits.0 rest in
    let more = last_all blocks cs (changed both (Changes c)) low.1 fits.1 this.rest in
    record {
      rest = more.rest;
      fits = ((this.fits fits.0).0, more.fits);
      volume = more.volume;
      history = more.history ∙ this.history;
      points = more.points ∙ this.points;
      told = more.told ∙ this.told;
    }

-- ---- the halves after changes that leave the volume

pub halves_are : (m : Mount) (x : Held) (v : Volume) (list : List BothChange) → (after m x (leaving v list)).both ≡ after_both x.both list
halves_are m x v [] = refl
halves_are m x v (c ∷ cs) = halves_are m (next m x c v) v cs

-- ---- the keeper

pub record Low (m : Mount) (area : ℕ → ℕ) (old new : Parts) (x y : Keeper) : Type 0 where
  pub rests : IsHeldAtRest m area new y
  pub grows : GrowsBy [] [] x y
  pub dirty : DirtyStays x.both.volume y.both.volume

module _ (m : Mount) (area : ℕ → ℕ) (old new : Parts) (x : Keeper) (cs : List Change) (rests : IsHeldAtRest m area old x) (low : AreLow cs) (moves : Moves true true old new x.both.volume cs) where
  abbrev z : Held
  z = held_at x.both x.core x.volumes area old

  abbrev v : Volume
  v = volume_at area old

  abbrev ds : List Made
  ds = leaving v (map Changes cs)

  abbrev y : Keeper
  y = kept_after m area old x ds

  pub all : LastAll (blocks_at old) x.both cs
  all = last_all (blocks_at old) cs x.both low moves.fit rests.rest

  half_is : y.both.volume ≡ after_half x.both.volume cs
  half_is = ap (λ (h : Halves). h.volume) (halves_are m z v (map Changes cs)) ∙ all.volume

  pub keeps : (may : AllMay m z ds) → SameSizes old new → IsHeld m (record (after m z ds) { volume = volume_at area new }) → Low m area old new x y
  keeps may sizes held =
      let run : StaysHeld m z (after m z ds) = run_law m z ds rests.held.held may in
      record {
        rests = record {
          held = record {
            held = held;
            readers_are = ap readers sizes.blocks ∙ rests.held.readers_are;
            blocks = rests.held.blocks ∙ sym sizes.blocks;
            extents = sizes.extents ∙ rests.held.extents;
            within = (let w = rests.held.within in let p = same_part m z ds in let s = sizes.blocks in omega (arith, w, p, s));
          };
          stands = subst (λ (h : VolumeHalf). StandsFor true true new h) (sym half_is) moves.stands;
          maps = of_volume m (after m z ds) (volume_at area new) (after m z ds).volumes (run_maps m z ds rests.held.held rests.maps may);
          rest = subst (λ (n : ℕ). IsAtRest n y.both) (sym sizes.blocks) (subst (λ (h : Halves). IsAtRest (blocks_at old) h) (sym (halves_are m z v (map Changes cs))) all.rest);
        };
        grows = record {
          history = ap (λ (h : VolumeHalf). h.history) half_is ∙ all.history ∙ sym (append-nil x.both.volume.history);
          points_are = ap (λ (h : VolumeHalf). h.points) half_is ∙ all.points ∙ sym (append-nil x.both.volume.points);
          volumes = λ k l. run.volumes k (let n = counted (face_at m) x.both x.core rests.held.held.core_is in omega (arith, l, n));
          mounted = same_mounted m z ds;
        };
        dirty = λ q some. dirty_law x.both.volume cs (no_entries cs low) q (subst (λ (h : VolumeHalf). IsSome (block_in h q).dirty) half_is some);
      }
