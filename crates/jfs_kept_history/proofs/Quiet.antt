-- Groups, acknowledgements and faults of a volume that is kept.
use Rattle.std.proofs.Common.{◌≡◌, ◌⊎◌, ◌∷◌, [], ℕ, true, false, List, Option, None, Some, refl, sym, ap, ◌∙◌, inl, inr}
use Rattle.std.proofs.lemmas.Bool.{false≢true}
use Rattle.std.specs.List.{AllByRecursion}
use Rattle.jfs_disk.specs.declared.disk.Fault.{Fault}
use Rattle.jfs_super.specs.declared.fields.Super.{Super}
use Rattle.jfs_legal.specs.served.specs.crash_core.specs.Step.{halted_by}
use Rattle.jfs_legal.specs.served.specs.volume.specs.bmap.specs.States.{Blocks}
use Rattle.jfs_legal.specs.served.specs.halves.specs.Change.{Change, Takes, Tells, HandsOut, LogStops}
use Rattle.jfs_legal.specs.served.specs.halves.specs.Moves.{Moves}
use Rattle.jfs_legal.specs.served.specs.halves.specs.Parts.{Parts}
use Rattle.jfs_legal.specs.served.specs.volume.specs.Settles.{SettlesTo, KeepsMap}
use Rattle.jfs_legal.specs.served.specs.volume.specs.Told.{drops}
use Rattle.jfs_legal.specs.served.specs.shown.specs.meaning.specs.Image as meaning
use Rattle.jfs_points_kept.specs.kept_volumes.specs.Rest.{HasRoom}
use Rattle.jfs_points_kept.specs.kept_volumes.specs.Steps.{IsQuiet, KeepsVolume, takes_group}
use Rattle.jfs_points_kept.specs.kept_volumes.proofs.Halts.{halt_law}
use Rattle.jfs_points_kept.specs.kept_volumes.proofs.Kept.{kept_quiet_law}
use Rattle.jfs_points_kept.specs.kept_volumes.proofs.Same.{same_law, settled_law}
use Rattle.jfs_points_kept.specs.pages_held.specs.Beside.{KeepsFiles}
use Rattle.jfs_mounted_maps.specs.mounted_held.specs.mounted_places.specs.Mounted.{mount_of}
use Rattle.jfs_kept_history.specs.Kept.{Lasting, IsKeptSince}
use Rattle.jfs_kept_history.specs.Laws.{TakenLaw, ToldLaw, HaltedLaw, HandedLaw}
use Rattle.jfs_kept_history.proofs.Same.{stepped}

-- pages that are dropped, and nothing else
drops_quiet : (pages : List ℕ) → AllByRecursion IsQuiet (drops pages)
drops_quiet [] = tt
drops_quiet (p ∷ ps) = (tt, drops_quiet ps)

drops_take_none : (pages : List ℕ) → takes_group (drops pages) ≡ false
drops_take_none [] = refl
drops_take_none (p ∷ ps) = drops_take_none ps

-- a volume that runs then ran before
ran : (fault : Fault) (halted : Option Fault) → halted_by fault halted ≡ None → halted ≡ None
ran fault None runs = refl
ran fault (Some first) runs = runs

module _ (s : Super) (page : ℕ → List ℕ) (start : Parts) (list : List Lasting) (points : List ℕ) (old new : Parts) (k : IsKeptSince s page start list points old) where
  quiet : (changes : List Change) → (takes_group changes ≡ true → HasRoom old) → AllByRecursion IsQuiet changes → Moves true true old new k.keeper.both.volume changes → KeepsVolume (meaning.volume_of s page).area old new → KeepsFiles old new
      → IsKeptSince s page start list points new
  quiet changes room is_quiet moves keeps files =
      stepped s page start list points old k new (kept_quiet_law (mount_of s k.low) (meaning.volume_of s page).area old new changes k.keeper k.kept room is_quiet moves keeps files)

  -- parts with the same pages and maps, and the same files of these
  alike : new.view ≡ old.view → new.map ≡ old.map → new.inodes ≡ old.inodes → KeepsVolume (meaning.volume_of s page).area old new
  alike view map inodes = same_law (meaning.volume_of s page).area old new view map inodes

  same_files : new.files ≡ old.files → new.map ≡ old.map → new.inodes ≡ old.inodes → (new.halted ≡ None → old.halted ≡ None) → KeepsFiles old new
  same_files files map inodes halted = record { files = files; agsize = ap (λ (b : Blocks). b.agsize) map; inodes = inodes; halted = halted }

pub taken_law : (tells crashes : Type 0) → TakenLaw tells crashes
taken_law tells crashes t c s page start list points old new k taken room e =
    quiet s page start list points old new k (Takes ∷ []) (λ _. room) (tt, tt) (taken true true (λ _. t) (λ _. c) k.keeper.both.volume k.kept.rests.stands)
    (alike s page start list points old new k (ap (λ (p : Parts). p.view) e) (ap (λ (p : Parts). p.map) e) (ap (λ (p : Parts). p.inodes) e))
    (same_files s page start list points old new k (ap (λ (p : Parts). p.files) e) (ap (λ (p : Parts). p.map) e) (ap (λ (p : Parts). p.inodes) e) (λ runs. sym (ap (λ (p : Parts). p.halted) e) ∙ runs))

pub handed_law : (tells crashes : Type 0) → HandedLaw tells crashes
handed_law tells crashes t c s page start list points old new k handed e =
    quiet s page start list points old new k (HandsOut ∷ []) (λ bad. absurd (false≢true bad)) (tt, tt) (handed true true (λ _. t) (λ _. c) k.keeper.both.volume k.kept.rests.stands)
    (alike s page start list points old new k (ap (λ (p : Parts). p.view) e) (ap (λ (p : Parts). p.map) e) (ap (λ (p : Parts). p.inodes) e))
    (same_files s page start list points old new k (ap (λ (p : Parts). p.files) e) (ap (λ (p : Parts). p.map) e) (ap (λ (p : Parts). p.inodes) e) (λ runs. sym (ap (λ (p : Parts). p.halted) e) ∙ runs))

pub halted_law : HaltedLaw
halted_law s page start list points fault old new k e =
    quiet s page start list points old new k (LogStops fault ∷ []) (λ bad. absurd (false≢true bad)) (tt, tt) (halt_law fault old new k.keeper.both.volume k.kept.rests.stands e)
    (alike s page start list points old new k (ap (λ (p : Parts). p.view) e) (ap (λ (p : Parts). p.map) e) (ap (λ (p : Parts). p.inodes) e))
    (same_files s page start list points old new k (ap (λ (p : Parts). p.files) e) (ap (λ (p : Parts). p.map) e) (ap (λ (p : Parts). p.inodes) e) (λ runs. ran fault old.halted (sym (ap (λ (p : Parts). p.halted) e) ∙ runs)))

pub told_law : (tells crashes : Type 0) → ToldLaw tells crashes
told_law tells crashes t c s page start list points n old new k holds told settles pages halted =
    let is = told true true (λ _. t) (λ _. c) k.keeper.both.volume k.kept.rests.stands in
    quiet s page start list points old new k (Tells n ∷ drops is.0) (λ bad. absurd (false≢true (sym (drops_take_none is.0) ∙ bad))) (tt, drops_quiet is.0) is.1
    (settled_law (meaning.volume_of s page).area old new holds.freed settles (record { files = pages.files; view = λ _. pages.view t }))
    (record { files = pages.files; agsize = agsize settles.map; inodes = settles.inodes; halted = λ runs. sym halted ∙ runs })
  where
    agsize : KeepsMap old new ⊎ ((to : ℕ) × SettlesTo to old new) → new.map.agsize ≡ old.map.agsize
    agsize (inl same) = ap (λ (b : Blocks). b.agsize) same.map
    agsize (inr (to, done)) = ap (λ (b : Blocks). b.agsize) done.map
