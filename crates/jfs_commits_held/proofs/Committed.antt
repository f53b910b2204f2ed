-- A commit keeps a volume held.
use Rattle.std.specs.Bool.{⊤}
use Rattle.std.proofs.Common.{◌≡◌, refl, sym, ap, ◌∙◌, subst, ℕ, List, [], ◌∷◌, length, map, inl, inr, Ok, Err, arith}
use Rattle.jfs_volume_calls.specs.volume.specs.map_files.specs.imap.specs.Inodes.{Inodes}
use Rattle.jfs_volume_calls.specs.volume.specs.data_steps.specs.objects.specs.Volume.{Volume}
use Rattle.jfs_volume_calls.specs.volume.specs.data_steps.specs.meaning.specs.Readers.{readers}
use Rattle.jfs_volume_calls.specs.volume.specs.Settles.{Settles}
use Rattle.jfs_volume_calls.specs.volume.specs.Told.{drops}
use Rattle.jfs_volume_calls.specs.halves.specs.Both.{BothChange, Changes, GroupFails, FitAll}
use Rattle.jfs_volume_calls.specs.halves.specs.Change.{Takes}
use Rattle.jfs_volume_calls.specs.halves.specs.Half.{Halves}
use Rattle.jfs_volume_calls.specs.halves.specs.Parts.{Parts}
use Rattle.jfs_volume_calls.specs.Commit.{IsWritten, committing}
use Rattle.jfs_volume_calls.specs.Written.{KeepsPages}
use Rattle.jfs_joined_held.specs.held.specs.survival.specs.recovery.specs.Core.{Core}
use Rattle.jfs_joined_held.specs.held.specs.survival.specs.Lists.{ArePlain}
use Rattle.jfs_joined_held.specs.held.specs.Held.{Mount, Held}
use Rattle.jfs_joined_held.specs.held.specs.Changes.{HasTheSame, next, leaving, after, AllMay}
use Rattle.jfs_joined_held.specs.held.proofs.Crash.{run_law}
use Rattle.jfs_joined_held.specs.held.proofs.Kept.{replaced, part_size}
use Rattle.jfs_joined_held.specs.held.proofs.Quiet.{quiet_law}
use Rattle.jfs_joined_held.specs.Held.{blocks_at, volume_at, held_at, IsHeldAs}
use Rattle.jfs_commits_held.specs.Committed.{AreBusy, IsRunOfCommit, CommitLaw}
use Rattle.jfs_commits_held.proofs.Settled.{size, same_now}

-- ---- lists

dropping : (pages : List ℕ) → ArePlain (map Changes (drops pages))
dropping [] = tt
dropping (p ∷ ps) = (tt, dropping ps)

written_plain : (written : List BothChange) (n : ℕ) (pages : List ℕ) → IsWritten written → ArePlain (committing written n pages)
written_plain written n pages (inl e) = subst (λ (w : List BothChange). ArePlain (committing w n pages)) (sym e) (tt, dropping pages)
written_plain written n pages (inr e) = subst (λ (w : List BothChange). ArePlain (committing w n pages)) (sym e) (tt, (tt, (tt, dropping pages)))

same_volume : (m : Mount) (x : Held) (v : Volume) (list : List BothChange) → x.volume ≡ v → (after m x (leaving v list)).volume ≡ v
same_volume m x v [] e = e
same_volume m x v (c ∷ cs) e = same_volume m (next m x c v) v cs refl

same_part : (m : Mount) (x : Held) (v : Volume) (list : List BothChange) → length (after m x (leaving v list)).both.volume.blocks ≡ length x.both.volume.blocks
same_part m x v [] = refl
same_part m x v (c ∷ cs) = same_part m (next m x c v) v cs ∙ part_size x.both c

-- ---- a commit

module _ (m : Mount) (area : ℕ → ℕ) (old new : Parts) (both : Halves) (core : Core) (volumes : ℕ → Volume) (is_held : IsHeldAs m area old both core volumes) (busy : AreBusy old) (settles : Settles old new) (keeps : KeepsPages ⊤ old new) where
  abbrev v : Volume
  v = volume_at area old

  abbrev x : Held
  x = held_at both core volumes area old

  size_is : blocks_at new ≡ blocks_at old
  size_is = size area old new busy settles keeps

  pub committed : (list : List BothChange) → FitAll both list → ArePlain list → IsRunOfCommit m area old new both core volumes
  committed list fits plain =
      let may : AllMay m x (leaving v list) = quiet_law m x list fits plain in
      record {
        list = list;
        may = may;
        held = record {
          held = replaced m (after m x (leaving v list)) (volume_at area new) (run_law m x (leaving v list) is_held.held may).held (subst (λ (u : Volume). HasTheSame u (volume_at area new)) (sym (same_volume m x v list refl)) (same_now area old new busy settles keeps));
          readers_are = ap readers size_is ∙ is_held.readers_are;
          blocks = is_held.blocks ∙ sym size_is;
          extents = ap (λ (i : Inodes). length i.extents) settles.inodes ∙ is_held.extents;
          within = (let low = is_held.within in let part = same_part m x v list in let s = size_is in omega (arith, low, part, s));
        };
      }

pub commit_law : CommitLaw
commit_law m area asked old new log both core volumes (Ok done) is_held busy is settles keeps =
    committed m area old new both core volumes is_held busy settles keeps (committing is.written (length both.volume.history) is.pages) is.closes.moves.fit (written_plain is.written (length both.volume.history) is.pages is.is)
commit_law m area asked old new log both core volumes (Err why) is_held busy is settles keeps =
    committed m area old new both core volumes is_held busy settles keeps (Changes Takes ∷ GroupFails why.fault ∷ []) is.fit (tt, (tt, tt))
