-- Whatever keeps the volume with the same entries, or some more, has its history.
use Rattle.std.proofs.Common.{◌≡◌, ◌≤◌, [], ◌++◌, ℕ, List, length, map, take, sym, ap, subst, ◌∙◌, append-nil, arith}
use Rattle.std.proofs.lemmas.List.{length-map}
use Rattle.jfs_super.specs.Super.{super_of}
use Rattle.jfs_super.specs.declared.fields.Super.{Super}
use Rattle.jfs_legal.specs.served.specs.halves.specs.Entry.{Happened}
use Rattle.jfs_legal.specs.served.specs.halves.specs.Parts.{Parts}
use Rattle.jfs_legal.specs.served.specs.shown.specs.objects.specs.Volume.{Volume}
use Rattle.jfs_legal.specs.served.specs.shown.specs.meaning.specs.Image as meaning
use Rattle.jfs_points_kept.specs.kept_volumes.specs.Keeper.{Keeper, GrowsBy}
use Rattle.jfs_points_kept.specs.kept_volumes.specs.Kept.{IsKept, Steps}
use Rattle.jfs_mounted_maps.specs.mounted_held.specs.mounted_places.specs.held.specs.survival.specs.recovery.specs.Face.{Pages}
use Rattle.jfs_mounted_maps.specs.mounted_held.specs.mounted_places.specs.Mounted.{mount_of}
use Rattle.jfs_kept_history.specs.Kept.{Lasting, lasting, timed_in, Reaches, IsKeptSince}

module _ (s : Super) (page : ℕ → List ℕ) (start : Parts) (list : List Lasting) (points : List ℕ) (old : Parts) (k : IsKeptSince s page start list points old) where
  pub as_many : length k.keeper.both.volume.history ≡ length list
  as_many = sym (length-map k.keeper.both.volume.history lasting) ∙ ap (λ (l : List Lasting). length l) k.history

  pub few : (n : ℕ) → n ≤ length list → n ≤ length k.keeper.both.volume.history
  few n within = omega (arith, within, as_many)

  -- with no entry more
  pub same_entries : (new : Parts) (more : List ℕ) (y : Keeper) → IsKept (mount_of s k.low) (meaning.volume_of s page).area new y → GrowsBy [] more k.keeper y → IsKeptSince s page start list (points ++ more) new
  same_entries new more y kept g = record {
    low = k.low;
    keeper = y;
    superblock = ap (λ (image : Pages). super_of (image 8)) g.mounted ∙ k.superblock;
    kept = kept;
    history = ap (λ (hs : List Happened). map lasting hs) (g.history ∙ append-nil k.keeper.both.volume.history) ∙ k.history;
    points_are = g.points_are ∙ ap (λ (ps : List ℕ). ps ++ more) k.points_are;
    reached = λ n within. subst (λ (v : Volume). Reaches s page start (take n (timed_in list)) v) (sym (g.volumes n (few n within))) (k.reached n within);
  }

  abbrev pub same_all : (new : Parts) (y : Keeper) → IsKept (mount_of s k.low) (meaning.volume_of s page).area new y → GrowsBy [] [] k.keeper y → IsKeptSince s page start list points new
  same_all new y kept g = record {
    low = k.low;
    keeper = y;
    superblock = ap (λ (image : Pages). super_of (image 8)) g.mounted ∙ k.superblock;
    kept = kept;
    history = ap (λ (hs : List Happened). map lasting hs) (g.history ∙ append-nil k.keeper.both.volume.history) ∙ k.history;
    points_are = g.points_are ∙ append-nil k.keeper.both.volume.points ∙ k.points_are;
    reached = λ n within. subst (λ (v : Volume). Reaches s page start (take n (timed_in list)) v) (sym (g.volumes n (few n within))) (k.reached n within);
  }

  abbrev pub stepped : (new : Parts) → Steps (mount_of s k.low) (meaning.volume_of s page).area new [] [] k.keeper → IsKeptSince s page start list points new
  stepped new steps = same_all new steps.keeper steps.kept steps.grows
