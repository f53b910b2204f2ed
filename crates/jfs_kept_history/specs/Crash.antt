-- A crash of a served volume that is kept, and the redo of its disk.
use Rattle.std.specs.Prelude.{◌≡◌, ◌≤◌, ℕ, List, length, take, drop, Err}
use Rattle.jfs_bits.specs.Field.{AreBytes}
use Rattle.jfs_disk.specs.Image.{Image, page_of, ArePages}
use Rattle.jfs_ranges.specs.declared.edit.Edit.{Edit}
use Rattle.jfs_super.specs.Rules.{blocks_of, IsAccepted}
use Rattle.jfs_super.specs.Super.{super_of}
use Rattle.jfs_super.specs.declared.fields.Super.{Super}
use Rattle.jfs_super.specs.declared.fields.TheConstants.VolumeState.{CLEAN, MOUNTED}
use Rattle.jfs_findings_new.specs.mount_rules.specs.Subject.{subject_of}
use Rattle.jfs_agree.specs.Agree.{MapsAgree}
use Rattle.jfs_legal.specs.served.specs.halves.specs.Half.{LogHalf}
use Rattle.jfs_legal.specs.served.specs.halves.specs.Parts.{Parts}
use Rattle.jfs_legal.specs.served.specs.shown.specs.meaning.specs.Image as meaning
use Rattle.jfs_legal.specs.served.specs.Holds.{tree_at}
use Rattle.jfs_legal.specs.served.specs.Legal.{Timed}
use Rattle.jfs_crashes_redone.specs.Crashed.{HasCrashed}
use Rattle.jfs_crashes_redone.specs.redo.specs.Log.{AreCommitted}
use Rattle.jfs_crashes_redone.specs.redo.specs.Redo.{IsRedone, IsRefusal, RedoIs}
use Rattle.jfs_crashes_redone.specs.redo.specs.declared.error.RedoError.{RedoError}
use Rattle.jfs_points_kept.specs.kept_volumes.specs.Logs.{with_log, IsLogBeside}
use Rattle.jfs_mounted_maps.specs.Keepable.{IsKeepable}
use Rattle.jfs_kept_history.specs.Keepable.{IsKeepableImage}
use Rattle.jfs_kept_history.specs.Kept.{Lasting, timed_in, Reaches, IsKeptSince}
use Rattle.jfs_kept_history.specs.Tree.{SameNodes}

-- Redone pages, and what the history of these entries leaves. Their tree, file bytes aside, is the one behind the last of the plain steps (`IsLegal` goes from the start's tree to it); and their maps agree with the inodes: both sets are those of the owners and of the inodes in use, and each page of both maps is the canonical one of them. They are a keepable volume, so it is consistent.
pub record HoldsHistory (s : Super) (page : ℕ → List ℕ) (start : Parts) (es : List Timed) (new : ℕ → List ℕ) : Type 0 where
  pub reached : Reaches s page start es (meaning.volume_of s new)
  pub tree : SameNodes (tree_at (meaning.volume_of s page).area reached.last) (meaning.tree_of s new)
  pub maps : MapsAgree (subject_of s new)
  pub keepable : IsKeepable s new

-- The disk's superblock says that the volume is mounted, and redo refuses it for nothing. However the log is read, a disk that is redone by its transactions has the tree, file bytes aside, after the first n entries of the history, all durable ones among them, and maps that agree with the inodes.
pub record IsRedoneToHistory (s : Super) (page : ℕ → List ℕ) (start : Parts) (list : List Lasting) (durable : ℕ) (old : Image) : Type 0 where
  pub n : ℕ
  pub durable_are : durable ≤ n
  pub within : n ≤ length list
  pub superblock : super_of (page_of old 8) ≡ record s { state = MOUNTED }
  pub commits : ((p : ℕ) → AreBytes (page_of (drop s.logpxd.addr old) p)) → (txs : List (List Edit)) × AreCommitted s.logpxd.len (blocks_of s) (drop s.logpxd.addr old) txs
  pub answered : (new : Image) (why : RedoError) → RedoIs s old new (Err why) → IsRefusal why → ⊥
  pub redone : (txs : List (List Edit)) (new : Image) → AreCommitted s.logpxd.len (blocks_of s) (drop s.logpxd.addr old) txs → IsRedone s txs old new → ArePages (length new) new → length new ≡ length old
      → HoldsHistory s page start (take n (timed_in list)) (page_of new)

-- So is whatever a crash leaves, while the log is one beside what keeps the volume.
abbrev pub CrashLaw : Type 0
CrashLaw = (s : Super) (page : ℕ → List ℕ) (start : Parts) (list : List Lasting) (points : List ℕ) (p : Parts) (log : LogHalf) (old : Image) → (k : IsKeptSince s page start list points p)
    → IsLogBeside k.keeper log → HasCrashed s (with_log log k.keeper.both) old → IsRedoneToHistory s page start list log.durable old

-- What redo makes of such a disk is a keepable image again, with the superblock that was mounted. So what is said of a run on a keepable image is said of the run behind a crash, too, and of each one behind that.
abbrev pub RedoneAgainLaw : Type 0
RedoneAgainLaw = (s : Super) (page : ℕ → List ℕ) (start : Parts) (list : List Lasting) (durable : ℕ) (old : Image) → s.state ≡ CLEAN → IsAccepted s (length old) → IsRedoneToHistory s page start list durable old
    → (txs : List (List Edit)) (new : Image) → AreCommitted s.logpxd.len (blocks_of s) (drop s.logpxd.addr old) txs → IsRedone s txs old new → ArePages (length new) new → length new ≡ length old → ((p : ℕ) → AreBytes (page_of new p)) → IsKeepableImage s new
