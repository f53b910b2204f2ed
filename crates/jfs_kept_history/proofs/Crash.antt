-- Whatever a crash leaves of a kept volume is redone to its history.
use Rattle.std.proofs.Common.{◌≡◌, ◌≤◌, ◌<◌, ℕ, List, length, take, drop, sym, ap, subst, ◌∙◌, arith}
use Rattle.jfs_disk.specs.Image.{Image, page_of, ArePages}
use Rattle.jfs_ranges.specs.declared.edit.Edit.{Edit}
use Rattle.jfs_super.specs.Rules.{blocks_of, IsAccepted}
use Rattle.jfs_super.specs.Super.{super_of}
use Rattle.jfs_super.specs.declared.fields.Super.{Super}
use Rattle.jfs_findings_new.specs.mount_rules.specs.Subject.{subject_of, volume}
use Rattle.jfs_legal.specs.served.specs.Holds.{volume_at}
use Rattle.jfs_legal.specs.served.specs.halves.specs.Half.{LogHalf}
use Rattle.jfs_legal.specs.served.specs.halves.specs.Parts.{Parts}
use Rattle.jfs_legal.specs.served.specs.shown.specs.kinds.specs.Images.{IsSameVolume}
use Rattle.jfs_legal.specs.served.specs.shown.specs.meaning.specs.Image as meaning
use Rattle.jfs_legal.specs.served.specs.shown.specs.meaning.specs.Readers.{readers}
use Rattle.jfs_legal.specs.served.specs.shown.specs.meaning.specs.Tree.{tree_on}
use Rattle.jfs_legal.specs.served.specs.shown.specs.objects.specs.Image.{area_on, is_block_used}
use Rattle.jfs_legal.specs.served.specs.shown.specs.objects.specs.Readers.{Readers}
use Rattle.jfs_legal.specs.served.specs.shown.specs.objects.specs.Volume.{Volume}
use Rattle.jfs_legal.specs.served.specs.shown.specs.objects.proofs.Owned.{is_bit}
use Rattle.jfs_crashes_redone.specs.Crashed.{HasCrashed, IsRedoneToVolume}
use Rattle.jfs_crashes_redone.specs.redo.specs.Log.{AreCommitted}
use Rattle.jfs_crashes_redone.specs.redo.specs.Redo.{IsRedone}
use Rattle.jfs_crashes_redone.specs.redo.proofs.Extents.{low_pages-stay}
use Rattle.jfs_crashes_redone.proofs.Facts.{AreFacts}
use Rattle.jfs_crashes_redone.proofs.Places as found
use Rattle.jfs_crashes_redone.proofs.Redone.{crashed_law}
use Rattle.jfs_points_kept.specs.kept_volumes.specs.Keeper.{Keeper}
use Rattle.jfs_points_kept.specs.kept_volumes.specs.Logs.{with_log, kept_with, IsLogBeside, HoldsWith}
use Rattle.jfs_points_kept.specs.kept_volumes.specs.joined_held.specs.Held.{held_at}
use Rattle.jfs_points_kept.specs.kept_volumes.proofs.Besides.{beside_law}
use Rattle.jfs_mounted_maps.specs.mounted_held.specs.mounted_places.specs.held.specs.Held.{Mount, Held}
use Rattle.jfs_mounted_maps.specs.mounted_held.specs.mounted_places.specs.held.specs.survival.specs.face.specs.Places.{Places}
use Rattle.jfs_mounted_maps.specs.mounted_held.specs.mounted_places.specs.held.specs.survival.specs.recovery.specs.Core.{image}
use Rattle.jfs_mounted_maps.specs.mounted_held.specs.mounted_places.specs.held.specs.survival.specs.recovery.proofs.Redo.{size_left}
use Rattle.jfs_mounted_maps.specs.mounted_held.specs.mounted_places.specs.Mounted.{mount_of}
use Rattle.jfs_mounted_maps.specs.mounted_held.specs.mounted_places.specs.Places.{places_of}
use Rattle.jfs_kept_history.specs.Crash.{HoldsHistory, IsRedoneToHistory, CrashLaw, RedoneAgainLaw}
use Rattle.jfs_kept_history.specs.Kept.{Lasting, timed_in, Reaches, IsKeptSince}
use Rattle.jfs_kept_history.specs.Tree.{SameNodes}
use Rattle.jfs_kept_history.proofs.Maps.{maps_agree}
use Rattle.jfs_kept_history.proofs.Nodes.{nodes_law}
use Rattle.jfs_kept_history.proofs.Same.{as_many}
use Rattle.jfs_kept_history.proofs.Targets.{same_consistent}

-- of two volumes like one the second is like the first
between : (r : Readers) (u v w : Volume) → IsSameVolume r u v → IsSameVolume r u w → IsSameVolume r v w
between r u v w a b = record {
  extents = b.extents ∙ sym a.extents;
  area = λ c. b.area c ∙ sym (a.area c);
  used = λ c. b.used c ∙ sym (a.used c);
  in_use = λ n. b.in_use n ∙ sym (a.in_use n);
  objects = λ n. b.objects n ∙ sym (a.objects n);
  owners = λ c. b.owners c ∙ sym (a.owners c);
  sound = b.sound;
}

-- ---- a kept volume, and a crash of it beside this log

module _ (s : Super) (page : ℕ → List ℕ) (start : Parts) (list : List Lasting) (points : List ℕ) (p : Parts) (log : LogHalf) (old : Image) (k : IsKeptSince s page start list points p)
    (beside : IsLogBeside k.keeper log) (crashed : HasCrashed s (with_log log k.keeper.both) old) where
  abbrev r : Readers
  r = readers (blocks_of s)

  abbrev m : Mount
  m = mount_of s k.low

  abbrev area : ℕ → ℕ
  area = (meaning.volume_of s page).area

  abbrev x : Keeper
  x = kept_with log k.keeper

  abbrev held : Held
  held = held_at x.both x.core x.volumes area p

  with_it : HoldsWith m area p k.keeper log
  with_it = beside_law m area p k.keeper log k.kept.rests beside

  done : IsRedoneToVolume s m held old
  done = crashed_law s k.low held old with_it.held.held with_it.maps crashed

  -- ---- what is known of the pages that it left

  left : AreFacts s (places_of s k.low) x.core (found.left s k.low held old with_it.held.held with_it.maps crashed) old
  left = found.facts s k.low held old with_it.held.held with_it.maps crashed

  sizes : (b : ℕ) → b < blocks_of s → length (page_of old b) ≡ 4096
  sizes b low = ap (λ (a : List ℕ). length a) (sym (left.same_low b low)) ∙ size_left _ x.core left.sound _ left.is_left b

  -- its fixed areas are those of a sound volume
  once : (volume (subject_of s (page_of old))).area 8 ≤ 1
  once =
      let was = left.stands 0 (omega arith) in
      let same : area_on r s.ait2 s.aim2 (page_of old) 8 ≡ area_on r s.ait2 s.aim2 (image x.core 0) 8 = ap (λ (q : Places). q.area 8) (left.places_are ∙ sym was.places) in
      let owners = was.sound.agrees.blocks 8 in
      let one = is_bit (is_block_used r (image x.core 0) (blocks_of s) 8) in
      omega (arith, same, owners, one)

  -- ---- what redo makes of them

  few : done.n ≤ length list
  few = let within = done.within in omega (arith, within, as_many s page start list points p k)

  reached : Reaches s page start (take done.n (timed_in list)) (k.keeper.volumes done.n)
  reached = k.reached done.n few

  module _ (txs : List (List Edit)) (new : Image) (committed : AreCommitted s.logpxd.len (blocks_of s) (drop s.logpxd.addr old) txs) (redone : IsRedone s txs old new) (whole : ArePages (length new) new) (long : length new ≡ length old) where
    is : IsSameVolume r (k.keeper.volumes done.n) (meaning.volume_of s (page_of new))
    is = done.redone txs new committed redone whole long

    same : IsSameVolume r (meaning.volume_of s (page_of new)) (volume_at area reached.last)
    same = between r (k.keeper.volumes done.n) (meaning.volume_of s (page_of new)) (volume_at area reached.last) is reached.same

    nodes : SameNodes (tree_on r (volume_at area reached.last)) (meaning.tree_of s (page_of new))
    nodes = record { nodes = λ n. sym ((nodes_law r (meaning.volume_of s (page_of new)) (volume_at area reached.last) same).nodes n) }

    holds : HoldsHistory s page start (take done.n (timed_in list)) (page_of new)
    holds = record {
      reached = record { last = reached.last; legal = reached.legal; blocks = reached.blocks; same = same; consistent = reached.consistent };
      tree = subst (λ (blocks : ℕ). SameNodes (tree_on (readers blocks) (volume_at area reached.last)) (meaning.tree_of s (page_of new))) (sym reached.blocks) nodes;
      maps = maps_agree s txs old new redone (done.apart txs committed) done.unbroken once (low_pages-stay (blocks_of s) (drop s.logpxd.addr old) s.logpxd.len txs committed) sizes is.sound;
      keepable = record {
        consistent = same_consistent r (meaning.volume_of s (page_of new)) (volume_at area reached.last) same is.sound reached.consistent;
        files = done.files txs new committed redone whole long;
        past = done.past txs new committed redone whole long;
      };
    }

  pub redone_to_history : IsRedoneToHistory s page start list log.durable old
  redone_to_history = record {
    n = done.n;
    durable_are = done.durable;
    within = few;
    superblock = ap super_of done.superblock ∙ k.superblock;
    commits = done.commits;
    answered = done.answered;
    redone = holds;
  }

pub crash_law : CrashLaw
crash_law s page start list points p log old k beside crashed = redone_to_history s page start list points p log old k beside crashed

pub redone_again_law : RedoneAgainLaw
redone_again_law s page start list durable old clean accepted left txs new committed redone whole long bytes = record {
  superblock = redone.superblock ∙ ap (λ (state : _). record s { state = state }) (sym clean);
  accepted = subst (λ (n : ℕ). IsAccepted s n) (sym long) accepted;
  pages = whole;
  bytes = bytes;
  keepable = (left.redone txs new committed redone whole long).keepable;
}
