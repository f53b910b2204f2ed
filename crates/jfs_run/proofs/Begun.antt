-- A volume as a mount leaves it.
use Rattle.std.proofs.Common.{◌≡◌, ◌<◌, ℕ, ap, sym, subst, arith}
use Rattle.std.specs.Prelude.{None}
use Rattle.jfs_disk.specs.Image.{Image, page_of}
use Rattle.jfs_logpages.specs.Fresh.{IsFreshLog}
use Rattle.jfs_super.specs.Rules.{IsAccepted}
use Rattle.jfs_super.specs.Super.{super_of}
use Rattle.jfs_super.specs.declared.fields.Super.{Super}
use Rattle.jfs_super.specs.declared.fields.TheConstants.VolumeState.{CLEAN}
use Rattle.jfs_super.proofs.Rules.{accepted_layout, accepted_pages}
use Rattle.jfs_server.specs.shared.specs.Start.{IsJustMounted}
use Rattle.jfs_server.specs.shared.specs.legal.specs.served.specs.halves.specs.Log.{LogParts}
use Rattle.jfs_server.specs.shared.specs.legal.specs.served.specs.halves.specs.Parts.{Parts}
use Rattle.jfs_server.specs.shared.specs.legal.specs.served.specs.volume_calls.specs.Together.{AreTogether}
use Rattle.jfs_server.specs.shared.specs.legal.specs.served.specs.mounted.specs.Mount.{IsMountOf}

pub has_superblock : (s : Super) (pages : ℕ) → IsAccepted s pages → 8 < pages
has_superblock s pages accepted = let nine = accepted_pages s pages accepted in omega (arith, nine)

-- a superblock of a clean volume is so as it is
pub clean_is : (s : Super) → s.state ≡ CLEAN → s ≡ record s { state = CLEAN }
clean_is s clean = ap (λ state. record s { state = state }) clean

-- A mount of an image is one of another, where they are the same of a disk that tells its contents.
mount_of : (tells crashes : Type 0) (s : Super) (now old : Image) (volume : Parts) (log : LogParts) → (tells → now ≡ old) → IsMountOf tells crashes s now volume log → IsMountOf tells crashes s old volume log
mount_of tells crashes s now old volume log same m = record {
  pages = m.pages;
  maps = m.maps;
  fresh = m.fresh;
  log_fresh = m.log_fresh;
  marked = λ t. rw (sym (same t)) (m.marked t);
  superblock = m.superblock;
  rest = m.rest;
  has_maps = m.has_maps;
  found = λ t. rw (sym (same t)) (m.found t);
  keeps = λ t. rw (sym (same t)) (m.keeps t);
}

module _ (s : Super) (pages : ℕ) (accepted : IsAccepted s pages) where
  -- its superblock's page is one of the low part's
  pub superblock_below : (count : ℕ) → count ≡ s.logpxd.addr → 8 < count
  superblock_below count is = let layout = accepted_layout s pages accepted in let least = layout.least in let behind = layout.behind in omega (arith, is, least, behind)

  pub just_mounted : (tells crashes : Type 0) (now image : Image) (block : Super) (volume : Parts) (log : LogParts) → IsMountOf tells crashes s now volume log → (tells → now ≡ image) → block ≡ s → (tells → super_of (page_of image 8) ≡ s) → volume.blocks ≡ s.logpxd.addr → volume.halted ≡ None → AreTogether volume log
      → (tells → IsFreshLog s.logpxd.len s.uuid log.image) → IsJustMounted tells crashes block image volume log
  just_mounted tells crashes now image block volume log mount same block_is spelled blocks runs together fresh =
      subst (λ (b : Super). IsJustMounted tells crashes b image volume log) (sym block_is) record {
        mount = mount_of tells crashes s now image volume log same mount;
        spelled = spelled;
        pages = pages;
        accepted = accepted;
        blocks = blocks;
        runs = runs;
        together = together;
        fresh = fresh;
      }
