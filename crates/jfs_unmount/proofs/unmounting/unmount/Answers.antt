use Rattle.std.proofs.Common.{◌≡◌, ◌∙◌, ◌++◌, ◌+◌, ◌-◌, ◌≤◌, ◌<◌, ◌^◌, ℕ, List, take, min, ap, ap₂, sym, subst, arith}
use Rattle.jfs_bits.specs.Count.{Rose}
use Rattle.jfs_disk.specs.Image.{Image, ArePages, page_of}
use Rattle.jfs_disk.specs.Crash.{DiskState, AllSince, IsCrashImage, TearsPage, last_of}
use Rattle.jfs_disk.specs.Moment.{IsResting, now_of}
use Rattle.jfs_volume_calls.specs.halves.specs.Parts.{Parts}
use Rattle.jfs_mounted.specs.mount_disk.proofs.Moments.{low_moments, torn_pages}
use Rattle.jfs_volume_calls.specs.Together.{log_parts}
use Rattle.jfs_unmount.specs.Unmount.{with_super, MomentsMarked}
use Rattle.jfs_unmount.proofs.Ended.{super_page, low_page}
use Rattle.jfs_unmount.proofs.Faults.{low_cause}
use Rattle.jfs_unmount.proofs.Written.{IsPart, left_marked}
use Rattle.jfs_unmount.proofs.unmounting.unmount.Given.{Over}
use Rattle.jfs_unmount.proofs.unmounting.unmount.Goals as goal

pub returns-in-Ok-clause-ends : goal.returns-in-Ok-clause-ends
returns-in-Ok-clause-ends g c =
    let d = g.D.Disk in
    let volume = c.args.m.volume in
    let low = c.into_low-low.result in
    let superblock = c.args.superblock.now.0 in
    let image_is : d.tells → d.image c.join.result ≡ with_super superblock volume.disk ++ d.image c.args.m.log.part = λ t.
    c.join.ensures.image t ∙ ap₂ (λ (a b : Image). a ++ b) (c.in-Ok.ensures.marks t ∙ ap (with_super superblock) c.into_low-low.ensures.image) (ap d.image c.into_part.ensures) in
    let pages : d.tells → ArePages (d.page_count low) volume.disk = λ t. subst (ArePages (d.page_count low)) c.into_low-low.ensures.image (g.met.D.Disk.has_pages low t) in
    record {
      image_is = image_is;
      superblock_is = λ t. super_page superblock volume.disk (d.image c.args.m.log.part) (d.image c.join.result) (d.page_count low) (pages t) (image_is t) (omega (arith, c.requires.there, c.into_low-low.ensures.pages.0));
      pages_are = λ t b other below.
          (low_page superblock volume.disk (d.image c.args.m.log.part) (d.image c.join.result) (d.page_count low) (pages t) (image_is t) b other
          (omega (arith, below, c.into_low-low.ensures.place, c.into_low-low.ensures.pages.0))
          ∙ c.into_low-low.ensures.clean t c.requires.home.clean b below);
      disk_are = λ t b other below. low_page superblock volume.disk (d.image c.args.m.log.part) (d.image c.join.result) (d.page_count low) (pages t) (image_is t) b other
          (omega (arith, below, c.into_low-low.ensures.place, c.into_low-low.ensures.pages.0));
      low = last_of (d.past c.mark_clean.new.low);
      rests = c.in-Ok.ensures.resting;
      state = λ k. c.join.ensures.state k ∙ ap (λ (p : g.row.D.Denot). last_of (d.past c.mark_clean.new.low) ++ last_of (d.past p)) c.into_part.ensures;
    }

pub returns-in-Err-clause-unended : goal.returns-in-Err-clause-unended
returns-in-Err-clause-unended g c = λ t.
    let d = g.D.Disk in
    record {
      low = d.image c.mark_clean.new.low;
      torn = subst (λ (im : Image). TearsPage 8 c.args.superblock.now.0 im (d.image c.mark_clean.new.low)) c.into_low-low.ensures.image (c.in-Err.ensures.marks t);
      image_is = c.join-in-Err.ensures.image t ∙ ap (λ (p : g.row.D.Denot). d.image c.mark_clean.new.low ++ d.image p) c.into_part-in-Err.ensures;
    }

pub returns-in-Err-clause-cause : goal.returns-in-Err-clause-cause
returns-in-Err-clause-cause g c =
    let d = g.D.Disk in
    let fault = c.in-Err.ensures.cause in
    low_cause c.args.m.volume.faults (d.fault_count c.args.m.log.part) (d.fault_count c.mark_clean.new.low) (d.fault_count c.join-in-Err.result) c.in-Err.fault
    (subst (λ (n : ℕ). Rose n (d.fault_count c.mark_clean.new.low)) c.into_low-low.ensures.pages.2 fault.rose) fault.is
    (c.join-in-Err.ensures.faults ∙ ap (λ (p : g.row.D.Denot). min (d.fault_count c.mark_clean.new.low + d.fault_count p) (2 ^ 64 - 1)) c.into_part-in-Err.ensures)

-- ---- what a crash leaves

part : (g : Over) (volume : Parts) (low : g.row.D.Denot) → g.D.Disk.image low ≡ volume.disk → g.D.Disk.past low ≡ volume.past → g.D.Disk.page_count low ≡ volume.count → volume.blocks ≤ volume.count → 8 < volume.count
    → ((b : ℕ) → b < volume.blocks → page_of volume.disk b ≡ page_of volume.view b) → g.D.Disk.tells → g.D.Disk.tells_crashes → IsPart volume (g.D.Disk.page_count low)
part g volume low image past count within there shows t k = record {
  pages = subst (ArePages (g.D.Disk.page_count low)) image (g.met.D.Disk.has_pages low t);
  there = omega (arith, there, count);
  within = omega (arith, within, count);
  own = subst {A = List DiskState × Image} (λ z. IsCrashImage (last_of z.0) z.1) (λ i. (past i, image i)) (g.met.D.Disk.reads_crash low k);
  shows = shows;
}

pub returns-in-Ok-clause-left : goal.returns-in-Ok-clause-left
returns-in-Ok-clause-left g c = λ t k rests.
    let d = g.D.Disk in
    let low = c.into_low-low.result in
    let now = c.mark_clean.new.low in
    let same = c.into_low-low.ensures in
    let e = c.mark_clean.ensures in
    left_marked c.args.superblock.now.0 c.args.m.volume (log_parts d c.args.m.log) (d.page_count low) (d.image now) (d.past now) (part g c.args.m.volume low same.image same.past same.pages.0 same.place c.requires.there (same.clean t c.requires.home.clean) t k)
    (record {
      size = e.size;
      pages = subst (λ (n : ℕ). ArePages n (d.image now)) e.pages (g.met.D.Disk.has_pages now t);
      seen = g.met.D.Disk.reads_now now k;
      some = g.met.D.Disk.has_state now k;
      later = subst (λ (past : List DiskState). now_of past ≤ now_of (d.past now)) same.past (e.later k);
      all = subst {A = List DiskState × Image} (λ z. AllSince (TearsPage 8 c.args.superblock.now.0 z.1) (d.past now) (now_of z.0)) (λ i. (same.past i, same.image i)) (e.moments t k (subst (λ (past : List DiskState). IsResting (last_of past)) (sym same.past) rests));
    })
    (last_of (d.past c.join.result)) (c.join.ensures.state k ∙ ap (λ (p : g.row.D.Denot). last_of (d.past now) ++ last_of (d.past p)) c.into_part.ensures)

pub returns-in-Err-clause-left_unended : goal.returns-in-Err-clause-left_unended
returns-in-Err-clause-left_unended g c = λ t k rests.
    let d = g.D.Disk in
    let low = c.into_low-low.result in
    let now = c.mark_clean.new.low in
    let same = c.into_low-low.ensures in
    let e = c.mark_clean.ensures in
    left_marked c.args.superblock.now.0 c.args.m.volume (log_parts d c.args.m.log) (d.page_count low) (d.image now) (d.past now) (part g c.args.m.volume low same.image same.past same.pages.0 same.place c.requires.there (same.clean t c.requires.home.clean) t k)
    (record {
      size = e.size;
      pages = subst (λ (n : ℕ). ArePages n (d.image now)) e.pages (g.met.D.Disk.has_pages now t);
      seen = g.met.D.Disk.reads_now now k;
      some = g.met.D.Disk.has_state now k;
      later = subst (λ (past : List DiskState). now_of past ≤ now_of (d.past now)) same.past (e.later k);
      all = subst {A = List DiskState × Image} (λ z. AllSince (TearsPage 8 c.args.superblock.now.0 z.1) (d.past now) (now_of z.0)) (λ i. (same.past i, same.image i)) (e.moments t k (subst (λ (past : List DiskState). IsResting (last_of past)) (sym same.past) rests));
    })
    (last_of (d.past c.join-in-Err.result)) (c.join-in-Err.ensures.state k ∙ ap (λ (p : g.row.D.Denot). last_of (d.past now) ++ last_of (d.past p)) c.into_part-in-Err.ensures)

-- ---- and at each moment

pub returns-in-Ok-clause-moments : goal.returns-in-Ok-clause-moments
returns-in-Ok-clause-moments g c = λ t k rests.
    let d = g.D.Disk in
    let volume = c.args.m.volume in
    let low = c.into_low-low.result in
    let now = c.mark_clean.new.low in
    let same = c.into_low-low.ensures in
    let e = c.mark_clean.ensures in
    let bytes = c.args.superblock.now.0 in
    let size = (subst (ArePages (d.page_count low)) same.image (g.met.D.Disk.has_pages low t)).number ∙ same.pages.0 in
    let all = subst {A = List DiskState × Image} (λ z. AllSince (TearsPage 8 bytes z.1) (d.past now) (now_of z.0)) (λ i. (same.past i, same.image i)) (e.moments t k (subst (λ (past : List DiskState). IsResting (last_of past)) (sym same.past) rests)) in
    subst (λ (states : List DiskState). AllSince (λ left. TearsPage 8 bytes volume.disk (take volume.count left)) states (now_of volume.past)) (sym (c.join.ensures.past k))
    (low_moments (d.past now) (d.past c.into_part.result) (TearsPage 8 bytes volume.disk) volume.count (now_of volume.past) (λ left tears. torn_pages 8 volume.count bytes volume.disk left size tears) (g.met.D.Disk.has_state now k)
    (subst (λ (past : List DiskState). now_of past ≤ now_of (d.past now)) same.past (e.later k)) all)

pub returns-in-Err-clause-moments_unended : goal.returns-in-Err-clause-moments_unended
returns-in-Err-clause-moments_unended g c = λ t k rests.
    let d = g.D.Disk in
    let volume = c.args.m.volume in
    let low = c.into_low-low.result in
    let now = c.mark_clean.new.low in
    let same = c.into_low-low.ensures in
    let e = c.mark_clean.ensures in
    let bytes = c.args.superblock.now.0 in
    let size = (subst (ArePages (d.page_count low)) same.image (g.met.D.Disk.has_pages low t)).number ∙ same.pages.0 in
    let all = subst {A = List DiskState × Image} (λ z. AllSince (TearsPage 8 bytes z.1) (d.past now) (now_of z.0)) (λ i. (same.past i, same.image i)) (e.moments t k (subst (λ (past : List DiskState). IsResting (last_of past)) (sym same.past) rests)) in
    subst (λ (states : List DiskState). AllSince (λ left. TearsPage 8 bytes volume.disk (take volume.count left)) states (now_of volume.past)) (sym (c.join-in-Err.ensures.past k))
    (low_moments (d.past now) (d.past c.into_part-in-Err.result) (TearsPage 8 bytes volume.disk) volume.count (now_of volume.past) (λ left tears. torn_pages 8 volume.count bytes volume.disk left size tears) (g.met.D.Disk.has_state now k)
    (subst (λ (past : List DiskState). now_of past ≤ now_of (d.past now)) same.past (e.later k)) all)
