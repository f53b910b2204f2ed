-- What a crash leaves of a disk whose parts were joined again.
use Rattle.std.proofs.Common.{◌≡◌, ◌<◌, ◌≤◌, ◌+◌, ◌-◌, ℕ, List, [], ◌++◌, length, take, drop, Result, Err, inr, refl, sym, ap, subst, ◌∙◌, arith}
use Rattle.std.proofs.lemmas.List.{length-append, length-take, length-drop, get_or-take, get_or-drop, get_or_append_left, get_or-append_right}
use Rattle.jfs_disk.specs.Image.{Image, page_of}
use Rattle.jfs_disk.specs.Crash.{DiskState, IsCrashImage, IsCrashPage, no_page, history_of, last_of, seen_of, AllSince, Leaves}
use Rattle.jfs_disk.specs.Moment.{IsResting, now_of}
use Rattle.jfs_disk.proofs.Flow.{crash-resting, length-seen_of}
use Rattle.jfs_disk.proofs.Outcomes.{tears_nothing}
use Rattle.jfs_super.specs.declared.fields.Super.{Super}
use Rattle.jfs_logpages.specs.Fresh.{IsFreshLog}
use Rattle.jfs_disk.specs.declared.disk.DiskError.{DiskError}
use Rattle.jfs_disk.specs.declared.disk.DiskError.TheVariants.{Failed, Memory}
use Rattle.jfs_disk.specs.declared.disk.Fault.{Fault}
use Rattle.jfs_mount_disk.specs.Begun.{marked_page, LeavesLow, LeavesLog, LeavesUntouched, IsLowCause, low_error}
use Rattle.jfs_mount_disk.specs.declared.ready.BeginError.{BeginError}
use Rattle.jfs_mount_disk.specs.declared.ready.BeginError.TheVariants as errors

-- a crash image of two parts is one of each
module _ (low high : DiskState) (left : Image) (crash : IsCrashImage (low ++ high) left) where
  long : length left ≡ length low + length high
  long = crash.number ∙ length-append low high

  pub crash_low : (at : ℕ) → length low ≡ at → IsCrashImage low (take at left)
  crash_low at size = record {
    number = length-take at left ∙ (omega (arith, long, size));
    each = λ n h. subst (λ (page : List ℕ). IsCrashPage (history_of low n) page) (sym (get_or-take at left n [] (omega (arith, h, size))))
        (rw (get_or_append_left low high no_page n h) at (crash.each n (omega (arith, h, length-append low high))));
  }

  pub crash_high : (at : ℕ) → length low ≡ at → IsCrashImage high (drop at left)
  crash_high at size = record {
    number = length-drop at left ∙ (omega (arith, long, size));
    each = λ n h.
        let there : at + n < length (low ++ high) = omega (arith, h, size, length-append low high) in
        let back : at + n - at ≡ n = omega arith in
        subst (λ (page : List ℕ). IsCrashPage (history_of high n) page) (sym (get_or-drop at left n []))
        (rw (get_or-append_right low high at (at + n) no_page size (omega arith), back) at (crash.each (at + n) there));
  }

-- the moment now is one of those since the start
pub at_end : (P : Image → Type 0) (past : List DiskState) (t : ℕ) → 0 < length past → t ≤ now_of past → AllSince P past t → Leaves P (last_of past)
at_end P past t some since all left crash = all left (record { moment = now_of past; since = since; reached = omega (arith, some); crash = crash })

-- pages that stayed
pub still_low : (s : Super) (old left : Image) → take s.logpxd.addr left ≡ take s.logpxd.addr old → LeavesLow s old left
still_low s old left e = tears_nothing 8 (marked_page s (page_of (take s.logpxd.addr old) 8)) (take s.logpxd.addr old) (take s.logpxd.addr left) e

-- a disk with nothing pending, as it was
pub whole_left : (old now : Image) (past new : List DiskState) → new ≡ past → IsResting (last_of past) → now ≡ seen_of (last_of new) → now ≡ old → (left : Image) → IsCrashImage (last_of new) left → left ≡ old
whole_left old now past new same rests seen is left crash =
    crash-resting (last_of new) left (subst (λ (states : List DiskState). IsResting (last_of states)) (sym same) rests) crash ∙ sym seen ∙ is

-- a disk that was joined: its low part has so many pages
module _ (at : ℕ) (low : Image) (state : DiskState) (low_past high_past : List DiskState) (left : Image)
    (is : state ≡ last_of low_past ++ last_of high_past) (seen : low ≡ seen_of (last_of low_past)) (size : length low ≡ at) (crash : IsCrashImage state left) where
  low_size : length (last_of low_past) ≡ at
  low_size = omega (arith, size, ap (λ (im : Image). length im) seen, length-seen_of (last_of low_past))

  both : IsCrashImage (last_of low_past ++ last_of high_past) left
  both = subst (λ (st : DiskState). IsCrashImage st left) is crash

  pub low_rested : IsResting (last_of low_past) → take at left ≡ low
  low_rested rests = crash-resting (last_of low_past) (take at left) rests (crash_low (last_of low_past) (last_of high_past) left both at low_size) ∙ sym seen

  pub high_rested : (high : Image) → high ≡ seen_of (last_of high_past) → IsResting (last_of high_past) → drop at left ≡ high
  high_rested high now rests = crash-resting (last_of high_past) (drop at left) rests (crash_high (last_of low_past) (last_of high_past) left both at low_size) ∙ sym now

  pub low_left : (P : Image → Type 0) → Leaves P (last_of low_past) → P (take at left)
  low_left P all = all (take at left) (crash_low (last_of low_past) (last_of high_past) left both at low_size)

-- a log that was made, whatever failed behind it
pub log_left : (s : Super) (old left : Image) (why : BeginError) → IsFreshLog s.logpxd.len s.uuid (drop s.logpxd.addr left) → LeavesLog s old why left
log_left s old left (errors.Disk fault) fresh = λ _. fresh
log_left s old left errors.Memory fresh = inr fresh

-- A fault of the low part is none of the log's. Where memory ran out the low part's pages stayed.
pub low_not_high : (s : Super) (old left : Image) (before now : ℕ) (why : BeginError) → IsLowCause before now why → (why ≡ errors.Memory → take s.logpxd.addr left ≡ take s.logpxd.addr old) → LeavesUntouched s old why left
low_not_high s old left before now (errors.Disk fault) cause still = λ high. absurd (cc (high, ap (λ (f : Fault). f.part) cause.1))
low_not_high s old left before now errors.Memory cause still = still refl

-- a call that never wants memory fails otherwise
pub not_memory : (e : DiskError) (count : ℕ) (why : BeginError) → why ≡ low_error e count → (e ≡ Memory → ⊥) → ◌≡◌ {A = Result (Unit {0}) BeginError} (Err why) (Err errors.Memory) → ⊥
not_memory Failed count why is other said = absurd (cc (is, said))
not_memory Memory count why is other said = other refl
