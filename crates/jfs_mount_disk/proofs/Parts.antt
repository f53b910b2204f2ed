-- Pages of a disk that was cut and joined again, and its count of faults.
use Rattle.std.proofs.Common.{◌≡◌, ◌⊎◌, ◌<◌, ◌≤◌, ◌+◌, ◌-◌, ◌^◌, ℕ, List, [], ◌++◌, length, take, drop, min, inl, inr, refl, sym, ap, ◌∙◌, arith}
use Rattle.std.proofs.lemmas.Bool.{cases_lt}
use Rattle.std.proofs.lemmas.List.{length-map, take-map, drop-map, get_or-take, get_or-drop, get_or_append_left, get_or-append_right}
use Rattle.jfs_bits.specs.Count.{Rose}
use Rattle.jfs_disk.specs.Image.{Image, page_of}
use Rattle.jfs_disk.specs.Crash.{DiskState, last_of, settled}
use Rattle.jfs_disk.specs.Cut.{lows_of, highs_of}
use Rattle.jfs_disk.specs.declared.disk.Fault.{Fault}
use Rattle.jfs_disk.specs.declared.disk.Part.TheVariants.{Low, High}
use Rattle.jfs_disk.specs.Moment.{IsResting, now_of}
use Rattle.jfs_disk.proofs.Cuts.{last_of-map}
use Rattle.jfs_logpages.specs.Fresh.{OthersStay}
use Rattle.jfs_mount_disk.specs.declared.ready.BeginError.{BeginError}
use Rattle.jfs_mount_disk.specs.declared.ready.BeginError.TheVariants as errors
use Rattle.jfs_mount_disk.specs.Begun.{IsLowCause, IsPartFault, IsCause}

-- A disk is cut before page `at`, and both parts are joined again: a page is as it was where it was so in its part.
pub pages_stay : (at len : ℕ) (old low high : Image) → at + len ≤ length old → length low ≡ at
    → ((n : ℕ) → (n ≡ 8 → ⊥) → page_of low n ≡ page_of (take at old) n) → OthersStay 1 (len - 1) (drop at old) high
    → (n : ℕ) → (n ≡ 8 → ⊥) → (at < n → n < at + len → ⊥) → page_of (low ++ high) n ≡ page_of old n
pages_stay at len old low high within long lows highs n other outside = by (cases_lt n at)
  where
    by : (n < at) ⊎ (at ≤ n) → page_of (low ++ high) n ≡ page_of old n
    by (inl l) = get_or_append_left low high [] n (omega (arith, l, long)) ∙ lows n other ∙ get_or-take at old n [] l
    by (inr l) =
        let k = n - at in
        let e : at + k ≡ n = omega (arith, l) in
        get_or-append_right low high at n [] long l ∙ highs k (behind k e) ∙ get_or-drop at old k [] ∙ ap (λ (m : ℕ). page_of old m) e
      where
        behind : (k : ℕ) → at + k ≡ n → (k < 1) ⊎ (1 + (len - 1) ≤ k)
        behind k e = sides (cases_lt k 1) (cases_lt k len)
          where
            sides : (k < 1) ⊎ (1 ≤ k) → (k < len) ⊎ (len ≤ k) → (k < 1) ⊎ (1 + (len - 1) ≤ k)
            sides (inl first) at_end = inl first
            sides (inr later) (inl inside) = absurd (outside (omega (arith, e, later)) (omega (arith, e, inside)))
            sides (inr later) (inr past) = inr (omega (arith, later, past))

-- the low part's count rises with a fault alone, and so does that of the disk that is joined
rose_stays : (disk low high now : ℕ) → low + high ≡ disk → disk < 2 ^ 64 → Rose low now → Rose disk (min (now + high) (2 ^ 64 - 1))
rose_stays disk low high now sum fits rose = by rose
  where
    by : Rose low now → Rose disk (min (now + high) (2 ^ 64 - 1))
    by (inl more) = sides (cases_lt (now + high) (2 ^ 64 - 1))
      where
        sides : (now + high < 2 ^ 64 - 1) ⊎ (2 ^ 64 - 1 ≤ now + high) → Rose disk (min (now + high) (2 ^ 64 - 1))
        sides (inl less) = inl (omega (arith, more, sum, less))
        sides (inr most) = inr (omega (arith, most))
    by (inr end) = inr (omega (arith, end))

-- a fault of a part, once it is joined to the other one
pub part_cause : (disk own other now : ℕ) (fault : Fault) → own + other ≡ disk → disk < 2 ^ 64 → (fault.part ≡ Low) ⊎ (fault.part ≡ High) → Rose own now → fault.count ≡ now
    → Rose disk (min (now + other) (2 ^ 64 - 1)) × IsPartFault disk (min (now + other) (2 ^ 64 - 1)) fault
part_cause disk own other now fault sum fits part rose is =
    (rose_stays disk own other now sum fits rose, record { part = part; own = own; other = other; cut = sum; rose = rw is rose; both = rw is refl })

pub cause_stays : (disk low high now : ℕ) (why : BeginError) → low + high ≡ disk → disk < 2 ^ 64 → IsLowCause low now why → IsCause disk (min (now + high) (2 ^ 64 - 1)) why
cause_stays disk low high now (errors.Disk fault) sum fits cause =
    part_cause disk low high now fault sum fits (inl (ap (λ (f : Fault). f.part) cause.1)) cause.0 (ap (λ (f : Fault). f.count) cause.1)
cause_stays disk low high now errors.Memory sum fits same = omega (arith, sum, fits, same)

-- ---- parts of a disk with nothing pending have nothing pending

take_settled : (at : ℕ) (state : DiskState) → take at (settled state) ≡ settled (take at state)
unfolding settled
take_settled at state = take-map _ at state

drop_settled : (at : ℕ) (state : DiskState) → drop at (settled state) ≡ settled (drop at state)
unfolding settled
drop_settled at state = drop-map _ at state

pub low_rests : (at : ℕ) (past low : List DiskState) → 0 < length past → low ≡ lows_of at past → IsResting (last_of past) → IsResting (last_of low)
low_rests at past low some is rests =
    let last : last_of low ≡ take at (last_of past) = ap (λ (p : List DiskState). last_of p) is ∙ last_of-map (λ (st : DiskState). take at st) past some in
    last ∙ ap (λ (st : DiskState). take at st) rests ∙ take_settled at (last_of past) ∙ ap (λ (st : DiskState). settled st) (sym last)

pub high_rests : (at : ℕ) (past high : List DiskState) → 0 < length past → high ≡ highs_of at past → IsResting (last_of past) → IsResting (last_of high)
high_rests at past high some is rests =
    let last : last_of high ≡ drop at (last_of past) = ap (λ (p : List DiskState). last_of p) is ∙ last_of-map (λ (st : DiskState). drop at st) past some in
    last ∙ ap (λ (st : DiskState). drop at st) rests ∙ drop_settled at (last_of past) ∙ ap (λ (st : DiskState). settled st) (sym last)

-- the moment now is the same in each part
pub low_now : (at : ℕ) (past low : List DiskState) → low ≡ lows_of at past → now_of low ≡ now_of past
low_now at past low is = omega (arith, ap (λ (p : List DiskState). length p) is, length-map past (λ (st : DiskState). take at st))

pub high_now : (at : ℕ) (past high : List DiskState) → high ≡ highs_of at past → now_of high ≡ now_of past
high_now at past high is = omega (arith, ap (λ (p : List DiskState). length p) is, length-map past (λ (st : DiskState). drop at st))
