-- Counts of faults of a disk whose parts were joined again.
use Rattle.std.proofs.Common.{◌≡◌, ◌⊎◌, ◌<◌, ◌≤◌, ◌+◌, ◌-◌, ◌^◌, ℕ, min, inl, inr, sym, ap, subst, arith}
use Rattle.std.proofs.lemmas.Bool.{cases_lt}
use Rattle.jfs_bits.specs.Count.{Rose}
use Rattle.jfs_disk.specs.declared.disk.Fault.{Fault}
use Rattle.jfs_disk.specs.declared.disk.Part.TheVariants.{Low}
use Rattle.jfs_unmount.specs.Unmount.{IsUnmountCause}

-- a part's count rises, and so does that of both
rose_joined : (own now other : ℕ) → Rose own now → Rose (min (own + other) (2 ^ 64 - 1)) (min (now + other) (2 ^ 64 - 1))
rose_joined own now other (inl more) = sides (cases_lt (now + other) (2 ^ 64 - 1))
  where
    sides : (now + other < 2 ^ 64 - 1) ⊎ (2 ^ 64 - 1 ≤ now + other) → Rose (min (own + other) (2 ^ 64 - 1)) (min (now + other) (2 ^ 64 - 1))
    sides (inl less) = inl (omega (arith, more, less))
    sides (inr most) = inr (omega (arith, most))
rose_joined own now other (inr end) = inr (omega (arith, end))

-- the low part's fault, of a disk that has the counts of both parts
pub low_cause : (low high now disk : ℕ) (fault : Fault) → Rose low now → fault ≡ record { part = Low; count = now } → disk ≡ min (now + high) (2 ^ 64 - 1) → IsUnmountCause low high disk fault
low_cause low high now disk fault rose is both =
    rw both (record {
      part = ap (λ (f : Fault). f.part) is;
      own = subst (λ (n : ℕ). Rose low n) (sym (ap (λ (f : Fault). f.count) is)) rose;
      now_is = ap (λ (f : Fault). min (f.count + high) (2 ^ 64 - 1)) (sym is);
      rose = rose_joined low now high rose;
    })
