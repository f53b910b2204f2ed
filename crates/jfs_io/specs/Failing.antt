-- Sources and sinks in memory, of whose calls some are to fail.
use Rattle.std.specs.Prelude.{◌+◌, ◌-◌, ◌^◌, ℕ, Bool, ◌&&◌, nat_le, if◌then◌else◌, min, List}
use Rattle.jfs_io.specs.declared.failing.Failing.{Failing}

-- one more, up to the last u64 value
abbrev pub raised : ℕ → ℕ
raised n = min (n + 1) (2 ^ 64 - 1)

abbrev pub no_failing : Failing
no_failing = record { first = 1; last = 0; calls = 0; faults = 0 }

-- these calls fail, counted anew
abbrev pub failing_between : ℕ → ℕ → Failing → Failing
failing_between first last f = record f { first = first; last = last; calls = 0 }

-- whether the next call fails
abbrev pub is_failing : Failing → Bool
is_failing f = nat_le f.first (raised f.calls) && nat_le (raised f.calls) f.last

abbrev pub after_call : Failing → Failing
after_call f = record f { calls = raised f.calls; faults = if is_failing f then raised f.faults else f.faults }

-- a source: the bytes that are left, and which calls fail
pub record Feed : Type 0 where
  pub left : List ℕ
  pub failing : Failing

-- a sink: the bytes that it took, which calls fail, and whether these take 0 bytes in place of an error
pub record Outlet : Type 0 where
  pub taken : List ℕ
  pub failing : Failing
  pub zero_bytes : Bool
