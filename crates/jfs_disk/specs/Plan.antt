-- Which calls of a disk in memory fail.
use Rattle.std.specs.Prelude.{◌+◌, ◌-◌, ◌^◌, ℕ, Bool, true, false, ◌&&◌, List, min, nat_le}
use Rattle.std.specs.List.{list_any}
use Rattle.jfs_disk.specs.declared.disk.Part.{Part}
use Rattle.jfs_disk.specs.declared.disk.Part.TheVariants.{Whole, Low, High}
use Rattle.jfs_disk.specs.declared.plan.Kind.{Kind}
use Rattle.jfs_disk.specs.declared.plan.Kind.TheVariants.{Read, Write, Sync}
use Rattle.jfs_disk.specs.declared.plan.Fail.{Fail}
use Rattle.jfs_disk.specs.declared.plan.Counters.{Counters}
use Rattle.jfs_disk.specs.declared.plan.Tally.{Tally}

abbrev pub same_part : Part → Part → Bool
same_part Whole Whole = true
same_part Low Low = true
same_part High High = true
same_part _ _ = false

abbrev pub same_kind : Kind → Kind → Bool
same_kind Read Read = true
same_kind Write Write = true
same_kind Sync Sync = true
same_kind _ _ = false

-- a call of this kind on this part, with this number from 1, fails by it
abbrev pub covers : Part → Kind → ℕ → Fail → Bool
covers part kind number fail =
    same_part fail.part part && same_kind fail.kind kind && nat_le fail.first number && nat_le number fail.last

-- how many calls of a kind there were, up to the last u64 value
abbrev pub number_of : Kind → Counters → ℕ
number_of Read counters = counters.reads
number_of Write counters = counters.writes
number_of Sync counters = counters.syncs

-- one more, up to the last u64 value
abbrev pub raised : ℕ → ℕ
raised n = min (n + 1) (2 ^ 64 - 1)

-- one more call of a kind
abbrev pub counted : Kind → Counters → Counters
counted Read counters = record counters { reads = raised counters.reads }
counted Write counters = record counters { writes = raised counters.writes }
counted Sync counters = record counters { syncs = raised counters.syncs }

-- how many calls there were on a part
abbrev pub counters_on : Part → Tally → Counters
counters_on Whole tally = tally.whole
counters_on Low tally = tally.low
counters_on High tally = tally.high

-- one more call of a kind on a part
abbrev pub tallied : Part → Kind → Tally → Tally
tallied Whole kind tally = record tally { whole = counted kind tally.whole }
tallied Low kind tally = record tally { low = counted kind tally.low }
tallied High kind tally = record tally { high = counted kind tally.high }

-- no calls yet
abbrev pub untouched : Tally
untouched = let none : Counters = record { reads = 0; writes = 0; syncs = 0 } in record { whole = none; low = none; high = none }

-- whether the next call of a kind fails
abbrev pub fails_next : List Fail → Part → Kind → Tally → Bool
fails_next fails part kind tally = list_any (covers part kind (number_of kind (counters_on part (tallied part kind tally)))) fails
