-- The decision of a step's conditions by tests that compute: for the prover alone, `Step.antt` says what the conditions mean.
use Rattle.std.specs.Prelude.{ℕ, Bool, true, false, not, ◌&&◌, ◌||◌, nat_le, nat_eq, suc, List, [], ◌∷◌, map, Option, Some, None, is_some}
use Rattle.std.specs.Cmp.Lexicographic.{pointwise}
use Rattle.std.specs.Option.{option_map}
use Rattle.jfs_ranges.specs.declared.edit.Edit.{Edit}
use Rattle.jfs_bits.specs.Broken.{row_of, first_broken}
use Rattle.jfs_core.specs.declared.block.Span.{Span}
use Rattle.jfs_core.specs.declared.step.Why.{Why}
use Rattle.jfs_core.specs.declared.step.Step.{Step}
use Rattle.jfs_core.specs.Core.{Core, Block, block_of, newest_of}
use Rattle.jfs_core.specs.Step.{Condition, Runs, NoGroupIsOpen, LogRuns, GroupIsOpen, PageIsDirty, PageIsTold, CountIsTold, CountIsSynced, WouldBeWritten, why_of, conditions, told_page}

abbrev pub is_empty : List Edit → Bool
is_empty [] = true
is_empty (edit ∷ edits) = false

abbrev pub is_halted : Core → Bool
is_halted core = is_some core.low_halted || is_some core.log_halted

abbrev pub ends_by : ℕ → Option Span → Bool
ends_by n None = true
ends_by n (Some span) = nat_le span.last n

abbrev pub begins_past : ℕ → Option Span → Bool
begins_past n None = true
begins_past n (Some span) = nat_le (suc n) span.first

abbrev pub are_synced : ℕ → List Block → Bool
are_synced n [] = true
are_synced n (block ∷ blocks) = (begins_past n block.dirty && begins_past n block.unsynced) && are_synced n blocks

abbrev pub may_go_home : Core → ℕ → Bool
may_go_home core page = is_some (block_of core page).dirty && ends_by core.told (block_of core page).dirty

abbrev pub same_bytes : List ℕ → List ℕ → Bool
same_bytes xs ys = pointwise nat_eq xs ys

-- the test of a condition
abbrev pub is_met : Core → Condition → Bool
is_met core (Runs tx) = is_empty tx || not (is_halted core)
is_met core NoGroupIsOpen = not core.grouped
is_met core LogRuns = not (is_some core.log_halted)
is_met core GroupIsOpen = core.grouped
is_met core (PageIsDirty page) = is_some (block_of core page).dirty
is_met core (PageIsTold page) = ends_by core.told (block_of core page).dirty
is_met core (CountIsTold c) = nat_le c core.told
is_met core (CountIsSynced c) = nat_le (newest_of core) c && are_synced c core.blocks
is_met core (WouldBeWritten page bytes sectors) = nat_le sectors 8 && (may_go_home core page && same_bytes bytes (told_page core page))

-- why a step is refused in a state, by the tests
abbrev pub refusal : Core → Step → Option Why
refusal core step = option_map why_of (first_broken (map (row_of (is_met core)) (conditions step)))
