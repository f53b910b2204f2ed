-- The tests of a step's conditions decide them.
use Rattle.std.proofs.Common.{◌≡◌, ◌<◌, ◌⊎◌, ℕ, zero, suc, Bool, true, false, not, ◌&&◌, ◌||◌, nat_le, List, [], ◌∷◌, map, length, get_or, Option, Some, None, is_some, Decides, refl, inl, inr, arith}
use Rattle.std.proofs.lemmas.Bool.{and_parts, leb-true, le-leb}
use Rattle.std.specs.Cmp.Lexicographic.{bytes_decides}
use Rattle.std.specs.Option.{option_map}
use Rattle.jfs_ranges.specs.declared.edit.Edit.{Edit}
use Rattle.jfs_bits.specs.Broken.{row_of, first_broken}
use Rattle.jfs_bits.proofs.Broken.{decided-none, decided-some}
use Rattle.jfs_core.specs.declared.block.Span.{Span}
use Rattle.jfs_core.specs.declared.step.Why.{Why}
use Rattle.jfs_core.specs.declared.step.Step.{Step}
use Rattle.jfs_core.specs.Core.{Core, Block, block_of, no_block, newest_of}
use Rattle.jfs_core.specs.Step.{Condition, Runs, NoGroupIsOpen, LogRuns, GroupIsOpen, PageIsDirty, PageIsTold, CountIsTold, CountIsSynced, WouldBeWritten, Holds, why_of, conditions, EndsBy, BeginsPast, IsSynced, told_page, IsAllowed, IsRefused}
use Rattle.jfs_core.specs.Decision.{is_empty, ends_by, begins_past, are_synced, may_go_home, same_bytes, is_met, refusal}

-- ---- each test

none_if : {T : Type 0} (o : Option T) → not (is_some o) ≡ true → o ≡ None
none_if None h = refl
none_if (Some x) h = absurd (cc)

empty_if : (tx : List Edit) → is_empty tx ≡ true → tx ≡ []
empty_if [] h = refl
empty_if (edit ∷ edits) h = absurd (cc)

not_false : (b : Bool) → not b ≡ true → b ≡ false
not_false true h = absurd (cc)
not_false false h = refl

ends_if : (n : ℕ) (span : Option Span) → ends_by n span ≡ true → EndsBy n span
ends_if n None h = tt
ends_if n (Some span) h = leb-true span.last n h

ends_then : (n : ℕ) (span : Option Span) → EndsBy n span → ends_by n span ≡ true
ends_then n None h = refl
ends_then n (Some span) h = le-leb span.last n h

begins_if : (n : ℕ) (span : Option Span) → begins_past n span ≡ true → BeginsPast n span
begins_if n None h = tt
begins_if n (Some span) h = omega (arith, leb-true (suc n) span.first h)

begins_then : (n : ℕ) (span : Option Span) → BeginsPast n span → begins_past n span ≡ true
begins_then n None h = refl
begins_then n (Some span) h = le-leb (suc n) span.first (omega arith)

synced_if : (n : ℕ) (blocks : List Block) → are_synced n blocks ≡ true → (p : ℕ) → p < length blocks → IsSynced n (get_or blocks p no_block)
synced_if n [] e p h = absurd (omega arith)
synced_if n (block ∷ blocks) e zero h =
    let parts = and_parts (begins_past n block.dirty && begins_past n block.unsynced) (are_synced n blocks) e in
    let here = and_parts (begins_past n block.dirty) (begins_past n block.unsynced) parts.0 in
    (begins_if n block.dirty here.0, begins_if n block.unsynced here.1)
synced_if n (block ∷ blocks) e (suc p) h =
    synced_if n blocks (and_parts (begins_past n block.dirty && begins_past n block.unsynced) (are_synced n blocks) e).1 p (omega arith)

both : (a b : Bool) → a ≡ true → b ≡ true → (a && b) ≡ true
both a b x y = rw (x, y) refl

synced_then : (n : ℕ) (blocks : List Block) → ((p : ℕ) → p < length blocks → IsSynced n (get_or blocks p no_block)) → are_synced n blocks ≡ true
synced_then n [] h = refl
synced_then n (block ∷ blocks) h =
    let here = h zero (omega arith) in
    both (begins_past n block.dirty && begins_past n block.unsynced) (are_synced n blocks)
    (both (begins_past n block.dirty) (begins_past n block.unsynced) (begins_then n block.dirty here.0) (begins_then n block.unsynced here.1))
    (synced_then n blocks (λ p l. h (suc p) (omega arith)))

runs_if : (tx : List Edit) (low log : Bool) → (is_empty tx || not (low || log)) ≡ true → (is_empty tx ≡ true) ⊎ ((not low ≡ true) × (not log ≡ true))
runs_if [] low log h = inl refl
runs_if (edit ∷ edits) true log h = absurd (cc)
runs_if (edit ∷ edits) false true h = absurd (cc)
runs_if (edit ∷ edits) false false h = inr (refl, refl)

-- a condition whose test is true holds
pub holds_if : (core : Core) (condition : Condition) → is_met core condition ≡ true → Holds core condition
holds_if core (Runs tx) h = at (runs_if tx (is_some core.low_halted) (is_some core.log_halted) h)
  where
    at : (is_empty tx ≡ true) ⊎ ((not (is_some core.low_halted) ≡ true) × (not (is_some core.log_halted) ≡ true)) → (tx ≡ []) ⊎ ((core.low_halted ≡ None) × (core.log_halted ≡ None))
    at (inl e) = inl (empty_if tx e)
    at (inr e) = inr (none_if core.low_halted e.0, none_if core.log_halted e.1)
holds_if core NoGroupIsOpen h = not_false core.grouped h
holds_if core LogRuns h = none_if core.log_halted h
holds_if core GroupIsOpen h = h
holds_if core (PageIsDirty page) h = h
holds_if core (PageIsTold page) h = ends_if core.told (block_of core page).dirty h
holds_if core (CountIsTold c) h = leb-true c core.told h
holds_if core (CountIsSynced c) h =
    let parts = and_parts (nat_le (newest_of core) c) (are_synced c core.blocks) h in
    (leb-true (newest_of core) c parts.0, synced_if c core.blocks parts.1)
holds_if core (WouldBeWritten page bytes sectors) h =
    let parts = and_parts (nat_le sectors 8) (may_go_home core page && same_bytes bytes (told_page core page)) h in
    let more = and_parts (may_go_home core page) (same_bytes bytes (told_page core page)) parts.1 in
    let home = and_parts (is_some (block_of core page).dirty) (ends_by core.told (block_of core page).dirty) more.0 in
    (leb-true sectors 8 parts.0, home.0, ends_if core.told (block_of core page).dirty home.1, (bytes_decides bytes (told_page core page)).0 more.1)

-- and the test of one that holds is true
holds_then : (core : Core) (condition : Condition) → Holds core condition → is_met core condition ≡ true
holds_then core (Runs tx) (inl e) = rw e refl
holds_then core (Runs tx) (inr e) = rw (e.0, e.1) (at (is_empty tx))
  where
    at : (b : Bool) → (b || true) ≡ true
    at true = refl
    at false = refl
holds_then core NoGroupIsOpen h = rw h refl
holds_then core LogRuns h = rw h refl
holds_then core GroupIsOpen h = h
holds_then core (PageIsDirty page) h = h
holds_then core (PageIsTold page) h = ends_then core.told (block_of core page).dirty h
holds_then core (CountIsTold c) h = le-leb c core.told h
holds_then core (CountIsSynced c) h =
    both (nat_le (newest_of core) c) (are_synced c core.blocks) (le-leb (newest_of core) c h.0) (synced_then c core.blocks h.1)
holds_then core (WouldBeWritten page bytes sectors) h =
    both (nat_le sectors 8) (may_go_home core page && same_bytes bytes (told_page core page)) (le-leb sectors 8 h.0)
    (both (may_go_home core page) (same_bytes bytes (told_page core page))
    (both (is_some (block_of core page).dirty) (ends_by core.told (block_of core page).dirty) h.1 (ends_then core.told (block_of core page).dirty h.2))
    ((bytes_decides bytes (told_page core page)).1 h.3))

-- ---- the first that doesn't hold

decides : (core : Core) (condition : Condition) → Decides (is_met core condition) (Holds core condition)
decides core condition = (holds_if core condition, holds_then core condition)

none_mapped : (o : Option Condition) → option_map why_of o ≡ None → o ≡ None
none_mapped None h = refl
none_mapped (Some condition) h = absurd (cc)

some_mapped : (o : Option Condition) (why : Why) → option_map why_of o ≡ Some why → (condition : Condition) × (o ≡ Some condition) × (why ≡ why_of condition)
some_mapped None why h = absurd (cc)
some_mapped (Some condition) why h = (condition, refl, cc)

pub allowed_if : (core : Core) (step : Step) → refusal core step ≡ None → IsAllowed core step
allowed_if core step e =
    let rows = map (row_of (is_met core)) (conditions step) in
    decided-none (Holds core) (is_met core) (decides core) (conditions step) (none_mapped (first_broken rows) e)

pub refused_if : (core : Core) (step : Step) (why : Why) → refusal core step ≡ Some why → IsRefused core step why
refused_if core step why e =
    let rows = map (row_of (is_met core)) (conditions step) in
    let found = some_mapped (first_broken rows) why e in
    record { condition = found.0; first = decided-some (Holds core) (is_met core) (decides core) (conditions step) found.0 found.1; word = found.2 }
