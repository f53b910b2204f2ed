-- Each step writes what the device calls write.
use Rattle.std.proofs.Common.{Bool, ◌≡◌, ◌<◌, ◌≤◌, ◌⊎◌, ℕ, suc, true, false, List, [], ◌∷◌, if◌then◌else◌, length, map, set, refl, sym, ap, ◌∙◌, inl, inr, arith}
use Rattle.std.proofs.lemmas.Bool.{cases_lt}
use Rattle.std.proofs.lemmas.List.{map-set, get_or-map, get_or_past, length-map}
use Rattle.jfs_disk.specs.Crash.{PageHistory, DiskState, history_of, no_page, written, failed, settled, page_written, page_failed}
use Rattle.jfs_ranges.specs.Apply.{touches_tx}
use Rattle.jfs_core.specs.declared.step.Step.{Step}
use Rattle.jfs_core.specs.declared.step.Step.TheVariants as steps
use Rattle.jfs_core.specs.declared.step.FaultOf.TheVariants as faults
use Rattle.jfs_core.specs.Core.{Core, Block, block_of, no_block, low_of}
use Rattle.jfs_core.specs.Step.{does, told_page, sent_home, failed_home, synced, dirtied, marked}
use Rattle.jfs_core.specs.Law.{low_after}
use Rattle.std.proofs.lemmas.Bool.{cases_Bool, cond-true, cond-false}

abbrev pages_of : Block → PageHistory
pages_of block = block.pages

pub history_of-low : (core : Core) (page : ℕ) → history_of (low_of core) page ≡ (block_of core page).pages
history_of-low core page = at (cases_lt page (length core.blocks))
  where
    at : (page < length core.blocks) ⊎ (length core.blocks ≤ page) → history_of (low_of core) page ≡ (block_of core page).pages
    at (inl h) = get_or-map pages_of core.blocks page no_block no_page h
    at (inr h) = get_or_past (low_of core) page no_page (omega (arith, length-map core.blocks pages_of)) ∙ sym (ap pages_of (get_or_past core.blocks page no_block h))

home_writes : (core : Core) (page : ℕ) → low_of (does core (steps.Home page)) ≡ written page (told_page core page) (low_of core)
unfolding written
home_writes core page =
    let e = history_of-low core page in
    map-set pages_of core.blocks page (sent_home (told_page core page) (block_of core page))
    ∙ ap (λ (history : PageHistory). set (low_of core) page (page_written (told_page core page) history)) (sym e)

fault_writes : (core : Core) (page : ℕ) (bytes : List ℕ) (sectors : ℕ) → map pages_of (set core.blocks page (failed_home bytes sectors (block_of core page))) ≡ failed page bytes sectors (low_of core)
unfolding failed
fault_writes core page bytes sectors =
    let e = history_of-low core page in
    map-set pages_of core.blocks page (failed_home bytes sectors (block_of core page))
    ∙ ap (λ (history : PageHistory). set (low_of core) page (page_failed bytes sectors history)) (sym e)

sync_settles : (blocks : List Block) → map pages_of (map synced blocks) ≡ settled (map pages_of blocks)
unfolding settled
sync_settles [] = refl
sync_settles (block ∷ blocks) = let rest = sync_settles blocks in ap (λ (pages : DiskState). (synced block).pages ∷ pages) rest

marks_nothing : (changed : ℕ → Bool) (n p : ℕ) (blocks : List Block) → map pages_of (marked changed n p blocks) ≡ map pages_of blocks
marks_nothing changed n p [] = refl
marks_nothing changed n p (block ∷ blocks) =
    let rest = marks_nothing changed n (suc p) blocks in
    ap (λ (pages : DiskState). (if changed p then dirtied n block else block).pages ∷ pages) rest
    ∙ ap (λ (page : PageHistory). page ∷ map pages_of blocks) (at (cases_Bool (changed p)))
  where
    at : (changed p ≡ true) ⊎ (changed p ≡ false) → (if changed p then dirtied n block else block).pages ≡ block.pages
    at (inl e) = ap pages_of (cond-true (changed p) (dirtied n block) block e)
    at (inr e) = ap pages_of (cond-false (changed p) (dirtied n block) block e)

pub device_calls : (core : Core) (step : Step) → low_of (does core step) ≡ low_after core step
device_calls core (steps.Append tx) = marks_nothing (λ (p : ℕ). touches_tx p tx) (suc (length core.history)) 0 core.blocks
device_calls core steps.Take = refl
device_calls core steps.GroupWrite = refl
device_calls core steps.Told = refl
device_calls core (steps.Home page) = home_writes core page
device_calls core steps.LowSync = sync_settles core.blocks
device_calls core (steps.SyncPoint c) = refl
device_calls core (steps.Fault fault faults.Read) = refl
device_calls core (steps.Fault fault faults.LowSync) = refl
device_calls core (steps.Fault fault faults.GroupWrite) = refl
device_calls core (steps.Fault fault (faults.LowWrite page bytes sectors)) = fault_writes core page bytes.0 sectors
