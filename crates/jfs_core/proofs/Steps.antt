-- Every list of allowed steps keeps a sound core sound.
use Rattle.std.proofs.Common.{append_assoc, map, set, ◌≡◌, ◌<◌, ◌≤◌, ◌^◌, ℕ, zero, suc, List, [], ◌∷◌, ◌++◌, length, take, get_or, Option, refl, sym, ap, ◌∙◌, subst, arith}
use Rattle.std.proofs.lemmas.List.{append-nil, take_at, length-map, get_or-map}
use Rattle.jfs_disk.specs.Image.{Image, page_of, ArePages}
use Rattle.jfs_disk.specs.Crash.{IsCrashImage, content_of}
use Rattle.jfs_disk.specs.declared.disk.Fault.{Fault}
use Rattle.jfs_disk.specs.declared.page.Page.{Page}
use Rattle.jfs_core.specs.declared.step.FaultOf.TheVariants as faults
use Rattle.jfs_core.specs.declared.step.Step.{Step}
use Rattle.jfs_core.specs.declared.step.Step.TheVariants as steps
use Rattle.jfs_core.specs.Image.{History}
use Rattle.jfs_core.specs.Core.{Core, Block, block_of, low_of, no_block, fresh_block, fresh_core}
use Rattle.jfs_core.specs.Step.{IsSynced, halted_by, failed_home, IsAllowed, AreAllowed, does, after_steps}
use Rattle.jfs_core.specs.Sound.{IsKept, IsSound, IsOk, IsBetween, every_cell, page_at, IsLogImage, Survives}
use Rattle.jfs_core.proofs.Bounds.{bounds_fresh}
use Rattle.jfs_core.proofs.Cells.{IsBetween-exact}
use Rattle.jfs_core.proofs.Kept.{kept_take, kept_group, kept_told, kept_sync_point, kept_append}
use Rattle.jfs_core.proofs.Writes.{kept_home, kept_failed, kept_low_sync}
use Rattle.jfs_core.proofs.Redo.{sound_from_kept, always_recovers}

-- which part has halted doesn't matter
kept_halted : (core : Core) (low log : Option Fault) → IsKept core → IsKept (record core { low_halted = low; log_halted = log })
kept_halted core low log kept = record {
  bounds = record { counts = kept.bounds.counts; points = kept.bounds.points; number = kept.bounds.number; few = kept.bounds.few };
  rising = kept.rising;
  front = kept.front;
  closed = kept.closed;
  sizes = kept.sizes;
  blocks = kept.blocks;
  passed = kept.passed;
}

failed_step : (core : Core) (fault : Fault) (page : ℕ) (bytes : Page) (sectors : ℕ) → IsAllowed core (steps.Fault fault (faults.LowWrite page bytes sectors)) → IsKept core → IsKept (does core (steps.Fault fault (faults.LowWrite page bytes sectors)))
failed_step core fault page bytes sectors allowed kept =
    let written = record core { blocks = set core.blocks page (failed_home bytes.0 sectors (block_of core page)) } in
    kept_halted written (halted_by fault core.low_halted) core.log_halted (kept_failed core page sectors bytes.0 allowed.0.0 allowed.0.3 kept)

pub kept_step : (core : Core) (step : Step) → IsAllowed core step → IsKept core → IsKept (does core step)
kept_step core (steps.Append tx) allowed kept = kept_append core (record { tx = tx }) kept
kept_step core steps.Take allowed kept = kept_take core kept
kept_step core steps.GroupWrite allowed kept = kept_group core kept
kept_step core steps.Told allowed kept = kept_told core kept
kept_step core (steps.Home page) allowed kept = kept_home core page allowed.0 allowed.1.0 kept
kept_step core steps.LowSync allowed kept = kept_low_sync core kept
kept_step core (steps.SyncPoint c) allowed kept = kept_sync_point core c allowed.0 allowed.1.0.0 allowed.1.0.1 kept
kept_step core (steps.Fault fault faults.Read) allowed kept = kept
kept_step core (steps.Fault fault faults.LowSync) allowed kept = kept_halted core (halted_by fault core.low_halted) core.log_halted kept
kept_step core (steps.Fault fault faults.GroupWrite) allowed kept = kept_halted core core.low_halted (halted_by fault core.log_halted) kept
kept_step core (steps.Fault fault (faults.LowWrite page bytes sectors)) allowed kept = failed_step core fault page bytes sectors allowed kept

pub sound_step : (core : Core) (step : Step) → IsAllowed core step → IsSound core → IsSound (does core step)
sound_step core step allowed sound = sound_from_kept (does core step) (kept_step core step allowed sound.kept)

pub sound_steps : (core : Core) (list : List Step) → AreAllowed core list → IsSound core → IsSound (after_steps core list)
sound_steps core [] allowed sound = sound
sound_steps core (step ∷ rest) allowed sound = sound_steps (does core step) rest allowed.1 (sound_step core step allowed.0 sound)

-- ---- the start

fresh_ok : (image : Image) (p : ℕ) → length (page_of image p) ≡ 4096 → IsOk (fresh_core image) p (fresh_block (page_of image p))
fresh_ok image p size = record {
  seen_size = size;
  sizes = λ j l. only (λ (c : List ℕ). length c ≡ 4096) size j l;
  readable = (0, omega arith, refl);
  shown = λ m h trees past. same m h;
  pending = λ m h trees past_dirty past_unsynced j l. only (IsBetween every_cell (page_at (fresh_core image) p) m 0) (same m h) j l;
  later = λ k low high. absurd (omega arith);
  in_order = tt;
  dirty_within = tt;
  unsynced_within = tt;
}
  where
    only : (P : List ℕ → Type 0) → P (page_of image p) → (j : ℕ) → j ≤ 0 → P (content_of (fresh_block (page_of image p)).pages j)
    only P h zero l = h
    only P h (suc j) l = absurd (omega arith)

    same : (m : ℕ) → m ≤ 0 → IsBetween every_cell (page_at (fresh_core image) p) m 0 (page_of image p)
    same m h = IsBetween-exact every_cell (page_at (fresh_core image) p) m 0 (page_of image p) h refl

pub sound_fresh : (image : Image) → ArePages (length image) image → length image < 2 ^ 32 → IsSound (fresh_core image)
sound_fresh image pages few =
    let size : length (map fresh_block image) ≡ length image = length-map image fresh_block in
    let here = λ (p : ℕ) (h : p < length (map fresh_block image)). get_or-map fresh_block image p [] no_block (omega (arith, size, h)) in
    sound_from_kept (fresh_core image) (record {
      bounds = bounds_fresh image few;
      rising = λ i j l w. let e : i ≡ j = omega arith in subst (λ (x : ℕ). get_or (0 ∷ []) i 0 ≤ get_or (0 ∷ []) x 0) e (omega arith);
      front = refl;
      closed = λ e. (refl, refl);
      sizes = λ p h. pages.sizes p (omega (arith, size, h));
      blocks = λ p h. subst (λ (b : Block). IsOk (fresh_core image) p b) (sym (here p h)) (fresh_ok image p (pages.sizes p (omega (arith, size, h))));
      passed = λ p h. subst (λ (b : Block). IsSynced 0 b) (sym (here p h)) (tt, tt);
    })

-- ---- the law

told_rises : (core : Core) (step : Step) → IsSound core → core.told ≤ (does core step).told
told_rises core (steps.Append tx) sound = omega arith
told_rises core steps.Take sound = omega arith
told_rises core steps.GroupWrite sound = omega arith
told_rises core steps.Told sound = sound.kept.bounds.counts.told_durable
told_rises core (steps.Home page) sound = omega arith
told_rises core steps.LowSync sound = omega arith
told_rises core (steps.SyncPoint c) sound = omega arith
told_rises core (steps.Fault fault faults.Read) sound = omega arith
told_rises core (steps.Fault fault faults.LowSync) sound = omega arith
told_rises core (steps.Fault fault faults.GroupWrite) sound = omega arith
told_rises core (steps.Fault fault (faults.LowWrite page bytes sectors)) sound = omega arith

steps_rise : (core : Core) (list : List Step) → AreAllowed core list → IsSound core → core.told ≤ (after_steps core list).told
steps_rise core [] allowed sound = omega arith
steps_rise core (step ∷ rest) allowed sound =
    omega (arith, told_rises core step sound, steps_rise (does core step) rest allowed.1 (sound_step core step allowed.0 sound))

-- the history only grows
abbrev Grows : History → History → Type 0
Grows old new = (more : History) × (new ≡ old ++ more)

stays : (history : History) → Grows history history
stays history = ([], sym (append-nil history))

history_grows : (core : Core) (step : Step) → Grows core.history (does core step).history
history_grows core (steps.Append tx) = (record { tx = tx } ∷ [], refl)
history_grows core steps.Take = stays core.history
history_grows core steps.GroupWrite = stays core.history
history_grows core steps.Told = stays core.history
history_grows core (steps.Home page) = stays core.history
history_grows core steps.LowSync = stays core.history
history_grows core (steps.SyncPoint c) = stays core.history
history_grows core (steps.Fault fault faults.Read) = stays core.history
history_grows core (steps.Fault fault faults.LowSync) = stays core.history
history_grows core (steps.Fault fault faults.GroupWrite) = stays core.history
history_grows core (steps.Fault fault (faults.LowWrite page bytes sectors)) = stays core.history

steps_grow : (core : Core) (list : List Step) → Grows core.history (after_steps core list).history
steps_grow core [] = stays core.history
steps_grow core (step ∷ rest) =
    let one = history_grows core step in
    let more = steps_grow (does core step) rest in
    (one.0 ++ more.0, more.1 ∙ ap (λ (h : History). h ++ more.0) one.1 ∙ append_assoc core.history one.0 more.0)

pub told_survive : (core : Core) (list : List Step) → IsSound core → AreAllowed core list → (low : Image) (c n : ℕ) →
    IsCrashImage (low_of (after_steps core list)) low → IsLogImage (after_steps core list) c n → Survives core (after_steps core list) low c n
told_survive core list sound allowed low c n crash log =
    let after = after_steps core list in
    let kept = sound_steps core list allowed sound in
    let grows = steps_grow core list in
    record {
      acknowledged = omega (arith, steps_rise core list allowed sound, kept.kept.bounds.counts.told_durable, log.durable);
      history = ap (λ (h : History). take (length core.history) h) grows.1 ∙ take_at core.history grows.0 (length core.history) refl;
      recovered = always_recovers after kept low c n crash log;
    }
