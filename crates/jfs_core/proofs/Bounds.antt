-- Each step keeps a core within its bounds.
use Rattle.std.proofs.Common.{Bool, true, false, ◌≡◌, ◌<◌, ◌≤◌, ◌⊎◌, ◌-◌, ℕ, zero, suc, ◌^◌, map, List, [], ◌∷◌, ◌++◌, length, get_or, refl, sym, ap, ◌∙◌, inl, inr, arith}
use Rattle.std.proofs.lemmas.Bool.{cases_lt}
use Rattle.std.proofs.lemmas.List.{length_push, length-map, get_or_append_left, get_or_push}
use Rattle.jfs_core.specs.declared.entry.Entry.{Entry}
use Rattle.jfs_disk.specs.Image.{Image}
use Rattle.jfs_core.specs.Core.{Core, Block, newest_of, fresh_block, fresh_core, IsInBounds}
use Rattle.jfs_core.specs.Step.{marked}

pub length-marked : (changed : ℕ → Bool) (n q : ℕ) (blocks : List Block) → length (marked changed n q blocks) ≡ length blocks
length-marked changed n q [] = refl
length-marked changed n q (block ∷ blocks) = ap (λ (k : ℕ). suc k) (length-marked changed n (suc q) blocks)

pub bounds_take : (core : Core) → IsInBounds core → IsInBounds (record core { taken = length core.history; points_taken = length core.syncpoints; grouped = true })
bounds_take core bounds = record {
  counts = record { told_durable = bounds.counts.told_durable; durable_taken = omega arith; taken_appended = omega arith };
  points = record { mounted = bounds.points.mounted; stable_taken = omega arith; taken_there = omega arith; acknowledged = bounds.points.acknowledged };
  number = bounds.number;
  few = bounds.few;
}

pub bounds_group : (core : Core) → IsInBounds core → IsInBounds (record core { durable = core.taken; points_stable = core.points_taken; grouped = false })
bounds_group core bounds = record {
  counts = record { told_durable = omega arith; durable_taken = omega arith; taken_appended = bounds.counts.taken_appended };
  points = record { mounted = omega arith; stable_taken = omega arith; taken_there = bounds.points.taken_there; acknowledged = bounds.points.acknowledged };
  number = bounds.number;
  few = bounds.few;
}

pub bounds_told : (core : Core) → IsInBounds core → IsInBounds (record core { told = core.durable })
bounds_told core bounds = record {
  counts = record { told_durable = omega arith; durable_taken = bounds.counts.durable_taken; taken_appended = bounds.counts.taken_appended };
  points = record {
    mounted = bounds.points.mounted;
    stable_taken = bounds.points.stable_taken;
    taken_there = bounds.points.taken_there;
    acknowledged = λ j h. omega (arith, bounds.points.acknowledged j h);
  };
  number = bounds.number;
  few = bounds.few;
}

pub bounds_sync_point : (core : Core) (c : ℕ) → c ≤ core.told → IsInBounds core → IsInBounds (record core { syncpoints = core.syncpoints ++ c ∷ [] })
bounds_sync_point core c told bounds = record {
  counts = bounds.counts;
  points = record {
    mounted = bounds.points.mounted;
    stable_taken = bounds.points.stable_taken;
    taken_there = omega (arith, length_push core.syncpoints c);
    acknowledged = λ j h. at j h (cases_lt j (length core.syncpoints));
  };
  number = bounds.number;
  few = bounds.few;
}
  where
    at : (j : ℕ) → j < length (core.syncpoints ++ c ∷ []) → (j < length core.syncpoints) ⊎ (length core.syncpoints ≤ j) → get_or (core.syncpoints ++ c ∷ []) j 0 ≤ core.told
    at j h (inl l) = omega (arith, get_or_append_left core.syncpoints (c ∷ []) 0 j l, bounds.points.acknowledged j l)
    at j h (inr l) = omega (arith, get_or_push core.syncpoints c 0 j (omega (arith, length_push core.syncpoints c)))

-- blocks change, and their number doesn't
pub bounds_blocks : (core : Core) (blocks : List Block) → length blocks ≡ length core.blocks → IsInBounds core → IsInBounds (record core { blocks = blocks })
bounds_blocks core blocks same bounds = record {
  counts = bounds.counts;
  points = bounds.points;
  number = bounds.number ∙ sym same;
  few = omega arith;
}

pub bounds_append : (core : Core) (entry : Entry) (blocks : List Block) → length blocks ≡ length core.blocks → IsInBounds core → IsInBounds (record core { history = core.history ++ entry ∷ []; blocks = blocks })
bounds_append core entry blocks same bounds = record {
  counts = record { told_durable = bounds.counts.told_durable; durable_taken = bounds.counts.durable_taken; taken_appended = omega (arith, length_push core.history entry) };
  points = bounds.points;
  number = bounds.number ∙ sym same;
  few = omega arith;
}

-- the newest sync count is one of acknowledged entries
pub newest_told : (core : Core) → IsInBounds core → newest_of core ≤ core.told
newest_told core bounds = bounds.points.acknowledged (length core.syncpoints - 1) (omega arith)

pub bounds_fresh : (image : Image) → length image < 2 ^ 32 → IsInBounds (fresh_core image)
bounds_fresh image few =
    let size : length (map fresh_block image) ≡ length image = length-map image fresh_block in
    record {
      counts = record { told_durable = omega arith; durable_taken = omega arith; taken_appended = omega arith };
      points = record { mounted = omega arith; stable_taken = omega arith; taken_there = omega arith; acknowledged = none };
      number = sym size;
      few = omega (arith, few, size);
    }
  where
    none : (j : ℕ) → j < 1 → get_or (0 ∷ []) j 0 ≤ 0
    none zero h = omega arith
    none (suc j) h = absurd (omega arith)
