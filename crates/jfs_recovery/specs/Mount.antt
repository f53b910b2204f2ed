-- A volume that was just mounted.
use Rattle.std.specs.Prelude.{◌≡◌, ◌<◌, ℕ, true, false, [], ◌∷◌, length, if◌then◌else◌, None, Some}
use Rattle.jfs_core.specs.Core.{fresh_block}
use Rattle.jfs_core.specs.Sound.{SameCell}
use Rattle.jfs_recovery.specs.Face.{Face, Pages, matters, IsStart}
use Rattle.jfs_recovery.specs.Core.{Core}
use Rattle.jfs_recovery.specs.Sound.{Cares}

-- the core whose low part has the bytes that were mounted, and whose image has the canonical map pages
-- Blocks that don't matter are kept from the first moment on.
abbrev pub fresh : Face → Pages → Pages → Core
fresh f low image = record {
  mounted = image;
  history = [];
  taken = 0;
  durable = 0;
  told = 0;
  grouped = false;
  syncpoints = 0 ∷ [];
  points_taken = 1;
  points_stable = 1;
  slots = λ p. record { block = fresh_block (low p); data_at = None; kept = if matters f image p then None else Some (low p) };
}

-- Of the map pages that are there, the cells with an item are as on the canonical ones.
pub record IsMounted (f : Face) (low image : Pages) : Type 0 where
  pub start : IsStart f low image
  pub sizes : (p : ℕ) → length (low p) ≡ 4096
  pub cells : (p cell : ℕ) → cell < 256 → f.is_map p ≡ true → Cares f p cell → SameCell (low p) (image p) cell
