-- Pages that the code computes.
use Rattle.std.proofs.Common.{◌≡◌, ◌<◌, ℕ, List, length, take, sym, ◌∙◌, arith}
use Rattle.jfs_disk.specs.Image.{Image, page_of}
use Rattle.jfs_core.specs.Image.{History, page_after}
use Rattle.jfs_core.specs.Core.{Core, IsInBounds}
use Rattle.jfs_core.specs.Step.{told_page}
use Rattle.jfs_core.proofs.Bytes.{page_of-image_after}

-- a page after the acknowledged entries, from the parts that the code reads
pub told_from_parts : (core : Core) (page told : ℕ) (history : History) (mounted : Image) (bytes new : List ℕ) → IsInBounds core → page < length core.blocks →
    told ≡ core.told → history ≡ core.history → mounted ≡ core.mounted → bytes ≡ page_of mounted page → new ≡ page_after page (take told history) bytes → new ≡ told_page core page
told_from_parts core page told history mounted bytes new bounds there t h m b n =
    let in_mounted : page < length core.mounted = omega (arith, bounds.number) in
    n ∙ (rw (b, t, h, m) (sym (page_of-image_after (take core.told core.history) core.mounted page in_mounted)))
