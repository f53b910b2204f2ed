-- Canonical pages show the maps that they are of.
use Rattle.std.proofs.Common.{◌≡◌, refl, sym, ap, ◌∙◌, ℕ, zero, suc, List, length, arith}
use Rattle.jfs_bits.specs.Bits.{is_taken}
use Rattle.jfs_way.specs.imap.specs.Inodes.{Inodes, IsInodePage}
use Rattle.jfs_way.specs.bmap.specs.MapFile.{IsMapPage}
use Rattle.jfs_way.specs.bmap.specs.States.{Blocks, is_owned}
use Rattle.jfs_way.specs.objects.specs.Image.{extent_place}
use Rattle.jfs_shown.specs.Shown.{ShowsBlocks, ShowsInodes}
use Rattle.jfs_shown.specs.Laws.{CanonicalLaw}

block_shows : (m : Blocks) (j : ℕ) (page : List ℕ) → IsMapPage (length m.states) m.agsize (is_owned m) j page → ShowsBlocks (length m.states) m j page
block_shows m zero page is = tt
block_shows m (suc zero) page is = tt
block_shows m (suc (suc zero)) page is = tt
block_shows m (suc (suc (suc zero))) page is = tt
block_shows m (suc (suc (suc (suc k)))) page is = λ i l w. is.dmap.canonical.same i ∙ is.set i w l

inode_shows : (m : Inodes) (j : ℕ) (page : List ℕ) → IsInodePage m j page → ShowsInodes m j page
inode_shows m zero page is = let c = is.control refl in sym c.held.nextiag ∙ c.canonical.nextiag
inode_shows m (suc k) page is =
    let p = is.iag k (omega arith) in
    record {
      in_use = λ i l there. ap (λ (bits : List ℕ). is_taken bits i) (sym p.2.held.pmap) ∙ p.2.canonical.pmap i l;
      extents = λ e l. ap extent_place (sym (p.2.held.inoext e l) ∙ p.2.canonical.inoext e l);
    }

pub canonical_law : CanonicalLaw
canonical_law = record { block_map = block_shows; inode_map = inode_shows }
