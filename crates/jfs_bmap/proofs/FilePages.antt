-- The pages of the map's file, by the pages of a set.
use Rattle.std.proofs.Common.{◌≡◌, ◌<◌, ◌≤◌, ◌*◌, ℕ, Bool, List, length, get_or, sym, ap, subst, ◌∙◌, arith}
use Rattle.std.proofs.Math.Path.{fun_ext}
use Rattle.jfs_disk.specs.declared.page.Page.{Page}
use Rattle.jfs_dmap.specs.Dmap.{blocks_of, first_block_of, IsDmap}
use Rattle.jfs_dmapctl.specs.Control.{IsControl}
use Rattle.jfs_bmap.specs.Set.{taken_at}
use Rattle.jfs_bmap.specs.Pages.{page_at, dmaps_of, taken_on, set_of, leaf_ranks, AreDmaps}
use Rattle.jfs_bmap.specs.MapFile.{IsDmapPage}
use Rattle.jfs_bmap.proofs.Views.{length-set_of, taken_at-set_of, page_at-is}
use Rattle.jfs_bmap.proofs.Groups.{page-taken}

-- the set says of each block what the dmaps say
same-taken : (blocks : ℕ) (dmaps : List Page) (set : List Bool) → set_of blocks dmaps ≡ set → taken_on blocks dmaps ≡ taken_at set
same-taken blocks dmaps set e = fun_ext (λ b. sym (taken_at-set_of blocks dmaps b) ∙ ap (λ (z : List Bool). taken_at z b) e)

-- the control page of level 0 is one over the set
pub control-page : (blocks : ℕ) (dmaps : List Page) (set : List Bool) (page : List ℕ) → set_of blocks dmaps ≡ set → IsControl 0 (leaf_ranks (taken_on blocks dmaps)) page → IsControl 0 (leaf_ranks (taken_at set)) page
control-page blocks dmaps set page e is = subst (λ (taken : ℕ → Bool). IsControl 0 (leaf_ranks taken) page) (same-taken blocks dmaps set e) is

-- a dmap that was read from its place
pub dmap-page : (blocks : ℕ) (dmaps : List Page) (set : List Bool) (k : ℕ) (page : Page) → set_of blocks dmaps ≡ set → AreDmaps blocks dmaps → k < length dmaps → page ≡ get_or dmaps k page → IsDmapPage (length set) (taken_at set) k page.0
dmap-page blocks dmaps set k page e are within read =
    let here = page_at-is dmaps k page within read in
    let before : k < dmaps_of blocks = omega (arith, are.number) in
    let held : IsDmapPage blocks (taken_at (set_of blocks dmaps)) k (page_at dmaps k) = record { dmap = are.each k before; set = λ i there small. page-taken blocks dmaps k i are before small } in
    let size : blocks ≡ length (set_of blocks dmaps) = sym (length-set_of blocks dmaps) in
    subst (λ (z : List Bool). IsDmapPage (length z) (taken_at z) k page.0) e (rw here at (subst (λ (n : ℕ). IsDmapPage n (taken_at (set_of blocks dmaps)) k (page_at dmaps k)) size held))

-- a dmap past the last one has no block
pub dmap-past : (blocks : ℕ) (taken : ℕ → Bool) (k : ℕ) (page : List ℕ) → dmaps_of blocks ≤ k → IsDmap page → blocks_of page ≡ 0 → first_block_of page ≡ 8192 * k → IsDmapPage blocks taken k page
dmap-past blocks taken k page h is none first = record {
  dmap = record { canonical = is; number = none ∙ omega arith; first = first };
  set = λ i there small. absurd (omega arith);
}
