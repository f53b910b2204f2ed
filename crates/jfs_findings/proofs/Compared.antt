-- A canonical page is canonical in what is compared, also over sets that are the same.
use Rattle.std.proofs.Common.{◌≡◌, ◌≤◌, ◌<◌, refl, sym, ap, ap₂, ◌∙◌, subst, ℕ, zero, suc, ◌+◌, ◌-◌, ◌*◌, ◌^◌, ◌/◌, Bool, not, ◌&&◌, if◌then◌else◌, List, length, replicate, ℤ, pos, negsuc, arith}
use Rattle.jfs_bits.specs.declared.descriptor.Pxd.{Pxd}
use Rattle.jfs_bits.specs.Bits.{is_taken, all_below, is_free, is_free_run, has_free_run, greatest_run, count_below}
use Rattle.jfs_bits.specs.Field.{range_of, put_bytes}
use Rattle.jfs_bits.proofs.Buds.{any_below-same}
use Rattle.jfs_bits.proofs.Counts.{count_below-same}
use Rattle.jfs_bits.proofs.Parts.{part-kept}
use Rattle.jfs_buddy.specs.Tree.{rank_of}
use Rattle.jfs_mount.specs.dmapctl.specs.Control.{IsControl}
use Rattle.jfs_mount.specs.bmap.specs.Pages.{leaf_ranks}
use Rattle.jfs_mount.specs.bmap.specs.MapFile.{IsFirstPage, IsDmapPage, IsMapPage}
use Rattle.jfs_mount.specs.bmap.proofs.Views.{control-same}
use Rattle.jfs_iag.specs.declared.canonical.Links.{Links}
use Rattle.jfs_iag.specs.Canonical.{is_there, has_free, is_free_inode, IsIagPage, IsControlPage}
use Rattle.jfs_findings.specs.Maps.{IsFirstPageAs, IsMapPageAs, IsIagAs, IsInodeControlAs, without_pad}

-- ---- what depends on a set depends on its members

all_same : (n : ℕ) (f g : ℕ → Bool) → ((i : ℕ) → f i ≡ g i) → all_below n f ≡ all_below n g
unfolding all_below
all_same zero f g h = refl
all_same (suc n) f g h = ap₂ (λ (a b : Bool). a && b) (all_same n f g h) (h n)

module _ (taken others : ℕ → Bool) (h : (b : ℕ) → taken b ≡ others b) where
  run_same : (l2 j : ℕ) → is_free_run taken l2 j ≡ is_free_run others l2 j
  unfolding is_free
  run_same l2 j = all_same (2 ^ l2) (λ i. not (taken (j * 2 ^ l2 + i))) (λ i. not (others (j * 2 ^ l2 + i))) (λ i. ap not (h (j * 2 ^ l2 + i)))

  has_same : (span l2 : ℕ) → has_free_run taken span l2 ≡ has_free_run others span l2
  unfolding has_free_run
  has_same span l2 = any_below-same (2 ^ (span - l2)) (is_free_run taken l2) (is_free_run others l2) (λ j _. run_same l2 j)

  greatest_same : (span top : ℕ) → greatest_run taken span top ≡ greatest_run others span top
  unfolding greatest_run
  greatest_same span zero = ap (λ (b : Bool). if b then pos 0 else negsuc 0) (has_same span 0)
  greatest_same span (suc top) = ap₂ (λ (b : Bool) (z : ℤ). if b then pos (suc top) else z) (has_same span (suc top)) (greatest_same span top)

  count_same : (n : ℕ) → count_below n (λ b. not (taken b)) ≡ count_below n (λ b. not (others b))
  count_same n = count_below-same n (λ b. not (taken b)) (λ b. not (others b)) (λ b _. ap not (h b))

ranks_same : (taken others : ℕ → Bool) → ((b : ℕ) → taken b ≡ others b) → (k : ℕ) → leaf_ranks taken k ≡ leaf_ranks others k
unfolding leaf_ranks
ranks_same taken others h k = ap rank_of (greatest_same (λ i. taken (8192 * k + i)) (λ i. others (8192 * k + i)) (λ i. h (8192 * k + i)) 13 13)

-- ---- the block map

pad_kept : (at width : ℕ) (page : List ℕ) → at + width ≤ length page → range_of page at width ≡ replicate width 0 → page ≡ without_pad at width page
pad_kept at width page l e = part-kept at width page l ∙ ap (λ (z : List ℕ). put_bytes at z page) e

first_as : (blocks agsize : ℕ) (taken others : ℕ → Bool) → ((b : ℕ) → taken b ≡ others b) → (page : List ℕ) → IsFirstPage blocks agsize taken page → IsFirstPageAs blocks agsize others page
first_as blocks agsize taken others h page p = record {
  mapsize = sym p.held.mapsize ∙ p.canonical.mapsize;
  nfree = sym p.held.nfree ∙ p.canonical.nfree ∙ count_same taken others h blocks;
  agl2size = ap (λ (n : ℕ). 2 ^ n) (sym p.held.agl2size) ∙ sym p.canonical.agl2size;
  agfree = λ k l. sym (p.held.agfree k l) ∙ p.canonical.agfree k l ∙ count_same (λ i. taken (agsize * k + i)) (λ i. others (agsize * k + i)) (λ i. h (agsize * k + i)) agsize;
  group = sym p.held.agsize ∙ p.canonical.group_size;
  maxfreebud = sym p.held.maxfreebud ∙ p.canonical.maxfreebud ∙ greatest_same taken others h 23 23;
}

control_as : (taken others : ℕ → Bool) → ((b : ℕ) → taken b ≡ others b) → (page : List ℕ) → IsControl 0 (leaf_ranks taken) page → IsControl 0 (leaf_ranks others) page
control_as taken others h page c = control-same 0 (leaf_ranks taken) (leaf_ranks others) page (λ v _. ranks_same taken others h v)
    (λ v. let b = c.tree.bounded v in let e = ranks_same taken others h v in omega (arith, b, e)) c

pub map_page_as : (blocks agsize : ℕ) (taken others : ℕ → Bool) → ((b : ℕ) → taken b ≡ others b) → (n : ℕ) (page : List ℕ) → IsMapPage blocks agsize taken n page → IsMapPageAs blocks agsize others n page
map_page_as blocks agsize taken others h zero page p = first_as blocks agsize taken others h page p
map_page_as blocks agsize taken others h (suc zero) page p = tt
map_page_as blocks agsize taken others h (suc (suc zero)) page p = tt
map_page_as blocks agsize taken others h (suc (suc (suc zero))) page p =
    subst (IsControl 0 (leaf_ranks others)) (pad_kept 1382 2714 page (let s = p.size in omega (arith, s)) p.pad) (control_as taken others h page p)
map_page_as blocks agsize taken others h (suc (suc (suc (suc k)))) page p =
    subst (IsDmapPage blocks others k) (pad_kept 374 1674 page (let s = p.dmap.canonical.size in omega (arith, s)) p.dmap.canonical.pad)
    (record { dmap = p.dmap; set = λ i l w. p.set i l w ∙ h (8192 * k + i) })

-- ---- the inode map

module _ (taken others : ℕ → Bool) (extent places : ℕ → Pxd) (iags : ℕ) (inodes : (i : ℕ) → i < 4096 * iags → taken i ≡ others i) (extents : (e : ℕ) → e < 128 * iags → extent e ≡ places e) where
  there_same : (e : ℕ) → e < 128 * iags → is_there (extent e) ≡ is_there (places e)
  there_same e l = ap is_there (extents e l)

  free_same : (i : ℕ) → i < 4096 * iags → is_free_inode taken extent i ≡ is_free_inode others places i
  free_same i l = ap₂ (λ (a b : Bool). a && not b) (there_same (i / 32) (omega (arith, l))) (inodes i l)

  has_free_same : (e : ℕ) → e < 128 * iags → has_free taken extent e ≡ has_free others places e
  has_free_same e l = ap₂ (λ (a b : Bool). a && b) (there_same e l) (any_below-same 32 (λ i. not (taken (32 * e + i))) (λ i. not (others (32 * e + i))) (λ i w. ap not (inodes (32 * e + i) (omega (arith, l, w)))))

  pub control_page_as : (numag : ℕ) (page : List ℕ) → IsControlPage taken extent iags numag page → IsInodeControlAs others places iags page
  control_page_as numag page p = record {
    numinos = sym p.held.numinos ∙ p.canonical.numinos ∙ ap (λ (n : ℕ). 32 * n) (count_below-same (128 * iags) (λ e. is_there (extent e)) (λ e. is_there (places e)) there_same);
    numfree = sym p.held.numfree ∙ p.canonical.numfree ∙ count_below-same (4096 * iags) (is_free_inode taken extent) (is_free_inode others places) free_same;
  }

module _ (taken others : ℕ → Bool) (extent places : ℕ → Pxd) (inodes : (i : ℕ) → i < 4096 → taken i ≡ others i) (extents : (e : ℕ) → e < 128 → extent e ≡ places e) where
  there_is : (e : ℕ) → e < 128 → is_there (extent e) ≡ is_there (places e)
  there_is e l = ap is_there (extents e l)

  pub iag_page_as : (number start : ℕ) (links : Links) (page : List ℕ) → IsIagPage taken extent number start links page → IsIagAs others places number page
  iag_page_as number start links page p = record {
    iagnum = sym p.held.iagnum ∙ p.canonical.iagnum;
    inosmap = λ e l. ap (λ (z : List ℕ). is_taken z e) (sym p.held.inosmap) ∙ p.canonical.inosmap e l ∙ ap not (has_free_same taken others extent places 1 (λ i w. inodes i (omega (arith, w))) (λ e w. extents e (omega (arith, w))) e (omega (arith, l)));
    extsmap = λ e l. ap (λ (z : List ℕ). is_taken z e) (sym p.held.extsmap) ∙ p.canonical.extsmap e l ∙ there_is e l;
    nfreeinos = sym p.held.nfreeinos ∙ p.canonical.nfreeinos ∙ count_below-same 4096 (is_free_inode taken extent) (is_free_inode others places) (λ i l. free_same taken others extent places 1 (λ i w. inodes i (omega (arith, w))) (λ e w. extents e (omega (arith, w))) i (omega (arith, l)));
    nfreeexts = sym p.held.nfreeexts ∙ p.canonical.nfreeexts ∙ count_below-same 128 (λ e. not (is_there (extent e))) (λ e. not (is_there (places e))) (λ e l. ap not (there_is e l));
    wmap = λ i l _. ap (λ (z : List ℕ). is_taken z i) (sym p.held.wmap) ∙ p.canonical.wmap i l ∙ inodes i l;
    pmap = λ i l _. ap (λ (z : List ℕ). is_taken z i) (sym p.held.pmap) ∙ p.canonical.pmap i l ∙ inodes i l;
  }
