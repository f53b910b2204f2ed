-- A page that isn't said to differ from its canonical form is as that form.
use Rattle.std.proofs.Common.{ℕ, zero, suc, ◌+◌, ◌*◌, ◌^◌, Bool, true, not, List, replicate, length}
use Rattle.std.specs.Int.{cast_signed, w8}
use Rattle.jfs_bits.specs.declared.descriptor.Pxd.{Pxd}
use Rattle.jfs_bits.specs.Bits.{is_taken, greatest_run, count_below}
use Rattle.jfs_bits.specs.Field.{field_of, range_of}
use Rattle.jfs_buddy.specs.Tree.{rank_at, first_of, leaf_at, greatest_of}
use Rattle.jfs_buddy.specs.Buddy.{IsBuddyTree, joined}
use Rattle.jfs_mount.specs.dmap.specs.Dmap.{IsDmap, blocks_of, first_block_of, taken_in, map_of, tree_of, word_rank}
use Rattle.jfs_mount.specs.dmapctl.specs.Control.{IsControl, whole_of, tree_of as control_tree}
use Rattle.jfs_mount.specs.bmap.specs.Pages.{leaf_ranks}
use Rattle.jfs_mount.specs.bmap.specs.MapFile.{IsDmapPage}
use Rattle.jfs_iag.specs.Canonical.{is_there, has_free, is_free_inode}
use Rattle.jfs_findings.specs.Maps.{IsFirstPageAs, IsMapPageAs, IsIagAs, IsInodePageAs, without_pad}
use Rattle.jfs_findings.proofs.Stable.{IsStable, nat_stable, bool_stable, int_stable, le_stable, list_stable}

buddy_stable : (height whole : ℕ) (own : ℕ → ℕ) (tree : List ℕ) → IsStable (IsBuddyTree height whole own tree)
buddy_stable height whole own tree h = record {
  bounded = λ v. le_stable (own v) whole (λ d. h (λ t. d (t.bounded v)));
  size = nat_stable (length tree) (first_of (suc height)) (λ d. h (λ t. d t.size));
  leaves = λ v l. nat_stable (leaf_at height tree v) (joined own whole (2 * height) v) (λ d. h (λ t. d (t.leaves v l)));
  inner = λ n l. nat_stable (rank_at tree n) (greatest_of (rank_at tree) n) (λ d. h (λ t. d (t.inner n l)));
}

control_stable : (level : ℕ) (own : ℕ → ℕ) (page : List ℕ) → IsStable (IsControl level own page)
control_stable level own page h = record {
  size = nat_stable (length page) 4096 (λ d. h (λ t. d t.size));
  known = le_stable level 2 (λ d. h (λ t. d t.known));
  leaves = nat_stable (field_of page 0 4) 1024 (λ d. h (λ t. d t.leaves));
  l2_leaves = nat_stable (field_of page 4 4) 10 (λ d. h (λ t. d t.l2_leaves));
  first_leaf = nat_stable (field_of page 8 4) 341 (λ d. h (λ t. d t.first_leaf));
  height = nat_stable (field_of page 12 4) 5 (λ d. h (λ t. d t.height));
  whole = nat_stable (field_of page 16 1) (whole_of level) (λ d. h (λ t. d t.whole));
  tree = buddy_stable 5 (whole_of level + 1) own (control_tree page) (λ d. h (λ t. d t.tree));
  pad = list_stable (range_of page 1382 2714) (replicate 2714 0) (λ d. h (λ t. d t.pad));
}

dmap_stable : (page : List ℕ) → IsStable (IsDmap page)
dmap_stable page h = record {
  size = nat_stable (length page) 4096 (λ d. h (λ t. d t.size));
  most = le_stable (blocks_of page) 8192 (λ d. h (λ t. d t.most));
  past = λ b l w. bool_stable (taken_in page b) true (λ d. h (λ t. d (t.past b l w)));
  same = λ b. bool_stable (is_taken (range_of page 3072 1024) b) (taken_in page b) (λ d. h (λ t. d (t.same b)));
  free = nat_stable (field_of page 4 4) (count_below 8192 (λ b. not (taken_in page b))) (λ d. h (λ t. d t.free));
  leaves = nat_stable (field_of page 16 4) 256 (λ d. h (λ t. d t.leaves));
  l2_leaves = nat_stable (field_of page 20 4) 8 (λ d. h (λ t. d t.l2_leaves));
  first_leaf = nat_stable (field_of page 24 4) 85 (λ d. h (λ t. d t.first_leaf));
  height = nat_stable (field_of page 28 4) 4 (λ d. h (λ t. d t.height));
  whole = nat_stable (field_of page 32 1) 5 (λ d. h (λ t. d t.whole));
  tree = buddy_stable 4 6 (word_rank (map_of page)) (tree_of page) (λ d. h (λ t. d t.tree));
  pad = list_stable (range_of page 374 1674) (replicate 1674 0) (λ d. h (λ t. d t.pad));
}

map_stable : (blocks : ℕ) (taken : ℕ → Bool) (k : ℕ) (page : List ℕ) → IsStable (IsDmapPage blocks taken k page)
map_stable blocks taken k page h = record {
  dmap = record {
    canonical = dmap_stable page (λ d. h (λ t. d t.dmap.canonical));
    number = nat_stable (blocks_of page) _ (λ d. h (λ t. d t.dmap.number));
    first = nat_stable (first_block_of page) (8192 * k) (λ d. h (λ t. d t.dmap.first));
  };
  set = λ i l w. bool_stable (taken_in page i) (taken (8192 * k + i)) (λ d. h (λ t. d (t.set i l w)));
}

first_stable : (blocks agsize : ℕ) (taken : ℕ → Bool) (page : List ℕ) → IsStable (IsFirstPageAs blocks agsize taken page)
first_stable blocks agsize taken page h = record {
  mapsize = nat_stable (field_of page 0 8) blocks (λ d. h (λ t. d t.mapsize));
  nfree = nat_stable (field_of page 8 8) (count_below blocks (λ b. not (taken b))) (λ d. h (λ t. d t.nfree));
  agl2size = nat_stable (2 ^ field_of page 52 4) agsize (λ d. h (λ t. d t.agl2size));
  agfree = λ k l. nat_stable (field_of page (56 + 8 * k) 8) (count_below agsize (λ i. not (taken (agsize * k + i)))) (λ d. h (λ t. d (t.agfree k l)));
  group = nat_stable (field_of page 1080 8) agsize (λ d. h (λ t. d t.group));
  maxfreebud = int_stable (cast_signed w8 (field_of page 1088 1)) (greatest_run taken 23 23) (λ d. h (λ t. d t.maxfreebud));
}

pub map_page_stable : (blocks agsize : ℕ) (taken : ℕ → Bool) (n : ℕ) (page : List ℕ) → IsStable (IsMapPageAs blocks agsize taken n page)
map_page_stable blocks agsize taken zero page h = first_stable blocks agsize taken page h
map_page_stable blocks agsize taken (suc zero) page h = tt
map_page_stable blocks agsize taken (suc (suc zero)) page h = tt
map_page_stable blocks agsize taken (suc (suc (suc zero))) page h = control_stable 0 (leaf_ranks taken) (without_pad 1382 2714 page) h
map_page_stable blocks agsize taken (suc (suc (suc (suc k)))) page h = map_stable blocks taken k (without_pad 374 1674 page) h

iag_stable : (taken : ℕ → Bool) (extent : ℕ → Pxd) (number : ℕ) (page : List ℕ) → IsStable (IsIagAs taken extent number page)
iag_stable taken extent number page h = record {
  iagnum = nat_stable (field_of page 8 4) number (λ d. h (λ t. d t.iagnum));
  inosmap = λ e l. bool_stable (is_taken (range_of page 32 16) e) (not (has_free taken extent e)) (λ d. h (λ t. d (t.inosmap e l)));
  extsmap = λ e l. bool_stable (is_taken (range_of page 48 16) e) (is_there (extent e)) (λ d. h (λ t. d (t.extsmap e l)));
  nfreeinos = nat_stable (field_of page 64 4) (count_below 4096 (is_free_inode taken extent)) (λ d. h (λ t. d t.nfreeinos));
  nfreeexts = nat_stable (field_of page 68 4) (count_below 128 (λ e. not (is_there (extent e)))) (λ d. h (λ t. d t.nfreeexts));
  wmap = λ i l w. bool_stable (is_taken (range_of page 2048 512) i) (taken i) (λ d. h (λ t. d (t.wmap i l w)));
  pmap = λ i l w. bool_stable (is_taken (range_of page 2560 512) i) (taken i) (λ d. h (λ t. d (t.pmap i l w)));
}

pub inode_page_stable : (taken : ℕ → Bool) (extent : ℕ → Pxd) (iags n : ℕ) (page : List ℕ) → IsStable (IsInodePageAs taken extent iags n page)
inode_page_stable taken extent iags zero page h = record {
  numinos = nat_stable (field_of page 8 4) (32 * count_below (128 * iags) (λ e. is_there (extent e))) (λ d. h (λ t. d t.numinos));
  numfree = nat_stable (field_of page 12 4) (count_below (4096 * iags) (is_free_inode taken extent)) (λ d. h (λ t. d t.numfree));
}
inode_page_stable taken extent iags (suc k) page h = iag_stable (λ i. taken (4096 * k + i)) (λ e. extent (128 * k + e)) k page h
