-- A page or a list of some inodes and extents is one of others that are the same.
use Rattle.std.proofs.Common.{◌≡◌, ◌<◌, ◌≤◌, ◌+◌, ◌*◌, ◌/◌, ◌%◌, ℕ, Bool, not, ◌&&◌, inl, inr, List, get_or, refl, sym, ap, ◌∙◌, arith}
use Rattle.std.specs.Prelude.{◌==◌}
use Rattle.jfs_bits.specs.declared.descriptor.Pxd.{Pxd}
use Rattle.jfs_bits.proofs.Counts.{count_below-same}
use Rattle.jfs_iag.specs.declared.iag.Iag.{Iag}
use Rattle.jfs_iag.specs.declared.canonical.Links.{Links}
use Rattle.jfs_iag.specs.declared.control.InodeGroup.{InodeGroup}
use Rattle.jfs_iag.specs.declared.control.InodeControl.{InodeControl}
use Rattle.jfs_iag.specs.Control.{no_group}
use Rattle.jfs_iag.specs.Canonical.{is_there, is_free_inode, in_inode_list, in_place_list, IsNext, IsPrevious, AreNeighbors, IsIagOf, IsIagPage, IsGroupOf, IsControlOf}
use Rattle.jfs_iag.specs.Laws.{AreSame}
use Rattle.jfs_iag.proofs.Agreed.{and-same, there-same, free-same, inode-same, inodes-listed, places-listed}

pub next-carried : (listed others : ℕ → Bool) (count from word : ℕ) → ((k : ℕ) → k < count → listed k ≡ others k) → IsNext listed count from word → IsNext others count from word
next-carried listed others count from word same (inl x) = inl (x.0, λ k a b. sym (same k b) ∙ x.1 k a b)
next-carried listed others count from word same (inr x) = let within = x.1 in inr (x.0, x.1, sym (same word x.1) ∙ x.2, λ k a b. sym (same k (omega (arith, within, b))) ∙ x.3 k a b)

pub previous-carried : (listed others : ℕ → Bool) (count before word : ℕ) → before ≤ count → ((k : ℕ) → k < count → listed k ≡ others k) → IsPrevious listed before word → IsPrevious others before word
previous-carried listed others count before word most same (inl x) = inl (x.0, λ k a. sym (same k (omega arith)) ∙ x.1 k a)
previous-carried listed others count before word most same (inr x) = let within = x.0 in inr (x.0, sym (same word (omega (arith, within))) ∙ x.1, λ k a b. sym (same k (omega arith)) ∙ x.2 k a b)

pub neighbors-carried : (listed others : ℕ → Bool) (count k forward back : ℕ) → k < count → ((j : ℕ) → j < count → listed j ≡ others j) → AreNeighbors listed count k forward back → AreNeighbors others count k forward back
neighbors-carried listed others count k forward back within same n = record {
  forward_in = λ h. next-carried listed others count (k + 1) forward same (n.forward_in (same k within ∙ h));
  back_in = λ h. previous-carried listed others count k back (omega arith) same (n.back_in (same k within ∙ h));
  out = λ h. n.out (same k within ∙ h);
}

iag_of-carried : (taken others : ℕ → Bool) (extent places : ℕ → Pxd) (number start : ℕ) (links : Links) (i : Iag) → AreSame 1 taken others extent places → IsIagOf taken extent number start links i → IsIagOf others places number start links i
iag_of-carried taken others extent places number start links i s c = record {
  agstart = c.agstart;
  iagnum = c.iagnum;
  inofreefwd = c.inofreefwd;
  inofreeback = c.inofreeback;
  extfreefwd = c.extfreefwd;
  extfreeback = c.extfreeback;
  iagfree = c.iagfree;
  inosmap = λ e h. c.inosmap e h ∙ ap not (free-same 1 taken others extent places s e (omega arith));
  extsmap = λ e h. c.extsmap e h ∙ there-same 1 taken others extent places s e (omega arith);
  nfreeinos = c.nfreeinos ∙ count_below-same 4096 (is_free_inode taken extent) (is_free_inode others places) (λ n b. inode-same 1 taken others extent places s n (omega arith));
  nfreeexts = c.nfreeexts ∙ count_below-same 128 (λ e. not (is_there (extent e))) (λ e. not (is_there (places e))) (λ e b. ap not (there-same 1 taken others extent places s e (omega arith)));
  wmap = λ n h. c.wmap n h ∙ s.inodes n (omega arith);
  pmap = λ n h. c.pmap n h ∙ s.inodes n (omega arith);
  inoext = λ e h. c.inoext e h ∙ s.extents e (omega arith);
}

pub iag-carried : (taken others : ℕ → Bool) (extent places : ℕ → Pxd) (number start : ℕ) (links : Links) (page : List ℕ) → AreSame 1 taken others extent places → IsIagPage taken extent number start links page → IsIagPage others places number start links page
iag-carried taken others extent places number start links page s p = record {
  size = p.size;
  fields = p.fields;
  held = p.held;
  canonical = iag_of-carried taken others extent places number start links p.fields s p.canonical;
  pad = p.pad;
}

group-carried : (taken others : ℕ → Bool) (extent places : ℕ → Pxd) (iags numag g : ℕ) (group : InodeGroup) → AreSame iags taken others extent places → IsGroupOf taken extent iags numag g group → IsGroupOf others places iags numag g group
group-carried taken others extent places iags numag g group s x = record {
  inofree = next-carried (in_inode_list taken extent numag g) (in_inode_list others places numag g) iags 0 group.inofree (inodes-listed iags numag g taken others extent places s) x.inofree;
  extfree = next-carried (in_place_list extent numag g) (in_place_list places numag g) iags 0 group.extfree (places-listed iags numag g taken others extent places s) x.extfree;
  numinos = x.numinos ∙ ap (λ (z : ℕ). 32 * z) (count_below-same (128 * iags) (λ e. is_there (extent e) && e / 128 % numag == g) (λ e. is_there (places e) && e / 128 % numag == g) (λ e h. and-same (is_there (extent e)) (e / 128 % numag == g) (is_there (places e)) (e / 128 % numag == g) (there-same iags taken others extent places s e h) refl));
  numfree = x.numfree ∙ count_below-same (4096 * iags) (λ i. is_free_inode taken extent i && i / 4096 % numag == g) (λ i. is_free_inode others places i && i / 4096 % numag == g) (λ i h. and-same (is_free_inode taken extent i) (i / 4096 % numag == g) (is_free_inode others places i) (i / 4096 % numag == g) (inode-same iags taken others extent places s i h) refl);
}

pub control-carried : (taken others : ℕ → Bool) (extent places : ℕ → Pxd) (iags numag : ℕ) (c : InodeControl) → AreSame iags taken others extent places → IsControlOf taken extent iags numag c → IsControlOf others places iags numag c
control-carried taken others extent places iags numag c s x = record {
  freeiag = x.freeiag;
  nextiag = x.nextiag;
  numinos = x.numinos ∙ ap (λ (z : ℕ). 32 * z) (count_below-same (128 * iags) (λ e. is_there (extent e)) (λ e. is_there (places e)) (λ e h. there-same iags taken others extent places s e h));
  numfree = x.numfree ∙ count_below-same (4096 * iags) (is_free_inode taken extent) (is_free_inode others places) (λ i h. inode-same iags taken others extent places s i h);
  nbperiext = x.nbperiext;
  l2nbperiext = x.l2nbperiext;
  diskblock = x.diskblock;
  maxag = x.maxag;
  groups = λ g h. group-carried taken others extent places iags numag g (get_or c.groups g no_group) s (x.groups g h);
}
