-- The lists of IAGs by the marks that are kept, and parts of the set and of the extents.
use Rattle.std.proofs.Common.{◌≡◌, ◌<◌, ◌+◌, ◌-◌, ◌*◌, ◌/◌, ◌%◌, ℕ, Bool, false, not, List, get_or, take, drop, refl, sym, ap, ◌∙◌, arith}
use Rattle.std.specs.Prelude.{nat_lt, ◌==◌}
use Rattle.std.proofs.lemmas.Bool.{lt-ltb}
use Rattle.std.proofs.lemmas.List.{get_or-take, get_or-drop}
use Rattle.jfs_bits.specs.declared.descriptor.Pxd.{Pxd}
use Rattle.jfs_bits.specs.Field.{field_of, range_of}
use Rattle.jfs_bits.specs.Bits.{is_taken, is_taken_in, any_below}
use Rattle.jfs_bits.proofs.Buds.{any_below-same}
use Rattle.jfs_bits.proofs.Fields.{range_between}
use Rattle.jfs_bits.proofs.Parts.{field-in_part}
use Rattle.jfs_iag.specs.Iag.{no_run}
use Rattle.jfs_iag.specs.Canonical.{is_there, has_free, has_free_inode, has_free_place, in_inode_list, in_place_list, AreNeighbors, IsIagPage}
use Rattle.jfs_iag.specs.declared.canonical.Links.{Links}
use Rattle.jfs_iag.specs.Laws.{AreSame}
use Rattle.jfs_iag.proofs.Carried.{neighbors-carried, iag-carried}
use Rattle.jfs_iag.proofs.Agreed.{and-same, inodes-listed}
use Rattle.jfs_iag.proofs.Maps.{and_true}
use Rattle.jfs_imap.specs.Inodes.{inodes_of, is_used, extent_at, AreKept, IsPageOfIag}
use Rattle.jfs_imap.specs.Lists.{is_listed}
use Rattle.jfs_imap.proofs.Marks.{bit-at}

pub inode-marks : (iags numag : ℕ) (set : List ℕ) (extents : List Pxd) (having lacking : List Bool) (g k : ℕ) → AreKept iags numag set extents having lacking → k < iags → is_listed having numag g k ≡ in_inode_list (is_taken set) (λ e. get_or extents e no_run) numag g k
inode-marks iags numag set extents having lacking g k kept within =
    and-same (k % numag == g) (any_below 128 (λ e. get_or having (128 * k + e) false)) (k % numag == g) (has_free_inode (is_taken set) (λ e. get_or extents e no_run) k) refl
    (any_below-same 128 (λ e. get_or having (128 * k + e) false) (λ e. has_free (is_taken set) (λ e. get_or extents e no_run) (128 * k + e)) (λ e h. kept.free (128 * k + e)))

pub place-marks : (iags numag : ℕ) (set : List ℕ) (extents : List Pxd) (having lacking : List Bool) (g k : ℕ) → AreKept iags numag set extents having lacking → k < iags → is_listed lacking numag g k ≡ in_place_list (λ e. get_or extents e no_run) numag g k
place-marks iags numag set extents having lacking g k kept within =
    and-same (k % numag == g) (any_below 128 (λ e. get_or lacking (128 * k + e) false)) (k % numag == g) (has_free_place (λ e. get_or extents e no_run) k) refl
    (any_below-same 128 (λ e. get_or lacking (128 * k + e) false) (λ e. not (is_there (get_or extents (128 * k + e) no_run))) (λ e h. kept.places (128 * k + e) ∙ and_true (nat_lt (128 * k + e) (128 * iags)) (not (is_there (get_or extents (128 * k + e) no_run))) (lt-ltb (128 * k + e) (128 * iags) (omega arith))))

-- the set of the map is that of its bytes
pub same-sets : (set : List ℕ) (extents : List Pxd) (iags agsize numag : ℕ) → AreSame iags (is_taken set) (is_used (inodes_of set extents iags agsize numag)) (λ e. get_or extents e no_run) (extent_at (inodes_of set extents iags agsize numag))
same-sets set extents iags agsize numag = record {
  inodes = λ i h. sym (bit-at (4096 * iags) set i h);
  extents = λ e h. refl;
}

pub used-listed : (iags numag agsize : ℕ) (set : List ℕ) (extents : List Pxd) (having lacking : List Bool) (g k : ℕ) → AreKept iags numag set extents having lacking → k < iags → is_listed having numag g k ≡ in_inode_list (is_used (inodes_of set extents iags agsize numag)) (extent_at (inodes_of set extents iags agsize numag)) numag g k
used-listed iags numag agsize set extents having lacking g k kept within =
    inode-marks iags numag set extents having lacking g k kept within
    ∙ inodes-listed iags numag g (is_taken set) (is_used (inodes_of set extents iags agsize numag)) (λ e. get_or extents e no_run) (extent_at (inodes_of set extents iags agsize numag)) (same-sets set extents iags agsize numag) k within

-- the part of one IAG
part-bit : (set : List ℕ) (k i : ℕ) → i < 4096 → is_taken (range_of set (512 * k) 512) i ≡ is_taken set (4096 * k + i)
unfolding is_taken
part-bit set k i h =
    let word : 512 * k + 4 * (i / 32) ≡ 4 * ((4096 * k + i) / 32) = omega arith in
    let place : (4096 * k + i) % 32 ≡ i % 32 = omega arith in
    rw place (ap (λ (z : ℕ). is_taken_in z (i % 32)) (field-in_part set (512 * k) 512 (4 * (i / 32)) 4 (omega arith) ∙ ap (λ (z : ℕ). field_of set z 4) word))

pub same-part : (set : List ℕ) (extents : List Pxd) (k : ℕ)
    → AreSame 1 (is_taken (take (512 * k + 512 - 512 * k) (drop (512 * k) set))) (λ i. is_taken set (4096 * k + i)) (λ e. get_or (take (128 * k + 128 - 128 * k) (drop (128 * k) extents)) e no_run) (λ e. get_or extents (128 * k + e) no_run)
same-part set extents k = record {
  inodes = λ i h. ap (λ (z : List ℕ). is_taken z i) (range_between set (512 * k) 512) ∙ part-bit set k i (omega arith);
  extents = λ e h. get_or-take (128 * k + 128 - 128 * k) (drop (128 * k) extents) e no_run (omega arith) ∙ get_or-drop (128 * k) extents e no_run;
}

-- the page of an IAG, by what its parts say
pub page-of_iag : (iags numag agsize : ℕ) (set set_too : List ℕ) (extents extents_too : List Pxd) (having lacking : List Bool) (k start : ℕ) (links : Links) (page : List ℕ) → AreKept iags numag set extents having lacking → k < iags
    → set_too ≡ set → extents_too ≡ extents → start ≡ k % numag * agsize
    → AreNeighbors (is_listed having numag (k % numag)) iags k links.inofreefwd links.inofreeback
    → AreNeighbors (is_listed lacking numag (k % numag)) iags k links.extfreefwd links.extfreeback
    → IsIagPage (λ i. is_taken set_too (4096 * k + i)) (λ e. get_or extents_too (128 * k + e) no_run) k start links page
    → IsPageOfIag (inodes_of set extents iags agsize numag) k page
page-of_iag iags numag agsize set set_too extents extents_too having lacking k start links page kept within se ee st inodes places p =
    let m = inodes_of set extents iags agsize numag in
    let there = rw (se, ee, st) at p in
    let same : AreSame 1 (λ i. is_taken set (4096 * k + i)) (λ i. is_used m (4096 * k + i)) (λ e. get_or extents (128 * k + e) no_run) (λ e. extent_at m (128 * k + e)) =
    record { inodes = λ i h. sym (bit-at (4096 * iags) set (4096 * k + i) (omega arith)); extents = λ e h. refl } in (
      links,
      record {
        inodes = neighbors-carried (is_listed having numag (k % numag)) (in_inode_list (is_used m) (extent_at m) numag (k % numag)) iags k links.inofreefwd links.inofreeback within (λ j h. used-listed iags numag agsize set extents having lacking (k % numag) j kept h) inodes;
        places = neighbors-carried (is_listed lacking numag (k % numag)) (in_place_list (extent_at m) numag (k % numag)) iags k links.extfreefwd links.extfreeback within (λ j h. place-marks iags numag set extents having lacking (k % numag) j kept h) places;
      },
      iag-carried (λ i. is_taken set (4096 * k + i)) (λ i. is_used m (4096 * k + i)) (λ e. get_or extents (128 * k + e) no_run) (λ e. extent_at m (128 * k + e)) k (k % numag * agsize) links page same there,
    )
