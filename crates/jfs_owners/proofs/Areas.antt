-- The fixed areas, counted part by part.
use Rattle.std.proofs.Common.{◌≡◌, ◌∙◌, refl, ap, subst, ℕ, ◌+◌, List, Result, Ok, Err, IfOk}
use Rattle.jfs_bits.specs.declared.extent.Xad.{Xad}
use Rattle.jfs_bits.specs.declared.descriptor.Pxd.{Pxd}
use Rattle.jfs_disk.specs.Image.{Image, page_of}
use Rattle.jfs_tree.specs.Walk.{Marks}
use Rattle.jfs_findings.specs.objects.specs.Readers.{Readers}
use Rattle.jfs_findings.specs.objects.specs.Owners.{run_has}
use Rattle.jfs_findings.specs.objects.specs.Image.{aggregate_at, file_walk, file_has, area_on}
use Rattle.jfs_findings.specs.meaning.specs.Readers.{readers, root_of}
use Rattle.jfs_ranges.specs.declared.view.ViewError.{ViewError}
use Rattle.jfs_owners.specs.Counts.{OwnerSets, Adds}
use Rattle.jfs_owners.specs.Held.{areas_have, extents_walk, extents_held}
use Rattle.jfs_owners.proofs.Counted.{adds_same, adds_next}

-- ---- a file

-- the walk through an inode of the aggregate is that of the root in it
pub same_walk : (blocks : ℕ) (page : ℕ → List ℕ) (root : List ℕ) (k : ℕ) → root ≡ root_of (aggregate_at page k) → extents_walk blocks page root ≡ file_walk (readers blocks) page k
same_walk blocks page root k e = ap (extents_walk blocks page) e

-- and what that inode has is what the tree holds
pub file_adds : (blocks : ℕ) (page : ℕ → List ℕ) (k : ℕ) (old new : OwnerSets) → Adds (extents_held (file_walk (readers blocks) page k)) old new → Adds (file_has (readers blocks) page k) old new
unfolding file_has
file_adds blocks page k old new a = a

pub file_counted : {T : Type 0} (blocks now : ℕ) (image after : Image) (root : List ℕ) (k : ℕ) (r : Result T ViewError) (old new : OwnerSets) → now ≡ blocks → after ≡ image → root ≡ root_of (aggregate_at (page_of image) k)
    → IfOk r (λ it. Adds (extents_held (extents_walk now (page_of after) root)) old new) → IfOk r (λ it. Adds (file_has (readers blocks) (page_of image) k) old new)
file_counted blocks now image after root k (Ok it) old new e f g h =
    let walk : extents_walk now (page_of after) root ≡ file_walk (readers blocks) (page_of image) k =
    ap (λ (n : ℕ). extents_walk n (page_of after) root) e ∙ ap (λ (i : Image). extents_walk blocks (page_of i) root) f ∙ same_walk blocks (page_of image) root k g in
    file_adds blocks (page_of image) k old new (subst (λ (ms : Marks ℕ Xad). Adds (extents_held ms) old new) walk h)
file_counted blocks now image after root k (Err x) old new e f g h = tt

module _ (r : Readers) (page : ℕ → List ℕ) where
  -- ---- all of them

  -- The fixed areas have what pages 0 to 15 and the second inode table and map have, and the files of inodes 2, 4 and 16.
  pub area_parts : (table map : Pxd) (b : ℕ) → areas_have table map b + file_has r page 2 b + file_has r page 4 b + file_has r page 16 b ≡ area_on r table map page b
  unfolding area_on
  area_parts table map b = refl

  -- so they are counted part by part
  pub area_joined : (table map : Pxd) (o p q s t : OwnerSets) → Adds (areas_have table map) o p → Adds (file_has r page 2) p q → Adds (file_has r page 4) q s → Adds (file_has r page 16) s t
      → Adds (area_on r table map page) o t
  area_joined table map o p q s t areas blocks bad inodes =
      adds_same (λ b. areas_have table map b + file_has r page 2 b + file_has r page 4 b + file_has r page 16 b) (area_on r table map page) o t (area_parts table map)
      (adds_next (λ b. areas_have table map b + file_has r page 2 b + file_has r page 4 b) (file_has r page 16) o s t
      (adds_next (λ b. areas_have table map b + file_has r page 2 b) (file_has r page 4) o q s
      (adds_next (areas_have table map) (file_has r page 2) o p q areas blocks) bad) inodes)

pub areas_counted : (table map : Pxd) (o p q s : OwnerSets) → Adds (run_has (record { len = 16; addr = 0 })) o p → Adds (run_has table) p q → Adds (run_has map) q s → Adds (areas_have table map) o s
areas_counted table map o p q s a b c =
    let front : Pxd = record { len = 16; addr = 0 } in
    adds_next (λ n. run_has front n + run_has table n) (run_has map) o q s (adds_next (run_has front) (run_has table) o p q a b) c

pub area_counted : {T : Type 0} (blocks b1 b2 : ℕ) (image i1 i2 : Image) (table map : Pxd) (r : Result T ViewError) (o p q s t : OwnerSets) → b1 ≡ blocks → i1 ≡ image → b2 ≡ b1 → i2 ≡ i1 → Adds (areas_have table map) o p
    → Adds (file_has (readers blocks) (page_of image) 2) p q → Adds (file_has (readers b1) (page_of i1) 4) q s → IfOk r (λ it. Adds (file_has (readers b2) (page_of i2) 16) s t)
    → IfOk r (λ it. Adds (area_on (readers blocks) table map (page_of image)) o t)
area_counted blocks b1 b2 image i1 i2 table map (Ok it) o p q s t e f g h areas x y z =
    area_joined (readers blocks) (page_of image) table map o p q s t areas x
    (subst (λ (i : Image). Adds (file_has (readers blocks) (page_of i) 4) q s) f (subst (λ (m : ℕ). Adds (file_has (readers m) (page_of i1) 4) q s) e y))
    (subst (λ (i : Image). Adds (file_has (readers blocks) (page_of i) 16) s t) (h ∙ f) (subst (λ (m : ℕ). Adds (file_has (readers m) (page_of i2) 16) s t) (g ∙ e) z))
area_counted blocks b1 b2 image i1 i2 table map (Err x) o p q s t e f g h areas y z w = tt
