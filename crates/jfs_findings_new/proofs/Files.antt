-- The aggregate's files of a new volume, as a mount looks at them.
use Rattle.std.proofs.Common.{◌≡◌, ◌≤◌, ◌<◌, refl, ap, ◌∙◌, subst, ℕ, zero, suc, ◌+◌, ◌-◌, Bool, true, ◌&&◌, nat_le, nat_lt, if◌then◌else◌, List, [], ◌∷◌, Some, None, Result, Ok, arith}
use Rattle.std.specs.List.{range_with_len, prefix_len, Contains}
use Rattle.std.proofs.lemmas.Bool.Decides.{nat_tests}
use Rattle.jfs_bits.specs.declared.descriptor.Pxd.{Pxd}
use Rattle.jfs_bits.specs.declared.extent.Xad.{Xad}
use Rattle.jfs_bits.specs.declared.rule.Rule.{Rule}
use Rattle.jfs_inode.specs.declared.fields.Dinode.{Dinode}
use Rattle.jfs_disk.specs.Image.{Image, page_of}
use Rattle.jfs_new_volume.specs.page_tree.specs.Walk.{Node}
use Rattle.jfs_new_volume.specs.page_tree.specs.Spells.{tree_of}
use Rattle.jfs_new_volume.specs.objects.specs.Readers.{Readers}
use Rattle.jfs_new_volume.specs.objects.specs.Objects.{listed}
use Rattle.jfs_new_volume.specs.objects.specs.Owners.{entries}
use Rattle.jfs_new_volume.specs.objects.specs.Contents.{block_of}
use Rattle.jfs_new_volume.specs.objects.specs.Image.{aggregate_at, file_walk, file_extents}
use Rattle.jfs_new_volume.specs.format.specs.Inodes.{aggregate_inode}
use Rattle.jfs_new_volume.specs.format.specs.Layout.{IsLayout, map_pages, inode_map}
use Rattle.jfs_new_volume.specs.format.specs.Root.{one_extent, whole_file}
use Rattle.jfs_new_volume.specs.format.specs.Volume.{IsNewVolume}
use Rattle.jfs_new_volume.specs.format.specs.declared.volume.NewVolume.{NewVolume}
use Rattle.jfs_new_volume.specs.Roots.{ReadsRoots}
use Rattle.jfs_new_volume.proofs.Roots.{one_walk, one_listed}
use Rattle.jfs_new_volume.proofs.Files.{aggregate_is}
use Rattle.jfs_findings.specs.Trees.{files}

-- all numbers below a bound pass
pub prefix_all : (p : ℕ → Bool) (a n : ℕ) → ((j : ℕ) → a ≤ j → j < a + n → p j ≡ true) → prefix_len p (range_with_len a n) ≡ n
prefix_all p a zero h = refl
prefix_all p a (suc n) h =
    let rest = prefix_all p (a + 1) n (λ j l w. h j (omega (arith, l)) (omega (arith, w))) in
    ap (λ (b : Bool). if b then 1 + prefix_len p (range_with_len (a + 1) n) else 0) (h a (omega arith) (omega arith)) ∙ omega (arith, rest)

module _ (r : Readers) (v : NewVolume) (image : Image) (roots : ReadsRoots r v.layout.blocks) (is : IsNewVolume v image) where
  -- a file of one run
  module _ (k : ℕ) (run : Pxd) (known : k < 32) (some : 0 < run.len) (within : run.addr + run.len ≤ v.layout.blocks) (rest : (aggregate_inode v k).rest ≡ one_extent run) where
    pub run_listed : listed r.extents_order (file_walk r (page_of image) k) ≡ Ok (whole_file run ∷ [])
    run_listed =
        ap (λ (node : Node ℕ Xad). listed r.extents_order (tree_of r.extents_order (λ b. r.extents_page (page_of image b)) node)) (roots.one (aggregate_at (page_of image) k) run some within (ap (λ (d : Dinode). d.rest) (aggregate_is r v image roots is k known) ∙ rest))
        ∙ ap (listed r.extents_order) (one_walk r.extents_order roots.order (λ b. r.extents_page (page_of image b)) (whole_file run))
        ∙ one_listed r.extents_order roots.order (whole_file run)

    pub run_place : (j : ℕ) → j < run.len → block_of (file_extents r (page_of image) k) j ≡ Some (run.addr + j)
    run_place j l =
        ap (λ (es : Result (List Xad) (ℕ × Rule)). block_of (entries es) j) run_listed
        ∙ ap (λ (x : Bool). if x then Some (run.addr + (j - 0)) else None) (inside run.len j l)
        ∙ ap Some (omega arith)
      where
        inside : (n j : ℕ) → j < n → (nat_le 0 j && nat_lt j (0 + n)) ≡ true
        inside n j l = grind (arith, nat_tests)

  pub none_listed : listed r.extents_order (file_walk r (page_of image) 4) ≡ Ok []
  none_listed = ap (λ (node : Node ℕ Xad). listed r.extents_order (tree_of r.extents_order (λ b. r.extents_page (page_of image b)) node)) (roots.empty (aggregate_at (page_of image) 4) (ap (λ (d : Dinode). d.rest) (aggregate_is r v image roots is 4 (omega arith))))

  module _ (pages : ℕ) (layout : IsLayout pages v.layout) where
    -- where the pages of the two maps stand
    pub block_map_place : (j : ℕ) → j < map_pages v.layout → block_of (file_extents r (page_of image) 2) j ≡ Some (16 + j)
    block_map_place j l = run_place 2 (record { len = map_pages v.layout; addr = 16 }) (omega arith) (omega arith) (let w = layout.within in omega (arith, w)) refl j l

    pub inode_map_place : (j : ℕ) → j < 1 + v.layout.iags → block_of (file_extents r (page_of image) 16) j ≡ Some (inode_map v.layout + j)
    inode_map_place j l = run_place 16 (record { len = 1 + v.layout.iags; addr = inode_map v.layout }) (omega arith) (omega arith) (let w = layout.within in omega (arith, w)) refl j l

    pub whole_files : (k : ℕ) → Contains files k → (es : List Xad) × (listed r.extents_order (file_walk r (page_of image) k) ≡ Ok es)
    whole_files k (zero, l, e) = subst (λ k. (es : List Xad) × (listed r.extents_order (file_walk r (page_of image) k) ≡ Ok es)) e (whole_file (record { len = map_pages v.layout; addr = 16 }) ∷ [], run_listed 2 (record { len = map_pages v.layout; addr = 16 }) (omega arith) (omega arith) (let w = layout.within in omega (arith, w)) refl)
    whole_files k (suc zero, l, e) = subst (λ k. (es : List Xad) × (listed r.extents_order (file_walk r (page_of image) k) ≡ Ok es)) e ([], none_listed)
    whole_files k (suc (suc zero), l, e) = subst (λ k. (es : List Xad) × (listed r.extents_order (file_walk r (page_of image) k) ≡ Ok es)) e
        (whole_file (record { len = 1 + v.layout.iags; addr = inode_map v.layout }) ∷ [], run_listed 16 (record { len = 1 + v.layout.iags; addr = inode_map v.layout }) (omega arith) (omega arith) (let w = layout.within in omega (arith, w)) refl)
    whole_files k (suc (suc (suc n)), l, e) = absurd (omega (arith, l))
