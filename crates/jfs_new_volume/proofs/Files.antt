-- The aggregate's files on a new volume.
use Rattle.std.proofs.Common.{◌≡◌, ◌≤◌, ◌<◌, ap, ◌∙◌, ℕ, ◌+◌, ◌-◌, ◌/◌, ◌%◌, Bool, true, ◌&&◌, nat_le, nat_lt, if◌then◌else◌, List, [], ◌∷◌, Some, None, Result, Ok, arith}
use Rattle.std.specs.Prelude.{unwrap_or}
use Rattle.std.proofs.lemmas.Bool.Decides.{nat_tests}
use Rattle.jfs_bits.specs.declared.descriptor.Pxd.{Pxd}
use Rattle.jfs_bits.specs.declared.extent.Xad.{Xad}
use Rattle.jfs_inode.specs.declared.fields.Dinode.{Dinode}
use Rattle.jfs_disk.specs.Image.{Image, page_of}
use Rattle.jfs_meaning.specs.page_tree.specs.Walk.{Marks}
use Rattle.jfs_meaning.specs.page_tree.specs.Spells.{tree_of}
use Rattle.jfs_meaning.specs.objects.specs.Readers.{Readers}
use Rattle.jfs_meaning.specs.objects.specs.Volume.{slot_of}
use Rattle.jfs_meaning.specs.objects.specs.Objects.{met, listed}
use Rattle.jfs_meaning.specs.objects.specs.Owners.{unless_broken, entries, run_has, covers}
use Rattle.jfs_meaning.specs.objects.specs.Contents.{block_of, bytes_at}
use Rattle.jfs_meaning.specs.objects.specs.Image.{aggregate_at, file_walk, file_page, file_has}
use Rattle.jfs_format.specs.Inodes.{aggregate_inode, IsTablePage}
use Rattle.jfs_format.specs.Root.{one_extent, whole_file}
use Rattle.jfs_format.specs.Volume.{HasPages, IsNewVolume}
use Rattle.jfs_format.specs.declared.volume.NewVolume.{NewVolume}
use Rattle.jfs_new_volume.specs.Roots.{ReadsRoots}
use Rattle.jfs_new_volume.proofs.Roots.{one_marks, one_walk, one_listed, one_meets, none_meets}

-- an inode of a table of four pages
pub slot_is : (first : ℕ) (inode : ℕ → Dinode) (image : Image) → HasPages first 4 (IsTablePage inode) image → (k : ℕ) → k < 32 → slot_of (page_of image (first + k / 8)) (k % 8) ≡ inode k
slot_is first inode image h k l = ((h (k / 8) (omega (arith, l))).slots (k % 8) (omega arith)).reads ∙ ap inode (omega arith)

module _ (r : Readers) (v : NewVolume) (image : Image) (roots : ReadsRoots r v.layout.blocks) (is : IsNewVolume v image) where
  pub aggregate_is : (k : ℕ) → k < 32 → aggregate_at (page_of image) k ≡ aggregate_inode v k
  aggregate_is k l = slot_is 11 (aggregate_inode v) image is.rest.aggregate_inodes k l

  -- a file of one run
  module _ (k : ℕ) (run : Pxd) (known : k < 32) (some : 0 < run.len) (within : run.addr + run.len ≤ v.layout.blocks) (rest : (aggregate_inode v k).rest ≡ one_extent run) where
    walk_is : file_walk r (page_of image) k ≡ one_marks r.extents_order (whole_file run)
    walk_is =
        ap (tree_of r.extents_order (λ b. r.extents_page (page_of image b))) (roots.one (aggregate_at (page_of image) k) run some within (ap (λ (d : Dinode). d.rest) (aggregate_is k known) ∙ rest))
        ∙ one_walk r.extents_order roots.order (λ b. r.extents_page (page_of image b)) (whole_file run)

    listed_is : listed r.extents_order (file_walk r (page_of image) k) ≡ Ok (whole_file run ∷ [])
    listed_is = ap (listed r.extents_order) walk_is ∙ one_listed r.extents_order roots.order (whole_file run)

    pub page_is : (j : ℕ) → j < run.len → file_page r (page_of image) k j ≡ page_of image (run.addr + j)
    unfolding file_page
    page_is j l =
        ap (λ (es : Result (List Xad) _). unwrap_or (bytes_at (page_of image) (block_of (entries es) j)) []) listed_is
        ∙ ap (λ (x : Bool). unwrap_or (bytes_at (page_of image) (if x then Some (run.addr + (j - 0)) else None)) []) (inside run.len j l)
        ∙ ap (page_of image) (omega arith)
      where
        inside : (n j : ℕ) → j < n → (nat_le 0 j && nat_lt j (0 + n)) ≡ true
        inside n j l = grind (arith, nat_tests)

    pub has_is : (b : ℕ) → file_has r (page_of image) k b ≡ run_has run b
    unfolding file_has
    has_is b =
        let x = ap (λ (ms : Marks ℕ Xad). met ms b) walk_is ∙ one_meets r.extents_order (whole_file run) b in
        let y = ap (λ (es : Result (List Xad) _). unless_broken es (met (file_walk r (page_of image) k) b)) listed_is in
        let z = ap (λ (es : Result (List Xad) _). covers b (entries es)) listed_is in
        omega (arith, x, y, z)

  -- inode 4 has no blocks
  pub no_bad_blocks : (b : ℕ) → file_has r (page_of image) 4 b ≡ 0
  unfolding file_has
  no_bad_blocks b =
      let root = roots.empty (aggregate_at (page_of image) 4) (ap (λ (d : Dinode). d.rest) (aggregate_is 4 (omega arith))) in
      let w = ap (tree_of r.extents_order (λ b. r.extents_page (page_of image b))) root in
      let m = none_meets ℕ Xad b in
      let x = ap (λ (ms : Marks ℕ Xad). unless_broken (listed r.extents_order ms) (met ms b)) w in
      let z = ap (λ (ms : Marks ℕ Xad). covers b (entries (listed r.extents_order ms))) w in
      omega (arith, x, z, m)
