-- A new volume is sound.
use Rattle.std.proofs.Common.{◌≡◌, ◌≤◌, ◌<◌, refl, sym, ap, ap₂, ◌∙◌, subst, ℕ, zero, suc, ◌+◌, ◌*◌, ◌%◌, Bool, true, false, ◌&&◌, ◌||◌, ◌==◌, not, nat_le, nat_lt, if◌then◌else◌, List, [], Option, Some, None, is_some, arith}
use Rattle.std.proofs.lemmas.Bool.{eq-eqb, le-leb, and_from}
use Rattle.std.proofs.lemmas.Bool.Decides.{nat_tests}
use Rattle.jfs_bits.specs.declared.descriptor.Pxd.{Pxd}
use Rattle.jfs_bits.specs.Field.{field_of}
use Rattle.jfs_bits.proofs.Broken.{none-first_broken}
use Rattle.jfs_disk.specs.Image.{Image, page_of}
use Rattle.jfs_inode.specs.declared.fields.Dinode.{Dinode}
use Rattle.jfs_inode.specs.Rules.{type_of}
use Rattle.jfs_super.specs.Rules.{blocks_of}
use Rattle.jfs_new_volume.specs.page_tree.specs.Walk.{Leaf}
use Rattle.jfs_iag.specs.Canonical.{is_there}
use Rattle.jfs_findings.specs.bmap.specs.MapFile.{IsMapPage, is_in_use, pages_of}
use Rattle.jfs_new_volume.specs.imap.specs.Inodes.{is_used, extent_at as new_extent}
use Rattle.jfs_new_volume.specs.objects.specs.Volume.{Volume, home}
use Rattle.jfs_new_volume.specs.objects.specs.Objects.{Object, has_extents, objects}
use Rattle.jfs_new_volume.specs.objects.specs.Owners.{IsSound, owners, bit}
use Rattle.jfs_new_volume.specs.objects.specs.Image.{volume_on, file_page, is_block_used}
use Rattle.jfs_new_volume.specs.meaning.specs.Readers.{readers}
use Rattle.jfs_new_volume.specs.format.specs.Layout.{IsLayout, map_pages, inode_map, first_inodes, owned_blocks, is_taken_block}
use Rattle.jfs_new_volume.specs.format.specs.Inodes.{fileset_inode}
use Rattle.jfs_new_volume.specs.format.specs.Root.{no_extents}
use Rattle.jfs_new_volume.specs.format.specs.Superblock.{new_super}
use Rattle.jfs_new_volume.specs.format.specs.Volume.{inodes_in, IsNewVolume}
use Rattle.jfs_new_volume.specs.format.specs.declared.tables.Table.TheVariants.{Fileset}
use Rattle.jfs_new_volume.specs.format.specs.declared.volume.NewVolume.{NewVolume}
use Rattle.jfs_new_volume.specs.Roots.{ReadsRoots}
use Rattle.jfs_new_volume.specs.Law.{new_on, new_object}
use Rattle.jfs_new_volume.proofs.RealRoots.{reads_roots}
use Rattle.jfs_new_volume.proofs.Agreed.{new_volume}
use Rattle.jfs_new_volume.proofs.Files.{slot_is}
use Rattle.jfs_new_volume.proofs.Maps.{iags_are, home_is, block_is}
use Rattle.jfs_new_volume.proofs.Tree.{new_volume_tree}
use Rattle.jfs_findings.specs.mount_rules.specs.Subject.{Subject, blocks, volume, object}
use Rattle.jfs_findings.specs.mount_rules.specs.Mount.{broken_mount, mount_rows, covered, fitting, fits_extent, extent_at, iags, place, root_row}
use Rattle.jfs_findings.specs.Inodes.{blocks_owned, is_past}
use Rattle.jfs_findings.specs.Names.{StandsAt}
use Rattle.jfs_findings.specs.Trees.{extent_nodes}
use Rattle.jfs_findings.specs.Maps.{has_to_be_taken, IsMapPageAs, IsInodePageAs, IsBlockMapPage, IsInodeMapPage}
use Rattle.jfs_findings.specs.Clean.{IsSoundVolume}
use Rattle.jfs_findings.specs.mount_rules.specs.Subject.{subject_of}
use Rattle.jfs_findings.proofs.Clean.{clean}
use Rattle.jfs_findings.proofs.Compared.{map_page_as, iag_page_as, control_page_as}
use Rattle.jfs_findings_new.specs.Law.{NewCleanLaw}
use Rattle.jfs_findings_new.proofs.Files.{prefix_all, block_map_place, inode_map_place, whole_files}
use Rattle.jfs_findings_new.proofs.ObjectsFound.{one_of_four, no_name, blocks_told, ends_told, has_no_extents, never_thin, links_due_are, parents_are}
use Rattle.jfs_findings_new.proofs.Maps.{map_page, inode_page, some_iags, on_iag, used_is, extent_is, later_extent}

abbrev of_new : NewVolume → Image → Subject
of_new v image = subject_of (new_super v) (page_of image)

blocks_are : (v : NewVolume) → blocks_of (new_super v) ≡ v.layout.blocks
unfolding new_super
blocks_are v = omega arith

group_is : (v : NewVolume) → (new_super v).agsize ≡ v.layout.agsize
unfolding new_super
group_is v = refl

module _ (pages : ℕ) (v : NewVolume) (image : Image) (layout : IsLayout pages v.layout) (is : IsNewVolume v image) where
  roots : ReadsRoots (readers (blocks_of (new_super v))) v.layout.blocks
  roots = subst (λ (n : ℕ). ReadsRoots (readers (blocks_of (new_super v))) n) (blocks_are v) (reads_roots (blocks_of (new_super v)) (let e = blocks_are v in let m = layout.most in omega (arith, e, m)))

  volume_is : volume (of_new v image) ≡ new_on (readers (blocks_of (new_super v))) v image
  volume_is = ap (λ (n : ℕ). volume_on (readers (blocks_of (new_super v))) n (new_super v).ait2 (new_super v).aim2 (page_of image)) (blocks_are v)

  sound_volume : IsSound (readers (blocks_of (new_super v))) (volume (of_new v image))
  sound_volume = subst (IsSound (readers (blocks_of (new_super v)))) (sym volume_is) (new_volume (readers (blocks_of (new_super v))) pages v image layout roots is).0

  objects_are : (n : ℕ) → object (of_new v image) n ≡ (if nat_lt n 4 then Some (new_object v n) else None)
  objects_are n = ap (λ (w : Volume). objects (readers (blocks_of (new_super v))) w n) volume_is ∙ (new_volume (readers (blocks_of (new_super v))) pages v image layout roots is).1 n

  iags_is : iags (of_new v image) ≡ v.layout.iags
  iags_is = iags_are (readers (blocks_of (new_super v))) pages v image layout roots is

  -- ---- the rules of a mount

  is_place : (o : Option ℕ) (p : ℕ) → o ≡ Some p → is_some o ≡ true
  is_place o p e = ap is_some e

  map_covered : covered (of_new v image) 2 (pages_of (blocks (of_new v image))) ≡ pages_of (blocks (of_new v image))
  unfolding covered
  map_covered = prefix_all (λ j. is_some (place (of_new v image) 2 j)) 0 (pages_of (blocks (of_new v image)))
      (λ j _ l. is_place (place (of_new v image) 2 j) (16 + j) (block_map_place (readers (blocks_of (new_super v))) v image roots is pages layout j (let e = blocks_are v in let d = layout.dmaps in omega (arith, l, e, d))))

  inodes_covered : covered (of_new v image) 16 (suc (iags (of_new v image))) ≡ suc (iags (of_new v image))
  unfolding covered
  inodes_covered = prefix_all (λ j. is_some (place (of_new v image) 16 j)) 0 (suc (iags (of_new v image)))
      (λ j _ l. is_place (place (of_new v image) 16 j) (inode_map v.layout + j) (inode_map_place (readers (blocks_of (new_super v))) v image roots is pages layout j (let e = iags_is in omega (arith, l, e))))

  map_size : field_of (file_page (readers (blocks_of (new_super v))) (page_of image) 2 0) 0 8 ≡ blocks (of_new v image)
  map_size =
      let first = is.rest.block_map 0 (omega arith) in
      ap (λ (p : List ℕ). field_of p 0 8) (map_page (readers (blocks_of (new_super v))) pages v image layout roots is 0 (omega arith)) ∙ sym first.held.mapsize ∙ first.canonical.mapsize ∙ sym (blocks_are v)

  extent_as_new : (e : ℕ) → e < 128 * v.layout.iags → extent_at (of_new v image) e ≡ new_extent (inodes_in Fileset v.layout) e
  extent_as_new = extent_is (readers (blocks_of (new_super v))) pages v image layout roots is

  fits_new : (e : ℕ) → (not (is_there (new_extent (inodes_in Fileset v.layout) e)) || ((new_extent (inodes_in Fileset v.layout) e).len == 4 && nat_le ((new_extent (inodes_in Fileset v.layout) e).addr + 4) (blocks (of_new v image)))) ≡ true
  fits_new zero = le-leb (first_inodes v.layout + 4) (blocks (of_new v image)) (let e = blocks_are v in let w = layout.within in omega (arith, e, w))
  fits_new (suc e) = ap (λ (p : Pxd). not (is_there p) || (p.len == 4 && nat_le (p.addr + 4) (blocks (of_new v image)))) (later_extent (readers (blocks_of (new_super v))) pages v image layout roots is e)

  all_fit : fitting (of_new v image) ≡ 128 * iags (of_new v image)
  unfolding fitting
  all_fit = prefix_all (fits_extent (of_new v image)) 0 (128 * iags (of_new v image))
      (λ e _ l. ap (λ (p : Pxd). not (is_there p) || (p.len == 4 && nat_le (p.addr + 4) (blocks (of_new v image)))) (extent_as_new e (let k = iags_is in omega (arith, k, l))) ∙ fits_new e)

  top_holds : (root_row (of_new v image) (home (volume (of_new v image)).extents 2)).holds ≡ true
  top_holds =
      ap (λ (o : Option ℕ). (root_row (of_new v image) o).holds) (home_is (readers (blocks_of (new_super v))) pages v image layout roots is 2)
      ∙ ap (λ (d : Dinode). type_of d == 0x4000) (slot_is (first_inodes v.layout) (fileset_inode v) image is.rest.inodes 2 (omega arith))

  mounts : broken_mount (of_new v image) ≡ None
  unfolding mount_rows
  mounts = none-first_broken (mount_rows (of_new v image)) (
    eq-eqb (covered (of_new v image) 2 (pages_of (blocks (of_new v image)))) (pages_of (blocks (of_new v image))) map_covered,
    (
      eq-eqb (covered (of_new v image) 16 (suc (iags (of_new v image)))) (suc (iags (of_new v image))) inodes_covered,
      (
        eq-eqb (field_of (file_page (readers (blocks_of (new_super v))) (page_of image) 2 0) 0 8) (blocks (of_new v image)) map_size,
        (
          and_from (nat_le 1 (iags (of_new v image))) (nat_le (iags (of_new v image)) 65536) (le-leb 1 (iags (of_new v image)) at_least) (le-leb (iags (of_new v image)) 65536 at_most),
          (
            eq-eqb (fitting (of_new v image)) (128 * iags (of_new v image)) all_fit,
            (top_holds, tt),
          ),
        ),
      ),
    ),
  )
    where
      at_least : 1 ≤ iags (of_new v image)
      at_least = let e = iags_is in let s = some_iags (readers (blocks_of (new_super v))) pages v image layout roots is in omega (arith, e, s)

      at_most : iags (of_new v image) ≤ 65536
      at_most = let e = iags_is in let k = layout.iags in omega (arith, e, k)

  -- ---- the maps

  taken_same : (b : ℕ) → is_taken_block v.layout b ≡ has_to_be_taken (of_new v image) b
  taken_same b =
      let owners_are = sound_volume.agrees.blocks b in
      let used_is : (volume (of_new v image)).used b ≡ nat_lt b (owned_blocks v.layout) = ap (λ (n : ℕ). is_block_used (readers (blocks_of (new_super v))) (page_of image) n b) (blocks_are v) ∙ block_is (readers (blocks_of (new_super v))) pages v image layout roots is b in
      swapped (nat_lt b (owned_blocks v.layout)) (nat_le v.layout.blocks b)
      ∙ ap₂ (λ (x y : Bool). x || y) (ap (λ (n : ℕ). nat_le n b) (sym (blocks_are v))) (sym used_is ∙ sym (owned_is ((volume (of_new v image)).used b) (owners (readers (blocks_of (new_super v))) (volume (of_new v image)) b) owners_are))
    where
      swapped : (x y : Bool) → (x || y) ≡ (y || x)
      swapped true true = refl
      swapped true false = refl
      swapped false true = refl
      swapped false false = refl

      owned_is : (x : Bool) (n : ℕ) → n ≡ bit x → nat_lt 0 n ≡ x
      owned_is true n e = ap (nat_lt 0) e
      owned_is false n e = ap (nat_lt 0) e

  block_map_as : (j : ℕ) → is_in_use (blocks (of_new v image)) j ≡ true → IsBlockMapPage (of_new v image) j
  block_map_as j u =
      let l : j < map_pages v.layout = (let e = blocks_are v in let d = layout.dmaps in let w = in_pages (blocks (of_new v image)) j u in omega (arith, e, d, w)) in
      subst (IsMapPageAs (blocks (of_new v image)) (new_super v).agsize (has_to_be_taken (of_new v image)) j) (sym (map_page (readers (blocks_of (new_super v))) pages v image layout roots is j l))
      (map_page_as (blocks (of_new v image)) (new_super v).agsize (is_taken_block v.layout) (has_to_be_taken (of_new v image)) taken_same j (page_of image (16 + j))
      (subst (λ (n : ℕ). IsMapPage n (new_super v).agsize (is_taken_block v.layout) j (page_of image (16 + j))) (sym (blocks_are v))
      (subst (λ (n : ℕ). IsMapPage v.layout.blocks n (is_taken_block v.layout) j (page_of image (16 + j))) (sym (group_is v)) (is.rest.block_map j l))))
    where
      in_pages : (blocks j : ℕ) → is_in_use blocks j ≡ true → j < pages_of blocks
      in_pages blocks zero u = omega arith
      in_pages blocks (suc j) u = grind (arith, nat_tests)

  inode_used : (n : ℕ) → n < 4096 * v.layout.iags → is_used (inodes_in Fileset v.layout) n ≡ is_some (object (of_new v image) n)
  inode_used n l = used_is (readers (blocks_of (new_super v))) pages v image layout roots is n l ∙ sym (ap is_some (objects_are n) ∙ there (nat_lt n 4) (new_object v n))
    where
      there : (x : Bool) (o : Object) → is_some (if x then Some o else None) ≡ x
      there true o = refl
      there false o = refl

  inode_map_as : (j : ℕ) → j < suc (iags (of_new v image)) → IsInodeMapPage (of_new v image) j
  inode_map_as j l =
      let w : j < 1 + v.layout.iags = (let e = iags_is in omega (arith, e, l)) in
      subst (IsInodePageAs (λ n. is_some (object (of_new v image) n)) (extent_at (of_new v image)) (iags (of_new v image)) j) (sym (inode_page (readers (blocks_of (new_super v))) pages v image layout roots is j w))
      (subst (λ (n : ℕ). IsInodePageAs (λ n. is_some (object (of_new v image) n)) (extent_at (of_new v image)) n j (page_of image (inode_map v.layout + j))) (sym iags_is) (by j w))
    where
      by : (j : ℕ) → j < 1 + v.layout.iags → IsInodePageAs (λ n. is_some (object (of_new v image) n)) (extent_at (of_new v image)) v.layout.iags j (page_of image (inode_map v.layout + j))
      by zero w = control_page_as (is_used (inodes_in Fileset v.layout)) (λ n. is_some (object (of_new v image) n)) (new_extent (inodes_in Fileset v.layout)) (extent_at (of_new v image)) v.layout.iags inode_used (λ e l. sym (extent_as_new e l)) v.layout.groups
          (page_of image (inode_map v.layout + 0)) ((is.rest.inode_map 0 (omega arith)).control refl)
      by (suc k) w =
          let p = on_iag (readers (blocks_of (new_super v))) pages v image layout roots is k (omega (arith, w)) in
          iag_page_as (λ i. is_used (inodes_in Fileset v.layout) (4096 * k + i)) (λ i. is_some (object (of_new v image) (4096 * k + i))) (λ e. new_extent (inodes_in Fileset v.layout) (128 * k + e)) (λ e. extent_at (of_new v image) (128 * k + e))
          (λ i l. inode_used (4096 * k + i) (omega (arith, w, l))) (λ e l. sym (extent_as_new (128 * k + e) (omega (arith, w, l)))) k (k % v.layout.groups * v.layout.agsize) p.0 (page_of image (inode_map v.layout + suc k)) p.1

  -- ---- all of it

  leaf_root : (d : Dinode) → d.rest ≡ no_extents → extent_nodes (of_new v image) d 4294967295 ≡ Leaf []
  leaf_root d h = roots.empty d h

  pub sound_new : IsSoundVolume (of_new v image)
  sound_new = record {
    mounts = mounts;
    sound = sound_volume;
    files = whole_files (readers (blocks_of (new_super v))) v image roots is pages layout;
    inodes = (new_volume_tree pages v image layout is).0.inodes;
    names = λ dir o e page x at. let w = one_of_four (of_new v image) v objects_are dir o e in absurd (no_name v dir w.0 page x (subst (λ (o : Object). StandsAt page x o.names) (sym w.1) at));
    links = links_due_are (of_new v image) v objects_are;
    parents = parents_are (of_new v image) v objects_are;
    nblocks = λ n o e. let w = one_of_four (of_new v image) v objects_are n o e in subst (λ (o : Object). o.inode.nblocks ≡ blocks_owned (readers (blocks_of (new_super v))) o) w.1 (blocks_told (readers (blocks_of (new_super v))) v n w.0);
    ends = λ n o e. let w = one_of_four (of_new v image) v objects_are n o e in subst (λ (o : Object). is_past (readers (blocks_of (new_super v))) o ≡ false) w.1 (ends_told (readers (blocks_of (new_super v))) v n w.0);
    full = λ n o e has page thin. let w = one_of_four (of_new v image) v objects_are n o e in
        never_thin (extent_nodes (of_new v image) o.inode) (leaf_root o.inode (subst (λ (o : Object). has_extents o.inode ≡ true → o.inode.rest ≡ no_extents) w.1 (has_no_extents v n w.0) has)) page thin;
    block_map = block_map_as;
    inode_map = inode_map_as;
  }

pub new_clean : NewCleanLaw
new_clean pages v image layout is = let s = sound_new pages v image layout is in (s, clean (subject_of (new_super v) (page_of image)) s)
