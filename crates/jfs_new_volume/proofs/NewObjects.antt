-- The objects of a new volume.
use Rattle.std.proofs.Common.{◌≡◌, ◌≤◌, ◌<◌, refl, sym, ap, ap₂, ◌∙◌, ℕ, zero, suc, ◌+◌, ◌/◌, ◌%◌, Bool, true, false, not, ◌||◌, ◌==◌, nat_lt, if◌then◌else◌, List, [], ◌∷◌, Some, None, inl, inr, arith}
use Rattle.std.proofs.lemmas.Bool.{cases_lt}
use Rattle.std.proofs.lemmas.Bool.Decides.{nat_tests}
use Rattle.jfs_bits.specs.declared.extent.Xad.{Xad}
use Rattle.jfs_inode.specs.declared.fields.Dinode.{Dinode}
use Rattle.jfs_name.specs.declared.name.NameEntry.{NameEntry}
use Rattle.jfs_disk.specs.Image.{Image, page_of}
use Rattle.jfs_meaning.specs.page_tree.specs.Walk.{Node, Leaf, Page}
use Rattle.jfs_meaning.specs.page_tree.specs.Spells.{no_page, tree_of}
use Rattle.jfs_meaning.specs.objects.specs.Readers.{Readers}
use Rattle.jfs_meaning.specs.objects.specs.Volume.{home, page_in, slot_of}
use Rattle.jfs_meaning.specs.objects.specs.Objects.{IsWhole, objects, spelled, has_names, has_extents, is_live, met}
use Rattle.jfs_meaning.specs.objects.specs.Owners.{holds}
use Rattle.jfs_meaning.specs.objects.proofs.Found.{object_at, no_object_at, no_home}
use Rattle.jfs_format.specs.Layout.{IsLayout, first_inodes}
use Rattle.jfs_format.specs.Inodes.{fileset_inode}
use Rattle.jfs_format.specs.Volume.{IsNewVolume}
use Rattle.jfs_format.specs.declared.volume.NewVolume.{NewVolume}
use Rattle.jfs_new_volume.specs.Roots.{ReadsRoots}
use Rattle.jfs_new_volume.specs.Law.{new_on, new_object}
use Rattle.jfs_new_volume.proofs.Roots.{none_meets}
use Rattle.jfs_new_volume.proofs.Files.{slot_is}
use Rattle.jfs_new_volume.proofs.Maps.{home_is}

-- no tree of a new object breaks a rule, and it has no block
pub whole_is : (r : Readers) (v : NewVolume) (n : ℕ) → n < 4 → IsWhole r (new_object v n)
whole_is r v zero l = record { names = []; extents = []; names_are = refl; extents_are = refl }
whole_is r v (suc zero) l = record { names = []; extents = []; names_are = refl; extents_are = refl }
whole_is r v (suc (suc zero)) l = record { names = []; extents = []; names_are = refl; extents_are = refl }
whole_is r v (suc (suc (suc zero))) l = record { names = []; extents = []; names_are = refl; extents_are = refl }
whole_is r v (suc (suc (suc (suc n)))) l = absurd (omega (arith, l))

abbrev cond_same : Bool → ℕ → ℕ
cond_same x n = if x then n else n

nothing_met : (P E : Type 0) (b : ℕ) → met {P = P} {E = E} [] b ≡ 0
nothing_met P E b = by (b == no_page)
  where
    by : (x : Bool) → cond_same x 0 ≡ 0
    by true = refl
    by false = refl

sum_is : (x y : ℕ) → x ≡ 0 → y ≡ 0 → x + y + 0 + (0 + 0) ≡ 0
sum_is x y e f = omega (arith, e, f)

pub has_no_block : (r : Readers) (v : NewVolume) (n b : ℕ) → n < 4 → holds r (Some (new_object v n)) b ≡ 0
unfolding holds
has_no_block r v zero b l = sum_is (met {P = List ℕ} {E = NameEntry} [] b) (met {P = ℕ} {E = Xad} (Page no_page ∷ []) b) (nothing_met (List ℕ) NameEntry b) (none_meets ℕ Xad b)
has_no_block r v (suc zero) b l = sum_is (met {P = List ℕ} {E = NameEntry} [] b) (met {P = ℕ} {E = Xad} (Page no_page ∷ []) b) (nothing_met (List ℕ) NameEntry b) (none_meets ℕ Xad b)
has_no_block r v (suc (suc zero)) b l = sum_is (met {P = List ℕ} {E = NameEntry} (Page no_page ∷ []) b) (met {P = ℕ} {E = Xad} [] b) (none_meets (List ℕ) NameEntry b) (nothing_met ℕ Xad b)
has_no_block r v (suc (suc (suc zero))) b l = sum_is (met {P = List ℕ} {E = NameEntry} [] b) (met {P = ℕ} {E = Xad} (Page no_page ∷ []) b) (nothing_met (List ℕ) NameEntry b) (none_meets ℕ Xad b)
has_no_block r v (suc (suc (suc (suc n)))) b l = absurd (omega (arith, l))

module _ (r : Readers) (pages : ℕ) (v : NewVolume) (image : Image) (layout : IsLayout pages v.layout) (roots : ReadsRoots r v.layout.blocks) (is : IsNewVolume v image) where
  file_spelled : (d : Dinode) → has_names d ≡ false → has_extents d ≡ true → r.extents_root d ≡ Leaf [] → spelled r (page_of image) d ≡ record { inode = d; names = []; extents = Page no_page ∷ [] }
  unfolding spelled
  file_spelled d a b root =
      ap₂ (λ (x y : Bool). record { inode = d; names = if x then tree_of r.names_order (λ b. r.names_page (page_of image b)) (r.names_root d) else []; extents = if y then tree_of r.extents_order (λ b. r.extents_page (page_of image b)) (r.extents_root d) else [] }) a b
      ∙ ap (λ (node : Node ℕ Xad). record { inode = d; names = []; extents = tree_of r.extents_order (λ b. r.extents_page (page_of image b)) node }) root

  directory_spelled : (d : Dinode) → has_names d ≡ true → has_extents d ≡ false → r.names_root d ≡ Leaf [] → spelled r (page_of image) d ≡ record { inode = d; names = Page no_page ∷ []; extents = [] }
  unfolding spelled
  directory_spelled d a b root =
      ap₂ (λ (x y : Bool). record { inode = d; names = if x then tree_of r.names_order (λ b. r.names_page (page_of image b)) (r.names_root d) else []; extents = if y then tree_of r.extents_order (λ b. r.extents_page (page_of image b)) (r.extents_root d) else [] }) a b
      ∙ ap (λ (node : Node (List ℕ) NameEntry). record { inode = d; names = tree_of r.names_order (λ b. r.names_page (page_of image b)) node; extents = [] }) root

  spelled_is : (n : ℕ) → n < 4 → spelled r (page_of image) (fileset_inode v n) ≡ new_object v n
  spelled_is zero l = file_spelled (fileset_inode v zero) refl refl (roots.empty (fileset_inode v zero) refl)
  spelled_is (suc zero) l = file_spelled (fileset_inode v (suc zero)) refl refl (roots.empty (fileset_inode v (suc zero)) refl)
  spelled_is (suc (suc zero)) l = directory_spelled (fileset_inode v (suc (suc zero))) refl refl (roots.directory (fileset_inode v (suc (suc zero))) refl)
  spelled_is (suc (suc (suc zero))) l = file_spelled (fileset_inode v (suc (suc (suc zero)))) refl refl (roots.empty (fileset_inode v (suc (suc (suc zero)))) refl)
  spelled_is (suc (suc (suc (suc n)))) l = absurd (omega (arith, l))

  home_at : (n : ℕ) → n < 32 → home (new_on r v image).extents n ≡ Some (first_inodes v.layout + n % 32 / 8)
  home_at n l = home_is r pages v image layout roots is n ∙ ap (λ (k : ℕ). page_in (if k == 0 then Some (first_inodes v.layout) else None) n) (low n l)
    where
      low : (n : ℕ) → n < 32 → n / 32 ≡ 0
      low n l = omega (arith, l)

  slot_at : (n : ℕ) → n < 32 → slot_of (page_of image (first_inodes v.layout + n % 32 / 8)) (n % 8) ≡ fileset_inode v n
  slot_at n l = ap (λ (q : ℕ). slot_of (page_of image (first_inodes v.layout + q)) (n % 8)) (low n l) ∙ slot_is (first_inodes v.layout) (fileset_inode v) image is.rest.inodes n l
    where
      low : (n : ℕ) → n < 32 → n % 32 / 8 ≡ n / 8
      low n l = omega (arith, l)

  late : (n : ℕ) → 4 ≤ n → nat_lt n 4 ≡ false
  late n l = grind (arith, nat_tests)

  free_is : (n : ℕ) → 4 ≤ n → is_live n (fileset_inode v n) ≡ false
  free_is n l = rw (late n l, other n l) refl
    where
      other : (n : ℕ) → 4 ≤ n → (n == 2) ≡ false
      other n l = grind (arith, nat_tests)

  pub objects_are : (n : ℕ) → objects r (new_on r v image) n ≡ (if nat_lt n 4 then Some (new_object v n) else None)
  objects_are n = elim (cases_lt n 4) [
    | inl l ↦ object_at r (new_on r v image) n (first_inodes v.layout + n % 32 / 8) (fileset_inode v n) (home_at n (omega (arith, l))) (slot_at n (omega (arith, l))) (live n l)
        ∙ ap Some (spelled_is n l) ∙ sym (ap (λ (x : Bool). if x then Some (new_object v n) else None) (early n l))
    | inr l ↦ elim (cases_lt n 32) [
      | inl h ↦ no_object_at r (new_on r v image) n (first_inodes v.layout + n % 32 / 8) (fileset_inode v n) (home_at n h) (slot_at n h) (free_is n l)
          ∙ sym (ap (λ (x : Bool). if x then Some (new_object v n) else None) (late n l))
      | inr h ↦ no_home r (new_on r v image) n (home_is r pages v image layout roots is n ∙ ap (λ (x : Bool). page_in (if x then Some (first_inodes v.layout) else None) n) (far n h))
          ∙ sym (ap (λ (x : Bool). if x then Some (new_object v n) else None) (late n l))
    ]
  ]
    where
      early : (n : ℕ) → n < 4 → nat_lt n 4 ≡ true
      early n l = grind (arith, nat_tests)

      live : (n : ℕ) → n < 4 → is_live n (fileset_inode v n) ≡ true
      live n l = ap (λ (x : Bool). x || not ((fileset_inode v n).nlink == 0)) (early n l)

      far : (n : ℕ) → 32 ≤ n → (n / 32 == 0) ≡ false
      far n l = not_zero (n / 32) (omega (arith, l))
        where
          not_zero : (k : ℕ) → 0 < k → (k == 0) ≡ false
          not_zero k l = grind (arith, nat_tests)
