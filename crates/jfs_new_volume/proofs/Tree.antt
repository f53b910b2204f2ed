-- The tree of a new volume.
use Rattle.std.proofs.Common.{◌≡◌, ◌≤◌, ◌<◌, refl, sym, ap, ◌∙◌, subst, ℕ, zero, suc, ◌==◌, Bool, true, false, nat_lt, if◌then◌else◌, List, Option, Some, None, inl, inr, arith}
use Rattle.std.proofs.lemmas.Bool.{cases_lt}
use Rattle.std.proofs.lemmas.Bool.Decides.{nat_tests}
use Rattle.jfs_bits.specs.Broken.{first_broken}
use Rattle.jfs_bits.specs.Field.{field_of, range_of}
use Rattle.jfs_bits.specs.Field as bytes
use Rattle.jfs_bits.specs.Piece as parts
use Rattle.jfs_disk.specs.Image.{Image, page_of}
use Rattle.jfs_inode.specs.Rules.{rows}
use Rattle.jfs_super.specs.Rules.{blocks_of}
use Rattle.jfs_meaning.specs.plain.specs.Tree.{root}
use Rattle.jfs_meaning.specs.plain.specs.Moves.{Same, new_directory}
use Rattle.jfs_meaning.specs.plain.specs.Plain.{new_tree}
use Rattle.jfs_meaning.specs.objects.specs.Readers.{Readers}
use Rattle.jfs_meaning.specs.objects.specs.Volume.{Volume, room}
use Rattle.jfs_meaning.specs.objects.specs.Objects.{Object, objects}
use Rattle.jfs_meaning.specs.objects.specs.Owners.{IsSound}
use Rattle.jfs_meaning.specs.objects.specs.Image.{volume_on}
use Rattle.jfs_meaning.specs.objects.proofs.Owned.{outside}
use Rattle.jfs_format.specs.Layout.{IsLayout}
use Rattle.jfs_format.specs.Root.{empty_root}
use Rattle.jfs_format.specs.Superblock.{new_super}
use Rattle.jfs_format.specs.Volume.{IsNewVolume}
use Rattle.jfs_format.specs.declared.volume.NewVolume.{NewVolume}
use Rattle.jfs_format.proofs.Accepted.{inodes-accepted}
use Rattle.jfs_meaning.specs.Contents.{byte_in}
use Rattle.jfs_meaning.specs.Node.{node_in}
use Rattle.jfs_meaning.specs.Readers.{readers}
use Rattle.jfs_meaning.specs.Tree.{tree_on}
use Rattle.jfs_meaning.specs.Consistent.{IsConsistent}
use Rattle.jfs_meaning.proofs.New.{new_tree_consistent}
use Rattle.jfs_new_volume.specs.Roots.{ReadsRoots}
use Rattle.jfs_new_volume.specs.Law.{new_on, new_object, NewTreeLaw}
use Rattle.jfs_new_volume.proofs.Agreed.{new_volume}
use Rattle.jfs_new_volume.proofs.RealRoots.{reads_roots}

-- the root directory names itself
parent_is : field_of (range_of empty_root 96 288) 20 4 ≡ root
unfolding field_of range_of empty_root parts.puts bytes.put_bytes
parent_is = refl

module _ (r : Readers) (v : NewVolume) (page : ℕ → List ℕ) where
  node_is : (n : ℕ) → n < 4 → node_in r page (Some (new_object v n)) ≡ (new_tree v.moment).nodes n
  node_is zero l = refl
  node_is (suc zero) l = refl
  node_is (suc (suc zero)) l = ap (λ (parent : ℕ). Some (new_directory 493 parent v.moment)) parent_is
  node_is (suc (suc (suc zero))) l = refl
  node_is (suc (suc (suc (suc n)))) l = absurd (omega (arith, l))

  nothing : (x i : ℕ) → (if nat_lt i 0 then x else 0) ≡ 0
  nothing x i = ap (λ (b : Bool). if b then x else 0) (never i)
    where
      never : (i : ℕ) → nat_lt i 0 ≡ false
      never i = grind (arith, nat_tests)

  byte_is : (n i : ℕ) → n < 4 → byte_in r page (Some (new_object v n)) i ≡ 0
  byte_is zero i l = nothing _ i
  byte_is (suc zero) i l = nothing _ i
  byte_is (suc (suc zero)) i l = refl
  byte_is (suc (suc (suc zero))) i l = nothing _ i
  byte_is (suc (suc (suc (suc n)))) i l = absurd (omega (arith, l))

module _ (r : Readers) (pages : ℕ) (v : NewVolume) (image : Image) (layout : IsLayout pages v.layout) (roots : ReadsRoots r v.layout.blocks) (is : IsNewVolume v image) where
  sound : IsSound r (new_on r v image)
  sound = (new_volume r pages v image layout roots is).0

  objects_are : (n : ℕ) → objects r (new_on r v image) n ≡ (if nat_lt n 4 then Some (new_object v n) else None)
  objects_are = (new_volume r pages v image layout roots is).1

  early : (n : ℕ) → n < 4 → objects r (new_on r v image) n ≡ Some (new_object v n)
  early n l = objects_are n ∙ ap (λ (x : Bool). if x then Some (new_object v n) else None) (is_less n l)
    where
      is_less : (n : ℕ) → n < 4 → nat_lt n 4 ≡ true
      is_less n l = grind (arith, nat_tests)

  past : (n : ℕ) → 4 ≤ n → nat_lt n 4 ≡ false
  past n l = grind (arith, nat_tests)

  late : (n : ℕ) → 4 ≤ n → objects r (new_on r v image) n ≡ None
  late n l = objects_are n ∙ ap (λ (x : Bool). if x then Some (new_object v n) else None) (past n l)

  none_new : (n : ℕ) → 4 ≤ n → (new_tree v.moment).nodes n ≡ None
  none_new n l = rw (other n l, past n l) refl
    where
      other : (n : ℕ) → 4 ≤ n → (n == 2) ≡ false
      other n l = grind (arith, nat_tests)

  pub same : Same (new_tree v.moment) (tree_on r (new_on r v image))
  same = record {
    nodes = λ n. elim (cases_lt n 4) [
      | inl l ↦ ap (node_in r (page_of image)) (early n l) ∙ node_is r v (page_of image) n l
      | inr l ↦ ap (node_in r (page_of image)) (late n l) ∙ sym (none_new n l)
    ];
    bytes = λ n i. elim (cases_lt n 4) [
      | inl l ↦ ap (λ (o : Option Object). byte_in r (page_of image) o i) (early n l) ∙ byte_is r v (page_of image) n i l
      | inr l ↦ ap (λ (o : Option Object). byte_in r (page_of image) o i) (late n l)
    ];
  }

  inodes : (n : ℕ) (o : Object) → objects r (new_on r v image) n ≡ Some o → first_broken (rows o.inode n) ≡ None
  inodes n o h = elim (cases_lt n 4) [
    | inl l ↦ subst (λ (o : Object). first_broken (rows o.inode n) ≡ None) (some_is (sym (early n l) ∙ h)) (inodes-accepted v n l)
    | inr l ↦ absurd (cc (late n l, h))
  ]
    where
      some_is : {x y : Object} → Some x ≡ Some y → x ≡ y
      some_is h = cc (h)

  enough : 4 ≤ room (new_on r v image)
  enough = elim (cases_lt 3 (room (new_on r v image))) [
    | inl l ↦ omega (arith, l)
    | inr l ↦ absurd (cc (outside r (new_on r v image) 3 l, early 3 (omega arith)))
  ]

  pub consistent : IsConsistent r (new_on r v image)
  consistent = record { sound = sound; inodes = inodes; tree = new_tree_consistent (room (new_on r v image)) v.moment (tree_on r (new_on r v image)) enough same }

pub blocks_are : (v : NewVolume) → blocks_of (new_super v) ≡ v.layout.blocks
unfolding new_super
blocks_are v = omega arith

pub new_volume_tree : NewTreeLaw
new_volume_tree pages v image layout is =
    let roots = reads_roots v.layout.blocks layout.most in
    let of : ℕ → Volume = λ b. volume_on (readers b) b (new_super v).ait2 (new_super v).aim2 (page_of image) in
    let b = v.layout.blocks in (
      subst (λ (n : ℕ). IsConsistent (readers n) (of n)) (sym (blocks_are v)) (consistent (readers b) pages v image layout roots is),
      subst (λ (n : ℕ). Same (new_tree v.moment) (tree_on (readers n) (of n))) (sym (blocks_are v)) (same (readers b) pages v image layout roots is),
    )
