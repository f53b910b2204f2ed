-- Where maps agree, changes of one object leave the pages of the fixed areas.
use Rattle.std.proofs.Common.{◌≡◌, ◌<◌, ◌≤◌, sym, ap, ◌∙◌, subst, inl, inr, ℕ, false, List, Option, Some, None, arith}
use Rattle.jfs_inode.specs.declared.fields.Dinode.{Dinode}
use Rattle.jfs_way.specs.page_tree.specs.Edit.{count_in}
use Rattle.jfs_way.specs.objects.specs.Readers.{Readers}
use Rattle.jfs_way.specs.objects.specs.Volume.{Volume}
use Rattle.jfs_way.specs.objects.specs.Objects.{Object, objects}
use Rattle.jfs_way.specs.objects.specs.Owners.{Agrees, bit, holds, is_data, extent_has, extents_have}
use Rattle.jfs_way.specs.objects.specs.Changes.{PutsInode, SetsObject, AddsExtent, WritesData}
use Rattle.jfs_way.specs.objects.proofs.Homes.{home_counts}
use Rattle.jfs_way.specs.objects.proofs.Owned.{is_bit, fixed_is_no_objects}
use Rattle.jfs_way.specs.objects.proofs.Sums.{zero_or_more}
use Rattle.jfs_steps.specs.Call.{LeavesAreas}

-- one change after another
pub then_leaves : (v w x : Volume) → w.area ≡ v.area → LeavesAreas v w → LeavesAreas w x → LeavesAreas v x
then_leaves v w x same one two b h = two b (subst (λ (area : ℕ → ℕ). 0 < area b) (sym same) h) ∙ one b h

module _ (r : Readers) (v : Volume) (a : Agrees r v) where
  -- a block of an area is in use
  not_free : (b : ℕ) → 0 < v.area b → v.used b ≡ false → ⊥
  not_free b h free = let u = ap bit free in let o = a.blocks b in omega (arith, u, o, h)

  none_of : (b count : ℕ) → 0 < v.area b → (0 < count → v.used b ≡ false) → count ≡ 0
  none_of b count h fresh = elim (zero_or_more count) [ inl z ↦ z | inr k ↦ absurd (not_free b h (fresh k)) ]

  -- it isn't the page of an inode
  pub puts_leave : (old new : ℕ → List ℕ) (n : ℕ) (d : Dinode) → PutsInode old new v.extents n d → (b : ℕ) → 0 < v.area b → new b ≡ old b
  puts_leave old new n d puts b h = puts.others b (λ same. (
      let c = subst (λ (page : ℕ). 1 ≤ extents_have v.extents page) (sym same) (home_counts v.extents n puts.page puts.at) in
      let o = a.blocks b in let u = is_bit (v.used b) in omega (arith, c, o, u, h)))

  -- no object has it, and it isn't taken
  pub set_leaves : (w : Volume) (n : ℕ) (after : Dinode) (mid : ℕ → List ℕ) (taken freed : List ℕ) → SetsObject r v w n after mid taken freed → LeavesAreas v w
  set_leaves w n after mid taken freed s b h =
      puts_leave mid w.page n after s.puts b h ∙ s.keeps b (fixed_is_no_objects r v a n b (omega (arith, h))) (none_of b (count_in b taken) h (s.takes.fresh b))

  pub extent_leaves : (w : Volume) (place first : ℕ) → AddsExtent v w place first → LeavesAreas v w
  extent_leaves w place first s b h = s.keeps b (none_of b (extent_has (Some first) b) h (s.fresh b))

  data_is_held : (o : Option Object) (b : ℕ) → is_data r o b ≤ holds r o b
  unfolding is_data holds
  data_is_held None b = omega arith
  data_is_held (Some o) b = omega arith

  pub data_leaves : (w : Volume) (n : ℕ) → WritesData r v w n → LeavesAreas v w
  data_leaves w n s b h = s.keeps b (omega (arith, h)) (
      let d = data_is_held (objects r v n) b in let z = fixed_is_no_objects r v a n b (omega (arith, h)) in omega (arith, d, z))
