-- What stands in the inode of a new object behind its fields.
use Rattle.std.proofs.Common.{◌≡◌, ◌≤◌, sym, ap, ◌∙◌, subst, ℕ, List, [], length, arith}
use Rattle.jfs_bits.specs.Field.{put_bytes, range_of}
use Rattle.jfs_bits.proofs.Parts.{part-held}
use Rattle.jfs_tree.specs.Walk.{Leaf}
use Rattle.jfs_xtpage.specs.declared.head.XtForm.TheVariants as extents
use Rattle.jfs_xtree.specs.Node.{xt_node}
use Rattle.jfs_dtree.specs.Parent.{parent_of}
use Rattle.jfs_dtree.specs.Spells.{root_node}
use Rattle.jfs_create.specs.New.{IsFileRest, IsDirectoryRest}

module _ (root rest before : List ℕ) (width : length root ≡ 288) (size : length before ≡ 384) (is : rest ≡ put_bytes 96 root before) where
  root_is : range_of rest 96 288 ≡ root
  root_is = ap (λ (bytes : List ℕ). range_of bytes 96 288) is ∙ part-held 96 288 root before width (omega (arith, size))

  pub file_rest : ((blocks : ℕ) → xt_node extents.Root blocks root ≡ Leaf []) → IsFileRest rest
  file_rest leaf blocks = subst (λ (bytes : List ℕ). xt_node extents.Root blocks bytes ≡ Leaf []) (sym root_is) (leaf blocks)

  pub directory_rest : (parent : ℕ) → ((blocks : ℕ) → root_node blocks root ≡ Leaf []) → parent_of root ≡ parent → IsDirectoryRest parent rest
  directory_rest parent leaf names = ((λ blocks. subst (λ (bytes : List ℕ). root_node blocks bytes ≡ Leaf []) (sym root_is) (leaf blocks)), ap parent_of root_is ∙ names)

pub target_at : (target rest before : List ℕ) → length target ≤ 255 → length before ≡ 384 → rest ≡ put_bytes 128 target before → range_of rest 128 (length target) ≡ target
target_at target rest before few size is = ap (λ (bytes : List ℕ). range_of bytes 128 (length target)) is ∙ part-held 128 (length target) target before (λ i. length target) (omega (arith, size, few))
