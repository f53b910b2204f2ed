-- The readers of a volume read the roots of a new one.
use Rattle.std.proofs.Common.{◌≡◌, ◌≤◌, ◌⊎◌, inl, inr, refl, ap, ◌∙◌, ℕ, ◌+◌, ◌^◌, ◌==◌, ◌||◌, ◌&&◌, Bool, true, nat_le, List, [], ◌∷◌, arith}
use Rattle.std.proofs.lemmas.Bool.{le-leb}
use Rattle.jfs_bits.specs.declared.extent.Xad.{Xad}
use Rattle.jfs_bits.specs.Descriptor.{FitsPxd}
use Rattle.jfs_bits.specs.Field as bytes
use Rattle.jfs_bits.specs.Field.{field_of, range_of}
use Rattle.jfs_bits.specs.Piece as parts
use Rattle.jfs_meaning.specs.page_tree.specs.Walk.{Leaf}
use Rattle.jfs_xtpage.specs.Page.{head_of, rises_from}
use Rattle.jfs_xtpage.specs.declared.head.XtForm.TheVariants as extents
use Rattle.jfs_meaning.specs.xtree.specs.Node.{xt_node, all_within, fits_max, fits_count}
use Rattle.jfs_meaning.specs.xtree.specs.Laws.{order}
use Rattle.jfs_dtpage.specs.declared.head.DtForm.TheVariants as names
use Rattle.jfs_dtpage.specs.Page.{table_of}
use Rattle.jfs_dtpage.specs.Slots.{slots_at, follow, behind}
use Rattle.jfs_meaning.specs.dtree.specs.Node.{dt_node}
use Rattle.jfs_meaning.specs.Readers.{readers}
use Rattle.jfs_format.specs.Root.{no_extents, one_extent, whole_file, empty_root}
use Rattle.jfs_format.specs.Laws.{root_in, IsLeafRoot}
use Rattle.jfs_format.proofs.Roots.{roots-read}
use Rattle.jfs_new_volume.specs.Roots.{ReadsRoots}

max_fits : (most : ℕ) → (most ≡ 10) ⊎ (most ≡ 18) → (most == 10 || most == 18) ≡ true
max_fits most (inl e) = rw e refl
max_fits most (inr e) = rw e refl

both : (a b : Bool) → a ≡ true → b ≡ true → (a && b) ≡ true
both a b e f = rw (e, f) refl

-- a leaf that breaks no rule
leaf_reads : (blocks : ℕ) (es : List Xad) (rest : List ℕ) → IsLeafRoot es rest → rises_from 0 es ≡ true → all_within blocks es ≡ true → xt_node extents.Root blocks (root_in rest) ≡ Leaf es
unfolding xt_node
leaf_reads blocks es rest is rises within =
    let max : fits_max extents.Root (field_of (root_in rest) 20 2) ≡ true = max_fits (field_of (root_in rest) 20 2) is.page.1.0 in
    let count : fits_count (head_of (root_in rest)) ≡ true = both (nat_le 2 (field_of (root_in rest) 18 2)) (nat_le (field_of (root_in rest) 18 2) (field_of (root_in rest) 20 2))
    (le-leb 2 (field_of (root_in rest) 18 2) is.page.1.1.0.0) (le-leb (field_of (root_in rest) 18 2) (field_of (root_in rest) 20 2) is.page.1.1.0.1) in
    rw (is.leaf, max, count, is.entries, rises, within) refl

no_names : (blocks : ℕ) → dt_node names.Root blocks (range_of empty_root 96 288) ≡ Leaf []
unfolding dt_node range_of field_of empty_root table_of slots_at follow behind parts.puts bytes.put_bytes
no_names blocks = refl

pub reads_roots : (blocks : ℕ) → blocks ≤ 2 ^ 23 → ReadsRoots (readers blocks) blocks
reads_roots blocks most = record {
  order = order;
  directory = λ d h. ap (λ (rest : List ℕ). dt_node names.Root blocks (range_of rest 96 288)) h ∙ no_names blocks;
  empty = λ d h. ap (λ (rest : List ℕ). xt_node extents.Root blocks (range_of rest 96 288)) h ∙ leaf_reads blocks [] no_extents roots-read.none refl refl;
  one = λ d run some within h.
      (let fits : FitsPxd run = record { len = omega (arith, within, most); addr = omega (arith, within, most) } in
      let inside = both (nat_le 1 run.len && nat_le (run.addr + run.len) blocks) true (both (nat_le 1 run.len) (nat_le (run.addr + run.len) blocks) (le-leb 1 run.len some) (le-leb (run.addr + run.len) blocks within)) refl in
      ap (λ (rest : List ℕ). xt_node extents.Root blocks (range_of rest 96 288)) h ∙ leaf_reads blocks (whole_file run ∷ []) (one_extent run) (roots-read.one run fits) refl inside);
}
