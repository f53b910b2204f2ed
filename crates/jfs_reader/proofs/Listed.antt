-- What a root that was read spells is what its inode's tree spells.
use Rattle.std.proofs.Common.{◌≡◌, true, refl, sym, ◌∙◌, ℕ, List, Result, Ok, Err, IfOk, IfErr, length}
use Rattle.jfs_bits.specs.declared.extent.Xad.{Xad}
use Rattle.jfs_bits.specs.declared.rule.Rule.{Rule}
use Rattle.jfs_disk.specs.Image.{Image, page_of}
use Rattle.jfs_inode.specs.declared.fields.Dinode.{Dinode}
use Rattle.jfs_meaning.specs.page_tree.specs.Spells.{spells}
use Rattle.jfs_meaning.specs.page_tree.specs.Spells as tree
use Rattle.jfs_meaning.specs.page_tree.specs.Walking.{NamesFirst}
use Rattle.jfs_xtpage.specs.declared.head.XtForm.TheVariants.{Root, Full}
use Rattle.jfs_meaning.specs.xtree.specs.Node.{xt_scale, xt_node}
use Rattle.jfs_meaning.specs.xtree.specs.Spells.{root_node, page_nodes, spells_extents, tree_error}
use Rattle.jfs_meaning.specs.xtree.specs.declared.error.XtError.{XtError}
use Rattle.jfs_meaning.specs.xtree.specs.declared.error.XtError.TheVariants.{View, Bad}
use Rattle.jfs_meaning.specs.objects.specs.Objects.{has_extents, extents_of, listed}
use Rattle.jfs_meaning.specs.Readers.{readers, root_of}
use Rattle.jfs_reader.specs.Reading.{ExtentsAre}

-- what an inode's extent tree spells
abbrev pub in_inode : ℕ → Image → Dinode → Result (List Xad) (ℕ × Rule)
in_inode blocks image d = listed xt_scale (tree.tree_of xt_scale (λ b. xt_node Full blocks (page_of image b)) (xt_node Root blocks (root_of d)))

same_list : (blocks now : ℕ) (image after : Image) (root : List ℕ) (d : Dinode) → now ≡ blocks → after ≡ image → root ≡ root_of d → length root ≡ 288
    → spells_extents now (page_of after) root ≡ in_inode blocks image d
unfolding spells
same_list blocks now image after root d e f g h = rw (h, e, f, g) refl

told : (now : ℕ) (after : Image) (root : List ℕ) (s : Result (List Xad) (ℕ × Rule)) (r : Result (List Xad) XtError) → spells_extents now (page_of after) root ≡ s
    → IfOk r (λ es. spells_extents now (page_of after) root ≡ Ok es)
    → IfErr r (λ e. NamesFirst xt_scale (page_nodes now (page_of after)) (root_node now root) (tree_error e))
    → ExtentsAre s r
told now after root s (Ok es) same ok bad = sym same ∙ ok
told now after root s (Err (View e)) same ok bad = _
told now after root s (Err (Bad page rule)) same ok bad = sym same ∙ bad

pub extents_are : (blocks now : ℕ) (image after : Image) (root : List ℕ) (d : Dinode) (r : Result (List Xad) XtError) → now ≡ blocks → after ≡ image → root ≡ root_of d → length root ≡ 288
    → IfOk r (λ es. spells_extents now (page_of after) root ≡ Ok es)
    → IfErr r (λ e. NamesFirst xt_scale (page_nodes now (page_of after)) (root_node now root) (tree_error e))
    → ExtentsAre (in_inode blocks image d) r
extents_are blocks now image after root d r e f g h ok bad = told now after root (in_inode blocks image d) r (same_list blocks now image after root d e f g h) ok bad

pub object_extents : (blocks : ℕ) (image : Image) (root : List ℕ) (d : Dinode) (r : Result (List Xad) XtError) → has_extents d ≡ true → root ≡ root_of d → length root ≡ 288
    → IfOk r (λ es. spells_extents blocks (page_of image) root ≡ Ok es)
    → IfErr r (λ e. NamesFirst xt_scale (page_nodes blocks (page_of image)) (root_node blocks root) (tree_error e))
    → ExtentsAre (listed xt_scale (extents_of (readers blocks) (page_of image) d)) r
object_extents blocks image root d r has g h ok bad = rw has (extents_are blocks blocks image image root d r refl refl g h ok bad)
