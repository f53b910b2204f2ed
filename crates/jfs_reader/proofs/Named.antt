-- What a directory's root that was read spells is what its inode's tree spells.
use Rattle.std.proofs.Common.{◌≡◌, true, refl, sym, ◌∙◌, ℕ, List, Result, Ok, Err, IfOk, IfErr}
use Rattle.jfs_bits.specs.declared.rule.Rule.{Rule}
use Rattle.jfs_disk.specs.Image.{Image, page_of}
use Rattle.jfs_inode.specs.declared.fields.Dinode.{Dinode}
use Rattle.jfs_name.specs.declared.name.NameEntry.{NameEntry}
use Rattle.jfs_meaning.specs.page_tree.specs.Spells.{spells}
use Rattle.jfs_meaning.specs.page_tree.specs.Spells as tree
use Rattle.jfs_dtpage.specs.declared.head.DtForm.TheVariants.{Root, Full}
use Rattle.jfs_meaning.specs.dtree.specs.Node.{name_scale, dt_node}
use Rattle.jfs_meaning.specs.dtree.specs.Spells.{root_node, page_nodes, spells_names, NamesFirstBroken}
use Rattle.jfs_meaning.specs.dtree.specs.declared.error.DtError.{DtError}
use Rattle.jfs_meaning.specs.dtree.specs.declared.error.DtError.TheVariants.{View, Bad, Exists, Missing, TooDeep}
use Rattle.jfs_meaning.specs.objects.specs.Objects.{has_names, names_of, listed}
use Rattle.jfs_meaning.specs.Readers.{readers, root_of}
use Rattle.jfs_reader.specs.Reading.{NamesAre}

-- what an inode's tree of names spells
abbrev in_inode : ℕ → Image → Dinode → Result (List NameEntry) (ℕ × Rule)
in_inode blocks image d = listed name_scale (tree.tree_of name_scale (λ b. dt_node Full blocks (page_of image b)) (dt_node Root blocks (root_of d)))

same_list : (blocks : ℕ) (image : Image) (root : List ℕ) (d : Dinode) → root ≡ root_of d → spells_names blocks (page_of image) root ≡ in_inode blocks image d
unfolding spells
same_list blocks image root d e = rw e refl

told : (blocks : ℕ) (image : Image) (root : List ℕ) (s : Result (List NameEntry) (ℕ × Rule)) (r : Result (List NameEntry) DtError) → spells_names blocks (page_of image) root ≡ s
    → IfOk r (λ es. spells_names blocks (page_of image) root ≡ Ok es)
    → IfErr r (NamesFirstBroken (page_nodes blocks (page_of image)) (root_node blocks root))
    → NamesAre s r
told blocks image root s (Ok es) same ok bad = sym same ∙ ok
told blocks image root s (Err (View e)) same ok bad = _
told blocks image root s (Err (Bad page rule)) same ok bad = sym same ∙ bad
told blocks image root s (Err Exists) same ok bad = bad
told blocks image root s (Err Missing) same ok bad = bad
told blocks image root s (Err TooDeep) same ok bad = bad

pub object_names : (blocks : ℕ) (image : Image) (root : List ℕ) (d : Dinode) (r : Result (List NameEntry) DtError) → has_names d ≡ true → root ≡ root_of d
    → IfOk r (λ es. spells_names blocks (page_of image) root ≡ Ok es)
    → IfErr r (NamesFirstBroken (page_nodes blocks (page_of image)) (root_node blocks root))
    → NamesAre (listed name_scale (names_of (readers blocks) (page_of image) d)) r
object_names blocks image root d r has e ok bad = rw has (told blocks image root (in_inode blocks image d) r (same_list blocks image root d e) ok bad)
