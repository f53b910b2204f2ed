-- The edits that free an object free all that it has, each block once, and leave all pages.
use Rattle.std.proofs.Common.{◌≡◌, ◌<◌, refl, sym, ap, ◌∙◌, subst, ℕ, ◌+◌, Bool, true, false, List, [], ◌++◌, length, Some, Ok, arith}
use Rattle.jfs_bits.specs.declared.extent.Xad.{Xad}
use Rattle.jfs_bits.specs.declared.rule.PageKind.TheVariants.{Xtree}
use Rattle.jfs_inode.specs.declared.fields.Dinode.{Dinode}
use Rattle.jfs_ranges.specs.declared.edit.Edit.{Edit}
use Rattle.jfs_ranges.specs.Apply.{apply_tx}
use Rattle.jfs_lead_steps.specs.page_tree.specs.Edit.{count_in}
use Rattle.jfs_lead_steps.specs.page_tree.specs.Fresh.{LeadsTo, after_tx, blocks_of}
use Rattle.jfs_lead_steps.specs.page_tree.specs.Removes.{page_frees}
use Rattle.jfs_lead_steps.specs.page_tree.specs.Tell.{TellsThen}
use Rattle.jfs_lead_steps.specs.page_tree.specs.Spells.{footprint}
use Rattle.jfs_lead_steps.specs.xtree.specs.Node.{xt_scale}
use Rattle.jfs_lead_steps.specs.xtree.specs.Node as xt
use Rattle.jfs_lead_steps.specs.xtree.specs.Laws as xt_laws
use Rattle.jfs_lead_steps.specs.xtree.specs.Spells.{page_nodes, root_form, spells_extents, owned_pages}
use Rattle.jfs_lead_steps.specs.xtree.specs.Cutting.{HasOnlyBelow, gone_past, run_frees}
use Rattle.jfs_lead_steps.specs.dtree.specs.Spells.{spells_names}
use Rattle.jfs_lead_steps.specs.dtree.specs.Spells as names
use Rattle.jfs_lead_steps.specs.dtree.specs.Laws as name_laws
use Rattle.jfs_lead_steps.specs.dtree.specs.Node.{name_scale}
use Rattle.jfs_lead_steps.specs.dtree.proofs.Bare.{bare_tree}
use Rattle.jfs_lead_steps.specs.objects.specs.Readers.{Readers}
use Rattle.jfs_lead_steps.specs.objects.specs.Volume.{Volume}
use Rattle.jfs_lead_steps.specs.objects.specs.Objects.{objects, spelled, has_names, has_extents}
use Rattle.jfs_lead_steps.specs.objects.specs.Owners.{holds, attributes_held, covers, dxd_has, IsSound}
use Rattle.jfs_lead_steps.specs.objects.proofs.Owned.{owned_once}
use Rattle.jfs_lead_steps.specs.meaning.specs.Readers.{readers, root_of}
use Rattle.jfs_loss.specs.Frees.{CutsIf, FreesObject, attribute_runs}
use Rattle.jfs_steps.specs.After.{frees}
use Rattle.jfs_steps.specs.Laws.{TakesAndFrees}
use Rattle.jfs_steps.proofs.Sets.{frees_onto, frees_move, moves_onto, lines_move}
use Rattle.jfs_loss.proofs.Counts.{count_append, runs_move, frees_then, changes_move, applied_append, applied_runs}
use Rattle.jfs_lead_steps.proofs.Turned.{dir_holds}
use Rattle.jfs_loss.proofs.Holds.{no_names_of, extents_listed, file_holds, other_holds, attributes_are, attributes_counted, nothing_kept, all_gone}

-- what is said of edits that free an object
pub record IsFreed (blocks : ℕ) (pages : ℕ → List ℕ) (held : ℕ → ℕ) (tx : List Edit) : Type 0 where
  pub stays : (b : ℕ) → b < blocks → apply_tx b tx (pages b) ≡ pages b
  pub freed : List ℕ
  pub moves : TakesAndFrees tx [] freed
  pub all : (b : ℕ) → count_in b freed ≡ held b

module _ (blocks : ℕ) (v : Volume) (sound : IsSound (readers blocks) v) (within : (b : ℕ) → v.used b ≡ true → b < blocks) (whole : (b : ℕ) → b < blocks → length (v.page b) ≡ 4096)
    (n : ℕ) (d : Dinode) (was : objects (readers blocks) v n ≡ Some (spelled (readers blocks) v.page d)) (size : length (root_of d) ≡ 288) where
  abbrev r : Readers
  r = readers blocks

  held_is : (b : ℕ) → holds r (objects r v n) b ≡ holds r (Some (spelled r v.page d)) b
  held_is b = ap (λ o. holds r o b) was

  -- ---- the cut

  module _ (extents : has_extents d ≡ true) (cut : List Edit) (cuts : CutsIf true blocks v.page (root_of d) cut) where
    abbrev pub es : List Xad
    es = (sound.whole n (spelled r v.page d) was).extents

    spelled_es : spells_extents blocks v.page (root_of d) ≡ Ok es
    spelled_es = sym (extents_listed blocks v.page d size extents) ∙ (sound.whole n (spelled r v.page d) was).extents_are

    abbrev after : List ℕ
    after = cuts.0.0

    told : (freed : List ℕ) × TellsThen (page_frees freed ++ run_frees (gone_past 0 es)) [] cut × ((base : ℕ → List ℕ) → LeadsTo blocks base [] v.page → HasOnlyBelow blocks 0 es v.page (after_tx base cut) (root_of d) after freed)
    told = cuts.0.1 es spelled_es

    only : HasOnlyBelow blocks 0 es v.page (after_tx v.page cut) (root_of d) after told.0
    only = told.2 v.page (λ b l. (whole b l, refl))

    bare : (b : ℕ) → footprint xt_scale (page_nodes blocks (after_tx v.page cut)) (xt.xt_node (root_form (length (root_of d))) blocks after) b ≡ 0
    bare b = bare_tree xt_scale xt_laws.order (page_nodes blocks (after_tx v.page cut)) (xt.xt_node (root_form (length (root_of d))) blocks after) (only.spelled ∙ ap (λ (xs : List Xad). Ok xs) (nothing_kept blocks es)) b

    cut_counts : (b : ℕ) → frees cut b ≡ owned_pages blocks v.page (root_of d) b + covers b es
    cut_counts b =
        let f = frees_then b [] cut (page_frees told.0 ++ run_frees (gone_past 0 es)) told.1 in let g = frees_onto (page_frees told.0) (run_frees (gone_past 0 es)) b in
        let p = (frees_move told.0).freed_are b in let q = (runs_move (gone_past 0 es)).freed_are b in
        let c = all_gone blocks b es in let o = only.owned b in let z = bare b in omega (arith, f, g, p, q, c, o, z)

    cut_moves : TakesAndFrees cut [] ([] ++ (cuts.1.0 ++ blocks_of cuts.1.1))
    cut_moves = changes_move blocks Xtree v.page (page_frees cuts.1.0 ++ run_frees cuts.1.1) [] cut [] (cuts.1.0 ++ blocks_of cuts.1.1) (λ first bytes. refl) (lines_move [] tt)
        (moves_onto (page_frees cuts.1.0) (run_frees cuts.1.1) [] cuts.1.0 [] (blocks_of cuts.1.1) (frees_move cuts.1.0) (runs_move cuts.1.1)) cuts.1.2

    pub cut_frees : IsFreed blocks v.page (λ b. owned_pages blocks v.page (root_of d) b + covers b es) cut
    cut_frees = record {
      stays = λ b l. only.keeps b l (bare b);
      freed = cuts.1.0 ++ blocks_of cuts.1.1;
      moves = cut_moves;
      all = λ b. sym (cut_moves.freed_are b) ∙ cut_counts b;
    }

  -- ---- the tree of an object, if it has one

  module _ (bare_names : has_names d ≡ true → spells_names blocks v.page (root_of d) ≡ Ok []) where
    -- what an object has beside attributes
    tree_freed : (x : Bool) → has_extents d ≡ x → (cut : List Edit) → CutsIf x blocks v.page (root_of d) cut
        → (tree : ℕ → ℕ) × ((b : ℕ) → holds r (objects r v n) b ≡ tree b + attributes_held (spelled r v.page d) b) × IsFreed blocks v.page tree cut
    tree_freed true e cut cuts = (
      (λ b. owned_pages blocks v.page (root_of d) b + covers b (es e cut cuts)),
      (λ b. held_is b ∙ file_holds blocks v.page d size (es e cut cuts) b e (no_names_of d e) (spelled_es e cut cuts)),
      cut_frees e cut cuts,
    )
    tree_freed false e cut cuts = (
      (λ b. 0),
      (λ b. held_is b ∙ by b (has_names d) refl),
      record { stays = λ b l. ap (λ (tx : List Edit). apply_tx b tx (v.page b)) cuts; freed = []; moves = subst (λ (tx : List Edit). TakesAndFrees tx [] []) (sym cuts) (lines_move [] tt); all = λ b. refl },
    )
      where
        by : (b : ℕ) (y : Bool) → has_names d ≡ y → holds r (Some (spelled r v.page d)) b ≡ 0 + attributes_held (spelled r v.page d) b
        by b true f = let h = dir_holds blocks v.page d [] b f e (bare_names f) in
            let z = bare_tree name_scale name_laws.order (names.page_nodes blocks v.page) (names.root_node blocks (root_of d)) (bare_names f) b in omega (arith, h, z)
        by b false f = let h = other_holds blocks v.page d b f e in omega (arith, h)

    pub object_freed : (tx : List Edit) → FreesObject blocks v.page d tx → IsFreed blocks v.page (holds r (objects r v n)) tx
    object_freed tx (cut, cuts, is) = record { stays = stays; freed = t.2.freed ++ blocks_of (attribute_runs blocks d); moves = moves; all = all }
      where
        t : (tree : ℕ → ℕ) × ((b : ℕ) → holds r (objects r v n) b ≡ tree b + attributes_held (spelled r v.page d) b) × IsFreed blocks v.page tree cut
        t = tree_freed (has_extents d) refl cut cuts

        stays : (b : ℕ) → b < blocks → apply_tx b tx (v.page b) ≡ v.page b
        stays b l = ap (λ (edits : List Edit). apply_tx b edits (v.page b)) is ∙ applied_append b cut (run_frees (attribute_runs blocks d)) (v.page b)
            ∙ ap (apply_tx b (run_frees (attribute_runs blocks d))) (t.2.stays b l) ∙ applied_runs b (attribute_runs blocks d) (v.page b)

        runs_within : (b : ℕ) → 0 < dxd_has d.acl b + dxd_has d.ea b → b < blocks
        runs_within b l = within b ((owned_once r v sound.agrees).in_use n b (let h = t.1 b in let a = attributes_are blocks v.page d b in omega (arith, h, a, l)))

        moves : TakesAndFrees tx [] (t.2.freed ++ blocks_of (attribute_runs blocks d))
        moves = subst (λ (edits : List Edit). TakesAndFrees edits [] (t.2.freed ++ blocks_of (attribute_runs blocks d))) (sym is)
            (moves_onto cut (run_frees (attribute_runs blocks d)) [] t.2.freed [] (blocks_of (attribute_runs blocks d)) t.2.moves (runs_move (attribute_runs blocks d)))

        all : (b : ℕ) → count_in b (t.2.freed ++ blocks_of (attribute_runs blocks d)) ≡ holds r (objects r v n) b
        all b =
            let f = count_append b t.2.freed (blocks_of (attribute_runs blocks d)) in let c = t.2.all b in let a = attributes_counted blocks d runs_within b in
            let s = attributes_are blocks v.page d b in let h = t.1 b in omega (arith, f, c, a, s, h)
