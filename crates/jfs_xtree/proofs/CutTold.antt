-- What a cut tells: the changed pages, and what is freed.
use Rattle.std.proofs.Common.{◌≡◌, ◌<◌, refl, sym, ap, ◌∙◌, ℕ, ◌+◌, List, [], ◌∷◌, ◌++◌, length, take, get_or, append_assoc}
use Rattle.std.proofs.lemmas.Grind.{take_at_read}
use Rattle.jfs_bits.specs.declared.descriptor.Pxd.{Pxd}
use Rattle.jfs_bits.specs.declared.rule.PageKind.TheVariants.{Xtree}
use Rattle.jfs_disk.specs.Image.{Image, page_of}
use Rattle.jfs_ranges.specs.declared.edit.Edit.{Edit}
use Rattle.jfs_ranges.specs.declared.edit.Edit.TheVariants.{Free}
use Rattle.jfs_ranges.specs.Apply.{apply_edit, apply_tx}
use Rattle.jfs_tree.specs.Removes.{page_frees}
use Rattle.jfs_tree.specs.Tell.{TellsDraft, TellsExactly}
use Rattle.jfs_tree.specs.Changes.{TellsChanges}
use Rattle.jfs_tree.specs.declared.draft.Drafted.{Drafted}
use Rattle.jfs_tree.proofs.Removes.{told_freed}
use Rattle.jfs_tree.proofs.Changed.{changes}
use Rattle.jfs_tree.proofs.Drafts.{none_drafted}
use Rattle.jfs_xtree.specs.Cutting.{run_frees}

runs_last : (ps : List Pxd) (p : Pxd) → run_frees (ps ++ p ∷ []) ≡ run_frees ps ++ Free p ∷ []
runs_last [] p = refl
runs_last (q ∷ ps) p = ap (λ es. Free q ∷ es) (runs_last ps p)

pub run_more : (old tx more : List Edit) (ps : List Pxd) (i : ℕ) (d : Pxd) → tx ≡ old ++ run_frees (take i ps) → i < length ps → more ≡ tx ++ Free (get_or ps i d) ∷ [] → more ≡ old ++ run_frees (take (i + 1) ps)
run_more old tx more ps i d h l e =
    e ∙ ap (λ es. es ++ Free (get_or ps i d) ∷ []) h ∙ append_assoc old (run_frees (take i ps)) (Free (get_or ps i d) ∷ [])
    ∙ ap (λ es. old ++ es) (sym (runs_last (take i ps) (get_or ps i d))) ∙ ap (λ xs. old ++ run_frees xs) (sym (take_at_read ps i d l).1)

runs_leave : (m : ℕ) (tx : List Edit) (ps : List Pxd) (content : List ℕ) → apply_tx m (tx ++ run_frees ps) content ≡ apply_tx m tx content
runs_leave m [] [] content = refl
runs_leave m [] (p ∷ ps) content = runs_leave m [] ps content
runs_leave m (e ∷ tx) ps content = runs_leave m tx ps (apply_edit m e content)

-- a draft is still told where pages and runs are freed besides
pub told_cut : (blocks : ℕ) (image : Image) (drafts : List Drafted) (tx copy later more : List Edit) (ns : List ℕ) (ps : List Pxd) → copy ≡ tx → more ≡ later ++ (page_frees ns ++ run_frees ps) → TellsDraft blocks image drafts copy later → TellsDraft blocks image drafts tx more
told_cut blocks image drafts tx copy later more ns ps is e told = λ m h content l here.
    ap (λ es. apply_tx m es content) (e ∙ sym (append_assoc later (page_frees ns) (run_frees ps))) ∙ runs_leave m (later ++ page_frees ns) ps content
    ∙ told_freed blocks image drafts tx copy later (later ++ page_frees ns) ns is refl told m h content l here

-- the changed lines of different pages, and then what is freed
pub changes_cut : (blocks : ℕ) (image : Image) (drafts : List Drafted) (tx copy later more : List Edit) (ns : List ℕ) (ps : List Pxd) → copy ≡ tx → more ≡ later ++ (page_frees ns ++ run_frees ps) → TellsExactly blocks image [] Xtree drafts copy later
    → TellsDraft blocks image drafts copy later → TellsChanges blocks Xtree [] (page_of image) (page_frees ns ++ run_frees ps) tx more
changes_cut blocks image drafts tx copy later more ns ps is e are told = changes blocks image [] Xtree drafts tx copy later more (page_frees ns ++ run_frees ps) is e (none_drafted blocks drafts) are (told_cut blocks image drafts tx copy later more ns ps is e told)
