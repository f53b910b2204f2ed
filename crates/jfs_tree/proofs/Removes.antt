-- An entry that was taken out of the tree, seen from the transaction.
use Rattle.std.proofs.Common.{◌≡◌, ◌<◌, refl, ap, ◌∙◌, ℕ, List, [], ◌∷◌, ◌++◌, Option, Some, None, arith}
use Rattle.jfs_disk.specs.Image.{Image, page_of}
use Rattle.jfs_ranges.specs.declared.edit.Edit.{Edit}
use Rattle.jfs_ranges.specs.Apply.{apply_edit, apply_tx}
use Rattle.jfs_tree.specs.Walk.{Node, Scale}
use Rattle.jfs_tree.specs.Spells.{footprint}
use Rattle.jfs_tree.specs.Call.{nodes, pages_of}
use Rattle.jfs_tree.specs.Draft.{shown}
use Rattle.jfs_tree.specs.Tell.{TellsDraft}
use Rattle.jfs_tree.specs.Fresh.{after_tx, HasPages}
use Rattle.jfs_tree.specs.Adds.{read_as}
use Rattle.jfs_tree.specs.RootLoss.{KeepsOthers, RemovesAlways}
use Rattle.jfs_tree.specs.Removes.{RemovesTold, TellsFreed, page_frees, page_no_redos, page_marks}
use Rattle.jfs_tree.specs.declared.draft.Drafted.{Drafted}
use Rattle.jfs_tree.proofs.Footprint.{spells_frame, footprint_frame}
use Rattle.jfs_tree.proofs.Within.{footprint_within}

-- ---- pages that are free

no_redos_leave : (m : ℕ) (ns : List ℕ) (rest : List Edit) (content : List ℕ) → apply_tx m (page_no_redos ns ++ rest) content ≡ apply_tx m rest content
no_redos_leave m [] rest content = refl
no_redos_leave m (n ∷ ns) rest content = no_redos_leave m ns rest content

marks_leave : (m : ℕ) (ns content : List ℕ) → apply_tx m (page_marks ns) content ≡ content
marks_leave m [] content = refl
marks_leave m (n ∷ ns) content = marks_leave m ns content

frees_leave : (m : ℕ) (tx : List Edit) (ns content : List ℕ) → apply_tx m (tx ++ page_frees ns) content ≡ apply_tx m tx content
frees_leave m [] ns content = no_redos_leave m ns (page_marks ns) content ∙ marks_leave m ns content
frees_leave m (e ∷ tx) ns content = frees_leave m tx ns (apply_edit m e content)

-- a draft is still told where pages are freed besides
pub told_freed : (blocks : ℕ) (image : Image) (drafts : List Drafted) (tx copy later more : List Edit) (ns : List ℕ) → copy ≡ tx → more ≡ later ++ page_frees ns → TellsDraft blocks image drafts copy later → TellsDraft blocks image drafts tx more
told_freed blocks image drafts tx copy later more ns is e told = λ m h content l here. ap (λ es. apply_tx m es content) e ∙ frees_leave m later ns content ∙ told m h content l (ap (λ es. apply_tx m es content) is ∙ here)

-- ---- the entry

module _ {P E : Type 0} (s : Scale P E) (x : E) (node : List ℕ → Node P E) (blocks : ℕ) (image : Image) (root after : Node P E) (drafts : List Drafted) (freed : List ℕ) (tx later : List Edit)
    (top_has : HasPages blocks after) (has : (bytes : List ℕ) → HasPages blocks (node bytes)) where
  -- the draft's pages are those that all edits lead to
  pub removes_told : (found : Option E) → RemovesAlways s x (pages_of node image) (nodes node drafts image) root after freed found → KeepsOthers s (pages_of node image) root image drafts → TellsDraft blocks image drafts tx later → TellsFreed freed tx later
      → RemovesTold s node blocks (page_of image) x root after tx later found
  removes_told None given kept told edits = λ es spelled. ((given es spelled).0, tt)
  removes_told (Some e) given kept told edits = λ es spelled.
      let a = given es spelled in (
        a.0,
        (
          freed,
          edits,
          λ base leads.
              let drafted = nodes node drafts image in
              let now = read_as node (after_tx base later) in
              let agree = λ (n : ℕ) (h : n < blocks). ap node (told n h (base n) (leads n h).0 (leads n h).1) in
              let frame = λ (n : ℕ) (h : 0 < footprint s drafted after n). agree n (footprint_within s drafted after n blocks top_has (λ m. has (shown drafts image m)) h) in
              record {
                list = a.1.list;
                spelled = spells_frame s drafted now after frame ∙ a.1.spelled;
                gone = a.1.gone;
                owned = λ n. (let f = footprint_frame s drafted now after frame n in let p = a.1.pages n in omega (arith, f, p));
                keeps = λ n h z. told n h (base n) (leads n h).0 (leads n h).1 ∙ kept es spelled n z;
              },
        ),
      )
