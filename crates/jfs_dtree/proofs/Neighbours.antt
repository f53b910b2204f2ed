-- Pages whose neighbours are others.
use Rattle.std.proofs.Common.{◌≡◌, ◌∙◌, ◌/◌, ◌%◌, sym, ap, subst, ℕ, List, Bool}
use Rattle.std.specs.Prelude.{◌==◌}
use Rattle.jfs_dtpage.specs.declared.head.DtForm.{DtForm}
use Rattle.jfs_dtpage.specs.declared.head.DtForm.TheVariants.{Full}
use Rattle.jfs_dtpage.specs.declared.head.DtHead.{DtHead}
use Rattle.jfs_dtpage.specs.declared.head.Place.{Place}
use Rattle.jfs_dtpage.specs.Form.{head_of, is_leaf}
use Rattle.jfs_dtpage.specs.Page.{Entry, entries_of, IsDtPage}
use Rattle.jfs_dtree.specs.Node.{by_kind, dt_node}
use Rattle.jfs_dtree.proofs.Nodes.{sound_node}

same_leaf : (old new : List ℕ) (place : Place) → head_of Full new ≡ record (head_of Full old) { place = place } → is_leaf new ≡ is_leaf old
same_leaf old new place head = ap (λ (h : DtHead). is_flag h.flag) head
  where
    is_flag : ℕ → Bool
    is_flag f = f / 2 % 2 == 1

-- nothing that is spelled rests on them
pub linked_node : (form : DtForm) (old new : List ℕ) (place : Place) (blocks : ℕ) → form ≡ Full → IsDtPage form old → IsDtPage Full new → head_of Full new ≡ record (head_of Full old) { place = place } → entries_of Full new ≡ entries_of Full old → dt_node form blocks new ≡ dt_node form blocks old
linked_node form old new place blocks is sound now head entries =
    let before = subst (λ f. IsDtPage f old) is sound in
    subst (λ f. dt_node f blocks new ≡ dt_node f blocks old) (sym is)
    (sound_node Full blocks new now ∙ ap (λ (leaf : Bool). by_kind leaf blocks (entries_of Full new)) (same_leaf old new place head) ∙ ap (λ (es : List Entry). by_kind (is_leaf old) blocks es) entries ∙ sym (sound_node Full blocks old before))
