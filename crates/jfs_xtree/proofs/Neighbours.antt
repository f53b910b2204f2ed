-- Pages whose neighbours are others.
use Rattle.std.proofs.Common.{◌≡◌, ◌∙◌, ap, ℕ, List}
use Rattle.jfs_bits.specs.declared.extent.Xad.{Xad}
use Rattle.jfs_xtpage.specs.declared.head.XtForm.{XtForm}
use Rattle.jfs_xtpage.specs.declared.head.XtHead.{XtHead}
use Rattle.jfs_xtpage.specs.Page.{head_of, entries_of}
use Rattle.jfs_xtree.specs.Node.{node_of, xt_node}

-- nothing that is spelled rests on them
pub linked_node : (old new : List ℕ) (next prev : ℕ) (form : XtForm) (blocks : ℕ) → head_of new ≡ record (head_of old) { next = next; prev = prev } → entries_of new ≡ entries_of old → xt_node form blocks new ≡ xt_node form blocks old
unfolding xt_node
linked_node old new next prev form blocks head entries = ap (λ (h : XtHead). node_of form blocks h (entries_of new)) head ∙ ap (λ (xs : List Xad). node_of form blocks (head_of old) xs) entries
