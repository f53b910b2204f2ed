-- A page whose bytes change, but not its frame.
use Rattle.std.proofs.Common.{◌≡◌, inl, inr, sym, ap, ◌∙◌, subst, ℕ, List}
use Rattle.std.proofs.lemmas.Bool.{cases_eq}
use Rattle.jfs_disk.specs.Image.{Image}
use Rattle.jfs_tree.specs.Call.{PutsOne}
use Rattle.jfs_tree.specs.Draft.{shown}
use Rattle.jfs_tree.specs.Frames.{KeepsFrames}
use Rattle.jfs_tree.specs.declared.draft.Drafted.{Drafted}
use Rattle.jfs_tree.proofs.Taking.{itself, another}

pub put_framed : (frame : List ℕ → List ℕ) (image : Image) (old new : List Drafted) (page : ℕ) (bytes put : List ℕ) → PutsOne old new page put → frame bytes ≡ frame (shown old image page) → frame put ≡ frame bytes → KeepsFrames frame image old new
put_framed frame image old new page bytes put puts read same n = elim (cases_eq n page) [
  | inl e ↦ subst (λ m. frame (shown new image m) ≡ frame (shown old image m)) (sym e) (ap frame (puts image page ∙ itself page put (shown old image page)) ∙ same ∙ read)
  | inr o ↦ ap frame (puts image n ∙ another n page put (shown old image n) o)
]
