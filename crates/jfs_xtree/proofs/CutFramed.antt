-- What pages have beside kind, count, links and entries, where a cut changes them.
use Rattle.std.proofs.Common.{◌≡◌, sym, ap, ◌∙◌, subst, ℕ, Bool, List, [], take, drop, Result, Ok, Err, OnOk}
use Rattle.jfs_disk.specs.Image.{Image, page_of}
use Rattle.jfs_tree.specs.Draft.{shown}
use Rattle.jfs_tree.specs.Frames.{KeepsFrames}
use Rattle.jfs_tree.specs.Removal.{Settles}
use Rattle.jfs_tree.specs.declared.draft.Drafted.{Drafted}
use Rattle.jfs_tree.specs.declared.form.TreeError.{TreeError}
use Rattle.jfs_tree.proofs.Framing.{settled_framed}
use Rattle.jfs_xtpage.specs.declared.head.XtForm.TheVariants.{Full}
use Rattle.jfs_xtree.specs.Node.{frame_of, KeepsFrame}

-- a page that keeps its links too
same_frame : (old new : List ℕ) → KeepsFrame old new → frame_of Full new ≡ frame_of Full old
same_frame old new same = ap (λ (ns : List ℕ). take 3 (drop 2 ns)) same

-- no page was changed
pub none_framed : {T : Type 0} (image : Image) (drafts : List Drafted) (r : Result T TreeError) → drafts ≡ [] → OnOk r (KeepsFrames (frame_of Full) image [] drafts)
none_framed image drafts (Err e) none = tt
none_framed image drafts (Ok t) none = λ n. ap (λ (ds : List Drafted). frame_of Full (shown ds image n)) none

-- the page on the way was cut and linked, and stays or goes
pub settled_way : (image later : Image) (kept : Bool) (page : ℕ) (bytes cut put : List ℕ) (mid new : List Drafted) (free freed : List ℕ) → later ≡ image → bytes ≡ page_of image page → KeepsFrames (frame_of Full) later [] mid
    → Settles kept page put mid new free freed → KeepsFrame bytes cut → frame_of Full put ≡ frame_of Full cut → KeepsFrames (frame_of Full) image [] new
settled_way image later kept page bytes cut put mid new free freed same read below settles keeps linked n =
    let lower = subst (λ (i : Image). KeepsFrames (frame_of Full) i [] mid) same below in
    settled_framed (frame_of Full) kept page bytes put mid new free freed settles (linked ∙ same_frame bytes cut keeps) image (ap (frame_of Full) read ∙ sym (lower page)) n ∙ lower n
