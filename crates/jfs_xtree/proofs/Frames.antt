-- What stays of a page and of a root while extents come and go.
use Rattle.std.proofs.Common.{◌≡◌, sym, ap, ◌∙◌, subst, ℕ, List, [], ◌∷◌, Bool}
use Rattle.jfs_bits.specs.declared.descriptor.Pxd.{Pxd}
use Rattle.jfs_xtpage.specs.declared.head.XtForm.{XtForm}
use Rattle.jfs_xtpage.specs.declared.head.XtForm.TheVariants.{Root, Full, Small}
use Rattle.jfs_xtpage.specs.declared.head.XtHead.{XtHead}
use Rattle.jfs_xtpage.specs.Page.{behind_slots, head_of, new_head, slots_of}
use Rattle.jfs_xtree.specs.Node.{frame_of, new_frame, page_frame, root_frame, KeepsFrame, IsRoot}

-- the kind and the count of entries are another's
pub frame_kept : (form : XtForm) (old new : List ℕ) (flag next : ℕ) → head_of new ≡ record (head_of old) { flag = flag; nextindex = next } → behind_slots new ≡ behind_slots old → frame_of form new ≡ frame_of form old
frame_kept Root old new flag next head tail = ap (λ (h : XtHead). root_frame h (behind_slots new)) head ∙ ap (root_frame (head_of old)) tail
frame_kept Full old new flag next head tail = ap page_frame head
frame_kept Small old new flag next head tail = ap (λ (h : XtHead). root_frame h (behind_slots new)) head ∙ ap (root_frame (head_of old)) tail

pub frame_same : (form : XtForm) (old new : List ℕ) → head_of new ≡ head_of old → behind_slots new ≡ behind_slots old → frame_of form new ≡ frame_of form old
frame_same Root old new head tail = ap (λ (h : XtHead). root_frame h (behind_slots new)) head ∙ ap (root_frame (head_of old)) tail
frame_same Full old new head tail = ap page_frame head
frame_same Small old new head tail = ap (λ (h : XtHead). root_frame h (behind_slots new)) head ∙ ap (root_frame (head_of old)) tail

-- a page's neighbours are others
pub frame_linked : (form : XtForm) (old new : List ℕ) (next prev : ℕ) → form ≡ Full → head_of new ≡ record (head_of old) { next = next; prev = prev } → frame_of form new ≡ frame_of form old
frame_linked form old new next prev is head = subst (λ f. frame_of f new ≡ frame_of f old) (sym is) (ap page_frame head)

-- a page below a root
pub page_kept : (form : XtForm) (old new : List ℕ) → (IsRoot form → ⊥) → (head_of new).maxentry ≡ (head_of old).maxentry → (head_of new).at ≡ (head_of old).at → frame_of form new ≡ frame_of form old
page_kept Root old new below max at = absurd (below tt)
page_kept Full old new below max at = ap (λ m. m ∷ (head_of new).at.len ∷ (head_of new).at.addr ∷ []) max ∙ ap (λ (p : Pxd). (head_of old).maxentry ∷ p.len ∷ p.addr ∷ []) at
page_kept Small old new below max at = absurd (below tt)

pub page_new : (form : XtForm) (new : List ℕ) (q : ℕ) → (IsRoot form → ⊥) → (head_of new).maxentry ≡ slots_of form → (head_of new).at ≡ record { len = 1; addr = q } → frame_of form new ≡ new_frame q
page_new Root new q below max at = absurd (below tt)
page_new Full new q below max at = ap (λ m. m ∷ (head_of new).at.len ∷ (head_of new).at.addr ∷ []) max ∙ ap (λ (p : Pxd). 256 ∷ p.len ∷ p.addr ∷ []) at
page_new Small new q below max at = absurd (below tt)

-- a root's content on a new page
pub moved_new : (form : XtForm) (made new : List ℕ) (leaf : Bool) (q next : ℕ) (at : Pxd) → form ≡ Full → at ≡ record { len = 1; addr = q } → head_of made ≡ new_head form leaf at → head_of new ≡ record (head_of made) { nextindex = next } → frame_of form new ≡ new_frame q
moved_new form made new leaf q next at is place first head =
    subst (λ f. frame_of f new ≡ new_frame q) (sym is)
    (ap page_frame head ∙ ap page_frame (first ∙ ap (λ f. new_head f leaf at) is) ∙ ap (λ (p : Pxd). 256 ∷ p.len ∷ p.addr ∷ []) place)

-- a root, whose kind its form tells
pub root_kept : (form : XtForm) (old new : List ℕ) → IsRoot form → frame_of form new ≡ frame_of form old → KeepsFrame old new
root_kept Root old new top h = h
root_kept Full old new top h = absurd top
root_kept Small old new top h = h
