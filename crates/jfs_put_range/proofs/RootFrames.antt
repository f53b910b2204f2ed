-- Frames of pages, from the call at the root to the whole call.
use Rattle.std.proofs.Common.{◌≡◌, ◌≤◌, refl, sym, ap, ◌∙◌, subst, ℕ, ◌+◌, Bool, true, false, List, [], length, Ok, Err, Result, OnOk, arith}
use Rattle.std.specs.Prelude.{reverse}
use Rattle.jfs_bits.specs.declared.extent.Xad.{Xad}
use Rattle.jfs_disk.specs.Image.{Image, page_of}
use Rattle.jfs_ranges.specs.declared.edit.Edit.{Edit}
use Rattle.jfs_tree.specs.Form.{AllBelow, IsFront}
use Rattle.jfs_tree.specs.Call.{StaysTaken}
use Rattle.jfs_tree.specs.Draft.{shown}
use Rattle.jfs_tree.specs.Edit.{count_in}
use Rattle.jfs_tree.specs.Linking.{LinksTree}
use Rattle.jfs_tree.specs.Root.{IsSpare}
use Rattle.jfs_tree.specs.Tell.{TellsDraft}
use Rattle.jfs_tree.specs.declared.draft.Drafted.{Drafted}
use Rattle.jfs_tree.specs.declared.form.TreeError.{TreeError}
use Rattle.jfs_tree.proofs.Runs.{count_reverse}
use Rattle.jfs_xtpage.specs.declared.head.XtForm.{XtForm}
use Rattle.jfs_xtpage.specs.declared.head.XtForm.TheVariants.{Full}
use Rattle.jfs_xtree.specs.Node.{xt_scale, xt_node, frame_of, IsRoot}
use Rattle.jfs_xtree.specs.Spells.{root_form}
use Rattle.jfs_xtree.specs.WriteParts.{drafted}
use Rattle.jfs_refill.specs.Rooted.{RootStored}
use Rattle.jfs_put_range.specs.Call.{IsShortRange, NamesPages}
use Rattle.jfs_put_range.specs.Parts.{OthersFramed, Pushed}
use Rattle.jfs_put_range.specs.Tops.{IsOpenedRoot, FramesRange}
use Rattle.jfs_put_range.proofs.Framed.{framed_then, root_framed}
use Rattle.jfs_put_range.proofs.RootRanges.{wrote_as, spare_reversed}
use Rattle.jfs_put_range.proofs.Settling.{fewer_left}
use Rattle.jfs_put_range.proofs.Standing.{inner_framed}

-- ---- at the root

pub leaf_frames : (form : XtForm) (blocks : ℕ) (image : Image) (levels : ℕ) (list : List Xad) (root after : List ℕ) (old new : List Drafted) (free left : List ℕ) (r : Result (Unit {0}) TreeError)
    → RootStored levels list root after old new free left r → OnOk r (StaysTaken old new free left) → OnOk r (FramesRange form blocks image root old new free left)
leaf_frames form blocks image levels list root after old new free left (Err e) stored stays = tt
leaf_frames form blocks image levels list root after old new free left (Ok it) stored stays = λ es spelled spare. root_framed levels list root after old new image free left (Ok it) stored stays

module _ (form : XtForm) (blocks : ℕ) (image : Image) (xs entries : List Xad) (root after : List ℕ) (is_root : IsRoot form) (range : IsShortRange blocks xs) (small : blocks ≤ 4294967295) where
  pub pushed_frames : (last : Bool) (tells : Type 0) (n : ℕ) (ys : List Xad) (l r : Bool) (start all listed : List Xad) (old mid new : List Drafted) (levels : ℕ) (free between left : List ℕ) (result : Result (Unit {0}) TreeError)
      → blocks ≡ n → ys ≡ xs → l ≡ true → r ≡ true → last ≡ true → tells → IsOpenedRoot form blocks root entries false → AllBelow blocks free → IsFront between free → IsFront left between
      → Pushed tells last n ys l r true (shown old image) (shown mid image) levels entries start all free between → RootStored (levels + 1) listed root after mid new between left result → OnOk result (StaysTaken mid new between left)
      → OnOk result (FramesRange form blocks image root old new free left)
  pushed_frames last tells n ys l r start all listed old mid new levels free between left (Err e) eb ex el er ed t opened below front front_left p stored stays = tt
  pushed_frames last tells n ys l r start all listed old mid new levels free between left (Ok it) eb ex el er ed t opened below front front_left p stored stays = λ es spelled spare.
      framed_then (shown old image) (shown mid image) (shown new image) free between left (λ m. (let f = fewer_left m free between front in omega (arith, f))) (λ m. (let f = fewer_left m between left front_left in omega (arith, f)))
      (inner_framed blocks image xs entries p.made es old mid (xt_node form blocks root) levels free between range opened.node (opened.some refl) opened.order below (omega (arith, small))
      (wrote_as form blocks image xs entries root after is_root range small last tells n ys l r start all old mid levels free between eb ex el er ed t p) spelled spare)
      (root_framed (levels + 1) listed root after mid new image between left (Ok it) stored stays)

-- ---- and then links that are set

pub frames_linked : (form : XtForm) (blocks : ℕ) (image later : Image) (root after : List ℕ) (old mid new : List Drafted) (free left : List ℕ) → later ≡ image → LinksTree (xt_node Full blocks) (frame_of Full) later mid new (xt_node form blocks after)
    → FramesRange form blocks image root old mid free left → FramesRange form blocks image root old new free left
frames_linked form blocks image later root after old mid new free left same links frames es spelled spare =
    let f = frames es spelled spare in
    let kept = λ (n : ℕ). subst (λ (i : Image). frame_of Full (shown new i n) ≡ frame_of Full (shown mid i n)) same (links.frames n) in
    record { taken = λ n lt. kept n ∙ f.taken n lt; others = λ n e. kept n ∙ f.others n e }

pub others_linked : (form : XtForm) (blocks : ℕ) (image later : Image) (after : List ℕ) (old mid new : List Drafted) (free left : List ℕ) → later ≡ image → LinksTree (xt_node Full blocks) (frame_of Full) later mid new (xt_node form blocks after)
    → OthersFramed (shown old image) (shown mid image) free left → OthersFramed (shown old image) (shown new image) free left
others_linked form blocks image later after old mid new free left same links others n e =
    subst (λ (i : Image). frame_of Full (shown new i n) ≡ frame_of Full (shown mid i n)) same (links.frames n) ∙ others n e

-- ---- the whole call

pub names_pages : (b blocks : ℕ) (form : XtForm) (image : Image) (root : List ℕ) (ds drafts : List Drafted) (free stack left rest : List ℕ) (tx later : List Edit) → b ≡ blocks → form ≡ root_form (length root) → ds ≡ [] → stack ≡ reverse free → left ≡ reverse rest
    → FramesRange form b image root ds drafts stack rest → OthersFramed (shown ds image) (shown drafts image) stack rest → TellsDraft blocks image drafts tx later → NamesPages blocks (page_of image) root free left tx later
names_pages b blocks form image root ds drafts free stack left rest tx later eb ef fresh is_stack is_left frames others told base leads =
    let f = root_form (length root) in
    let there = subst (λ (d : List Drafted). FramesRange f blocks image root d drafts stack rest) fresh
    (subst (λ (g : XtForm). FramesRange g blocks image root ds drafts stack rest) ef (subst (λ (n : ℕ). FramesRange form n image root ds drafts stack rest) eb frames)) in
    let clear = λ (spare : IsSpare xt_scale (drafted blocks [] image) (xt_node f blocks root) free).
    subst (λ g. IsSpare xt_scale (drafted blocks [] image) (xt_node f blocks root) g) (sym is_stack) (spare_reversed (drafted blocks [] image) (xt_node f blocks root) free spare) in
    let counts = λ (n : ℕ). ap (count_in n) is_stack ∙ count_reverse n free in
    let lefts = λ (n : ℕ). ap (count_in n) is_left ∙ count_reverse n rest in
    let stay = subst (λ (d : List Drafted). OthersFramed (shown d image) (shown drafts image) stack rest) fresh others in
    record {
      taken = λ es spelled spare n h lt.
          ap (frame_of Full) (told n h (base n) (leads n h).0 (leads n h).1) ∙ (there es spelled (clear spare)).taken n (let c = counts n in let l = lefts n in omega (arith, c, l, lt));
      others = λ n h e. ap (frame_of Full) (told n h (base n) (leads n h).0 (leads n h).1) ∙ stay n (counts n ∙ e ∙ lefts n);
    }
