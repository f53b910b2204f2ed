-- An extent that was added to the tree, and one that was refused, by the file's root and pages.
use Rattle.std.proofs.Common.{◌≡◌, ◌<◌, ◌⊎◌, inl, inr, subst, ℕ, suc, ◌+◌, List, [], ◌∷◌, length, map, true, None, Result, Err, arith}
use Rattle.std.specs.Prelude.{nat_le}
use Rattle.jfs_bits.specs.declared.extent.Xad.{Xad}
use Rattle.jfs_disk.specs.Image.{Image, page_of}
use Rattle.jfs_ranges.specs.declared.edit.Edit.{Edit}
use Rattle.jfs_tree.specs.Walk.{Node}
use Rattle.jfs_tree.specs.Root.{RefusesWhereBad}
use Rattle.jfs_tree.specs.Apart.{ApartOnWay}
use Rattle.jfs_tree.specs.Filled.{AppendsTold, LeastTold}
use Rattle.jfs_tree.specs.Frames.{FramesTold}
use Rattle.jfs_tree.specs.Fresh.{AllPages, HasPages}
use Rattle.jfs_tree.specs.Adds.{read_as, on_page, AddsTold, RefusesWhereFull}
use Rattle.jfs_tree.specs.Room.{FullDown, FullUp, FullFrom, TakesWhereFull}
use Rattle.jfs_tree.specs.declared.form.TreeError.{TreeError}
use Rattle.jfs_tree.specs.declared.form.TreeError.TheVariants.{View, Bad, Memory}
use Rattle.jfs_xtpage.specs.declared.head.XtForm.{XtForm}
use Rattle.jfs_xtpage.specs.declared.head.XtForm.TheVariants.{Full}
use Rattle.jfs_xtpage.specs.Page.{entries_of}
use Rattle.jfs_xtree.specs.Node.{xt_scale, xt_node, frame_of, new_frame, is_within, all_within, child_of, HasNoRoom}
use Rattle.jfs_xtree.specs.Spells.{root_form, page_nodes, root_node, tree_error, broken_for}
use Rattle.jfs_xtree.specs.Errors.{handed_on}
use Rattle.jfs_xtree.specs.Adding.{AddsExtent, IsApartOnWay, NamesPages, NoRoomAtRoot, NoRoomOnWay, TakesPages, RefusesFull, ClashesFor, IsFullAndDeep, AddTellsWay}
use Rattle.jfs_xtree.specs.declared.error.XtError.{XtError}
use Rattle.jfs_tree.specs.Path.{broken_on_way}
use Rattle.jfs_tree.specs.Refusal.{ClashesOnWay, HasAllLevels, TellsRefusal}
use Rattle.std.proofs.lemmas.Bool.{leb-true}
use Rattle.jfs_xtree.proofs.Reading.{and_true, inner_is}

one_within : (blocks : ℕ) (x : Xad) → is_within blocks x ≡ true → x.at.addr < blocks
one_within blocks x w = let t = and_true (nat_le 1 x.at.len) (nat_le (x.at.addr + x.at.len) blocks) w in let a = leb-true 1 x.at.len t.0 in let b = leb-true (x.at.addr + x.at.len) blocks t.1 in omega (arith, a, b)

pages_all : (blocks : ℕ) (es : List Xad) → all_within blocks es ≡ true → AllPages blocks (map child_of es)
pages_all blocks [] w = tt
pages_all blocks (x ∷ es) w = let t = and_true (is_within blocks x) (all_within blocks es) w in (one_within blocks x t.0, pages_all blocks es t.1)

pub has_pages : (form : XtForm) (blocks : ℕ) (bytes : List ℕ) → HasPages blocks (xt_node form blocks bytes)
has_pages form blocks bytes cs e = let t = inner_is form blocks bytes cs e in subst (AllPages blocks) t.2 (pages_all blocks (entries_of bytes) t.0.range)

pub adds_as : (b blocks : ℕ) (form : XtForm) (image : Image) (x : Xad) (root after free left : List ℕ) (tx later : List Edit) → b ≡ blocks → form ≡ root_form (length root)
    → AddsTold xt_scale (xt_node Full b) blocks (page_of image) x (xt_node form b root) (xt_node form b after) free left tx later → AddsExtent blocks (page_of image) x root after free left tx later
adds_as b blocks form image x root after free left tx later eb ef told =
    subst (λ f. AddsTold xt_scale (xt_node Full blocks) blocks (page_of image) x (xt_node f blocks root) (xt_node f blocks after) free left tx later) ef
    (subst (λ n. AddsTold xt_scale (xt_node Full n) blocks (page_of image) x (xt_node form n root) (xt_node form n after) free left tx later) eb told)

pub thin_as : (least b blocks : ℕ) (form : XtForm) (image : Image) (x : Xad) (root after free : List ℕ) (tx later : List Edit) → b ≡ blocks → form ≡ root_form (length root)
    → LeastTold least xt_scale (xt_node Full b) blocks (page_of image) x (xt_node form b root) (xt_node form b after) free tx later → LeastTold least xt_scale (xt_node Full blocks) blocks (page_of image) x (root_node blocks root) (xt_node (root_form (length root)) blocks after) free tx later
thin_as least b blocks form image x root after free tx later eb ef told =
    subst (λ f. LeastTold least xt_scale (xt_node Full blocks) blocks (page_of image) x (xt_node f blocks root) (xt_node f blocks after) free tx later) ef
    (subst (λ n. LeastTold least xt_scale (xt_node Full n) blocks (page_of image) x (xt_node form n root) (xt_node form n after) free tx later) eb told)

pub appends_as : (least b blocks : ℕ) (form : XtForm) (image : Image) (x : Xad) (root after free : List ℕ) (tx later : List Edit) → b ≡ blocks → form ≡ root_form (length root)
    → AppendsTold least xt_scale (xt_node Full b) blocks (page_of image) x (xt_node form b root) (xt_node form b after) free tx later → AppendsTold least xt_scale (xt_node Full blocks) blocks (page_of image) x (root_node blocks root) (xt_node (root_form (length root)) blocks after) free tx later
appends_as least b blocks form image x root after free tx later eb ef told =
    subst (λ f. AppendsTold least xt_scale (xt_node Full blocks) blocks (page_of image) x (xt_node f blocks root) (xt_node f blocks after) free tx later) ef
    (subst (λ n. AppendsTold least xt_scale (xt_node Full n) blocks (page_of image) x (xt_node form n root) (xt_node form n after) free tx later) eb told)

pub names_as : (b blocks : ℕ) (form : XtForm) (image : Image) (x : Xad) (root free left : List ℕ) (tx later : List Edit) → b ≡ blocks → form ≡ root_form (length root)
    → FramesTold xt_scale (xt_node Full b) (frame_of Full) new_frame blocks x (page_of image) (xt_node form b root) free left tx later → NamesPages blocks (page_of image) x root free left tx later
names_as b blocks form image x root free left tx later eb ef told =
    subst (λ f. FramesTold xt_scale (xt_node Full blocks) (frame_of Full) new_frame blocks x (page_of image) (xt_node f blocks root) free left tx later) ef
    (subst (λ n. FramesTold xt_scale (xt_node Full n) (frame_of Full) new_frame blocks x (page_of image) (xt_node form n root) free left tx later) eb told)

pub apart_as : (b blocks : ℕ) (form : XtForm) (image : Image) (x : Xad) (root : List ℕ) → b ≡ blocks → form ≡ root_form (length root) → ApartOnWay xt_scale (read_as (xt_node Full b) (page_of image)) x (xt_node form b root) → IsApartOnWay blocks (page_of image) x root
apart_as b blocks form image x root eb ef apart =
    subst (λ f. ApartOnWay xt_scale (page_nodes blocks (page_of image)) x (xt_node f blocks root)) ef (subst (λ n. ApartOnWay xt_scale (read_as (xt_node Full n) (page_of image)) x (xt_node form n root)) eb apart)

-- ---- what is refused

refuses_on : (x : Xad) (pages : ℕ → Node ℕ Xad) (root : Node ℕ Xad) (free : List ℕ) (e : TreeError) → RefusesWhereBad xt_scale x pages root free e → RefusesWhereBad xt_scale x pages root free (tree_error (handed_on e))
refuses_on x pages root free (View e) h = h
refuses_on x pages root free (Bad page rule) h = h
refuses_on x pages root free Memory h = h

pub refuses_as : (b blocks : ℕ) (form rf : XtForm) (x : Xad) (image : Image) (root free : List ℕ) (e : TreeError) → b ≡ blocks → form ≡ rf → RefusesWhereBad xt_scale x (read_as (xt_node Full b) (page_of image)) (xt_node form b root) free e
    → RefusesWhereBad xt_scale x (page_nodes blocks (page_of image)) (xt_node rf blocks root) free (tree_error (handed_on e))
refuses_as b blocks form rf x image root free e eb ef h =
    refuses_on x (page_nodes blocks (page_of image)) (xt_node rf blocks root) free e
    (subst (λ f. RefusesWhereBad xt_scale x (page_nodes blocks (page_of image)) (xt_node f blocks root) free e) ef
    (subst (λ n. RefusesWhereBad xt_scale x (read_as (xt_node Full n) (page_of image)) (xt_node form n root) free e) eb h))

-- ---- where there is no room: a page is full where it lacks room for one extent

-- what a call on the tree says of a root
abbrev FullTwice : ℕ → (ℕ → List ℕ) → XtForm → Xad → List ℕ → Type 0
FullTwice blocks pages form x root = FullFrom xt_scale x (read_as (xt_node Full blocks) pages) (on_page (HasNoRoom Full) pages) (on_page (HasNoRoom Full) pages) (xt_node form blocks root)
    (HasNoRoom form root × HasNoRoom form root) (λ key. HasNoRoom form root × HasNoRoom form root)

abbrev TakesTwice : ℕ → (ℕ → List ℕ) → XtForm → Xad → List ℕ → List ℕ → List ℕ → Type 0
TakesTwice blocks pages form x root free left = TakesWhereFull xt_scale x (read_as (xt_node Full blocks) pages) (on_page (HasNoRoom Full) pages) (on_page (HasNoRoom Full) pages) (xt_node form blocks root)
    (HasNoRoom form root × HasNoRoom form root) (λ key. HasNoRoom form root × HasNoRoom form root) free left

full_once : (blocks : ℕ) (pages : ℕ → List ℕ) (x : Xad) (root : List ℕ) → FullTwice blocks pages (root_form (length root)) x root → NoRoomOnWay blocks pages x root
full_once blocks pages x root (inl here) = inl (here.0, here.1.0)
full_once blocks pages x root (inr down) = inr (down.0, down.1, down.2, down.3, down.4, down.5, down.6.0)

full_on : (blocks : ℕ) (pages : ℕ → List ℕ) (x : Xad) (root free : List ℕ) (e : TreeError)
    → RefusesWhereFull xt_scale x (page_nodes blocks pages) (root_node blocks root) free (FullTwice blocks pages (root_form (length root)) x root) e → RefusesFull blocks pages x root free (tree_error (handed_on e))
full_on blocks pages x root free (View e) h = h
full_on blocks pages x root free (Bad page rule) h = λ es spelled apart spare. full_once blocks pages x root (h es spelled apart spare)
full_on blocks pages x root free Memory h = h

pub full_as : (b blocks : ℕ) (form : XtForm) (x : Xad) (image : Image) (root free : List ℕ) (e : TreeError) → b ≡ blocks → form ≡ root_form (length root)
    → RefusesWhereFull xt_scale x (read_as (xt_node Full b) (page_of image)) (xt_node form b root) free (FullTwice b (page_of image) form x root) e → RefusesFull blocks (page_of image) x root free (tree_error (handed_on e))
full_as b blocks form x image root free e eb ef h =
    full_on blocks (page_of image) x root free e
    (subst (λ f. RefusesWhereFull xt_scale x (page_nodes blocks (page_of image)) (xt_node f blocks root) free (FullTwice blocks (page_of image) f x root) e) ef
    (subst (λ n. RefusesWhereFull xt_scale x (read_as (xt_node Full n) (page_of image)) (xt_node form n root) free (FullTwice n (page_of image) form x root) e) eb h))

takes_once : (blocks : ℕ) (pages : ℕ → List ℕ) (x : Xad) (root free left : List ℕ) → TakesTwice blocks pages (root_form (length root)) x root free left → TakesPages blocks pages x root free left
takes_once blocks pages x root free left (inl none) = inl none
takes_once blocks pages x root free left (inr (inl here)) = inr (inl (here.0, here.1.0, here.2))
takes_once blocks pages x root free left (inr (inr down)) = inr (inr (down.0, down.1, down.2, down.3, by down.4))
  where
    full : ℕ → Type 0
    full = on_page (HasNoRoom Full) pages

    by : (((taken : ℕ) × FullUp xt_scale x (page_nodes blocks pages) full full down.2 down.1 taken × (length free ≡ length left + taken))
        ⊎ (FullDown xt_scale x (page_nodes blocks pages) full full down.2 down.1 × ((key : ℕ) × (NoRoomAtRoot root × NoRoomAtRoot root)) × (length free ≡ length left + suc down.2)))
        → (((taken : ℕ) × FullUp xt_scale x (page_nodes blocks pages) full full down.2 down.1 taken × (length free ≡ length left + taken))
        ⊎ (FullDown xt_scale x (page_nodes blocks pages) full full down.2 down.1 × ((key : ℕ) × NoRoomAtRoot root) × (length free ≡ length left + suc down.2)))
    by (inl up) = inl up
    by (inr all) = inr (all.0, (all.1.0, all.1.1.0), all.2)

pub takes_as : (b blocks : ℕ) (form : XtForm) (x : Xad) (image : Image) (root free left : List ℕ) → b ≡ blocks → form ≡ root_form (length root) → TakesTwice b (page_of image) form x root free left → TakesPages blocks (page_of image) x root free left
takes_as b blocks form x image root free left eb ef h =
    takes_once blocks (page_of image) x root free left
    (subst (λ f. TakesTwice blocks (page_of image) f x root free left) ef (subst (λ n. TakesTwice n (page_of image) form x root free left) eb h))

-- ---- why an extent is refused on its way

-- what a call on the tree tells of a refusal
abbrev TellsTwice : ℕ → (ℕ → List ℕ) → XtForm → Xad → List ℕ → TreeError → Type 0
TellsTwice blocks pages form x root e = TellsRefusal (broken_on_way xt_scale (read_as (xt_node Full blocks) pages) x.offset (xt_node form blocks root)) (ClashesOnWay xt_scale (read_as (xt_node Full blocks) pages) x (on_page (HasNoRoom Full) pages) (on_page (HasNoRoom Full) pages) (xt_node form blocks root))
    (HasAllLevels xt_scale (read_as (xt_node Full blocks) pages) x (on_page (HasNoRoom Full) pages) (on_page (HasNoRoom Full) pages) (xt_node form blocks root) (λ key. HasNoRoom form root × HasNoRoom form root)) e

-- a failure, as the call answers it
abbrev pub failed : XtError → Result (Unit {0}) XtError
failed e = Err e

tells_once : (blocks : ℕ) (pages : ℕ → List ℕ) (x : Xad) (root : List ℕ) (e : TreeError) → TellsTwice blocks pages (root_form (length root)) x root e
    → AddTellsWay (broken_for blocks pages root x.offset) (ClashesFor blocks pages x root) (IsFullAndDeep blocks pages x root) (failed (handed_on e))
tells_once blocks pages x root (View v) h = tt
tells_once blocks pages x root (Bad page rule) (inl first) = inl first
tells_once blocks pages x root (Bad page rule) (inr (none, inl clash)) = inr (none, inl clash)
tells_once blocks pages x root (Bad page rule) (inr (none, inr (named, deep, (place, child, leads, full, (key, room))))) = inr (none, inr (named, deep, (place, child, leads, full, (key, room.0))))
tells_once blocks pages x root Memory h = tt

pub tells_as : (b blocks : ℕ) (form : XtForm) (x : Xad) (image : Image) (root : List ℕ) (e : TreeError) → b ≡ blocks → form ≡ root_form (length root) → TellsTwice b (page_of image) form x root e
    → AddTellsWay (broken_for blocks (page_of image) root x.offset) (ClashesFor blocks (page_of image) x root) (IsFullAndDeep blocks (page_of image) x root) (failed (handed_on e))
tells_as b blocks form x image root e eb ef h =
    tells_once blocks (page_of image) x root e
    (subst (λ f. TellsTwice blocks (page_of image) f x root e) ef (subst (λ n. TellsTwice n (page_of image) form x root e) eb h))

pub went_in : (b blocks : ℕ) (form : XtForm) (x : Xad) (image : Image) (root : List ℕ) → b ≡ blocks → form ≡ root_form (length root) → broken_on_way xt_scale (read_as (xt_node Full b) (page_of image)) x.offset (xt_node form b root) ≡ None
    → broken_for blocks (page_of image) root x.offset ≡ None
went_in b blocks form x image root eb ef h =
    subst (λ f. broken_on_way xt_scale (page_nodes blocks (page_of image)) x.offset (xt_node f blocks root) ≡ None) ef
    (subst (λ n. broken_on_way xt_scale (read_as (xt_node Full n) (page_of image)) x.offset (xt_node form n root) ≡ None) eb h)
