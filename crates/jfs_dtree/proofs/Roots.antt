-- Roots and what is found, added and refused, as the calls say it.
use Rattle.std.proofs.Common.{◌≡◌, inl, refl, sym, ap, ◌∙◌, subst, ℕ, ◌*◌, List, [], ◌∷◌, map, Bool, true, false, Option, None, Result, Ok, Err}
use Rattle.std.specs.List.{list_all}
use Rattle.std.specs.Option.{option_map}
use Rattle.std.proofs.lemmas.Bool.{and_parts, true≢false}
use Rattle.jfs_disk.specs.Image.{Image, page_of}
use Rattle.jfs_name.specs.declared.name.NameEntry.{NameEntry}
use Rattle.jfs_name.specs.Directory.{named}
use Rattle.jfs_dtpage.specs.declared.head.DtForm.{DtForm}
use Rattle.jfs_dtpage.specs.declared.head.DtForm.TheVariants.{Root, Full}
use Rattle.jfs_bits.specs.Descriptor.{pxd_of}
use Rattle.jfs_dtpage.specs.Form.{is_leaf}
use Rattle.jfs_dtpage.specs.Page.{entry_of, entries_of, table_of, IsDtPage}
use Rattle.jfs_tree.specs.Walk.{Node, Leaf}
use Rattle.jfs_tree.specs.Fresh.{AllPages, HasPages}
use Rattle.jfs_tree.specs.Adds.{read_as, AddsTold, LevelsTold, RefusesWhereFull}
use Rattle.jfs_tree.specs.Path.{broken_on_way, found_on_way, TellsBroken}
use Rattle.jfs_tree.specs.Room.{GrowsLevel}
use Rattle.jfs_tree.specs.Root.{FindsAlways, NamesBroken, RefusesWhereBad}
use Rattle.jfs_bits.specs.declared.rule.Rule.{Rule}
use Rattle.jfs_ranges.specs.declared.edit.Edit.{Edit}
use Rattle.jfs_tree.specs.Fresh.{after_tx}
use Rattle.jfs_tree.specs.Call.{pages_of}
use Rattle.jfs_tree.specs.declared.form.TreeError.{TreeError}
use Rattle.jfs_tree.specs.declared.form.TreeError.TheVariants.{View, Bad, Memory}
use Rattle.jfs_dtree.specs.Node.{named as named_entry, name_scale, below, is_within, child_within, dt_node}
use Rattle.jfs_dtree.specs.Spells.{root_node, page_nodes, spells_names, broken_for, found_for, FailsWhereBad, TellsWay}
use Rattle.jfs_tree.specs.Spells.{spells}
use Rattle.jfs_dtree.specs.declared.error.DtError.{DtError}
use Rattle.jfs_dtree.specs.declared.error.DtError.TheVariants as dt
use Rattle.jfs_dtree.specs.Errors.{handed_on}
use Rattle.jfs_dtree.specs.Adding.{AddsName, NoRoomAtRoot, NoPlaceAtRoot, NoRoomOnWay, is_full_in, lacks_in, TakesPages, KeepsLevels, RefusesName, AddTellsWay, AddFollowsWay}
use Rattle.jfs_dtree.specs.Room.{DeepIs, FollowsRoom, deep_on_way}
use Rattle.jfs_dtree.specs.Replacing.{FollowsWay}
use Rattle.jfs_dtree.proofs.Tight.{full_deep}
use Rattle.jfs_dtree.proofs.Nodes.{inner_is, leaf_read}
use Rattle.jfs_dtree.proofs.Leading.{run_below}
use Rattle.jfs_dtree.proofs.Listed.{found_named, apart_named, added_as}

-- ---- children lie within the blocks

all_pages : (blocks : ℕ) (bytes slots : List ℕ) → list_all (child_within blocks) (map (entry_of false bytes) slots) ≡ true → AllPages blocks (map below (map (entry_of false bytes) slots))
unfolding entry_of
all_pages blocks bytes [] w = tt
all_pages blocks bytes (slot ∷ slots) w =
    let p = and_parts (is_within blocks (pxd_of bytes (32 * slot))) (list_all (child_within blocks) (map (entry_of false bytes) slots)) w in
    (run_below blocks (pxd_of bytes (32 * slot)) p.0, all_pages blocks bytes slots p.1)

pub has_pages : (form : DtForm) (blocks : ℕ) (bytes : List ℕ) → HasPages blocks (dt_node form blocks bytes)
has_pages form blocks bytes cs e =
    let t = inner_is form blocks bytes cs e in
    let within = subst (λ leaf. list_all (child_within blocks) (map (entry_of leaf bytes) (table_of form bytes)) ≡ true) t.1 t.2 in
    subst (AllPages blocks) (subst (λ leaf. map below (map (entry_of leaf bytes) (table_of form bytes)) ≡ cs) t.1 t.4) (all_pages blocks bytes (table_of form bytes) within)

-- ---- what is found

pub finds_as : (b blocks : ℕ) (image : Image) (root name : List ℕ) (x : NameEntry) (found : Option NameEntry) (inode : Option ℕ) → b ≡ blocks → x.name ≡ name → inode ≡ option_map (λ (e : NameEntry). e.inode) found
    → FindsAlways name_scale x (pages_of (dt_node Full b) image) (dt_node Root b root) found → (es : List NameEntry) → spells_names blocks (page_of image) root ≡ Ok es → inode ≡ named name es
finds_as b blocks image root name x found inode eb en ei h es spelled =
    let f = subst (λ k. FindsAlways name_scale x (pages_of (dt_node Full k) image) (dt_node Root k root) found) eb h es spelled in
    ei ∙ ap (option_map (λ (e : NameEntry). e.inode)) f ∙ found_named (page_nodes blocks (page_of image)) (root_node blocks root) es x spelled ∙ ap (λ n. named n es) en

-- what is found on the way
pub found_as : (b blocks : ℕ) (image : Image) (root name units : List ℕ) (x : NameEntry) (found : Option NameEntry) (inode : Option ℕ) → b ≡ blocks → x ≡ record { name = units; inode = 0 } → units ≡ name
    → inode ≡ option_map (λ (e : NameEntry). e.inode) found → found ≡ found_on_way name_scale (pages_of (dt_node Full b) image) x (dt_node Root b root) → inode ≡ found_for blocks (page_of image) root name
found_as b blocks image root name units x found inode eb ex eu ei h =
    ei ∙ ap (option_map (λ (e : NameEntry). e.inode)) (h ∙ ap (λ k. found_on_way name_scale (pages_of (dt_node Full k) image) x (dt_node Root k root)) eb
    ∙ ap (λ y. found_on_way name_scale (pages_of (dt_node Full blocks) image) y (dt_node Root blocks root)) ex) ∙ ap (found_for blocks (page_of image) root) eu

-- a failure, as the calls answer it
abbrev pub failed : DtError → Result (Unit {0}) DtError
failed e = Err e

-- a call that failed says nothing of it, but where it tells of names
pub failed_follows : (found : Option ℕ) (e : TreeError) → FollowsWay found (Err (handed_on e))
failed_follows found (View e) = tt
failed_follows found (Bad page rule) = tt
failed_follows found Memory = tt

pub failed_adding : (found : Option ℕ) (deep : Bool) (e : TreeError) → AddFollowsWay found deep (failed (handed_on e))
failed_adding found deep (View e) = tt
failed_adding found deep (Bad page rule) = tt
failed_adding found deep Memory = tt

pub found_adding : (pages : ℕ → Node (List ℕ) NameEntry) (root : Node (List ℕ) NameEntry) (found : Option ℕ) (deep : Bool) (e : DtError) → FailsWhereBad pages root e → AddFollowsWay found deep (Err e)
found_adding pages root found deep (dt.View e) fails = tt
found_adding pages root found deep (dt.Bad page rule) fails = tt
found_adding pages root found deep dt.Exists fails = absurd fails
found_adding pages root found deep dt.Missing fails = absurd fails
found_adding pages root found deep dt.TooDeep fails = absurd fails

-- how deep the way is
pub way_deep_as : (b blocks : ℕ) (view image : Image) (root name : List ℕ) (x : NameEntry) (d deep : Bool) → b ≡ blocks → view ≡ image → x.name ≡ name → d ≡ deep → d ≡ deep_on_way b (page_of view) root x.name → deep_on_way blocks (page_of image) root name ≡ deep
way_deep_as b blocks view image root name x d deep eb ev en ed h =
    sym (ap (deep_on_way blocks (page_of image) root) en) ∙ sym (ap (λ i. deep_on_way blocks (page_of i) root x.name) ev) ∙ sym (ap (λ k. deep_on_way k (page_of view) root x.name) eb) ∙ sym h ∙ ed

fails_on : (pages : ℕ → Node (List ℕ) NameEntry) (root : Node (List ℕ) NameEntry) (e : TreeError) → NamesBroken name_scale pages root e → FailsWhereBad pages root (handed_on e)
fails_on pages root (View e) h = h
fails_on pages root (Bad page rule) h = h
fails_on pages root Memory h = tt

pub fails_as : (b blocks : ℕ) (image : Image) (root : List ℕ) (e : TreeError) → b ≡ blocks → NamesBroken name_scale (pages_of (dt_node Full b) image) (dt_node Root b root) e → FailsWhereBad (page_nodes blocks (page_of image)) (root_node blocks root) (handed_on e)
fails_as b blocks image root e eb h = fails_on (page_nodes blocks (page_of image)) (root_node blocks root) e (subst (λ k. NamesBroken name_scale (pages_of (dt_node Full k) image) (dt_node Root k root) e) eb h)

-- ---- what is added

-- what is known of a name that wasn't found
abbrev pub IsNew : ℕ → (ℕ → List ℕ) → List ℕ → List ℕ → Type 0
IsNew blocks pages root name = (es : List NameEntry) → spells_names blocks pages root ≡ Ok es → named name es ≡ None

pub adds_as : (b count blocks : ℕ) (view image : Image) (root after name : List ℕ) (x : NameEntry) (inode : ℕ) (free left : List ℕ) (tx later : List Edit) → b ≡ count → count ≡ blocks → view ≡ image → x ≡ record { name = name; inode = inode }
    → IsNew blocks (page_of image) root name → AddsTold name_scale (dt_node Full b) count (page_of view) x (dt_node Root b root) (dt_node Root b after) free left tx later
    → AddsName blocks (page_of image) (record { name = name; inode = inode }) root after free left tx later
adds_as b count blocks view image root after name x inode free left tx later eb ec ev ex is_new told = λ base leads es spelled spare.
    let new : NameEntry = record { name = name; inode = inode } in
    let t : AddsTold name_scale (dt_node Full blocks) blocks (page_of image) new (dt_node Root blocks root) (dt_node Root blocks after) free left tx later =
    subst (λ y. AddsTold name_scale (dt_node Full blocks) blocks (page_of image) y (dt_node Root blocks root) (dt_node Root blocks after) free left tx later) ex
    (subst (λ i. AddsTold name_scale (dt_node Full blocks) blocks (page_of i) x (dt_node Root blocks root) (dt_node Root blocks after) free left tx later) ev
    (subst (λ n. AddsTold name_scale (dt_node Full n) n (page_of view) x (dt_node Root n root) (dt_node Root n after) free left tx later) ec
    (subst (λ n. AddsTold name_scale (dt_node Full n) count (page_of view) x (dt_node Root n root) (dt_node Root n after) free left tx later) eb told))) in
    let a = t base leads es spelled (apart_named (page_nodes blocks (page_of image)) (root_node blocks root) es new spelled (is_new es spelled)) spare in
    record {
      is_new = is_new es spelled;
      spelled = a.spelled ∙ ap (λ list. Ok list) (added_as (page_nodes blocks (after_tx base later)) (root_node blocks after) es a.list new a.spelled a.added);
      owned = a.owned;
      keeps = a.keeps;
    }

-- ---- what is refused

-- what a call on the tree says, in the words of its pages
abbrev RefusesBoth : ℕ → ℕ → Image → List ℕ → NameEntry → List ℕ → TreeError → Type 0
RefusesBoth b blocks image root x free e = RefusesWhereBad name_scale x (read_as (dt_node Full b) (page_of image)) (dt_node Root b root) free e
    × RefusesWhereFull name_scale x (read_as (dt_node Full b) (page_of image)) (dt_node Root b root) free (NoRoomOnWay b (page_of image) x root) e

pub refuses_as : (b count blocks : ℕ) (view image : Image) (root name : List ℕ) (x : NameEntry) (inode : ℕ) (free : List ℕ) (e : TreeError) → b ≡ count → count ≡ blocks → view ≡ image → x ≡ record { name = name; inode = inode }
    → IsNew blocks (page_of image) root name → DeepIs blocks (page_of image) root name false → RefusesWhereBad name_scale x (read_as (dt_node Full b) (page_of view)) (dt_node Root b root) free e
    → RefusesWhereFull name_scale x (read_as (dt_node Full b) (page_of view)) (dt_node Root b root) free (NoRoomOnWay b (page_of view) x root) e
    → RefusesName blocks (page_of image) (record { name = name; inode = inode }) root free (handed_on e)
refuses_as b count blocks view image root name x inode free e eb ec ev ex is_new shallow h full =
    by e (subst (λ y. RefusesBoth blocks blocks image root y free e) ex (subst (λ i. RefusesBoth blocks blocks i root x free e) ev (subst (λ n. RefusesBoth n blocks view root x free e) (eb ∙ ec) (h, full))))
  where
    by : (e : TreeError) → RefusesBoth blocks blocks image root (record { name = name; inode = inode }) free e → RefusesName blocks (page_of image) (record { name = name; inode = inode }) root free (handed_on e)
    by (View e) h = tt
    by (Bad page rule) h = λ es spelled spare.
        let new : NameEntry = record { name = name; inode = inode } in
        let apart = apart_named (page_nodes blocks (page_of image)) (root_node blocks root) es new spelled (is_new es spelled) in
        true≢false (sym (full_deep blocks (page_of image) name root new (lacks_in new (page_of image)) (NoRoomAtRoot new root) (NoPlaceAtRoot root) refl (h.0 es spelled apart spare).2 (h.1 es spelled apart spare)) ∙ shallow es spelled)
    by Memory h = tt

pub deep_as : (b blocks : ℕ) (view image : Image) (root name : List ℕ) (x : NameEntry) (d deep : Bool) → b ≡ blocks → view ≡ image → x.name ≡ name → d ≡ deep → DeepIs b (page_of view) root x.name d → DeepIs blocks (page_of image) root name deep
deep_as b blocks view image root name x d deep eb ev en ed h =
    subst (DeepIs blocks (page_of image) root name) ed (subst (λ n. DeepIs blocks (page_of image) root n d) en (subst (λ i. DeepIs blocks (page_of i) root x.name d) ev (subst (λ k. DeepIs k (page_of view) root x.name d) eb h)))

-- where a page on the way breaks a rule, the root spells no list
pub found_no_room : (blocks : ℕ) (pages : ℕ → List ℕ) (root name : List ℕ) (e : DtError) → FailsWhereBad (page_nodes blocks pages) (root_node blocks root) e → FollowsRoom blocks pages root name (Err e)
found_no_room blocks pages root name (dt.View e) h = tt
found_no_room blocks pages root name (dt.Bad page rule) h = λ es spelled. absurd (h.1 es spelled)
found_no_room blocks pages root name dt.Exists h = absurd h
found_no_room blocks pages root name dt.Missing h = absurd h
found_no_room blocks pages root name dt.TooDeep h = absurd h

pub shallow_follows : (blocks : ℕ) (pages : ℕ → List ℕ) (root name : List ℕ) (e : TreeError) → DeepIs blocks pages root name false → FollowsRoom blocks pages root name (Err (handed_on e))
shallow_follows blocks pages root name (View e) shallow = tt
shallow_follows blocks pages root name (Bad page rule) shallow = shallow
shallow_follows blocks pages root name Memory shallow = tt

-- ---- the levels

-- one level more, in the words of its pages
abbrev pub Grows : ℕ → (ℕ → List ℕ) → NameEntry → List ℕ → List ℕ → (ℕ → Node (List ℕ) NameEntry) → Type 0
Grows blocks pages x root after new = GrowsLevel name_scale x (read_as (dt_node Full blocks) pages) (is_full_in pages) (lacks_in x pages) (dt_node Root blocks root) (NoRoomAtRoot x root) (NoPlaceAtRoot root) (dt_node Root blocks after) new

pub levels_as : (b count blocks : ℕ) (view image : Image) (root after name : List ℕ) (x : NameEntry) (inode : ℕ) (free : List ℕ) (tx later : List Edit) → b ≡ count → count ≡ blocks → view ≡ image → x ≡ record { name = name; inode = inode }
    → IsNew blocks (page_of image) root name → LevelsTold name_scale (dt_node Full b) count (page_of view) x (dt_node Root b root) (dt_node Root b after) free tx later (Grows b (page_of view) x root after)
    → KeepsLevels blocks (page_of image) (record { name = name; inode = inode }) root after free tx later
levels_as b count blocks view image root after name x inode free tx later eb ec ev ex is_new told = λ base leads es spelled spare.
    let new : NameEntry = record { name = name; inode = inode } in
    let t = subst (λ y. LevelsTold name_scale (dt_node Full blocks) blocks (page_of image) y (dt_node Root blocks root) (dt_node Root blocks after) free tx later (Grows blocks (page_of image) y root after)) ex
    (subst (λ i. LevelsTold name_scale (dt_node Full blocks) blocks (page_of i) x (dt_node Root blocks root) (dt_node Root blocks after) free tx later (Grows blocks (page_of i) x root after)) ev
    (subst (λ n. LevelsTold name_scale (dt_node Full n) n (page_of view) x (dt_node Root n root) (dt_node Root n after) free tx later (Grows n (page_of view) x root after)) ec
    (subst (λ n. LevelsTold name_scale (dt_node Full n) count (page_of view) x (dt_node Root n root) (dt_node Root n after) free tx later (Grows n (page_of view) x root after)) eb told))) in
    t base leads es spelled (apart_named (page_nodes blocks (page_of image)) (root_node blocks root) es new spelled (is_new es spelled)) spare

-- ---- the first broken rule on the way

pub first_as : (b blocks : ℕ) (image : Image) (root name : List ℕ) (x : NameEntry) → b ≡ blocks → x.name ≡ name
    → broken_on_way name_scale (page_nodes b (page_of image)) x.name (root_node b root) ≡ broken_for blocks (page_of image) root name
first_as b blocks image root name x eb en = ap (λ k. broken_for k (page_of image) root x.name) eb ∙ ap (broken_for blocks (page_of image) root) en

pub told_failed : (first later : Option (ℕ × Rule)) (e : TreeError) (r : DtError) → r ≡ handed_on e → first ≡ later → TellsBroken {T = Unit {0}} first (Err e) → TellsWay {T = Unit {0}} later (Err r)
told_failed first later e r is same h = subst (λ d. TellsWay {T = Unit {0}} later (Err d)) (sym is) (by e h)
  where
    by : (e : TreeError) → TellsBroken {T = Unit {0}} first (Err e) → TellsWay {T = Unit {0}} later (Err (handed_on e))
    by (View v) h = tt
    by (Bad page rule) h = sym same ∙ h
    by Memory h = tt

pub found_tells : (pages : ℕ → Node (List ℕ) NameEntry) (root : Node (List ℕ) NameEntry) (first : Option (ℕ × Rule)) (clashes : ℕ → Type 0) (e : DtError) → FailsWhereBad pages root e → TellsWay {T = Unit {0}} first (Err e) → AddTellsWay first clashes (Err e)
found_tells pages root first clashes (dt.View e) fails h = tt
found_tells pages root first clashes (dt.Bad page rule) fails h = inl h
found_tells pages root first clashes dt.Exists fails h = absurd fails
found_tells pages root first clashes dt.Missing fails h = absurd fails
found_tells pages root first clashes dt.TooDeep fails h = absurd fails

-- ---- which pages are taken

pub takes_as : (b count blocks : ℕ) (view image : Image) (root name : List ℕ) (x : NameEntry) (inode : ℕ) (free left : List ℕ) → b ≡ count → count ≡ blocks → view ≡ image → x ≡ record { name = name; inode = inode }
    → TakesPages b (page_of view) x root free left → TakesPages blocks (page_of image) (record { name = name; inode = inode }) root free left
takes_as b count blocks view image root name x inode free left eb ec ev ex takes =
    subst (λ y. TakesPages blocks (page_of image) y root free left) ex (subst (λ i. TakesPages blocks (page_of i) x root free left) ev (subst (λ n. TakesPages n (page_of view) x root free left) (eb ∙ ec) takes))

-- ---- a root without names

spells_none : (blocks : ℕ) (pages : ℕ → List ℕ) → spells name_scale (page_nodes blocks pages) (Leaf []) ≡ Ok []
unfolding spells
spells_none blocks pages = refl

pub new_root_node : (root : List ℕ) → IsDtPage Root root → is_leaf root ≡ true → entries_of Root root ≡ [] → (blocks : ℕ) → root_node blocks root ≡ Leaf []
new_root_node root sound kind none blocks = leaf_read Root blocks root sound kind ∙ ap (λ es. Leaf (map named_entry es)) none

pub new_root_list : (root : List ℕ) → IsDtPage Root root → is_leaf root ≡ true → entries_of Root root ≡ [] → (blocks : ℕ) (pages : ℕ → List ℕ) → spells_names blocks pages root ≡ Ok []
new_root_list root sound kind none blocks pages = ap (spells name_scale (page_nodes blocks pages)) (new_root_node root sound kind none blocks) ∙ spells_none blocks pages
