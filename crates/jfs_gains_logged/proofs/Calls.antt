-- Link, create, mkdir and symlink log what matters.
use Rattle.std.proofs.Common.{◌≡◌, ◌≢◌, ◌+◌, ◌==◌, ◌||◌, not, nat_lt, ne_eqb, if◌then◌else◌, ℕ, Bool, true, false, true≢false, List, length, Option, Some, None, is_some, Result, Ok, Err, refl, sym, ap, ◌∙◌, subst, arith}
use Rattle.jfs_bits.specs.declared.descriptor.Moment.{Moment}
use Rattle.jfs_bits.specs.declared.descriptor.Pxd.{Pxd}
use Rattle.jfs_bits.specs.declared.rule.Rule.{Rule}
use Rattle.jfs_imap.specs.Inodes.{Inodes}
use Rattle.jfs_inode.specs.declared.fields.Dinode.{Dinode}
use Rattle.jfs_name.specs.declared.name.NameEntry.{NameEntry}
use Rattle.jfs_ranges.specs.declared.edit.Edit.{Edit}
use Rattle.jfs_tree.specs.Fresh.{blocks_of}
use Rattle.jfs_plain.specs.Step.{need_of_name, is_full}
use Rattle.jfs_plain.specs.Tree.{and_then}
use Rattle.jfs_plain.specs.declared.refusal.Refusal.{Refusal}
use Rattle.jfs_plain.specs.declared.refusal.Refusal.TheVariants.{IsDir, NotDir, Exists, TooManyLinks, TooDeep}
use Rattle.jfs_create.specs.bmap.specs.States.{Blocks, unowned_count}
use Rattle.jfs_create.specs.link.specs.Joins.{gain_of as link_gain}
use Rattle.jfs_create.specs.link.specs.Link.{LinksAs, asked_of, joint_of, unless_full, unless_deep}
use Rattle.jfs_create.specs.link.specs.declared.asking.Joint.{Joint}
use Rattle.jfs_create.specs.link.specs.declared.linking.Linked.TheVariants as linked
use Rattle.jfs_create.specs.link.specs.claim.specs.Look.{space_for}
use Rattle.jfs_create.specs.link.specs.claim.specs.Take.{AreFresh}
use Rattle.jfs_create.specs.link.specs.lead_steps.specs.dtree.specs.Spells.{spells_names, broken_for, found_for}
use Rattle.jfs_create.specs.link.specs.lead_steps.proofs.Again.{inode_same}
use Rattle.jfs_create.specs.link.specs.objects.specs.Readers.{Readers}
use Rattle.jfs_create.specs.link.specs.objects.specs.Volume.{Volume}
use Rattle.jfs_create.specs.link.specs.objects.specs.Objects.{Object, objects, is_live, has_names}
use Rattle.jfs_create.specs.link.specs.meaning.specs.Readers.{readers, root_of}
use Rattle.jfs_create.specs.link.specs.steps.specs.Gains.{GainsName, with_root}
use Rattle.jfs_create.specs.link.specs.lead_steps.specs.dtree.specs.Room.{deep_on_way}
use Rattle.jfs_create.specs.link.specs.steps.specs.Put.{AddsInode}
use Rattle.jfs_create.specs.link.specs.steps.specs.Place.{front_of, last_of, if_directory, place_of, unless_named, new_place_of}
use Rattle.jfs_create.specs.link.specs.steps.specs.declared.gain.Gain.{Gain}
use Rattle.jfs_create.specs.link.specs.way.specs.Volume.{volume_of}
use Rattle.jfs_create.specs.link.specs.way.specs.Way.{if_unbroken, path_of}
use Rattle.jfs_create.specs.link.specs.way.specs.declared.object.Held.{Held}
use Rattle.jfs_create.specs.link.specs.way.proofs.Nodes.{lives, in_directory}
use Rattle.jfs_create.specs.Makes.{Makes, CanStand, links_after, gain_of}
use Rattle.jfs_create.specs.New.{FitsNew, inode_with}
use Rattle.jfs_create.specs.Reserved.{IsMade, draft_of}
use Rattle.jfs_create.specs.declared.make.Plan.{Plan}
use Rattle.jfs_create.specs.declared.new.NewObject.{NewObject}
use Rattle.jfs_create.specs.declared.new.NewObject.TheVariants.{File, Directory, Link}
use Rattle.jfs_create.proofs.Made.{HasNothing, nothing, is_live_new}
use Rattle.jfs_create.proofs.Sites.{SitsAt, sits, planned_for, can_stand, no_one}
use Rattle.jfs_names_logged.specs.calls_logged.specs.Calls.{IsReady, IsLogged}
use Rattle.jfs_names_logged.specs.calls_logged.specs.Found.{IsFound}
use Rattle.jfs_names_logged.specs.calls_logged.proofs.Found.{path_found}
use Rattle.jfs_gains_logged.specs.Calls.{GainLaw}
use Rattle.jfs_gains_logged.proofs.Gains.{Gaining}
use Rattle.jfs_gains_logged.proofs.Links.{link_logged}
use Rattle.jfs_gains_logged.proofs.Makes.{made_logged}

-- ---- what the calls found

ok_is : {A : Type 0} {x y : A} → ◌≡◌ {A = Result A Refusal} (Ok x) (Ok y) → x ≡ y
ok_is h = cc (h)

then_ok : {A B : Type 0} (x : Result A Refusal) (f : A → Result B Refusal) (b : B) → and_then x f ≡ Ok b → (a : A) × (x ≡ Ok a) × (f a ≡ Ok b)
then_ok (Ok a) f b h = (a, refl, h)
then_ok (Err why) f b h = absurd (cc (h))

if_false : {A : Type 0} (b : Bool) (why : Refusal) (rest : Result A Refusal) (a : A) → (if b then Err why else rest) ≡ Ok a → (b ≡ false) × (rest ≡ Ok a)
if_false true why rest a h = absurd (cc (h))
if_false false why rest a h = (refl, h)

-- a place for a new name is a directory at the end of the names before it
record IsPlaceIn (blocks : ℕ) (pages : ℕ → List ℕ) (inodes : Inodes) (path : List (List ℕ)) (dir : Held) : Type 0 where
  front : path_of blocks pages inodes (front_of path) ≡ Ok dir
  is_dir : has_names dir.inode ≡ true

module _ (blocks : ℕ) (pages : ℕ → List ℕ) (inodes : Inodes) (path : List (List ℕ)) (dir : Held) where
  same_dir : (o : Held) → unless_named blocks pages (last_of path) o ≡ Ok dir → o ≡ dir
  same_dir o h = by (broken_for blocks pages (root_of o.inode) (last_of path)) (is_some (found_for blocks pages (root_of o.inode) (last_of path))) h
    where
      by : (bad : Option (ℕ × Rule)) (there : Bool) → if_unbroken o.page bad (if there then Err Exists else Ok o) ≡ Ok dir → o ≡ dir
      by None false h = ok_is h
      by None true h = absurd (cc (h))
      by (Some bad) there h = absurd (cc (h))

  directory : (o : Held) → if_directory o ≡ Ok dir → (o ≡ dir) × (has_names o.inode ≡ true)
  directory o h = by (has_names o.inode) refl h
    where
      by : (x : Bool) → has_names o.inode ≡ x → (if x then Ok o else Err NotDir) ≡ Ok dir → (o ≡ dir) × (has_names o.inode ≡ true)
      by true e h = (ok_is h, e)
      by false e h = absurd (cc (h))

  place_in : new_place_of blocks pages inodes path ≡ Ok dir → IsPlaceIn blocks pages inodes path dir
  place_in h =
      let p = then_ok (place_of blocks pages inodes path) (unless_named blocks pages (last_of path)) dir h in
      let same = same_dir p.0 p.2 in
      let at = (if_false (length path == 0) Exists (and_then (path_of blocks pages inodes (front_of path)) if_directory) dir (p.1 ∙ ap (λ (o : Held). Ok o) same)).1 in
      let e = then_ok (path_of blocks pages inodes (front_of path)) if_directory dir at in
      let d = directory e.0 e.2 in
      record { front = e.1 ∙ ap (λ (o : Held). Ok o) d.0; is_dir = ap (λ (o : Held). has_names o.inode) (sym d.0) ∙ d.1 }

-- ---- the calls

module _ (blocks : ℕ) (pages : ℕ → List ℕ) (area : ℕ → ℕ) (bm : Blocks) (inodes : Inodes) (ready : IsReady blocks pages area bm inodes) (many : length bm.states ≡ blocks) where
  abbrev r : Readers
  r = readers blocks

  abbrev v : Volume
  v = volume_of pages area bm inodes

  is_living : (at : Held) → IsFound blocks pages area bm inodes at → is_live at.number at.inode ≡ true
  is_living at f = ap (is_live at.number) f.shown ∙ lives blocks v ready.consistent at.number at.page f.home_is f.there

  -- the directory and its names
  module _ (path : List (List ℕ)) (dir : Held) (placed : new_place_of blocks pages inodes path ≡ Ok dir) where
    place : IsPlaceIn blocks pages inodes path dir
    place = place_in blocks pages inodes path dir placed

    found : IsFound blocks pages area bm inodes dir
    found = path_found blocks pages area bm inodes ready.consistent (front_of path) dir place.front

    names_are : (es : List NameEntry) × (spells_names blocks pages (root_of dir.inode) ≡ Ok es)
    names_are = let d = in_directory blocks v ready.consistent dir.number dir.page found.home_is found.there (ap has_names (sym found.shown) ∙ place.is_dir) in
        (d.0, ap (λ (x : Dinode). spells_names blocks pages (root_of x)) found.shown ∙ d.1)

    gaining : (gain : Gain) (free left : List Pxd) → AreFresh bm need_of_name (blocks_of free) → (tx : List Edit) (g : GainsName blocks pages dir (last_of path) gain free left tx)
        → is_live dir.number (with_root dir.inode g.root gain (length g.edits.0)) ≡ true → Gaining blocks pages area bm inodes
    gaining gain free left fresh tx g live = record {
      ready = ready;
      many = many;
      dir = dir;
      found = found;
      is_dir = place.is_dir;
      names = names_are.0;
      spelled_names = names_are.1;
      name = last_of path;
      gain = gain;
      free = free;
      left = left;
      fresh = fresh;
      tx = tx;
      gains = g;
      live = live;
    }

  -- ---- link

  module _ (from to : List (List ℕ)) (now : Moment) (tx : List Edit) (l : LinksAs blocks pages bm inodes from to now (Ok (linked.Done tx))) where
    abbrev object : Held
    object = l.0.object

    abbrev dir : Held
    dir = l.0.dir

    abbrev rest : Held → Result Joint Refusal
    rest o = and_then (new_place_of blocks pages inodes to) (λ dir. and_then (unless_full o (Ok dir)) (λ dir. and_then (space_for (unowned_count bm) need_of_name) (λ it.
        and_then (unless_deep blocks pages (last_of to) dir) (λ dir. Ok (joint_of o dir)))))

    walked : (o : Held) × (path_of blocks pages inodes from ≡ Ok o) × (asked_of blocks pages bm inodes to o ≡ Ok l.0)
    walked = then_ok (path_of blocks pages inodes from) (asked_of blocks pages bm inodes to) l.0 l.1

    file_is : (has_names walked.0.inode ≡ false) × (rest walked.0 ≡ Ok l.0)
    file_is = if_false (has_names walked.0.inode) IsDir (rest walked.0) l.0 walked.2

    placed : (d : Held) × (new_place_of blocks pages inodes to ≡ Ok d) × (joint_of walked.0 d ≡ l.0)
    placed =
        let p = then_ok (new_place_of blocks pages inodes to) (λ dir. and_then (unless_full walked.0 (Ok dir)) (λ dir. and_then (space_for (unowned_count bm) need_of_name) (λ it.
        and_then (unless_deep blocks pages (last_of to) dir) (λ dir. Ok (joint_of walked.0 dir))))) l.0 file_is.1 in
        let f = then_ok (unless_full walked.0 (Ok p.0)) (λ dir. and_then (space_for (unowned_count bm) need_of_name) (λ it. and_then (unless_deep blocks pages (last_of to) dir) (λ dir. Ok (joint_of walked.0 dir)))) l.0 p.2 in
        let s = then_ok (space_for (unowned_count bm) need_of_name) (λ it. and_then (unless_deep blocks pages (last_of to) f.0) (λ dir. Ok (joint_of walked.0 dir))) l.0 f.2 in
        let d = then_ok (unless_deep blocks pages (last_of to) f.0) (λ dir. Ok (joint_of walked.0 dir)) l.0 s.2 in
        let a = (if_false (is_full walked.0.inode.nlink) TooManyLinks (Ok p.0) f.0 f.1).1 in
        let b = (if_false (deep_on_way blocks pages (root_of f.0.inode) (last_of to)) (TooDeep f.0.number) (Ok f.0) d.0 d.1).1 in
        (p.0, p.1, ap (λ (x : Held). joint_of walked.0 x) (ok_is a ∙ ok_is b) ∙ ok_is d.2)

    at_object : path_of blocks pages inodes from ≡ Ok object
    at_object = walked.1 ∙ ap (λ (j : Joint). Ok j.object) placed.2

    at_place : new_place_of blocks pages inodes to ≡ Ok dir
    at_place = placed.1 ∙ ap (λ (j : Joint). Ok j.dir) placed.2

    is_file : has_names object.inode ≡ false
    is_file = ap (λ (j : Joint). has_names j.object.inode) (sym placed.2) ∙ file_is.0

    object_found : IsFound blocks pages area bm inodes object
    object_found = path_found blocks pages area bm inodes ready.consistent from object at_object

    -- it is no directory
    other : object.number ≢ dir.number
    other e = true≢false (sym (place to dir at_place).is_dir ∙ ap has_names (sym same) ∙ is_file)
      where
        some_is : {x y : Object} → Some x ≡ Some y → x ≡ y
        some_is h = cc (h)

        same : object.inode ≡ dir.inode
        same = inode_same r pages pages object.inode dir.inode (some_is (sym object_found.was ∙ ap (objects r v) e ∙ (found to dir at_place).was))

    linked_well : IsLogged blocks pages area bm inodes tx
    unfolding gaining
    linked_well = link_logged blocks pages area bm inodes (gaining to dir at_place (link_gain object dir now) l.2 l.4 l.3 l.5.named l.5.gains (is_living dir (found to dir at_place))) object object_found other now tx l.5.puts l.5.lines

  -- ---- a new object

  module _ (path : List (List ℕ)) (object : NewObject) (now : Moment) (after : Blocks) (tx : List Edit) (few : FitsNew object) (m : IsMade blocks pages inodes path object now bm after tx) where
    abbrev parent : Held
    parent = m.seen.dir

    abbrev plan : Plan
    plan = m.made.plan

    abbrev makes : Makes blocks pages parent (last_of path) plan m.made.free m.made.left tx
    makes = m.made.makes

    sat : SitsAt inodes parent m.seen.fresh m.site
    sat = sits blocks pages inodes parent m.seen.fresh m.site m.sited

    planned : (plan.object ≡ object) × (plan.now ≡ now) × (plan.seat.number ≡ m.seen.fresh.number) × (plan.seat.parent ≡ parent.number)
    planned = planned_for inodes parent m.seen.fresh (draft_of object m.site now) m.made.run plan m.site sat m.made.planned

    stands : CanStand blocks v (blocks_of m.made.free) plan.seat.number plan.page plan.extent
    stands = can_stand blocks pages bm inodes many area ready.consistent parent m.seen.fresh m.passes.inode (draft_of object m.site now) m.made.free m.site m.made.run plan sat m.made.may m.made.planned

    none : objects r v plan.seat.number ≡ None
    none = ap (objects r v) planned.2 ∙ no_one blocks pages bm inodes many area ready.consistent parent m.seen.fresh m.passes.inode (draft_of object m.site now) m.made.free m.site sat

    -- the directory keeps a link
    live : is_live parent.number (with_root parent.inode makes.gains.root (gain_of plan parent) (length makes.gains.edits.0)) ≡ true
    live = by plan.object (nat_lt parent.number 4) parent.inode.nlink (is_living parent (found path parent m.passes.place))
      where
        not_zero : (k : ℕ) → not (k + 1 == 0) ≡ true
        not_zero k = ap not (ne_eqb (k + 1) 0 (λ e. absurd (omega (arith, e))))

        by : (o : NewObject) (low : Bool) (k : ℕ) → (low || not (k == 0)) ≡ true → (low || not (links_after o k == 0)) ≡ true
        by o true k h = refl
        by (File mode) false k h = h
        by (Directory mode) false k h = not_zero k
        by (Link target) false k h = h

    abbrev set : Dinode
    set = inode_with plan.object plan.seat plan.now makes.is_new.rest

    empty : (page : ℕ → List ℕ) → HasNothing r page set
    empty page = nothing blocks page plan.seat plan.now makes.is_new.rest plan.object (subst FitsNew (sym planned.0) few) makes.is_new.rest_is

    made_well : IsLogged blocks pages area bm inodes tx
    unfolding gaining
    made_well = made_logged blocks pages area bm inodes (gaining path parent m.passes.place (gain_of plan parent) m.made.free m.made.left m.made.may.fresh makes.mid makes.gains live) plan.seat.number plan.page set
        (is_live_new plan.object plan.seat plan.now makes.is_new.rest) empty none makes.more tx (subst (λ (d : Dinode). AddsInode blocks pages plan.page plan.seat.number d makes.more tx) makes.is_new.is makes.puts) makes.lines plan.extent makes.extent stands

pub gain_law : GainLaw
gain_law = record {
  links = λ blocks pages area map inodes from to now tx ready many l. linked_well blocks pages area map inodes ready many from to now tx l;
  makes = λ blocks pages area map inodes path object now after tx ready many few m. made_well blocks pages area map inodes ready many path object now after tx few m;
}
