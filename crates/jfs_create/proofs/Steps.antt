-- The call that makes an object: what its parts say, put together.
use Rattle.std.proofs.Common.{◌≡◌, ◌≤◌, ◌<◌, ◌⊎◌, refl, sym, ap, ◌∙◌, subst, inl, inr, ℕ, ◌+◌, ◌/◌, ◌%◌, Bool, true, false, true≢false, ◌&&◌, nat_le, nat_lt, if◌then◌else◌, List, length, Option, Some, None, is_some, Result, Ok, Err, IfOk, IfErr, arith}
use Rattle.std.proofs.lemmas.Bool.Decides.{nat_tests}
use Rattle.jfs_bits.specs.declared.descriptor.Moment.{Moment}
use Rattle.jfs_bits.specs.declared.descriptor.Pxd.{Pxd}
use Rattle.jfs_disk.specs.Image.{Image}
use Rattle.jfs_iag.specs.Canonical.{is_there}
use Rattle.jfs_imap.specs.Inodes.{Inodes, extent_at, home_of, is_used}
use Rattle.jfs_bmap.specs.States.{Blocks, is_owned}
use Rattle.jfs_ranges.specs.declared.edit.Edit.{Edit}
use Rattle.jfs_ranges.specs.declared.view.ViewError.{ViewError}
use Rattle.jfs_ranges.specs.declared.view.ViewError.TheVariants.{Read, Memory}
use Rattle.jfs_tree.specs.Edit.{count_in}
use Rattle.jfs_tree.specs.Form.{AllBelow}
use Rattle.jfs_tree.specs.Fresh.{blocks_of}
use Rattle.jfs_tree.specs.Root.{IsSpare}
use Rattle.jfs_tree.specs.Spells.{no_page}
use Rattle.jfs_dtree.specs.Adding.{RefusesName}
use Rattle.jfs_dtree.specs.Node.{name_scale}
use Rattle.jfs_dtree.specs.Room.{is_deep}
use Rattle.jfs_dtree.specs.Spells.{root_node, page_nodes, owned_pages}
use Rattle.jfs_dtree.specs.declared.error.DtError.{DtError}
use Rattle.jfs_dtree.specs.declared.error.DtError.TheVariants as dt
use Rattle.jfs_name.specs.Directory.{named}
use Rattle.jfs_plain.specs.Tree.{Tree, Place, root, and_then, place, place_at, at_place, named_in, unless_there}
use Rattle.jfs_plain.specs.Step.{Room, links_of}
use Rattle.jfs_plain.specs.declared.node.Node.{Node}
use Rattle.jfs_plain.specs.declared.refusal.Refusal.{Refusal}
use Rattle.jfs_plain.specs.declared.reply.Reply.TheVariants.{Done}
use Rattle.jfs_link.specs.objects.specs.Readers.{Readers}
use Rattle.jfs_link.specs.objects.specs.Volume.{Volume}
use Rattle.jfs_link.specs.objects.specs.Objects.{objects, spelled, has_names, is_live}
use Rattle.jfs_link.specs.objects.specs.Owners.{holds}
use Rattle.jfs_link.specs.objects.proofs.Owned.{owned_once}
use Rattle.jfs_link.specs.objects.proofs.Sums.{zero_or_more}
use Rattle.jfs_link.specs.meaning.specs.Consistent.{IsConsistent}
use Rattle.jfs_link.specs.meaning.specs.Readers.{readers, root_of}
use Rattle.jfs_link.specs.meaning.specs.Room.{room_on}
use Rattle.jfs_link.specs.meaning.proofs.Fresh.{fresh_law}
use Rattle.jfs_link.specs.room.specs.Laws.{blocks_in}
use Rattle.jfs_link.specs.room.proofs.Rooms.{held_law}
use Rattle.jfs_link.specs.claim.specs.Look.{LooksFor}
use Rattle.jfs_link.specs.claim.specs.Take.{AreFresh, Lacks}
use Rattle.jfs_link.specs.claim.specs.declared.look.FreshInode.{FreshInode}
use Rattle.jfs_link.specs.lead_steps.proofs.Again.{few_links}
use Rattle.jfs_link.specs.way.specs.Answer.{is_open, Answers, names_refusal, view_refusal}
use Rattle.jfs_link.specs.way.specs.Volume.{volume_of, PlacesWithin}
use Rattle.jfs_link.specs.way.specs.Way.{inode_at, place_of}
use Rattle.jfs_link.specs.way.specs.Walk.{IsHeld, IsShown, tree_in}
use Rattle.jfs_link.specs.way.specs.declared.object.Held.{Held}
use Rattle.jfs_link.specs.way.proofs.Enters.{only_open}
use Rattle.jfs_link.specs.way.proofs.Nodes.{lives}
use Rattle.jfs_link.specs.way.proofs.Places.{home_is, place_is_home}
use Rattle.jfs_link.specs.steps.specs.After.{after_call}
use Rattle.jfs_link.specs.steps.specs.Call.{IsDone}
use Rattle.jfs_link.specs.steps.specs.Gains.{CanGain, GainRefused}
use Rattle.jfs_link.specs.steps.specs.Place.{last_of}
use Rattle.jfs_link.specs.steps.proofs.Grows.{dir_holds, no_extents_of}
use Rattle.jfs_link.specs.steps.proofs.LastNames.{IsDirectory, directory_is, object_is}
use Rattle.jfs_create.specs.Look.{Passes, InRoom, IsFree, too_many}
use Rattle.jfs_create.specs.Makes.{plain_of, links_after, gain_of}
use Rattle.jfs_create.specs.New.{FitsNew}
use Rattle.jfs_create.specs.Reserved.{MakesReserved, NotMade, IsMade, IsStopped, StepsInRoom, draft_of, want_with}
use Rattle.jfs_create.specs.Seat.{seat_in, site_in, site_on}
use Rattle.jfs_create.specs.declared.looks.Seen.{Seen}
use Rattle.jfs_create.specs.declared.make.Plan.{Plan}
use Rattle.jfs_create.specs.declared.new.NewObject.{NewObject}
use Rattle.jfs_create.specs.declared.new.NewObject.TheVariants.{File, Directory, Link}
use Rattle.jfs_create.specs.declared.reserve.Stop.{Stop}
use Rattle.jfs_create.specs.declared.plan.Draft.{Draft}
use Rattle.jfs_create.specs.declared.reserve.Stop.TheVariants.{Refused, NeedsLog}
use Rattle.jfs_create.specs.declared.seats.Site.{Site}
use Rattle.jfs_create.specs.declared.seats.Site.TheVariants.{There, Founding}
use Rattle.jfs_create.proofs.Outcomes as outcomes
use Rattle.jfs_create.proofs.Whole.{whole}
use Rattle.jfs_create.proofs.Sites.{ok_same, ok_err, number_free, apart, SitsAt, sits, needs_as, planned_for, can_stand, no_one}

err_same : {T : Type 0} {x y : Refusal} → ◌≡◌ {A = Result T Refusal} (Err x) (Err y) → x ≡ y
err_same h = cc (h)

-- ---- links

pub links_fit : (blocks : ℕ) (inodes : Inodes) (dir : Held) → IsHeld blocks inodes dir → dir.inode.nlink + 1 < 4294967296
links_fit blocks inodes dir held = let l = few_links dir.inode dir.number held.rules in omega (arith, l)

links_few : (object : NewObject) (links : ℕ) → links ≤ 65535 → too_many object links ≡ false → links_after object links ≤ 65535
links_few (File mode) links l h = l
links_few (Directory mode) links l h = below links h
  where
    below : (k : ℕ) → nat_le 65535 k ≡ false → k + 1 ≤ 65535
    below k h = grind (arith, nat_tests)
links_few (Link target) links l h = l

-- ---- on any volume

-- what was said of the view after other calls, said of the one before
pub moved : (R : ℕ → Image → List ℕ → Type 0) (b now : ℕ) (image shown : Image) (name last : List ℕ) → now ≡ b → shown ≡ image → name ≡ last → R now shown name → R b image last
moved R b now image shown name last same_count same_image called h =
    subst (λ (n : List ℕ). R b image n) called (subst (λ (i : Image). R b i name) same_image (subst (λ (k : ℕ). R k shown name) same_count h))

pub if_err : {T : Type 0} (P Q : Stop → Type 0) (r : Result T Stop) → ((why : Stop) → P why → Q why) → IfErr r P → IfErr r Q
if_err P Q (Ok x) f h = tt
if_err P Q (Err why) f h = f why h

pub if_ok : {T : Type 0} (P Q : T → Type 0) (r : Result T Stop) → ((x : T) → P x → Q x) → IfOk r P → IfOk r Q
if_ok P Q (Ok x) f h = f x h
if_ok P Q (Err why) f h = tt

module _ (blocks : ℕ) (pages : ℕ → List ℕ) (inodes : Inodes) (path : List (List ℕ)) (object : NewObject) (now : Moment) (before : Blocks) (seen : Seen) (passes : Passes blocks pages before inodes path object seen) where
  pub stopped_site : (why : Refusal) → Answers (site_on blocks pages inodes seen.dir seen.fresh) (Err why) → IsStopped blocks pages inodes path object now before (Refused why)
  stopped_site why (inl h) = inr (seen, passes, inl h)
  stopped_site why (inr h) = inl (inl h)

  pub stopped_rest : (site : Site) → site_on blocks pages inodes seen.dir seen.fresh ≡ Ok site → (why : Stop) → NotMade blocks pages seen.dir (last_of path) (draft_of object site now) before why
      → IsStopped blocks pages inodes path object now before why
  stopped_rest site sited (Refused why) h = inr (seen, passes, inr (site, sited, h))
  stopped_rest site sited NeedsLog h = (seen, passes, subst (λ (run : Bool). Lacks before (want_with run)) (needs_as inodes seen.dir seen.fresh site (sits blocks pages inodes seen.dir seen.fresh site sited)) h)

  pub is_made : (after : Blocks) (site : Site) → site_on blocks pages inodes seen.dir seen.fresh ≡ Ok site → (tx : List Edit) → MakesReserved blocks pages seen.dir (last_of path) (draft_of object site now) before after tx
      → IsMade blocks pages inodes path object now before after tx
  is_made after site sited tx made = record { seen = seen; site = site; passes = passes; sited = sited; made = made }

-- ---- on a consistent volume

some_page : (inodes : Inodes) (n : ℕ) → is_there (extent_at inodes (n / 32)) ≡ true → (page : ℕ) × (home_of inodes n ≡ Some page)
some_page inodes n h = ((extent_at inodes (n / 32)).addr + n % 32 / 8, ap (λ (x : Bool). if x then Some ((extent_at inodes (n / 32)).addr + n % 32 / 8) else None) h)

view_open : (e : ViewError) → is_open (view_refusal e) ≡ true
view_open (Read fault) = refl
view_open Memory = refl

module _ (blocks : ℕ) (pages : ℕ → List ℕ) (map : Blocks) (inodes : Inodes) (many : blocks_in map ≡ blocks) (within : PlacesWithin blocks inodes) (area : ℕ → ℕ) (con : IsConsistent (readers blocks) (volume_of pages area map inodes)) where
  abbrev r : Readers
  r = readers blocks

  abbrev v : Volume
  v = volume_of pages area map inodes

  abbrev t : Tree
  t = tree_in blocks pages area map inodes

  -- inode 2 is there, and a free number has its page
  pub site_open : (dir : Held) (fresh : FreshInode) (why : Refusal) → LooksFor map inodes (Ok fresh) → Answers (site_on blocks pages inodes dir fresh) (Err why) → is_open why ≡ true
  site_open dir fresh why looked (inr h) = h
  site_open dir fresh why looked (inl h) = by (inode_at blocks pages inodes no_page root) refl h
    where
      by_extent : (stamp : ℕ) (x : Bool) → fresh.needs_extent ≡ x
          → (if x then Ok (Founding (record { number = fresh.number; stamp = stamp; parent = dir.number })) else and_then (seat_in pages dir fresh.number stamp (place_of blocks inodes fresh.number)) (λ seated. Ok (There seated))) ≡ Err why
          → is_open why ≡ true
      by_extent stamp true needs h = absurd (ok_err h)
      by_extent stamp false none h = absurd (ok_err (sym (ap (λ (y : Option ℕ). and_then (seat_in pages dir fresh.number stamp y) (λ seated. Ok (There seated))) (place_is_home blocks inodes fresh.number p.0 within p.1)) ∙ h))
        where
          p : (page : ℕ) × (home_of inodes fresh.number ≡ Some page)
          p = some_page inodes fresh.number (apart (is_there (extent_at inodes (fresh.number / 32))) (is_used inodes fresh.number) (number_free map inodes fresh looked none)).0

      by : (x : Result Held Refusal) → inode_at blocks pages inodes no_page root ≡ x → and_then x (λ top. site_in blocks pages inodes dir fresh top.inode.inostamp) ≡ Err why → is_open why ≡ true
      by (Ok top) e h = by_extent top.inode.inostamp fresh.needs_extent refl h
      by (Err w) e h = only_open blocks pages area map inodes within con no_page root why (ap is_some con.tree.top.1.there) (inl (e ∙ ap (λ (x : Refusal). Err x) (err_same h)))

  used_below : (b : ℕ) → v.used b ≡ true → b < blocks
  used_below b h = subst (λ (k : ℕ). b < k) many (by (nat_lt b (length map.states)) refl h)
    where
      below_it : (k j : ℕ) → nat_lt k j ≡ true → k < j
      below_it k j h = grind (arith, nat_tests)

      by : (x : Bool) → nat_lt b (length map.states) ≡ x → (x && is_owned map b) ≡ true → b < length map.states
      by true e h = below_it b (length map.states) e
      by false e h = absurd (true≢false (sym h))

  unowned_unused : (b : ℕ) → is_owned map b ≡ false → v.used b ≡ false
  unowned_unused b e = by (nat_lt b (length map.states)) e
    where
      by : (x : Bool) → is_owned map b ≡ false → (x && is_owned map b) ≡ false
      by true e = e
      by false e = refl

  module _ (whole_pages : (b : ℕ) → b < blocks → length (pages b) ≡ 4096) (log_pages : ℕ) (object : NewObject) (few : FitsNew object) (path : List (List ℕ)) (now : Moment) (seen : Seen) (held : IsHeld blocks inodes seen.dir) (shown : IsShown pages seen.dir)
      (is_dir : has_names seen.dir.inode ≡ true) (passes : Passes blocks pages map inodes path object seen) (free_room : IsFree object (room_on r v blocks log_pages) t path seen) where
    abbrev dir : Held
    dir = seen.dir

    abbrev name : List ℕ
    name = last_of path

    abbrev space : Room
    space = room_on r v blocks log_pages

    directory : IsDirectory blocks pages t dir
    directory = directory_is blocks pages area map inodes con dir held shown free_room.there is_dir

    was : objects r v dir.number ≡ Some (spelled r pages dir.inode)
    was = object_is blocks pages area map inodes con dir held shown free_room.there

    -- the plain step can be taken
    pub can_step : (u : Tree) × (plain_of object space t path now ≡ Ok (Done, u))
    can_step = (
      outcomes.tree_after object dir.number (record { name = name; inode = seen.fresh.number }) now t,
      outcomes.done object space t path now dir.number name free_room.place free_room.links free_room.space seen.fresh.number free_room.inode free_room.deep,
    )

    can : (free : List Pxd) → AreFresh map 8 (blocks_of free) → CanGain blocks v dir directory.names free
    can free fresh = record {
      sound = con.sound;
      whole = whole_pages;
      used_within = used_below;
      at = home_is inodes dir.number ∙ held.home;
      was = was;
      is_dir = is_dir;
      names = directory.spelled;
      once = fresh.once;
      free_within = subst (λ (k : ℕ). AllBelow k (blocks_of free)) many fresh.within;
      fresh = λ b l. unowned_unused b (fresh.unowned b l);
    }

    -- ---- the name isn't refused

    name_is_new : named name directory.names ≡ None
    name_is_new = sym (ap (λ (x : Option Node). named_in x name) directory.there ∙ ap (named name) directory.names_are) ∙ none (place t path) free_room.place
      where
        free_name : (p : Place) (x : Option ℕ) → at_place t p ≡ x → unless_there x p ≡ Ok (place_at dir.number name) → named_in (t.nodes dir.number) name ≡ None
        free_name p None e h = ap (at_place t) (sym (ok_same h)) ∙ e
        free_name p (Some n) e h = absurd (ok_err (sym h))

        none : (x : Result Place Refusal) → and_then x (λ p. unless_there (at_place t p) p) ≡ Ok (place_at dir.number name) → named_in (t.nodes dir.number) name ≡ None
        none (Ok p) h = free_name p (at_place t p) refl h
        none (Err why) h = absurd (ok_err (sym h))

    not_deep : is_deep blocks pages (root_of dir.inode) name ≡ false
    not_deep = sym (held_law blocks log_pages pages area map inodes dir name con held shown free_room.there ∙ ap (λ (y : Bool). y && is_deep blocks pages (root_of dir.inode) name) is_dir) ∙ free_room.deep

    spare : (free : List Pxd) → AreFresh map 8 (blocks_of free) → IsSpare name_scale (page_nodes blocks pages) (root_node blocks (root_of dir.inode)) (blocks_of free)
    spare free fresh = record { once = fresh.once; apart = apart }
      where
        apart : (b : ℕ) → 0 < count_in b (blocks_of free) → owned_pages blocks pages (root_of dir.inode) b ≡ 0
        apart b l = elim (zero_or_more (owned_pages blocks pages (root_of dir.inode) b)) [
          | inl z ↦ z
          | inr o ↦ absurd (true≢false (sym ((owned_once r v con.sound.agrees).in_use dir.number b
              (let e = ap (λ o. holds r o b) was ∙ dir_holds blocks pages dir.inode directory.names b is_dir (no_extents_of dir.inode is_dir) directory.spelled in omega (arith, e, o))) ∙ unowned_unused b (fresh.unowned b l)))
        ]

    pub gain_open : (plan : Plan) (free : List Pxd) → AreFresh map 8 (blocks_of free) → (why : Refusal) → GainRefused blocks pages dir name (gain_of plan dir) free why → is_open why ≡ true
    gain_open plan free fresh why (inl h) = h
    gain_open plan free fresh why (inr h) = ap is_open h.1 ∙ by h.0 h.2
      where
        some_none : {x : ℕ} → Some x ≡ None → ⊥
        some_none h = cc (h)

        by : (e : DtError) → RefusesName blocks pages (record { name = name; inode = plan.seat.number }) (root_of dir.inode) (blocks_of free) e → is_open (names_refusal dir.number dir.page e) ≡ true
        by (dt.View e) h = view_open e
        by (dt.Bad page rule) h = absurd (h directory.names directory.spelled (spare free fresh))
        by dt.Exists h = let x = h directory.names directory.spelled in absurd (some_none (sym x.1 ∙ name_is_new))
        by dt.Missing h = absurd h
        by dt.TooDeep h = absurd (true≢false (sym (h directory.names directory.spelled).1 ∙ not_deep))

    module _ (site : Site) (sited : site_on blocks pages inodes dir seen.fresh ≡ Ok site) where
      abbrev draft : Draft
      draft = draft_of object site now

      sat : SitsAt inodes dir seen.fresh site
      sat = sits blocks pages inodes dir seen.fresh site sited

      live : is_live dir.number dir.inode ≡ true
      live = ap (is_live dir.number) shown ∙ lives blocks v con dir.number dir.page (home_is inodes dir.number ∙ held.home) free_room.there

      pub step_done : (after : Blocks) (tx : List Edit) → MakesReserved blocks pages dir name draft map after tx → IsDone blocks v (after_call blocks tx v) (λ t. plain_of object space t path now)
      step_done after tx made =
          let plan = made.plan in
          let p = planned_for inodes dir seen.fresh draft made.run plan site sat made.planned in
          subst (λ (o : NewObject). IsDone blocks v (after_call blocks tx v) (λ t. plain_of o space t path now)) p.0
          (subst (λ (m : Moment). IsDone blocks v (after_call blocks tx v) (λ t. plain_of plan.object space t path m)) p.1
          (whole blocks v con dir directory.names made.free made.left (can made.free made.may.fresh) held.rules live name plan (subst FitsNew (sym p.0) few) p.3 tx made.makes
          (subst (λ (o : NewObject). links_after o dir.inode.nlink ≤ 65535) (sym p.0) (links_few object dir.inode.nlink (few_links dir.inode dir.number held.rules) passes.links))
          (can_stand blocks pages map inodes many area con dir seen.fresh passes.inode draft made.free site made.run plan sat made.may made.planned)
          (ap (objects r v) p.2 ∙ no_one blocks pages map inodes many area con dir seen.fresh passes.inode draft made.free site sat)
          directory.node directory.there directory.links_are path space (fresh_law r v blocks log_pages con) free_room.place
          (subst (λ (o : NewObject). too_many o (links_of t dir.number) ≡ false) (sym p.0) free_room.links) free_room.space (free_room.inode ∙ ap (λ (n : ℕ). Some n) (sym p.2)) free_room.deep))

module _ (blocks : ℕ) (pages : ℕ → List ℕ) (map : Blocks) (inodes : Inodes) (whole_pages : (b : ℕ) → b < blocks → length (pages b) ≡ 4096) (object : NewObject) (few : FitsNew object) (path : List (List ℕ)) (now : Moment) (seen : Seen) (held : IsHeld blocks inodes seen.dir)
    (shown : IsShown pages seen.dir) (is_dir : has_names seen.dir.inode ≡ true) (passes : Passes blocks pages map inodes path object seen) (looked : InRoom blocks pages map inodes (λ room t. IsFree object room t path seen)) where
  -- whatever stops the call then, the plain step can be taken
  pub can_be : InRoom blocks pages map inodes (λ room t. (u : Tree) × (plain_of object room t path now ≡ Ok (Done, u)))
  can_be many rest within area con log_pages = can_step blocks pages map inodes many within area con whole_pages log_pages object few path now seen held shown is_dir passes (looked many rest within area con log_pages)

  pub no_site : (why : Refusal) → Answers (site_on blocks pages inodes seen.dir seen.fresh) (Err why) → InRoom blocks pages map inodes (λ room t. (plain_of object room t path now ≡ Err why) ⊎ (is_open why ≡ true))
  no_site why h many rest within area con log_pages = inr (site_open blocks pages map inodes many within area con seen.dir seen.fresh why passes.inode h)

  module _ (site : Site) (sited : site_on blocks pages inodes seen.dir seen.fresh ≡ Ok site) (after : Blocks) where
    stopped : (why : Refusal) → NotMade blocks pages seen.dir (last_of path) (draft_of object site now) map (Refused why) → InRoom blocks pages map inodes (λ room t. (plain_of object room t path now ≡ Err why) ⊎ (is_open why ≡ true))
    stopped why (inl h) many rest within area con log_pages = inr h
    stopped why (inr h) many rest within area con log_pages =
        inr (gain_open blocks pages map inodes many within area con whole_pages log_pages object few path now seen held shown is_dir passes (looked many rest within area con log_pages) h.plan h.free h.may.fresh why h.refused)

    pub steps : (r : Result (List Edit) Stop) → IfOk r (MakesReserved blocks pages seen.dir (last_of path) (draft_of object site now) map after) → IfErr r (NotMade blocks pages seen.dir (last_of path) (draft_of object site now) map)
        → StepsInRoom blocks pages map inodes (λ room t. plain_of object room t path now) r
    steps (Ok tx) made none = λ many rest within area con log_pages.
        step_done blocks pages map inodes many within area con whole_pages log_pages object few path now seen held shown is_dir passes (looked many rest within area con log_pages) site sited after tx made
    steps (Err (Refused why)) made none = stopped why none
    steps (Err NeedsLog) made none = can_be
