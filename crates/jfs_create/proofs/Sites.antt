-- Where a new inode is to stand, and the plan on it.
use Rattle.std.proofs.Common.{◌≡◌, ◌≤◌, ◌<◌, refl, sym, ap, ◌∙◌, subst, ℕ, zero, suc, ◌+◌, ◌*◌, ◌/◌, ◌%◌, Bool, true, false, true≢false, not, ◌&&◌, ◌==◌, nat_le, nat_lt, if◌then◌else◌, List, length, map, get_or, Option, Some, None, is_some, IfSome, Result, Ok, Err, arith}
use Rattle.std.proofs.lemmas.Bool.Decides.{nat_tests}
use Rattle.std.proofs.lemmas.List.{get_or-map, length-map}
use Rattle.jfs_bits.specs.Bits.{is_free}
use Rattle.jfs_bits.specs.Descriptor.{FitsPxd}
use Rattle.jfs_bits.specs.declared.descriptor.Pxd.{Pxd}
use Rattle.jfs_iag.specs.Iag.{no_run}
use Rattle.jfs_iag.specs.Canonical.{is_there}
use Rattle.jfs_imap.specs.Inodes.{Inodes, IsPick, IsLowestPlace, extent_at, home_in, home_of, is_free as is_free_inode, is_used as is_used_inode}
use Rattle.jfs_imap.specs.declared.inode_map.Pick.{Pick}
use Rattle.jfs_imap.specs.declared.inode_map.Pick.TheVariants.{Number, NeedsExtent, NoInodes}
use Rattle.jfs_bmap.specs.States.{BlockState, Blocks, Free, Owned, Reserved, Busy, state_of, is_used, is_owned_state, is_free_state}
use Rattle.jfs_bmap.proofs.Reservations.{lowest-free, free-within}
use Rattle.jfs_bmap.proofs.States.{free_run-at, in_list-one}
use Rattle.jfs_tree.specs.Fresh.{blocks_of}
use Rattle.jfs_tree.specs.Spells.{no_page}
use Rattle.jfs_link.specs.objects.specs.Image.{extent_place}
use Rattle.jfs_link.specs.objects.specs.Volume.{Volume, home}
use Rattle.jfs_link.specs.objects.specs.Objects.{Object, objects}
use Rattle.jfs_link.specs.objects.specs.Owners.{extent_has}
use Rattle.jfs_link.specs.objects.proofs.Found.{no_home}
use Rattle.jfs_link.specs.meaning.specs.Consistent.{IsConsistent}
use Rattle.jfs_link.specs.meaning.specs.Readers.{readers}
use Rattle.jfs_plain.specs.Tree.{root, and_then}
use Rattle.jfs_plain.specs.declared.refusal.Refusal.{Refusal}
use Rattle.jfs_plain.specs.declared.refusal.Refusal.TheVariants.{NoInodes as NoFreeInode}
use Rattle.jfs_link.specs.room.specs.Laws.{blocks_in}
use Rattle.jfs_link.specs.claim.specs.Look.{LooksFor, inode_by}
use Rattle.jfs_link.specs.claim.specs.declared.look.FreshInode.{FreshInode}
use Rattle.jfs_link.specs.way.specs.Volume.{volume_of}
use Rattle.jfs_link.specs.way.specs.Way.{inode_at, if_within, place_of}
use Rattle.jfs_link.specs.way.specs.declared.object.Held.{Held}
use Rattle.jfs_link.specs.way.proofs.Nodes.{stands}
use Rattle.jfs_link.specs.way.proofs.Places.{home_is}
use Rattle.jfs_create.specs.Makes.{CanStand, IsNewPlace, FitsExtent}
use Rattle.jfs_create.specs.Plans.{IsPlannedAt, SuitsRun, extent_on}
use Rattle.jfs_create.specs.Reserved.{MayTake}
use Rattle.jfs_create.specs.Seat.{seat_in, site_in, site_on, IsSiteWithin, needs_run}
use Rattle.jfs_create.specs.declared.make.Plan.{Plan}
use Rattle.jfs_create.specs.declared.plan.Draft.{Draft}
use Rattle.jfs_create.specs.declared.seats.Founded.{Founded}
use Rattle.jfs_create.specs.declared.seats.Site.{Site}
use Rattle.jfs_create.specs.declared.seats.Site.TheVariants.{There, Founding}

pub ok_same : {T : Type 0} {x y : T} → ◌≡◌ {A = Result T Refusal} (Ok x) (Ok y) → x ≡ y
ok_same h = cc (h)

pub ok_err : {T : Type 0} {x : T} {why : Refusal} → ◌≡◌ {A = Result T Refusal} (Ok x) (Err why) → ⊥
ok_err h = cc (h)

-- ---- the number, by the maps

-- a number of an extent that isn't there: the first one of the lowest such place, for which there is a run
pub record IsFounding (inodes : Inodes) (fresh : FreshInode) (run : Bool) : Type 0 where
  pub place : ℕ
  pub lowest : IsLowestPlace inodes place
  pub few : place < 134217728
  pub number : fresh.number ≡ 32 * place
  pub there : run ≡ true

both : (x y : Bool) → (x && y) ≡ true → (x ≡ true) × (y ≡ true)
both true true h = (refl, refl)
both true false h = absurd (true≢false (sym h))
both false y h = absurd (true≢false (sym h))

below : (a b : ℕ) → nat_lt a b ≡ true → a < b
below a b h = grind (arith, nat_tests)

founding_by : (inodes : Inodes) (fresh : FreshInode) (pick : Pick) (run : Bool) → IsPick inodes pick → Ok fresh ≡ inode_by pick run → fresh.needs_extent ≡ true → IsFounding inodes fresh run
founding_by inodes fresh (Number n) run is e h = absurd (true≢false (sym h ∙ ap (λ (x : FreshInode). x.needs_extent) (ok_same e)))
founding_by inodes fresh NoInodes run is e h = absurd (ok_err e)
founding_by inodes fresh (NeedsExtent place) run is e h = by (nat_lt place 134217728 && run) refl e
  where
    by : (x : Bool) → (nat_lt place 134217728 && run) ≡ x → ◌≡◌ {A = Result FreshInode Refusal} (Ok fresh) (if x then Ok (record { number = 32 * place; needs_extent = true }) else Err NoFreeInode) → IsFounding inodes fresh run
    by true t e = let p = both (nat_lt place 134217728) run t in record {
      place = place;
      lowest = is.1;
      few = below place 134217728 p.0;
      number = ap (λ (x : FreshInode). x.number) (ok_same e);
      there = p.1;
    }
    by false t e = absurd (ok_err e)

pub founding : (map : Blocks) (inodes : Inodes) (fresh : FreshInode) (looked : LooksFor map inodes (Ok fresh)) → fresh.needs_extent ≡ true → IsFounding inodes fresh looked.1
founding map inodes fresh looked needs = founding_by inodes fresh looked.0 looked.1 looked.2 looked.4 needs

pub numbers_fit : (map : Blocks) (inodes : Inodes) (fresh : FreshInode) → LooksFor map inodes (Ok fresh) → fresh.needs_extent ≡ true → fresh.number + 32 ≤ 4294967296
numbers_fit map inodes fresh looked needs = let f = founding map inodes fresh looked needs in let l = f.few in let e = f.number in omega (arith, l, e)

needs_none : (fresh : FreshInode) (first : ℕ) (x : Bool) → ◌≡◌ {A = Result FreshInode Refusal} (Ok fresh) (if x then Ok (record { number = first; needs_extent = true }) else Err NoFreeInode) → fresh.needs_extent ≡ false → ⊥
needs_none fresh first true e h = true≢false (sym (ap (λ (y : FreshInode). y.needs_extent) (ok_same e)) ∙ h)
needs_none fresh first false e h = ok_err e

picked_free : (inodes : Inodes) (fresh : FreshInode) (pick : Pick) (run : Bool) → IsPick inodes pick → Ok fresh ≡ inode_by pick run → fresh.needs_extent ≡ false → is_free_inode inodes fresh.number ≡ true
picked_free inodes fresh (Number n) run is e h = ap (is_free_inode inodes) (ap (λ (x : FreshInode). x.number) (ok_same e)) ∙ is.0
picked_free inodes fresh (NeedsExtent at) run is e h = absurd (needs_none fresh (32 * at) (nat_lt at 134217728 && run) e h)
picked_free inodes fresh NoInodes run is e h = absurd (ok_err e)

-- a number of an extent that is there is free
pub number_free : (map : Blocks) (inodes : Inodes) (fresh : FreshInode) → LooksFor map inodes (Ok fresh) → fresh.needs_extent ≡ false → is_free_inode inodes fresh.number ≡ true
number_free map inodes fresh looked there = picked_free inodes fresh looked.0 looked.1 looked.2 looked.4 there

pub apart : (x y : Bool) → (x && not y) ≡ true → (x ≡ true) × (y ≡ false)
apart true true h = absurd (true≢false (sym h))
apart true false h = (refl, refl)
apart false y h = absurd (true≢false (sym h))

-- ---- the site

abbrev pub SitsAt : Inodes → Held → FreshInode → Site → Type 0
SitsAt inodes dir fresh (There seated) = (fresh.needs_extent ≡ false) × (home_of inodes fresh.number ≡ Some seated.page) × (seated.seat.number ≡ fresh.number) × (seated.seat.parent ≡ dir.number)
SitsAt inodes dir fresh (Founding founded) = (fresh.needs_extent ≡ true) × (founded.number ≡ fresh.number) × (founded.parent ≡ dir.number)

module _ (blocks : ℕ) (pages : ℕ → List ℕ) (inodes : Inodes) (dir : Held) (fresh : FreshInode) where
  within_is : (p : Option ℕ) (page : ℕ) → if_within blocks p ≡ Some page → p ≡ Some page
  within_is None page h = h
  within_is (Some k) page h = by (nat_lt k blocks) h
    where
      by : (x : Bool) → (if x then Some k else None) ≡ Some page → Some k ≡ Some page
      by true h = h
      by false h = absurd (cc (h))

  there : (site : Site) (stamp : ℕ) (p : Option ℕ) → place_of blocks inodes fresh.number ≡ p → fresh.needs_extent ≡ false → and_then (seat_in pages dir fresh.number stamp p) (λ seated. Ok (There seated)) ≡ Ok site → SitsAt inodes dir fresh site
  there site stamp None at none h = absurd (ok_err (sym h))
  there site stamp (Some page) at none h = subst (SitsAt inodes dir fresh) (ok_same h) (none, within_is (home_of inodes fresh.number) page at, refl, refl)

  by_extent : (site : Site) (stamp : ℕ) (x : Bool) → fresh.needs_extent ≡ x
      → (if x then Ok (Founding (record { number = fresh.number; stamp = stamp; parent = dir.number })) else and_then (seat_in pages dir fresh.number stamp (place_of blocks inodes fresh.number)) (λ seated. Ok (There seated))) ≡ Ok site
      → SitsAt inodes dir fresh site
  by_extent site stamp true needs h = subst (SitsAt inodes dir fresh) (ok_same h) (needs, refl, refl)
  by_extent site stamp false none h = there site stamp (place_of blocks inodes fresh.number) refl none h

  pub sits : (site : Site) → site_on blocks pages inodes dir fresh ≡ Ok site → SitsAt inodes dir fresh site
  sits site h = by (inode_at blocks pages inodes no_page root) h
    where
      by : (x : Result Held Refusal) → and_then x (λ top. site_in blocks pages inodes dir fresh top.inode.inostamp) ≡ Ok site → SitsAt inodes dir fresh site
      by (Err why) h = absurd (ok_err (sym h))
      by (Ok top) h = by_extent site top.inode.inostamp fresh.needs_extent refl h

-- an extent is to be made exactly where the number needs one
pub needs_as : (inodes : Inodes) (dir : Held) (fresh : FreshInode) (site : Site) → SitsAt inodes dir fresh site → needs_run site ≡ fresh.needs_extent
needs_as inodes dir fresh (There seated) sat = sym sat.0
needs_as inodes dir fresh (Founding founded) sat = sym sat.0

-- ---- the plan

-- what the edits ask of a plan
pub record FitsPlan (blocks : ℕ) (draft : Draft) (plan : Plan) : Type 0 where
  pub object : plan.object ≡ draft.object
  pub now : plan.now ≡ draft.now
  pub extent : FitsPxd plan.seat.extent
  pub page : plan.page < blocks
  pub new : IfSome plan.extent FitsExtent

module _ (blocks : ℕ) (draft : Draft) where
  pub fits_at : (site : Site) (run : Option Pxd) (plan : Plan) → IsSiteWithin blocks site → SuitsRun site run → ((r : Pxd) → run ≡ Some r → r.addr < blocks) → IsPlannedAt draft site run plan → FitsPlan blocks draft plan
  fits_at (There seated) None plan within suits inside planned = subst (FitsPlan blocks draft) (sym planned) (record { object = refl; now = refl; extent = within.1; page = within.0; new = tt })
  fits_at (There seated) (Some run) plan within suits inside planned = absurd suits
  fits_at (Founding founded) None plan within suits inside planned = absurd suits
  fits_at (Founding founded) (Some run) plan within suits inside planned = subst (FitsPlan blocks draft) (sym planned) (record {
    object = refl;
    now = refl;
    extent = record { len = omega arith; addr = (let l = suits.1 in omega (arith, l)) };
    page = inside run refl;
    new = (record { len = (let l = suits.0 in omega (arith, l)); addr = (let l = suits.1 in omega (arith, l)) }, (let l = suits.1 in omega (arith, l)), within.0);
  })

module _ (inodes : Inodes) (dir : Held) (fresh : FreshInode) (draft : Draft) (run : Option Pxd) (plan : Plan) where
  -- its inode has the number, and knows its directory
  pub planned_for : (site : Site) → SitsAt inodes dir fresh site → IsPlannedAt draft site run plan → (plan.object ≡ draft.object) × (plan.now ≡ draft.now) × (plan.seat.number ≡ fresh.number) × (plan.seat.parent ≡ dir.number)
  planned_for site sat planned = by site run sat planned
    where
      by : (site : Site) (run : Option Pxd) → SitsAt inodes dir fresh site → IsPlannedAt draft site run plan → (plan.object ≡ draft.object) × (plan.now ≡ draft.now) × (plan.seat.number ≡ fresh.number) × (plan.seat.parent ≡ dir.number)
      by (There seated) None sat planned = (ap (λ (p : Plan). p.object) planned, ap (λ (p : Plan). p.now) planned, ap (λ (p : Plan). p.seat.number) planned ∙ sat.2, ap (λ (p : Plan). p.seat.parent) planned ∙ sat.3)
      by (There seated) (Some run) sat planned = absurd planned
      by (Founding founded) None sat planned = absurd planned
      by (Founding founded) (Some run) sat planned = (ap (λ (p : Plan). p.object) planned, ap (λ (p : Plan). p.now) planned, ap (λ (p : Plan). p.seat.number) planned ∙ sat.1, ap (λ (p : Plan). p.seat.parent) planned ∙ sat.2)

-- ---- on a consistent volume

not_false : (x : Bool) → not x ≡ false → x ≡ true
not_false true h = refl
not_false false h = absurd (true≢false h)

free_owner : (s : BlockState) → is_free_state s ≡ true → is_owned_state s ≡ false
free_owner Free h = refl
free_owner Owned h = absurd (true≢false (sym h))
free_owner Reserved h = refl
free_owner (Busy entry) h = refl

and_no : (x : Bool) → (x && false) ≡ false
and_no true = refl
and_no false = refl

none_from : (x : Option Object) → is_some x ≡ false → x ≡ None
none_from None h = refl
none_from (Some o) h = absurd (true≢false h)

module _ (blocks : ℕ) (pages : ℕ → List ℕ) (map : Blocks) (inodes : Inodes) (many : blocks_in map ≡ blocks) (area : ℕ → ℕ) (con : IsConsistent (readers blocks) (volume_of pages area map inodes)) where
  abbrev v : Volume
  v = volume_of pages area map inodes

  -- the root's extent is there
  root_place : is_there (extent_at inodes 0) ≡ true
  root_place = let s = stands blocks v con 2 (ap is_some con.tree.top.1.there) in by (is_there (extent_at inodes 0)) refl (sym (home_is inodes 2) ∙ s.1)
    where
      by : {p : ℕ} (x : Bool) → is_there (extent_at inodes 0) ≡ x → (if x then Some ((extent_at inodes 0).addr + 2 % 32 / 8) else None) ≡ Some p → is_there (extent_at inodes 0) ≡ true
      by true e h = e
      by false e h = absurd (cc (h))

  module _ (place : ℕ) (lowest : IsLowestPlace inodes place) where
    no_place : get_or v.extents place None ≡ None
    no_place = get_or-map extent_place inodes.extents place no_run None lowest.0 ∙ ap (λ (x : Bool). if x then None else Some (extent_at inodes place).addr) (not_false ((extent_at inodes place).len == 0 && (extent_at inodes place).addr == 0) lowest.1)

    behind : 0 < place
    behind = by place lowest.1
      where
        by : (e : ℕ) → is_there (extent_at inodes e) ≡ false → 0 < e
        by zero h = absurd (true≢false (sym root_place ∙ h))
        by (suc e) h = omega arith

    no_object_there : objects (readers blocks) v (32 * place) ≡ None
    no_object_there = no_home (readers blocks) v (32 * place) (home_is inodes (32 * place) ∙ ap (λ (e : ℕ). home_in (extent_at inodes e) (32 * place)) (placed place) ∙ ap (λ (x : Bool). if x then Some ((extent_at inodes place).addr + 32 * place % 32 / 8) else None) lowest.1)
      where
        placed : (k : ℕ) → 32 * k / 32 ≡ k
        placed k = omega arith

  module _ (founded : Founded) (run : Pxd) (free : List Pxd) (may : MayTake map (Founding founded) (Some run) free) where
    four : run.len ≡ 4
    four = may.run_is.1

    run_free : is_free (is_used map) run.addr run.len ≡ true
    run_free = lowest-free (is_used map) 2 run.addr run.len (omega (arith, four)) may.run_is.2

    inside : run.addr + 4 ≤ blocks
    inside = let w = free-within map run.addr run.len run_free (omega (arith, four)) in omega (arith, w, four, many)

    in_four : (b : ℕ) → 0 < extent_has (Some run.addr) b → (nat_le run.addr b && nat_lt b (run.addr + run.len)) ≡ true
    in_four b l = by (nat_le run.addr b && nat_lt b (run.addr + 4)) refl l
      where
        by : (x : Bool) → (nat_le run.addr b && nat_lt b (run.addr + 4)) ≡ x → 0 < (if x then 1 else 0) → (nat_le run.addr b && nat_lt b (run.addr + run.len)) ≡ true
        by true e l = ap (λ (n : ℕ). nat_le run.addr b && nat_lt b (run.addr + n)) four ∙ e
        by false e l = absurd (omega (arith, l))

    not_owned : (b : ℕ) → is_used map b ≡ false → v.used b ≡ false
    not_owned b h = ap (λ (x : Bool). nat_lt b (length map.states) && x) (free_owner (state_of map b) (not_false (is_free_state (state_of map b)) h)) ∙ and_no (nat_lt b (length map.states))

    -- the run is a place for a new extent
    stands_new : (fresh : FreshInode) (told : Bool) → IsFounding inodes fresh told → founded.number ≡ fresh.number → IsNewPlace blocks v (blocks_of free) founded.number run.addr (extent_on founded run)
    stands_new fresh told founds number = record {
      place = founds.place;
      numbers = number ∙ founds.number;
      first = refl;
      page_is = refl;
      inside = inside;
      behind = behind founds.place founds.lowest;
      few = subst (λ (n : ℕ). founds.place < n) (sym (length-map inodes.extents extent_place)) founds.lowest.0;
      none = no_place founds.place founds.lowest;
      fresh = λ b l. not_owned b (free_run-at (is_used map) run.addr run.len b run_free (in_four b l));
      apart = λ b l. may.apart b (in_list-one run b ∙ in_four b l);
    }

  -- no object has a free number
  no_object : (n : ℕ) → is_free_inode inodes n ≡ true → objects (readers blocks) v n ≡ None
  no_object n free = none_from (objects (readers blocks) v n) (sym (con.sound.agrees.inodes n) ∙ (apart (is_there (extent_at inodes (n / 32))) (is_used_inode inodes n) free).1)

  module _ (dir : Held) (fresh : FreshInode) (looked : LooksFor map inodes (Ok fresh)) (draft : Draft) (free : List Pxd) where
    pub can_stand : (site : Site) (run : Option Pxd) (plan : Plan) → SitsAt inodes dir fresh site → MayTake map site run free → IsPlannedAt draft site run plan → CanStand blocks v (blocks_of free) plan.seat.number plan.page plan.extent
    can_stand (There seated) None plan sat may planned = subst (λ (p : Plan). CanStand blocks v (blocks_of free) p.seat.number p.page p.extent) (sym planned) (ap (home v.extents) sat.2 ∙ home_is inodes fresh.number ∙ sat.1)
    can_stand (There seated) (Some run) plan sat may planned = absurd planned
    can_stand (Founding founded) None plan sat may planned = absurd planned
    can_stand (Founding founded) (Some run) plan sat may planned = subst (λ (p : Plan). CanStand blocks v (blocks_of free) p.seat.number p.page p.extent) (sym planned)
        (stands_new founded run free may fresh looked.1 (founding map inodes fresh looked sat.0) sat.1)

    pub no_one : (site : Site) → SitsAt inodes dir fresh site → objects (readers blocks) v fresh.number ≡ None
    no_one (There seated) sat = no_object fresh.number (number_free map inodes fresh looked sat.0)
    no_one (Founding founded) sat = let f = founding map inodes fresh looked sat.0 in ap (objects (readers blocks) v) f.number ∙ no_object_there f.place f.lowest
