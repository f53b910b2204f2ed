-- What is asked of a consistent volume, and what the plain step of a rename asks.
use Rattle.std.proofs.Common.{◌≡◌, ◌⊎◌, ◌≤◌, ◌<◌, ◌-◌, refl, sym, ap, ◌∙◌, subst, inl, inr, ℕ, Bool, true, false, true≢false, ◌==◌, if◌then◌else◌, List, [], length, get_or, Option, Some, None, Result, Ok, Err, IfSome, arith}
use Rattle.jfs_bits.specs.declared.descriptor.Moment.{Moment}
use Rattle.jfs_imap.specs.Inodes.{Inodes}
use Rattle.jfs_bmap.specs.States.{Blocks}
use Rattle.jfs_plain.specs.Tree.{Tree, Place, is_dir, at_place, place_at, passes, and_then}
use Rattle.jfs_plain.specs.Step.{Room, rename, links_in, links_of, why_barred, why_kept}
use Rattle.jfs_plain.specs.declared.node.Node.{Node}
use Rattle.jfs_plain.specs.declared.refusal.Refusal.{Refusal}
use Rattle.jfs_plain.specs.declared.refusal.Refusal.TheVariants.{NoSpace, TooDeep}
use Rattle.jfs_plain.specs.declared.reply.Reply.TheVariants.{Done}
use Rattle.jfs_link.specs.objects.specs.Objects.{has_names}
use Rattle.jfs_link.specs.meaning.specs.Readers.{readers}
use Rattle.jfs_link.specs.meaning.specs.Consistent.{IsConsistent}
use Rattle.jfs_link.specs.meaning.proofs.Found.{ok_is}
use Rattle.jfs_link.specs.way.specs.Answer.{is_open}
use Rattle.jfs_link.specs.way.specs.Volume.{volume_of}
use Rattle.jfs_link.specs.way.specs.Walk.{IsHeld, IsShown, IsThere, IfConsistent, tree_in}
use Rattle.jfs_disk.specs.Image.{Image, page_of}
use Rattle.jfs_link.specs.way.specs.declared.object.Held.{Held}
use Rattle.jfs_link.specs.steps.specs.Place.{last_of}
use Rattle.jfs_link.specs.place.specs.Place.{StandsAt}
use Rattle.jfs_link.proofs.Asks.{last_is}
use Rattle.jfs_unlink.proofs.Ended.{IsNodeOf, node_of_it}
use Rattle.jfs_rename_steps.specs.declared.moving.Moving.{Moving}
use Rattle.jfs_rename.specs.Ends.{AreEnds, AreHeld, AreShown}
use Rattle.jfs_rename.specs.Permits.{free_check, over_check, permitted}
use Rattle.jfs_rename.specs.Asks.{IsRoomFor, MayMove, MayReplace, MayDo, MayRename, RefusesRename, changes_nothing}
use Rattle.jfs_rename.specs.declared.permits.Asked.{Asked}
use Rattle.jfs_rename.specs.declared.permits.Asked.TheVariants.{Same, Free, Over}
use Rattle.jfs_rename.proofs.Plain.{barred, short, deep, same, kept, short_over, deep_over}
use Rattle.jfs_rename.proofs.Kept.{barred_inside, some_barred, none_barred, over_refused, over_allowed, kept_inside}

module _ (blocks : ℕ) (pages : ℕ → List ℕ) (area : ℕ → ℕ) (bm : Blocks) (inodes : Inodes) (con : IsConsistent (readers blocks) (volume_of pages area bm inodes))
    (room : Room) (from to : List (List ℕ)) (moving : Moving) (held : AreHeld blocks inodes moving) (shown : AreShown pages moving) (ends : AreEnds (tree_in blocks pages area bm inodes) from to moving)
    (inside : Bool) (told : has_names moving.object.inode ≡ true → inside ≡ passes (tree_in blocks pages area bm inodes) to moving.object.number) where
  abbrev t : Tree
  t = tree_in blocks pages area bm inodes

  abbrev m : ℕ
  m = moving.object.number

  abbrev by_dir : Bool
  by_dir = has_names moving.object.inode

  abbrev p : Place
  p = place_at moving.source.number (last_of from)

  abbrev q : Place
  q = place_at moving.target.number (last_of to)

  abbrev node : IsNodeOf blocks pages t moving.object
  node = node_of_it blocks pages area bm inodes con moving.object held.0 shown.0 ends.there

  abbrev target : IsNodeOf blocks pages t moving.target
  target = node_of_it blocks pages area bm inodes con moving.target held.2 shown.2 ends.target_there

  -- ---- where nothing stands

  module _ (none : at_place t q ≡ None) where
    same_barred : why_barred (is_dir node.node.kind) (passes t to m) (p.dir == q.dir) (links_of t q.dir) ≡ why_barred by_dir inside (p.dir == q.dir) moving.target.inode.nlink
    same_barred = ap (λ (x : Bool). why_barred x (passes t to m) (p.dir == q.dir) (links_of t q.dir)) node.dir
        ∙ ap (λ (l : ℕ). why_barred by_dir (passes t to m) (p.dir == q.dir) l) (ap links_in target.there ∙ target.links)
        ∙ sym (barred_inside by_dir inside (passes t to m) (p.dir == q.dir) moving.target.inode.nlink told)

    pub free_refused : (why : Refusal) → free_check moving inside ≡ Err why → (now : Moment) → rename room t from to now ≡ Err why
    free_refused why e now = barred t room from to now m node.node ends.walked node.there ends.named p ends.source q ends.target none why
        (same_barred ∙ some_barred (why_barred by_dir inside (p.dir == q.dir) moving.target.inode.nlink) why e)

    module _ (free : free_check moving inside ≡ Ok tt) where
      passed : why_barred (is_dir node.node.kind) (passes t to m) (p.dir == q.dir) (links_of t q.dir) ≡ None
      passed = same_barred ∙ none_barred (why_barred by_dir inside (p.dir == q.dir) moving.target.inode.nlink) free

      pub no_room_free : (why : Refusal) → IsRoomFor room moving.target (last_of to) (Err why) → ((now : Moment) → rename room t from to now ≡ Err why) ⊎ (is_open why ≡ true)
      no_room_free why (inl h) = inl (λ now. short t room from to now m node.node ends.walked node.there ends.named p ends.source q ends.target none passed h.0 ∙ ap (λ (w : Refusal). Err w) (sym h.1))
      no_room_free why (inr (inl h)) = inl (λ now. deep t room from to now m node.node ends.walked node.there ends.named p ends.source q ends.target none passed h.0 h.1 ∙ ap (λ (w : Refusal). Err w) (sym h.2))
      no_room_free why (inr (inr h)) = inr h

      pub may_move : IsRoomFor room moving.target (last_of to) (Ok tt) → MayMove from to moving room t
      may_move h = record {
        ends = ends;
        free = none;
        allowed = sym (barred_inside by_dir inside (passes t to m) (p.dir == q.dir) moving.target.inode.nlink told) ∙ none_barred (why_barred by_dir inside (p.dir == q.dir) moving.target.inode.nlink) free;
        space = h.0;
        takes_name = h.1;
      }

  -- ---- where an object stands

  module _ (there : Held) (held_k : IsHeld blocks inodes there) (shown_k : IsShown pages there) (at : at_place t q ≡ Some there.number) (stands : IsThere t there.number) where
    abbrev old : IsNodeOf blocks pages t there
    old = node_of_it blocks pages area bm inodes con there held_k shown_k stands

    pub names_one : (there.number == m) ≡ true → (now : Moment) → rename room t from to now ≡ Ok (Done, t)
    names_one e now = same t room from to now m node.node ends.walked node.there ends.named p ends.source q ends.target there.number old.node at old.there e

    module _ (other : (there.number == m) ≡ false) where
      same_kept : why_kept room.limit (is_dir node.node.kind) (passes t to m) old.node ≡ why_kept room.limit by_dir inside old.node
      same_kept = ap (λ (x : Bool). why_kept room.limit x (passes t to m) old.node) node.dir ∙ sym (kept_inside room.limit by_dir inside (passes t to m) old.node told)

      pub place_refused : (why : Refusal) → over_check blocks room.limit moving.object there inside ≡ Err why → (now : Moment) → rename room t from to now ≡ Err why
      place_refused why e now = kept t room from to now m node.node ends.walked node.there ends.named p ends.source q ends.target there.number old.node at old.there other why
          (same_kept ∙ over_refused blocks pages t room.limit moving.object there inside old why e)

      module _ (fits : over_check blocks room.limit moving.object there inside ≡ Ok tt) where
        let_in : why_kept room.limit (is_dir node.node.kind) (passes t to m) old.node ≡ None
        let_in = same_kept ∙ over_allowed blocks pages t room.limit moving.object there inside old fits

        pub no_room_over : (why : Refusal) → IsRoomFor room moving.target (last_of to) (Err why) → ((now : Moment) → rename room t from to now ≡ Err why) ⊎ (is_open why ≡ true)
        no_room_over why (inl h) = inl (λ now. short_over t room from to now m node.node ends.walked node.there ends.named p ends.source q ends.target there.number old.node at old.there other let_in h.0 ∙ ap (λ (w : Refusal). Err w) (sym h.1))
        no_room_over why (inr (inl h)) = inl (λ now. deep_over t room from to now m node.node ends.walked node.there ends.named p ends.source q ends.target there.number old.node at old.there other let_in h.0 h.1 ∙ ap (λ (w : Refusal). Err w) (sym h.2))
        no_room_over why (inr (inr h)) = inr h

        pub may_replace : IsRoomFor room moving.target (last_of to) (Ok tt) → MayReplace from to room.limit moving there room t
        may_replace h = record {
          ends = ends;
          at = at;
          stands = stands;
          other = other;
          old = old.node;
          old_is = old.there;
          allowed = ap (λ (x : Bool). why_kept room.limit x (passes t to m) old.node) (sym node.dir) ∙ let_in;
          space = h.0;
          takes_name = h.1;
        }

  -- ---- what was found there

  module _ (found : Option Held) (held_f : IfSome found (IsHeld blocks inodes)) (shown_f : IfSome found (IsShown pages)) (stands : StandsAt t moving.target.number (last_of to) (Ok found)) where
    pub permit_refused : (why : Refusal) → permitted blocks room.limit moving inside found ≡ Err why → (now : Moment) → rename room t from to now ≡ Err why
    permit_refused why h = by found held_f shown_f stands h
      where
        on : {X : Type 0} (r : Result (Unit {0}) Refusal) (a : X) → and_then r (λ it. Ok a) ≡ Err why → r ≡ Err why
        on (Ok it) a h = absurd (cc (h))
        on (Err w) a h = cc (h)

        by : (found : Option Held) → IfSome found (IsHeld blocks inodes) → IfSome found (IsShown pages) → StandsAt t moving.target.number (last_of to) (Ok found) → permitted blocks room.limit moving inside found ≡ Err why
            → (now : Moment) → rename room t from to now ≡ Err why
        by None held_f shown_f s h = free_refused s why (on (free_check moving inside) (Free moving) h)
        by (Some there) held_f shown_f s h = of (there.number == m) refl h
          where
            of : (x : Bool) → (there.number == m) ≡ x
                → (if x then Ok Same else and_then (over_check blocks room.limit moving.object there inside) (λ it. Ok (Over moving there))) ≡ Err why → (now : Moment) → rename room t from to now ≡ Err why
            of true e h = absurd (cc (h))
            of false e h = place_refused there held_f shown_f s.0 s.1 e why (on (over_check blocks room.limit moving.object there inside) (Over moving there) h)

    -- what is asked for, and what the room has to be for it
    pub record Permits (a : Asked) : Type 0 where
      pub same : changes_nothing a ≡ true → MayDo from to room.limit a room t
      pub may : changes_nothing a ≡ false → IsRoomFor room moving.target (last_of to) (Ok tt) → MayDo from to room.limit a room t
      pub short : changes_nothing a ≡ false → (why : Refusal) → IsRoomFor room moving.target (last_of to) (Err why) → ((now : Moment) → rename room t from to now ≡ Err why) ⊎ (is_open why ≡ true)

    pub permits : (a : Asked) → permitted blocks room.limit moving inside found ≡ Ok a → Permits a
    permits a h = by found held_f shown_f stands h
      where
        on : (r : Result (Unit {0}) Refusal) (b : Asked) → and_then r (λ it. Ok b) ≡ Ok a → (r ≡ Ok tt) × (b ≡ a)
        on (Ok it) b h = (refl, cc (h))
        on (Err w) b h = absurd (cc (h))

        by : (found : Option Held) → IfSome found (IsHeld blocks inodes) → IfSome found (IsShown pages) → StandsAt t moving.target.number (last_of to) (Ok found) → permitted blocks room.limit moving inside found ≡ Ok a → Permits a
        by None held_f shown_f s h = let k = on (free_check moving inside) (Free moving) h in subst Permits k.1 (record {
          same = λ e. absurd (cc (e));
          may = λ e r. may_move s k.0 r;
          short = λ e why r. no_room_free s k.0 why r;
        })
        by (Some there) held_f shown_f s h = of (there.number == m) refl h
          where
            of : (x : Bool) → (there.number == m) ≡ x
                → (if x then Ok Same else and_then (over_check blocks room.limit moving.object there inside) (λ it. Ok (Over moving there))) ≡ Ok a → Permits a
            of true e h = subst Permits (ok_is h) (record {
              same = λ n. names_one there held_f shown_f s.0 s.1 e;
              may = λ n. absurd (cc (n));
              short = λ n. absurd (cc (n));
            })
            of false e h = let k = on (over_check blocks room.limit moving.object there inside) (Over moving there) h in subst Permits k.1 (record {
              same = λ n. absurd (cc (n));
              may = λ n r. may_replace there held_f shown_f s.0 s.1 e k.0 r;
              short = λ n why r. no_room_over there held_f shown_f s.0 s.1 e k.0 why r;
            })

    -- ---- as a call tells it

    pub refuses : (limit : ℕ) (why : Refusal) → Err why ≡ permitted blocks limit moving inside found → RefusesRename from to limit why room t
    refuses limit why h same = inl (permit_refused why (subst (λ (l : ℕ). permitted blocks l moving inside found ≡ Err why) (sym same) (sym h)))

    by_room : (limit : ℕ) (a : Asked) → Ok a ≡ permitted blocks limit moving inside found → room.limit ≡ limit → Permits a
    by_room limit a h same = permits a (subst (λ (l : ℕ). permitted blocks l moving inside found ≡ Ok a) (sym same) (sym h))

    pub nothing_changes : (limit : ℕ) (a : Asked) → Ok a ≡ permitted blocks limit moving inside found → changes_nothing a ≡ true → MayRename from to limit a room t
    nothing_changes limit a h e same = subst (λ (l : ℕ). MayDo from to l a room t) same ((by_room limit a h same).same e)

    pub room_allows : (limit : ℕ) (a : Asked) → Ok a ≡ permitted blocks limit moving inside found → changes_nothing a ≡ false → IsRoomFor room moving.target (last_of to) (Ok tt) → MayRename from to limit a room t
    room_allows limit a h e r same = subst (λ (l : ℕ). MayDo from to l a room t) same ((by_room limit a h same).may e r)

    pub room_refuses : (limit : ℕ) (a : Asked) → Ok a ≡ permitted blocks limit moving inside found → changes_nothing a ≡ false → (why : Refusal) → IsRoomFor room moving.target (last_of to) (Err why) → RefusesRename from to limit why room t
    room_refuses limit a h e why r same = (by_room limit a h same).short e why r

-- what was said of the view after another call, of the one before
pub stands_back : (b now : ℕ) (image shown : Image) (inodes : Inodes) (dir : Held) (to : List (List ℕ)) (name : List ℕ) (found : Option Held) → now ≡ b → shown ≡ image → name ≡ last_of to
    → (has_names dir.inode ≡ true → IfConsistent now (page_of shown) inodes (λ t. IsThere t dir.number → StandsAt t dir.number name (Ok found)))
    → has_names dir.inode ≡ true → IfConsistent b (page_of image) inodes (λ t. IsThere t dir.number → StandsAt t dir.number (last_of to) (Ok found))
stands_back b now image shown inodes dir to name found e f is h = subst (λ (n : List ℕ). has_names dir.inode ≡ true → IfConsistent b (page_of image) inodes (λ t. IsThere t dir.number → StandsAt t dir.number n (Ok found))) is
    (subst (λ (i : Image). has_names dir.inode ≡ true → IfConsistent b (page_of i) inodes (λ t. IsThere t dir.number → StandsAt t dir.number name (Ok found))) f
    (subst (λ (k : ℕ). has_names dir.inode ≡ true → IfConsistent k (page_of shown) inodes (λ t. IsThere t dir.number → StandsAt t dir.number name (Ok found))) e h))

-- a path's last name is as short as all
pub short_last : (path : List (List ℕ)) (name : List ℕ) → 0 < length path → name ≡ get_or path (length path - 1) name → ((i : ℕ) → i < length path → length (get_or path i []) ≤ 255) → length name ≤ 255
short_last path name some h short = subst (λ (x : List ℕ). length x ≤ 255) (sym (last_is path name some h)) (short (length path - 1) (omega (arith, some)))
