-- A path leads through an inode, or it doesn't.
use Rattle.std.proofs.Common.{◌≡◌, ◌⊎◌, ◌<◌, ◌-◌, refl, sym, ap, ◌∙◌, subst, inl, inr, ℕ, suc, Bool, true, false, ◌==◌, if◌then◌else◌, List, [], ◌∷◌, take, length, Result, Ok, Err, arith}
use Rattle.jfs_imap.specs.Inodes.{Inodes}
use Rattle.jfs_bmap.specs.States.{Blocks}
use Rattle.jfs_tree.specs.Spells.{no_page}
use Rattle.jfs_plain.specs.Tree.{Tree, enter, walk, root, place, passes, passes_from, passes_on, and_then}
use Rattle.jfs_plain.specs.declared.refusal.Refusal.{Refusal}
use Rattle.jfs_link.specs.objects.specs.Objects.{has_names}
use Rattle.jfs_link.specs.meaning.specs.Readers.{readers}
use Rattle.jfs_link.specs.meaning.specs.Consistent.{IsConsistent}
use Rattle.jfs_link.specs.way.specs.Answer.{is_open, Answers, Follows}
use Rattle.jfs_link.specs.way.specs.Volume.{volume_of, PlacesWithin}
use Rattle.jfs_link.specs.way.specs.Way.{inode_at, name_from}
use Rattle.jfs_link.specs.way.specs.Walk.{IsHeld, IsShown, IfConsistent, IsThere, IsOf, HasCome, tree_in}
use Rattle.jfs_link.specs.way.specs.declared.object.Held.{Held}
use Rattle.jfs_link.specs.way.proofs.Walks.{begins, goes_on}
use Rattle.jfs_link.specs.steps.specs.Place.{front_of}
use Rattle.jfs_link.specs.steps.proofs.LastNames.{place_fails}
use Rattle.jfs_rename.specs.Through.{through_from, through_of, inside_of, through, FollowsThrough, FollowsInside, HasGone}

-- what fails first fails the whole
fails_on : {X Y : Type 0} (given : Result X Refusal) (more : X → Result Y Refusal) (why : Refusal) → Answers given (Err why) → Answers (and_then given more) (Err why)
fails_on given more why (inl h) = inl (ap (λ x. and_then x more) h)
fails_on given more why (inr h) = inr h

module _ (tells : Type 0) (blocks : ℕ) (pages : ℕ → List ℕ) (inodes : Inodes) (path : List (List ℕ)) (n : ℕ) where
  -- from the root on
  pub sets_out : (at : Held) → at.number ≡ root → IsHeld blocks inodes at → (tells → IsShown pages at) → (tells → Answers (inode_at blocks pages inodes no_page root) (Ok at)) → HasGone tells blocks pages inodes path path n at
  sets_out at number held shown meets = record {
    come = begins tells blocks pages inodes path at number held shown meets;
    told = λ told within area bm c. ap (λ (k : ℕ). through (tree_in blocks pages area bm inodes) k path n) number;
    met = λ told. sym (ap (λ x. and_then x (λ at. through_from blocks pages inodes at path n)) (meets told));
  }

  pub never_sets_out : (why : Refusal) → Answers (inode_at blocks pages inodes no_page root) (Err why) → Answers (through_of blocks pages inodes path n) (Err why)
  never_sets_out why = fails_on (inode_at blocks pages inodes no_page root) (λ at. through_from blocks pages inodes at path n) why

  module _ (name : List ℕ) (names : List (List ℕ)) (at : Held) (gone : HasGone tells blocks pages inodes path (name ∷ names) n at) where
    -- it is met here
    module _ (here : (at.number == n) ≡ true) where
      pub meets_it : tells → through_of blocks pages inodes path n ≡ Ok true
      meets_it told = sym (gone.met told) ∙ ap (λ (x : Bool). if x then Ok true else and_then (name_from blocks pages inodes at name) (λ next. through_from blocks pages inodes next names n)) here

      pub follows_it : tells → IfConsistent blocks pages inodes (λ t. FollowsThrough t path n (Ok true))
      follows_it told within area bm c = sym (sym (gone.told told within area bm c)
          ∙ ap (λ (x : Bool). if x then true else passes_on (enter (tree_in blocks pages area bm inodes) at.number name) (λ m. through (tree_in blocks pages area bm inodes) m names n)) here)

    -- it isn't, and one name more is entered
    module _ (other : (at.number == n) ≡ false) where
      rest_is : tells → and_then (name_from blocks pages inodes at name) (λ next. through_from blocks pages inodes next names n) ≡ through_of blocks pages inodes path n
      rest_is told = sym (ap (λ (x : Bool). if x then Ok true else and_then (name_from blocks pages inodes at name) (λ next. through_from blocks pages inodes next names n)) other) ∙ gone.met told

      pub goes_further : (next : Held) → IsHeld blocks inodes next → (tells → IsShown pages next) → (tells → Answers (name_from blocks pages inodes at name) (Ok next))
          → (tells → IfConsistent blocks pages inodes (λ t. IsThere t at.number → Follows (IsOf t) (enter t at.number name) (Ok next)))
          → HasGone tells blocks pages inodes path names n next
      goes_further next held shown meets follows = record {
        come = goes_on tells blocks pages inodes path name names at gone.come next held shown meets follows;
        told = λ told within area bm c. further (tree_in blocks pages area bm inodes) (gone.come.same told within area bm c).0 (gone.told told within area bm c) (follows told within area bm c);
        met = λ told. sym (ap (λ x. and_then x (λ next. through_from blocks pages inodes next names n)) (meets told)) ∙ rest_is told;
      }
        where
          further : (t : Tree) → IsThere t at.number → through t at.number (name ∷ names) n ≡ through t root path n → (IsThere t at.number → Follows {X = ℕ} {Y = Held} (IsOf t) (enter t at.number name) (Ok next))
              → through t next.number names n ≡ through t root path n
          further t there was f = let s = f there in
              sym (ap (λ (x : Bool). if x then true else passes_on (enter t at.number name) (λ m. through t m names n)) other ∙ ap (λ x. passes_on x (λ m. through t m names n)) s.1 ∙ ap (λ (m : ℕ). through t m names n) s.2.0) ∙ was

      pub stays_short : (why : Refusal) → (tells → Answers (name_from blocks pages inodes at name) (Err why)) → tells → Answers (through_of blocks pages inodes path n) (Err why)
      stays_short why meets told = by (fails_on (name_from blocks pages inodes at name) (λ next. through_from blocks pages inodes next names n) why (meets told))
        where
          by : Answers (and_then (name_from blocks pages inodes at name) (λ next. through_from blocks pages inodes next names n)) (Err why) → Answers (through_of blocks pages inodes path n) (Err why)
          by (inl h) = inl (sym (rest_is told) ∙ h)
          by (inr h) = inr h

  -- the end of the way
  pub tells_end : (at : Held) → HasGone tells blocks pages inodes path [] n at → tells → IfConsistent blocks pages inodes (λ t. FollowsThrough t path n (Ok (at.number == n)))
  tells_end at gone told within area bm c = gone.told told within area bm c

  pub meets_end : (at : Held) → HasGone tells blocks pages inodes path [] n at → tells → Answers (through_of blocks pages inodes path n) (Ok (at.number == n))
  meets_end at gone told = sym (gone.met told)

-- ---- a path's names before the last one

passes_front : (t : Tree) (k : ℕ) (name : List ℕ) (names : List (List ℕ)) (n : ℕ) → passes_from t k name names n ≡ through t k (take (length names) (name ∷ names)) n
passes_front t k name [] n = refl
passes_front t k name (next ∷ rest) n = by (enter t k name) (λ m. passes_front t m next rest n)
  where
    by : (x : Result ℕ Refusal) → ((m : ℕ) → passes_from t m next rest n ≡ through t m (take (length rest) (next ∷ rest)) n)
        → (if k == n then true else passes_on x (λ m. passes_from t m next rest n)) ≡ (if k == n then true else passes_on x (λ m. through t m (take (length rest) (next ∷ rest)) n))
    by (Ok m) h = ap (λ (x : Bool). if k == n then true else x) (h m)
    by (Err why) h = refl

pub passes_is : (t : Tree) (path : List (List ℕ)) (n : ℕ) → 0 < length path → passes t path n ≡ through t root (front_of path) n
passes_is t [] n some = absurd (omega (arith, some))
passes_is t (name ∷ names) n some = passes_front t root name names n ∙ ap (λ (k : ℕ). through t root (take k (name ∷ names)) n) (one_less (length names))
  where
    one_less : (k : ℕ) → k ≡ suc k - 1
    one_less k = omega arith

module _ (t : Tree) (object : Held) (to : List (List ℕ)) (some : 0 < length to) where
  pub follows_inside : (r : Result Bool Refusal) → FollowsThrough t (front_of to) object.number r → FollowsInside t object to r
  follows_inside (Ok x) h = λ dir. h ∙ sym (passes_is t to object.number some)
  follows_inside (Err why) h = place_fails t to some why h

pub no_inside : (t : Tree) (object : Held) (to : List (List ℕ)) → has_names object.inode ≡ false → FollowsInside t object to (Ok false)
no_inside t object to file dir = absurd (cc (sym file ∙ dir))

pub meets_inside : (blocks : ℕ) (pages : ℕ → List ℕ) (inodes : Inodes) (object : Held) (to : List (List ℕ)) → has_names object.inode ≡ true → (r : Result Bool Refusal)
    → Answers (through_of blocks pages inodes (front_of to) object.number) r → Answers (inside_of blocks pages inodes object to) r
meets_inside blocks pages inodes object to dir (Ok x) h = ap (λ (y : Bool). if y then through_of blocks pages inodes (front_of to) object.number else Ok false) dir ∙ h
meets_inside blocks pages inodes object to dir (Err why) (inl h) = inl (ap (λ (y : Bool). if y then through_of blocks pages inodes (front_of to) object.number else Ok false) dir ∙ h)
meets_inside blocks pages inodes object to dir (Err why) (inr h) = inr h
