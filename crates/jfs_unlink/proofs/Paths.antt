-- A path is walked to its last name's directory, and then that name is entered.
use Rattle.std.proofs.Common.{◌≡◌, ◌⊎◌, ◌≤◌, ◌<◌, refl, sym, ap, ◌∙◌, subst, inl, inr, ℕ, zero, suc, ◌-◌, true, List, [], ◌∷◌, ◌++◌, length, take, get_or, Result, Ok, Err, arith}
use Rattle.jfs_imap.specs.Inodes.{Inodes}
use Rattle.jfs_tree.specs.Spells.{no_page}
use Rattle.jfs_plain.specs.Tree.{Tree, enter, walk, root, and_then}
use Rattle.jfs_plain.specs.declared.refusal.Refusal.{Refusal}
use Rattle.jfs_loss.specs.way.specs.Answer.{is_open, Answers, Follows}
use Rattle.jfs_loss.specs.way.specs.Way.{inode_at, name_from, path_from, path_of}
use Rattle.jfs_loss.specs.way.specs.Walk.{IsThere, IsOf}
use Rattle.jfs_loss.specs.way.specs.declared.object.Held.{Held}
use Rattle.jfs_loss.specs.steps.specs.Place.{front_of, last_of}
use Rattle.jfs_unlink.specs.Ends.{FollowsEnds, MeetsEnds}

-- ---- the last name

split_at : (path : List (List ℕ)) (k : ℕ) → length path ≡ suc k → path ≡ take k path ++ get_or path k [] ∷ []
split_at [] k e = absurd (omega (arith, e))
split_at (a ∷ []) zero e = refl
split_at (a ∷ b ∷ rest) zero e = absurd (omega (arith, e))
split_at (a ∷ rest) (suc k) e = ap (λ (x : List (List ℕ)). a ∷ x) (split_at rest k (omega (arith, e)))

pub split : (path : List (List ℕ)) → 1 ≤ length path → path ≡ front_of path ++ last_of path ∷ []
split path some = split_at path (length path - 1) (omega (arith, some))

get_in : (path : List (List ℕ)) (k : ℕ) (a b : List ℕ) → k < length path → get_or path k a ≡ get_or path k b
get_in [] k a b l = absurd (omega (arith, l))
get_in (x ∷ rest) zero a b l = refl
get_in (x ∷ rest) (suc k) a b l = get_in rest k a b (omega (arith, l))

-- the last name, as it is read
pub last_is : (path : List (List ℕ)) → 1 ≤ length path → (name : List ℕ) → name ≡ get_or path (length path - 1) name → name ≡ last_of path
last_is path some name is = is ∙ get_in path (length path - 1) name [] (omega (arith, some))

and_ok : {X : Type 0} (x : Result X Refusal) → and_then x (λ m. Ok m) ≡ x
and_ok (Ok m) = refl
and_ok (Err why) = refl

-- ---- in a tree

walk_on : (t : Tree) (n : ℕ) (front : List (List ℕ)) (name : List ℕ) → walk t n (front ++ name ∷ []) ≡ and_then (walk t n front) (λ m. enter t m name)
walk_on t n [] name = and_ok (enter t n name)
walk_on t n (f ∷ fs) name = by (enter t n f) (λ m. walk_on t m fs name)
  where
    by : (x : Result ℕ Refusal) → ((m : ℕ) → walk t m (fs ++ name ∷ []) ≡ and_then (walk t m fs) (λ m. enter t m name)) → and_then x (λ m. walk t m (fs ++ name ∷ [])) ≡ and_then (and_then x (λ m. walk t m fs)) (λ m. enter t m name)
    by (Ok m) h = h m
    by (Err why) h = refl

module _ (t : Tree) (path : List (List ℕ)) (some : 1 ≤ length path) where
  pub walk_is : walk t root path ≡ and_then (walk t root (front_of path)) (λ m. enter t m (last_of path))
  walk_is = ap (walk t root) (split path some) ∙ walk_on t root (front_of path) (last_of path)

  pub above_fails : (why : Refusal) → Follows {X = ℕ} {Y = Held} (IsOf t) (walk t root (front_of path)) (Err why) → FollowsEnds t path (Err why)
  above_fails why (inl h) = inl (walk_is ∙ ap (λ x. and_then x (λ m. enter t m (last_of path))) h)
  above_fails why (inr h) = inr h

  module _ (dir : Held) (f : Follows {X = ℕ} {Y = Held} (IsOf t) (walk t root (front_of path)) (Ok dir)) where
    walked : walk t root (front_of path) ≡ Ok dir.number
    walked = f.1 ∙ ap (λ (n : ℕ). Ok n) f.2.0

    dir_there : IsThere t dir.number
    dir_there = subst (IsThere t) f.2.0 f.2.1

    pub last_found : (name : List ℕ) → name ≡ last_of path → (at : Held) → (IsThere t dir.number → Follows {X = ℕ} {Y = Held} (IsOf t) (enter t dir.number name) (Ok at)) → FollowsEnds t path (Ok (record { dir = dir; at = at }))
    last_found name is at h = let g = h dir_there in record { walked = walked; in_tree = dir_there; entered = ap (enter t dir.number) (sym is) ∙ g.1 ∙ ap (λ (n : ℕ). Ok n) g.2.0; there = subst (IsThere t) g.2.0 g.2.1 }

    pub last_fails : (name : List ℕ) → name ≡ last_of path → (why : Refusal) → (IsThere t dir.number → Follows {X = ℕ} {Y = Held} (IsOf t) (enter t dir.number name) (Err why)) → FollowsEnds t path (Err why)
    last_fails name is why h = by (subst (λ (x : List ℕ). (enter t dir.number x ≡ Err why) ⊎ (is_open why ≡ true)) is (h dir_there))
      where
        by : (enter t dir.number (last_of path) ≡ Err why) ⊎ (is_open why ≡ true) → (walk t root path ≡ Err why) ⊎ (is_open why ≡ true)
        by (inl e) = inl (walk_is ∙ ap (λ x. and_then x (λ m. enter t m (last_of path))) walked ∙ e)
        by (inr e) = inr e

-- ---- on any volume

module _ (blocks : ℕ) (pages : ℕ → List ℕ) (inodes : Inodes) where
  from_on : (at : Held) (front : List (List ℕ)) (name : List ℕ) → path_from blocks pages inodes at (front ++ name ∷ []) ≡ and_then (path_from blocks pages inodes at front) (λ d. name_from blocks pages inodes d name)
  from_on at [] name = and_ok (name_from blocks pages inodes at name)
  from_on at (f ∷ fs) name = by (name_from blocks pages inodes at f) (λ next. from_on next fs name)
    where
      by : (x : Result Held Refusal) → ((next : Held) → path_from blocks pages inodes next (fs ++ name ∷ []) ≡ and_then (path_from blocks pages inodes next fs) (λ d. name_from blocks pages inodes d name))
          → and_then x (λ next. path_from blocks pages inodes next (fs ++ name ∷ [])) ≡ and_then (and_then x (λ next. path_from blocks pages inodes next fs)) (λ d. name_from blocks pages inodes d name)
      by (Ok next) h = h next
      by (Err why) h = refl

  of_on : (front : List (List ℕ)) (name : List ℕ) → path_of blocks pages inodes (front ++ name ∷ []) ≡ and_then (path_of blocks pages inodes front) (λ d. name_from blocks pages inodes d name)
  of_on front name = by (inode_at blocks pages inodes no_page root)
    where
      by : (x : Result Held Refusal) → and_then x (λ at. path_from blocks pages inodes at (front ++ name ∷ [])) ≡ and_then (and_then x (λ at. path_from blocks pages inodes at front)) (λ d. name_from blocks pages inodes d name)
      by (Ok at) = from_on at front name
      by (Err why) = refl

  module _ (path : List (List ℕ)) (some : 1 ≤ length path) where
    path_is : path_of blocks pages inodes path ≡ and_then (path_of blocks pages inodes (front_of path)) (λ d. name_from blocks pages inodes d (last_of path))
    path_is = ap (path_of blocks pages inodes) (split path some) ∙ of_on (front_of path) (last_of path)

    pub meets_above : (why : Refusal) → Answers (path_of blocks pages inodes (front_of path)) (Err why) → MeetsEnds blocks pages inodes path (Err why)
    meets_above why (inl h) = inl (path_is ∙ ap (λ x. and_then x (λ d. name_from blocks pages inodes d (last_of path))) h)
    meets_above why (inr h) = inr h

    module _ (dir : Held) (h : Answers (path_of blocks pages inodes (front_of path)) (Ok dir)) where
      on_last : path_of blocks pages inodes path ≡ name_from blocks pages inodes dir (last_of path)
      on_last = path_is ∙ ap (λ x. and_then x (λ d. name_from blocks pages inodes d (last_of path))) h

      same_name : (name : List ℕ) → name ≡ last_of path → name_from blocks pages inodes dir (last_of path) ≡ name_from blocks pages inodes dir name
      same_name name is = ap (name_from blocks pages inodes dir) (sym is)

      pub meets_last : (name : List ℕ) → name ≡ last_of path → (at : Held) → Answers (name_from blocks pages inodes dir name) (Ok at) → MeetsEnds blocks pages inodes path (Ok (record { dir = dir; at = at }))
      meets_last name is at g = (h, same_name name is ∙ g, on_last ∙ same_name name is ∙ g)

      pub meets_no_last : (name : List ℕ) → name ≡ last_of path → (why : Refusal) → Answers (name_from blocks pages inodes dir name) (Err why) → MeetsEnds blocks pages inodes path (Err why)
      meets_no_last name is why (inl g) = inl (on_last ∙ same_name name is ∙ g)
      meets_no_last name is why (inr g) = inr g
