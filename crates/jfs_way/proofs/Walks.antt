-- The steps of a walk.
use Rattle.std.proofs.Common.{◌≡◌, ◌⊎◌, refl, sym, ap, ◌∙◌, subst, inl, inr, ℕ, true, List, [], ◌∷◌, Result, Ok, Err, is_some}
use Rattle.jfs_imap.specs.Inodes.{Inodes}
use Rattle.jfs_bmap.specs.States.{Blocks}
use Rattle.jfs_tree.specs.Spells.{no_page}
use Rattle.jfs_reader.specs.plain.specs.Tree.{Tree, enter, walk, root, and_then}
use Rattle.jfs_reader.specs.plain.specs.declared.refusal.Refusal.{Refusal}
use Rattle.jfs_reader.specs.meaning.specs.Readers.{readers}
use Rattle.jfs_reader.specs.meaning.specs.Consistent.{IsConsistent}
use Rattle.jfs_way.specs.Answer.{is_open, Answers, Follows}
use Rattle.jfs_way.specs.Volume.{volume_of, PlacesWithin}
use Rattle.jfs_way.specs.Way.{inode_at, name_from, path_from, path_of}
use Rattle.jfs_way.specs.Walk.{IsHeld, IsShown, IfConsistent, IsThere, IsOf, HasCome, tree_in}
use Rattle.jfs_way.specs.declared.object.Held.{Held}
use Rattle.jfs_way.proofs.Enters.{only_open}

-- what fails first fails the whole
fails_on : {X Y : Type 0} (given : Result X Refusal) (more : X → Result Y Refusal) (why : Refusal) → Answers given (Err why) → Answers (and_then given more) (Err why)
fails_on given more why (inl h) = inl (ap (λ x. and_then x more) h)
fails_on given more why (inr h) = inr h

module _ (tells : Type 0) (blocks : ℕ) (pages : ℕ → List ℕ) (inodes : Inodes) (path : List (List ℕ)) where
  root_there : (area : ℕ → ℕ) (bm : Blocks) → IsConsistent (readers blocks) (volume_of pages area bm inodes) → IsThere (tree_in blocks pages area bm inodes) root
  root_there area bm c = ap is_some c.tree.top.1.there

  -- the root
  pub begins : (at : Held) → at.number ≡ root → IsHeld blocks inodes at → (tells → IsShown pages at) → (tells → Answers (inode_at blocks pages inodes no_page root) (Ok at)) → HasCome tells blocks pages inodes path path at
  begins at number held shown meets = record {
    held = held;
    shown = shown;
    same = λ told within area bm c. (subst (IsThere (tree_in blocks pages area bm inodes)) (sym number) (root_there area bm c), ap (λ (n : ℕ). walk (tree_in blocks pages area bm inodes) n path) number);
    met = λ told. sym (ap (λ x. and_then x (λ at. path_from blocks pages inodes at path)) (meets told));
  }

  -- of a consistent volume it isn't read for faults and want of memory alone
  pub begins_not : (why : Refusal) → Answers (inode_at blocks pages inodes no_page root) (Err why) → PlacesWithin blocks inodes → (area : ℕ → ℕ) (bm : Blocks) → IsConsistent (readers blocks) (volume_of pages area bm inodes) → is_open why ≡ true
  begins_not why meets within area bm c = only_open blocks pages area bm inodes within c no_page root why (root_there area bm c) meets

  pub meets_first : (why : Refusal) → Answers (inode_at blocks pages inodes no_page root) (Err why) → Answers (path_of blocks pages inodes path) (Err why)
  meets_first why = fails_on (inode_at blocks pages inodes no_page root) (λ at. path_from blocks pages inodes at path) why

  -- one name more
  module _ (name : List ℕ) (names : List (List ℕ)) (at : Held) (come : HasCome tells blocks pages inodes path (name ∷ names) at) where
    pub goes_on : (next : Held) → IsHeld blocks inodes next → (tells → IsShown pages next) → (tells → Answers (name_from blocks pages inodes at name) (Ok next))
        → (tells → IfConsistent blocks pages inodes (λ t. IsThere t at.number → Follows (IsOf t) (enter t at.number name) (Ok next)))
        → HasCome tells blocks pages inodes path names next
    goes_on next held shown meets follows = record {
      held = held;
      shown = shown;
      same = λ told within area bm c. further (tree_in blocks pages area bm inodes) (come.same told within area bm c) (follows told within area bm c);
      met = λ told. sym (ap (λ x. and_then x (λ next. path_from blocks pages inodes next names)) (meets told)) ∙ come.met told;
    }
      where
        further : (t : Tree) → IsThere t at.number × (walk t at.number (name ∷ names) ≡ walk t root path)
            → (IsThere t at.number → Follows {X = ℕ} {Y = Held} (IsOf t) (enter t at.number name) (Ok next))
            → IsThere t next.number × (walk t next.number names ≡ walk t root path)
        further t was f = let s = f was.0 in
            (subst (IsThere t) s.2.0 s.2.1, sym (ap (λ x. and_then x (λ m. walk t m names)) s.1 ∙ ap (λ (m : ℕ). walk t m names) s.2.0) ∙ was.1)

    pub ends_here : (why : Refusal) → (tells → IfConsistent blocks pages inodes (λ t. IsThere t at.number → Follows {X = ℕ} {Y = Held} (IsOf t) (enter t at.number name) (Err why)))
        → tells → IfConsistent blocks pages inodes (λ t. Follows {X = ℕ} {Y = Held} (IsOf t) (walk t root path) (Err why))
    ends_here why follows told within area bm c = by_tree (tree_in blocks pages area bm inodes) (come.same told within area bm c) (follows told within area bm c (come.same told within area bm c).0)
      where
        by_tree : (t : Tree) → IsThere t at.number × (walk t at.number (name ∷ names) ≡ walk t root path) → (enter t at.number name ≡ Err why) ⊎ (is_open why ≡ true) → (walk t root path ≡ Err why) ⊎ (is_open why ≡ true)
        by_tree t was (inl e) = inl (sym was.1 ∙ ap (λ x. and_then x (λ m. walk t m names)) e)
        by_tree t was (inr e) = inr e

    pub meets_here : (why : Refusal) → (tells → Answers (name_from blocks pages inodes at name) (Err why)) → tells → Answers (path_of blocks pages inodes path) (Err why)
    meets_here why meets told = by (fails_on (name_from blocks pages inodes at name) (λ next. path_from blocks pages inodes next names) why (meets told))
      where
        by : Answers (path_from blocks pages inodes at (name ∷ names)) (Err why) → Answers (path_of blocks pages inodes path) (Err why)
        by (inl h) = inl (sym (come.met told) ∙ h)
        by (inr h) = inr h

  -- all names are walked
  pub arrives : (at : Held) → HasCome tells blocks pages inodes path [] at
      → tells → IfConsistent blocks pages inodes (λ t. Follows (IsOf t) (walk t root path) (Ok at))
  arrives at come told within area bm c = let s = come.same told within area bm c in (at.number, sym s.1, (refl, s.0))

  pub meets_all : (at : Held) → HasCome tells blocks pages inodes path [] at → tells → Answers (path_of blocks pages inodes path) (Ok at)
  meets_all at come told = sym (come.met told)
