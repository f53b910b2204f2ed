-- The two calls, from what the functions below them answer, on a consistent volume.
use Rattle.std.proofs.Common.{◌≡◌, ◌⊎◌, ◌≤◌, ◌<◌, sym, ap, ◌∙◌, subst, inl, inr, ℕ, ◌-◌, ◌==◌, Bool, true, false, nat_le, List, length, Result, Ok, Err, IfOk, IfErr, arith}
use Rattle.std.proofs.lemmas.Bool.Decides.{nat_tests}
use Rattle.jfs_bits.specs.declared.descriptor.Moment.{Moment}
use Rattle.jfs_imap.specs.Inodes.{Inodes}
use Rattle.jfs_loss.specs.bmap.specs.States.{Blocks}
use Rattle.jfs_ranges.specs.declared.edit.Edit.{Edit}
use Rattle.jfs_dtree.specs.Spells.{root_node}
use Rattle.jfs_plain.specs.Step.{Room, unlink, rmdir}
use Rattle.jfs_plain.specs.declared.refusal.Refusal.{Refusal}
use Rattle.jfs_loss.specs.objects.specs.Objects.{has_names}
use Rattle.jfs_loss.specs.meaning.specs.Readers.{readers, root_of}
use Rattle.jfs_loss.specs.meaning.specs.Consistent.{IsConsistent}
use Rattle.jfs_loss.specs.way.specs.Answer.{is_open, Answers}
use Rattle.jfs_loss.specs.way.specs.Volume.{volume_of, PlacesWithin}
use Rattle.jfs_loss.specs.way.specs.Walk.{IfConsistent, tree_in}
use Rattle.jfs_loss.specs.steps.specs.Place.{last_of}
use Rattle.jfs_loss.specs.Causes.{freed_from, lost_from}
use Rattle.jfs_unlink.specs.Call.{is_last_of_big, bare_at, TakesName, Unlinks, StepsOn, FreesOnceOn}
use Rattle.jfs_unlink.specs.Ends.{AreHeld, AreShown, AreEnds, FollowsEnds, MeetsEnds}
use Rattle.jfs_unlink.specs.Gone.{DropsNamed, LeavesNamed, StaysNamed}
use Rattle.jfs_unlink.specs.declared.ends.Ends.{Ends}
use Rattle.jfs_unlink.proofs.Ended.{node_m, IsNodeOf}
use Rattle.jfs_unlink.proofs.Meeting.{only_open, unlink_last}
use Rattle.jfs_unlink.proofs.Done.{unlink_goes, unlink_falls, rmdir_goes}
use Rattle.jfs_unlink.proofs.Refusing.{meets_open, rmdir_no_full}
use Rattle.jfs_unlink.proofs.NoNames.{bare_spelled, is_full, has_some}

-- ---- tests

pub some_of : (n : ℕ) (b : Bool) → b ≡ (n == 0) → b ≡ false → 1 ≤ n
some_of n b e f = by n (sym e ∙ f)
  where
    by : (n : ℕ) → (n == 0) ≡ false → 1 ≤ n
    by n h = grind (arith, nat_tests, h)

pub one_at_most : (k : ℕ) → k ≤ 1 → nat_le k 1 ≡ true
one_at_most k l = grind (arith, nat_tests, l)

pub more_than_one : (k : ℕ) → 1 < k → nat_le k 1 ≡ false
more_than_one k h = grind (arith, nat_tests, h)

-- ---- the calls

-- what was found on the way, and what holds of it on a consistent volume
pub record HasEnds (blocks : ℕ) (pages : ℕ → List ℕ) (inodes : Inodes) (path : List (List ℕ)) (e : Ends) : Type 0 where
  pub whole : (b : ℕ) → b < blocks → length (pages b) ≡ 4096
  pub some : 1 ≤ length path
  pub held : AreHeld blocks inodes e
  pub shown : AreShown pages e
  pub follows : IfConsistent blocks pages inodes (λ t. FollowsEnds t path (Ok e))
  pub meets : MeetsEnds blocks pages inodes path (Ok e)

module _ (blocks : ℕ) (pages : ℕ → List ℕ) (inodes : Inodes) (path : List (List ℕ)) (e : Ends) (has : HasEnds blocks pages inodes path e) (now : Moment) where
  -- what keeps a name is a fault or want of memory
  keeps_open : (area : ℕ → ℕ) (map : Blocks) → PlacesWithin blocks inodes → IsConsistent (readers blocks) (volume_of pages area map inodes) → (why : Refusal) → StaysNamed blocks pages e (last_of path) why → is_open why ≡ true
  keeps_open area map within con why (inl h) = meets_open blocks pages has.whole area map inodes con path has.some e has.held has.shown (has.follows within area map con) now why h
  keeps_open area map within con why (inr h) = only_open blocks pages inodes e.dir e.at (last_of path) has.meets.1 why h

  module _ (space : Room) (limit : ℕ) (same : space.limit ≡ limit) (file : has_names e.at.inode ≡ false) (small : is_last_of_big limit e.at.inode ≡ false) where
    pub unlink_drops : nat_le e.at.inode.nlink 1 ≡ true → (name : List ℕ) → name ≡ last_of path → (r : Result (List Edit) Refusal) → IfOk r (DropsNamed blocks pages e name e.dir.inode.nlink now) → IfErr r (StaysNamed blocks pages e name)
        → StepsOn blocks pages inodes (λ t. unlink space t path now) r
    unlink_drops l name is (Ok tx) drops stays = λ within area map many con. (unlink_goes blocks pages has.whole area map inodes many con path has.some e has.held has.shown (has.follows within area map con) now space limit same file small l tx (subst (λ (x : List ℕ). DropsNamed blocks pages e x e.dir.inode.nlink now tx) is drops)).0
    unlink_drops l name is (Err why) drops stays = λ within area map con. inr (keeps_open area map within con why (subst (λ (x : List ℕ). StaysNamed blocks pages e x why) is stays))

    pub drops_once : nat_le e.at.inode.nlink 1 ≡ true → (name : List ℕ) → name ≡ last_of path → (r : Result (List Edit) Refusal) → IfOk r (DropsNamed blocks pages e name e.dir.inode.nlink now) → IfOk r (FreesOnceOn blocks pages inodes)
    drops_once l name is (Ok tx) drops = λ within area map many con. (unlink_goes blocks pages has.whole area map inodes many con path has.some e has.held has.shown (has.follows within area map con) now space limit same file small l tx (subst (λ (x : List ℕ). DropsNamed blocks pages e x e.dir.inode.nlink now tx) is drops)).1
    drops_once l name is (Err why) drops = tt

    pub leaves_once : nat_le e.at.inode.nlink 1 ≡ false → (name : List ℕ) → name ≡ last_of path → (r : Result (List Edit) Refusal) → IfOk r (LeavesNamed blocks pages e name now) → IfOk r (FreesOnceOn blocks pages inodes)
    leaves_once l name is (Ok tx) leaves = λ within area map many con. (unlink_falls blocks pages has.whole area map inodes many con path has.some e has.held has.shown (has.follows within area map con) now space limit same file small l tx (subst (λ (x : List ℕ). LeavesNamed blocks pages e x now tx) is leaves)).1
    leaves_once l name is (Err why) leaves = tt

    pub unlink_leaves : nat_le e.at.inode.nlink 1 ≡ false → (name : List ℕ) → name ≡ last_of path → (r : Result (List Edit) Refusal) → IfOk r (LeavesNamed blocks pages e name now) → IfErr r (λ why. Answers (lost_from blocks pages e.dir name) (Err why))
        → StepsOn blocks pages inodes (λ t. unlink space t path now) r
    unlink_leaves l name is (Ok tx) leaves stays = λ within area map many con. (unlink_falls blocks pages has.whole area map inodes many con path has.some e has.held has.shown (has.follows within area map con) now space limit same file small l tx (subst (λ (x : List ℕ). LeavesNamed blocks pages e x now tx) is leaves)).0
    unlink_leaves l name is (Err why) leaves stays = λ within area map con. inr (only_open blocks pages inodes e.dir e.at (last_of path) has.meets.1 why (subst (λ (x : List ℕ). Answers (lost_from blocks pages e.dir x) (Err why)) is stays))

  module _ (dir : has_names e.at.inode ≡ true) where
    pub rmdir_drops : bare_at e.at (root_node blocks (root_of e.at.inode)) ≡ Ok e.at → (name : List ℕ) → name ≡ last_of path → (r : Result (List Edit) Refusal) → IfOk r (DropsNamed blocks pages e name (e.dir.inode.nlink - 1) now) → IfErr r (StaysNamed blocks pages e name)
        → StepsOn blocks pages inodes (λ t. rmdir t path now) r
    rmdir_drops bare name is (Ok tx) drops stays = λ within area map many con. (rmdir_goes blocks pages has.whole area map inodes many con path has.some e has.held has.shown (has.follows within area map con) now dir (bare_spelled blocks pages e.at (root_of e.at.inode) bare) tx (subst (λ (x : List ℕ). DropsNamed blocks pages e x (e.dir.inode.nlink - 1) now tx) is drops)).0
    rmdir_drops bare name is (Err why) drops stays = λ within area map con. inr (keeps_open area map within con why (subst (λ (x : List ℕ). StaysNamed blocks pages e x why) is stays))

    pub removes_once : bare_at e.at (root_node blocks (root_of e.at.inode)) ≡ Ok e.at → (name : List ℕ) → name ≡ last_of path → (r : Result (List Edit) Refusal) → IfOk r (DropsNamed blocks pages e name (e.dir.inode.nlink - 1) now) → IfOk r (FreesOnceOn blocks pages inodes)
    removes_once bare name is (Ok tx) drops = λ within area map many con. (rmdir_goes blocks pages has.whole area map inodes many con path has.some e has.held has.shown (has.follows within area map con) now dir (bare_spelled blocks pages e.at (root_of e.at.inode) bare) tx (subst (λ (x : List ℕ). DropsNamed blocks pages e x (e.dir.inode.nlink - 1) now tx) is drops)).1
    removes_once bare name is (Err why) drops = tt

    pub rmdir_full : (why : Refusal) → bare_at e.at (root_node blocks (root_of e.at.inode)) ≡ Err why → IfConsistent blocks pages inodes (λ t. (rmdir t path now ≡ Err why) ⊎ (is_open why ≡ true))
    rmdir_full why kept within area map con = inl (rmdir_no_full blocks pages has.whole area map inodes con path has.some e has.held has.shown ends now dir
        (has_some blocks pages e.at (root_of e.at.inode) node.node.names (node.names dir) why kept) ∙ ap (λ (w : Refusal). Err w) (sym (is_full blocks pages e.at (root_of e.at.inode) node.node.names (node.names dir) why kept)))
      where
        ends : AreEnds (tree_in blocks pages area map inodes) path e
        ends = has.follows within area map con

        node : IsNodeOf blocks pages (tree_in blocks pages area map inodes) e.at
        node = node_m blocks pages area map inodes con path has.some e has.held has.shown (has.follows within area map con)

-- ---- the last name, on any volume

pub takes_last : (blocks : ℕ) (pages : ℕ → List ℕ) (inodes : Inodes) (path : List (List ℕ)) (limit : ℕ) (now : Moment) → 1 ≤ length path → (e : Ends) → MeetsEnds blocks pages inodes path (Ok e)
    → has_names e.at.inode ≡ false → is_last_of_big limit e.at.inode ≡ false → nat_le e.at.inode.nlink 1 ≡ true → (name : List ℕ) → name ≡ last_of path
    → (r : Result (List Edit) Refusal) → IfOk r (DropsNamed blocks pages e name e.dir.inode.nlink now) → IfOk r (λ tx. freed_from blocks pages e.at ≡ Ok e.at) → IfOk r (Unlinks blocks pages inodes path limit now)
takes_last blocks pages inodes path limit now some e meets file small l name is (Ok tx) drops met = (
  e,
  meets,
  unlink_last blocks pages inodes path limit some e.at meets.2 file small l ∙ met,
  subst (λ (x : Bool). TakesName x blocks pages e (last_of path) now tx) (sym l) (subst (λ (x : List ℕ). DropsNamed blocks pages e x e.dir.inode.nlink now tx) is drops),
)
takes_last blocks pages inodes path limit now some e meets file small l name is (Err why) drops met = tt
