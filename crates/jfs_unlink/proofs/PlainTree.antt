-- The plain steps of unlink and rmdir, and what a volume with their tree is.
use Rattle.std.proofs.Common.{◌≡◌, refl, sym, ap, ◌∙◌, subst, ℕ, ◌-◌, ◌==◌, not, Bool, true, false, nat_le, if◌then◌else◌, List, length, Result, Ok}
use Rattle.jfs_bits.specs.declared.descriptor.Moment.{Moment}
use Rattle.jfs_name.specs.Directory.{without_name}
use Rattle.jfs_plain.specs.Tree.{Tree, is_dir, Found, found_at, object, Place, place, place_at, and_then}
use Rattle.jfs_plain.specs.Moves.{Same, stamped, falls, loses, changed, dropped, unnamed}
use Rattle.jfs_plain.specs.Step.{Room, Outcome, Answers, outcome, refuse, has_names, is_last_of_big, lost, unlink, rmdir}
use Rattle.jfs_plain.specs.declared.call.Call.{Call}
use Rattle.jfs_plain.specs.declared.node.Node.{Node}
use Rattle.jfs_plain.specs.declared.refusal.Refusal.{Refusal}
use Rattle.jfs_plain.specs.declared.refusal.Refusal.TheVariants.{NotDir, IsDir, NotEmpty, FileTooBig, IntoItself}
use Rattle.jfs_plain.specs.declared.reply.Reply.TheVariants.{Done}
use Rattle.jfs_loss.specs.objects.specs.Volume.{Volume, room}
use Rattle.jfs_loss.specs.meaning.specs.Readers.{readers}
use Rattle.jfs_loss.specs.meaning.specs.Tree.{tree_on}
use Rattle.jfs_loss.specs.meaning.specs.Consistent.{IsConsistent, IsConsistentTree}
use Rattle.jfs_loss.specs.meaning.specs.Laws.{IsFresh}
use Rattle.jfs_loss.specs.meaning.proofs.Steps.{step_keeps}
use Rattle.jfs_loss.specs.lead_steps.specs.Reached.{HasTree}
use Rattle.jfs_loss.specs.lead_steps.proofs.Chain.{same_tree, twice}
use Rattle.jfs_loss.specs.lead_steps.proofs.Turned.{turns}

-- ---- a volume with the tree that a plain step leaves

pub begins : (blocks : ℕ) (v : Volume) → IsConsistent (readers blocks) v → HasTree (readers blocks) v (tree_on (readers blocks) v)
begins blocks v c = record { sound = c.sound; inodes = c.inodes; tree = refl }

module _ (blocks : ℕ) (v w : Volume) (c : IsConsistent (readers blocks) v) (space : Room) (call : Call) (now : Moment) (fresh : IsFresh (room v) (tree_on (readers blocks) v) space.inode)
    (u : Tree) (is : outcome space (tree_on (readers blocks) v) call now ≡ Ok (Done, u)) (has : HasTree (readers blocks) w u) (same_room : room w ≡ room v) where
  pub same_after : Same u (tree_on (readers blocks) w)
  same_after = same_tree u (tree_on (readers blocks) w) has.tree

  pub still_consistent : IsConsistent (readers blocks) w
  still_consistent = record {
    sound = has.sound;
    inodes = has.inodes;
    tree = subst (λ (most : ℕ). IsConsistentTree most (tree_on (readers blocks) w)) (sym same_room)
        (step_keeps (room v) (tree_on (readers blocks) v) (tree_on (readers blocks) w) space call now Done c.tree fresh (subst (λ (out : Outcome). Answers (tree_on (readers blocks) v) out Done (tree_on (readers blocks) w)) (sym is) (refl, same_after)));
  }

-- ---- the steps

module _ (t : Tree) (path : List (List ℕ)) (n m : ℕ) (name : List ℕ) (now : Moment) (o : Node) (obj : object t path ≡ Ok (found_at m o)) (at : place t path ≡ Ok (place_at n name)) where
  abbrev without_it : Tree
  without_it = lost (place_at n name) now t

  -- ---- unlink

  module _ (space : Room) (file : is_dir o.kind ≡ false) (small : is_last_of_big space.limit o ≡ false) where
    unlink_is : unlink space t path now ≡ Ok (Done, unnamed m o.links now without_it)
    unlink_is = ap (λ (x : Result Found Refusal). and_then x (λ o. refuse (is_dir o.node.kind) IsDir
        (refuse (is_last_of_big space.limit o.node) FileTooBig
        (and_then (place t path) (λ p. Ok (Done, unnamed o.inode o.node.links now (lost p now t))))))) obj
        ∙ ap (λ (x : Bool). refuse x IsDir (refuse (is_last_of_big space.limit o) FileTooBig (and_then (place t path) (λ p. Ok (Done, unnamed m o.links now (lost p now t)))))) file
        ∙ ap (λ (x : Bool). refuse x FileTooBig (and_then (place t path) (λ p. Ok (Done, unnamed m o.links now (lost p now t))))) small
        ∙ ap (λ (x : Result Place Refusal). and_then x (λ p. Ok (Done, unnamed m o.links now (lost p now t)))) at

    pub unlink_last : nat_le o.links 1 ≡ true → unlink space t path now ≡ Ok (Done, dropped m (changed n (turns (without_name name) (λ k. k) now) t))
    unlink_last l = unlink_is ∙ ap (λ (x : Bool). Ok (Done, (if x then dropped m without_it else changed m (stamped now) (changed m falls without_it)))) l

    pub unlink_other : nat_le o.links 1 ≡ false → unlink space t path now ≡ Ok (Done, changed m (λ o. stamped now (falls o)) (changed n (turns (without_name name) (λ k. k) now) t))
    unlink_other l = unlink_is ∙ ap (λ (x : Bool). Ok (Done, (if x then dropped m without_it else changed m (stamped now) (changed m falls without_it)))) l
        ∙ ap (λ (u : Tree). Ok (Done, u)) (twice m falls (stamped now) without_it)

  -- ---- rmdir

  pub rmdir_is : (length path == 0) ≡ false → is_dir o.kind ≡ true → has_names o ≡ false → rmdir t path now ≡ Ok (Done, dropped m (changed n (turns (without_name name) (λ k. k - 1) now) t))
  rmdir_is some dir bare =
      ap (λ (x : Bool). refuse x IntoItself (and_then (object t path) (λ o. refuse (not (is_dir o.node.kind)) NotDir (refuse (has_names o.node) NotEmpty (and_then (place t path) (λ p. Ok (Done, dropped o.inode (changed p.dir falls (lost p now t))))))))) some
      ∙ ap (λ (x : Result Found Refusal). and_then x (λ o. refuse (not (is_dir o.node.kind)) NotDir (refuse (has_names o.node) NotEmpty (and_then (place t path) (λ p. Ok (Done, dropped o.inode (changed p.dir falls (lost p now t)))))))) obj
      ∙ ap (λ (x : Bool). refuse (not x) NotDir (refuse (has_names o) NotEmpty (and_then (place t path) (λ p. Ok (Done, dropped m (changed p.dir falls (lost p now t))))))) dir
      ∙ ap (λ (x : Bool). refuse x NotEmpty (and_then (place t path) (λ p. Ok (Done, dropped m (changed p.dir falls (lost p now t)))))) bare
      ∙ ap (λ (x : Result Place Refusal). and_then x (λ p. Ok (Done, dropped m (changed p.dir falls (lost p now t))))) at
      ∙ ap (λ (u : Tree). Ok (Done, dropped m u)) (twice n (loses name now) falls t)
