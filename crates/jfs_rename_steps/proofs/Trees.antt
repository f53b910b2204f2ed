-- The plain tree after the steps of a rename is that of the plain step.
use Rattle.std.proofs.Common.{◌≡◌, ◌≢◌, refl, sym, ap, ◌∙◌, ℕ, ◌+◌, ◌-◌, Bool, true, false, not, ◌&&◌, ◌==◌, nat_le, if◌then◌else◌, List}
use Rattle.jfs_bits.specs.declared.descriptor.Moment.{Moment}
use Rattle.jfs_name.specs.Directory.{with_name, without_name, with_inode}
use Rattle.jfs_plain.specs.Tree.{Tree, place_at}
use Rattle.jfs_plain.specs.Moves.{changed, dropped, stamped, rises, falls, moves, gains, loses, leads, shifts, displaced}
use Rattle.jfs_plain.specs.Step.{entry_as, gained, departs}
use Rattle.jfs_plain.specs.declared.node.Node.{Node}
use Rattle.jfs_loss.specs.lead_steps.proofs.Chain.{twice, either_order}
use Rattle.jfs_loss.specs.lead_steps.proofs.Turned.{turns}
use Rattle.jfs_rename_steps.specs.Moves.{less_if}

-- what becomes of the object
abbrev pub arrives_as : Bool → ℕ → Moment → Node → Node
arrives_as true parent now o = stamped now (moves parent o)
arrives_as false parent now o = stamped now o

abbrev pub more_if : Bool → ℕ → ℕ
more_if x links = if x then links + 1 else links

-- what becomes of another one that had the name
abbrev pub unnamed_as : Bool → ℕ → Moment → Tree → Tree
unnamed_as true k now t = dropped k t
unnamed_as false k now t = changed k (λ o. stamped now (falls o)) t

module _ (t : Tree) (m p q : ℕ) (old new : List ℕ) (now : Moment) (apart : m ≢ p) where
  -- the source's link count falls before the object arrives, or with the name that goes
  falls_first : (u : Tree) → changed p (turns (without_name old) (λ l. l - 1) now) (changed m (λ o. stamped now (moves q o)) u) ≡ changed p (loses old now) (changed m (stamped now) (changed m (moves q) (changed p falls u)))
  falls_first u = sym (ap (changed p (loses old now)) (twice m (moves q) (stamped now) (changed p falls u) ∙ either_order m p (λ o. stamped now (moves q o)) falls u apart)
      ∙ twice p falls (loses old now) (changed m (λ o. stamped now (moves q o)) u))

  stays_first : (u : Tree) → changed p (turns (without_name old) (λ l. l) now) (changed m (λ o. stamped now (moves q o)) u) ≡ changed p (loses old now) (changed m (stamped now) (changed m (moves q) u))
  stays_first u = sym (ap (changed p (loses old now)) (twice m (moves q) (stamped now) u))

  pub free_tree : (by_dir : Bool)
      → changed p (turns (without_name old) (less_if (by_dir && not (p == q))) now) (changed m (arrives_as by_dir q now) (changed q (turns (with_name (entry_as new m)) (more_if (by_dir && not (p == q))) now) t))
      ≡ departs m by_dir (place_at p old) q now (shifts by_dir p q (gained (place_at q new) m now t))
  free_tree false = refl
  free_tree true = by (p == q)
    where
      by : (x : Bool) → changed p (turns (without_name old) (less_if (not x)) now) (changed m (λ o. stamped now (moves q o)) (changed q (turns (with_name (entry_as new m)) (more_if (not x)) now) t))
          ≡ changed p (loses old now) (changed m (stamped now) (changed m (moves q) (if not x then changed p falls (changed q rises (changed q (gains (entry_as new m) now) t)) else changed q (gains (entry_as new m) now) t)))
      by true = stays_first (changed q (gains (entry_as new m) now) t)
      by false = falls_first (changed q (turns (with_name (entry_as new m)) (λ l. l + 1) now) t)
          ∙ ap (λ (u : Tree). changed p (loses old now) (changed m (stamped now) (changed m (moves q) (changed p falls u)))) (sym (twice q (gains (entry_as new m) now) rises t))

  module _ (k links : ℕ) where
    -- a file goes, or has a link less
    file_over : (x : Bool) → nat_le links 1 ≡ x → (u : Tree) → unnamed_as x k now u ≡ displaced k false links p now u
    file_over true e u = sym (ap (λ (y : Bool). if y then dropped k u else changed k (stamped now) (changed k falls u)) e)
    file_over false e u = sym (twice k falls (stamped now) u) ∙ sym (ap (λ (y : Bool). if y then dropped k u else changed k (stamped now) (changed k falls u)) e)

    pub over_file : (x : Bool) → nat_le links 1 ≡ x
        → changed p (turns (without_name old) (less_if false) now) (changed m (arrives_as false q now) (unnamed_as x k now (changed q (turns (with_inode new m) (λ l. l) now) t)))
        ≡ departs m false (place_at p old) q now (displaced k false links p now (changed q (leads new m now) t))
    over_file x e = ap (λ (u : Tree). changed p (loses old now) (changed m (stamped now) u)) (file_over x e (changed q (leads new m now) t))

    pub over_dir : changed p (turns (without_name old) (less_if true) now) (changed m (arrives_as true q now) (unnamed_as true k now (changed q (turns (with_inode new m) (λ l. l) now) t)))
        ≡ departs m true (place_at p old) q now (displaced k true links p now (changed q (leads new m now) t))
    over_dir = falls_first (dropped k (changed q (leads new m now) t))
