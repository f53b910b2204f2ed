-- Changes one after another.
use Rattle.std.proofs.Common.{◌≡◌, ◌⊎◌, inl, inr, refl, sym, ap, subst, ◌∙◌, ℕ, Bool, true, false, not, nat_le, nat_lt, ◌+◌, ◌-◌, ◌&&◌, List, length, get_or, if◌then◌else◌, ◌==◌, Option, Some, None, option_map, Result, Ok, Err}
use Rattle.jfs_bits.specs.declared.descriptor.Moment.{Moment}
use Rattle.jfs_plain.specs.declared.refusal.Refusal.{Refusal}
use Rattle.jfs_plain.specs.declared.refusal.Refusal.TheVariants.{OutOfMemory}
use Rattle.jfs_plain.specs.declared.reply.Reply.{Reply}
use Rattle.jfs_plain.specs.declared.reply.Reply.TheVariants.{Done, Refused}
use Rattle.jfs_plain.specs.declared.node.Node.{Node}
use Rattle.jfs_plain.specs.declared.plain.PlainTree.{PlainTree}
use Rattle.jfs_plain.specs.Tree.{Tree, Place, Found, and_then}
use Rattle.jfs_plain.specs.Moves.{Same, stamped, falls, changed, made, dropped, filled, unnamed, leads, loses, moves, rises, shifts, displaced}
use Rattle.jfs_plain.specs.Step.{Room, Outcome, Answers, refuse, unless, within_limit, links_of, gained, departs, why_barred, why_kept, renamed}
use Rattle.jfs_plain.specs.Plain.{Became, Meets, ample, tree_of}

pub same : (t : Tree) → Same t t
same t = record { nodes = λ n. refl; bytes = λ n i. refl }

pub same_then : {t u v : Tree} → Same t u → Same u v → Same t v
same_then a b = record { nodes = λ n. b.nodes n ∙ a.nodes n; bytes = λ n i. b.bytes n i ∙ a.bytes n i }

-- what a change makes of it
pub became : {old new : PlainTree} {f : Tree → Tree} → Became old new f → Same (f (tree_of old)) (tree_of new)
became b = record { nodes = b.nodes; bytes = b.bytes }

pub same_changed : (n : ℕ) (f : Node → Node) {t u : Tree} → Same t u → Same (changed n f t) (changed n f u)
same_changed n f s = record { nodes = λ k j. if n == k then option_map f (s.nodes n j) else s.nodes k j; bytes = s.bytes }

pub same_dropped : (n : ℕ) {t u : Tree} → Same t u → Same (dropped n t) (dropped n u)
same_dropped n s = record { nodes = λ k j. if n == k then None else s.nodes k j; bytes = λ k i j. if n == k then 0 else s.bytes k i j }

pub same_made : (n : ℕ) (o : Node) {t u : Tree} → Same t u → Same (made n o t) (made n o u)
same_made n o s = record { nodes = λ k j. if n == k then Some o else s.nodes k j; bytes = λ k i j. if n == k then 0 else s.bytes k i j }

-- the same tree, and then a change
pub and_changed : (n : ℕ) (f : Node → Node) {t : Tree} {mid new : PlainTree} → Same t (tree_of mid) → Became mid new (changed n f) → Same (changed n f t) (tree_of new)
and_changed n f s b = same_then (same_changed n f s) (became b)

pub and_dropped : (n : ℕ) {t : Tree} {mid new : PlainTree} → Same t (tree_of mid) → Became mid new (dropped n) → Same (dropped n t) (tree_of new)
and_dropped n s b = same_then (same_dropped n s) (became b)

pub same_either : (b : Bool) {f g h k : Tree} → Same f g → Same h k → Same (if b then f else h) (if b then g else k)
same_either true a b = a
same_either false a b = b

pub same_unnamed : (n links : ℕ) (now : Moment) {t u : Tree} → Same t u → Same (unnamed n links now t) (unnamed n links now u)
same_unnamed n links now s = same_either (nat_le links 1) (same_dropped n s) (same_changed n (stamped now) (same_changed n falls s))

pub and_unnamed : (n links : ℕ) (now : Moment) {t : Tree} {mid new : PlainTree} → Same t (tree_of mid) → Became mid new (unnamed n links now) → Same (unnamed n links now t) (tree_of new)
and_unnamed n links now s b = same_then (same_unnamed n links now s) (became b)

-- a new object, by an equal node
pub became_made : {old new : PlainTree} (dir n : ℕ) (g : Node → Node) {o p : Node} → o ≡ p → Became old new (λ t. changed dir g (made n o t)) → Same (changed dir g (made n p (tree_of old))) (tree_of new)
became_made {old} {new} dir n g e b = subst (λ x. Same (changed dir g (made n x (tree_of old))) (tree_of new)) e (became b)

-- ---- what isn't refused

pub then_ok : {X Y : Type 0} {r : Result X Refusal} {x : X} (f : X → Result Y Refusal) → r ≡ Ok x → and_then r f ≡ f x
then_ok f e = ap (λ r. and_then r f) e

pub unless_false : (b : Bool) (why : Refusal) (rest : Outcome) → b ≡ false → refuse b why rest ≡ rest
unless_false b why rest e = ap (λ x. refuse x why rest) e

pub unless_none : {o : Option Refusal} (rest : Outcome) → o ≡ None → unless o rest ≡ rest
unless_none rest e = ap (λ o. unless o rest) e

pub then_within : {o : Option ℕ} {size : ℕ} (f : ℕ → Outcome) → o ≡ Some size → within_limit o f ≡ f size
then_within f e = ap (λ o. within_limit o f) e

-- ---- the changes of a rename

pub and_shifts : (is_dir : Bool) (from to : ℕ) {t : Tree} {mid new : PlainTree} → Same t (tree_of mid) → Became mid new (shifts is_dir from to) → Same (shifts is_dir from to t) (tree_of new)
and_shifts is_dir from to s b = same_then (same_either (is_dir && not (from == to)) (same_changed from falls (same_changed to rises s)) s) (became b)

pub and_displaced : (n : ℕ) (by_dir : Bool) (links from : ℕ) (now : Moment) {t : Tree} {mid new : PlainTree} → Same t (tree_of mid) → Became mid new (displaced n by_dir links from now) → Same (displaced n by_dir links from now t) (tree_of new)
and_displaced n by_dir links from now s b = same_then (same_either by_dir (same_changed from falls (same_dropped n s)) (same_unnamed n links now s)) (became b)

pub and_departs : (n : ℕ) (is_dir : Bool) (p : Place) (to : ℕ) (now : Moment) {t : Tree} {mid new : PlainTree} → Same t (tree_of mid) → Became mid new (departs n is_dir p to now) → Same (departs n is_dir p to now t) (tree_of new)
and_departs n is_dir p to now s b = same_then (same_changed p.dir (loses p.name now) (same_changed n (stamped now) (same_either is_dir (same_changed n (moves to) s) s))) (became b)

if_true : (b : Bool) (x y : Outcome) → b ≡ true → (if b then x else y) ≡ x
if_true b x y e = ap (λ z. if z then x else y) e

if_false : (b : Bool) (x y : Outcome) → b ≡ false → (if b then x else y) ≡ y
if_false b x y e = ap (λ z. if z then x else y) e

-- two names of one object
pub to_same : (room : Room) (t : Tree) (n : ℕ) (by_dir inside : Bool) (p q : Place) (now : Moment) (o : Option Found) (old : Found) → o ≡ Some old → (old.inode == n) ≡ true → renamed room t n by_dir inside p q now o ≡ Ok (Done, t)
to_same room t n by_dir inside p q now o old e s = ap (λ x. renamed room t n by_dir inside p q now x) e ∙ if_true (old.inode == n) _ _ s

-- to a place where nothing is
pub to_free : (limit fresh : ℕ) (t : Tree) (n : ℕ) (by_dir inside : Bool) (p q : Place) (now : Moment) (o : Option Found) → o ≡ None → why_barred by_dir inside (p.dir == q.dir) (links_of t q.dir) ≡ None
    → renamed (ample limit fresh) t n by_dir inside p q now o ≡ Ok (Done, departs n by_dir p q.dir now (shifts by_dir p.dir q.dir (gained q n now t)))
to_free limit fresh t n by_dir inside p q now o e w = ap (λ x. renamed (ample limit fresh) t n by_dir inside p q now x) e ∙ unless_none _ w

-- to the place of another
pub to_taken : (limit fresh : ℕ) (t : Tree) (n : ℕ) (by_dir inside : Bool) (p q : Place) (now : Moment) (o : Option Found) (old : Found) → o ≡ Some old → (old.inode == n) ≡ false → why_kept limit by_dir inside old.node ≡ None
    → renamed (ample limit fresh) t n by_dir inside p q now o ≡ Ok (Done, departs n by_dir p q.dir now (displaced old.inode by_dir old.node.links p.dir now (changed q.dir (leads q.name n now) t)))
to_taken limit fresh t n by_dir inside p q now o old e d w = ap (λ x. renamed (ample limit fresh) t n by_dir inside p q now x) e ∙ if_false (old.inode == n) _ _ d ∙ unless_none _ w

-- ---- contents

pub same_filled : (n offset : ℕ) (new : List ℕ) {t u : Tree} → Same t u → Same (filled n offset new t) (filled n offset new u)
same_filled n offset new s = record { nodes = s.nodes; bytes = λ k i j. if n == k then (if nat_le offset i && nat_lt i (offset + length new) then get_or new (i - offset) 0 else s.bytes n i j) else s.bytes k i j }

-- ---- the plain step

pub done_steps : (t u : Tree) (out : Outcome) (reply : Reply) → Meets t out (Ok reply) u → Answers t out reply u
done_steps t u out reply m = subst (λ x. Answers t x reply u) (sym m.1) (refl, m.2)

pub refused_steps : (t u : Tree) (out : Outcome) (why : Refusal) → Meets t out (Err why) u → Answers t out (Refused why) u ⊎ ((Refused why ≡ Refused OutOfMemory) × Same t u)
refused_steps t u out why (inl e, s) = inl (subst (λ x. Answers t x (Refused why) u) (sym e) (refl, s))
refused_steps t u out why (inr e, s) = inr (ap Refused e, s)
