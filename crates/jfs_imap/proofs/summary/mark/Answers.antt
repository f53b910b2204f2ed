use Rattle.std.proofs.Common.{◌≡◌, ◌≢◌, ◌+◌, ◌*◌, ◌/◌, ◌<◌, ◌||◌, ◌∙◌, ℕ, Bool, false, List, length, get_or, set, inl, inr, refl, arith}
use Rattle.std.proofs.lemmas.Bool.{cases_eq}
use Rattle.std.proofs.lemmas.List.{get_or-set_same, get_or-set_other, length-set, drop-set-lt, drop-set-add}
use Rattle.jfs_imap.proofs.summary.mark.Goals as goal

-- an inner node that is neither set anew nor the parent of the one that is
apart : (nodes : List Bool) (m j : ℕ) (v : Bool) → j ≢ m → j ≢ m / 2 → get_or nodes j false ≡ (get_or nodes (2 * j) false || get_or nodes (2 * j + 1) false) → get_or (set nodes m v) j false ≡ (get_or (set nodes m v) (2 * j) false || get_or (set nodes m v) (2 * j + 1) false)
apart nodes m j v other beside e =
    let left : 2 * j ≢ m = λ h. beside (omega arith) in
    let right : 2 * j + 1 ≢ m = λ h. beside (omega arith) in
    rw (get_or-set_other nodes m j v false other, get_or-set_other nodes m (2 * j) v false left, get_or-set_other nodes m (2 * j + 1) v false right) e

-- an inner node that is set by its children
here : (nodes : List Bool) (m : ℕ) → 0 < m → m < length nodes → get_or (set nodes m (get_or nodes (2 * m) false || get_or nodes (2 * m + 1) false)) m false ≡ (get_or (set nodes m (get_or nodes (2 * m) false || get_or nodes (2 * m + 1) false)) (2 * m) false || get_or (set nodes m (get_or nodes (2 * m) false || get_or nodes (2 * m + 1) false)) (2 * m + 1) false)
here nodes m some within =
    let v = get_or nodes (2 * m) false || get_or nodes (2 * m + 1) false in
    let left : 2 * m ≢ m = omega arith in
    let right : 2 * m + 1 ≢ m = omega arith in
    rw (get_or-set_same nodes m v false within, get_or-set_other nodes m (2 * m) v false left, get_or-set_other nodes m (2 * m + 1) v false right) refl

pub loop-node-init : goal.loop-node-init
loop-node-init c =
    let leaf = c.args.leaves + c.args.i in
    let nodes = c.args.nodes.now in
    let t = c.requires.tree in
    let i = c.requires.within in
    record {
      some = omega arith;
      within = omega arith;
      size = simp length-set t.size;
      marks = drop-set-add c.args.leaves nodes c.args.i c.args.marked;
      joined = λ j p q other. apart nodes leaf j c.args.marked (omega arith) other (t.joined j p q);
    }

pub loop-node-preserved : goal.loop-node-preserved
loop-node-preserved c =
    let n = c.loop-node.node in
    let m = n / 2 in
    let nodes = c.loop-node.nodes in
    let v = get_or nodes (2 * m) false || get_or nodes (2 * m + 1) false in
    let i = c.loop-node.invariant in
    let h = i.within in
    let some = i.some in
    let size = i.size in
    record {
      some = omega arith;
      within = omega arith;
      size = simp length-set i.size;
      marks = drop-set-lt c.args.leaves nodes m v (omega arith) ∙ i.marks;
      joined = λ j p q other. elim (cases_eq j m) [
        | inl e ↦ rw e (here nodes m (omega arith) (omega arith))
        | inr ne ↦ apart nodes m j v ne other (i.joined j p q ne)
      ];
    }
