-- A node of a tree of bits tells of all leaves below it.
use Rattle.std.proofs.Common.{◌≡◌, ◌<◌, ◌≤◌, ◌+◌, ◌-◌, ◌*◌, ◌/◌, ◌%◌, ◌^◌, ℕ, zero, suc, Bool, true, false, ◌||◌, ◌⊎◌, List, length, get_or, drop, replicate, inl, inr, refl, sym, ap, ◌∙◌, arith}
use Rattle.std.proofs.lemmas.Bool.{cases_lt, true≢false, false_from_ne_true}
use Rattle.std.proofs.lemmas.List.{get_or-drop, length-drop, length-replicate, drop-replicate}
use Rattle.std.proofs.lemmas.Nat.{pow_pos, pow-add, mul-le}
use Rattle.std.proofs.Math.Pow.{pow_mono}
use Rattle.jfs_bits.specs.Bits.{any_below}
use Rattle.jfs_bits.proofs.Buds.{any_below-same, any_below-from}
use Rattle.jfs_imap.specs.Summary.{AreJoined, IsTree}

any-or : (a b c : Bool) → ((a || b) || c) ≡ (a || (b || c))
any-or true b c = refl
any-or false b c = refl

or_false : (a : Bool) → (a || false) ≡ a
or_false true = refl
or_false false = refl

-- two parts, one behind the other
any_below-parts : (m n : ℕ) (test : ℕ → Bool) → any_below (m + n) test ≡ (any_below m test || any_below n (λ i. test (m + i)))
unfolding any_below
any_below-parts m zero test = let e : m + 0 ≡ m = omega arith in rw e (sym (or_false (any_below m test)))
any_below-parts m (suc n) test =
    let e : m + suc n ≡ suc (m + n) = omega arith in
    rw (e, any_below-parts m n test) (any-or (any_below m test) (any_below n (λ i. test (m + i))) (test (m + n)))

-- a node above leaves is an inner one
inner : (i w leaves : ℕ) → 0 < w → i * (2 * w) + 2 * w ≤ 2 * leaves → i < leaves
inner i w leaves some within =
    let one : (i + 1) * 1 ≤ (i + 1) * w = mul-le (i + 1) 1 (i + 1) w (omega arith) (omega arith) in
    omega (arith, one)

-- a node so many levels above the leaves
pub node-any : (leaves : ℕ) (nodes : List Bool) → AreJoined leaves nodes → (k i : ℕ) → 0 < i → i * 2 ^ k + 2 ^ k ≤ 2 * leaves → get_or nodes i false ≡ any_below (2 ^ k) (λ r. get_or nodes (i * 2 ^ k + r) false)
unfolding any_below
node-any leaves nodes t zero i some within = let e : i * 1 + 0 ≡ i = omega arith in rw e refl
node-any leaves nodes t (suc k) i some within =
    let w = 2 ^ k in
    let wide : 2 ^ suc k ≡ 2 * w = omega arith in
    let fits : i * (2 * w) + 2 * w ≤ 2 * leaves = rw wide at within in
    let left = node-any leaves nodes t k (2 * i) (omega arith) (omega arith) in
    let right = node-any leaves nodes t k (2 * i + 1) (omega arith) (omega arith) in
    let place = λ (r : ℕ). let e : (2 * i) * w + r ≡ i * (2 * w) + r = omega arith in ap (λ (z : ℕ). get_or nodes z false) e in
    let behind = λ (r : ℕ). let e : (2 * i + 1) * w + r ≡ i * (2 * w) + (w + r) = omega arith in ap (λ (z : ℕ). get_or nodes z false) e in
    let double : 2 * w ≡ w + w = omega arith in
    rw (wide, double)
    (t.joined i some (inner i w leaves (pow_pos k) fits)
    ∙ both (get_or nodes (2 * i) false) (get_or nodes (2 * i + 1) false) (any_below w (λ r. get_or nodes (i * (w + w) + r) false)) (any_below w (λ r. get_or nodes (i * (w + w) + (w + r)) false))
    (left ∙ any_below-same w (λ r. get_or nodes ((2 * i) * w + r) false) (λ r. get_or nodes (i * (w + w) + r) false) (λ r h. rw double at (place r)))
    (right ∙ any_below-same w (λ r. get_or nodes ((2 * i + 1) * w + r) false) (λ r. get_or nodes (i * (w + w) + (w + r)) false) (λ r h. rw double at (behind r)))
    ∙ sym (any_below-parts w w (λ r. get_or nodes (i * (w + w) + r) false)))
  where
    both : (a b c d : Bool) → a ≡ c → b ≡ d → (a || b) ≡ (c || d)
    both a b c d e f = rw (e, f) refl

-- no leaf below a node that isn't set is set
pub leaf-clear : (leaves : ℕ) (nodes : List Bool) → AreJoined leaves nodes → (k i leaf : ℕ) → 0 < i → i * 2 ^ k + 2 ^ k ≤ 2 * leaves → get_or nodes i false ≡ false → i * 2 ^ k ≤ leaf → leaf < i * 2 ^ k + 2 ^ k → get_or nodes leaf false ≡ false
leaf-clear leaves nodes t k i leaf some within clear low high =
    let e : i * 2 ^ k + (leaf - i * 2 ^ k) ≡ leaf = omega arith in
    false_from_ne_true (get_or nodes leaf false) (λ set.
    let here : get_or nodes (i * 2 ^ k + (leaf - i * 2 ^ k)) false ≡ true = ap (λ (z : ℕ). get_or nodes z false) e ∙ set in
    let any = any_below-from (2 ^ k) (λ r. get_or nodes (i * 2 ^ k + r) false) (leaf - i * 2 ^ k) (omega arith) here in
    true≢false (sym any ∙ sym (node-any leaves nodes t k i some within) ∙ clear))

pub right-set : (leaves : ℕ) (nodes : List Bool) → AreJoined leaves nodes → (i : ℕ) → 0 < i → i < leaves → get_or nodes i false ≡ true → get_or nodes (2 * i) false ≡ false → get_or nodes (2 * i + 1) false ≡ true
right-set leaves nodes t i some within set clear =
    other (get_or nodes (2 * i) false) (get_or nodes (2 * i + 1) false) clear (sym (t.joined i some within) ∙ set)
  where
    other : (a b : Bool) → a ≡ false → (a || b) ≡ true → b ≡ true
    other true b e f = absurd (true≢false e)
    other false b e f = f

-- the leaves below a node on a level
pub level-split : (l h : ℕ) → l ≤ h → 2 ^ l * 2 ^ (h - l) ≡ 2 ^ h
level-split l h k = let e : l + (h - l) ≡ h = omega arith in sym (pow-add 2 l (h - l)) ∙ ap (λ (n : ℕ). 2 ^ n) e

-- a node at level `l` has its leaves, those of its left child and those of its right child
below-left : (height leaves : ℕ) (nodes : List Bool) → IsTree height leaves nodes → (l node : ℕ) → l < height → node < 2 * 2 ^ l → 2 * node * 2 ^ (height - (l + 1)) + 2 ^ (height - (l + 1)) ≤ 2 * leaves
below-left height leaves nodes t l node inner high =
    let x = 2 ^ (height - (l + 1)) in
    let up : height - l ≡ suc (height - (l + 1)) = omega arith in
    let wide : 2 ^ (height - l) ≡ 2 * x = ap (λ (n : ℕ). 2 ^ n) up ∙ omega arith in
    let all : 2 ^ l * (2 * x) ≡ leaves = ap (λ (z : ℕ). 2 ^ l * z) (sym wide) ∙ level-split l height (omega arith) ∙ sym t.power in
    let most : (node + 1) * (2 * x) ≤ (2 * 2 ^ l) * (2 * x) = mul-le (node + 1) (2 * x) (2 * 2 ^ l) (2 * x) (omega arith) (omega arith) in
    omega (arith, most, all)

-- where a node at level `l` is set and no leaf before it, so is its first child that is set
pub next-before : (height leaves : ℕ) (nodes : List Bool) → IsTree height leaves nodes → (l node child : ℕ) → l < height → 0 < node → node < 2 * 2 ^ l
    → (child ≡ 2 * node) ⊎ ((child ≡ 2 * node + 1) × (get_or nodes (2 * node) false ≡ false))
    → ((leaf : ℕ) → leaves ≤ leaf → leaf < node * 2 ^ (height - l) → get_or nodes leaf false ≡ false)
    → (leaf : ℕ) → leaves ≤ leaf → leaf < child * 2 ^ (height - (l + 1)) → get_or nodes leaf false ≡ false
next-before height leaves nodes t l node child inner some high which before leaf low below =
    let x = 2 ^ (height - (l + 1)) in
    let up : height - l ≡ suc (height - (l + 1)) = omega arith in
    let wide : 2 ^ (height - l) ≡ 2 * x = ap (λ (n : ℕ). 2 ^ n) up ∙ omega arith in
    elim which [
      | inl e ↦ before leaf low (rw wide (let b = rw e at below in omega (arith, b)))
      | inr e ↦ elim (cases_lt leaf (2 * node * x)) [
        | inl h ↦ before leaf low (rw wide (omega (arith, h)))
        | inr h ↦ leaf-clear leaves nodes t.tree (height - (l + 1)) (2 * node) leaf (omega arith) (below-left height leaves nodes t l node inner high) e.1 h (let b = rw e.0 at below in omega (arith, b))
      ]
    ]

-- the leaves are the marks
pub mark-at : (leaves : ℕ) (nodes : List Bool) (i : ℕ) → get_or (drop leaves nodes) i false ≡ get_or nodes (leaves + i) false
mark-at leaves nodes i = get_or-drop leaves nodes i false

pub root-clear : (height leaves : ℕ) (nodes : List Bool) → IsTree height leaves nodes → get_or nodes 1 false ≡ false → (i : ℕ) → i < length (drop leaves nodes) → get_or (drop leaves nodes) i false ≡ false
root-clear height leaves nodes t clear i h =
    let size = t.tree.size in
    let power = t.power in
    mark-at leaves nodes i ∙ leaf-clear leaves nodes t.tree height 1 (leaves + i) (omega arith) (omega arith) clear (omega arith) (omega (arith, length-drop leaves nodes))

pub eighth-any : (height leaves : ℕ) (nodes : List Bool) → IsTree height leaves nodes → (k : ℕ) → 128 * k + 128 ≤ length (drop leaves nodes) → get_or nodes (leaves / 128 + k) false ≡ any_below 128 (λ e. get_or (drop leaves nodes) (128 * k + e) false)
eighth-any height leaves nodes t k h =
    let size = t.tree.size in
    let least = t.least in
    let whole : 2 ^ (height - 7) * 2 ^ 7 ≡ 2 ^ height = (let e : height - 7 + 7 ≡ height = omega arith in sym (pow-add 2 (height - 7) 7) ∙ ap (λ (n : ℕ). 2 ^ n) e) in
    let pos = pow_pos (height - 7) in
    let part : leaves / 128 * 128 ≡ leaves = omega (arith, whole, t.power) in
    let fits : (leaves / 128 + k) * 2 ^ 7 + 2 ^ 7 ≤ 2 * leaves = omega (arith, length-drop leaves nodes, part) in
    node-any leaves nodes t.tree 7 (leaves / 128 + k) (omega (arith, part, whole, t.power)) fits
    ∙ any_below-same 128 (λ r. get_or nodes ((leaves / 128 + k) * 2 ^ 7 + r) false) (λ e. get_or (drop leaves nodes) (128 * k + e) false) (λ r b.
    let place : (leaves / 128 + k) * 128 + r ≡ leaves + (128 * k + r) = omega (arith, part) in
    ap (λ (z : ℕ). get_or nodes z false) place ∙ sym (mark-at leaves nodes (128 * k + r)))

pub tree-small : (height leaves : ℕ) (nodes : List Bool) → IsTree height leaves nodes → leaves ≤ 2 ^ 23
tree-small height leaves nodes t = rw t.power (pow_mono t.most)

pub node-inner : (height leaves : ℕ) (nodes : List Bool) → IsTree height leaves nodes → (l node : ℕ) → l < height → node < 2 * 2 ^ l → node < leaves
node-inner height leaves nodes t l node inner high =
    let most : 2 ^ suc l ≤ 2 ^ height = pow_mono inner in
    let e : 2 ^ suc l ≡ 2 * 2 ^ l = omega arith in
    omega (arith, most, e, t.power)

pub none-at : (n i : ℕ) → get_or (replicate {A = Bool} n false) i false ≡ false
none-at zero i = refl
none-at (suc n) zero = refl
none-at (suc n) (suc i) = none-at n i

-- a tree without a mark
pub empty-tree : (height leaves : ℕ) (nodes : List Bool) → 7 ≤ height → height ≤ 23 → leaves ≡ 2 ^ height → nodes ≡ replicate (2 * leaves) false → IsTree height leaves nodes
empty-tree height leaves nodes least most power e =
    let none = λ (i : ℕ). ap (λ (z : List Bool). get_or z i false) e ∙ none-at (2 * leaves) i in
    record {
      least = least;
      most = most;
      power = power;
      tree = record {
        size = ap (λ (z : List Bool). length z) e ∙ length-replicate (2 * leaves) false;
        joined = λ i p q. none i ∙ sym (rw (none (2 * i), none (2 * i + 1)) refl);
      };
    }

pub empty-marks : (height leaves : ℕ) (nodes : List Bool) → leaves ≡ 2 ^ height → nodes ≡ replicate (2 * leaves) false → drop leaves nodes ≡ replicate (2 ^ height) false
empty-marks height leaves nodes power e =
    let n : 2 * leaves - leaves ≡ 2 ^ height = omega (arith, power) in
    ap (λ (z : List Bool). drop leaves z) e ∙ drop-replicate leaves (2 * leaves) false ∙ ap (λ (z : ℕ). replicate z false) n

pub shifted : (height : ℕ) → height ≤ 23 → 1 * 2 ^ height % 4294967296 ≡ 2 ^ height
shifted height h = let most : 2 ^ height ≤ 2 ^ 23 = pow_mono h in omega (arith, most)
