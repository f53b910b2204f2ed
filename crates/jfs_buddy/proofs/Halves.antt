-- A run and its two halves: joined, and split.
use Rattle.std.proofs.Common.{◌≡◌, ◌≢◌, ◌+◌, ◌*◌, ◌/◌, ◌^◌, ℕ, suc, ◌⊎◌, inl, inr, refl, sym, ap, ◌∙◌, arith}
use Rattle.std.specs.Prelude.{◌==◌, if◌then◌else◌}
use Rattle.std.proofs.lemmas.Bool.{cases_eq}
use Rattle.std.proofs.lemmas.Nat.{pow_pos, pow-add, shr-shr, shl-shr}
use Rattle.jfs_buddy.specs.Buddy.{start_of, HalvesPut}
use Rattle.jfs_buddy.proofs.Ranks.{replaced, kept}
use Rattle.jfs_buddy.proofs.Joins.{shown, shown-first, shown-other, start_of-same, start_of-start}

-- the halves of the run of 2 ^ (k + 1) leaves that has leaf `w`
abbrev pub left_of : ℕ → ℕ → ℕ
left_of k w = start_of (suc k) w

abbrev pub right_of : ℕ → ℕ → ℕ
right_of k w = start_of (suc k) w + 2 ^ k

pub twice : (k : ℕ) → 2 ^ suc k ≡ 2 * 2 ^ k
twice k = let e : suc k ≡ 1 + k = omega arith in rw e (pow-add 2 1 k)

half-of : (k v : ℕ) → v / 2 ^ k / 2 ≡ v / 2 ^ suc k
half-of k v = let e : suc k ≡ k + 1 = omega arith in rw e (shr-shr v k 1)

pub start_of-multiple : (k q : ℕ) → start_of k (q * 2 ^ k) ≡ q * 2 ^ k
start_of-multiple k q = ap (λ (z : ℕ). z * 2 ^ k) (shl-shr q k)

pub left-is : (k w : ℕ) → left_of k w ≡ 2 * (w / 2 ^ suc k) * 2 ^ k
left-is k w = let e = twice k in omega (arith, ap (λ (z : ℕ). w / 2 ^ suc k * z) e)

pub right-is : (k w : ℕ) → right_of k w ≡ (2 * (w / 2 ^ suc k) + 1) * 2 ^ k
right-is k w = omega (arith, left-is k w)

pub left-first : (k w : ℕ) → (start_of k (left_of k w) ≡ left_of k w) × (start_of (suc k) (left_of k w) ≡ left_of k w) × (left_of k w / 2 ^ suc k ≡ w / 2 ^ suc k)
left-first k w = (
  ap (start_of k) (left-is k w) ∙ start_of-multiple k (2 * (w / 2 ^ suc k)) ∙ sym (left-is k w),
  (start_of-start (suc k) w).1,
  (start_of-start (suc k) w).0,
)

pub right-first : (k w : ℕ) → (start_of k (right_of k w) ≡ right_of k w) × (start_of (suc k) (right_of k w) ≢ right_of k w) × (right_of k w / 2 ^ suc k ≡ w / 2 ^ suc k)
right-first k w =
    let inside = start_of-same (suc k) w (2 ^ k) (omega (arith, twice k, pow_pos k)) in (
      ap (start_of k) (right-is k w) ∙ start_of-multiple k (2 * (w / 2 ^ suc k) + 1) ∙ sym (right-is k w),
      λ e. absurd (omega (arith, pow_pos k, sym (ap (λ (z : ℕ). z * 2 ^ suc k) inside) ∙ e)),
      inside,
    )

-- a leaf of the run lies in one of the halves
pub half-cases : (k v w : ℕ) → v / 2 ^ suc k ≡ w / 2 ^ suc k → (start_of k v ≡ left_of k w) ⊎ (start_of k v ≡ right_of k w)
half-cases k v w e =
    let half = half-of k v ∙ e in
    elim (cases_eq (v / 2 ^ k) (2 * (w / 2 ^ suc k))) [
      | inl a ↦ inl (ap (λ (z : ℕ). z * 2 ^ k) a ∙ sym (left-is k w))
      | inr n ↦ (let b : v / 2 ^ k ≡ 2 * (w / 2 ^ suc k) + 1 = omega (arith, half, n) in inr (ap (λ (z : ℕ). z * 2 ^ k) b ∙ sym (right-is k w)))
    ]

-- a leaf of the run that begins no half
pub inner-half : (k v w rank : ℕ) → v / 2 ^ suc k ≡ w / 2 ^ suc k → left_of k w ≢ v → right_of k w ≢ v → shown k v rank ≡ 0
inner-half k v w rank e a b =
    shown-other k v rank (λ first. elim (half-cases k v w e) [ inl l ↦ a (sym l ∙ first) | inr r ↦ b (sym r ∙ first) ])

pub inner-run : (k v w rank : ℕ) → v / 2 ^ suc k ≡ w / 2 ^ suc k → left_of k w ≢ v → shown (suc k) v rank ≡ 0
inner-run k v w rank e a = shown-other (suc k) v rank (λ first. a (sym (ap (λ (z : ℕ). z * 2 ^ suc k) e) ∙ first))

pub puts-other : (k w a b : ℕ) (old new : ℕ → ℕ) → HalvesPut k w a b old new → (v : ℕ) → left_of k w ≢ v → right_of k w ≢ v → new v ≡ old v
puts-other k w a b old new p v l r = kept (right_of k w) v b (if left_of k w == v then a else old v) (new v) (p v) r ∙ kept (left_of k w) v a (old v) (if left_of k w == v then a else old v) refl l

-- outside the run all stays
pub puts-outside : (k w a b : ℕ) (old new : ℕ → ℕ) → HalvesPut k w a b old new → (v : ℕ) → v / 2 ^ suc k ≢ w / 2 ^ suc k → new v ≡ old v
puts-outside k w a b old new p v out =
    puts-other k w a b old new p v
    (λ e. out (sym (ap (λ (z : ℕ). z / 2 ^ suc k) e) ∙ (left-first k w).2))
    (λ e. out (sym (ap (λ (z : ℕ). z / 2 ^ suc k) e) ∙ (right-first k w).2))

-- what stands at the halves' first leaves, and at the others
pub puts-inside : (k w a b : ℕ) (old new : ℕ → ℕ) → HalvesPut k w a b old new → (v result : ℕ) → (left_of k w ≡ v → result ≡ a) → (right_of k w ≡ v → result ≡ b) → (left_of k w ≢ v → right_of k w ≢ v → result ≡ old v) → new v ≡ result
puts-inside k w a b old new p v result l r other =
    let before : ℕ = if left_of k w == v then a else old v in
    elim (cases_eq (right_of k w) v) [
      | inl e ↦ replaced (right_of k w) v b before (new v) (p v) e ∙ sym (r e)
      | inr n ↦ kept (right_of k w) v b before (new v) (p v) n ∙ elim (cases_eq (left_of k w) v) [
        | inl e ↦ replaced (left_of k w) v a (old v) before refl e ∙ sym (l e)
        | inr m ↦ kept (left_of k w) v a (old v) before refl m ∙ sym (other m n)
      ]
    ]

-- two whole halves become one run
pub halves-join : (k w whole : ℕ) (old new : ℕ → ℕ) → HalvesPut k w (whole + suc k) 0 old new → ((v : ℕ) → v / 2 ^ suc k ≡ w / 2 ^ suc k → old v ≡ shown k v (whole + k)) → (v : ℕ) → v / 2 ^ suc k ≡ w / 2 ^ suc k → new v ≡ shown (suc k) v (whole + suc k)
halves-join k w whole old new p h v e =
    puts-inside k w (whole + suc k) 0 old new p v (shown (suc k) v (whole + suc k))
    (λ l. rw (← l) (shown-first (suc k) (left_of k w) (whole + suc k) (left-first k w).1))
    (λ r. rw (← r) (shown-other (suc k) (right_of k w) (whole + suc k) (right-first k w).1))
    (λ l r. inner-run k v w (whole + suc k) e l ∙ sym (h v e ∙ inner-half k v w (whole + k) e l r))

-- a whole run becomes its two halves
pub halves-split : (k w whole : ℕ) (old new : ℕ → ℕ) → HalvesPut k w (whole + k) (whole + k) old new → ((v : ℕ) → v / 2 ^ suc k ≡ w / 2 ^ suc k → old v ≡ shown (suc k) v (whole + suc k)) → (v : ℕ) → v / 2 ^ suc k ≡ w / 2 ^ suc k → new v ≡ shown k v (whole + k)
halves-split k w whole old new p h v e =
    puts-inside k w (whole + k) (whole + k) old new p v (shown k v (whole + k))
    (λ l. rw (← l) (shown-first k (left_of k w) (whole + k) (left-first k w).0))
    (λ r. rw (← r) (shown-first k (right_of k w) (whole + k) (right-first k w).0))
    (λ l r. inner-half k v w (whole + k) e l r ∙ sym (h v e ∙ inner-run k v w (whole + suc k) e l))
