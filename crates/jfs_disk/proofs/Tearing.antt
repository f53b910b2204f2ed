-- A torn page.
use Rattle.std.proofs.Common.{◌≡◌, ◌≤◌, ◌<◌, ◌+◌, ◌-◌, ◌*◌, ℕ, List, ◌++◌, length, take, drop, refl, sym, ap, ◌∙◌, ◌⊎◌, inl, inr, arith, append_assoc}
use Rattle.std.proofs.lemmas.List.{take-take, drop-append-le, take-append-le, drop-drop, length-take-le, drop_at, length-append, length-drop, take-append-drop, append-nil, take_all, drop_all}
use Rattle.std.proofs.Math.Seq.{take-append-add}
use Rattle.std.proofs.lemmas.Bool.{cases_lt}
use Rattle.jfs_disk.specs.Crash.{torn}

-- no sector
pub torn-none : (front rest : List ℕ) → torn 0 front rest ≡ rest
unfolding torn
torn-none front rest = refl

-- of a page and itself
pub torn-same : (sectors : ℕ) (bytes : List ℕ) → torn sectors bytes bytes ≡ bytes
unfolding torn
torn-same sectors bytes = take-append-drop (512 * sectors) bytes

pub length-torn : (sectors : ℕ) (front rest : List ℕ) → sectors ≤ 8 → length front ≡ 4096 → length rest ≡ 4096 → length (torn sectors front rest) ≡ 4096
unfolding torn
length-torn sectors front rest h f r = omega (arith, length-append {A = ℕ} (take (512 * sectors) front) (drop (512 * sectors) rest), length-take-le (512 * sectors) front (omega arith), length-drop (512 * sectors) rest)

-- all sectors
pub torn-whole : (front rest : List ℕ) → length front ≡ 4096 → length rest ≡ 4096 → torn 8 front rest ≡ front
unfolding torn
torn-whole front rest f r =
    ap (λ (z : List ℕ). take 4096 front ++ z) (drop_all 4096 rest (omega arith)) ∙ append-nil (take 4096 front) ∙ take_all 4096 front (omega arith)

front-low : (m n : ℕ) (a b : List ℕ) → m ≤ n → n ≤ length a → take m a ++ drop m (take n a ++ drop n b) ≡ take n a ++ drop n b
front-low m n a b h k =
    ap (λ (z : List ℕ). take m a ++ z) (drop-append-le m (take n a) (drop n b) (omega (arith, length-take-le n a k)))
    ∙ sym (append_assoc (take m a) (drop m (take n a)) (drop n b))
    ∙ ap (λ (z : List ℕ). z ++ drop n b) (ap (λ (z : List ℕ). z ++ drop m (take n a)) (sym (take-take m n a h)) ∙ take-append-drop m (take n a))

front-high : (m n i : ℕ) (a b : List ℕ) → m ≡ n + i → n ≤ length a → drop m (take n a ++ drop n b) ≡ drop m b
front-high m n i a b e k =
    ap (λ (j : ℕ). drop j (take n a ++ drop n b)) e
    ∙ sym (drop-drop i n (take n a ++ drop n b))
    ∙ ap (λ (z : List ℕ). drop i z) (drop_at (take n a) (drop n b) n (length-take-le n a k))
    ∙ drop-drop i n b ∙ ap (λ (j : ℕ). drop j b) (sym e)

rest-low : (m n : ℕ) (a b : List ℕ) → m ≤ n → n ≤ length a → take m (take n a ++ drop n b) ≡ take m a
rest-low m n a b h k = take-append-le m (take n a) (drop n b) (omega (arith, length-take-le n a k)) ∙ take-take m n a h

rest-high : (m n i : ℕ) (a b : List ℕ) → m ≡ n + i → n ≤ length a → take m (take n a ++ drop n b) ++ drop m b ≡ take n a ++ drop n b
rest-high m n i a b e k =
    let long : length (take n a) + i ≡ m = omega (arith, length-take-le n a k) in
    ap (λ (z : List ℕ). z ++ drop m b) (ap (λ (j : ℕ). take j (take n a ++ drop n b)) (sym long) ∙ take-append-add (take n a) (drop n b) i)
    ∙ append_assoc (take n a) (take i (drop n b)) (drop m b)
    ∙ ap (λ (z : List ℕ). take n a ++ z)
    (ap (λ (z : List ℕ). take i (drop n b) ++ z) (ap (λ (j : ℕ). drop j b) e ∙ sym (drop-drop i n b)) ∙ take-append-drop i (drop n b))

-- some front sectors of one page, then the rest of the other
pub record IsTorn (front rest page : List ℕ) : Type 0 where
  pub sectors : ℕ
  pub within : sectors ≤ 8
  pub bytes : page ≡ torn sectors front rest

-- a torn page that takes front sectors again is a torn page
pub torn-over : (k j : ℕ) (front rest : List ℕ) → k ≤ 8 → j ≤ 8 → length front ≡ 4096 → IsTorn front rest (torn k front (torn j front rest))
unfolding torn
torn-over k j front rest hk hj size = by-order (cases_lt j k)
  where
    by-order : (j < k) ⊎ (k ≤ j) → IsTorn front rest (torn k front (torn j front rest))
    by-order (inl more) = record { sectors = k; within = hk; bytes = ap (λ (z : List ℕ). take (512 * k) front ++ z) (front-high (512 * k) (512 * j) (512 * k - 512 * j) front rest (omega arith) (omega arith)) }
    by-order (inr less) = record { sectors = j; within = hj; bytes = front-low (512 * k) (512 * j) front rest (omega arith) (omega arith) }

-- front sectors of a torn page, over the old page, are a torn page
pub torn-under : (k j : ℕ) (front rest : List ℕ) → k ≤ 8 → j ≤ 8 → length front ≡ 4096 → IsTorn front rest (torn k (torn j front rest) rest)
unfolding torn
torn-under k j front rest hk hj size = by-order (cases_lt j k)
  where
    by-order : (j < k) ⊎ (k ≤ j) → IsTorn front rest (torn k (torn j front rest) rest)
    by-order (inl more) = record { sectors = j; within = hj; bytes = rest-high (512 * k) (512 * j) (512 * k - 512 * j) front rest (omega arith) (omega arith) }
    by-order (inr less) = record { sectors = k; within = hk; bytes = ap (λ (z : List ℕ). z ++ drop (512 * k) rest) (rest-low (512 * k) (512 * j) front rest (omega arith) (omega arith)) }
