-- Places in the ring's text, by their addresses.
use Rattle.std.proofs.Common.{◌≡◌, ◌≤◌, ◌<◌, ◌+◌, ◌-◌, ◌*◌, ◌/◌, ◌%◌, ℕ, Option, Some, None, sym, ap, subst, ◌∙◌, ◌⊎◌, inl, inr, arith}
use Rattle.std.proofs.Math.Nat.{mod-lt, mod-eq_of_lt, mod-add-mod, add-mod_right}
use Rattle.std.proofs.lemmas.Bool.{cases_lt}
use Rattle.jfs_logpages.specs.Back.{SyncAt, address_at, HasAddress, Gives, IsGiven}
use Rattle.jfs_logpages.specs.Outcome.{IsPlaceOf, IsPointOf}
use Rattle.jfs_logpages.specs.declared.point.Point.{Point}

-- how far behind page f a place of the ring is
behind-page : (ring f page : ℕ) → f < ring → page < ring → (f + (page + ring - f) % ring) % ring ≡ page
behind-page ring f page low fits = by (cases_lt (page + ring - f) ring)
  where
    by : (page + ring - f < ring) ⊎ (ring ≤ page + ring - f) → (f + (page + ring - f) % ring) % ring ≡ page
    by (inl less) =
        let x : (page + ring - f) % ring ≡ page + ring - f = mod-eq_of_lt less in
        let sum : f + (page + ring - f) % ring ≡ page + ring = omega (arith, x) in
        ap (λ (n : ℕ). n % ring) sum ∙ add-mod_right page ring ∙ mod-eq_of_lt fits
    by (inr more) =
        let y : page + ring - f ≡ (page - f) + ring = omega (arith, more) in
        let x : (page + ring - f) % ring ≡ page - f = ap (λ (n : ℕ). n % ring) y ∙ add-mod_right (page - f) ring ∙ mod-eq_of_lt (omega arith) in
        let sum : f + (page + ring - f) % ring ≡ page = omega (arith, x, more) in
        ap (λ (n : ℕ). n % ring) sum ∙ mod-eq_of_lt fits

page-behind : (ring f b : ℕ) → f < ring → b < ring → ((f + b) % ring + ring - f) % ring ≡ b
page-behind ring f b low fits = by (cases_lt (f + b) ring)
  where
    by : (f + b < ring) ⊎ (ring ≤ f + b) → ((f + b) % ring + ring - f) % ring ≡ b
    by (inl less) =
        let x : (f + b) % ring ≡ f + b = mod-eq_of_lt less in
        let y : (f + b) % ring + ring - f ≡ b + ring = omega (arith, x) in
        ap (λ (n : ℕ). n % ring) y ∙ add-mod_right b ring ∙ mod-eq_of_lt fits
    by (inr more) =
        let z : f + b ≡ (f + b - ring) + ring = omega (arith, more) in
        let x : (f + b) % ring ≡ f + b - ring = ap (λ (n : ℕ). n % ring) z ∙ add-mod_right (f + b - ring) ring ∙ mod-eq_of_lt (omega arith) in
        let y : (f + b) % ring + ring - f ≡ b = omega (arith, x, more) in
        ap (λ (n : ℕ). n % ring) y ∙ mod-eq_of_lt fits

-- the place that is computed of an address
abbrev pub place_of : ℕ → ℕ → ℕ → ℕ
place_of ring first address = 4080 * ((address / 4096 - 2 + ring - first % ring) % ring) + (address % 4096 - 8)

pub place-has : (ring first address : ℕ) → 0 < ring → 2 ≤ address / 4096 → address / 4096 - 2 < ring → 9 ≤ address % 4096 → address % 4096 ≤ 4088 → (0 < place_of ring first address) × (address_at ring first (place_of ring first address) ≡ address)
place-has ring first address some two fits low high = (omega (arith, low), is)
  where
    b : ℕ
    b = (address / 4096 - 2 + ring - first % ring) % ring

    q : (place_of ring first address - 1) / 4080 ≡ b
    q = omega (arith, low, high)

    r : (place_of ring first address - 1) % 4080 ≡ address % 4096 - 9
    r = omega (arith, low, high)

    page : (first + b) % ring ≡ address / 4096 - 2
    page = sym (mod-add-mod first ring b) ∙ behind-page ring (first % ring) (address / 4096 - 2) (mod-lt first {m = ring} some) fits

    is : address_at ring first (place_of ring first address) ≡ address
    is = let at : (first + (place_of ring first address - 1) / 4080) % ring ≡ address / 4096 - 2 = ap (λ (n : ℕ). (first + n) % ring) q ∙ page in
        omega (arith, at, r, low, two)

pub place-only : (ring first size address place : ℕ) → 0 < ring → size ≤ 4080 * (ring / 2) → HasAddress ring first size address place
    → (2 ≤ address / 4096) × (address / 4096 - 2 < ring) × (9 ≤ address % 4096) × (address % 4096 ≤ 4088) × (place ≡ place_of ring first address)
place-only ring first size address place some half has =
    (omega (arith, page, less), omega (arith, page, less), omega (arith, offset), omega (arith, offset), place-is)
  where
    b : ℕ
    b = (place - 1) / 4080

    less : (first + b) % ring < ring
    less = mod-lt (first + b) {m = ring} some

    page : address / 4096 ≡ 2 + (first + b) % ring
    page = omega (arith, has.2)

    offset : address % 4096 ≡ 9 + (place - 1) % 4080
    offset = omega (arith, has.2)

    back : (address / 4096 - 2 + ring - first % ring) % ring ≡ b
    back =
        let two : address / 4096 - 2 + ring - first % ring ≡ (first % ring + b) % ring + ring - first % ring = omega (arith, page, mod-add-mod first ring b) in
        ap (λ (n : ℕ). n % ring) two ∙ page-behind ring (first % ring) b (mod-lt first {m = ring} some) (omega (arith, half, has.0, has.1))

    place-is : place ≡ place_of ring first address
    place-is = omega (arith, back, offset, has.0)

-- a SYNCPT gives one place at most
pub gives-once : (ring first size : ℕ) (p : SyncAt) (a b : ℕ) → 0 < ring → size ≤ 4080 * (ring / 2) → Gives ring first size p a → Gives ring first size p b → a ≡ b
gives-once ring first size p a b some half (inl own) (inl same) = own.1 ∙ sym same.1
gives-once ring first size p a b some half (inl own) (inr other) = absurd (other.0 own.0)
gives-once ring first size p a b some half (inr other) (inl own) = absurd (other.0 own.0)
gives-once ring first size p a b some half (inr x) (inr y) =
    (place-only ring first size p.address a some half x.1).4 ∙ sym (place-only ring first size p.address b some half y.1).4

pub not-given : (ring first size : ℕ) (newest : Option SyncAt) (point : Point) (given place : ℕ) → 0 < ring → size ≤ 4080 * (ring / 2) → point.place ≡ Some given → (given ≡ place → ⊥)
    → IsPointOf ring first size newest (Some point) → IsGiven ring first size newest place → ⊥
not-given ring first size None point given place some half e other is has = is
not-given ring first size (Some p) point given place some half e other is has =
    other (gives-once ring first size p given place some half (subst (λ (o : Option ℕ). IsPlaceOf ring first size p o) e is.1) has)

pub none-given : (ring first size : ℕ) (newest : Option SyncAt) (point : Point) (place : ℕ) → point.place ≡ None → IsPointOf ring first size newest (Some point) → IsGiven ring first size newest place → ⊥
none-given ring first size None point place e is has = is
none-given ring first size (Some p) point place e is has = (subst (λ (o : Option ℕ). IsPlaceOf ring first size p o) e is.1) place has
