-- One owner a block, from what is acknowledged on.
use Rattle.std.proofs.Common.{◌≡◌, ◌<◌, ◌≤◌, ◌⊎◌, ℕ, zero, suc, false, Option, Some, None, IsSome, refl, sym, ap, ◌∙◌, subst, inl, inr, arith}
use Rattle.std.proofs.lemmas.Bool.{cases_lt}
use Rattle.jfs_kinds.specs.Owner.{Owner, is_logged}
use Rattle.jfs_kinds.specs.Owner.Owner.{Data}
use Rattle.jfs_recovery.specs.Core.{IsBusy, MayOwn, MayWrite}
use Rattle.jfs_recovery.specs.Sound.{HasOneOwner}

pub none_some : (o : Option Owner) (a : Owner) → o ≡ None → o ≡ Some a → ⊥
none_some o a e d = let x : None ≡ Some a = sym e ∙ d in cc

pub same_some : (a b : Owner) → Some a ≡ Some b → a ≡ b
same_some a b e = cc

IsBusy-more : (own : ℕ → Option Owner) (told n : ℕ) → IsBusy own told n → IsBusy own told (suc n)
IsBusy-more own told n b = record { freed = b.freed; since = b.since; before = omega (arith, b.before); owned = b.owned; gone = b.gone }

-- a block without an owner that isn't busy had none since what is acknowledged
pub idle : (own : ℕ → Option Owner) (told n : ℕ) → own n ≡ None → (IsBusy own told n → ⊥) → (j : ℕ) → told ≤ j → j ≤ n → own j ≡ None
idle own told zero none free j low high = let e : 0 ≡ j = omega arith in subst (λ (k : ℕ). own k ≡ None) e none
idle own told (suc n) none free j low high = at (cases_lt n j) (λ l here. idle own told n here (λ b. free (IsBusy-more own told n b)) j low l)
  where
    here_is : told ≤ n → (o : Option Owner) → own n ≡ o → own n ≡ None
    here_is l None e = e
    here_is l (Some a) e = absurd (free (record { freed = n; since = l; before = omega arith; owned = subst (λ (o : Option Owner). IsSome o) (sym e) refl; gone = none }))

    at : (n < j) ⊎ (j ≤ n) → (j ≤ n → own n ≡ None → own j ≡ None) → own j ≡ None
    at (inl l) before = let e : suc n ≡ j = omega arith in subst (λ (k : ℕ). own k ≡ None) e none
    at (inr l) before = before l (here_is (omega arith) (own n) refl)

-- one entry more
pub HasOneOwner-grown : (own own' : ℕ → Option Owner) (told n : ℕ) → told ≤ n → ((k : ℕ) → k ≤ n → own' k ≡ own k) → MayOwn (own n) (own' (suc n)) (IsBusy own told n) →
    HasOneOwner own told n → HasOneOwner own' told (suc n)
HasOneOwner-grown own own' told n low same may one j k j1 j2 k1 k2 a b ea eb = at (cases_lt n j) (cases_lt n k)
  where
    -- the new owner is that of before
    old : (i : ℕ) → told ≤ i → i ≤ n → (x y : Owner) → own i ≡ Some x → own' (suc n) ≡ Some y → (own' (suc n) ≡ own n) ⊎ (own' (suc n) ≡ None) ⊎ ((own n ≡ None) × (IsBusy own told n → ⊥)) → x ≡ y
    old i l h x y ex ey (inl e) = one i n l h low (omega arith) x y ex (sym e ∙ ey)
    old i l h x y ex ey (inr (inl e)) = absurd (none_some (own' (suc n)) y e ey)
    old i l h x y ex ey (inr (inr free)) = absurd (none_some (own i) x (idle own told n free.0 free.1 i l h) ex)

    at : (n < j) ⊎ (j ≤ n) → (n < k) ⊎ (k ≤ n) → a ≡ b
    at (inr x) (inr y) = one j k j1 x k1 y a b (sym (same j x) ∙ ea) (sym (same k y) ∙ eb)
    at (inl x) (inl y) =
        let ej : j ≡ k = omega arith in
        same_some a b (sym ea ∙ ap own' ej ∙ eb)
    at (inl x) (inr y) =
        let ej : j ≡ suc n = omega arith in
        sym (old k k1 y b a (sym (same k y) ∙ eb) (sym (ap own' ej) ∙ ea) may)
    at (inr x) (inl y) =
        let ek : k ≡ suc n = omega arith in
        old j j1 x a b (sym (same j x) ∙ ea) (sym (ap own' ek) ∙ eb) may

-- where data may be written, no page mattered since what is acknowledged
pub nothing_matters : (own : ℕ → Option Owner) (told n : ℕ) → told ≤ n → HasOneOwner own told n → MayWrite own told n → (k : ℕ) → told ≤ k → k ≤ n → is_logged (own k) ≡ false
nothing_matters own told n low one (inl there) k l h = at (own k) refl
  where
    at : (o : Option Owner) → own k ≡ o → is_logged (own k) ≡ false
    at None e = ap is_logged e
    at (Some a) e = ap is_logged (e ∙ ap (λ (x : Owner). Some x) (one k n l h low (omega arith) a (Data there.0) e there.1))
nothing_matters own told n low one (inr free) k l h = ap is_logged (idle own told n free.0 free.1 k l h)
