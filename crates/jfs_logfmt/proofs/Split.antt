-- Two ways to cut the same bytes.
use Rattle.std.proofs.Common.{◌≡◌, List, ◌++◌, length, take, drop, refl, sym, ap, ◌∙◌, arith}
use Rattle.std.proofs.lemmas.List.{take_at, drop_at, length-append}

-- where the fronts are as long
pub same_front : {A : Type 0} (xs ys zs ws : List A) → length xs ≡ length zs → xs ++ ys ≡ zs ++ ws → (xs ≡ zs) × (ys ≡ ws)
same_front {A = A} xs ys zs ws h e = (
  sym (take_at xs ys (length xs) refl) ∙ ap (λ (l : List A). take (length xs) l) e ∙ take_at zs ws (length xs) (sym h),
  sym (drop_at xs ys (length xs) refl) ∙ ap (λ (l : List A). drop (length xs) l) e ∙ drop_at zs ws (length xs) (sym h),
)

-- where the ends are as long
pub same_end : {A : Type 0} (xs ys zs ws : List A) → length ys ≡ length ws → xs ++ ys ≡ zs ++ ws → (xs ≡ zs) × (ys ≡ ws)
same_end xs ys zs ws h e =
    same_front xs ys zs ws (omega (arith, length-append xs ys, length-append zs ws, ap length e, h)) e
