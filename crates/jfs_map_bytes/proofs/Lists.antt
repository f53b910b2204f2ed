-- The list words of IAGs.
use Rattle.std.proofs.Common.{◌≡◌, ◌⊎◌, ◌<◌, ◌+◌, ◌-◌, ◌%◌, ◌^◌, ℕ, zero, suc, Bool, true, false, inl, inr, refl, sym, ap, ◌∙◌, subst, arith}
use Rattle.std.specs.Prelude.{if◌then◌else◌}
use Rattle.std.proofs.lemmas.Bool.{cases_Bool, cases_eq, cond-true, cond-false, cond_both}
use Rattle.jfs_bits.specs.declared.descriptor.Pxd.{Pxd}
use Rattle.jfs_iag.specs.Canonical.{end_of_list, IsNext, IsPrevious, AreNeighbors, AreLinks, in_inode_list, in_place_list}
use Rattle.jfs_map_bytes.specs.InodeMap.{next_in, last_below, next_of, previous_of, links_of}

-- ---- the next one

one-more : (listed : ℕ → Bool) (count from word : ℕ) → listed from ≡ false → IsNext listed count (suc from) word → IsNext listed count from word
one-more listed count from word none (inl x) = inl (x.0, λ k low high. elim (cases_eq k from) [ inl e ↦ ap listed e ∙ none | inr other ↦ x.1 k (omega arith) high ])
one-more listed count from word none (inr x) = inr (omega (arith, x.0), x.1, x.2, λ k low high. elim (cases_eq k from) [ inl e ↦ ap listed e ∙ none | inr other ↦ x.3 k (omega arith) high ])

pub next-is : (listed : ℕ → Bool) (count more from : ℕ) → from + more ≡ count → IsNext listed count from (next_in listed more from)
unfolding next_in
next-is listed count zero from all = inl (refl, λ k low high. absurd (omega arith))
next-is listed count (suc more) from all = at (cases_Bool (listed from)) (next-is listed count more (suc from) (omega arith))
  where
    rest : ℕ
    rest = next_in listed more (suc from)

    at : (listed from ≡ true) ⊎ (listed from ≡ false) → IsNext listed count (suc from) rest → IsNext listed count from (if listed from then from else rest)
    at (inl e) later = subst (λ (w : ℕ). IsNext listed count from w) (sym (cond-true (listed from) from rest e)) (inr (omega arith, omega arith, e, λ k low high. absurd (omega arith)))
    at (inr e) later = subst (λ (w : ℕ). IsNext listed count from w) (sym (cond-false (listed from) from rest e)) (one-more listed count from rest e later)

pub next-fits : (listed : ℕ → Bool) (more from : ℕ) → from + more < 2 ^ 32 → next_in listed more from < 2 ^ 32
unfolding next_in
next-fits listed zero from h = omega arith
next-fits listed (suc more) from h = cond_both (listed from) from (next_in listed more (suc from)) (λ z. z < 2 ^ 32) (λ e. omega arith) (λ e. next-fits listed more (suc from) (omega arith))

-- ---- the one before

one-back : (listed : ℕ → Bool) (k word : ℕ) → listed k ≡ false → IsPrevious listed k word → IsPrevious listed (suc k) word
one-back listed k word none (inl x) = inl (x.0, λ j high. elim (cases_eq j k) [ inl e ↦ ap listed e ∙ none | inr other ↦ x.1 j (omega arith) ])
one-back listed k word none (inr x) = inr (omega (arith, x.0), x.1, λ j low high. elim (cases_eq j k) [ inl e ↦ ap listed e ∙ none | inr other ↦ x.2 j low (omega arith) ])

pub previous-is : (listed : ℕ → Bool) (before : ℕ) → IsPrevious listed before (last_below listed before)
unfolding last_below
previous-is listed zero = inl (refl, λ k high. absurd (omega arith))
previous-is listed (suc k) = at (cases_Bool (listed k)) (previous-is listed k)
  where
    rest : ℕ
    rest = last_below listed k

    at : (listed k ≡ true) ⊎ (listed k ≡ false) → IsPrevious listed k rest → IsPrevious listed (suc k) (if listed k then k else rest)
    at (inl e) earlier = subst (λ (w : ℕ). IsPrevious listed (suc k) w) (sym (cond-true (listed k) k rest e)) (inr (omega arith, e, λ j low high. absurd (omega arith)))
    at (inr e) earlier = subst (λ (w : ℕ). IsPrevious listed (suc k) w) (sym (cond-false (listed k) k rest e)) (one-back listed k rest e earlier)

pub previous-fits : (listed : ℕ → Bool) (before : ℕ) → before < 2 ^ 32 → last_below listed before < 2 ^ 32
unfolding last_below
previous-fits listed zero h = omega arith
previous-fits listed (suc k) h = cond_both (listed k) k (last_below listed k) (λ z. z < 2 ^ 32) (λ e. omega arith) (λ e. previous-fits listed k (omega arith))

-- ---- both

neighbors-are : (listed : ℕ → Bool) (iags k : ℕ) → k < iags → AreNeighbors listed iags k (next_of listed iags k) (previous_of listed k)
neighbors-are listed iags k within =
    let next : ℕ = next_in listed (iags - (k + 1)) (k + 1) in
    let last : ℕ = last_below listed k in
    record {
      forward_in = λ e. subst (λ (w : ℕ). IsNext listed iags (k + 1) w) (sym (cond-true (listed k) next end_of_list e)) (next-is listed iags (iags - (k + 1)) (k + 1) (omega arith));
      back_in = λ e. subst (λ (w : ℕ). IsPrevious listed k w) (sym (cond-true (listed k) last end_of_list e)) (previous-is listed k);
      out = λ e. (cond-false (listed k) next end_of_list e, cond-false (listed k) last end_of_list e);
    }

pub links-are : (taken : ℕ → Bool) (extent : ℕ → Pxd) (iags numag k : ℕ) → k < iags → AreLinks taken extent iags numag k (links_of taken extent iags numag k)
unfolding links_of
links-are taken extent iags numag k within = record {
  inodes = neighbors-are (in_inode_list taken extent numag (k % numag)) iags k within;
  places = neighbors-are (in_place_list extent numag (k % numag)) iags k within;
}

pub next_of-fits : (listed : ℕ → Bool) (iags k : ℕ) → k < iags → iags < 2 ^ 32 → next_of listed iags k < 2 ^ 32
next_of-fits listed iags k within small = cond_both (listed k) (next_in listed (iags - (k + 1)) (k + 1)) end_of_list (λ z. z < 2 ^ 32) (λ e. next-fits listed (iags - (k + 1)) (k + 1) (omega arith)) (λ e. omega arith)

pub previous_of-fits : (listed : ℕ → Bool) (k : ℕ) → k < 2 ^ 32 → previous_of listed k < 2 ^ 32
previous_of-fits listed k small = cond_both (listed k) (last_below listed k) end_of_list (λ z. z < 2 ^ 32) (λ e. previous-fits listed k small) (λ e. omega arith)
