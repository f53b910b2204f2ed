-- The words of lists of inode allocation groups.
use Rattle.std.proofs.Common.{◌≡◌, ◌⊎◌, ◌<◌, ◌≤◌, ◌+◌, ◌%◌, ℕ, Bool, true, false, true≢false, refl, sym, ◌∙◌, inl, inr, arith}
use Rattle.std.proofs.lemmas.Bool.{cases_Bool, cases_lt}
use Rattle.jfs_bits.specs.declared.descriptor.Pxd.{Pxd}
use Rattle.jfs_iag.specs.declared.canonical.Links.{Links}
use Rattle.jfs_iag.specs.Laws.{AreSame}
use Rattle.jfs_iag.specs.Canonical.{IsPrevious, AreNeighbors, AreLinks, in_inode_list, in_place_list}
use Rattle.jfs_iag.proofs.Agreed.{inodes-listed, places-listed, next-same}

previous_same : (listed others : ℕ → Bool) (count before a b : ℕ) → before ≤ count → ((k : ℕ) → k < count → listed k ≡ others k) → IsPrevious listed before a → IsPrevious others before b → a ≡ b
previous_same listed others count before a b within same (inl x) (inl y) = x.0 ∙ sym y.0
previous_same listed others count before a b within same (inl x) (inr y) = absurd (true≢false (sym y.1 ∙ sym (same b (omega (arith, y.0, within))) ∙ x.1 b y.0))
previous_same listed others count before a b within same (inr x) (inl y) = absurd (true≢false (sym x.1 ∙ same a (omega (arith, x.0, within)) ∙ y.1 a x.0))
previous_same listed others count before a b within same (inr x) (inr y) =
    elim (cases_lt a b) [
      | inl h ↦ absurd (true≢false (sym y.1 ∙ sym (same b (omega (arith, y.0, within))) ∙ x.2 b h y.0))
      | inr h ↦ elim (cases_lt b a) [
        | inl k ↦ absurd (true≢false (sym x.1 ∙ same a (omega (arith, x.0, within)) ∙ y.2 a k x.0))
        | inr k ↦ omega arith
      ]
    ]

neighbors_same : (listed others : ℕ → Bool) (count k f b f' b' : ℕ) → k < count → ((j : ℕ) → j < count → listed j ≡ others j) → AreNeighbors listed count k f b → AreNeighbors others count k f' b' → (f ≡ f') × (b ≡ b')
neighbors_same listed others count k f b f' b' within same x y = at (cases_Bool (listed k))
  where
    at : (listed k ≡ true) ⊎ (listed k ≡ false) → (f ≡ f') × (b ≡ b')
    at (inl e) =
        let e' = sym (same k within) ∙ e in
        (next-same listed others count (k + 1) f f' same (x.forward_in e) (y.forward_in e'), previous_same listed others count k b b' (omega arith) same (x.back_in e) (y.back_in e'))
    at (inr e) =
        let e' = sym (same k within) ∙ e in
        ((x.out e).0 ∙ sym (y.out e').0, (x.out e).1 ∙ sym (y.out e').1)

-- they follow from the inodes in use and the extents
pub links_same : (used others : ℕ → Bool) (extent extents : ℕ → Pxd) (iags numag k : ℕ) (a b : Links) → k < iags → AreSame iags used others extent extents → AreLinks used extent iags numag k a → AreLinks others extents iags numag k b → a ≡ b
links_same used others extent extents iags numag k a b within same x y =
    let g = k % numag in
    let inodes = neighbors_same (in_inode_list used extent numag g) (in_inode_list others extents numag g) iags k a.inofreefwd a.inofreeback b.inofreefwd b.inofreeback within (inodes-listed iags numag g used others extent extents same) x.inodes y.inodes in
    let free = neighbors_same (in_place_list extent numag g) (in_place_list extents numag g) iags k a.extfreefwd a.extfreeback b.extfreefwd b.extfreeback within (places-listed iags numag g used others extent extents same) x.places y.places in
    four a.inofreefwd b.inofreefwd a.inofreeback b.inofreeback a.extfreefwd b.extfreefwd a.extfreeback b.extfreeback inodes.0 inodes.1 free.0 free.1
  where
    four : (p p' q q' r r' t t' : ℕ) → p ≡ p' → q ≡ q' → r ≡ r' → t ≡ t' →
        (let one : Links = record { inofreefwd = p; inofreeback = q; extfreefwd = r; extfreeback = t } in one) ≡ (let one : Links = record { inofreefwd = p'; inofreeback = q'; extfreefwd = r'; extfreeback = t' } in one)
    four p p' q q' r r' t t' e g h i = rw (e, g, h, i) refl
