-- A root whose parent was set reads as before, whatever it reads as.
use Rattle.std.proofs.Common.{◌≡◌, ◌≤◌, inl, inr, refl, sym, ap, ◌∙◌, ℕ, zero, suc, ◌+◌, ◌*◌, ◌/◌, ◌%◌, Bool, true, false, List, [], ◌∷◌, ◌++◌, map, Option, Some, None, arith}
use Rattle.std.specs.Prelude.{◌==◌, ◌&&◌, if◌then◌else◌}
use Rattle.std.specs.List.{flat_map, list_all, range_with_len}
use Rattle.std.proofs.lemmas.Bool.{cases_lt}
use Rattle.jfs_bits.specs.Field.{field_of}
use Rattle.jfs_bits.specs.declared.rule.Rule.{Rule}
use Rattle.jfs_bits.specs.declared.rule.Rule.TheVariants as rules
use Rattle.jfs_bits.specs.Broken.{first_broken}
use Rattle.jfs_dtpage.specs.declared.head.DtForm.TheVariants.{Root}
use Rattle.jfs_dtpage.specs.Form.{flag_of, free_of, first_free, is_leaf, more_slots}
use Rattle.jfs_dtpage.specs.Slots.{chain_end, next_of, follow, behind, times, Kept}
use Rattle.jfs_dtpage.specs.Page.{link_of, length_of, chain_of, name_of, table_of, names_of, taken_of, free_chain, usable, entries_of, ChainsFit}
use Rattle.jfs_dtpage.proofs.Edited.{all_map}
use Rattle.jfs_dtpage.proofs.Entries.{SameEntry, name_same}
use Rattle.jfs_dtpage.proofs.Same.{Alike, entries_alike}
use Rattle.jfs_dtpage.proofs.Joined.{all_same}
use Rattle.jfs_dtree.specs.Rules.{fits_flag, fits_slots, ends, fits_chains, fits_free, rises, rows}
use Rattle.jfs_dtree.specs.Node.{by_kind, unless_broken, dt_node}
use Rattle.jfs_dtree.proofs.Kept.{parent_alike}
use Rattle.jfs_dtree.proofs.Decided.{chains_decide, sound_of}

module _ (old new : List ℕ) (kept : Kept 20 4 old new) where
  -- the bytes that the rules read stand away from the parent
  away : (slot from : ℕ) → from ≤ 9 → field_of new (32 * slot + from) 1 ≡ field_of old (32 * slot + from) 1
  away slot from h = kept (32 * slot + from) 1 (elim (cases_lt slot 1) [ inl l ↦ inl (omega (arith, l, h)) | inr l ↦ inr (omega (arith, l)) ])

  next_all : (slot : ℕ) → next_of new slot ≡ next_of old slot
  next_all slot = kept (32 * slot) 1 (elim (cases_lt slot 1) [ inl l ↦ inl (omega (arith, l)) | inr l ↦ inr (omega (arith, l)) ])

  follow_all : (slot n : ℕ) → follow new slot n ≡ follow old slot n
  unfolding follow
  follow_all slot zero = refl
  follow_all slot (suc n) = ap (λ s. slot ∷ follow new s n) (next_all slot) ∙ ap (λ xs. slot ∷ xs) (follow_all (next_of old slot) n)

  behind_all : (slot n : ℕ) → behind new slot n ≡ behind old slot n
  unfolding behind
  behind_all slot zero = refl
  behind_all slot (suc n) = ap (λ s. behind new s n) (next_all slot) ∙ behind_all (next_of old slot) n

  link_all : (leaf : Bool) (slot : ℕ) → link_of leaf new slot ≡ link_of leaf old slot
  link_all true slot = away slot 4 (omega arith)
  link_all false slot = away slot 8 (omega arith)

  length_all : (leaf : Bool) (slot : ℕ) → length_of leaf new slot ≡ length_of leaf old slot
  length_all true slot = ap (λ p. field_of new p 1) (omega arith) ∙ away slot 5 (omega arith) ∙ ap (λ p. field_of old p 1) (omega arith)
  length_all false slot = ap (λ p. field_of new p 1) (omega arith) ∙ away slot 9 (omega arith) ∙ ap (λ p. field_of old p 1) (omega arith)

  chain_all : (leaf : Bool) (slot : ℕ) → chain_of leaf new slot ≡ chain_of leaf old slot
  unfolding chain_of
  chain_all leaf slot = rw (link_all leaf slot, length_all leaf slot, follow_all (link_of leaf old slot) (more_slots leaf (length_of leaf old slot))) refl

  alike : Alike Root old new
  alike = parent_alike old new kept

  leaf_same : is_leaf new ≡ is_leaf old
  leaf_same = ap (λ f. f / 2 % 2 == 1) alike.flag

  ends_all : (slot : ℕ) → ends new slot ≡ ends old slot
  ends_all slot = rw (leaf_same, link_all (is_leaf old) slot, length_all (is_leaf old) slot, behind_all (link_of (is_leaf old) old slot) (more_slots (is_leaf old) (length_of (is_leaf old) old slot))) refl

  all_ends : (slots : List ℕ) → list_all (ends new) slots ≡ list_all (ends old) slots
  all_ends [] = refl
  all_ends (slot ∷ slots) = rw (ends_all slot, all_ends slots) refl

  all_chains : (leaf : Bool) (slots : List ℕ) → flat_map (chain_of leaf new) slots ≡ flat_map (chain_of leaf old) slots
  all_chains leaf [] = refl
  all_chains leaf (slot ∷ slots) = rw (chain_all leaf slot, all_chains leaf slots) refl

  taken_same : taken_of Root new ≡ taken_of Root old
  taken_same = ap (λ leaf. flat_map (chain_of leaf new) (table_of Root new)) leaf_same ∙ ap (flat_map (chain_of (is_leaf old) new)) alike.table ∙ all_chains (is_leaf old) (table_of Root old)

  free_same : free_chain new ≡ free_chain old
  free_same = ap (λ s. follow new s (free_of new)) alike.first ∙ ap (follow new (first_free old)) alike.free ∙ follow_all (first_free old) (free_of old)

  names_same : ChainsFit Root old → names_of Root new ≡ names_of Root old
  names_same fit =
      let leaf = is_leaf old in
      let same = all_same leaf old new (table_of Root old) (λ k there. alike.slots k (let o = fit.once k in omega (arith, o, there))) in
      ap (λ b. map (name_of b new) (table_of Root new)) leaf_same ∙ ap (map (name_of leaf new)) alike.table
      ∙ all_map (SameEntry leaf old new) (name_of leaf new) (name_of leaf old) (λ x s. name_same leaf old new x s) (table_of Root old) same

  -- ---- the rules

  flag_rule : fits_flag Root (flag_of new % 8) ≡ fits_flag Root (flag_of old % 8)
  flag_rule = ap (λ f. fits_flag Root (f % 8)) alike.flag

  slots_rule : fits_slots Root new ≡ fits_slots Root old
  slots_rule = rw (alike.count, alike.free) refl

  chains_rule : fits_chains Root new ≡ fits_chains Root old
  chains_rule = rw (taken_same, alike.table, all_ends (table_of Root old)) refl

  free_test : ℕ → List ℕ → List ℕ → Bool
  free_test last taken free = last == chain_end && list_all (λ slot. times slot taken + times slot free == usable Root old slot) (range_with_len 0 128 ++ taken ++ free)

  end_same : behind new (first_free new) (free_of new) ≡ behind old (first_free old) (free_of old)
  end_same = ap (λ s. behind new s (free_of new)) alike.first ∙ ap (behind new (first_free old)) alike.free ∙ behind_all (first_free old) (free_of old)

  free_rule : fits_free Root new ≡ fits_free Root old
  unfolding free_test
  free_rule =
      ap (λ last. free_test last (taken_of Root new) (free_chain new)) end_same
      ∙ ap (λ taken. free_test (behind old (first_free old) (free_of old)) taken (free_chain new)) taken_same
      ∙ ap (free_test (behind old (first_free old) (free_of old)) (taken_of Root old)) free_same

  order_rule : fits_chains Root old ≡ true → rises (names_of Root new) ≡ rises (names_of Root old)
  order_rule fit = ap rises (names_same ((chains_decide Root old).0 fit))

  five : Bool → Bool → Bool → Bool → Bool → Option Rule
  five a b c d e = if a then (if b then (if c then (if d then (if e then None else Some rules.Order) else Some rules.Free) else Some rules.Chain) else Some rules.Slots) else Some rules.Flag

  last_same : (a b c d e f : Bool) → (c ≡ true → e ≡ f) → five a b c d e ≡ five a b c d f
  unfolding five
  last_same a b true d e f h = rw (h refl) refl
  last_same a b false d e f h = refl

  broken_five : (bytes : List ℕ) → first_broken (rows Root bytes) ≡ five (fits_flag Root (flag_of bytes % 8)) (fits_slots Root bytes) (fits_chains Root bytes) (fits_free Root bytes) (rises (names_of Root bytes))
  unfolding five
  broken_five bytes = refl

  broken_same : first_broken (rows Root new) ≡ first_broken (rows Root old)
  broken_same =
      broken_five new
      ∙ rw (flag_rule, slots_rule, chains_rule, free_rule) (last_same (fits_flag Root (flag_of old % 8)) (fits_slots Root old) (fits_chains Root old) (fits_free Root old) (rises (names_of Root new)) (rises (names_of Root old)) order_rule)
      ∙ sym (broken_five old)

  pub parent_node : (blocks : ℕ) → dt_node Root blocks new ≡ dt_node Root blocks old
  unfolding dt_node
  parent_node blocks = ap (λ o. unless_broken o (by_kind (is_leaf new) blocks (entries_of Root new))) broken_same ∙ by (first_broken (rows Root old)) refl
    where
      by : (o : Option Rule) → first_broken (rows Root old) ≡ o → unless_broken (first_broken (rows Root old)) (by_kind (is_leaf new) blocks (entries_of Root new)) ≡ unless_broken (first_broken (rows Root old)) (by_kind (is_leaf old) blocks (entries_of Root old))
      by None e = ap (unless_broken (first_broken (rows Root old))) (ap (λ leaf. by_kind leaf blocks (entries_of Root new)) leaf_same ∙ ap (by_kind (is_leaf old) blocks) (entries_alike Root old new (sound_of Root old e) alike))
      by (Some rule) e = rw e refl
