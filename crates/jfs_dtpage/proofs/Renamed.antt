-- A leaf of which one entry's inode changed.
use Rattle.std.proofs.Common.{◌≡◌, ◌≤◌, ◌<◌, ◌+◌, ◌-◌, ◌*◌, ◌%◌, ℕ, zero, suc, Bool, true, List, [], ◌∷◌, length, get_or, map, inl, inr, refl, sym, ap, ◌∙◌, subst, arith}
use Rattle.std.specs.Prelude.{min, slice_set}
use Rattle.std.specs.List.{flat_map, remove, AllByRecursion}
use Rattle.jfs_bits.specs.Field.{field_of}
use Rattle.jfs_dtpage.specs.declared.head.DtForm.{DtForm}
use Rattle.jfs_dtpage.specs.declared.head.DtForm.TheVariants.{Root, Full}
use Rattle.jfs_dtpage.specs.Form.{count_of, free_of, first_free, head_of, is_leaf, table_at, first_units, more_slots}
use Rattle.jfs_dtpage.specs.Slots.{follow, behind, slots_at, times, Kept, SameSlot}
use Rattle.jfs_dtpage.specs.Order.{IsRising, name_at}
use Rattle.jfs_dtpage.specs.Page.{link_of, length_of, chain_of, Ends, name_of, Named, entry_of, entries_of, names_of, table_of, taken_of, free_chain, usable, FlagFits, IsDtPage}
use Rattle.jfs_dtpage.proofs.Kept.{kept_slot}
use Rattle.jfs_dtpage.proofs.Lists.{all_from, units_same}
use Rattle.jfs_dtpage.proofs.Pages.{usable_range, table_length, name_is}
use Rattle.jfs_dtpage.proofs.Counted.{usable_one}
use Rattle.jfs_dtpage.proofs.Chains.{follow_same, behind_same, gather_same}
use Rattle.jfs_dtpage.proofs.Entries.{SameEntry, chain_same, ends_same, name_same, entry_same}
use Rattle.jfs_dtpage.proofs.Edited.{all_both, all_map, all_flat, times_remove}
use Rattle.jfs_dtpage.proofs.Changes.{SameHead, head_by_slots, same_leaf, same_table, same_usable, same_fits, table_by_slots}
use Rattle.jfs_dtpage.proofs.Joined.{all_same, page_of}

-- ---- lists of which one place changed

none : (i : ℕ) → i < 0 → ⊥
none i h = omega (arith, h)

all_back : (P : ℕ → Type 0) (xs : List ℕ) (i : ℕ) → i < length xs → AllByRecursion P (remove xs i) → P (get_or xs i 0) → AllByRecursion P xs
all_back P [] i h all p = absurd (none i h)
all_back P (x ∷ xs) zero h all p = (p, all)
all_back P (x ∷ xs) (suc i) h all p = (all.0, all_back P xs i (omega (arith, h)) all.1 p)

map_set : {X : Type 0} (P : ℕ → Type 0) (f g : ℕ → X) → ((x : ℕ) → P x → f x ≡ g x) → (xs : List ℕ) (i : ℕ) (e : X) → i < length xs → AllByRecursion P (remove xs i) → f (get_or xs i 0) ≡ e
    → map f xs ≡ slice_set (map g xs) i e
map_set P f g h [] i e l all is = absurd (none i l)
map_set P f g h (x ∷ xs) zero e l all is = rw (is, all_map P f g h xs all) refl
map_set P f g h (x ∷ xs) (suc i) e l all is = rw (h x all.0, map_set P f g h xs i e (omega (arith, l)) all.1 is) refl

-- ---- an entry, but for its inode

-- what stays of an entry
abbrev Stays : List ℕ → List ℕ → ℕ → Type 0
Stays old new slot = (chain_of true new slot ≡ chain_of true old slot) × (name_of true new slot ≡ name_of true old slot) × (Ends true old slot → Ends true new slot)

stays_whole : (old new : List ℕ) (slot : ℕ) → SameEntry true old new slot → Stays old new slot
stays_whole old new slot s = (chain_same true old new slot s, name_same true old new slot s, ends_same true old new slot s)

-- the slots behind the first one are as they were, and so is the first one behind its inode
module _ (old new : List ℕ) (slot : ℕ) (kept : Kept (32 * slot) 4 old new) (further : AllByRecursion (SameSlot old new) (follow old (link_of true old slot) (more_slots true (length_of true old slot)))) where
  link : link_of true new slot ≡ link_of true old slot
  link = kept (32 * slot + 4) 1 (inr (omega arith))

  units : length_of true new slot ≡ length_of true old slot
  units = kept (32 * slot + 4 + 1) 1 (inr (omega arith))

  chain_stays : chain_of true new slot ≡ chain_of true old slot
  unfolding chain_of
  chain_stays =
      ap (λ (k : ℕ). slot ∷ follow new (link_of true new slot) (more_slots true k)) units ∙ ap (λ (k : ℕ). slot ∷ follow new k (more_slots true (length_of true old slot))) link
      ∙ ap (λ (xs : List ℕ). slot ∷ xs) (follow_same old new (link_of true old slot) (more_slots true (length_of true old slot)) further)

  ends_stays : Ends true old slot → Ends true new slot
  unfolding Ends
  ends_stays e =
      ap (λ (k : ℕ). behind new (link_of true new slot) (more_slots true k)) units ∙ ap (λ (k : ℕ). behind new k (more_slots true (length_of true old slot))) link
      ∙ behind_same old new (link_of true old slot) (more_slots true (length_of true old slot)) further ∙ e

  name_stays : name_of true new slot ≡ name_of true old slot
  unfolding name_of
  name_stays =
      let n = length_of true old slot in
      let first = units_same old new (32 * slot + 4 + 2) (min n (first_units true)) (λ i h. kept (32 * slot + 4 + 2 + 2 * i) 2 (inr (omega arith))) in
      let rest = gather_same old new (link_of true old slot) (more_slots true n) (n - first_units true) further in
      rw (units, link, first, rest) refl

  pub stays : Stays old new slot
  stays = (chain_stays, name_stays, ends_stays)

entry_true : (bytes : List ℕ) (slot : ℕ) → entry_of true bytes slot ≡ Named (field_of bytes (32 * slot) 4) (name_of true bytes slot)
unfolding entry_of
entry_true bytes slot = refl

first_there : (bytes : List ℕ) (slot : ℕ) → (k : ℕ) → times k (slot ∷ []) ≤ times k (chain_of true bytes slot)
unfolding chain_of
first_there bytes slot k = omega arith

further_there : (bytes : List ℕ) (slot : ℕ) → (k : ℕ) → times k (follow bytes (link_of true bytes slot) (more_slots true (length_of true bytes slot))) + times k (slot ∷ []) ≡ times k (chain_of true bytes slot)
unfolding chain_of
further_there bytes slot k = omega arith

itself_once : (slot : ℕ) → times slot (slot ∷ []) ≡ 1
itself_once slot = grind arith

-- ---- the page

-- The inode of the entry at a place was put, and nothing else.
pub record Renames (form : DtForm) (old new : List ℕ) (place inode : ℕ) : Type 0 where
  pub sound : IsDtPage form new
  pub entries : entries_of form new ≡ slice_set (entries_of form old) place (Named inode (name_at (names_of form old) place))
  pub head : head_of form new ≡ head_of form old
  pub behind : 1 ≤ get_or (table_of form old) place 0

same_head : (form : DtForm) (old new : List ℕ) → ((from width : ℕ) → from + width ≤ 32 → field_of new from width ≡ field_of old from width) → head_of form new ≡ head_of form old
same_head Root old new s = rw (s 16 1 (omega arith), s 17 1 (omega arith), s 18 1 (omega arith), s 19 1 (omega arith), s 20 4 (omega arith)) refl
same_head Full old new s =
    rw (s 0 8 (omega arith), s 8 8 (omega arith), s 16 1 (omega arith), s 17 1 (omega arith), s 18 1 (omega arith), s 19 1 (omega arith), s 20 1 (omega arith), s 21 1 (omega arith), s 24 4 (omega arith), s 28 4 (omega arith)) refl

module _ (form : DtForm) (old new : List ℕ) (place inode : ℕ) (page : IsDtPage form old) (leaf : is_leaf old ≡ true) (within : place < count_of old)
    (value : field_of new (32 * get_or (table_of form old) place 0) 4 ≡ inode) (kept : Kept (32 * get_or (table_of form old) place 0) 4 old new) where
  abbrev slot : ℕ
  slot = get_or (table_of form old) place 0

  in_table : place < length (table_of form old)
  in_table = let n = table_length form old in omega (arith, within, n)

  taken_is : (k : ℕ) → times k (flat_map (chain_of true old) (table_of form old)) ≡ times k (taken_of form old)
  taken_is k = ap (λ (b : Bool). times k (flat_map (chain_of b old) (table_of form old))) (sym leaf)

  parts : (k : ℕ) → times k (flat_map (chain_of true old) (remove (table_of form old) place)) + times k (chain_of true old slot) ≡ times k (taken_of form old)
  parts k = times_remove (chain_of true old) (table_of form old) place k in_table ∙ taken_is k

  all_usable : (k : ℕ) → times k (taken_of form old) + times k (free_chain old) ≤ 1
  all_usable k = let o = page.1.1.1.0.once k in let u = usable_one form old k in omega (arith, o, u)

  first_usable : (k : ℕ) → times k (slot ∷ []) ≤ usable form old k
  first_usable k = let f = first_there old slot k in let p = parts k in let o = page.1.1.1.0.once k in omega (arith, f, p, o)

  low : 1 ≤ slot
  low = let u = first_usable slot in let i = itself_once slot in (usable_range form old slot (omega (arith, u, i))).0

  other : (k : ℕ) → times k (slot ∷ []) ≡ 0 → SameSlot old new k
  other k zero_is = kept_slot (32 * slot) 4 slot k old new (omega arith) (omega arith) (λ e. let i = itself_once slot in let z : times slot (slot ∷ []) ≡ 0 = subst (λ n. times n (slot ∷ []) ≡ 0) e zero_is in omega (arith, i, z)) kept

  header : (from width : ℕ) → from + width ≤ 32 → field_of new from width ≡ field_of old from width
  header from width w = kept from width (inl (let l = low in omega (arith, l, w)))

  heads : SameHead form old new
  heads = head_by_slots form old new (slot ∷ []) first_usable other

  leaf_new : is_leaf new ≡ true
  leaf_new = same_leaf form old new heads ∙ leaf

  count : count_of new ≡ count_of old
  count = header 17 1 (omega arith)

  table : table_of form new ≡ table_of form old
  unfolding table_of
  table =
      ap (λ (n : ℕ). slots_at new (table_at form new) n) count ∙ ap (λ (p : ℕ). slots_at new p (count_of old)) (same_table form old new heads)
      ∙ table_by_slots form old new (slot ∷ []) (count_of old) page.1.0.entries first_usable other

  rest_same : AllByRecursion (SameEntry true old new) (remove (table_of form old) place)
  rest_same = all_same true old new (remove (table_of form old) place) (λ k there. other k (let p = parts k in let a = all_usable k in let f = first_there old slot k in omega (arith, there, p, a, f)))

  further_same : AllByRecursion (SameSlot old new) (follow old (link_of true old slot) (more_slots true (length_of true old slot)))
  further_same = all_from (SameSlot old new) (follow old (link_of true old slot) (more_slots true (length_of true old slot)))
      (λ k there. other k (let p = parts k in let a = all_usable k in let f = further_there old slot k in omega (arith, there, p, a, f)))

  here_stays : Stays old new slot
  here_stays = stays old new slot kept further_same

  all_stay : AllByRecursion (Stays old new) (table_of form old)
  all_stay = all_back (Stays old new) (table_of form old) place in_table (all_both (remove (table_of form old) place) (stays_whole old new) rest_same) here_stays

  free_same : AllByRecursion (SameSlot old new) (free_chain old)
  free_same = all_from (SameSlot old new) (free_chain old) (λ k there. other k (let p = parts k in let a = all_usable k in let f = first_there old slot k in omega (arith, there, p, a, f)))

  names : names_of form new ≡ names_of form old
  names =
      ap (λ (b : Bool). map (name_of b new) (table_of form new)) leaf_new ∙ ap (map (name_of true new)) table
      ∙ all_map (Stays old new) (name_of true new) (name_of true old) (λ x s. s.1) (table_of form old) all_stay ∙ ap (λ (b : Bool). map (name_of b old) (table_of form old)) (sym leaf)

  taken : taken_of form new ≡ taken_of form old
  taken =
      ap (λ (b : Bool). flat_map (chain_of b new) (table_of form new)) leaf_new ∙ ap (flat_map (chain_of true new)) table
      ∙ all_flat (Stays old new) (chain_of true new) (chain_of true old) (λ x s. s.0) (table_of form old) all_stay ∙ ap (λ (b : Bool). flat_map (chain_of b old) (table_of form old)) (sym leaf)

  first : first_free new ≡ first_free old
  first = header 19 1 (omega arith)

  free : free_of new ≡ free_of old
  free = header 18 1 (omega arith)

  frees : free_chain new ≡ free_chain old
  frees = ap (λ (s : ℕ). follow new s (free_of new)) first ∙ ap (λ (n : ℕ). follow new (first_free old) n) free ∙ follow_same old new (first_free old) (free_of old) free_same

  once : (k : ℕ) → times k (taken_of form new) + times k (free_chain new) ≡ usable form new k
  once k = let o = page.1.1.1.0.once k in let t = ap (times k) taken in let f = ap (times k) frees in let u = same_usable form old new heads k in omega (arith, o, t, f, u)

  ends_old : (xs : List ℕ) → AllByRecursion (Stays old new) xs → AllByRecursion (Ends true old) xs → AllByRecursion (Ends true new) xs
  ends_old [] s a = tt
  ends_old (x ∷ xs) s a = (s.0.2 a.0, ends_old xs s.1 a.1)

  ends : AllByRecursion (Ends (is_leaf new) new) (table_of form new)
  ends =
      subst (λ (b : Bool). AllByRecursion (Ends b new) (table_of form new)) (sym leaf_new)
      (subst (AllByRecursion (Ends true new)) (sym table) (ends_old (table_of form old) all_stay (subst (λ (b : Bool). AllByRecursion (Ends b old) (table_of form old)) leaf page.1.1.0.ends)))

  entry : entry_of true new slot ≡ Named inode (name_at (names_of form old) place)
  entry =
      entry_true new slot ∙ ap (λ (n : ℕ). Named n (name_of true new slot)) value ∙ ap (λ (n : List ℕ). Named inode n) (here_stays.1 ∙ ap (λ (b : Bool). name_of b old slot) (sym leaf) ∙ sym (name_is form old place within))

  pub renames : Renames form old new place inode
  renames = record {
    sound =
        let few = page.1.0.entries in let most = page.1.0.free in
        page_of form new (subst (λ (f : ℕ). FlagFits form (f % 8)) (sym (header 16 1 (omega arith))) page.0)
        (record { table = same_fits form old new heads page.1.0.table; entries = let c = count in omega (arith, c, few); free = let c = free in omega (arith, c, most) })
        (record { ends = ends; once = λ k. let o = once k in omega (arith, o) })
        (record { ends = ap (λ (s : ℕ). behind new s (free_of new)) first ∙ ap (λ (n : ℕ). behind new (first_free old) n) free ∙ behind_same old new (first_free old) (free_of old) free_same ∙ page.1.1.1.0.ends; once = once })
        (subst IsRising (sym names) page.1.1.1.1.0);
    entries =
        ap (λ (b : Bool). map (entry_of b new) (table_of form new)) leaf_new ∙ ap (map (entry_of true new)) table
        ∙ map_set (SameEntry true old new) (entry_of true new) (entry_of true old) (λ x s. entry_same true old new x s) (table_of form old) place (Named inode (name_at (names_of form old) place)) in_table rest_same entry
        ∙ ap (λ (b : Bool). slice_set (map (entry_of b old) (table_of form old)) place (Named inode (name_at (names_of form old) place))) (sym leaf);
    head = same_head form old new header;
    behind = low;
  }
