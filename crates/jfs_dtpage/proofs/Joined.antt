-- A page that an entry joined, and one that an entry left.
use Rattle.std.proofs.Common.{◌≡◌, ◌≤◌, ◌<◌, ◌+◌, ◌%◌, ℕ, suc, Bool, true, false, List, [], ◌∷◌, ◌++◌, length, get_or, map, refl, sym, ap, ◌∙◌, subst, length-append, arith}
use Rattle.std.specs.List.{flat_map, AllByRecursion, insert, remove}
use Rattle.jfs_dtpage.specs.declared.head.DtForm.{DtForm}
use Rattle.jfs_dtpage.specs.Form.{flag_of, count_of, free_of, first_free, is_leaf, most_of, more_slots}
use Rattle.jfs_dtpage.specs.Slots.{follow, behind, times, SameSlot}
use Rattle.jfs_dtpage.specs.Order.{IsRising, GoesAt}
use Rattle.jfs_dtpage.specs.Page.{link_of, length_of, chain_of, Ends, name_of, Entry, name_in, entry_of, table_of, entries_of, names_of, taken_of, free_chain, usable, FlagFits, SlotsFit, ChainsFit, FreeFits, IsDtPage}
use Rattle.jfs_dtpage.specs.Given.{is_named}
use Rattle.jfs_dtpage.proofs.Kept.{same_both}
use Rattle.jfs_dtpage.proofs.Lists.{times-append, all_from}
use Rattle.jfs_dtpage.proofs.Chains.{follow_split, behind_split, follow_same, behind_same, length-follow}
use Rattle.jfs_dtpage.proofs.Entries.{SameEntry, chain_same, ends_same, name_same, entry_same}
use Rattle.jfs_dtpage.proofs.Pages.{table_length, names_length}
use Rattle.jfs_dtpage.proofs.Counted.{usable_one, usable_fit, entries_fit}
use Rattle.jfs_dtpage.proofs.Edited.{all_map, all_flat, all_insert, all_remove, map_insert, map_remove, times_insert, times_remove, rising_insert, rising_remove}
use Rattle.jfs_dtpage.proofs.Changes.{Edits, same_flag, same_leaf, same_usable, same_fits}
use Rattle.jfs_dtpage.proofs.Putting.{PutsEntry, need_of}
use Rattle.jfs_dtpage.proofs.Released.{Releases}

entry_name : (leaf : Bool) (bytes : List ℕ) (slot : ℕ) → name_in (entry_of leaf bytes slot) ≡ name_of leaf bytes slot
unfolding entry_of
entry_name true bytes slot = refl
entry_name false bytes slot = refl

pub names_listed : (form : DtForm) (bytes : List ℕ) → names_of form bytes ≡ map name_in (entries_of form bytes)
names_listed form bytes = listed (is_leaf bytes) bytes (table_of form bytes)
  where
    listed : (leaf : Bool) (bytes xs : List ℕ) → map (name_of leaf bytes) xs ≡ map name_in (map (entry_of leaf bytes) xs)
    listed leaf bytes [] = refl
    listed leaf bytes (x ∷ xs) = rw (entry_name leaf bytes x, listed leaf bytes xs) refl

-- entries whose slots are as they were
pub all_same : (leaf : Bool) (old new : List ℕ) (xs : List ℕ) → ((k : ℕ) → 1 ≤ times k (flat_map (chain_of leaf old) xs) → SameSlot old new k) → AllByRecursion (SameEntry leaf old new) xs
all_same leaf old new [] h = tt
all_same leaf old new (x ∷ xs) h = (
  all_from (SameSlot old new) (chain_of leaf old x) (λ k there. h k (let a = times-append k (chain_of leaf old x) (flat_map (chain_of leaf old) xs) in omega (arith, a, there))),
  all_same leaf old new xs (λ k there. h k (let a = times-append k (chain_of leaf old x) (flat_map (chain_of leaf old) xs) in omega (arith, a, there))),
)

pub ends_kept : (leaf : Bool) (old new xs : List ℕ) → AllByRecursion (SameEntry leaf old new) xs → AllByRecursion (Ends leaf old) xs → AllByRecursion (Ends leaf new) xs
ends_kept leaf old new [] s a = tt
ends_kept leaf old new (x ∷ xs) s a = (ends_same leaf old new x s.0 a.0, ends_kept leaf old new xs s.1 a.1)

-- a page that breaks no rule
pub page_of : (form : DtForm) (new : List ℕ) → FlagFits form (flag_of new % 8) → SlotsFit form new → ChainsFit form new → FreeFits form new → IsRising (names_of form new) → IsDtPage form new
page_of form new flag slots chains free order = (flag, (slots, (chains, (free, (order, tt)))))

-- ---- joined

pub record Joins (form : DtForm) (old new : List ℕ) (place : ℕ) (e : Entry) : Type 0 where
  pub sound : IsDtPage form new
  pub entries : entries_of form new ≡ insert (entries_of form old) place e

pub joins : (form : DtForm) (old mid new : List ℕ) (place slot : ℕ) (e : Entry) (rest : ℕ) → IsDtPage form old → is_leaf old ≡ is_named e → slot ≡ first_free old → PutsEntry old mid slot e rest
    → Edits form old mid new (follow old slot (suc (need_of e))) → GoesAt (names_of form old) place (name_in e) → table_of form new ≡ insert (table_of form old) place slot
    → free_of new + suc (need_of e) ≡ free_of old → first_free new ≡ rest → Joins form old new place e
joins form old mid new place slot e rest page kind first p ed goes table free next =
    let leaf = is_leaf old in
    let taking = follow old slot (suc (need_of e)) in
    let left = follow old (behind old slot (suc (need_of e))) (free_of new) in
    let chains = page.1.1.0 in
    let frees = page.1.1.1.0 in
    let slots = page.1.0 in
    let flag = same_flag form old new ed.head in
    let leaf_new : is_leaf new ≡ leaf = same_leaf form old new ed.head in
    let parts : free_chain old ≡ taking ++ left = ap (λ (s : ℕ). follow old s (free_of old)) (sym first) ∙ follow_split old slot (suc (need_of e)) (free_of new) (free_of old) (omega (arith, free)) in
    let each : (k : ℕ) → times k (taken_of form old) + (times k taking + times k left) ≡ usable form old k =
    λ k. let a = frees.once k in let b = ap (times k) parts ∙ times-append k taking left in omega (arith, a, b) in
    let same : AllByRecursion (SameEntry leaf old new) (table_of form old) = all_same leaf old new (table_of form old)
    (λ k there. let a = each k in let b = usable_one form old k in same_both k old mid new (ed.kept k (omega (arith, a, b, there))) (ed.slots k (omega (arith, a, there)))) in
    let chain_new : chain_of leaf mid slot ≡ taking = subst (λ (b : Bool). chain_of b mid slot ≡ taking) (sym kind) p.chain in
    let here : SameEntry leaf mid new slot = subst (AllByRecursion (SameSlot mid new)) (sym chain_new) (all_from (SameSlot mid new) taking (λ k there. let a = each k in ed.slots k (omega (arith, a, there)))) in
    let ends_new : Ends leaf new slot = ends_same leaf mid new slot here (subst (λ (b : Bool). Ends b mid slot) (sym kind) p.ends) in
    let entry_new : entry_of leaf new slot ≡ e = entry_same leaf mid new slot here ∙ subst (λ (b : Bool). entry_of b mid slot ≡ e) (sym kind) p.entry in
    let name_new : name_of leaf new slot ≡ name_in e = sym (entry_name leaf new slot) ∙ ap name_in entry_new in
    let chain_here : chain_of leaf new slot ≡ taking = chain_same leaf mid new slot here ∙ chain_new in
    let left_same : (k : ℕ) → 1 ≤ times k left → SameSlot old new k = λ k there. let a = each k in let b = usable_one form old k in same_both k old mid new (ed.kept k (omega (arith, a, b, there))) (ed.slots k (omega (arith, a, there))) in
    let all_left = all_from (SameSlot old new) left left_same in
    let start : first_free new ≡ behind old slot (suc (need_of e)) = next ∙ p.next in
    let free_new : free_chain new ≡ left = ap (λ (s : ℕ). follow new s (free_of new)) start ∙ follow_same old new (behind old slot (suc (need_of e))) (free_of new) all_left in
    let taken_new : (k : ℕ) → times k (taken_of form new) ≡ times k (taken_of form old) + times k taking =
    λ k.
    ap (λ (b : Bool). times k (flat_map (chain_of b new) (table_of form new))) leaf_new ∙ ap (λ (xs : List ℕ). times k (flat_map (chain_of leaf new) xs)) table ∙ times_insert (chain_of leaf new) (table_of form old) place slot k
    ∙ ap (λ (xs : List ℕ). times k xs + times k (chain_of leaf new slot)) (all_flat (SameEntry leaf old new) (chain_of leaf new) (chain_of leaf old) (λ x s. chain_same leaf old new x s) (table_of form old) same)
    ∙ ap (λ (xs : List ℕ). times k (taken_of form old) + times k xs) chain_here in
    let once : (k : ℕ) → times k (taken_of form new) + times k (free_chain new) ≡ usable form new k =
    λ k. let a = taken_new k in let b = ap (times k) free_new in let d = each k in let u = same_usable form old new ed.head k in omega (arith, a, b, d, u) in
    let fits = same_fits form old new ed.head slots.table in
    let names_new : names_of form new ≡ insert (names_of form old) place (name_in e) =
    ap (λ (b : Bool). map (name_of b new) (table_of form new)) leaf_new ∙ ap (map (name_of leaf new)) table ∙ map_insert (name_of leaf new) (table_of form old) place slot
    ∙ ap (λ (ns : List (List ℕ)). insert ns place (name_of leaf new slot)) (all_map (SameEntry leaf old new) (name_of leaf new) (name_of leaf old) (λ x s. name_same leaf old new x s) (table_of form old) same)
    ∙ ap (insert (names_of form old) place) name_new in
    let ends_all : AllByRecursion (Ends leaf new) (table_of form new) =
    subst (AllByRecursion (Ends leaf new)) (sym table) (all_insert (Ends leaf new) (table_of form old) place slot (ends_kept leaf old new (table_of form old) same chains.ends) ends_new) in
    let chains_new : ChainsFit form new = record { ends = subst (λ (b : Bool). AllByRecursion (Ends b new) (table_of form new)) (sym leaf_new) ends_all; once = λ k. let a = once k in omega (arith, a) } in
    let most = slots.free in
    record {
      sound = page_of form new (subst (λ (f : ℕ). FlagFits form (f % 8)) (sym flag) page.0)
          (record { table = fits; entries = entries_fit form new fits chains_new.once; free = omega (arith, free, most) }) chains_new
          (record {
            ends = ap (λ (s : ℕ). behind new s (free_of new)) start ∙ behind_same old new (behind old slot (suc (need_of e))) (free_of new) all_left
                ∙ sym (behind_split old slot (suc (need_of e)) (free_of new) (free_of old) (omega (arith, free))) ∙ ap (λ (s : ℕ). behind old s (free_of old)) first ∙ frees.ends;
            once = once;
          })
          (subst IsRising (sym names_new) (rising_insert (names_of form old) place (name_in e) page.1.1.1.1.0 goes));
      entries =
          ap (λ (b : Bool). map (entry_of b new) (table_of form new)) leaf_new ∙ ap (map (entry_of leaf new)) table ∙ map_insert (entry_of leaf new) (table_of form old) place slot
          ∙ ap (λ (es : List Entry). insert es place (entry_of leaf new slot)) (all_map (SameEntry leaf old new) (entry_of leaf new) (entry_of leaf old) (λ x s. entry_same leaf old new x s) (table_of form old) same)
          ∙ ap (insert (entries_of form old) place) entry_new;
    }

-- ---- left

pub record Leaves (form : DtForm) (old new : List ℕ) (place : ℕ) : Type 0 where
  pub sound : IsDtPage form new
  pub entries : entries_of form new ≡ remove (entries_of form old) place

-- there is room for the slots that are given back
pub room_left : (form : DtForm) (old : List ℕ) (place slot : ℕ) → IsDtPage form old → place < count_of old → slot ≡ get_or (table_of form old) place 0 → (k : ℕ) → times k (free_chain old) + times k (chain_of (is_leaf old) old slot) ≤ usable form old k
room_left form old place slot page h e k =
    let a = page.1.1.1.0.once k in
    let b = times_remove (chain_of (is_leaf old) old) (table_of form old) place k (omega (arith, h, table_length form old)) in
    let d = ap (λ (s : ℕ). times k (chain_of (is_leaf old) old s)) e in
    omega (arith, a, b, d)

pub length_chain : (leaf : Bool) (bytes : List ℕ) (slot : ℕ) → length (chain_of leaf bytes slot) ≡ suc (more_slots leaf (length_of leaf bytes slot))
unfolding chain_of
length_chain leaf bytes slot = ap suc (length-follow bytes (link_of leaf bytes slot) (more_slots leaf (length_of leaf bytes slot)))

pub counts_fit : (form : DtForm) (old : List ℕ) (place slot : ℕ) → IsDtPage form old → place < count_of old → slot ≡ get_or (table_of form old) place 0 → free_of old + suc (more_slots (is_leaf old) (length_of (is_leaf old) old slot)) ≤ most_of form
counts_fit form old place slot page h e =
    let c = chain_of (is_leaf old) old slot in
    let a = usable_fit form old (free_chain old ++ c) page.1.0.table (λ k. let r = room_left form old place slot page h e k in let b = times-append k (free_chain old) c in omega (arith, r, b)) in
    let b = length-append (free_chain old) c in
    let d = length-follow old (first_free old) (free_of old) in
    let f = length_chain (is_leaf old) old slot in
    omega (arith, a, b, d, f)

pub leaves : (form : DtForm) (old mid new : List ℕ) (place slot : ℕ) → IsDtPage form old → place < count_of old → slot ≡ get_or (table_of form old) place 0 → Releases (is_leaf old) old mid slot (first_free old)
    → Edits form old mid new (chain_of (is_leaf old) old slot) → table_of form new ≡ remove (table_of form old) place
    → free_of new ≡ free_of old + suc (more_slots (is_leaf old) (length_of (is_leaf old) old slot)) → first_free new ≡ slot → Leaves form old new place
leaves form old mid new place slot page within is r ed table free first =
    let leaf = is_leaf old in
    let gone = chain_of leaf old slot in
    let more = suc (more_slots leaf (length_of leaf old slot)) in
    let rest = remove (table_of form old) place in
    let chains = page.1.1.0 in
    let frees = page.1.1.1.0 in
    let slots = page.1.0 in
    let flag = same_flag form old new ed.head in
    let leaf_new : is_leaf new ≡ leaf = same_leaf form old new ed.head in
    let each : (k : ℕ) → times k (flat_map (chain_of leaf old) rest) + times k gone + times k (free_chain old) ≡ usable form old k =
    λ k.
    let a = frees.once k in
    let b = times_remove (chain_of leaf old) (table_of form old) place k (omega (arith, within, table_length form old)) in
    let d = ap (λ (s : ℕ). times k (chain_of leaf old s)) is in
    omega (arith, a, b, d) in
    let same : AllByRecursion (SameEntry leaf old new) rest = all_same leaf old new rest
    (λ k there. let a = each k in let b = usable_one form old k in same_both k old mid new (ed.kept k (omega (arith, a, b, there))) (ed.slots k (omega (arith, a, there)))) in
    let kept_free = all_from (SameSlot old mid) (free_chain old) (λ k there. let a = each k in let b = usable_one form old k in ed.kept k (omega (arith, a, b, there))) in
    -- the free chain as the slots were written: the entry's, and then those that were free
    let start : follow mid slot (free_of new) ≡ gone ++ free_chain old =
    follow_split mid slot more (free_of old) (free_of new) (omega (arith, free)) ∙ ap (λ (xs : List ℕ). xs ++ follow mid (behind mid slot more) (free_of old)) r.chain
    ∙ ap (λ (s : ℕ). gone ++ follow mid s (free_of old)) r.ends ∙ ap (λ (xs : List ℕ). gone ++ xs) (follow_same old mid (first_free old) (free_of old) kept_free) in
    let kept_all : AllByRecursion (SameSlot mid new) (follow mid slot (free_of new)) =
    subst (AllByRecursion (SameSlot mid new)) (sym start) (all_from (SameSlot mid new) (gone ++ free_chain old) (λ k there. let a = each k in let b = times-append k gone (free_chain old) in ed.slots k (omega (arith, a, b, there)))) in
    let free_new : free_chain new ≡ gone ++ free_chain old = ap (λ (s : ℕ). follow new s (free_of new)) first ∙ follow_same mid new slot (free_of new) kept_all ∙ start in
    let taken_new : (k : ℕ) → times k (taken_of form new) ≡ times k (flat_map (chain_of leaf old) rest) =
    λ k.
    ap (λ (b : Bool). times k (flat_map (chain_of b new) (table_of form new))) leaf_new ∙ ap (λ (xs : List ℕ). times k (flat_map (chain_of leaf new) xs)) table
    ∙ ap (times k) (all_flat (SameEntry leaf old new) (chain_of leaf new) (chain_of leaf old) (λ x s. chain_same leaf old new x s) rest same) in
    let once : (k : ℕ) → times k (taken_of form new) + times k (free_chain new) ≡ usable form new k =
    λ k. let a = taken_new k in let b = ap (times k) free_new ∙ times-append k gone (free_chain old) in let d = each k in let u = same_usable form old new ed.head k in omega (arith, a, b, d, u) in
    let fits = same_fits form old new ed.head slots.table in
    let names_new : names_of form new ≡ remove (names_of form old) place =
    ap (λ (b : Bool). map (name_of b new) (table_of form new)) leaf_new ∙ ap (map (name_of leaf new)) table
    ∙ all_map (SameEntry leaf old new) (name_of leaf new) (name_of leaf old) (λ x s. name_same leaf old new x s) rest same ∙ map_remove (name_of leaf old) (table_of form old) place in
    let ends_all : AllByRecursion (Ends leaf new) (table_of form new) = subst (AllByRecursion (Ends leaf new)) (sym table) (ends_kept leaf old new rest same (all_remove (Ends leaf old) (table_of form old) place chains.ends)) in
    let chains_new : ChainsFit form new = record { ends = subst (λ (b : Bool). AllByRecursion (Ends b new) (table_of form new)) (sym leaf_new) ends_all; once = λ k. let a = once k in omega (arith, a) } in
    record {
      sound = page_of form new (subst (λ (f : ℕ). FlagFits form (f % 8)) (sym flag) page.0)
          (record { table = fits; entries = entries_fit form new fits chains_new.once; free = let c = counts_fit form old place slot page within is in omega (arith, free, c) }) chains_new
          (record {
            ends = ap (λ (s : ℕ). behind new s (free_of new)) first ∙ behind_same mid new slot (free_of new) kept_all
                ∙ behind_split mid slot more (free_of old) (free_of new) (omega (arith, free)) ∙ ap (λ (s : ℕ). behind mid s (free_of old)) r.ends
                ∙ behind_same old mid (first_free old) (free_of old) kept_free ∙ frees.ends;
            once = once;
          })
          (subst IsRising (sym names_new) (rising_remove (names_of form old) place page.1.1.1.1.0 (omega (arith, within, names_length form old))));
      entries =
          ap (λ (b : Bool). map (entry_of b new) (table_of form new)) leaf_new ∙ ap (map (entry_of leaf new)) table
          ∙ all_map (SameEntry leaf old new) (entry_of leaf new) (entry_of leaf old) (λ x s. entry_same leaf old new x s) rest same ∙ map_remove (entry_of leaf old) (table_of form old) place;
    }
