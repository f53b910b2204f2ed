-- Entries that move from the end of a page to the front of the next one.
use Rattle.std.proofs.Common.{◌≡◌, ◌≤◌, ◌<◌, ◌+◌, ◌/◌, ◌%◌, ◌==◌, ℕ, zero, suc, List, [], ◌∷◌, ◌++◌, length, map, inl, inr, refl, sym, ap, ◌∙◌, subst, arith}
use Rattle.std.specs.List.{insert}
use Rattle.std.proofs.lemmas.List.{length-map, map-append, append-nil}
use Rattle.std.proofs.lemmas.List.Sums.{sum_by-cons, sum_by-append, sum_by-insert}
use Rattle.jfs_dtpage.specs.declared.head.DtForm.{DtForm}
use Rattle.jfs_dtpage.specs.declared.head.DtForm.TheVariants.{Full}
use Rattle.jfs_dtpage.specs.Form.{free_of, count_of, is_leaf, KeepsHead}
use Rattle.jfs_dtpage.specs.Order.{IsRising, GoesAt}
use Rattle.jfs_dtpage.specs.Page.{Entry, Named, Below, name_in, entries_of, names_of, IsDtPage}
use Rattle.jfs_dtpage.specs.Fill.{slots_of_entry, slots_in}
use Rattle.jfs_dtpage.proofs.Pages.{names_length}
use Rattle.jfs_dtpage.proofs.Joined.{names_listed}
use Rattle.jfs_dtpage.proofs.Edited.{rising_insert}
use Rattle.jfs_dtpage.proofs.Filled.{filled}
use Rattle.jfs_tree.specs.Edit.{IsCons}
use Rattle.jfs_dtree.specs.Parts.{TakesTooMuch, IsLongestFront, ArePages, MovesLast, Sheds}
use Rattle.jfs_dtree.proofs.Lists.{insert_front, insert_back, map_insert, regroup}

-- ---- entries and their names

pub entries_count : (form : DtForm) (bytes : List ℕ) → length (entries_of form bytes) ≡ count_of bytes
entries_count form bytes = sym (length-map (entries_of form bytes) name_in) ∙ ap length (sym (names_listed form bytes)) ∙ names_length form bytes

pub names_both : (form : DtForm) (left right : List ℕ) → map name_in (entries_of form left ++ entries_of form right) ≡ names_of form left ++ names_of form right
names_both form left right = map-append name_in (entries_of form left) (entries_of form right) ∙ rw (names_listed form left, names_listed form right) refl

pub kept_leaf : (form : DtForm) (old new : List ℕ) → KeepsHead form old new → is_leaf new ≡ is_leaf old
kept_leaf form old new k = ap (λ (f : ℕ). f / 2 % 2 == 1) k.flag

pub heads_through : (form : DtForm) (old mid new : List ℕ) → KeepsHead form old mid → KeepsHead form mid new → KeepsHead form old new
heads_through form old mid new a b = record { flag = b.flag ∙ a.flag; place = b.place ∙ a.place }

-- ---- slots

pub small_entry : (e : Entry) → length (name_in e) ≤ 255 → slots_of_entry e ≤ 18
small_entry (Named inode name) h = omega (arith, h)
small_entry (Below at name) h = omega (arith, h)

pub slots_both : (all : List Entry) (left right : List ℕ) → ArePages all left right → free_of left + free_of right + slots_in all ≡ 246
slots_both all left right p =
    let a = filled Full left p.left_sound in
    let b = filled Full right p.right_sound in
    let c = sum_by-append slots_of_entry (entries_of Full left) (entries_of Full right) in
    let d = ap slots_in p.rows in
    omega (arith, a, b, c, d)

some_slots : (es : List Entry) → 0 < slots_in es → IsCons es
some_slots [] h = absurd (no_slots h)
  where
    no_slots : 0 < 0 → ⊥
    no_slots h = omega (arith, h)
some_slots (e ∷ es) h = tt

pub some_entries : (bytes : List ℕ) → IsDtPage Full bytes → free_of bytes ≤ 70 → IsCons (entries_of Full bytes)
some_entries bytes page few = some_slots (entries_of Full bytes) (let a = filled Full bytes page in omega (arith, a, few))

pub cons_some : (es : List Entry) → IsCons es → 0 < length es
cons_some [] c = absurd c
cons_some (e ∷ es) c = omega arith

pub some_count : (bytes : List ℕ) → IsDtPage Full bytes → free_of bytes ≤ 70 → 0 < count_of bytes
some_count bytes page few = let a = cons_some (entries_of Full bytes) (some_entries bytes page few) in let b = entries_count Full bytes in omega (arith, a, b)

-- ---- one move

pub moved_rows : (l r l' r' : List Entry) → MovesLast l r l' r' → l' ++ r' ≡ l ++ r
moved_rows l r l' r' m = ap (λ (z : List Entry). l' ++ z) m.now ∙ regroup l' r m.last ∙ ap (λ (z : List Entry). z ++ r) (sym m.was)

moved_slots : (l r l' r' : List Entry) (m : MovesLast l r l' r') → slots_in l ≡ slots_in l' + slots_of_entry m.last
moved_slots l r l' r' m =
    let a = ap slots_in m.was in
    let b = sum_by-append slots_of_entry l' (m.last ∷ []) in
    let c = sum_by-cons slots_of_entry m.last [] in
    omega (arith, a, b, c)

pub moves_fewer : (l r l' r' : List Entry) → MovesLast l r l' r' → length l ≡ suc (length l')
moves_fewer l r l' r' m = ap length m.was ∙ one_more l' m.last
  where
    one_more : (xs : List Entry) (x : Entry) → length (xs ++ x ∷ []) ≡ suc (length xs)
    one_more [] x = refl
    one_more (y ∷ xs) x = ap suc (one_more xs x)

too_much_here : (l r r' : List Entry) (last : Entry) → r' ≡ last ∷ r → 70 < slots_in l + slots_of_entry last → TakesTooMuch l r'
too_much_here l r r' last e h = subst (TakesTooMuch l) (sym e) h

pub sheds_more : (old_left old_right l r l' r' : List ℕ) → Sheds old_left old_right l r → free_of l < 53 → ArePages (entries_of Full l ++ entries_of Full r) l' r' → MovesLast (entries_of Full l) (entries_of Full r) (entries_of Full l') (entries_of Full r')
    → KeepsHead Full l l' → KeepsHead Full r r' → Sheds old_left old_right l' r'
sheds_more old_left old_right l r l' r' s full p m hl hr =
    let a = filled Full l s.pages.left_sound in
    let b = filled Full l' p.left_sound in
    let c = moved_slots (entries_of Full l) (entries_of Full r) (entries_of Full l') (entries_of Full r') m in
    let d = m.small in
    record {
      pages = record { left_sound = p.left_sound; right_sound = p.right_sound; kind = p.kind; rows = p.rows ∙ s.pages.rows };
      head_left = heads_through Full old_left l l' s.head_left hl;
      head_right = heads_through Full old_right r r' s.head_right hr;
      few = omega (arith, a, b, c, d, full);
      next = inr (too_much_here (entries_of Full l') (entries_of Full r) (entries_of Full r') m.last m.now (omega (arith, a, c, full)));
    }

pub room_behind : (old_left old_right l r : List ℕ) → ArePages (entries_of Full old_left ++ entries_of Full old_right) old_left old_right → 105 ≤ free_of old_left + free_of old_right → Sheds old_left old_right l r → free_of l < 53 → 18 ≤ free_of r
room_behind old_left old_right l r p room s full =
    let a = slots_both (entries_of Full old_left ++ entries_of Full old_right) l r s.pages in
    let b = slots_both (entries_of Full old_left ++ entries_of Full old_right) old_left old_right p in
    omega (arith, a, b, room, full)

-- ---- all moves of a split

-- a page that takes more than 70 slots, and one without entries
pub first_shed : (old r0 l r : List ℕ) → IsDtPage Full old → free_of old < 53 → entries_of Full r0 ≡ [] → Sheds old r0 l r → 53 ≤ free_of l → (entries_of Full l ++ entries_of Full r ≡ entries_of Full old) × TakesTooMuch (entries_of Full l) (entries_of Full r)
first_shed old r0 l r page full none s enough = (
  s.pages.rows ∙ ap (λ (z : List Entry). entries_of Full old ++ z) none ∙ append-nil (entries_of Full old),
  elim s.next [
    | inl same ↦ absurd (let a = filled Full old page in let b = filled Full l s.pages.left_sound in let c = ap slots_in same.0 in wrong _ _ _ _ a b c full enough)
    | inr t ↦ t
  ],
)
  where
    wrong : (f g s t : ℕ) → f + s ≡ 123 → g + t ≡ 123 → t ≡ s → f < 53 → 53 ≤ g → ⊥
    wrong f g s t a b c d e = omega (arith, a, b, c, d, e)

few_slots : (bytes : List ℕ) → IsDtPage Full bytes → 53 ≤ free_of bytes → slots_in (entries_of Full bytes) ≤ 70
few_slots bytes page enough = let a = filled Full bytes page in omega (arith, a, enough)

too_much_behind : (l r : List Entry) (m : ℕ) (e : Entry) → 0 < m → TakesTooMuch l r → TakesTooMuch l (insert r m e)
too_much_behind l [] m e h t = absurd t
too_much_behind l (x ∷ r) zero e h t = absurd (wrong h)
  where
    wrong : 0 < 0 → ⊥
    wrong h = omega (arith, h)
too_much_behind l (x ∷ r) (suc m) e h t = t

too_much_more : (l l' r : List Entry) → slots_in l ≤ slots_in l' → TakesTooMuch l r → TakesTooMuch l' r
too_much_more l l' [] h t = t
too_much_more l l' (x ∷ r) h t = omega (arith, h, t)

-- what a split leaves, but for the kind of page and its neighbours
pub record Spreads (old l r : List ℕ) (place : ℕ) (e : Entry) : Type 0 where
  pub pages : ArePages (insert (entries_of Full old) place e) l r
  pub longest : IsLongestFront (entries_of Full l) (entries_of Full r)
  pub some : IsCons (entries_of Full l)

-- the entry goes behind those that stay
pub spreads_back : (old l r r' : List ℕ) (place m : ℕ) (e : Entry) → (entries_of Full l ++ entries_of Full r ≡ entries_of Full old) × TakesTooMuch (entries_of Full l) (entries_of Full r) → IsDtPage Full l → 53 ≤ free_of l → free_of l ≤ 70
    → is_leaf r ≡ is_leaf l → IsDtPage Full r' → KeepsHead Full r r' → entries_of Full r' ≡ insert (entries_of Full r) m e → place ≡ count_of l + m → 0 < m → Spreads old l r' place e
spreads_back old l r r' place m e first page enough few kind sound head entries at some =
    let p : place ≡ length (entries_of Full l) + m = (let c = entries_count Full l in omega (arith, at, c)) in
    record {
      pages = record {
        left_sound = page;
        right_sound = sound;
        kind = kept_leaf Full r r' head ∙ kind;
        rows = ap (λ (z : List Entry). entries_of Full l ++ z) entries ∙ sym (insert_back (entries_of Full l) (entries_of Full r) place m e p) ∙ ap (λ (z : List Entry). insert z place e) first.0;
      };
      longest = (few_slots l page enough, subst (TakesTooMuch (entries_of Full l)) (sym entries) (too_much_behind (entries_of Full l) (entries_of Full r) m e some first.1));
      some = some_entries l page few;
    }

-- the entry goes among those that stay, of which the last may go then
pub front_rows : (old l l2 r : List ℕ) (place : ℕ) (e : Entry) → entries_of Full l ++ entries_of Full r ≡ entries_of Full old → entries_of Full l2 ≡ insert (entries_of Full l) place e → place ≤ count_of l
    → entries_of Full l2 ++ entries_of Full r ≡ insert (entries_of Full old) place e
front_rows old l l2 r place e rows entries h =
    ap (λ (z : List Entry). z ++ entries_of Full r) entries ∙ sym (insert_front (entries_of Full l) (entries_of Full r) place e (let c = entries_count Full l in omega (arith, c, h))) ∙ ap (λ (z : List Entry). insert z place e) rows

pub rising_more : (form : DtForm) (old : List ℕ) (place : ℕ) (e : Entry) → IsDtPage form old → GoesAt (names_of form old) place (name_in e) → IsRising (map name_in (insert (entries_of form old) place e))
rising_more form old place e page goes =
    subst IsRising (sym (map_insert name_in (entries_of form old) place e ∙ ap (λ (ns : List (List ℕ)). insert ns place (name_in e)) (sym (names_listed form old)))) (rising_insert (names_of form old) place (name_in e) page.1.1.1.1.0 goes)

pub spreads_front : (old l l2 r l3 r3 : List ℕ) (place : ℕ) (e : Entry) → (entries_of Full l ++ entries_of Full r ≡ entries_of Full old) × TakesTooMuch (entries_of Full l) (entries_of Full r) → entries_of Full l2 ≡ insert (entries_of Full l) place e
    → place ≤ count_of l → Sheds l2 r l3 r3 → 53 ≤ free_of l3 → Spreads old l3 r3 place e
spreads_front old l l2 r l3 r3 place e first entries h s enough =
    let p = s.pages in
    record {
      pages = record { left_sound = p.left_sound; right_sound = p.right_sound; kind = p.kind; rows = p.rows ∙ front_rows old l l2 r place e first.0 entries h };
      longest = (
        few_slots l3 p.left_sound enough,
        elim s.next [
          | inl same ↦ subst (TakesTooMuch (entries_of Full l3)) (sym same.1) (too_much_more (entries_of Full l) (entries_of Full l3) (entries_of Full r)
              (let a = ap slots_in (same.0 ∙ entries) in let b = sum_by-insert slots_of_entry (entries_of Full l) place e in omega (arith, a, b)) first.1)
          | inr t ↦ t
        ],
      );
      some = some_entries l3 p.left_sound s.few;
    }

-- ---- what the moves ask for

pub rising_alone : (old r0 : List ℕ) → IsDtPage Full old → entries_of Full r0 ≡ [] → IsRising (map name_in (entries_of Full old ++ entries_of Full r0))
rising_alone old r0 page none = subst IsRising (names_listed Full old ∙ ap (map name_in) (sym (ap (λ (z : List Entry). entries_of Full old ++ z) none ∙ append-nil (entries_of Full old)))) page.1.1.1.1.0

pub empty_free : (r0 : List ℕ) → IsDtPage Full r0 → entries_of Full r0 ≡ [] → free_of r0 ≡ 123
empty_free r0 page none = let a = filled Full r0 page in let b = ap slots_in none in omega (arith, a, b)

pub names_parts : (old l r : List ℕ) → entries_of Full l ++ entries_of Full r ≡ entries_of Full old → names_of Full l ++ names_of Full r ≡ names_of Full old
names_parts old l r rows = sym (names_both Full l r) ∙ ap (map name_in) rows ∙ sym (names_listed Full old)

-- where 70 slots at most were moved
pub much_behind : (old r0 l r : List ℕ) → IsDtPage Full old → IsDtPage Full r0 → entries_of Full r0 ≡ [] → Sheds old r0 l r → 123 ≤ free_of l + free_of r
much_behind old r0 l r page fresh none s =
    let a = slots_both (entries_of Full old ++ entries_of Full r0) l r s.pages in
    let b = sum_by-append slots_of_entry (entries_of Full old) (entries_of Full r0) in
    let c = filled Full old page in
    let d = ap slots_in none in
    omega (arith, a, b, c, d)

pub one_more_slots : (l l2 : List ℕ) (place : ℕ) (e : Entry) → IsDtPage Full l → IsDtPage Full l2 → entries_of Full l2 ≡ insert (entries_of Full l) place e → free_of l2 + slots_of_entry e ≡ free_of l
one_more_slots l l2 place e page sound entries =
    let a = filled Full l page in
    let b = filled Full l2 sound in
    let c = ap slots_in entries in
    let d = sum_by-insert slots_of_entry (entries_of Full l) place e in
    omega (arith, a, b, c, d)

pub alone : (xs rs : List Entry) (p : ℕ) (x : Entry) → p ≡ length xs → rs ≡ [] → xs ++ insert rs 0 x ≡ insert xs p x
alone xs rs p x e empty = sym (insert_back xs rs p 0 x (omega (arith, e))) ∙ ap (λ (z : List Entry). insert z p x) (ap (λ (z : List Entry). xs ++ z) empty ∙ append-nil xs)

pub first_there : (rs ss : List Entry) (x : Entry) → ss ≡ insert rs 0 x → IsCons ss
first_there rs ss x e = subst IsCons (sym e) tt
