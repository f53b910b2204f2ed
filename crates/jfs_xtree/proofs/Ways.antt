-- The way through an inner page to a child.
use Rattle.std.proofs.Common.{◌≡◌, ◌≤◌, ◌<◌, ◌⊎◌, inl, inr, refl, sym, ap, ◌∙◌, subst, ℕ, zero, suc, ◌+◌, ◌-◌, ◌==◌, List, [], ◌∷◌, ◌++◌, map, length, take, drop, true, Some, arith}
use Rattle.std.specs.Prelude.{nat_le}
use Rattle.std.proofs.lemmas.Bool.{leb-true, le-leb, lt-leb}
use Rattle.std.proofs.lemmas.Bool.Decides.{nat_tests}
use Rattle.std.proofs.lemmas.List.{length-take-le}
use Rattle.jfs_bits.specs.declared.extent.Xad.{Xad}
use Rattle.jfs_bits.specs.Field.{field_of}
use Rattle.jfs_tree.specs.Walk.{Child, Inner}
use Rattle.jfs_tree.specs.Edit.{IsPast}
use Rattle.jfs_tree.specs.Form.{LeadsDown}
use Rattle.jfs_tree.proofs.Path.{AllPast, leads_alone}
use Rattle.jfs_xtpage.specs.declared.head.XtForm.{XtForm}
use Rattle.jfs_xtpage.specs.Page.{entries_of, entries_from, entry_of, count_of}
use Rattle.jfs_xtpage.proofs.Entries.{length-entries, replaced, last}
use Rattle.jfs_xtree.specs.Node.{xt_scale, is_within, all_within, child_of, xt_node, LeadsAt}
use Rattle.jfs_xtree.proofs.Reading.{and_true}

-- ---- a list at a place

pub cut_at : (bytes : List ℕ) (i : ℕ) → i < count_of bytes → entries_of bytes ≡ take i (entries_of bytes) ++ entry_of bytes i ∷ drop (i + 1) (entries_of bytes)
cut_at bytes i h =
    replaced bytes bytes 0 i (count_of bytes) i (entry_of bytes i) (omega arith) h (λ j a b. refl) refl (λ j a b. refl)
    ∙ ap (λ k. take i (entries_of bytes) ++ entry_of bytes i ∷ drop k (entries_of bytes)) (next i)
  where
    next : (i : ℕ) → suc i ≡ i + 1
    next i = omega arith

pub length_front : (bytes : List ℕ) (i : ℕ) → i < count_of bytes → length (take i (entries_of bytes)) ≡ i
length_front bytes i h = let l = length-entries bytes 0 (count_of bytes) in length-take-le i (entries_of bytes) (omega (arith, h, l))

pub map_cut : (a : List Xad) (e : Xad) (b : List Xad) → map child_of (a ++ e ∷ b) ≡ map child_of a ++ child_of e ∷ map child_of b
map_cut [] e b = refl
map_cut (x ∷ a) e b = ap (λ cs. child_of x ∷ cs) (map_cut a e b)

pub map_both : (a b : List Xad) → map child_of (a ++ b) ≡ map child_of a ++ map child_of b
map_both [] b = refl
map_both (x ∷ a) b = ap (λ cs. child_of x ∷ cs) (map_both a b)

pub length_map : (a : List Xad) → length (map child_of a) ≡ length a
length_map [] = refl
length_map (x ∷ a) = ap (λ n. suc n) (length_map a)

pub head_same : (x y : Child ℕ) (a b : List (Child ℕ)) → x ∷ a ≡ y ∷ b → (x ≡ y) × (a ≡ b)
head_same x y a b e = (ap (λ zs. head_or zs x) e, ap tail e)
  where
    head_or : List (Child ℕ) → Child ℕ → Child ℕ
    head_or [] d = d
    head_or (c ∷ cs) d = c

    tail : List (Child ℕ) → List (Child ℕ)
    tail [] = []
    tail (c ∷ cs) = cs

-- two cuts of one list at one place
pub cut_same : (a b : List (Child ℕ)) (x y : Child ℕ) (c d : List (Child ℕ)) → a ++ x ∷ c ≡ b ++ y ∷ d → length a ≡ length b → (a ≡ b) × (x ≡ y) × (c ≡ d)
cut_same [] [] x y c d e l = let t = head_same x y c d e in (refl, t.0, t.1)
cut_same [] (z ∷ b) x y c d e l = absurd (none (length b) l)
  where
    none : (n : ℕ) → zero ≡ suc n → ⊥
    none n e = omega (arith, e)
cut_same (w ∷ a) [] x y c d e l = absurd (none (length a) l)
  where
    none : (n : ℕ) → suc n ≡ zero → ⊥
    none n e = omega (arith, e)
cut_same (w ∷ a) (z ∷ b) x y c d e l =
    let t = head_same w z (a ++ x ∷ c) (b ++ y ∷ d) e in
    let r = cut_same a b x y c d t.1 (omega (arith, l)) in
    (ap (λ h. h ∷ a) t.0 ∙ ap (λ h. z ∷ h) r.0, r.1, r.2)

-- ---- the way down

past_list : (bytes : List ℕ) (x : Xad) (p m : ℕ) → (0 < m → x.offset < (entry_of bytes p).offset) → IsPast xt_scale x (map child_of (entries_from bytes p m))
past_list bytes x p zero h = tt
past_list bytes x p (suc m) h = lt-leb (entry_of bytes p).offset x.offset (h (omega arith))

all_past : (bytes : List ℕ) (x : Xad) (p m : ℕ) → ((j : ℕ) → p ≤ j → j < p + m → x.offset < (entry_of bytes j).offset) → AllPast xt_scale x.offset (map child_of (entries_from bytes p m))
all_past bytes x p zero h = tt
all_past bytes x p (suc m) h = (lt-leb (entry_of bytes p).offset x.offset (h p (omega arith) (omega arith)), all_past bytes x (suc p) m (λ j a l. h j (omega (arith, a)) (omega (arith, l))))

nothing : (bytes : List ℕ) → take 0 (entries_of bytes) ≡ []
nothing bytes = refl

pub leads_down : (form : XtForm) (blocks : ℕ) (bytes : List ℕ) (x : Xad) (place page : ℕ) → xt_node form blocks bytes ≡ Inner (map child_of (entries_of bytes)) → LeadsAt bytes x.offset place → page ≡ (entry_of bytes place).at.addr
    → LeadsDown xt_scale x (xt_node form blocks bytes) place page
leads_down form blocks bytes x place page is at to = record {
  front = map child_of (take place (entries_of bytes));
  child = child_of (entry_of bytes place);
  back = map child_of (drop (place + 1) (entries_of bytes));
  is = is ∙ ap (λ xs. Inner (map child_of xs)) (cut_at bytes place at.within) ∙ ap (λ cs. Inner cs) (map_cut (take place (entries_of bytes)) (entry_of bytes place) (drop (place + 1) (entries_of bytes)));
  at = length_map (take place (entries_of bytes)) ∙ length_front bytes place at.within;
  to = sym to;
  past = subst (λ xs. IsPast xt_scale x (map child_of xs)) (last bytes 0 (place + 1) (count_of bytes) (place + 1) (count_of bytes - (place + 1)) (let w = at.within in omega (arith, w)) (omega arith))
      (past_list bytes x (place + 1) (count_of bytes - (place + 1)) (λ h. at.past (place + 1) (omega arith) (omega (arith, h))));
  above = side place at.above;
  alone = leads_alone xt_scale x.offset (xt_node form blocks bytes) (map child_of (take place (entries_of bytes))) (child_of (entry_of bytes place)) (map child_of (drop (place + 1) (entries_of bytes)))
      (is ∙ ap (λ xs. Inner (map child_of xs)) (cut_at bytes place at.within) ∙ ap (λ cs. Inner cs) (map_cut (take place (entries_of bytes)) (entry_of bytes place) (drop (place + 1) (entries_of bytes))))
      (side place at.above)
      (subst (λ xs. AllPast xt_scale x.offset (map child_of xs)) (last bytes 0 (place + 1) (count_of bytes) (place + 1) (count_of bytes - (place + 1)) (let w = at.within in omega (arith, w)) (omega arith))
      (all_past bytes x (place + 1) (count_of bytes - (place + 1)) (λ j a l. at.past j (omega (arith, a)) (let w = at.within in omega (arith, l, w)))))
      ∙ ap Some (sym to);
}
  where
    side : (place : ℕ) → (0 < place → (entry_of bytes place).offset ≤ x.offset) → (map child_of (take place (entries_of bytes)) ≡ []) ⊎ (nat_le (entry_of bytes place).offset x.offset ≡ true)
    side zero h = inl (ap (map child_of) (nothing bytes))
    side (suc p) h = inr (le-leb (entry_of bytes (suc p)).offset x.offset (h (omega arith)))

pub tells_last : (bytes : List ℕ) (cs : List (Child ℕ)) (place next : ℕ) → map child_of (entries_of bytes) ≡ cs → next ≡ field_of bytes 18 2 → 2 ≤ field_of bytes 18 2 → (place + 3 == next) ≡ (suc place == length cs)
tells_last bytes cs place next is e l =
    let n : length cs ≡ count_of bytes = ap length (sym is) ∙ length_map (entries_of bytes) ∙ length-entries bytes 0 (count_of bytes) in
    by (place + 3) next (suc place) (length cs) (omega (arith, n, e, l))
  where
    by : (a b c d : ℕ) → (a + d ≡ b + c) → (a == b) ≡ (c == d)
    by a b c d h = grind (arith, nat_tests)

-- an entry's page
pub page_within : (blocks : ℕ) (bytes : List ℕ) (p n j : ℕ) → all_within blocks (entries_from bytes p n) ≡ true → p ≤ j → j < p + n → (entry_of bytes j).at.addr < blocks
page_within blocks bytes p zero j w a b = absurd (nowhere p j a b)
  where
    nowhere : (p j : ℕ) → p ≤ j → j < p + zero → ⊥
    nowhere p j a b = omega (arith, a, b)
page_within blocks bytes p (suc n) j w a b =
    let t = and_true (is_within blocks (entry_of bytes p)) (all_within blocks (entries_from bytes (suc p) n)) w in
    elim (cases p j a) [
      | inl e ↦ subst (λ k. (entry_of bytes k).at.addr < blocks) (sym e) (one (entry_of bytes p) t.0)
      | inr l ↦ page_within blocks bytes (suc p) n j t.1 l (omega (arith, b))
    ]
  where
    one : (x : Xad) → is_within blocks x ≡ true → x.at.addr < blocks
    one x w = let t = and_true (nat_le 1 x.at.len) (nat_le (x.at.addr + x.at.len) blocks) w in let a = leb-true 1 x.at.len t.0 in let b = leb-true (x.at.addr + x.at.len) blocks t.1 in omega (arith, a, b)

    cases : (p i : ℕ) → p ≤ i → (i ≡ p) ⊎ (suc p ≤ i)
    cases zero zero h = inl refl
    cases zero (suc i) h = inr (omega arith)
    cases (suc p) zero h = absurd (none p h)
      where
        none : (p : ℕ) → suc p ≤ zero → ⊥
        none p h = omega (arith, h)
    cases (suc p) (suc i) h = elim (cases p i (omega (arith, h))) [ inl e ↦ inl (ap (λ n. suc n) e) | inr l ↦ inr (omega (arith, l)) ]
