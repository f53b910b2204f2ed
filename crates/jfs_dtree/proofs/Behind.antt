-- Where a key goes behind the child at a place, the children's keys rise with it.
use Rattle.std.proofs.Common.{◌≡◌, ◌≤◌, ◌<◌, refl, sym, ap, ◌∙◌, subst, ℕ, zero, suc, ◌+◌, ◌-◌, ◌==◌, Bool, true, false, List, [], ◌∷◌, ◌++◌, length, map, Ok, Err, arith}
use Rattle.std.proofs.lemmas.Bool.Decides.{nat_tests}
use Rattle.jfs_dtpage.specs.declared.head.DtForm.{DtForm}
use Rattle.jfs_dtpage.specs.Order.{IsBefore, IsRising, IsFound, GoesAt, name_at}
use Rattle.jfs_dtpage.specs.Form.{count_of}
use Rattle.jfs_dtpage.specs.Page.{Entry, name_in, entries_of, names_of, IsDtPage}
use Rattle.jfs_dtpage.proofs.Pages.{names_length}
use Rattle.jfs_dtpage.proofs.Joined.{names_listed}
use Rattle.jfs_tree.specs.Walk.{Child}
use Rattle.jfs_tree.specs.Edit.{KeysAbove, KeysRise}
use Rattle.jfs_tree.specs.Form.{GoesBehind, HasRisingKeys}
use Rattle.jfs_tree.specs.Refusal.{begin_of, end_of, IsBetween}
use Rattle.jfs_tree.proofs.Refusing.{rise_with}
use Rattle.jfs_dtree.specs.Node.{name_scale, below, dt_node}
use Rattle.jfs_dtree.specs.Laws.{not_from}
use Rattle.jfs_dtree.specs.Parts.{lowered}
use Rattle.jfs_dtree.proofs.Nodes.{inner_is}
use Rattle.jfs_dtree.proofs.Offspring.{after_any, below_key, found_at, goes_once, head_key, name_lowered, rest_of}

-- ---- the keys of a page rise

tail_rises : (n : List ℕ) (ns : List (List ℕ)) → IsRising (n ∷ ns) → IsRising ns
tail_rises n ns r = λ i j h l. r (suc i) (suc j) (omega (arith, h)) (omega (arith, l))

above_it : (e : Entry) (es : List Entry) → IsRising (map name_in (e ∷ es)) → KeysAbove name_scale (name_in e) (map below es)
above_it e [] r = tt
above_it e (d ∷ ds) r = (
  not_from (name_in e) (below d).key (subst (IsBefore (name_in e)) (sym (below_key d)) (r 0 1 (omega arith) (omega arith))),
  subst (λ k. KeysAbove name_scale k (map below ds)) (sym (below_key d)) (above_it d ds (tail_rises (name_in e) (map name_in (d ∷ ds)) r)),
)

keys_rise : (es : List Entry) → IsRising (map name_in es) → KeysRise name_scale (map below es)
keys_rise [] r = tt
keys_rise (e ∷ []) r = tt
keys_rise (e ∷ d ∷ ds) r =
    let a = above_it e (d ∷ ds) r in
    (not_from [] (below d).key (subst (IsBefore []) (sym (below_key d)) (after_any (name_in e) (name_in d) (r 0 1 (omega arith) (omega arith)))), a.1)

pub rising_keys : (form : DtForm) (blocks : ℕ) (bytes : List ℕ) → HasRisingKeys name_scale (dt_node form blocks bytes)
rising_keys form blocks bytes cs is =
    let t = inner_is form blocks bytes cs is in
    subst (KeysRise name_scale) t.4 (keys_rise (entries_of form bytes) (subst IsRising (names_listed form bytes) t.0.1.1.1.1.0))

-- ---- the place of a key, the first child's key aside

from_rest : (key : List ℕ) (es : List Entry) (p : ℕ) → 0 < length (map name_in es) → suc p ≤ length (map name_in es) → IsBefore [] key
    → ((i : ℕ) → 0 < i → i < suc p → IsBefore (name_at (map name_in es) i) key) → ((i : ℕ) → suc p ≤ i → i < length (map name_in es) → IsBefore key (name_at (map name_in es) i))
    → GoesAt (map name_in (lowered key es)) (suc p) key
from_rest key [] p some within least before behind = absurd (none some)
  where
    none : 0 < 0 → ⊥
    none h = omega (arith, h)
from_rest key (e ∷ es) p some within least before behind = record {
  within = within;
  before = first;
  behind = rest;
}
  where
    first : (i : ℕ) → i < suc p → IsBefore (name_at (map name_in (lowered key (e ∷ es))) i) key
    first zero h = name_lowered key e least
    first (suc i) h = before (suc i) (omega arith) h

    rest : (i : ℕ) → suc p ≤ i → i < length (map name_in (lowered key (e ∷ es))) → IsBefore key (name_at (map name_in (lowered key (e ∷ es))) i)
    rest zero h l = absurd (omega (arith, h))
    rest (suc i) h l = behind (suc i) h l

goes_found : (key : List ℕ) (es : List Entry) → IsRising (map name_in es) → IsBefore [] key → IsFound (map name_in es) key (Ok 0) → GoesAt (map name_in (lowered key es)) 1 key
goes_found key es rising least found =
    let w = found.0 in
    from_rest key es 0 w (omega (arith, w)) least (λ i h l. absurd (omega (arith, h, l)))
    (λ i h l. subst (λ k. IsBefore k (name_at (map name_in es) i)) found.1 (rising 0 i (omega (arith, h)) l))

goes_new : (key : List ℕ) (es : List Entry) (next p : ℕ) → 0 < length (map name_in es) → next ≤ suc p → (0 < p → suc p ≡ next) → IsBefore [] key → GoesAt (map name_in es) next key → GoesAt (map name_in (lowered key es)) (suc p) key
goes_new key es next zero some high same least g =
    from_rest key es 0 some (omega (arith, some)) least (λ i h l. absurd (omega (arith, h, l))) (λ i h l. g.behind i (omega (arith, h, high)) l)
goes_new key es next (suc p) some high same least g =
    let e = same (omega arith) in
    let w = g.within in
    from_rest key es (suc p) some (omega (arith, e, w)) least (λ i h l. g.before i (omega (arith, l, e))) (λ i h l. g.behind i (omega (arith, h, e)) l)

none_least : (key : List ℕ) (es : List Entry) (p : ℕ) → key ≡ [] → GoesAt (map name_in (lowered key es)) (suc p) key → ⊥
none_least key es p is g = never (name_at (map name_in (lowered key es)) 0) (subst (IsBefore (name_at (map name_in (lowered key es)) 0)) is (g.before 0 (omega arith)))
  where
    never : (a : List ℕ) → IsBefore a [] → ⊥
    never [] h = cc
    never (x ∷ a) h = cc

not_found : (key : List ℕ) (es : List Entry) (i p : ℕ) → 0 < i → IsFound (map name_in es) key (Ok i) → GoesAt (map name_in (lowered key es)) (suc p) key → ⊥
not_found key [] i p some found g = absurd (none (found.0))
  where
    none : i < 0 → ⊥
    none h = omega (arith, h)
not_found key (e ∷ es) zero p some found g = absurd (omega (arith, some))
not_found key (e ∷ es) (suc i) p some found g = found_at (map name_in (lowered key (e ∷ es))) (suc p) key g (suc i) found

goes_here : (key : List ℕ) (es : List Entry) (p q : ℕ) → GoesAt (map name_in (lowered key es)) (suc p) key → GoesAt (map name_in (lowered key es)) (suc q) key → p ≡ q
goes_here key es p q a b = let e = goes_once (map name_in (lowered key es)) (suc q) (suc p) key b a in omega (arith, e)

-- ---- what a search tells of the place

same_of : (a b : ℕ) → (a == b) ≡ true → a ≡ b
same_of a b h = grind (arith, nat_tests)

other_of : (a b : ℕ) → (a == b) ≡ false → a ≡ b → ⊥
other_of a b h e = grind (arith, nat_tests)

none_of : (key : List ℕ) → (length key == 0) ≡ true → key ≡ []
none_of [] h = refl
none_of (u ∷ us) h = absurd (none (length us) h)
  where
    none : (n : ℕ) → (suc n == 0) ≡ true → ⊥
    none n h = grind (arith, nat_tests)

some_of : (key : List ℕ) → (length key == 0) ≡ false → IsBefore [] key
some_of [] h = absurd cc
some_of (u ∷ us) h = refl

module _ (form : DtForm) (bytes key : List ℕ) (place : ℕ) (page : IsDtPage form bytes) (has : 0 < count_of bytes) where
  ns : names_of form bytes ≡ map name_in (entries_of form bytes)
  ns = names_listed form bytes

  rising : IsRising (map name_in (entries_of form bytes))
  rising = subst IsRising ns page.1.1.1.1.0

  size : length (map name_in (entries_of form bytes)) ≡ count_of bytes
  size = ap length (sym ns) ∙ names_length form bytes

  pub empty_clashes : (r : Bool) → r ≡ (length key == 0) → r ≡ true → GoesAt (map name_in (lowered key (entries_of form bytes))) (suc place) key → ⊥
  empty_clashes r is empty g = none_least key (entries_of form bytes) place (none_of key (sym is ∙ empty)) g

  module _ (r : Bool) (is : r ≡ (length key == 0)) (some : r ≡ false) where
    least : IsBefore [] key
    least = some_of key (sym is ∙ some)

    at_first : (found : ℕ) → IsFound (names_of form bytes) key (Ok found) → found ≡ 0 → GoesAt (map name_in (lowered key (entries_of form bytes))) 1 key
    at_first found f first = goes_found key (entries_of form bytes) rising least (subst (λ n. IsFound (map name_in (entries_of form bytes)) key (Ok n)) first (subst (λ names. IsFound names key (Ok found)) ns f))

    pub first_goes : (found : ℕ) → IsFound (names_of form bytes) key (Ok found) → found ≡ 0 → (place == 0) ≡ true → GoesAt (map name_in (lowered key (entries_of form bytes))) (suc place) key
    first_goes found f first zero_place = subst (λ p. GoesAt (map name_in (lowered key (entries_of form bytes))) (suc p) key) (sym (same_of place 0 zero_place)) (at_first found f first)

    pub first_clashes : (found : ℕ) → IsFound (names_of form bytes) key (Ok found) → found ≡ 0 → (place == 0) ≡ false → GoesAt (map name_in (lowered key (entries_of form bytes))) (suc place) key → ⊥
    first_clashes found f first other g = other_of place 0 other (goes_here key (entries_of form bytes) place 0 g (at_first found f first))

    pub later_clashes : (found : ℕ) → IsFound (names_of form bytes) key (Ok found) → (found ≡ 0 → ⊥) → GoesAt (map name_in (lowered key (entries_of form bytes))) (suc place) key → ⊥
    later_clashes found f later g = not_found key (entries_of form bytes) found place (above found later) (subst (λ names. IsFound names key (Ok found)) ns f) g
      where
        above : (n : ℕ) → (n ≡ 0 → ⊥) → 0 < n
        above zero h = absurd (h refl)
        above (suc n) h = omega arith

    new_at : (next before : ℕ) → before ≡ next - 1 → IsFound (names_of form bytes) key (Err next) → GoesAt (map name_in (lowered key (entries_of form bytes))) (suc before) key
    new_at next before sub f =
        goes_new key (entries_of form bytes) next before (let n = size in omega (arith, n, has)) (omega (arith, sub)) (λ h. omega (arith, sub, h)) least (subst (λ names. GoesAt names next key) ns f)

    pub new_goes : (next before : ℕ) → before ≡ next - 1 → IsFound (names_of form bytes) key (Err next) → (before == place) ≡ true → GoesAt (map name_in (lowered key (entries_of form bytes))) (suc place) key
    new_goes next before sub f here = subst (λ p. GoesAt (map name_in (lowered key (entries_of form bytes))) (suc p) key) (same_of before place here) (new_at next before sub f)

    pub new_clashes : (next before : ℕ) → before ≡ next - 1 → IsFound (names_of form bytes) key (Err next) → (before == place) ≡ false → GoesAt (map name_in (lowered key (entries_of form bytes))) (suc place) key → ⊥
    new_clashes next before sub f other g = other_of before place other (goes_here key (entries_of form bytes) before place (new_at next before sub f) g)

    pub new_within : (next before : ℕ) → before ≡ next - 1 → IsFound (names_of form bytes) key (Err next) → (before == place) ≡ true → place < count_of bytes
    new_within next before sub f here =
        let e = same_of before place here in
        let w = f.within in
        let n = names_length form bytes in
        omega (arith, e, w, n, sub, has)

-- ---- so the keys rise with the key behind that place

key_at : (es : List Entry) (front : List (Child (List ℕ))) (c : Child (List ℕ)) (back : List (Child (List ℕ))) → map below es ≡ front ++ c ∷ back → name_at (map name_in es) (length front) ≡ c.key
key_at [] [] c back is = absurd cc
key_at [] (f ∷ front) c back is = absurd cc
key_at (e ∷ es) [] c back is = head_key e es c back is
key_at (e ∷ es) (f ∷ front) c back is = key_at es front c back (ap rest_of is)

key_next : (es : List Entry) (front : List (Child (List ℕ))) (c b : Child (List ℕ)) (back : List (Child (List ℕ))) → map below es ≡ front ++ c ∷ b ∷ back → (name_at (map name_in es) (suc (length front)) ≡ b.key) × (suc (length front) < length (map name_in es))
key_next [] [] c b back is = absurd cc
key_next [] (f ∷ front) c b back is = absurd cc
key_next (e ∷ []) [] c b back is = absurd cc
key_next (e ∷ d ∷ es) [] c b back is = (head_key d es b back (ap rest_of is), omega arith)
key_next (e ∷ es) (f ∷ front) c b back is = let n = key_next es front c b back (ap rest_of is) in (n.0, (let l = n.1 in omega (arith, l)))

low_at : (key : List ℕ) (es : List Entry) (i : ℕ) → name_at (map name_in (lowered key es)) (suc i) ≡ name_at (map name_in es) (suc i)
low_at key [] i = refl
low_at key (e ∷ es) i = refl

low_length : (key : List ℕ) (es : List Entry) → length (map name_in (lowered key es)) ≡ length (map name_in es)
low_length key [] = refl
low_length key (e ∷ es) = refl

begins : (es : List Entry) (key : List ℕ) (front : List (Child (List ℕ))) (c : Child (List ℕ)) (back : List (Child (List ℕ))) → map below es ≡ front ++ c ∷ back → GoesAt (map name_in (lowered key es)) (suc (length front)) key → name_scale.le key (begin_of name_scale front c) ≡ false
begins es key [] c back is g = not_from [] key (after_any (name_at (map name_in (lowered key es)) 0) key (g.before 0 (omega arith)))
begins es key (f ∷ front) c back is g =
    not_from c.key key (subst (λ n. IsBefore n key) (low_at key es (length front) ∙ key_at es (f ∷ front) c back is) (g.before (suc (length front)) (omega arith)))

between : (es : List Entry) (key : List ℕ) (front : List (Child (List ℕ))) (c : Child (List ℕ)) (back : List (Child (List ℕ))) → map below es ≡ front ++ c ∷ back → GoesAt (map name_in (lowered key es)) (suc (length front)) key → IsBetween name_scale (begin_of name_scale front c) (end_of back) key
between es key front c [] is g = begins es key front c [] is g
between es key front c (b ∷ back) is g =
    let n = key_next es front c b back is in
    let l = n.1 in
    let size = low_length key es in
    (begins es key front c (b ∷ back) is g, not_from key b.key (subst (IsBefore key) (low_at key es (length front) ∙ n.0) (g.behind (suc (length front)) (omega arith) (omega (arith, l, size)))))

pub goes_behind : (form : DtForm) (blocks : ℕ) (bytes : List ℕ) (place : ℕ) (child : Child (List ℕ)) → GoesAt (map name_in (lowered child.key (entries_of form bytes))) (suc place) child.key → GoesBehind name_scale (dt_node form blocks bytes) place child
goes_behind form blocks bytes place child g all at =
    let t = inner_is form blocks bytes (at.front ++ at.before ∷ at.back) at.was in
    subst (KeysRise name_scale) (sym at.is)
    (rise_with name_scale at.front at.before child at.back (rising_keys form blocks bytes (at.front ++ at.before ∷ at.back) at.was)
    (between (entries_of form bytes) child.key at.front at.before at.back t.4
    (subst (λ p. GoesAt (map name_in (lowered child.key (entries_of form bytes))) (suc p) child.key) (sym at.at) g)))

pub next_place : (p : ℕ) → suc p ≡ p + 1
next_place p = omega arith
