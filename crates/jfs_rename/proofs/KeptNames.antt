-- What a name names among names that change.
use Rattle.std.proofs.Common.{◌≡◌, ◌≢◌, refl, sym, ap, ◌∙◌, subst, ℕ, zero, suc, ◌+◌, Bool, cond, arith, true, false, not, if◌then◌else◌, List, [], ◌∷◌, ◌++◌, take, drop, Option, Some, None}
use Rattle.std.specs.Prelude.{slice_get, slice_set}
use Rattle.std.proofs.lemmas.List.{take-append-drop}
use Rattle.std.proofs.lemmas.Map.Text.{is_eq-slice_cmp}
use Rattle.std.proofs.lemmas.Slice.Eq.{bytes_eq-Decides}
use Rattle.jfs_name.specs.declared.name.NameEntry.{NameEntry}
use Rattle.jfs_name.specs.Directory.{is_same, named, place_of, place_for, with_name, set_inode, with_inode}

same_is : (a b : List ℕ) → is_same a b ≡ true → a ≡ b
same_is a b h = (bytes_eq-Decides a b).0 (sym (is_eq-slice_cmp a b) ∙ h)

-- names that name two things are two
pub other_name : (es : List NameEntry) (a b : List ℕ) → named a es ≢ named b es → is_same a b ≡ false
other_name es a b far = by (is_same a b) refl
  where
    by : (x : Bool) → is_same a b ≡ x → is_same a b ≡ false
    by true h = absurd (far (ap (λ (n : List ℕ). named n es) (same_is a b h)))
    by false h = h

named_middle : (name : List ℕ) (a b : List NameEntry) (x : NameEntry) → is_same x.name name ≡ false → named name (a ++ x ∷ b) ≡ named name (a ++ b)
named_middle name [] b x h = ap (λ (z : Bool). if z then Some x.inode else named name b) h
named_middle name (e ∷ a) b x h = ap (λ (z : Option ℕ). if is_same e.name name then Some e.inode else z) (named_middle name a b x h)

-- another name goes in
pub named_with : (name : List ℕ) (x : NameEntry) (es : List NameEntry) → is_same x.name name ≡ false → named name (with_name x es) ≡ named name es
named_with name x es h = named_middle name (take (place_for x.name es) es) (drop (place_for x.name es) es) x h ∙ ap (named name) (take-append-drop (place_for x.name es) es)

named_set : (name : List ℕ) (es : List NameEntry) (i : ℕ) (e f : NameEntry) → slice_get es i ≡ Some e → is_same e.name name ≡ false → is_same f.name name ≡ false → named name (slice_set es i f) ≡ named name es
named_set name [] i e f got h k = refl
named_set name (x ∷ es) zero e f got h k = ap (λ (z : Bool). if z then Some f.inode else named name es) k ∙ sym (ap (λ (z : Bool). if z then Some x.inode else named name es) (ap (λ (y : NameEntry). is_same y.name name) (one got) ∙ h))
  where
    one : Some x ≡ Some e → x ≡ e
    one h = cc (h)
named_set name (x ∷ es) (suc i) e f got h k = ap (λ (z : Option ℕ). if is_same x.name name then Some x.inode else z) (named_set name es i e f got h k)

-- what stands at a name's place has the name
same_at : (name : List ℕ) (es : List NameEntry) (e : NameEntry) → slice_get es (place_of name es) ≡ Some e → is_same e.name name ≡ true
same_at name [] e got = absurd (cc (got))
same_at name (x ∷ es) e got = by (is_same x.name name) refl (same_at name es e)
  where
    place_is : (b : Bool) → is_same x.name name ≡ b → place_of name (x ∷ es) ≡ cond (not b) (1 + place_of name es) 0
    place_is b i = ap (λ (y : Bool). cond (not y) (1 + place_of name es) 0) i

    one_more : (n : ℕ) → 1 + n ≡ suc n
    one_more n = omega arith

    one : Some x ≡ Some e → x ≡ e
    one h = cc (h)

    by : (b : Bool) → is_same x.name name ≡ b → (slice_get es (place_of name es) ≡ Some e → is_same e.name name ≡ true) → is_same e.name name ≡ true
    by true i more = ap (λ (y : NameEntry). is_same y.name name) (sym (one (sym (ap (λ (j : ℕ). slice_get (x ∷ es) j) (place_is true i)) ∙ got))) ∙ i
    by false i more = more (sym (ap (λ (j : ℕ). slice_get (x ∷ es) j) (place_is false i ∙ one_more (place_of name es))) ∙ got)

-- another name is led elsewhere
pub named_led : (name other : List ℕ) (n : ℕ) (es : List NameEntry) → is_same other name ≡ false → named name (with_inode other n es) ≡ named name es
named_led name other n es far = by (slice_get es (place_of other es)) refl
  where
    by : (x : Option NameEntry) → slice_get es (place_of other es) ≡ x → named name (set_inode n es (place_of other es) x) ≡ named name es
    by None got = refl
    by (Some e) got = let h = ap (λ (x : List ℕ). is_same x name) (same_is e.name other (same_at other es e got)) ∙ far in named_set name es (place_of other es) e (record e { inode = n }) got h h
