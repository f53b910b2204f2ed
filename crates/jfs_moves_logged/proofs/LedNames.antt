-- A name that is led to another inode names that one.
use Rattle.std.proofs.Common.{◌≡◌, ◌+◌, ℕ, suc, Bool, true, false, if◌then◌else◌, List, [], ◌∷◌, Option, Some, None, refl, ap, ◌∙◌, arith}
use Rattle.std.specs.Prelude.{slice_get}
use Rattle.jfs_name.specs.Directory.{is_same, named, place_of, set_inode, with_inode}
use Rattle.jfs_name.specs.declared.name.NameEntry.{NameEntry}

one_next : (k : ℕ) → 1 + k ≡ suc k
one_next k = omega arith

set_behind : (inode : ℕ) (e : NameEntry) (es : List NameEntry) (place : ℕ) (o : Option NameEntry) → set_inode inode (e ∷ es) (suc place) o ≡ e ∷ set_inode inode es place o
set_behind inode e es place None = refl
set_behind inode e es place (Some d) = refl

module _ (name : List ℕ) (n : ℕ) where
  at_first : (e : NameEntry) (es : List NameEntry) → is_same e.name name ≡ true → with_inode name n (e ∷ es) ≡ record e { inode = n } ∷ es
  at_first e es same = rw same refl

  behind : (e : NameEntry) (es : List NameEntry) → is_same e.name name ≡ false → with_inode name n (e ∷ es) ≡ e ∷ with_inode name n es
  behind e es differs = rw (differs, one_next (place_of name es)) (set_behind n e es (place_of name es) (slice_get es (place_of name es)))

  pub names_it_now : (k : ℕ) (es : List NameEntry) → named name es ≡ Some k → named name (with_inode name n es) ≡ Some n
  names_it_now k [] h = absurd (cc (h))
  names_it_now k (e ∷ es) h = by (is_same e.name name) refl (names_it_now k es) h
    where
      by : (b : Bool) → is_same e.name name ≡ b → (named name es ≡ Some k → named name (with_inode name n es) ≡ Some n) → (if b then Some e.inode else named name es) ≡ Some k → named name (with_inode name n (e ∷ es)) ≡ Some n
      by true i rest h = ap (named name) (at_first e es i) ∙ ap (λ (x : Bool). if x then Some n else named name es) i
      by false i rest h = ap (named name) (behind e es i) ∙ ap (λ (x : Bool). if x then Some e.inode else named name (with_inode name n es)) i ∙ rest h
