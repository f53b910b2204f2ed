-- Roots that are leaves, with one entry and with none.
use Rattle.std.proofs.Common.{◌≡◌, refl, ap, ℕ, ◌+◌, Bool, true, false, ◌==◌, if◌then◌else◌, [], ◌∷◌, Ok, arith}
use Rattle.jfs_bits.specs.declared.rule.Rule.TheVariants as rules
use Rattle.jfs_meaning.specs.page_tree.specs.Walk.{Node, Leaf, Broken, Page, Key, Row, Marks, Scale, IsOrder, body, walk}
use Rattle.jfs_meaning.specs.page_tree.specs.Spells.{no_page, with_root, levels_of, top, tree_of}
use Rattle.jfs_meaning.specs.objects.specs.Objects.{met, listed}

-- what the walk through a root with one entry meets
abbrev pub one_marks : {P E : Type 0} → Scale P E → E → Marks P E
one_marks s x = Key no_page s.least ∷ Page no_page ∷ Row no_page x ∷ []

pub one_walk : {P E : Type 0} (s : Scale P E) → IsOrder s → (pages : ℕ → Node P E) (x : E) → tree_of s pages (Leaf (x ∷ [])) ≡ one_marks s x
unfolding levels_of walk
one_walk s o pages x = ap (λ (b : Bool). Key no_page s.least ∷ Page no_page ∷ body (walk s (with_root (Leaf (x ∷ [])) pages) 0) (top s) (if b then Leaf (x ∷ []) else Broken rules.Order)) (o.fits_least x)

pub one_listed : {P E : Type 0} (s : Scale P E) → IsOrder s → (x : E) → listed s (one_marks s x) ≡ Ok (x ∷ [])
one_listed s o x = rw (o.refl_le s.least, o.least_le (s.from x)) refl

-- the root itself is no page
pub one_meets : {P E : Type 0} (s : Scale P E) (x : E) (b : ℕ) → met (one_marks s x) b ≡ 0
one_meets s x b = by (b == no_page) refl
  where
    other : (n : ℕ) → (b == n) ≡ false → (n == b) ≡ false
    other n e = grind arith

    by : (y : Bool) → (b == no_page) ≡ y → (if y then 0 else (if no_page == b then 1 else 0) + 0) ≡ 0
    by true e = refl
    by false e = rw (other no_page e) refl

pub none_meets : (P E : Type 0) (b : ℕ) → met {P = P} {E = E} (Page no_page ∷ []) b ≡ 0
none_meets P E b = by (b == no_page) refl
  where
    other : (n : ℕ) → (b == n) ≡ false → (n == b) ≡ false
    other n e = grind arith

    by : (y : Bool) → (b == no_page) ≡ y → (if y then 0 else (if no_page == b then 1 else 0) + 0) ≡ 0
    by true e = refl
    by false e = rw (other no_page e) refl
