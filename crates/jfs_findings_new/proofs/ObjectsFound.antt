-- The objects of a new volume, as a check looks at them.
use Rattle.std.proofs.Common.{◌≡◌, ◌≤◌, ◌<◌, refl, sym, ap, ◌∙◌, subst, ℕ, zero, suc, Bool, true, false, nat_lt, if◌then◌else◌, List, [], ◌∷◌, ◌++◌, Some, None, option_map, arith}
use Rattle.std.specs.List.{flat_map}
use Rattle.std.proofs.lemmas.Bool.{cases_lt}
use Rattle.std.proofs.lemmas.Bool.Decides.{nat_tests}
use Rattle.std.proofs.Common.{inl, inr}
use Rattle.jfs_bits.specs.Field.{field_of, range_of}
use Rattle.jfs_bits.specs.Field as bytes
use Rattle.jfs_bits.specs.Piece as parts
use Rattle.jfs_name.specs.declared.name.NameEntry.{NameEntry}
use Rattle.jfs_new_volume.specs.page_tree.specs.Walk.{Node, Leaf, Page, Row, Marks}
use Rattle.jfs_new_volume.specs.page_tree.specs.Spells.{no_page}
use Rattle.jfs_new_volume.specs.objects.specs.Readers.{Readers}
use Rattle.jfs_new_volume.specs.objects.specs.Objects.{Object, has_names, has_extents}
use Rattle.jfs_new_volume.specs.plain.specs.Tree.{root}
use Rattle.jfs_new_volume.specs.meaning.specs.Consistent.{is_reserved, leading_to, names_in, links_due}
use Rattle.jfs_new_volume.specs.objects.proofs.Sums.{sum_zero}
use Rattle.jfs_new_volume.specs.format.specs.Root.{empty_root, no_extents}
use Rattle.jfs_new_volume.specs.format.specs.declared.volume.NewVolume.{NewVolume}
use Rattle.jfs_new_volume.specs.Law.{new_object}
use Rattle.jfs_findings.specs.mount_rules.specs.Subject.{Subject, object}
use Rattle.jfs_findings.specs.Inodes.{blocks_owned, is_past}
use Rattle.jfs_findings.specs.Names.{readable, readable_node, most, StandsAt, IsPlaced}
use Rattle.jfs_new_volume.specs.page_tree.specs.Levels.{level, pages_below, IsThinIn}

-- a walk that meets a root alone, or nothing, has no entry
no_mark : {P E : Type 0} (page : ℕ) (e : E) (front back : Marks P E) → (let none : Marks P E = [] in none) ≡ front ++ Row page e ∷ back → ⊥
no_mark page e [] back h = cc h
no_mark page e (m ∷ front) back h = cc h

tails : {A : Type 0} (x y : A) (xs ys : List A) → (x ∷ xs) ≡ (y ∷ ys) → xs ≡ ys
tails x y xs ys e = cc e

root_alone : {P E : Type 0} (n page : ℕ) (e : E) (front back : Marks P E) → (let one : Marks P E = Page n ∷ [] in one) ≡ front ++ Row page e ∷ back → ⊥
root_alone n page e [] back h = cc h
root_alone n page e (m ∷ front) back h = no_mark page e front back (tails (Page n) m [] (front ++ Row page e ∷ back) h)

pub no_name : (v : NewVolume) (n : ℕ) → n < 4 → (page : ℕ) (e : NameEntry) → StandsAt page e (new_object v n).names → ⊥
no_name v zero l page e s = no_mark page e s.front s.back s.at
no_name v (suc zero) l page e s = no_mark page e s.front s.back s.at
no_name v (suc (suc zero)) l page e s = root_alone no_page page e s.front s.back s.at
no_name v (suc (suc (suc zero))) l page e s = no_mark page e s.front s.back s.at
no_name v (suc (suc (suc (suc n)))) l page e s = omega (arith, l)

pub blocks_told : (r : Readers) (v : NewVolume) (n : ℕ) → n < 4 → (new_object v n).inode.nblocks ≡ blocks_owned r (new_object v n)
blocks_told r v zero l = refl
blocks_told r v (suc zero) l = refl
blocks_told r v (suc (suc zero)) l = refl
blocks_told r v (suc (suc (suc zero))) l = refl
blocks_told r v (suc (suc (suc (suc n)))) l = absurd (omega (arith, l))

pub ends_told : (r : Readers) (v : NewVolume) (n : ℕ) → n < 4 → is_past r (new_object v n) ≡ false
ends_told r v zero l = refl
ends_told r v (suc zero) l = refl
ends_told r v (suc (suc zero)) l = refl
ends_told r v (suc (suc (suc zero))) l = refl
ends_told r v (suc (suc (suc (suc n)))) l = absurd (omega (arith, l))

-- files have roots without extents
pub has_no_extents : (v : NewVolume) (n : ℕ) → n < 4 → has_extents (new_object v n).inode ≡ true → (new_object v n).inode.rest ≡ no_extents
has_no_extents v zero l h = refl
has_no_extents v (suc zero) l h = refl
has_no_extents v (suc (suc zero)) l h = absurd (cc h)
has_no_extents v (suc (suc (suc zero))) l h = refl
has_no_extents v (suc (suc (suc (suc n)))) l h = absurd (omega (arith, l))

-- ---- a root alone has one level of one page

module _ {P E : Type 0} (nodes : ℕ → Node P E) (leaf : nodes no_page ≡ Leaf []) where
  below_none : (depth : ℕ) → level nodes (suc depth) ≡ []
  unfolding level
  below_none zero = ap (λ (node : Node P E). pages_below node ++ []) leaf
  below_none (suc depth) = ap (flat_map (λ n. pages_below (nodes n))) (below_none depth)

  none_of : (page next : ℕ) (front back : List ℕ) → (let none : List ℕ = [] in none) ≡ front ++ page ∷ next ∷ back → ⊥
  none_of page next [] back h = cc h
  none_of page next (m ∷ front) back h = cc h

  one_of : (page next : ℕ) (front back : List ℕ) → (no_page ∷ []) ≡ front ++ page ∷ next ∷ back → ⊥
  one_of page next [] back h = cc h
  one_of page next (m ∷ front) back h = none_of page next front back (tails no_page m [] (front ++ page ∷ next ∷ back) h)

  pub never_thin : (page : ℕ) → IsThinIn nodes page → ⊥
  unfolding level
  never_thin page t = by t.depth t.stands
    where
      by : (depth : ℕ) → level nodes depth ≡ t.front ++ page ∷ t.next ∷ t.back → ⊥
      by zero h = one_of page t.next t.front t.back h
      by (suc depth) h = none_of page t.next t.front t.back (sym (below_none depth) ∙ h)

-- ---- names, links and parents

parent_is : field_of (range_of empty_root 96 288) 20 4 ≡ root
unfolding field_of range_of empty_root parts.puts bytes.put_bytes
parent_is = refl

module _ (s : Subject) (v : NewVolume) (objects_are : (n : ℕ) → object s n ≡ (if nat_lt n 4 then Some (new_object v n) else None)) where
  -- an object is one of the four
  pub one_of_four : (n : ℕ) (o : Object) → object s n ≡ Some o → (n < 4) × (new_object v n ≡ o)
  one_of_four n o h = elim (cases_lt n 4) [
    | inl l ↦ (l, some_is (sym (ap (λ (x : Bool). if x then Some (new_object v n) else None) (less n l)) ∙ sym (objects_are n) ∙ h))
    | inr l ↦ absurd (none_is o (sym (ap (λ (x : Bool). if x then Some (new_object v n) else None) (past n l)) ∙ sym (objects_are n) ∙ h))
  ]
    where
      less : (n : ℕ) → n < 4 → nat_lt n 4 ≡ true
      less n l = grind (arith, nat_tests)

      past : (n : ℕ) → 4 ≤ n → nat_lt n 4 ≡ false
      past n l = grind (arith, nat_tests)

      some_is : {x y : Object} → Some x ≡ Some y → x ≡ y
      some_is h = cc h

      none_is : (o : Object) → None ≡ Some o → ⊥
      none_is o h = cc h

  few_names : (m n : ℕ) → n < 4 → leading_to m (names_in (Some (readable_node s (new_object v n)))) ≡ 0
  few_names m zero l = refl
  few_names m (suc zero) l = refl
  few_names m (suc (suc zero)) l = refl
  few_names m (suc (suc (suc zero))) l = refl
  few_names m (suc (suc (suc (suc n)))) l = absurd (omega (arith, l))

  no_leading : (m n : ℕ) → leading_to m (names_in ((readable s).nodes n)) ≡ 0
  no_leading m n = ap (λ o. leading_to m (names_in (option_map (readable_node s) o))) (objects_are n) ∙ by (nat_lt n 4) refl
    where
      under : (n : ℕ) → nat_lt n 4 ≡ true → n < 4
      under n e = grind (arith, nat_tests)

      by : (x : Bool) → nat_lt n 4 ≡ x → leading_to m (names_in (option_map (readable_node s) (if x then Some (new_object v n) else None))) ≡ 0
      by true e = few_names m n (under n e)
      by false e = refl

  links_are : (n : ℕ) → n < 4 → is_reserved n ≡ false → (new_object v n).inode.nlink ≡ links_due (most s) (readable s) n (readable_node s (new_object v n))
  links_are zero l h = absurd (cc h)
  links_are (suc zero) l h = absurd (cc h)
  links_are (suc (suc zero)) l h = refl
  links_are (suc (suc (suc zero))) l h = absurd (cc h)
  links_are (suc (suc (suc (suc n)))) l h = absurd (omega (arith, l))

  placed : (n : ℕ) → n < 4 → has_names (new_object v n).inode ≡ true → IsPlaced s n (readable_node s (new_object v n))
  placed zero l h = absurd (cc h)
  placed (suc zero) l h = absurd (cc h)
  placed (suc (suc zero)) l h = record { top = λ e. (parent_is, sum_zero (most s) (λ dir. leading_to root (names_in ((readable s).nodes dir))) (λ dir. no_leading root dir)); below = λ other. absurd (other refl) }
  placed (suc (suc (suc zero))) l h = absurd (cc h)
  placed (suc (suc (suc (suc n)))) l h = absurd (omega (arith, l))

  pub links_due_are : (n : ℕ) (o : Object) → object s n ≡ Some o → is_reserved n ≡ false → o.inode.nlink ≡ links_due (most s) (readable s) n (readable_node s o)
  links_due_are n o h k = let w = one_of_four n o h in subst (λ (o : Object). o.inode.nlink ≡ links_due (most s) (readable s) n (readable_node s o)) w.1 (links_are n w.0 k)

  pub parents_are : (n : ℕ) (o : Object) → object s n ≡ Some o → has_names o.inode ≡ true → IsPlaced s n (readable_node s o)
  parents_are n o h k = let w = one_of_four n o h in subst (λ (o : Object). has_names o.inode ≡ true → IsPlaced s n (readable_node s o)) w.1 (placed n w.0) k
