-- A tree that is put together number by number.
use Rattle.std.proofs.Common.{◌≡◌, ◌≢◌, ◌<◌, ◌≤◌, inl, inr, sym, ap, ◌∙◌, subst, ℕ, suc, ◌*◌, ◌/◌, Bool, true, false, ◌==◌, nat_lt, if◌then◌else◌, get_or, List, Option, Some, None, arith}
use Rattle.std.proofs.lemmas.Bool.{cases_lt, cases_eq, eq-eqb, ne_eqb}
use Rattle.std.proofs.lemmas.Bool.Decides.{nat_tests}
use Rattle.jfs_bits.specs.Broken.{first_broken}
use Rattle.jfs_disk.specs.Image.{Image, page_of}
use Rattle.jfs_inode.specs.Rules.{rows}
use Rattle.jfs_plain.specs.Plain.{node_at, Became}
use Rattle.jfs_plain.specs.Build.{holding}
use Rattle.jfs_plain.specs.declared.node.Node.{Node}
use Rattle.jfs_plain.specs.declared.plain.PlainTree.{PlainTree}
use Rattle.jfs_reader.specs.objects.specs.Objects.{Object, IsWhole}
use Rattle.jfs_reader.specs.objects.specs.Image.{iags_on}
use Rattle.jfs_reader.specs.objects.proofs.Found.{no_home}
use Rattle.jfs_reader.specs.meaning.specs.Tree.{node_on, byte_on}
use Rattle.jfs_reader.specs.meaning.specs.Node.{node_in}
use Rattle.jfs_reader.specs.meaning.specs.Contents.{byte_in}
use Rattle.jfs_reader.proofs.Homes.{home_past}
use Rattle.jfs_owners.specs.mount_rules.specs.Subject.{object, volume}
use Rattle.jfs_image.specs.Image.{subject_on}
use Rattle.jfs_image.specs.Held.{IsHeld}
use Rattle.jfs_image.specs.Tree.{IsUpTo}

same_test : (k n : ℕ) → n ≢ k → nat_lt k (suc n) ≡ nat_lt k n
same_test k n other = elim (cases_lt k n) [
  | inl l ↦ (let a : nat_lt k n ≡ true = grind (arith, nat_tests) in let b : nat_lt k (suc n) ≡ true = grind (arith, nat_tests) in b ∙ sym a)
  | inr l ↦ (let a : nat_lt k n ≡ false = grind (arith, nat_tests) in let m : suc n ≤ k = omega (arith, l, other) in let b : nat_lt k (suc n) ≡ false = grind (arith, nat_tests) in b ∙ sym a)
]

is_below : (n : ℕ) → nat_lt n (suc n) ≡ true
is_below n = grind (arith, nat_tests)

isnt_below : (n : ℕ) → nat_lt n n ≡ false
isnt_below n = grind (arith, nat_tests)

-- what there is below one number more, from what there is at the number and below it
one_more : {X : Type 0} (f : ℕ → X) (none there : X) (n k : ℕ) → there ≡ f n → (if n == k then there else (if nat_lt k n then f k else none)) ≡ (if nat_lt k (suc n) then f k else none)
one_more {X} f none there n k e = elim (cases_eq n k) [
  | inl same ↦ (let t : (n == k) ≡ true = eq-eqb n k same in ap (λ (b : Bool). if b then there else (if nat_lt k n then f k else none)) t ∙ e
      ∙ subst (λ (m : ℕ). f n ≡ (if nat_lt m (suc n) then f m else none)) same (ap (λ (b : Bool). if b then f n else none) (sym (is_below n))))
  | inr other ↦ (let t : (n == k) ≡ false = ne_eqb n k other in ap (λ (b : Bool). if b then there else (if nat_lt k n then f k else none)) t ∙ ap (λ (b : Bool). if b then f k else none) (sym (same_test k n other)))
]

none_more : {X : Type 0} (f : ℕ → X) (none : X) (n k : ℕ) → none ≡ f n → (if nat_lt k n then f k else none) ≡ (if nat_lt k (suc n) then f k else none)
none_more {X} f none n k e = elim (cases_eq n k) [
  | inl same ↦ subst (λ (m : ℕ). (if nat_lt m n then f m else none) ≡ (if nat_lt m (suc n) then f m else none)) same
      (ap (λ (b : Bool). if b then f n else none) (isnt_below n) ∙ e ∙ ap (λ (b : Bool). if b then f n else none) (sym (is_below n)))
  | inr other ↦ ap (λ (b : Bool). if b then f k else none) (sym (same_test k n other))
]

module _ (image : Image) where
  nodes : ℕ → Option Node
  nodes n = node_on (subject_on image).readers (volume (subject_on image)) n

  none_at : (n : ℕ) → object (subject_on image) n ≡ None → None ≡ node_on (subject_on image).readers (volume (subject_on image)) n
  none_at n e = sym (ap (node_in (subject_on image).readers (page_of image)) e)

  no_byte : (n i : ℕ) → object (subject_on image) n ≡ None → 0 ≡ byte_on (subject_on image).readers (volume (subject_on image)) n i
  no_byte n i e = sym (ap (λ (o : Option Object). byte_in (subject_on image).readers (page_of image) o i) e)

  -- the number itself, or one below it
  last_or : {X : Type 0} (k n : ℕ) → k < suc n → (k < n → X) → (n ≡ k → X) → X
  last_or k n l below same = elim (cases_lt k n) [ inl h ↦ below h | inr h ↦ same (omega (arith, l, h)) ]

  nothing : (o : Object) → (let none : Option Object = None in none ≡ Some o) → ⊥
  nothing o e = cc

  pub up_to_free : (n m : ℕ) (p : PlainTree) → m ≡ suc n → object (subject_on image) n ≡ None → IsUpTo image n p → IsUpTo image m p
  up_to_free n m p e free is = subst (λ (k : ℕ). IsUpTo image k p) (sym e) (record {
    nodes = λ k. is.nodes k ∙ none_more (λ j. node_on (subject_on image).readers (volume (subject_on image)) j) None n k (none_at n free);
    bytes = λ k i. is.bytes k i ∙ none_more (λ j. byte_on (subject_on image).readers (volume (subject_on image)) j i) 0 n k (no_byte n i free);
    inodes = λ k o l at. last_or k n l (λ h. is.inodes k o h at) (λ h. absurd (nothing o (sym free ∙ subst (λ (j : ℕ). object (subject_on image) j ≡ Some o) (sym h) at)));
    trees = λ k o l at. last_or k n l (λ h. is.trees k o h at) (λ h. absurd (nothing o (sym free ∙ subst (λ (j : ℕ). object (subject_on image) j ≡ Some o) (sym h) at)));
  })

  same_object : (a b : Object) → Some a ≡ Some b → a ≡ b
  same_object a b e = cc

  pub up_to_object : (n m : ℕ) (old new : PlainTree) (o : Object) (node : Node) (bytes : List ℕ) → m ≡ suc n → object (subject_on image) n ≡ Some o → IsHeld (subject_on image).readers (page_of image) n o node bytes
      → Became old new (holding n node bytes) → IsUpTo image n old → IsUpTo image m new
  up_to_object n m old new o node bytes e at held became is = subst (λ (k : ℕ). IsUpTo image k new) (sym e) (record {
    nodes = λ k. became.nodes k ∙ ap (λ (x : Option Node). if n == k then Some node else x) (is.nodes k)
        ∙ one_more (λ j. node_on (subject_on image).readers (volume (subject_on image)) j) None (Some node) n k (sym (ap (node_in (subject_on image).readers (page_of image)) at ∙ held.node_is));
    bytes = λ k i. became.bytes k i ∙ ap (λ (x : ℕ). if n == k then get_or bytes i 0 else x) (is.bytes k i)
        ∙ one_more (λ j. byte_on (subject_on image).readers (volume (subject_on image)) j i) 0 (get_or bytes i 0) n k (sym (ap (λ (x : Option Object). byte_in (subject_on image).readers (page_of image) x i) at ∙ held.bytes_are i));
    inodes = λ k q l there. last_or k n l (λ h. is.inodes k q h there) (λ h.
        subst (λ (x : Object). first_broken (rows x.inode k) ≡ None) (same_object o q (sym at ∙ subst (λ (j : ℕ). object (subject_on image) j ≡ Some q) (sym h) there))
        (subst (λ (j : ℕ). first_broken (rows o.inode j) ≡ None) h held.inode));
    trees = λ k q l there. last_or k n l (λ h. is.trees k q h there) (λ h.
        subst (λ (x : Object). IsWhole (subject_on image).readers x) (same_object o q (sym at ∙ subst (λ (j : ℕ). object (subject_on image) j ≡ Some q) (sym h) there)) held.whole);
  })

  -- no object has a number past the map
  pub none_past : (n m : ℕ) → m ≡ 4096 * iags_on (subject_on image).readers (page_of image) → m ≤ n → object (subject_on image) n ≡ None
  none_past n m e l = no_home (subject_on image).readers (volume (subject_on image)) n (home_past (subject_on image).readers (page_of image) n (past (iags_on (subject_on image).readers (page_of image)) n (omega (arith, e, l))))
    where
      past : (k n : ℕ) → 4096 * k ≤ n → k ≤ n / 4096
      past k n h = omega (arith, h)

  -- the number is free in a tree of the numbers before it
  pub free_at : (n : ℕ) (p : PlainTree) → IsUpTo image n p → node_at p n ≡ None
  free_at n p is = is.nodes n ∙ ap (λ (b : Bool). if b then node_on (subject_on image).readers (volume (subject_on image)) n else None) (isnt_below n)
