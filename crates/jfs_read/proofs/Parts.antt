-- Parts of pages as bytes of a file, and one block's way after the other.
use Rattle.std.proofs.Common.{◌≡◌, ◌<◌, ◌≤◌, refl, sym, ap, ap₂, ◌∙◌, ℕ, zero, suc, ◌+◌, ◌-◌, ◌/◌, ◌%◌, List, [], ◌∷◌, ◌++◌, take, drop, length, Option, Some, None, Result, Ok, Err, replicate, inl, inr, ◌⊎◌, true, arith}
use Rattle.std.specs.Prelude.{get_or, OnOk, IfErr}
use Rattle.std.proofs.Math.Seq.{drop-cons}
use Rattle.jfs_bits.specs.Field.{range_of}
use Rattle.jfs_bits.specs.declared.rule.Rule.{Rule}
use Rattle.jfs_inode.specs.declared.fields.Dinode.{Dinode}
use Rattle.jfs_xtree.specs.Spells.{found_for}
use Rattle.jfs_way.specs.objects.specs.Contents.{bytes_at}
use Rattle.jfs_way.specs.meaning.specs.Readers.{root_of}
use Rattle.jfs_way.specs.meaning.specs.Contents.{byte_of}
use Rattle.jfs_plain.specs.Step.{bytes_from}
use Rattle.jfs_plain.specs.declared.refusal.Refusal.{Refusal}
use Rattle.jfs_plain.specs.declared.refusal.Refusal.TheVariants.{OutOfMemory, Damaged}
use Rattle.jfs_bits.specs.declared.extent.Xad.{Xad}
use Rattle.jfs_ranges.specs.declared.view.ViewError.{ViewError}
use Rattle.jfs_ranges.specs.declared.view.ViewError.TheVariants.{Read, Memory}
use Rattle.jfs_tree.specs.Root.{NamesBroken}
use Rattle.jfs_xtree.specs.Node.{xt_scale}
use Rattle.jfs_xtree.specs.Spells.{page_nodes, root_node, spells_extents, tree_error}
use Rattle.jfs_xtree.specs.declared.error.XtError.{XtError}
use Rattle.jfs_xtree.specs.declared.error.XtError.TheVariants.{View, Bad}
use Rattle.jfs_way.specs.Answer.{is_open, at_root, Answers, view_refusal}
use Rattle.jfs_read.specs.Read.{block_by, content_on, byte_on_way, unless_bad, extents_refusal, IsWayOf}

-- the bytes of a part of a page
pub part_is : (f : ℕ → ℕ) (page : List ℕ) (i at n : ℕ) → at + n ≤ length page → ((j : ℕ) → j < n → f (i + j) ≡ get_or page (at + j) 0) → bytes_from f i n ≡ range_of page at n
unfolding bytes_from range_of
part_is f page i at zero l h = refl
part_is f page i at (suc n) l h =
    ap₂ (λ (x : ℕ) (xs : List ℕ). x ∷ xs) (ap f (omega arith) ∙ h 0 (omega arith) ∙ ap (λ (k : ℕ). get_or page k 0) (omega arith))
    (part_is f page (suc i) (suc at) n (omega (arith, l)) (λ j b. ap f (omega arith) ∙ h (suc j) (omega (arith, b)) ∙ ap (λ (k : ℕ). get_or page k 0) (omega arith)))
    ∙ ap (take (suc n)) (sym (drop-cons page at 0 (omega (arith, l))))

same : (f : ℕ → ℕ) (k j m n : ℕ) → k ≡ j → m ≡ n → bytes_from f k n ≡ bytes_from f j m
same f k j m n e h = ap₂ (bytes_from f) e (sym h)

-- one part after the other
pub parts_join : (f : ℕ → ℕ) (i m n : ℕ) → bytes_from f i m ++ bytes_from f (i + m) n ≡ bytes_from f i (m + n)
unfolding bytes_from
parts_join f i zero n = same f (i + 0) i (0 + n) n (omega arith) (omega arith)
parts_join f i (suc m) n = next f i m n (i + suc m) (suc m + n) (omega arith) (omega arith) (parts_join f (suc i) m n)
  where
    next : (f : ℕ → ℕ) (i m n k s : ℕ) → k ≡ suc i + m → s ≡ suc (m + n) → bytes_from f (suc i) m ++ bytes_from f (suc i + m) n ≡ bytes_from f (suc i) (m + n) → (f i ∷ bytes_from f (suc i) m) ++ bytes_from f k n ≡ bytes_from f i s
    next f i m n k s e h more = rw (e, h) (ap (λ (xs : List ℕ). f i ∷ xs) more)

-- a part of a page, as a slice gives it
pub part_slice : (page : List ℕ) (from n : ℕ) → take (from + n - from) (drop from page) ≡ range_of page from n
unfolding range_of
part_slice page from n = let e : from + n - from ≡ n = omega arith in ap (λ (k : ℕ). take k (drop from page)) e

-- zeros
zeros : (f : ℕ → ℕ) (i n : ℕ) → ((j : ℕ) → j < n → f (i + j) ≡ 0) → replicate n 0 ≡ bytes_from f i n
unfolding bytes_from
zeros f i zero h = refl
zeros f i (suc n) h = ap₂ (λ (x : ℕ) (xs : List ℕ). x ∷ xs) (sym (ap f (omega arith) ∙ h 0 (omega arith))) (zeros f (suc i) n (λ j b. ap f (omega arith) ∙ h (suc j) (omega (arith, b))))

-- ---- the part of a block, by what its way tells

way_whole : {X : Type 0} (page : ℕ) (first : Option (ℕ × Rule)) (x y : X) → unless_bad page first x ≡ Ok y → (first ≡ None) × (x ≡ y)
way_whole page None x y h = (refl, cc)
way_whole page (Some bad) x y h = absurd cc

module _ (blocks : ℕ) (pages : ℕ → List ℕ) (d : Dinode) (at i n : ℕ) (one : i % 4096 + n ≤ 4096) where
  abbrev found : Option ℕ
  found = block_by (found_for blocks pages (root_of d) (i / 4096)) (i / 4096)

  -- each byte lies in the block
  byte_there : (j : ℕ) → j < n → byte_on_way blocks pages d (i + j) ≡ byte_of (bytes_at pages found) (i % 4096 + j)
  byte_there j l =
      let k : (i + j) / 4096 ≡ i / 4096 = omega (arith, one, l) in
      let m : (i + j) % 4096 ≡ i % 4096 + j = omega (arith, one, l) in
      ap₂ (λ (x y : ℕ). byte_of (content_on blocks pages d x) y) k m

  pub hole_part : (first : Option (ℕ × Rule)) → unless_bad at first found ≡ Ok None → replicate n 0 ≡ bytes_from (byte_on_way blocks pages d) i n
  hole_part first h = zeros (byte_on_way blocks pages d) i n (λ j l. byte_there j l ∙ ap (λ (o : Option ℕ). byte_of (bytes_at pages o) (i % 4096 + j)) (way_whole at first found None h).1)

  pub page_part : (first : Option (ℕ × Rule)) (b : ℕ) (page : List ℕ) → unless_bad at first found ≡ Ok (Some b) → page ≡ pages b → length page ≡ 4096 → range_of page (i % 4096) n ≡ bytes_from (byte_on_way blocks pages d) i n
  page_part first b page h e size = sym (part_is (byte_on_way blocks pages d) page i (i % 4096) n (omega (arith, one, size))
      (λ j l. byte_there j l ∙ ap (λ (o : Option ℕ). byte_of (bytes_at pages o) (i % 4096 + j)) (way_whole at first found (Some b) h).1 ∙ ap (λ (p : List ℕ). get_or p (i % 4096 + j) 0) (sym e)))

  pub way_went : (first : Option (ℕ × Rule)) (o : Option ℕ) → unless_bad at first found ≡ Ok o → first ≡ None
  way_went first o h = (way_whole at first found o h).0

-- ---- by the answer

pub on_ok : {X : Type 0} {P Q : Type 0} (r : Result X Refusal) → OnOk r P → (P → Q) → OnOk r Q
on_ok (Ok x) p f = f p
on_ok (Err why) p f = tt

-- memory may run out on the way
pub way_pushed : {X : Type 0} (page : ℕ) (first : Option (ℕ × Rule)) (r : Result X Refusal) → first ≡ None → IfErr r (λ why. why ≡ OutOfMemory) → IsWayOf page first r
way_pushed page first (Ok x) e h = e
way_pushed page first (Err why) e h = inr (rw h refl)

-- what a way tells, by an answer that it decides
pub way_met : {X : Type 0} (page : ℕ) (first : Option (ℕ × Rule)) (x : X) (why : Refusal) → Answers (unless_bad page first x) (Err why) → ((bad : ℕ × Rule) × (first ≡ Some bad) × (why ≡ Damaged (at_root page bad.0) bad.1)) ⊎ (is_open why ≡ true)
way_met page None x why (inl h) = absurd cc
way_met page (Some bad) x why (inl h) = inl (bad, refl, err_is h)
  where
    err_is : {X : Type 0} {a b : Refusal} → ◌≡◌ {A = Result X Refusal} (Err a) (Err b) → b ≡ a
    err_is h = cc
way_met page first x why (inr h) = inr h

-- ---- a root that spells extents

view_open : (e : ViewError) → is_open (view_refusal e) ≡ true
view_open (Read fault) = refl
view_open Memory = refl

pub spelled_open : (blocks : ℕ) (pages : ℕ → List ℕ) (root : List ℕ) (page : ℕ) (e : XtError) → NamesBroken xt_scale (page_nodes blocks pages) (root_node blocks root) (tree_error e)
    → (es : List Xad) → spells_extents blocks pages root ≡ Ok es → is_open (extents_refusal page e) ≡ true
spelled_open blocks pages root page (View e) h es s = view_open e
spelled_open blocks pages root page (Bad bad rule) h es s = absurd (h.1 es s)

pub none : (f : ℕ → ℕ) (i : ℕ) → [] ≡ bytes_from f i 0
unfolding bytes_from
none f i = refl

-- the same bytes before an end
pub same_bytes : (f g : ℕ → ℕ) (i n : ℕ) → ((j : ℕ) → j < n → f (i + j) ≡ g (i + j)) → bytes_from f i n ≡ bytes_from g i n
unfolding bytes_from
same_bytes f g i zero h = refl
same_bytes f g i (suc n) h = ap₂ (λ (x : ℕ) (xs : List ℕ). x ∷ xs) (first (h 0 (omega arith))) (same_bytes f g (suc i) n (λ j l. next j (h (suc j) (omega (arith, l)))))
  where
    first : f (i + 0) ≡ g (i + 0) → f i ≡ g i
    first e = let z : i + 0 ≡ i = omega arith in ap f (sym z) ∙ e ∙ ap g z

    next : (j : ℕ) → f (i + suc j) ≡ g (i + suc j) → f (suc i + j) ≡ g (suc i + j)
    next j e = let z : suc i + j ≡ i + suc j = omega arith in ap f z ∙ e ∙ ap g (sym z)
