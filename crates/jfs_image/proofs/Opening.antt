-- An image that is opened, or isn't.
use Rattle.std.proofs.Common.{◌≡◌, ◌<◌, ◌≤◌, ◌^◌, refl, sym, ap, ◌∙◌, subst, ℕ, true, List, [], length, Option, Some, None, arith}
use Rattle.std.specs.Prelude.{slice_get}
use Rattle.std.proofs.lemmas.Bool.{leb-true}
use Rattle.std.proofs.lemmas.List.{length-map, get_or-map}
use Rattle.std.proofs.lemmas.Option.{get_or_from_slice_get, slice_get_cases}
use Rattle.std.proofs.Common.{inl, inr}
use Rattle.jfs_bits.specs.declared.extent.Xad.{Xad}
use Rattle.jfs_bits.specs.declared.rule.Rule.TheVariants as rules
use Rattle.jfs_bits.specs.Broken.{first_broken}
use Rattle.jfs_bits.proofs.Broken.{each_holds}
use Rattle.jfs_disk.specs.declared.page.Page.{Page}
use Rattle.jfs_disk.specs.Image.{page_of}
use Rattle.jfs_disk.specs.Pages.{contents}
use Rattle.jfs_super.specs.Super.{super_of}
use Rattle.jfs_super.specs.Rules.{IsAccepted, rows, shape_rows}
use Rattle.jfs_super.specs.declared.fields.Super.{Super}
use Rattle.jfs_super.specs.declared.read.BadSuper.{BadSuper}
use Rattle.jfs_xtree.specs.Node.{all_within}
use Rattle.jfs_reader.specs.objects.specs.Image.{file_extents}
use Rattle.jfs_reader.specs.objects.specs.Contents.{block_of}
use Rattle.jfs_reader.specs.meaning.specs.Readers.{readers}
use Rattle.jfs_reader.specs.Reading.{IsPast}
use Rattle.jfs_image.specs.Image.{HasTree, super_on}
use Rattle.jfs_image.specs.Opened.{IsSuper}
use Rattle.jfs_image.proofs.Within.{file_within, block_within}

-- ---- the superblock

abbrev bytes_in : Page → List ℕ
bytes_in p = p.0

no_page_there : (p : Page) → (let none : Option Page = None in none ≡ Some p) → ⊥
no_page_there p e = cc

pub page_there : (pages : List Page) (n : ℕ) (p : Page) → Some p ≡ slice_get pages n → p.0 ≡ page_of (contents pages) n
page_there pages n p e = elim (slice_get_cases pages n).1 [
  | inl t ↦ sym (get_or-map bytes_in pages n p [] t.1 ∙ ap bytes_in (get_or_from_slice_get pages n p p (sym e)))
  | inr t ↦ absurd (no_page_there p (sym (e ∙ t.1)))
]

nine : (s : Super) (pages : ℕ) → IsAccepted s pages → 9 ≤ pages
unfolding rows shape_rows
nine s pages accepted = leb-true 9 pages (each_holds (rows s pages) 0 (record { answer = record { rule = rules.Short; value = 0 }; holds = true }) accepted refl)

pub no_ninth : (pages : List Page) → (let none : Option Page = None in none ≡ slice_get pages 8) → HasTree (contents pages) → ⊥
no_ninth pages e has = elim (slice_get_cases pages 8).1 [
  | inl t ↦ no_page_there t.0 (e ∙ t.2)
  | inr t ↦ (let l = t.0 in let n = nine (super_on (contents pages)) (length (contents pages)) has.super in let m = length-map pages bytes_in in omega (arith, l, n, m))
]

pub is_super : (pages : List Page) (n : ℕ) (p : Page) (s : Super) → Some p ≡ slice_get pages 8 → n ≡ length pages → n < 2 ^ 32 → IsAccepted s n → s ≡ super_of p.0 → IsSuper (contents pages) s
is_super pages n p s at e few accepted is = record {
  pages = let m = length-map pages bytes_in in omega (arith, e, few, m);
  is = is ∙ ap super_of (page_there pages 8 p at);
  accepted = subst (IsAccepted s) (e ∙ sym (length-map pages bytes_in)) accepted;
}

never_bad : (bad : BadSuper) → (let none : Option BadSuper = None in none ≡ Some bad) → ⊥
never_bad bad e = cc

pub no_super : (pages : List Page) (n : ℕ) (p : Page) (bad : BadSuper) → Some p ≡ slice_get pages 8 → n ≡ length pages → first_broken (rows (super_of p.0) n) ≡ Some bad → HasTree (contents pages) → ⊥
no_super pages n p bad at e broken has = never_bad bad (sym has.super ∙ sym (ap (λ (bytes : List ℕ). first_broken (rows (super_of bytes) (length (contents pages)))) (page_there pages 8 p at))
    ∙ ap (λ (k : ℕ). first_broken (rows (super_of p.0) k)) (length-map pages bytes_in ∙ sym e) ∙ broken)

-- ---- the inode map's file

pub never_outside : (blocks : ℕ) (page : ℕ → List ℕ) (es : List Xad) (j : ℕ) → file_extents (readers blocks) page 16 ≡ es → IsPast blocks (block_of es j) → ⊥
never_outside blocks page es j e past = by (block_of es j) refl past
  where
    by : (o : Option ℕ) → block_of es j ≡ o → IsPast blocks o → ⊥
    by None at past = past
    by (Some b) at past = (let l = block_within blocks es j b (subst (λ (xs : List Xad). all_within blocks xs ≡ true) e (file_within blocks page 16)) at in omega (arith, l, past))
