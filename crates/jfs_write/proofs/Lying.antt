-- The blocks that are written lie within the volume.
use Rattle.std.proofs.Common.{◌≡◌, ◌<◌, refl, sym, ap, ◌∙◌, ℕ, ◌&&◌, Bool, true, false, nat_lt, List, [], ◌∷◌, arith}
use Rattle.std.proofs.lemmas.Bool.{lt-ltb}
use Rattle.std.proofs.lemmas.Bool.Decides.{nat_tests}
use Rattle.jfs_xtree.proofs.Reading.{and_true}
use Rattle.jfs_write_pages.specs.data_steps.specs.declared.pages.DataPage.{DataPage}
use Rattle.jfs_write_pages.specs.data_steps.specs.After.{LieWithin}
use Rattle.jfs_write_pages.specs.declared.spot.Spot.{Spot}
use Rattle.jfs_write_pages.specs.Spots.{AllSpots}
use Rattle.jfs_write_pages.specs.Pages.{told, pages_for, page_for}
use Rattle.jfs_write.specs.Data.{lie_within}

lt_is : (a b : ℕ) → nat_lt a b ≡ true → a < b
lt_is a b h = grind (arith, nat_tests, h)

pub lies : (blocks : ℕ) (ds : List DataPage) → lie_within blocks ds ≡ true → LieWithin blocks ds
lies blocks [] h = tt
lies blocks (d ∷ ds) h = let t = and_true (nat_lt d.block blocks) (lie_within blocks ds) h in (lt_is d.block blocks t.0, lies blocks ds t.1)

-- those of spots within the volume do
pub spots_lie : (blocks : ℕ) (pages : ℕ → List ℕ) (size offset : ℕ) (bytes : List ℕ) (ss : List Spot) (ds : List DataPage) → AllSpots blocks ss → told ds ≡ pages_for pages size offset bytes ss → lie_within blocks ds ≡ true
spots_lie blocks pages size offset bytes [] [] h e = refl
spots_lie blocks pages size offset bytes [] (d ∷ ds) h e = absurd (cc (e))
spots_lie blocks pages size offset bytes (s ∷ ss) [] h e = absurd (cc (e))
spots_lie blocks pages size offset bytes (s ∷ ss) (d ∷ ds) h e =
    ap (λ (b : Bool). b && lie_within blocks ds) (ap (λ (k : ℕ). nat_lt k blocks) (ap (λ (p : ℕ × List ℕ). p.0) parts.0) ∙ lt-ltb s.block blocks h.0) ∙ spots_lie blocks pages size offset bytes ss ds h.2 parts.1
  where
    heads : (x y : ℕ × List ℕ) (xs ys : List (ℕ × List ℕ)) → x ∷ xs ≡ y ∷ ys → (x ≡ y) × (xs ≡ ys)
    heads x y xs ys e = (cc (e), cc (e))

    parts : ((d.block, d.page.0) ≡ page_for pages size offset bytes s) × (told ds ≡ pages_for pages size offset bytes ss)
    parts = heads (d.block, d.page.0) (page_for pages size offset bytes s) (told ds) (pages_for pages size offset bytes ss) e

-- by what was told of them
pub lies_by : (blocks told_blocks : ℕ) (ds : List DataPage) (b : Bool) → told_blocks ≡ blocks → b ≡ lie_within told_blocks ds → b ≡ true → LieWithin blocks ds
lies_by blocks told_blocks ds b same is h = lies blocks ds (sym (ap (λ (k : ℕ). lie_within k ds) same) ∙ sym is ∙ h)

pub never_outside : (blocks told_blocks : ℕ) (pages : ℕ → List ℕ) (size offset : ℕ) (bytes : List ℕ) (ss : List Spot) (ds : List DataPage) (b : Bool) → AllSpots blocks ss → told ds ≡ pages_for pages size offset bytes ss → told_blocks ≡ blocks
    → b ≡ lie_within told_blocks ds → b ≡ false → ⊥
never_outside blocks told_blocks pages size offset bytes ss ds b fit e same is off = cc (sym off ∙ is ∙ ap (λ (k : ℕ). lie_within k ds) same ∙ spots_lie blocks pages size offset bytes ss ds fit e)
