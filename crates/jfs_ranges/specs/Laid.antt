-- Pages with a transaction on top of them.
use Rattle.std.specs.Prelude.{◌≡◌, ◌<◌, ℕ, suc, zero, ◌+◌, ◌*◌, List, [], ◌∷◌, length, get_or, nat_lt, Bool, true, false, if◌then◌else◌}
use Rattle.std.proofs.Common.{◌⊎◌, inl, inr, refl, sym, ap, ◌∙◌, arith}
use Rattle.std.proofs.lemmas.Bool.{lt-ltb}
use Rattle.jfs_disk.specs.Image.{Image, page_of}
use Rattle.jfs_disk.specs.Crash.{DiskState}
use Rattle.jfs_ranges.specs.View.{AreWhole, Device}
use Rattle.jfs_ranges.specs.declared.edit.Edit.{Edit}
use Rattle.jfs_ranges.specs.declared.edit.Edit.TheVariants.{Lines, NoRedo, Alloc, Free}
use Rattle.jfs_ranges.specs.Apply.{apply_tx, apply_edit, overlaid, place_of_line}

-- the pages after a transaction: those of the file system part alone change
abbrev pub put_tx : ℕ → List Edit → (ℕ → List ℕ) → ℕ → List ℕ
put_tx blocks tx pages n = if nat_lt n blocks then apply_tx n tx (pages n) else pages n

-- the same, page after page from number n on
abbrev pub laid_from : ℕ → List Edit → ℕ → Image → Image
laid_from blocks tx n [] = []
laid_from blocks tx n (p ∷ ps) = put_tx blocks tx (λ k. p) n ∷ laid_from blocks tx (suc n) ps

unfoldable pub laid : ℕ → List Edit → Image → Image
laid blocks tx image = laid_from blocks tx 0 image

-- The device of a view that another view has on loan: beside its states the loan's name and, where it tells, the pages that it shows. (For the prover alone.)
abbrev pub as_state : Image → DiskState
as_state [] = []
as_state (p ∷ ps) = record { seen = p; stable = []; writes = [] } ∷ as_state ps

abbrev pub states_of_loan : {tells crashes : Type 0} → (crashes → List DiskState) → Image → ℕ → Unit {0} ⊎ (tells ⊎ crashes) → List DiskState
states_of_loan states image loan (inl it) = (record { seen = loan ∷ []; stable = []; writes = [] } ∷ []) ∷ []
states_of_loan states image loan (inr (inl told)) = as_state image ∷ []
states_of_loan states image loan (inr (inr told)) = states told

abbrev pub on_loan : {tells crashes : Type 0} → Device crashes → Image → ℕ → Device (Unit {0} ⊎ (tells ⊎ crashes))
on_loan device image loan = record { pages = device.pages; room = device.room; pending = device.pending; states = states_of_loan device.states image loan }

-- ---- for the prover alone

no_bytes : (n : ℕ) (tx : List Edit) → apply_tx n tx [] ≡ []
no_bytes n [] = refl
no_bytes n (Lines page kind first bytes ∷ tx) = no_bytes n tx
no_bytes n (NoRedo page ∷ tx) = no_bytes n tx
no_bytes n (Alloc run ∷ tx) = no_bytes n tx
no_bytes n (Free run ∷ tx) = no_bytes n tx

nothing_laid : (blocks : ℕ) (tx : List Edit) (n : ℕ) → put_tx blocks tx (λ k. []) n ≡ []
nothing_laid blocks tx n = by (nat_lt n blocks)
  where
    by : (x : Bool) → (if x then apply_tx n tx [] else []) ≡ []
    by true = no_bytes n tx
    by false = refl

at_from : (blocks : ℕ) (tx : List Edit) (n i m : ℕ) (image : Image) → m ≡ n + i → get_or (laid_from blocks tx n image) i [] ≡ put_tx blocks tx (λ k. get_or image i []) m
at_from blocks tx n i m [] e = sym (nothing_laid blocks tx m)
at_from blocks tx n zero m (p ∷ ps) e = ap (λ k. put_tx blocks tx (λ j. p) k) (omega (arith, e))
at_from blocks tx n (suc i) m (p ∷ ps) e = at_from blocks tx (suc n) i m ps (omega (arith, e))

-- the pages of an image with a transaction on top
pub laid_is : (blocks : ℕ) (tx : List Edit) (image : Image) → page_of (laid blocks tx image) ≡ put_tx blocks tx (page_of image)
unfolding laid
laid_is blocks tx image = λ i n. at_from blocks tx 0 n n image (omega arith) i

pub page_within : (blocks : ℕ) (tx : List Edit) (image : Image) (n : ℕ) → n < blocks → page_of (laid blocks tx image) n ≡ apply_tx n tx (page_of image n)
page_within blocks tx image n l = ap (λ (pages : ℕ → List ℕ). pages n) (laid_is blocks tx image) ∙ ap (λ (x : Bool). if x then apply_tx n tx (page_of image n) else page_of image n) (lt-ltb n blocks l)

same_length : (at : ℕ) (new : List ℕ) (place : ℕ) (xs : List ℕ) → length (overlaid at new place xs) ≡ length xs
same_length at new place [] = refl
same_length at new place (x ∷ xs) = ap (λ (n : ℕ). suc n) (same_length at new (suc place) xs)

pub applied_length : (n : ℕ) (tx : List Edit) (page : List ℕ) → length (apply_tx n tx page) ≡ length page
applied_length n [] page = refl
applied_length n (Lines p kind first bytes ∷ tx) page = applied_length n tx (overlaid (place_of_line p kind first) bytes (4096 * n) page) ∙ same_length (place_of_line p kind first) bytes (4096 * n) page
applied_length n (NoRedo p ∷ tx) page = applied_length n tx page
applied_length n (Alloc p ∷ tx) page = applied_length n tx page
applied_length n (Free p ∷ tx) page = applied_length n tx page

put_length : (blocks : ℕ) (tx : List Edit) (pages : ℕ → List ℕ) (n : ℕ) → length (put_tx blocks tx pages n) ≡ length (pages n)
put_length blocks tx pages n = by (nat_lt n blocks)
  where
    by : (x : Bool) → length (if x then apply_tx n tx (pages n) else pages n) ≡ length (pages n)
    by true = applied_length n tx (pages n)
    by false = refl

laid_length : (blocks : ℕ) (tx : List Edit) (image : Image) (n : ℕ) → length (page_of (laid blocks tx image) n) ≡ length (page_of image n)
laid_length blocks tx image n = ap (λ (pages : ℕ → List ℕ). length (pages n)) (laid_is blocks tx image) ∙ put_length blocks tx (page_of image) n

pub laid_whole : (blocks : ℕ) (tx : List Edit) (image : Image) → AreWhole blocks image → AreWhole blocks (laid blocks tx image)
laid_whole blocks tx image are n l = laid_length blocks tx image n ∙ are n l
