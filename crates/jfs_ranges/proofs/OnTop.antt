-- A view with a transaction on top: what its device tells of the view below, and one transaction on top of another.
use Rattle.std.proofs.Common.{◌≡◌, ◌⊎◌, inl, inr, refl, sym, ap, ◌∙◌, subst, ℕ, Bool, true, false, nat_lt, if◌then◌else◌, List, [], ◌∷◌, ◌++◌}
use Rattle.std.specs.Prelude.{get_or}
use Rattle.jfs_disk.specs.Crash.{DiskState, no_page}
use Rattle.jfs_disk.specs.Image.{Image, page_of}
use Rattle.jfs_ranges.specs.declared.edit.Edit.{Edit}
use Rattle.jfs_ranges.specs.Apply.{apply_tx, apply_edit}
use Rattle.jfs_ranges.specs.Laid.{as_state, laid, laid_is, on_loan, put_tx, states_of_loan}
use Rattle.jfs_ranges.specs.View.{Device}

-- ---- a device that stayed: the same loan of a view with the same pages and device

abbrev loan_of : {tells crashes : Type 0} → Device (Unit {0} ⊎ (tells ⊎ crashes)) → ℕ
loan_of device = get_or (get_or (get_or (device.states (inl tt)) 0 []) 0 no_page).seen 0 0

abbrev rest_of : {tells crashes : Type 0} → Device (Unit {0} ⊎ (tells ⊎ crashes)) → Device crashes
rest_of device = record { pages = device.pages; room = device.room; pending = device.pending; states = λ told. device.states (inr (inr told)) }

abbrev seen_in : DiskState → Image
seen_in [] = []
seen_in (p ∷ ps) = p.seen ∷ seen_in ps

seen_as : (image : Image) → seen_in (as_state image) ≡ image
seen_as [] = refl
seen_as (p ∷ ps) = ap (λ (qs : Image). p ∷ qs) (seen_as ps)

module _ {tells crashes : Type 0} (old new : Device crashes) (was now : Image) (loan loan_new : ℕ) (same : on_loan {tells = tells} new now loan_new ≡ on_loan {tells = tells} old was loan) where
  pub same_loan : loan_new ≡ loan
  same_loan = ap loan_of same

  pub same_rest : new ≡ old
  same_rest = ap rest_of same

  pub same_image : tells → now ≡ was
  same_image told = sym (seen_as now) ∙ ap (λ d. seen_in (get_or (d.states (inr (inl told))) 0 [])) same ∙ seen_as was

-- and the other way round
pub same_on_loan : {tells crashes : Type 0} (old new : Device crashes) (was now : Image) (loan loan_new : ℕ) → new ≡ old → (tells → now ≡ was) → loan_new ≡ loan
    → on_loan {tells = tells} new now loan_new ≡ on_loan {tells = tells} old was loan
same_on_loan {tells} {crashes} old new was now loan loan_new d e l = λ i. record { pages = (d i).pages; room = (d i).room; pending = (d i).pending; states = λ c. at c i }
  where
    at : (c : Unit {0} ⊎ (tells ⊎ crashes)) → states_of_loan new.states now loan_new c ≡ states_of_loan old.states was loan c
    at (inl it) = ap (λ (k : ℕ). (record { seen = k ∷ []; stable = []; writes = [] } ∷ []) ∷ []) l
    at (inr (inl told)) = ap (λ (image : Image). as_state image ∷ []) (e told)
    at (inr (inr told)) = ap (λ d. d.states told) d

-- ---- one transaction on top of another

pub applied_onto : (n : ℕ) (tx more : List Edit) (page : List ℕ) → apply_tx n (tx ++ more) page ≡ apply_tx n more (apply_tx n tx page)
applied_onto n [] more page = refl
applied_onto n (e ∷ tx) more page = applied_onto n tx more (apply_edit n e page)

pub put_onto : (blocks : ℕ) (tx more : List Edit) (pages : ℕ → List ℕ) → put_tx blocks (tx ++ more) pages ≡ put_tx blocks more (put_tx blocks tx pages)
put_onto blocks tx more pages = λ i b. at b i
  where
    by : (b : ℕ) (x : Bool) → (if x then apply_tx b (tx ++ more) (pages b) else pages b) ≡ (if x then apply_tx b more (if x then apply_tx b tx (pages b) else pages b) else (if x then apply_tx b tx (pages b) else pages b))
    by b true = applied_onto b tx more (pages b)
    by b false = refl

    at : (b : ℕ) → put_tx blocks (tx ++ more) pages b ≡ put_tx blocks more (put_tx blocks tx pages) b
    at b = by b (nat_lt b blocks)

-- what a call on such a view says of the pages that it shows is said of the pages below after the transaction
pub on_top : (R : ℕ → (ℕ → List ℕ) → Type 0) (b now : ℕ) (image shown : Image) (tx held : List Edit) → now ≡ b → shown ≡ image → held ≡ tx → R now (page_of (laid now held shown)) → R b (put_tx b tx (page_of image))
on_top R b now image shown tx held e f g h =
    subst (λ (pages : ℕ → List ℕ). R b pages) (laid_is b tx image)
    (subst (λ (t : List Edit). R b (page_of (laid b t image))) g
    (subst (λ (i : Image). R b (page_of (laid b held i))) f
    (subst (λ (k : ℕ). R k (page_of (laid k held shown))) e h)))
