-- Pages of a disk that a crash left in the midst of redo are redone to the same.
use Rattle.std.proofs.Common.{◌≡◌, ◌⊎◌, ◌<◌, ◌≤◌, nat_lt, ℕ, List, sym, ap, ◌∙◌, inl, inr}
use Rattle.std.proofs.lemmas.Bool.{cases_lt, cond-true, cond-false, lt-ltb, le-ltb}
use Rattle.jfs_disk.specs.Image.{page_of}
use Rattle.jfs_disk.specs.Crash.{torn}
use Rattle.jfs_disk.proofs.Tearing.{torn-same}
use Rattle.jfs_records.specs.Redo.{redone}
use Rattle.jfs_redo_steps.specs.Pages.{redone_page, RedoneAgain}
use Rattle.jfs_redo_steps.proofs.Again.{redone_again}

pub again : RedoneAgain
again count es old left new next sizes way are are_again p low = are_again.pages p ∙ at (cases_lt p count) ∙ sym (are.pages p)
  where
    bytes : List ℕ
    bytes = redone p (page_of old p) (page_of old p) es

    was : (sectors : ℕ) × (sectors ≤ 8) × (page_of left p ≡ torn sectors (redone_page count es old p) (page_of old p))
    was = way.pages p low

    at : (p < count) ⊎ (count ≤ p) → redone_page count es left p ≡ redone_page count es old p
    at (inl l) =
        let here : page_of left p ≡ torn was.0 bytes (page_of old p) = was.2 ∙ ap (λ (front : List ℕ). torn was.0 front (page_of old p)) (cond-true (nat_lt p count) bytes (page_of old p) (lt-ltb p count l)) in
        cond-true (nat_lt p count) (redone p (page_of left p) (page_of left p) es) (page_of left p) (lt-ltb p count l)
        ∙ ap (λ (page : List ℕ). redone p page page es) here ∙ redone_again p (page_of old p) es was.0 was.1 (sizes.sizes p low)
        ∙ sym (cond-true (nat_lt p count) bytes (page_of old p) (lt-ltb p count l))
    at (inr l) =
        let none = cond-false (nat_lt p count) bytes (page_of old p) (le-ltb p count l) in
        cond-false (nat_lt p count) (redone p (page_of left p) (page_of left p) es) (page_of left p) (le-ltb p count l)
        ∙ was.2 ∙ ap (λ (front : List ℕ). torn was.0 front (page_of old p)) none ∙ torn-same was.0 (page_of old p) ∙ sym none
