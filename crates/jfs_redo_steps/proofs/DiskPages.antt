-- Pages of a disk, redone one after the other.
use Rattle.std.proofs.Common.{◌≡◌, ◌⊎◌, ◌<◌, ◌≤◌, ◌+◌, nat_lt, ℕ, if◌then◌else◌, List, [], length, set, refl, sym, ap, subst, ◌∙◌, inl, inr, arith}
use Rattle.std.proofs.lemmas.Bool.{cases_lt, cond-true, cond-false, lt-ltb, le-ltb}
use Rattle.std.proofs.lemmas.List.{length-set, get_or-set_same, get_or-set_other}
use Rattle.jfs_disk.specs.Image.{Image, page_of}
use Rattle.jfs_ranges.specs.declared.edit.Edit.{Edit}
use Rattle.jfs_disk.specs.Crash.{DiskState, torn as sectors_of}
use Rattle.jfs_records.specs.Redo.{redone}
use Rattle.jfs_redo_steps.specs.ByPage.{edits_in, edits_at, IsIndex}
use Rattle.jfs_redo_steps.specs.Pages.{ArePagesRedone, MayBeTorn, IsStopped, WritesPage}
use Rattle.jfs_redo_steps.specs.declared.index.PageEdit.{PageEdit}
use Rattle.jfs_redo_steps.proofs.ByPage.{own_edits_redo}

abbrev Now : ℕ → List Edit → Image → ℕ → List ℕ
Now count es old q = if nat_lt q count then redone q (page_of old q) (page_of old q) es else page_of old q

pub none_redone : (es : List Edit) (old : Image) → ArePagesRedone 0 es old old
none_redone es old = record { number = refl; pages = λ p. sym (cond-false (nat_lt p 0) (redone p (page_of old p) (page_of old p) es) (page_of old p) (le-ltb p 0 (omega arith))) }

grown : (es : List Edit) (old : Image) (p q : ℕ) (a : List ℕ) → (q < p → a ≡ Now p es old q) → (q ≡ p → a ≡ redone p (page_of old p) (page_of old p) es) → (p < q → a ≡ Now p es old q) → a ≡ Now (p + 1) es old q
grown es old p q a below here above = at (cases_lt q p) (cases_lt p q)
  where
    new : List ℕ
    new = redone q (page_of old q) (page_of old q) es

    at : (q < p) ⊎ (p ≤ q) → (p < q) ⊎ (q ≤ p) → a ≡ Now (p + 1) es old q
    at (inl l) x = below l ∙ cond-true (nat_lt q p) new (page_of old q) (lt-ltb q p l) ∙ sym (cond-true (nat_lt q (p + 1)) new (page_of old q) (lt-ltb q (p + 1) (omega (arith, l))))
    at (inr l) (inl m) = above m ∙ cond-false (nat_lt q p) new (page_of old q) (le-ltb q p l) ∙ sym (cond-false (nat_lt q (p + 1)) new (page_of old q) (le-ltb q (p + 1) (omega (arith, m))))
    at (inr l) (inr m) =
        let e : q ≡ p = omega (arith, l, m) in
        here e ∙ ap (λ (k : ℕ). redone k (page_of old k) (page_of old k) es) (sym e) ∙ sym (cond-true (nat_lt q (p + 1)) new (page_of old q) (lt-ltb q (p + 1) (omega (arith, m))))

-- page p as it was, before its turn
pub before_turn : (es : List Edit) (old mid : Image) (p : ℕ) → ArePagesRedone p es old mid → page_of mid p ≡ page_of old p
before_turn es old mid p is = is.pages p ∙ cond-false (nat_lt p p) (redone p (page_of old p) (page_of old p) es) (page_of old p) (le-ltb p p (omega arith))

pub one_more : (es : List Edit) (old mid new : Image) (p : ℕ) → p < length old → ArePagesRedone p es old mid → new ≡ set mid p (redone p (page_of mid p) (page_of mid p) es) → ArePagesRedone (p + 1) es old new
one_more es old mid new p within is now = record {
  number = ap (λ (i : Image). length i) now ∙ length-set mid p put ∙ is.number;
  pages = λ q. ap (λ (i : Image). page_of i q) now ∙ grown es old p q (page_of (set mid p put) q)
      (λ l. get_or-set_other mid p q put [] (λ e. omega (arith, l, e)) ∙ is.pages q)
      (λ e. ap (λ (k : ℕ). page_of (set mid p put) k) e ∙ get_or-set_same mid p put [] (omega (arith, within, is.number)) ∙ ap (λ (a : List ℕ). redone p a a es) (before_turn es old mid p is))
      (λ l. get_or-set_other mid p q put [] (λ e. omega (arith, l, e)) ∙ is.pages q);
}
  where
    put : List ℕ
    put = redone p (page_of mid p) (page_of mid p) es

-- the edits that an index has of the first page in it are those of the page
module _ (count : ℕ) (es : List Edit) (index rest own : List PageEdit) (is : IsIndex count es index) (old mid : Image) (p : ℕ) (low : p < count) (size : length (page_of old p) ≡ 4096) (before : ArePagesRedone p es old mid)
    (all : edits_at p rest ≡ edits_at p index) (first : edits_in own ≡ edits_at p rest) where
  pub same_page : redone p (page_of mid p) (page_of mid p) (edits_in own) ≡ redone p (page_of mid p) (page_of mid p) es
  same_page =
      let whole : length (page_of mid p) ≡ 4096 = ap (λ (a : List ℕ). length a) (before_turn es old mid p before) ∙ size in
      ap (redone p (page_of mid p) (page_of mid p)) (first ∙ all ∙ is.own p low) ∙ own_edits_redo p (page_of mid p) (page_of mid p) es whole whole

  pub redone_on : (new : Image) → p < length old → new ≡ set mid p (redone p (page_of mid p) (page_of mid p) (edits_in own)) → ArePagesRedone (p + 1) es old new
  redone_on new within now = one_more es old mid new p within before (now ∙ ap (set mid p) same_page)

  pub stopped_at : (new : Image) → MayBeTorn p (edits_in own) mid new → IsStopped count es old new
  stopped_at new torn = record {
    at = p;
    low = low;
    mid = mid;
    before = before;
    torn = elim torn [ inl same ↦ inl same | inr (sectors, few, now) ↦ inr (sectors, few, now ∙ ap (λ (a : List ℕ). set mid p (sectors_of sectors a (page_of mid p))) same_page) ];
  }

  -- it is written as the page's own edits make it
  pub written_as : (past new : List DiskState) → WritesPage p (redone p (page_of mid p) (page_of mid p) (edits_in own)) past new → WritesPage p (redone p (page_of old p) (page_of old p) es) past new
  written_as past new writes = subst (λ (bytes : List ℕ). WritesPage p bytes past new) (same_page ∙ ap (λ (page : List ℕ). redone p page page es) (before_turn es old mid p before)) writes
