-- What a crash leaves while pages of some kind are written.
use Rattle.std.proofs.Common.{◌≡◌, ◌⊎◌, ◌<◌, ◌≤◌, ℕ, List, [], ◌∷◌, ◌++◌, length, set, sym, ap, subst, ◌∙◌, inl, inr, arith}
use Rattle.std.proofs.lemmas.Bool.{cases_eq}
use Rattle.std.proofs.lemmas.List.{length-set, get_or-set_same, get_or-set_other}
use Rattle.jfs_disk.specs.Image.{Image, page_of}
use Rattle.jfs_disk.specs.Crash.{DiskState, IsCrashImage, history_of, seen_of, last_of, written, failed, page_failed, settled, torn, AllSince, Leaves, LeavesTorn}
use Rattle.jfs_disk.specs.Seen.{page_of-seen_of}
use Rattle.jfs_disk.proofs.Outcomes.{last_of-push}
use Rattle.jfs_disk.proofs.Flow.{TakesPage, goes_on, crash-written, crash-failed, crash-settled, length-written, length-settled}
use Rattle.jfs_redo.specs.Mixed.{IsMixedPage, IsMixed, AreMixed}
use Rattle.jfs_redo.proofs.Sectors.{mixed_old, mixed_new, mixed_torn}

length-failed : (n : ℕ) (bytes : List ℕ) (sectors : ℕ) (state : DiskState) → length (failed n bytes sectors state) ≡ length state
unfolding failed
length-failed n bytes sectors state = length-set state n (page_failed bytes sectors (history_of state n))

module _ (count : ℕ) (Writes : ℕ → List ℕ → Type 0) (old : Image) (whole : count ≤ length old) (sizes : (p : ℕ) → p < count → length (page_of old p) ≡ 4096) where
  abbrev Mixed : Image → Type 0
  Mixed left = IsMixed count Writes old left

  pub none_mixed : (left : Image) → left ≡ old → Mixed left
  none_mixed left same = record {
    number = ap (λ (i : Image). length i) same;
    pages = λ p low. subst (IsMixedPage (Writes p) (page_of old p)) (ap (λ (i : Image). page_of i p) (sym same)) (mixed_old (Writes p) (page_of old p) (sizes p low));
    others = λ p high. ap (λ (i : Image). page_of i p) same;
  }

  -- one page is another mixed page
  put : (p : ℕ) (page : List ℕ) (left next : Image) → p < count → IsMixedPage (Writes p) (page_of old p) page → Mixed left → next ≡ set left p page → Mixed next
  put p page left next within mixed is put_is = record {
    number = ap (λ (i : Image). length i) put_is ∙ length-set left p page ∙ is.number;
    pages = λ q low. elim (cases_eq q p) [
      | inl same ↦ subst (λ (k : ℕ). IsMixedPage (Writes k) (page_of old k) (page_of next k)) (sym same)
          (subst (IsMixedPage (Writes p) (page_of old p)) (sym (ap (λ (i : Image). page_of i p) put_is ∙ get_or-set_same left p page [] (omega (arith, within, whole, is.number)))) mixed)
      | inr other ↦ subst (IsMixedPage (Writes q) (page_of old q)) (sym (ap (λ (i : Image). page_of i q) put_is ∙ get_or-set_other left p q page [] other)) (is.pages q low)
    ];
    others = λ q high. ap (λ (i : Image). page_of i q) put_is ∙ get_or-set_other left p q page [] (λ e. omega (arith, within, high, e)) ∙ is.others q high;
  }

  takes : (p : ℕ) (page : List ℕ) (left next : Image) → p < count → IsMixedPage (Writes p) (page_of old p) page → Mixed left → (next ≡ left) ⊎ (TakesPage p page left next) → Mixed next
  takes p page left next within mixed is (inl same) = subst Mixed (sym same) is
  takes p page left next within mixed is (inr (inl (k, few, at))) = put p (torn k page (page_of left p)) left next within (mixed_torn (Writes p) (page_of old p) (sizes p within) k page (page_of left p) few mixed (is.pages p within)) is at
  takes p page left next within mixed is (inr (inr at)) = put p page left next within mixed is at

  on_write : (p : ℕ) (page : List ℕ) (state : DiskState) → p < count → length state ≡ length old → IsMixedPage (Writes p) (page_of old p) page → Leaves Mixed state → Leaves Mixed (written p page state)
  on_write p page state within number mixed before left crash =
      let found = crash-written p page state left (omega (arith, within, whole, number)) crash in
      takes p page found.0 left within mixed (before found.0 found.1) found.2

  on_fail : (p : ℕ) (page : List ℕ) (part : ℕ) (state : DiskState) → p < count → length state ≡ length old → part ≤ 8 → IsMixedPage (Writes p) (page_of old p) page → IsMixedPage (Writes p) (page_of old p) (history_of state p).seen → Leaves Mixed state → Leaves Mixed (failed p page part state)
  on_fail p page part state within number few mixed seen before left crash =
      let first = torn part page (history_of state p).seen in
      let long = length-written p first state in
      on_write p page (written p first state) within (long ∙ number) mixed
      (on_write p first state within number (mixed_torn (Writes p) (page_of old p) (sizes p within) part page (history_of state p).seen few mixed seen) before)
      left (crash-failed p page part state left (omega (arith, within, whole, number)) crash)

  -- ---- the states of a disk, one after the other

  abbrev Moments : ℕ → List DiskState → Type 0
  Moments t past = AreMixed count Writes old t past

  push : (t : ℕ) (past new : List DiskState) (state : DiskState) → Moments t past → new ≡ past ++ state ∷ [] → length state ≡ length old → Leaves Mixed state → Moments t new
  push t past new state before is number leaves = record {
    number = ap (λ (s : DiskState). length s) (ap last_of is ∙ last_of-push past state) ∙ number;
    all = subst (λ (states : List DiskState). AllSince Mixed states t) (sym is) (goes_on Mixed past state t before.all leaves);
    now = subst (Leaves Mixed) (sym (ap last_of is ∙ last_of-push past state)) leaves;
  }

  pub write_goes : (t p : ℕ) (page : List ℕ) (past new : List DiskState) → p < count → length page ≡ 4096 → Writes p page → Moments t past → new ≡ past ++ written p page (last_of past) ∷ [] → Moments t new
  write_goes t p page past new within size is before wrote =
      push t past new (written p page (last_of past)) before wrote (length-written p page (last_of past) ∙ before.number)
      (on_write p page (last_of past) within before.number (mixed_new (Writes p) (page_of old p) (sizes p within) page size is) before.now)

  pub fail_goes : (t p : ℕ) (page : List ℕ) (past new : List DiskState) → p < count → length page ≡ 4096 → Writes p page → Moments t past → IsCrashImage (last_of past) (seen_of (last_of past)) → LeavesTorn p page past new → Moments t new
  fail_goes t p page past new within size is before crash (inl same) = subst (Moments t) (sym same) before
  fail_goes t p page past new within size is before crash (inr (part, few, at)) =
      let seen = (before.now (seen_of (last_of past)) crash).pages p within in
      push t past new (failed p page part (last_of past)) before at (length-failed p page part (last_of past) ∙ before.number)
      (on_fail p page part (last_of past) within before.number few (mixed_new (Writes p) (page_of old p) (sizes p within) page size is)
      (subst (IsMixedPage (Writes p) (page_of old p)) (page_of-seen_of (last_of past) p) seen) before.now)

  pub sync_goes : (t : ℕ) (past new : List DiskState) → Moments t past → IsCrashImage (last_of past) (seen_of (last_of past)) → new ≡ past ++ settled (last_of past) ∷ [] → Moments t new
  sync_goes t past new before crash synced =
      push t past new (settled (last_of past)) before synced (length-settled (last_of past) ∙ before.number)
      (λ left gone. subst Mixed (sym (crash-settled (last_of past) left gone)) (before.now (seen_of (last_of past)) crash))

  pub same_goes : (t : ℕ) (past new : List DiskState) → Moments t past → new ≡ past → Moments t new
  same_goes t past new before same = subst (Moments t) (sym same) before
