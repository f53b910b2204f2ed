-- What all inode numbers stand for, one after the other.
use Rattle.std.proofs.Common.{◌≡◌, ◌<◌, ◌≤◌, inl, inr, refl, sym, ap, ◌∙◌, subst, ℕ, suc, ◌*◌, ◌^◌, List, length, Option, Some, None, arith}
use Rattle.std.proofs.lemmas.Bool.{cases_lt}
use Rattle.std.proofs.lemmas.List.{get_or_past, get_or-replicate, length-replicate}
use Rattle.jfs_object_check.specs.objects.proofs.Sums.{eq_or_not}
use Rattle.jfs_each.specs.Each.{Found, Step, Visits, AllFit, found_at}
use Rattle.jfs_each.proofs.Visiting.{visits_keep}
use Rattle.jfs_link_check.specs.Uses.{use_in, use_of, use_at, none_used, AreUses, SetsUse}
use Rattle.jfs_link_check.specs.declared.uses.Use.{Use}
use Rattle.jfs_link_check.specs.declared.uses.Use.TheVariants.{Free}
use Rattle.jfs_link_check.proofs.Standing.{none_past, stands_below}

record AreBelow (found : ℕ → Option Found) (most k : ℕ) (uses : List Use) : Type 0 where
  size : length uses ≡ most
  before : (n : ℕ) → n < k → use_at uses n ≡ use_in (found n)
  after : (n : ℕ) → k ≤ n → use_at uses n ≡ Free

none_free : (most n : ℕ) → use_at (none_used most) n ≡ Free
none_free most n = elim (cases_lt n most) [
  | inl l ↦ get_or-replicate most n Free Free l
  | inr l ↦ get_or_past (none_used most) n Free (let size = length-replicate most Free in omega (arith, size, l))
]

module _ (found : ℕ → Option Found) (most : ℕ) where
  start : (uses : List Use) → uses ≡ none_used most → AreBelow found most 0 uses
  start uses is = record {
    size = ap (λ (l : List Use). length l) is ∙ length-replicate most Free;
    before = λ n l. absurd (omega (arith, l));
    after = λ n l. ap (λ (us : List Use). use_at us n) is ∙ none_free most n;
  }

  next : (k : ℕ) (o : Option Found) (old new : List Use) → k < most → found k ≡ o → AreBelow found most k old → Step (λ (old : List Use) n f new. SetsUse n (use_of f.inode) old new) k o old new → AreBelow found most (suc k) new
  next k None old new within e b s = subst (AreBelow found most (suc k)) (sym s) (record {
    size = b.size;
    before = λ n l. elim (eq_or_not n k) [
      | inl same ↦ b.after n (omega (arith, same)) ∙ sym (ap use_in (ap found same ∙ e))
      | inr other ↦ b.before n (omega (arith, l, other))
    ];
    after = λ n l. b.after n (omega (arith, l));
  })
  next k (Some f) old new within e b s = record {
    size = s.size ∙ b.size;
    before = λ n l. elim (eq_or_not n k) [
      | inl same ↦ ap (use_at new) same ∙ s.here (let size = b.size in omega (arith, size, within)) ∙ sym (ap use_in (ap found same ∙ e))
      | inr other ↦ s.others n other ∙ b.before n (omega (arith, l, other))
    ];
    after = λ n l. s.others n (λ same. omega (arith, same, l)) ∙ b.after n (omega (arith, l));
  }

-- all numbers were seen
pub all_used : (blocks : ℕ) (page : ℕ → List ℕ) (places : List (Option ℕ)) (first last : List Use) → blocks < 2 ^ 32 → AllFit blocks places → first ≡ none_used (32 * length places)
    → Visits (λ (old : List Use) n f new. SetsUse n (use_of f.inode) old new) (found_at page places) 0 (32 * length places) first last → AreUses page places last
all_used blocks page places first last few fit none v =
    let found = found_at page places in
    let all = visits_keep (λ (old : List Use) n f new. SetsUse n (use_of f.inode) old new) found (λ k uses. AreBelow found (32 * length places) k uses) first
    (start found (32 * length places) first none) (32 * length places) (λ k old new l b s. next found (32 * length places) k (found k) old new l refl b s) last v in
    record {
      size = all.size;
      each = λ n. elim (cases_lt n (32 * length places)) [
        | inl l ↦ all.before n l
        | inr l ↦ all.after n l ∙ sym (ap use_in (none_past page places n l))
      ];
      pages = λ n f e. let l = stands_below page places blocks n f fit e in omega (arith, l, few);
    }
