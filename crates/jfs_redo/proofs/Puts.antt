-- Pages of a file, put one after the other.
use Rattle.std.proofs.Common.{◌≡◌, ◌<◌, ◌≤◌, ◌+◌, ℕ, Bool, true, false, inl, inr, List, [], length, set, refl, sym, ap, ◌∙◌, subst, arith}
use Rattle.std.specs.Prelude.{Option, Some, None}
use Rattle.std.proofs.lemmas.Bool.{cases_lt}
use Rattle.std.proofs.lemmas.Option.{none-some, same_Some}
use Rattle.std.proofs.lemmas.List.{length-set, get_or-set_same, get_or-set_other}
use Rattle.jfs_disk.specs.Image.{Image, page_of}
use Rattle.jfs_redo.specs.Put.{ArePut, IsPut, place_if}
use Rattle.jfs_redo.specs.Redo.{StaysBehind}

pub none-put : (place : ℕ → Option ℕ) (Is : ℕ → List ℕ → Type 0) (image : Image) → ArePut 0 place Is image image
none-put place Is image = record { number = refl; others = λ p none. refl; each = λ k p low is last. absurd (omega (arith, low)) }

module _ (n : ℕ) (place : ℕ → Option ℕ) (Is : ℕ → List ℕ → Type 0) (old mid : Image) (bytes : List ℕ) (puts : ArePut n place Is old mid) where
  -- a page that has no place
  pub passed : place n ≡ None → ArePut (n + 1) place Is old mid
  passed none = record {
    number = puts.number;
    others = λ p out. puts.others p (λ k low. out k (omega (arith, low)));
    each = λ k p low is last. elim (cases_lt k n) [
      | inl before ↦ puts.each k p before is (λ j under. last j (omega (arith, under)))
      | inr at ↦ absurd (none-some p (sym none ∙ ap place (sym (same_number k low at)) ∙ is))
    ];
  }
    where
      same_number : (k : ℕ) → k < n + 1 → n ≤ k → k ≡ n
      same_number k low at = omega (arith, low, at)

  module _ (q : ℕ) (here : place n ≡ Some q) (within : q < length mid) (page : Is n bytes) where
    pub one-put : ArePut (n + 1) place Is old (set mid q bytes)
    one-put = record {
      number = length-set mid q bytes ∙ puts.number;
      others = λ p out. get_or-set_other mid q p bytes [] (λ e. out n (omega arith) (here ∙ ap Some (sym e))) ∙ puts.others p (λ k low. out k (omega (arith, low)));
      each = λ k p low is last. elim (cases_lt k n) [
        | inl before ↦ subst (Is k) (sym (get_or-set_other mid q p bytes [] (λ e. not_below k before (last n (omega arith) (here ∙ ap Some (sym e))))))
            (puts.each k p before is (λ j under. last j (omega (arith, under))))
        | inr at ↦ let same : k ≡ n = omega (arith, low, at) in
            let e : p ≡ q = same_Some p q (sym is ∙ ap place same ∙ here) in
            subst (λ (z : ℕ). Is k (page_of (set mid q bytes) z)) (sym e) (subst (Is k) (sym (get_or-set_same mid q bytes [] within)) (subst (λ (z : ℕ). Is z bytes) (sym same) page))
      ];
    }
      where
        not_below : (k : ℕ) → k < n → n ≤ k → ⊥
        not_below k before e = omega (arith, before, e)

-- a page that is put where it has its place
pub stepped : (n : ℕ) (place : ℕ → Option ℕ) (Is : ℕ → List ℕ → Type 0) (old mid new : Image) (blocks : ℕ) → blocks ≤ length mid → ((p : ℕ) → place n ≡ Some p → p < blocks) → IsPut (place n) (Is n) mid new → ArePut n place Is old mid → ArePut (n + 1) place Is old new
stepped n place Is old mid new blocks whole within put puts = by (place n) refl put
  where
    by : (o : Option ℕ) → place n ≡ o → IsPut o (Is n) mid new → ArePut (n + 1) place Is old new
    by None here q = subst (ArePut (n + 1) place Is old) (sym q.now) (passed n place Is old mid q.page puts here)
    by (Some p) here q = subst (ArePut (n + 1) place Is old) (sym q.now) (one-put n place Is old mid q.page puts p here (omega (arith, within p here, whole)) (q.is p refl))

-- ---- pages behind the volume's

pub behind-joins : (blocks : ℕ) (a b c : Image) → StaysBehind blocks a b → StaysBehind blocks b c → StaysBehind blocks a c
behind-joins blocks a b c h k = λ p past. k p past ∙ h p past

pub behind-set : (blocks q : ℕ) (bytes : List ℕ) (a b : Image) → q < blocks → b ≡ set a q bytes → StaysBehind blocks a b
behind-set blocks q bytes a b low now = λ p past. ap (λ (i : Image). page_of i p) now ∙ get_or-set_other a q p bytes [] (λ e. omega (arith, low, past, e))

-- a page in use lies within the volume where its file does
pub placed_within : (blocks : ℕ) (t : Bool) (o : Option ℕ) → ((p : ℕ) → o ≡ Some p → p < blocks) → (p : ℕ) → place_if t o ≡ Some p → p < blocks
placed_within blocks true o within p is = within p is
placed_within blocks false o within p is = absurd (none-some p is)
