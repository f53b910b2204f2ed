-- The bits of inodes whose extents aren't there are cleared, place by place.
use Rattle.std.proofs.Common.{◌≡◌, ◌<◌, ◌≤◌, refl, sym, ap, ◌∙◌, ℕ, ◌+◌, ◌*◌, ◌/◌, Bool, true, false, not, ◌&&◌, List, length, inl, inr, Option, Some, None, is_some, get_or, arith}
use Rattle.std.proofs.lemmas.Bool.{cases_lt}
use Rattle.jfs_bits.specs.Bits.{is_taken, is_in_run}
use Rattle.jfs_bits.proofs.Counts.{in_run, before_run, behind_run}
use Rattle.jfs_sets.specs.objects.specs.Volume.{home, page_in}

-- the first so many places were looked at
pub record ArePlaced (places : List (Option ℕ)) (old new : List ℕ) (k : ℕ) : Type 0 where
  pub size : length new ≡ length old
  pub before : (n : ℕ) → n < 32 * k → is_taken new n ≡ (is_some (home places n) && is_taken old n)
  pub after : (n : ℕ) → 32 * k ≤ n → is_taken new n ≡ is_taken old n

pub placed_none : (places : List (Option ℕ)) (old : List ℕ) → ArePlaced places old old 0
placed_none places old = record { size = refl; before = λ n h. absurd (omega arith); after = λ n h. refl }

-- an inode of a place has a page where the place has an extent
home_there : (o : Option ℕ) (n : ℕ) → is_some (page_in o n) ≡ is_some o
home_there None n = refl
home_there (Some first) n = refl

at_place : (places : List (Option ℕ)) (k n : ℕ) → 32 * k ≤ n → n < 32 * (k + 1) → is_some (home places n) ≡ is_some (get_or places k None)
at_place places k n low high = let e : n / 32 ≡ k = omega arith in home_there (get_or places (n / 32) None) n ∙ ap (λ (j : ℕ). is_some (get_or places j None)) e

pub placed_kept : (places : List (Option ℕ)) (old new : List ℕ) (k : ℕ) → is_some (get_or places k None) ≡ true → ArePlaced places old new k → ArePlaced places old new (k + 1)
placed_kept places old new k there p = record {
  size = p.size;
  before = λ n h. elim (cases_lt n (32 * k)) [
    | inl l ↦ p.before n l
    | inr l ↦ p.after n l ∙ sym (ap (λ (b : Bool). b && is_taken old n) (at_place places k n l h ∙ there))
  ];
  after = λ n h. p.after n (omega (arith, h));
}

pub placed_cleared : (places : List (Option ℕ)) (old new next : List ℕ) (k : ℕ) → is_some (get_or places k None) ≡ false → length next ≡ length new
    → ((b : ℕ) → is_taken next b ≡ (not (is_in_run (32 * k) 32 b) && is_taken new b)) → ArePlaced places old new k → ArePlaced places old next (k + 1)
placed_cleared places old new next k none size clears p = record {
  size = size ∙ p.size;
  before = λ n h. elim (cases_lt n (32 * k)) [
    | inl l ↦ clears n ∙ ap (λ (b : Bool). not b && is_taken new n) (before_run (32 * k) 32 n l) ∙ p.before n l
    | inr l ↦ clears n ∙ ap (λ (b : Bool). not b && is_taken new n) (in_run (32 * k) 32 n l (omega (arith, h))) ∙ sym (ap (λ (b : Bool). b && is_taken old n) (at_place places k n l h ∙ none))
  ];
  after = λ n h. clears n ∙ ap (λ (b : Bool). not b && is_taken new n) (behind_run (32 * k) 32 n (omega (arith, h))) ∙ p.after n (omega (arith, h));
}
