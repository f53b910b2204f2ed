-- A block that goes out of use is freed by an edit.
use Rattle.std.proofs.Common.{◌≡◌, ◌⊎◌, ◌-◌, ◌&&◌, ◌||◌, not, nat_le, nat_lt, ℕ, Bool, true, false, true≢false, if◌then◌else◌, List, [], ◌∷◌, Some, None, refl, sym, ◌∙◌, inl, inr, arith}
use Rattle.std.proofs.lemmas.Bool.{cases_Bool, or_left, or_right}
use Rattle.std.proofs.lemmas.Bool.Decides.{nat_tests}
use Rattle.jfs_bits.specs.Bits.{is_in_run}
use Rattle.jfs_ranges.specs.declared.edit.Edit.{Edit}
use Rattle.jfs_ranges.specs.declared.edit.Edit.TheVariants.{Lines, NoRedo, Alloc, Free}
use Rattle.jfs_image_volumes.specs.survival.specs.face.specs.steps.specs.After.{is_extent, four_from, with_run, without_run, used_after}
use Rattle.jfs_image_volumes.specs.survival.specs.halves.specs.Marks.{frees, is_freeing}
use Rattle.jfs_image_volumes.specs.survival.specs.recovery.specs.records.specs.Marks.{has_block, mark_of}

in-block : (first len b : ℕ) → is_in_run first len b ≡ true → (nat_le first b && nat_lt (b - first) len) ≡ true
in-block first len b h = grind (arith, nat_tests)

marks-freed : (test : Bool) → test ≡ true → is_freeing (if test then Some false else None) ≡ true
marks-freed true e = refl
marks-freed false e = absurd (true≢false (sym e))

-- new inodes leave blocks in use
stays : (extent : Bool) (page b : ℕ) (used : ℕ → Bool) → used b ≡ true → (if extent then with_run (four_from page) used else used) b ≡ true
stays true page b used some = or_right (is_in_run page 4 b) (used b) some
stays false page b used some = some

kept : (in_run was : Bool) → in_run ≡ false → was ≡ true → (not in_run && was) ≡ true
kept false was e some = some
kept true was e some = absurd (true≢false e)

pub loses : (tx : List Edit) (used : ℕ → Bool) (b : ℕ) → used b ≡ true → used_after tx used b ≡ false → frees b tx ≡ true
loses [] used b some none = absurd (true≢false (sym some ∙ none))
loses (Lines page kind first bytes ∷ tx) used b some none =
    or_right (is_freeing (mark_of b (Lines page kind first bytes))) (frees b tx)
    (loses tx (if is_extent kind first bytes then with_run (four_from page) used else used) b (stays (is_extent kind first bytes) page b used some) none)
loses (NoRedo page ∷ tx) used b some none = loses tx used b some none
loses (Alloc run ∷ tx) used b some none = or_right (is_freeing (mark_of b (Alloc run))) (frees b tx) (loses tx (with_run run used) b (or_right (is_in_run run.addr run.len b) (used b) some) none)
loses (Free run ∷ tx) used b some none = at (cases_Bool (is_in_run run.addr run.len b)) (loses tx (without_run run used) b)
  where
    freeing : Bool
    freeing = is_freeing (mark_of b (Free run))

    at : (is_in_run run.addr run.len b ≡ true) ⊎ (is_in_run run.addr run.len b ≡ false) → (without_run run used b ≡ true → used_after tx (without_run run used) b ≡ false → frees b tx ≡ true) → (freeing || frees b tx) ≡ true
    at (inl e) rest = or_left freeing (frees b tx) (marks-freed (has_block run b) (in-block run.addr run.len b e))
    at (inr e) rest = or_right freeing (frees b tx) (rest (kept (is_in_run run.addr run.len b) (used b) e some) none)
