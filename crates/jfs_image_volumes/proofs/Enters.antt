-- A transaction from one volume to the next is an entry of a mounted volume's halves.
use Rattle.std.proofs.Common.{◌≡◌, ◌⊎◌, ◌-◌, ◌==◌, ◌&&◌, ◌||◌, not, nat_le, nat_lt, ℕ, Bool, true, false, true≢false, if◌then◌else◌, List, [], ◌∷◌, length, Some, None, refl, sym, ◌∙◌, inl, inr, arith}
use Rattle.std.proofs.lemmas.Bool.{cases_Bool, and_from, and_parts, or_left, or_right}
use Rattle.std.proofs.lemmas.Bool.Decides.{nat_tests}
use Rattle.jfs_bits.specs.Bits.{is_in_run}
use Rattle.jfs_bits.specs.declared.rule.PageKind.{PageKind}
use Rattle.jfs_bits.specs.declared.rule.PageKind.TheVariants as kinds
use Rattle.jfs_ranges.specs.declared.edit.Edit.{Edit}
use Rattle.jfs_ranges.specs.declared.edit.Edit.TheVariants.{Lines, NoRedo, Alloc, Free}
use Rattle.jfs_survival.specs.halves.specs.Entry.{edits}
use Rattle.jfs_survival.specs.halves.specs.Marks.{takes, is_taking}
use Rattle.jfs_survival.specs.face.specs.steps.specs.After.{is_extent, four_from, with_run, without_run, used_after}
use Rattle.jfs_survival.specs.recovery.specs.records.specs.Marks.{has_block, is_new_extent, mark_of}
use Rattle.jfs_survival.specs.recovery.specs.Core.{count, image}
use Rattle.jfs_survival.proofs.Seen.{seen_law}
use Rattle.jfs_survival.specs.MapMarks.{map_marks}
use Rattle.jfs_image_volumes.specs.Enters.{EnteredLaw}
use Rattle.jfs_image_volumes.proofs.Next.{next_law}

-- ---- a block that comes into use is taken

in-block : (first len b : ℕ) → is_in_run first len b ≡ true → (nat_le first b && nat_lt (b - first) len) ≡ true
in-block first len b h = grind (arith, nat_tests)

new-extent : (kind : PageKind) (first : ℕ) (bytes : List ℕ) → is_extent kind first bytes ≡ true → is_new_extent kind bytes ≡ true
new-extent kinds.Inode first bytes e = (and_parts (first == 0) (length bytes == 16384) e).1
new-extent kinds.Xtree first bytes e = absurd (true≢false (sym e))
new-extent kinds.Dtree first bytes e = absurd (true≢false (sym e))
new-extent kinds.Index first bytes e = absurd (true≢false (sym e))

marks-taken : (test : Bool) → test ≡ true → is_taking (if test then Some true else None) ≡ true
marks-taken true e = e
marks-taken false e = absurd (true≢false (sym e))

-- which of two it was
comes-in : (in_run was : Bool) → was ≡ false → (in_run || was) ≡ true → in_run ≡ true
comes-in true was none e = e
comes-in false was none e = absurd (true≢false (sym e ∙ none))

lines-take : (extent in_run was : Bool) → was ≡ false → (if extent then in_run || was else was) ≡ true → (extent ≡ true) × (in_run ≡ true)
lines-take true in_run was none e = (refl, comes-in in_run was none e)
lines-take false in_run was none e = absurd (true≢false (sym e ∙ none))

used-with : (extent : Bool) (page b : ℕ) (used : ℕ → Bool) → (if extent then with_run (four_from page) used else used) b ≡ (if extent then is_in_run page 4 b || used b else used b)
used-with true page b used = refl
used-with false page b used = refl

not-freed : (in_run was : Bool) → was ≡ false → (not in_run && was) ≡ false
not-freed true was none = refl
not-freed false was none = none

pub gains : (tx : List Edit) (used : ℕ → Bool) (b : ℕ) → used b ≡ false → used_after tx used b ≡ true → takes b tx ≡ true
gains [] used b none some = absurd (true≢false (sym some ∙ none))
gains (Lines page kind first bytes ∷ tx) used b none some = at (cases_Bool (later b)) (gains tx later b)
  where
    later : ℕ → Bool
    later = if is_extent kind first bytes then with_run (four_from page) used else used

    taking : Bool
    taking = is_taking (mark_of b (Lines page kind first bytes))

    at : (later b ≡ true) ⊎ (later b ≡ false) → (later b ≡ false → used_after tx later b ≡ true → takes b tx ≡ true) → (taking || takes b tx) ≡ true
    at (inr e) rest = or_right taking (takes b tx) (rest e some)
    at (inl e) rest =
        let both = lines-take (is_extent kind first bytes) (is_in_run page 4 b) (used b) none (sym (used-with (is_extent kind first bytes) page b used) ∙ e) in
        or_left taking (takes b tx)
        (marks-taken (is_new_extent kind bytes && (nat_le page b && nat_lt (b - page) 4)) (and_from (is_new_extent kind bytes) (nat_le page b && nat_lt (b - page) 4) (new-extent kind first bytes both.0) (in-block page 4 b both.1)))
gains (NoRedo page ∷ tx) used b none some = gains tx used b none some
gains (Alloc run ∷ tx) used b none some = at (cases_Bool (with_run run used b)) (gains tx (with_run run used) b)
  where
    taking : Bool
    taking = is_taking (mark_of b (Alloc run))

    at : (with_run run used b ≡ true) ⊎ (with_run run used b ≡ false) → (with_run run used b ≡ false → used_after tx (with_run run used) b ≡ true → takes b tx ≡ true) → (taking || takes b tx) ≡ true
    at (inr e) rest = or_right taking (takes b tx) (rest e some)
    at (inl e) rest = or_left taking (takes b tx) (marks-taken (has_block run b) (in-block run.addr run.len b (comes-in (is_in_run run.addr run.len b) (used b) none e)))
gains (Free run ∷ tx) used b none some =
    or_right (is_taking (mark_of b (Free run))) (takes b tx) (gains tx (without_run run used) b (not-freed (is_in_run run.addr run.len b) (used b) none) some)

-- ---- the entry

pub entered_law : EnteredLaw
entered_law r blocks agsize numag table map pl both core h v w fits image_is may keeps =
    let next = next_law r blocks agsize numag table map pl (map_marks pl) (image core (count core)) v w (edits h) fits image_is may in
    record {
      follows = next.follows.follows;
      before = seen_law r pl (image core (count core)) v image_is.sound image_is.shows;
      after = seen_law r pl _ w next.image.sound next.image.shows;
      agrees = image_is.sound.agrees;
      agrees_then = may.sound.agrees;
      logs = may.after.logs;
      takes_them = λ b none some. gains (edits h) v.used b none (sym (may.used b) ∙ some);
      fixed = λ p e. (sym (image_is.fixed p e), may.fixed p e);
      no_maps = keeps.no_maps;
      within = keeps.within;
    }
