-- What a crash leaves by choices.
use Rattle.std.proofs.Common.{◌≡◌, ◌≤◌, ℕ, List, length, Bool, true, false, ◌&&◌, nat_le, if◌then◌else◌, Option, Some, None, refl, sym, ap, subst, arith}
use Rattle.std.proofs.lemmas.Bool.{leb-true}
use Rattle.jfs_disk.specs.Image.{Image, page_of}
use Rattle.jfs_disk.specs.Crash.{PageHistory, DiskState, history_of, seen_of, content_of, torn, resting, IsCrashPage, IsCrashImage}
use Rattle.jfs_disk.specs.Seen.{page_of-seen_of}
use Rattle.jfs_disk.specs.Choice.{fits, left_by, choice_of, IsChosen}
use Rattle.jfs_disk.specs.declared.choice.Choice.{Choice}
use Rattle.jfs_disk.proofs.Tearing.{torn-same}

and-left : (a b : Bool) → (a && b) ≡ true → a ≡ true
and-left true b e = refl
and-left false b e = e

and-right : (a b : Bool) → (a && b) ≡ true → b ≡ true
and-right true b e = e
and-right false b e = absurd (cc)

pub fits-bounds : (choice : Choice) (page : PageHistory) → fits choice page ≡ true → (choice.base ≤ choice.top) × (choice.top ≤ length page.writes) × (choice.sectors ≤ 8)
fits-bounds choice page e =
    let front = and-left (nat_le choice.base choice.top && nat_le choice.top (length page.writes)) (nat_le choice.sectors 8) e in (
      leb-true choice.base choice.top (and-left (nat_le choice.base choice.top) (nat_le choice.top (length page.writes)) front),
      leb-true choice.top (length page.writes) (and-right (nat_le choice.base choice.top) (nat_le choice.top (length page.writes)) front),
      leb-true choice.sectors 8 (and-right (nat_le choice.base choice.top && nat_le choice.top (length page.writes)) (nat_le choice.sectors 8) e),
    )

-- a page that was never written has zeros, whatever is chosen
pub left_by-resting : (choice : Option Choice) (bytes : List ℕ) → left_by choice (resting bytes) bytes ≡ bytes
left_by-resting None bytes = refl
left_by-resting (Some choice) bytes = by-test (fits choice (resting bytes)) refl
  where
    first : (k : ℕ) → k ≤ 0 → content_of (resting bytes) k ≡ bytes
    first k h = let e : k ≡ 0 = omega arith in ap (λ (j : ℕ). content_of (resting bytes) j) e

    by-test : (test : Bool) → fits choice (resting bytes) ≡ test → (if test then torn choice.sectors (content_of (resting bytes) choice.top) (content_of (resting bytes) choice.base) else bytes) ≡ bytes
    by-test true e =
        let bounds : (choice.base ≤ choice.top) × (choice.top ≤ 0) × (choice.sectors ≤ 8) = fits-bounds choice (resting bytes) e in
        let top : content_of (resting bytes) choice.top ≡ bytes = first choice.top bounds.1 in
        let base : content_of (resting bytes) choice.base ≡ bytes = first choice.base (omega (arith, bounds.0, bounds.1)) in
        rw (top, base) (torn-same choice.sectors bytes)
    by-test false e = refl

-- by the choices, a crash leaves one of the crash images
pub IsCrashImage-chosen : (choices : List Choice) (state : DiskState) (left : Image) → IsCrashImage state (seen_of state) → IsChosen choices state left → IsCrashImage state left
IsCrashImage-chosen choices state left seen chosen = record {
  number = chosen.number;
  each = λ n h. crash-page (choice_of choices n) (history_of state n) (page_of left n)
      (subst (λ (bytes : List ℕ). IsCrashPage (history_of state n) bytes) (page_of-seen_of state n) (seen.each n h)) (chosen.each n h);
}
  where
    by-test : (choice : Choice) (page : PageHistory) (left : List ℕ) → IsCrashPage page page.seen → (test : Bool) → fits choice page ≡ test → left ≡ (if test then torn choice.sectors (content_of page choice.top) (content_of page choice.base) else page.seen) → IsCrashPage page left
    by-test choice page left seen true e is =
        let bounds = fits-bounds choice page e in
        record { base = choice.base; top = choice.top; sectors = choice.sectors; older = bounds.0; there = bounds.1; within = bounds.2; content = is }
    by-test choice page left seen false e is = subst (λ (bytes : List ℕ). IsCrashPage page bytes) (sym is) seen

    crash-page : (choice : Option Choice) (page : PageHistory) (left : List ℕ) → IsCrashPage page page.seen → left ≡ left_by choice page page.seen → IsCrashPage page left
    crash-page None page left seen is = subst (λ (bytes : List ℕ). IsCrashPage page bytes) (sym is) seen
    crash-page (Some choice) page left seen is = by-test choice page left seen (fits choice page) refl is
