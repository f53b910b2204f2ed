use Rattle.std.proofs.Common.{◌<◌, ◌≤◌, ◌-◌, ◌++◌, [], ◌∷◌, ◌^◌, ℕ, zero, suc, List, length, get_or, refl, ap, ◌∙◌, ◌⊎◌, inl, inr, arith}
use Rattle.std.proofs.lemmas.Bool.{cases_lt}
use Rattle.std.proofs.lemmas.List.{length-append, get_or_append_left, get_or-append_right}
use Rattle.jfs_logpages.proofs.Shown.{marks-none, marks-read}
use Rattle.jfs_logpages.proofs.text.read_marks.Goals as goal

small-more : (marks : List ℕ) (m bound : ℕ) → m < bound → ((p : ℕ) → get_or marks p 0 < bound) → (p : ℕ) → get_or (marks ++ m ∷ []) p 0 < bound
small-more marks m bound h small p = by (cases_lt p (length marks))
  where
    by : (p < length marks) ⊎ (length marks ≤ p) → get_or (marks ++ m ∷ []) p 0 < bound
    by (inl low) = rw (get_or_append_left marks (m ∷ []) 0 p low) (small p)
    by (inr high) = rw (get_or-append_right marks (m ∷ []) (length marks) p 0 refl high) (last (p - length marks))
      where
        last : (i : ℕ) → get_or (m ∷ []) i 0 < bound
        last zero = h
        last (suc i) = omega (arith, h)

pub loop-place-preserved : goal.loop-place-preserved
loop-place-preserved g c =
    let inv = c.loop-place.invariant in
    record {
      pages = c.in_ok-read.ensures.pages ∙ inv.pages;
      image = λ t. c.in_ok-read.ensures.image t ∙ inv.image t;
      past = λ t. c.in_ok-read.ensures.past t ∙ inv.past t;
      faults = c.in_ok-read.ensures.cause.ok ∙ inv.faults;
      size = omega (arith, ap (λ (b : List ℕ). length b) c.in-Ok.ensures.items, length-append c.loop-place.marks.items (c.mark.result ∷ []), inv.size);
      small = rw c.in-Ok.ensures.items (small-more c.loop-place.marks.items c.mark.result (2 ^ 33) c.mark.ensures.small inv.small);
      marks = rw c.in-Ok.ensures.items (marks-read g.D.Disk.tells (g.D.Disk.image c.args.disk.now) c.args.base c.args.ring c.loop-place.place c.mark.result c.loop-place.marks.items c.read.new.into.0 inv.size c.mark.ensures.size
          (λ t. rw (inv.image t) at (c.in_ok-read.ensures.bytes t)) c.mark.ensures.value inv.marks);
    }

pub loop-place-init : goal.loop-place-init
loop-place-init g c = record {
  pages = refl;
  image = λ t. refl;
  past = λ t. refl;
  size = ap (λ (b : List ℕ). length b) c.new-marks.ensures.items;
  small = λ p. rw c.new-marks.ensures.items (omega arith);
  faults = refl;
  marks = rw c.new-marks.ensures.items (marks-none g.D.Disk.tells (g.D.Disk.image c.args.disk.now) c.args.base c.args.ring);
}
