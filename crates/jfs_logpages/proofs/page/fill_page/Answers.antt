use Rattle.std.proofs.Common.{◌≡◌, ◌+◌, ◌-◌, ◌*◌, ◌<◌, ◌≤◌, ℕ, suc, min, List, length, take, drop, get_or, sym, ap, subst, ◌∙◌, ◌⊎◌, inl, inr, ◌++◌, arith}
use Rattle.std.proofs.lemmas.Bool.{cases_lt}
use Rattle.std.proofs.lemmas.List.{length-take-le, length-drop, get_or-take, get_or-drop}
use Rattle.jfs_logpages.specs.Ring.{last_end, ends_with, IsWritten, eor_at}
use Rattle.jfs_logpages.proofs.Filled.{filled}
use Rattle.jfs_logpages.proofs.Grown.{ends-later}
use Rattle.jfs_logpages.proofs.page.fill_page.Goals as goal

full : (from to size at all : ℕ) → to ≡ min (from + (4080 - at)) all → size ≡ to - from → at ≤ 4080 → from ≤ all → (at + size ≡ 4080) ⊎ (from + size ≡ all)
full from to size at all t s h g = by (cases_lt (from + (4080 - at)) all)
  where
    by : (from + (4080 - at) < all) ⊎ (all ≤ from + (4080 - at)) → (at + size ≡ 4080) ⊎ (from + size ≡ all)
    by (inl less) = inl (omega arith)
    by (inr more) = inr (omega arith)

pub returns-clause-written : goal.returns-clause-written
returns-clause-written c = λ text old_ends place are more front.
    let group = c.args.group.now in
    let from = c.args.from in
    let size : ℕ = c.min-to.result - from in
    let piece : List ℕ = take size (drop from group) in
    let long : length piece ≡ size = length-take-le size (drop from group) (omega (arith, length-drop from group, c.min-to.ensures)) in
    let same : (i : ℕ) → i < length piece → get_or piece i 0 ≡ get_or group (from + i) 0 = λ i h. get_or-take size (drop from group) i 0 (omega arith) ∙ get_or-drop from group i 0 in
    let later = ends-later text group old_ends c.args.ends.now (4080 * suc c.args.number) are (omega (arith, c.requires.at)) in
    let upto : 4080 * suc c.args.number - length text ≡ from + (4080 - c.args.at) = omega (arith, c.requires.at) in
    let end : last_end c.args.ends.now (4080 * suc c.args.number - length text) ≡ c.last_end_of-end.result = ap (λ (n : ℕ). last_end c.args.ends.now n) upto ∙ sym c.last_end_of-end.ensures.value in
    let eor : 8 + c.saturating_sub-eor.result ≡ eor_at (ends_with (length text) old_ends c.args.ends.now) c.args.number = omega (arith, c.saturating_sub-eor.ensures, later, end) in
    subst (λ (page : List ℕ). IsWritten (text ++ group) (ends_with (length text) old_ends c.args.ends.now) c.args.number page) (sym c.put_page.ensures.bytes)
    (filled text group old_ends c.args.ends.now c.args.number c.args.at from (8 + c.saturating_sub-eor.result) piece c.args.page.now.0 c.put_page.ensures.size
    (omega (arith, long, c.min-to.ensures, c.requires.at)) place same
    (full from (c.min-to.result) (length piece) c.args.at (length group) c.min-to.ensures long c.requires.at c.requires.from)
    front (c.ranges.number.fits) c.put_page.ensures.fits eor)
