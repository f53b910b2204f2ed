-- A text and a group behind it.
use Rattle.std.proofs.Common.{◌≡◌, ◌≤◌, ◌+◌, ◌-◌, ◌*◌, ◌/◌, ℕ, suc, max, List, [], ◌∷◌, ◌++◌, length, take, drop, map, Bool, true, false, nat_le, if◌then◌else◌, refl, sym, ap, subst, ◌∙◌, arith}
use Rattle.std.proofs.lemmas.Bool.{leb-true, leb-false, le-leb, lt-leb}
use Rattle.std.proofs.lemmas.List.{length-append, get_or_append_left, take_all, append-nil}
use Rattle.std.proofs.Math.Seq.{take-append-add}
use Rattle.jfs_disk.specs.Image.{Image}
use Rattle.jfs_logpages.specs.Ring.{eor_at, last_end, AreEnds, ends_with, GoesOn, Shows, Reads, ReadsPrefix}
use Rattle.jfs_logpages.proofs.TextRead.{reads-shown}

pub last_end-append : (es fs : List ℕ) (u : ℕ) → last_end (es ++ fs) u ≡ max (last_end es u) (last_end fs u)
last_end-append [] fs u = omega arith
last_end-append (e ∷ es) fs u = by (last_end-append es fs u) (nat_le e u) refl
  where
    by : last_end (es ++ fs) u ≡ max (last_end es u) (last_end fs u) → (b : Bool) → nat_le e u ≡ b
        → (if b then max e (last_end (es ++ fs) u) else last_end (es ++ fs) u) ≡ max (if b then max e (last_end es u) else last_end es u) (last_end fs u)
    by rest true h = omega (arith, rest)
    by rest false h = rest

pub ends-order : (low high : ℕ) (es : List ℕ) → AreEnds low high es → low ≤ high
ends-order low high [] are = omega (arith, are)
ends-order low high (e ∷ es) are = omega (arith, are.0, ends-order e high es are.1)

-- none up to where they begin
pub last_end-none : (low high : ℕ) (es : List ℕ) (u : ℕ) → AreEnds low high es → u ≤ low → last_end es u ≡ 0
last_end-none low high [] u are h = refl
last_end-none low high (e ∷ es) u are h = rw (lt-leb e u (omega (arith, are.0))) (last_end-none e high es u are.1 (omega (arith, are.0)))

-- behind them the last
pub last_end-all : (low high : ℕ) (es : List ℕ) (u : ℕ) → AreEnds low high es → high ≤ u → max low (last_end es u) ≡ high
last_end-all low high [] u are h = omega (arith, are)
last_end-all low high (e ∷ es) u are h =
    let rest = last_end-all e high es u are.1 h in
    rw (le-leb e u (omega (arith, ends-order e high es are.1))) (omega (arith, rest, are.0))

pub last_end-bound : (low high : ℕ) (es : List ℕ) (u : ℕ) → AreEnds low high es → last_end es u ≤ high
last_end-bound low high [] u are = omega arith
last_end-bound low high (e ∷ es) u are = by (last_end-bound e high es u are.1) (nat_le e u)
  where
    by : last_end es u ≤ high → (b : Bool) → (if b then max e (last_end es u) else last_end es u) ≤ high
    by rest true = omega (arith, rest, ends-order e high es are.1)
    by rest false = rest

-- ends that are moved
pub last_end-moved : (size : ℕ) (es : List ℕ) (u : ℕ) → size ≤ u → max size (last_end (map (λ e. size + e) es) u) ≡ size + last_end es (u - size)
last_end-moved size [] u h = omega arith
last_end-moved size (e ∷ es) u h = by (last_end-moved size es u h) (nat_le e (u - size)) refl
  where
    by : max size (last_end (map (λ k. size + k) es) u) ≡ size + last_end es (u - size) → (b : Bool) → nat_le e (u - size) ≡ b
        → max size (if nat_le (size + e) u then max (size + e) (last_end (map (λ k. size + k) es) u) else last_end (map (λ k. size + k) es) u) ≡ size + (if b then max e (last_end es (u - size)) else last_end es (u - size))
    by rest true t = rw (le-leb (size + e) u (omega (arith, leb-true e (u - size) t))) (omega (arith, rest))
    by rest false t = rw (lt-leb (size + e) u (omega (arith, leb-false e (u - size) t))) rest

pub ends-moved : (size low high : ℕ) (es : List ℕ) → AreEnds low high es → AreEnds (size + low) (size + high) (map (λ e. size + e) es)
ends-moved size low high [] are = ap (λ (n : ℕ). size + n) are
ends-moved size low high (e ∷ es) are = (omega (arith, are.0), ends-moved size e high es are.1)

pub ends-joined : (low mid high : ℕ) (es fs : List ℕ) → AreEnds low mid es → AreEnds mid high fs → AreEnds low high (es ++ fs)
ends-joined low mid high [] fs are more = subst (λ (n : ℕ). AreEnds n high fs) (sym are) more
ends-joined low mid high (e ∷ es) fs are more = (are.0, ends-joined e mid high es fs are.1 more)

-- the whole text ends with a record again
pub ends-after : (text group ends group_ends : List ℕ) → AreEnds 0 (length text) ends → AreEnds 0 (length group) group_ends → AreEnds 0 (length (text ++ group)) (ends_with (length text) ends group_ends)
ends-after text group ends group_ends are more =
    let start : length text + 0 ≡ length text = omega arith in
    subst (λ (n : ℕ). AreEnds 0 n (ends_with (length text) ends group_ends)) (sym (length-append text group))
    (ends-joined 0 (length text) (length text + length group) ends (map (λ e. length text + e) group_ends) are
    (subst (λ (n : ℕ). AreEnds n (length text + length group) (map (λ e. length text + e) group_ends)) start (ends-moved (length text) 0 (length group) group_ends more)))

-- from the text's end on, the ends are the group's
pub ends-later : (text group ends group_ends : List ℕ) (u : ℕ) → AreEnds 0 (length text) ends → length text ≤ u → last_end (ends_with (length text) ends group_ends) u ≡ length text + last_end group_ends (u - length text)
ends-later text group ends group_ends u are h =
    omega (arith, last_end-append ends (map (λ e. length text + e) group_ends) u, last_end-all 0 (length text) ends u are h, last_end-moved (length text) group_ends u h)

pub group-goes-on : (text group ends group_ends : List ℕ) → AreEnds 0 (length group) group_ends → GoesOn text ends (text ++ group) (ends_with (length text) ends group_ends)
group-goes-on text group ends group_ends more = record {
  longer = λ i h. (omega (arith, length-append text group), get_or_append_left text group 0 i h);
  ends_same = λ u h. omega (
    arith,
    last_end-append ends (map (λ e. length text + e) group_ends) u,
    last_end-none (length text + 0) (length text + length group) (map (λ e. length text + e) group_ends) u (ends-moved (length text) 0 (length group) group_ends more) (omega arith),
  );
}

-- the last page's records don't end earlier
pub eor-rises : (text group ends group_ends : List ℕ) (q : ℕ) → AreEnds 0 (length text) ends → length text ≤ 4080 * suc q → eor_at ends q ≤ eor_at (ends_with (length text) ends group_ends) q
eor-rises text group ends group_ends q are h =
    omega (arith, ends-later text group ends group_ends (4080 * suc q) are h, last_end-all 0 (length text) ends (4080 * suc q) are h)

-- ---- what it reads as

pub reads-old : (ring : ℕ) (text group ends group_ends : List ℕ) (q high : ℕ) (image : Image) → 2 ≤ ring → AreEnds 0 (length text) ends → AreEnds 0 (length group) group_ends → length text ≤ 4080 * suc q → ring / 2 ≤ q + 1 → q ≤ high
    → Shows ring text ends q image → ReadsPrefix ring text group group_ends high image
reads-old ring text group ends group_ends q high image some are more h long within shows =
    let all : last_end ends (4080 * suc q) ≡ length text = omega (arith, last_end-all 0 (length text) ends (4080 * suc q) are h) in
    let nothing : last_end group_ends 0 ≡ 0 = last_end-none 0 (length group) group_ends 0 more (omega arith) in
    let same : take (last_end ends (4080 * suc q)) text ≡ text ++ take (last_end group_ends 0) group =
    rw (all, nothing) (take_all (length text) text (omega arith) ∙ sym (append-nil text)) in
    record {
      upto = 0;
      first = q + 1 - ring / 2;
      reach = omega arith;
      reads = subst (λ (t : List ℕ). Reads ring image (q + 1 - ring / 2) (drop (4080 * (q + 1 - ring / 2)) t)) same (reads-shown ring image text ends q some shows (omega (arith, all)));
    }

pub reads-new : (ring : ℕ) (text group ends group_ends : List ℕ) (q high : ℕ) (image : Image) → 2 ≤ ring → AreEnds 0 (length text) ends → AreEnds 0 (length group) group_ends → length text ≤ 4080 * suc q → ring / 2 ≤ q + 1 → q ≤ high
    → Shows ring (text ++ group) (ends_with (length text) ends group_ends) q image → ReadsPrefix ring text group group_ends high image
reads-new ring text group ends group_ends q high image some are more h long within shows =
    let u = 4080 * suc q - length text in
    let cut : last_end (ends_with (length text) ends group_ends) (4080 * suc q) ≡ length text + last_end group_ends u = ends-later text group ends group_ends (4080 * suc q) are h in
    let fits : last_end group_ends u ≤ length group = last_end-bound 0 (length group) group_ends u more in
    record {
      upto = u;
      first = q + 1 - ring / 2;
      reach = omega arith;
      reads = subst (λ (t : List ℕ). Reads ring image (q + 1 - ring / 2) (drop (4080 * (q + 1 - ring / 2)) t))
          (ap (λ (c : ℕ). take c (text ++ group)) cut ∙ take-append-add text group (last_end group_ends u))
          (reads-shown ring image (text ++ group) (ends_with (length text) ends group_ends) q some shows (omega (arith, cut, fits, length-append text group)));
    }
