-- Two texts of records, one behind the other.
use Rattle.std.proofs.Common.{◌≡◌, ◌<◌, ◌≤◌, ℕ, ◌+◌, zero, suc, List, [], ◌∷◌, ◌++◌, length, take, drop, map, get_or, sym, ap, subst, ◌∙◌, arith}
use Rattle.std.proofs.lemmas.List.{length-append, take-append-le}
use Rattle.std.proofs.Math.Seq.{take-append-add}
use Rattle.jfs_logpages.specs.Group.{AreRecords, IsRecordText}
use Rattle.jfs_logpages.specs.Ring.{AreEnds, ends_with}

-- behind a front the bytes between two places are those between the places that are as much further on
between : (front bytes : List ℕ) (from end : ℕ) → drop (length front + from) (take (length front + end) (front ++ bytes)) ≡ drop from (take end bytes)
between front bytes from end = ap (λ (l : List ℕ). drop (length front + from) l) (take-append-add front bytes end) ∙ behind front (take end bytes)
  where
    behind : (xs ys : List ℕ) → drop (length xs + from) (xs ++ ys) ≡ drop from ys
    behind [] ys = ap (λ (n : ℕ). drop n ys) (omega arith)
    behind (x ∷ xs) ys =
        let e : suc (length xs) + from ≡ suc (length xs + from) = omega arith in
        ap (λ (n : ℕ). drop n (x ∷ (xs ++ ys))) e ∙ behind xs ys

shifted : (front bytes ends : List ℕ) (from : ℕ) → AreRecords from bytes ends → AreRecords (length front + from) (front ++ bytes) (map (λ e. length front + e) ends)
shifted front bytes [] from are = (omega (arith, are.0, length-append front bytes), omega (arith, are.1, length-append front bytes))
shifted front bytes (end ∷ ends) from are = (
  omega (arith, are.0),
  (
    omega (arith, are.1.0, length-append front bytes),
    (subst (λ (l : List ℕ). IsRecordText l) (sym (between front bytes from end)) are.1.1.0, shifted front bytes ends end are.1.1.1),
  ),
)

joined : (from : ℕ) (bytes ends more more_ends : List ℕ) → AreRecords from bytes ends → AreRecords 0 more more_ends → AreRecords from (bytes ++ more) (ends ++ map (λ e. length bytes + e) more_ends)
joined from bytes [] more more_ends are others =
    let place : length bytes + 0 ≡ from = omega (arith, are.0, are.1) in
    subst (λ (n : ℕ). AreRecords n (bytes ++ more) (map (λ e. length bytes + e) more_ends)) place (shifted bytes more more_ends 0 others)
joined from bytes (end ∷ ends) more more_ends are others = (
  are.0,
  (
    omega (arith, are.1.0, length-append bytes more),
    (
      subst (λ (l : List ℕ). IsRecordText (drop from l)) (sym (take-append-le end bytes more are.1.0)) are.1.1.0,
      joined end bytes ends more more_ends are.1.1.1 others,
    ),
  ),
)

pub both_records : (bytes ends more more_ends new new_ends : List ℕ) → new ≡ bytes ++ more → new_ends ≡ ends_with (length bytes) ends more_ends → AreRecords 0 bytes ends → AreRecords 0 more more_ends → AreRecords 0 new new_ends
both_records bytes ends more more_ends new new_ends e f are others = rw (f, e) (joined 0 bytes ends more more_ends are others)

-- each end lies within the text
pub end_within : (low high : ℕ) (ends : List ℕ) (i d : ℕ) → AreEnds low high ends → i < length ends → (get_or ends i d ≤ high) × (low ≤ high)
end_within low high [] i d are less = absurd (omega (arith, less))
end_within low high (e ∷ ends) zero d are less = (most e ends are.1, omega (arith, are.0, most e ends are.1))
  where
    most : (low : ℕ) (ends : List ℕ) → AreEnds low high ends → low ≤ high
    most low [] are = omega (arith, are)
    most low (e ∷ ends) are = omega (arith, are.0, most e ends are.1)
end_within low high (e ∷ ends) (suc i) d are less =
    let later = end_within e high ends i d are.1 (omega (arith, less)) in
    (later.0, omega (arith, later.1, are.0))
