-- What a crash leaves of a group's text is a front of its records.
use Rattle.std.proofs.Common.{◌≡◌, ◌<◌, ◌≤◌, ◌⊎◌, inl, inr, ◌+◌, max, nat_le, ℕ, suc, Bool, true, false, List, [], ◌∷◌, ◌++◌, length, take, drop, if◌then◌else◌, refl, sym, ap, ◌∙◌, arith}
use Rattle.std.proofs.lemmas.List.{length-append, take_at, take-append-drop}
use Rattle.std.proofs.lemmas.Grind.{flat_map-append}
use Rattle.std.proofs.lemmas.Bool.{leb-false}
use Rattle.jfs_logfmt.specs.declared.log_record.Record.{Record}
use Rattle.jfs_logfmt.specs.Written.{text_of}
use Rattle.jfs_logfmt.proofs.Numbers.{length-text}
use Rattle.jfs_logpages.specs.Ring.{last_end}
use Rattle.jfs_logpages.specs.Records.{log_text, size_of, ends_of}
use Rattle.jfs_logpages.specs.Laws.{LeavesFront}
use Rattle.jfs_logpages.proofs.Ends.{last_end-within}

-- the greatest end up to a place: none, or that of so many records
record IsFront (from : ℕ) (rs : List Record) (end : ℕ) : Type 0 where
  k : ℕ
  is : ((end ≡ 0) × (k ≡ 0)) ⊎ ((end ≡ from + length (log_text (take k rs))) × (0 < k))

front_end : (from upto : ℕ) (rs : List Record) → IsFront from rs (last_end (ends_of from rs) upto)
front_end from upto [] = record { k = 0; is = inl (refl, refl) }
front_end from upto (r ∷ rs) = by (nat_le (from + size_of r) upto) refl (front_end (from + size_of r) upto rs) (last_end-within (ends_of (from + size_of r) rs) upto)
  where
    later : ℕ
    later = last_end (ends_of (from + size_of r) rs) upto

    one : length (log_text (r ∷ [])) ≡ size_of r
    one = omega (arith, length-append (text_of r) [], length-text r)

    more : (k : ℕ) → length (log_text (r ∷ take k rs)) ≡ size_of r + length (log_text (take k rs))
    more k = omega (arith, length-append (text_of r) (log_text (take k rs)), length-text r)

    by : (b : Bool) → nat_le (from + size_of r) upto ≡ b → IsFront (from + size_of r) rs later → later ≤ upto
        → IsFront from (r ∷ rs) (if b then max (from + size_of r) later else later)
    by true h f within = at f.k f.is
      where
        at : (k : ℕ) → ((later ≡ 0) × (k ≡ 0)) ⊎ ((later ≡ from + size_of r + length (log_text (take k rs))) × (0 < k)) → IsFront from (r ∷ rs) (max (from + size_of r) later)
        at k (inl z) = record { k = 1; is = inr (omega (arith, z.0, one), omega arith) }
        at k (inr z) = record { k = suc k; is = inr (omega (arith, z.0, more k), omega arith) }
    by false h f within = at f.k f.is
      where
        at : (k : ℕ) → ((later ≡ 0) × (k ≡ 0)) ⊎ ((later ≡ from + size_of r + length (log_text (take k rs))) × (0 < k)) → IsFront from (r ∷ rs) later
        at k (inl z) = record { k = 0; is = inl (z.0, refl) }
        at k (inr z) = absurd (omega (arith, z.0, within, leb-false (from + size_of r) upto h))

text_front : (k : ℕ) (rs : List Record) (n : ℕ) → n ≡ length (log_text (take k rs)) → take n (log_text rs) ≡ log_text (take k rs)
text_front k rs n e =
    let whole : log_text rs ≡ log_text (take k rs) ++ log_text (drop k rs) = ap log_text (sym (take-append-drop k rs)) ∙ flat_map-append text_of (take k rs) (drop k rs) in
    ap (λ (l : List ℕ). take n l) whole ∙ take_at (log_text (take k rs)) (log_text (drop k rs)) n (sym e)

-- a group's text up to the last end that a crash left is that of a front of its records
pub group_front : LeavesFront
group_front upto rs = by (front_end 0 upto rs)
  where
    by : IsFront 0 rs (last_end (ends_of 0 rs) upto) → (k : ℕ) × (take (last_end (ends_of 0 rs) upto) (log_text rs) ≡ log_text (take k rs))
    by f = (f.k, text_front f.k rs (last_end (ends_of 0 rs) upto) (at f.k f.is))
      where
        at : (k : ℕ) → ((last_end (ends_of 0 rs) upto ≡ 0) × (k ≡ 0)) ⊎ ((last_end (ends_of 0 rs) upto ≡ 0 + length (log_text (take k rs))) × (0 < k)) → last_end (ends_of 0 rs) upto ≡ length (log_text (take k rs))
        at k (inl z) = z.0 ∙ ap (λ (n : ℕ). length (log_text (take n rs))) (sym z.1)
        at k (inr z) = omega (arith, z.0)
