-- Edits from a place on that can be logged.
use Rattle.std.proofs.Common.{◌≡◌, ◌<◌, ◌+◌, sym, subst, ℕ, zero, suc, List, [], ◌∷◌, length, get_or, drop, arith}
use Rattle.std.specs.List.{AllByRecursion}
use Rattle.std.proofs.lemmas.List.{drop_more}
use Rattle.jfs_ranges.specs.declared.edit.Edit.{Edit}
use Rattle.jfs_records.specs.declared.note.Note.{Note}
use Rattle.jfs_records.specs.Records.{noted}
use Rattle.jfs_records.specs.Limits.{IsLoggable}

pub one_more : (blocks : ℕ) (es : List Edit) (ns : List Note) (i : ℕ) (e : Edit) (n : Note) → i < length es → i < length ns → e ≡ get_or es i e → n ≡ get_or ns i n
    → IsLoggable blocks (record { edit = e; note = n }) → AllByRecursion (IsLoggable blocks) (noted (drop (i + 1) es) (drop (i + 1) ns)) → AllByRecursion (IsLoggable blocks) (noted (drop i es) (drop i ns))
one_more blocks es ns i e n le ln ie in_ can rest =
    subst (λ (xs : List Edit). AllByRecursion (IsLoggable blocks) (noted xs (drop i ns))) (sym (drop_more es i e le))
    (subst (λ (ys : List Note). AllByRecursion (IsLoggable blocks) (noted (get_or es i e ∷ drop (i + 1) es) ys)) (sym (drop_more ns i n ln))
    (subst (λ (x : Edit). IsLoggable blocks (record { edit = x; note = get_or ns i n })) ie (subst (λ (y : Note). IsLoggable blocks (record { edit = e; note = y })) in_ can), rest))

-- Where all can be logged, so can the one at a place.
pub one_at : (blocks : ℕ) (es : List Edit) (ns : List Note) (i : ℕ) (e : Edit) (n : Note) → i < length es → i < length ns → e ≡ get_or es i e → n ≡ get_or ns i n → AllByRecursion (IsLoggable blocks) (noted es ns) → IsLoggable blocks (record { edit = e; note = n })
one_at blocks [] ns i e n le ln ie in_ all = absurd (let none : ⊥ = omega (arith, le) in none)
one_at blocks (x ∷ es) [] i e n le ln ie in_ all = absurd (let none : ⊥ = omega (arith, ln) in none)
one_at blocks (x ∷ es) (y ∷ ns) zero e n le ln ie in_ all =
    subst (λ (a : Edit). IsLoggable blocks (record { edit = a; note = n })) (sym ie) (subst (λ (b : Note). IsLoggable blocks (record { edit = x; note = b })) (sym in_) all.0)
one_at blocks (x ∷ es) (y ∷ ns) (suc i) e n le ln ie in_ all = one_at blocks es ns i e n (omega (arith, le)) (omega (arith, ln)) ie in_ all.1
