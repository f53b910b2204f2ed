-- How lists of findings grow step by step.
use Rattle.std.proofs.Common.{◌≡◌, ◌⊎◌, ℕ, inl, inr, subst, List, Result, Ok, Err, IfOk}
use Rattle.jfs_bits.specs.declared.extent.Xad.{Xad}
use Rattle.jfs_findings.specs.objects.specs.Contents.{block_of}
use Rattle.jfs_findings.specs.reader.specs.Reading.{OutsideIsPast, IsPast}
use Rattle.jfs_findings.specs.reader.specs.declared.error.ReadError.{ReadError}
use Rattle.jfs_findings.specs.reader.specs.declared.error.ReadError.TheVariants.{View, Outside}
use Rattle.jfs_map_check.specs.Found.{SomeIsPast}
use Rattle.jfs_findings.specs.Gains.{Gains}
use Rattle.jfs_findings.specs.declared.finding.Finding.{Finding}

pub gains_none : (is : Finding → Type 0) (xs : List Finding) → ((f : Finding) → is f → ⊥) → Gains is xs xs
gains_none is xs none = record { kept = λ f h. h; all = λ f p. absurd (none f p); only = λ f h. inl h }

-- first some, then others
pub gains_then : (a b c : Finding → Type 0) (xs ys zs : List Finding) → Gains a xs ys → Gains b ys zs → ((f : Finding) → a f → c f) → ((f : Finding) → b f → c f) → ((f : Finding) → c f → a f ⊎ b f) → Gains c xs zs
gains_then a b c xs ys zs g h left right back = record {
  kept = λ f p. h.kept f (g.kept f p);
  all = λ f p. elim (back f p) [ inl q ↦ h.kept f (g.all f q) | inr q ↦ h.all f q ];
  only = λ f p. elim (h.only f p) [ inl q ↦ elim (g.only f q) [ inl r ↦ inl r | inr r ↦ inr (left f r) ] | inr q ↦ inr (right f q) ];
}

-- the same findings by another name
pub gains_as : (a b : Finding → Type 0) (xs ys : List Finding) → Gains a xs ys → ((f : Finding) → a f → b f) → ((f : Finding) → b f → a f) → Gains b xs ys
gains_as a b xs ys g to back = record {
  kept = g.kept;
  all = λ f p. g.all f (back f p);
  only = λ f p. elim (g.only f p) [ inl r ↦ inl r | inr r ↦ inr (to f r) ];
}

-- what holds of an `Ok`
pub if_ok : (P Q : Type 0) (r : Result (Unit {0}) ReadError) → (P → Q) → IfOk r (λ it. P) → IfOk r (λ it. Q)
if_ok P Q (Ok it) f p = f p
if_ok P Q (Err e) f p = _

-- a block that was `Outside` is one of the file's
pub some_past : (count now : ℕ) (es : List Xad) (j : ℕ) (e : ReadError) → now ≡ count → OutsideIsPast now (block_of es j) e → SomeIsPast count es e
some_past count now es j (View e) same h = _
some_past count now es j Outside same h = (j, subst (λ (n : ℕ). IsPast n (block_of es j)) same h)
