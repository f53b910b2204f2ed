-- The line of an entry by the numbers that weren't met yet.
use Rattle.std.proofs.Common.{◌≡◌, ◌<◌, ◌≤◌, ◌+◌, ℕ, suc, Bool, true, false, List, [], ◌∷◌, ◌++◌, length, ◌⊎◌, inl, inr, refl, sym, ap, subst, ◌∙◌, arith, drop, get_or, append_assoc}
use Rattle.std.specs.Prelude.{◌==◌, nat_lt}
use Rattle.std.specs.List.{list_any}
use Rattle.std.proofs.lemmas.Bool.{cases_eq, eq-eqb, ne_eqb, lt-ltb, le-ltb}
use Rattle.std.proofs.lemmas.List.{drop_more, drop_all, append-nil}
use Rattle.jfs_plain.specs.declared.call.Entry.{Entry}
use Rattle.jfs_script.specs.Text.{entry_text}
use Rattle.jfs_script.specs.History.{IsRisingFrom, history_text, after}

abbrev has : ℕ → List ℕ → Bool
has number told = list_any (λ n. n == number) told

-- a number before all of them isn't among them
none_yet : (number least : ℕ) (told : List ℕ) → IsRisingFrom least told → number < least → has number told ≡ false
none_yet number least [] rises less = refl
none_yet number least (n ∷ ns) rises less =
    let first = rises.0 in
    rw (ne_eqb n number (differ first)) (none_yet number (n + 1) ns rises.1 (omega (arith, first, less)))
  where
    differ : least ≤ n → n ≡ number → ⊥
    differ first e = omega (arith, first, e, less)

-- a number that was met isn't met again
met : (number n : ℕ) (ns : List ℕ) (es : List Entry) → n < number → history_text number (n ∷ ns) es ≡ history_text number ns es
met number n ns [] less = refl
met number n ns (e ∷ es) less =
    rw (ne_eqb n number (differ less), met (number + 1) n ns es (omega (arith, less))) refl
  where
    differ : n < number → n ≡ number → ⊥
    differ less e = omega (arith, e, less)

pub record Stepped (number : ℕ) (told : List ℕ) (e : Entry) (es : List Entry) (is_durable : Bool) (rest : List ℕ) : Type 0 where
  pub rises : IsRisingFrom (number + 1) rest
  pub line : history_text number told (e ∷ es) ≡ entry_text e number is_durable ++ history_text (number + 1) rest es

weaker : (least n : ℕ) (ns : List ℕ) → least ≤ n → IsRisingFrom n ns → IsRisingFrom least ns
weaker least n [] le rises = tt
weaker least n (m ∷ ns) le rises = let first = rises.0 in (omega (arith, first, le), rises.1)

shorter : (k : ℕ) → nat_lt k (suc k) ≡ true
shorter k = lt-ltb k (suc k) (omega arith)

as_long : (k : ℕ) → nat_lt k k ≡ false
as_long k = le-ltb k k (omega arith)

chosen : (number n : ℕ) (ns : List ℕ) (e : Entry) (es : List Entry) → IsRisingFrom number (n ∷ ns) → (n ≡ number) ⊎ (n ≡ number → ⊥)
    → Stepped number (n ∷ ns) e es (nat_lt (length (after (n ∷ ns) number)) (length (n ∷ ns))) (after (n ∷ ns) number)
chosen number n ns e es rises (inl same) =
    rw (eq-eqb n number same, shorter (length ns)) (record {
      rises = subst (λ (k : ℕ). IsRisingFrom (k + 1) ns) same rises.1;
      line = rw (eq-eqb n number same) (ap (λ (text : List ℕ). entry_text e number true ++ text) (met (number + 1) n ns es (omega (arith, same))));
    })
chosen number n ns e es rises (inr other) =
    let first = rises.0 in
    let later : number + 1 ≤ n = omega (arith, first, other) in
    rw (ne_eqb n number other, as_long (length (n ∷ ns))) (record {
      rises = (later, rises.1);
      line = rw (ne_eqb n number other, none_yet number (n + 1) ns rises.1 (omega (arith, later))) refl;
    })

pub step : (number : ℕ) (told : List ℕ) (e : Entry) (es : List Entry) → IsRisingFrom number told → Stepped number told e es (nat_lt (length (after told number)) (length told)) (after told number)
step number [] e es rises = record { rises = tt; line = refl }
step number (n ∷ ns) e es rises = chosen number n ns e es rises (cases_eq n number)

-- what is written and what is left to write, before an entry and after it
pub record Left (number i : ℕ) (told : List ℕ) (history : List Entry) (written whole : List ℕ) : Type 0 where
  pub place : number ≡ i
  pub rises : IsRisingFrom (number + 1) told
  pub text : written ++ history_text (number + 1) told (drop i history) ≡ whole

split : (history : List Entry) (i : ℕ) (e : Entry) → i < length history → e ≡ get_or history i e → drop i history ≡ e ∷ drop (i + 1) history
split history i e l is = drop_more history i e l ∙ ap (λ (x : Entry). x ∷ drop (i + 1) history) (sym is)

pub goes_on : (number i : ℕ) (told rest : List ℕ) (history : List Entry) (e : Entry) (written later whole : List ℕ) → Left number i told history written whole → i < length history → e ≡ get_or history i e
    → rest ≡ after told (number + 1) → later ≡ written ++ entry_text e (number + 1) (nat_lt (length rest) (length told)) → Left (number + 1) (i + 1) rest history later whole
goes_on number i told rest history e written later whole left less is follows wrote =
    let s = step (number + 1) told e (drop (i + 1) history) left.rises in
    record {
      place = let p = left.place in omega (arith, p);
      rises = subst (λ (r : List ℕ). IsRisingFrom (number + 1 + 1) r) (sym follows) s.rises;
      text = rw (wrote, follows) (
          append_assoc written (entry_text e (number + 1) (nat_lt (length (after told (number + 1))) (length told))) (history_text (number + 1 + 1) (after told (number + 1)) (drop (i + 1) history))
          ∙ ap (λ (text : List ℕ). written ++ text) (sym s.line ∙ ap (λ (es : List Entry). history_text (number + 1) told es) (sym (split history i e less is)))
          ∙ left.text);
    }

pub none_left : (number i : ℕ) (told : List ℕ) (history : List Entry) (written whole : List ℕ) → Left number i told history written whole → length history ≤ i → written ≡ whole
none_left number i told history written whole left past =
    sym (append-nil written) ∙ ap (λ (es : List Entry). written ++ history_text (number + 1) told es) (sym (drop_all i history past)) ∙ left.text
