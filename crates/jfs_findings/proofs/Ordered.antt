-- The order that is derived is that of findings, and a list that is sorted by it and has no repetition rises.
use Rattle.std.proofs.Common.{◌≡◌, refl, sym, ap, ap₂, ◌∙◌, subst, ℕ, Bool, true, false, ◌&&◌, ◌||◌, ◌==◌, nat_lt, cond, List, [], ◌∷◌, arith, rules, slice_index_or}
use borrow.Author.Tests.{ltb-false, eq-eqb, eqb-true}
use denote.Enum.Bare.{sameb, same_true}
use Rattle.std.proofs.lemmas.Bool.{and_parts}
use denote.Enum.Declared.{tag_of}
use Rattle.jfs_findings.specs.contracts.finding.FindingKind.{the_type}
use Rattle.std.specs.Ordering.{ordering_then, int_cmp, nat_cmp, eq_by_cmp}
use Rattle.std.specs.declared.cmp.Ordering.{Ordering}
use Rattle.std.specs.declared.cmp.Ordering.TheVariants.{Less, Equal, Greater}
use Rattle.std.specs.Cmp as cmp
use Rattle.std.specs.List.{Contains, dedup}
use Rattle.std.specs.List.Sorted.{IsSorted, IsPermutation, IsStrictlySortedBy}
use Rattle.std.specs.List.Retain.{IsFiltered, DiffersFromLast}
use Rattle.std.proofs.lemmas.List.Kept.{IsStrictlySortedBy-dedup, Contains-dedup, Contains-from_dedup}
use Rattle.std.proofs.lemmas.List.Filters.{dedup_is}
use Rattle.std.proofs.lemmas.List.Sorted.{Contains-permutation, IsPermutation-sym}
use lib.IntN.{ℤ, pos}
use Rattle.jfs_findings.specs.Kind.{number_of}
use Rattle.jfs_findings.specs.Findings.{is_before, Rise}
use Rattle.jfs_findings.specs.Gains.{HasSame}
use Rattle.jfs_findings.specs.declared.finding.Finding.{Finding}
use Rattle.jfs_findings.specs.declared.finding.FindingKind.{FindingKind}
use Rattle.jfs_findings.specs.declared.finding.FindingKind.TheVariants as kinds
use Rattle.jfs_findings.specs.contracts.finding.FindingOrd.TheImpl as OrdImpl
use Rattle.jfs_findings.specs.contracts.finding.FindingOrd.TheImpl.Laws as OrdLaws
use Rattle.jfs_findings.specs.contracts.finding.FindingKindOrd.TheImpl as KindOrdImpl
use Rattle.jfs_findings.specs.contracts.finding.FindingPartialEq.TheImpl as EqImpl
use Rattle.jfs_findings.specs.contracts.finding.FindingEq.TheImpl.Laws as EqLaws
use Rattle.jfs_findings.specs.contracts.finding.FindingPartialOrd.TheImpl.Laws as PartialOrdLaws

abbrev order : Finding → Finding → Ordering
order = (OrdImpl.ghosts).cmp

abbrev same : Finding → Finding → Bool
same = (EqImpl.ghosts).eq

abbrev kind_order : FindingKind → FindingKind → Ordering
kind_order = (KindOrdImpl.ghosts).cmp

-- kinds are in the order of their numbers
abbrev by_numbers : ℕ → ℕ → Ordering
by_numbers a b = int_cmp (pos a) (pos b)

-- the number of a kind, as the derived order reads it
abbrev place : FindingKind → ℤ
place k = slice_index_or (pos 1 ∷ pos 2 ∷ pos 3 ∷ pos 4 ∷ pos 5 ∷ pos 6 ∷ pos 7 ∷ pos 8 ∷ pos 9 ∷ pos 10 ∷ pos 11 ∷ pos 12 ∷ pos 13 ∷ pos 14 ∷ pos 15 ∷ []) (tag_of the_type k) (pos 0)

place_is : (k : FindingKind) → place k ≡ pos (number_of k)
place_is kinds.Aggregate = refl
place_is kinds.Iag = refl
place_is kinds.Inode = refl
place_is kinds.Xtree = refl
place_is kinds.Dtree = refl
place_is kinds.Shared = refl
place_is kinds.Outside = refl
place_is kinds.Name = refl
place_is kinds.Links = refl
place_is kinds.Parent = refl
place_is kinds.Nblocks = refl
place_is kinds.Past = refl
place_is kinds.Thin = refl
place_is kinds.Map = refl
place_is kinds.Bmap = refl

by_kind : (k l : FindingKind) → kind_order k l ≡ by_numbers (number_of k) (number_of l)
by_kind k l = ap₂ int_cmp (place_is k) (place_is l)

-- ---- what the order says

last_less : (w t : Bool) → cond w Less (cond t Equal Greater) ≡ Less → w ≡ true
last_less true t h = refl
last_less false true h = absurd (cc h)
last_less false false h = absurd (cc h)

next_less : (u v w t : Bool) → ordering_then (cond u Less (cond v Equal Greater)) (cond w Less (cond t Equal Greater)) ≡ Less → (u || (v && w)) ≡ true
next_less true v w t h = refl
next_less false true w t h = last_less w t h
next_less false false w t h = absurd (cc h)

first_less : (p q r u v w t : Bool) → (p ≡ false → q ≡ false → r ≡ true) → ordering_then (cond p Less (cond q Greater Equal)) (ordering_then (cond u Less (cond v Equal Greater)) (cond w Less (cond t Equal Greater))) ≡ Less
    → (p || (r && (u || (v && w)))) ≡ true
first_less true q r u v w t e h = refl
first_less false true r u v w t e h = absurd (cc h)
first_less false false true u v w t e h = next_less u v w t h
first_less false false false u v w t e h = absurd (cc (e refl refl))

neither : (a b : ℕ) → nat_lt a b ≡ false → nat_lt b a ≡ false → (a == b) ≡ true
neither a b p q = eq-eqb a b (let x = ltb-false a b p in let y = ltb-false b a q in omega arith)

pub before : (f g : Finding) → order f g ≡ Less → is_before f g ≡ true
before f g h =
    let a = number_of f.kind in
    let b = number_of g.kind in
    first_less (nat_lt a b) (nat_lt b a) (a == b) (nat_lt f.page g.page) (f.page == g.page) (nat_lt f.value g.value) (f.value == g.value) (neither a b)
    (subst (λ r. ordering_then r (ordering_then (nat_cmp f.page g.page) (nat_cmp f.value g.value)) ≡ Less) (by_kind f.kind g.kind) h)

-- ---- lists

told_apart : (f g : Finding) → same f g ≡ eq_by_cmp order f g
told_apart f g = cmp.ties PartialOrdLaws.laws-law OrdLaws.matches_partial_cmp-law f g

by_parts : (f g : Finding) → f.kind ≡ g.kind → f.page ≡ g.page → f.value ≡ g.value → f ≡ g
by_parts f g k a b = λ i. record { kind = k i; page = a i; value = b i }

same_kind : (k l : FindingKind) → sameb the_type k l ≡ true → k ≡ l
same_kind k l e = same_true the_type (search rules) k l e

same_one : (f g : Finding) → same f g ≡ true → f ≡ g
same_one f g e =
    let p = and_parts (sameb the_type f.kind g.kind) (f.page == g.page && f.value == g.value) e in
    let q = and_parts (f.page == g.page) (f.value == g.value) p.1 in
    by_parts f g (same_kind f.kind g.kind p.0) (eqb-true f.page g.page q.0) (eqb-true f.value g.value q.1)

rises : (fs : List Finding) → IsStrictlySortedBy order fs → Rise fs
unfolding IsStrictlySortedBy
rises [] h = tt
rises (f ∷ []) h = tt
rises (f ∷ g ∷ fs) h = (before f g h.0.0, rises (g ∷ fs) h.1)

module _ (old sorted new : List Finding) (moved : IsPermutation old sorted) (kept : IsFiltered (DiffersFromLast same) [] sorted new) where
  is_deduped : new ≡ dedup same sorted
  is_deduped = dedup_is same sorted new kept

  pub in_order : IsSorted order sorted → Rise new
  in_order h = subst Rise (sym is_deduped) (rises (dedup same sorted) (IsStrictlySortedBy-dedup OrdLaws.total-law told_apart sorted h))

  pub same_members : HasSame old new
  same_members = record {
    all = λ f h. subst (λ fs. Contains fs f) (sym is_deduped) (Contains-dedup EqLaws.laws-law same_one sorted f (Contains-permutation old sorted f moved h));
    only = λ f h. Contains-permutation sorted old f (IsPermutation-sym old sorted moved) (Contains-from_dedup same sorted f (subst (λ fs. Contains fs f) is_deduped h));
  }
