-- How lines that are done one after the other make a run.
use Rattle.std.proofs.Common.{◌≡◌, ◌≤◌, ◌<◌, ◌+◌, ℕ, suc, zero, Bool, true, false, List, [], ◌∷◌, length, take, drop, ◌++◌, ap, ◌∙◌, sym, refl, subst, arith, get_or}
use Rattle.std.proofs.lemmas.List.{append-nil}
use Rattle.std.specs.Bool.{MatchBool}
use Rattle.jfs_plain.specs.declared.call.Ack.{Ack}
use Rattle.jfs_plain.specs.declared.call.Line.{Line}
use Rattle.jfs_plain.specs.declared.call.Request.{Request}
use Rattle.jfs_plain.specs.declared.reply.Reply.{Reply}
use Rattle.jfs_plain.specs.Limits.{FitsRequest}
use Rattle.std.specs.Global.{Vec}
use Rattle.std.specs.Prelude.{Some, slice_index_or, unwrap_or}
use Rattle.jfs_clients.specs.Ran.{wants_memory, MayRun, Ran, AllMayRun, EachRan, MayRunAt, RanAt}

-- the lines that are left after so many
pub left_over : (lines : List Line) (i : ℕ) (line : Line) → i < length lines → line ≡ get_or lines i line → drop i lines ≡ line ∷ drop (i + 1) lines
left_over [] i line small is = absurd (omega arith)
left_over (l ∷ ls) zero line small is = ap (λ x. x ∷ ls) (sym is)
left_over (l ∷ ls) (suc i) line small is = let e : suc (i + 1) ≡ suc i + 1 = omega arith in left_over ls i line (omega arith) is ∙ ap (λ k. line ∷ drop k (l ∷ ls)) e

drop_all : {X : Type 0} (xs : List X) (i : ℕ) → length xs ≤ i → drop i xs ≡ []
drop_all [] zero past = refl
drop_all [] (suc i) past = refl
drop_all (x ∷ xs) zero past = absurd (omega arith)
drop_all (x ∷ xs) (suc i) past = drop_all xs i (omega arith)

take_whole : {X : Type 0} (xs : List X) (i : ℕ) → length xs ≤ i → take i xs ≡ xs
take_whole [] zero past = refl
take_whole [] (suc i) past = refl
take_whole (x ∷ xs) zero past = absurd (omega arith)
take_whole (x ∷ xs) (suc i) past = ap (λ ys. x ∷ ys) (take_whole xs i (omega arith))

-- What stays true: the lines that are left may be run, and a run of them is the rest of the whole run.
pub record Goes {C : Type 0} (left : C → ℕ) (did : C → ℕ → Request → Reply → Ack → C → Type 0) (lines : List Line) (i : ℕ) (first now : C) : Type 0 where
  pub may : MayRun left (drop i lines) now
  pub rest : (d : C) → Ran did (drop i lines) now d → Ran did lines first d

module _ {C : Type 0} (left : C → ℕ) (did : C → ℕ → Request → Reply → Ack → C → Type 0) where
  pub begins : (lines : List Line) (c : C) → MayRun left lines c → Goes left did lines 0 c c
  begins lines c may = record { may = may; rest = λ d ran. ran }

  -- the line at the place may be asked for
  pub asks : (lines : List Line) (i : ℕ) (line : Line) (first now : C) → i < length lines → line ≡ get_or lines i line → Goes left did lines i first now → (0 < left now) × FitsRequest line.request
  asks lines i line first now small is goes =
      let may = subst (λ ls. MayRun left ls now) (left_over lines i line small is) goes.may in
      (omega (arith, may.1), may.0.0)

  goes_by : (want : Bool) (ls : List Line) (m d : C) → want ≡ false → Ran did ls m d → MatchBool want (d ≡ m) (Ran did ls m d)
  goes_by true ls m d is ran = absurd cc
  goes_by false ls m d is ran = ran

  stops_by : (want : Bool) (ls : List Line) (m : C) → want ≡ true → MatchBool want (m ≡ m) (Ran did ls m m)
  stops_by true ls m is = refl
  stops_by false ls m is = absurd cc

  pub goes_on : (lines : List Line) (i : ℕ) (line : Line) (first now after : C) (reply : Reply) (ack : Ack) → i < length lines → line ≡ get_or lines i line → Goes left did lines i first now
      → left now ≤ left after + 1 → did now line.number line.request reply ack after → wants_memory reply ≡ false → Goes left did lines (i + 1) first after
  goes_on lines i line first now after reply ack small is goes fewer done other =
      let e = left_over lines i line small is in
      let may = subst (λ ls. MayRun left ls now) e goes.may in
      record {
        may = (may.0.1, omega (arith, may.1, fewer));
        rest = λ d ran. goes.rest d (subst (λ ls. Ran did ls now d) (sym e) (reply, ack, after, done, goes_by (wants_memory reply) (drop (i + 1) lines) after d other ran));
      }

  pub stops : (lines : List Line) (i : ℕ) (line : Line) (first now after : C) (reply : Reply) (ack : Ack) → i < length lines → line ≡ get_or lines i line → Goes left did lines i first now
      → did now line.number line.request reply ack after → wants_memory reply ≡ true → Ran did lines first after
  stops lines i line first now after reply ack small is goes done wants =
      goes.rest after (subst (λ ls. Ran did ls now after) (sym (left_over lines i line small is)) (reply, ack, after, done, stops_by (wants_memory reply) (drop (i + 1) lines) after wants))

  pub ends : (lines : List Line) (i : ℕ) (first now : C) → length lines ≤ i → Goes left did lines i first now → Ran did lines first now
  ends lines i first now past goes = goes.rest now (subst (λ ls. Ran did ls now now) (sym (drop_all lines i past)) refl)

-- ---- of all callers

some_of : {X : Type 0} {x y : X} → Some x ≡ Some y → x ≡ y
some_of {X} {x} e = ap (λ o. unwrap_or o x) e

pub may_at : {C : Type 0} (left : C → ℕ) (scripts : List (Vec Line)) (callers : List C) (i : ℕ) (c : C) → AllMayRun left scripts callers → i < length callers → c ≡ slice_index_or callers i c → MayRunAt left scripts i c
may_at left [] [] i c may small is = absurd (omega arith)
may_at left [] (b ∷ bs) i c may small is = absurd may
may_at left (s ∷ ss) [] i c may small is = absurd may
may_at left (s ∷ ss) (b ∷ bs) zero c may small is = (omega arith, λ t e. subst (λ (v : Vec Line). MayRun left v.items c) (some_of e) (subst (MayRun left s.items) (sym is) may.0))
may_at left (s ∷ ss) (b ∷ bs) (suc i) c may small is = let h = may_at left ss bs i c may.1 (omega arith) is in (omega (arith, h.0), h.1)

pub each_ran : {C : Type 0} (left : C → ℕ) (did : C → ℕ → Request → Reply → Ack → C → Type 0) (scripts : List (Vec Line)) (before after : List C) → AllMayRun left scripts before → length after ≡ length before
    → ((i : ℕ) (c : C) → i < length before → RanAt did scripts i (slice_index_or before i c) (slice_index_or after i c)) → EachRan did scripts before after
each_ran left did [] [] [] may same ran = tt
each_ran left did [] [] (d ∷ ds) may same ran = absurd (omega (arith, same))
each_ran left did [] (c ∷ cs) ds may same ran = absurd may
each_ran left did (s ∷ ss) [] ds may same ran = absurd may
each_ran left did (s ∷ ss) (c ∷ cs) [] may same ran = absurd (omega (arith, same))
each_ran left did (s ∷ ss) (c ∷ cs) (d ∷ ds) may same ran = (ran 0 c (omega arith) s refl, each_ran left did ss cs ds may.1 (omega (arith, same)) (λ i b small. ran (suc i) b (omega arith)))

-- a list that was written over a whole list of its length
pub whole_list : {X : Type 0} (new old : List X) (len : ℕ) → length new ≡ length old → len ≡ length old → take len (new ++ drop (length new) old) ≡ new
whole_list new old len same is =
    ap (λ rest. take len (new ++ rest)) (drop_all old (length new) (omega (arith, same)))
    ∙ ap (λ xs. take len xs) (append-nil new)
    ∙ take_whole new len (omega (arith, same, is))
