-- Each client's entries, of all its lines or of a front of them.
use Rattle.std.proofs.Common.{◌≡◌, ◌≤◌, ℕ, zero, suc, List, [], ◌∷◌, length, take, refl, sym, ap, ◌∙◌, subst, arith}
use Rattle.std.proofs.lemmas.List.{take_all}
use Rattle.std.specs.Global.{Vec}
use Rattle.std.specs.Prelude.{Bool}
use Rattle.jfs_bits.specs.declared.descriptor.Moment.{Moment}
use Rattle.jfs_plain.specs.declared.call.Entry.{Entry}
use Rattle.jfs_plain.specs.declared.call.Line.{Line}
use Rattle.jfs_server.specs.shared.specs.Entries.{Recorded}
use Rattle.jfs_server.specs.shared.specs.Shared.{entries_in}
use Rattle.jfs_run.specs.Calls.{AreEntriesOf, BeginWith, entries_of, EachClient, HaveEntries, HaveFronts}
use Rattle.jfs_run.specs.Serving.{EachMarked, AreFronts, AreCalled}
use Rattle.jfs_run.specs.Tasks.{plan_of}
use Rattle.jfs_run.specs.Telling.{marks_in, AreAsMany}
use Rattle.jfs_run.proofs.Marked.{entries}

-- what is so of all lines is so of a front of them
pub whole_begins : (plan : List (List Line)) (history : List Entry) → HaveEntries plan history → HaveFronts plan history
whole_begins plan history have = record { each = each 1 plan have.each; others = have.others }
  where
    each : (k : ℕ) (p : List (List Line)) → EachClient AreEntriesOf k p history → EachClient BeginWith k p history
    each k [] all = tt
    each k (lines ∷ more) all = ((length lines, omega arith, subst (λ (ls : List Line). AreEntriesOf k ls (entries_of k history)) (sym (take_all (length lines) lines (omega arith))) all.0), each (suc k) more all.1)

-- ---- where there are as many marks as lines

-- a front that is as long is the whole list
whole_front : {X : Type 0} (xs front : List X) (n : ℕ) → n ≤ length xs → front ≡ take n xs → length xs ≡ length front → front ≡ xs
whole_front xs front n within is same = is ∙ take_all n xs (omega (arith, same, ap length is, long n xs within))
  where
    long : {Y : Type 0} (k : ℕ) (ys : List Y) → k ≤ length ys → length (take k ys) ≡ k
    long zero [] most = refl
    long zero (y ∷ ys) most = refl
    long (suc k) [] most = absurd (omega (arith, most))
    long (suc k) (y ∷ ys) most = ap suc (long k ys (omega (arith, most)))

module _ (now : Moment) (failed : Bool) (durable : ℕ) where
  each_whole : (k n : ℕ) (fronts : List (List Line)) (scripts : List (Vec Line)) (marks : List (Vec Bool)) (list : List Recorded) → AreFronts fronts (plan_of scripts) → EachMarked now failed durable k n fronts (marks_in marks) list → AreAsMany scripts marks
      → EachClient AreEntriesOf k (plan_of scripts) (entries_in list)
  each_whole k n [] [] marks list are all many = tt
  each_whole k n [] (s ∷ ss) marks list are all many = absurd are
  each_whole k n (f ∷ fs) [] marks list are all many = absurd are
  each_whole k n (f ∷ fs) (s ∷ ss) [] list are all many = absurd all
  each_whole k n (f ∷ fs) (s ∷ ss) (m ∷ ms) list are all many =
      let e = entries now failed durable k n f m.items list all.0 in
      let same : length s.items ≡ length f = let a = e.1 in let b = many.0 in omega (arith, a, b) in (
        subst (λ (ls : List Line). AreEntriesOf k ls (entries_of k (entries_in list))) (whole_front s.items f are.0.0 are.0.1 are.0.2 same) e.0,
        each_whole (suc k) n fs ss ms list are.1 all.1 many.1,
      )

  pub whole : (scripts : List (Vec Line)) (marks : List (Vec Bool)) (list : List Recorded) → AreCalled now failed durable (plan_of scripts) (marks_in marks) list → AreAsMany scripts marks → HaveEntries (plan_of scripts) (entries_in list)
  whole scripts marks list c many = record { each = each_whole 1 1 c.fronts scripts marks list c.are_fronts c.each many; others = c.others }

  -- there are marks for each client
  as_many_marks : (k n : ℕ) (fronts plan : List (List Line)) (marks : List (List Bool)) (list : List Recorded) → AreFronts fronts plan → EachMarked now failed durable k n fronts marks list → length marks ≡ length plan
  as_many_marks k n [] [] [] list are all = refl
  as_many_marks k n [] [] (m ∷ ms) list are all = absurd all
  as_many_marks k n [] (ls ∷ plan) marks list are all = absurd are
  as_many_marks k n (f ∷ fs) [] marks list are all = absurd are
  as_many_marks k n (f ∷ fs) (ls ∷ plan) [] list are all = absurd all
  as_many_marks k n (f ∷ fs) (ls ∷ plan) (m ∷ ms) list are all = ap suc (as_many_marks (suc k) n fs plan ms list are.1 all.1)

  pub many_marks : (plan : List (List Line)) (marks : List (List Bool)) (list : List Recorded) → AreCalled now failed durable plan marks list → length marks ≡ length plan
  many_marks plan marks list c = as_many_marks 1 1 c.fronts plan marks list c.are_fronts c.each
