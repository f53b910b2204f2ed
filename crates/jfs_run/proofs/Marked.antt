-- The entries of a list, each client's with its marks: what is so of each client's is so of all.
use Rattle.std.proofs.Common.{◌≡◌, ◌≤◌, ◌<◌, ◌+◌, ◌⊎◌, ℕ, suc, Bool, true, false, List, [], ◌∷◌, ◌++◌, length, refl, sym, ap, ap₂, ◌∙◌, subst, inl, inr, arith}
use Rattle.std.specs.Prelude.{◌==◌, if◌then◌else◌}
use Rattle.std.specs.Bool.{MatchBool}
use Rattle.std.proofs.lemmas.Bool.{cases_eq, eq-eqb, ne_eqb}
use Rattle.jfs_bits.specs.declared.descriptor.Moment.{Moment}
use Rattle.jfs_plain.specs.declared.call.Line.{Line}
use Rattle.jfs_server.specs.shared.specs.Entries.{Recorded}
use Rattle.jfs_server.specs.shared.specs.Shared.{entries_in, timed, timed_in}
use Rattle.jfs_server.specs.shared.specs.legal.specs.served.specs.Legal.{Timed}
use Rattle.jfs_server.specs.turns.specs.Lists.{Lacks}
use Rattle.jfs_run.specs.Calls.{AreEntriesOf, BeginWith, entries_of, EachClient, AreOfClients, HaveFronts, AreTakenAs}
use Rattle.jfs_run.specs.Legal.{all_at}
use Rattle.jfs_run.specs.Telling.{first_of, rest_of, mark_of, left_by, marks_of}
use Rattle.jfs_run.specs.Serving.{IsMarked, AreMarked, EachMarked, AreFronts, AreCalled}
use Rattle.jfs_run.proofs.Told.{AreReached}

abbrev pub client_of : Recorded → ℕ
client_of e = e.entry.client

module _ (now : Moment) (failed : Bool) (durable : ℕ) where
  -- ---- one client's

  -- an entry of its own, and one of another's
  abbrev Own : ℕ → ℕ → List Line → List Bool → Recorded → List Recorded → Type 0
  Own client n lines marks e es = (l : Line) × (ls : List Line) × (m : Bool) × (ms : List Bool) × (lines ≡ l ∷ ls) × (marks ≡ m ∷ ms) × IsMarked now failed durable client n l m e × AreMarked now failed durable client (suc n) ls ms es

  abbrev Other : ℕ → ℕ → List Line → List Bool → List Recorded → Type 0
  Other client n lines marks es = AreMarked now failed durable client (suc n) lines marks es

  pub own : (client n : ℕ) (lines : List Line) (marks : List Bool) (e : Recorded) (es : List Recorded) → e.entry.client ≡ client → Own client n lines marks e es → AreMarked now failed durable client n lines marks (e ∷ es)
  own client n lines marks e es is has = subst (λ (b : Bool). MatchBool b (Own client n lines marks e es) (Other client n lines marks es)) (sym (eq-eqb e.entry.client client is)) has

  pub other : (client n : ℕ) (lines : List Line) (marks : List Bool) (e : Recorded) (es : List Recorded) → (e.entry.client ≡ client → ⊥) → Other client n lines marks es → AreMarked now failed durable client n lines marks (e ∷ es)
  other client n lines marks e es is_not has = subst (λ (b : Bool). MatchBool b (Own client n lines marks e es) (Other client n lines marks es)) (sym (ne_eqb e.entry.client client is_not)) has

  pub own_of : (client n : ℕ) (lines : List Line) (marks : List Bool) (e : Recorded) (es : List Recorded) → e.entry.client ≡ client → AreMarked now failed durable client n lines marks (e ∷ es) → Own client n lines marks e es
  own_of client n lines marks e es is has = subst (λ (b : Bool). MatchBool b (Own client n lines marks e es) (Other client n lines marks es)) (eq-eqb e.entry.client client is) has

  pub other_of : (client n : ℕ) (lines : List Line) (marks : List Bool) (e : Recorded) (es : List Recorded) → (e.entry.client ≡ client → ⊥) → AreMarked now failed durable client n lines marks (e ∷ es) → Other client n lines marks es
  other_of client n lines marks e es is_not has = subst (λ (b : Bool). MatchBool b (Own client n lines marks e es) (Other client n lines marks es)) (ne_eqb e.entry.client client is_not) has

  -- behind entries of others
  pub over : (client n : ℕ) (lines : List Line) (marks : List Bool) (xs ys : List Recorded) → Lacks client_of client xs → AreMarked now failed durable client (n + length xs) lines marks ys → AreMarked now failed durable client n lines marks (xs ++ ys)
  over client n lines marks [] ys lacks has = subst (λ (k : ℕ). AreMarked now failed durable client k lines marks ys) (omega arith) has
  over client n lines marks (x ∷ xs) ys lacks has =
      other client n lines marks x (xs ++ ys) lacks.0 (over client (suc n) lines marks xs ys lacks.1 (subst (λ (k : ℕ). AreMarked now failed durable client k lines marks ys) (omega arith) has))

  -- entries of others alone
  pub none : (client n : ℕ) (xs : List Recorded) → Lacks client_of client xs → AreMarked now failed durable client n [] [] xs
  none client n [] lacks = (refl, refl)
  none client n (x ∷ xs) lacks = other client n [] [] x xs lacks.0 (none client (suc n) xs lacks.1)

  -- the client's entries are those of the lines
  entries_by : (client : ℕ) (lines : List Line) (marks : List Bool) (n : ℕ) (e : Recorded) (es : List Recorded) → (e.entry.client ≡ client) ⊎ (e.entry.client ≡ client → ⊥) → AreMarked now failed durable client n lines marks (e ∷ es)
      → ((ls : List Line) (ms : List Bool) → AreMarked now failed durable client (suc n) ls ms es → AreEntriesOf client ls (entries_of client (entries_in es)) × (length ls ≡ length ms))
      → AreEntriesOf client lines (entries_of client (entries_in (e ∷ es))) × (length lines ≡ length marks)
  entries_by client lines marks n e es (inl is) has rest =
      let (l, ls, m, ms, lines_are, marks_are, marked, more) = own_of client n lines marks e es is has in
      let r = rest ls ms more in (
        subst {A = List Line × Bool} (λ z. AreEntriesOf client z.0 (if z.1 then e.entry ∷ entries_of client (entries_in es) else entries_of client (entries_in es))) (λ i. (sym lines_are i, sym (eq-eqb e.entry.client client is) i)) (marked.entry, r.0),
        ap length lines_are ∙ ap suc r.1 ∙ sym (ap length marks_are),
      )
  entries_by client lines marks n e es (inr is_not) has rest =
      let r = rest lines marks (other_of client n lines marks e es is_not has) in (
        subst (λ (b : Bool). AreEntriesOf client lines (if b then e.entry ∷ entries_of client (entries_in es) else entries_of client (entries_in es))) (sym (ne_eqb e.entry.client client is_not)) r.0,
        r.1,
      )

  pub entries : (client n : ℕ) (lines : List Line) (marks : List Bool) (list : List Recorded) → AreMarked now failed durable client n lines marks list → AreEntriesOf client lines (entries_of client (entries_in list)) × (length lines ≡ length marks)
  entries client n lines marks [] has = (subst (λ (ls : List Line). AreEntriesOf client ls []) (sym has.0) tt, ap length has.0 ∙ sym (ap length has.1))
  entries client n lines marks (e ∷ es) has = entries_by client lines marks n e es (cases_eq e.entry.client client) has (λ ls ms more. entries client (suc n) ls ms es more)

  -- ---- all clients'

  -- an entry of an earlier client is none of theirs
  passed : (k n : ℕ) (plan : List (List Line)) (left : List (List Bool)) (e : Recorded) (es : List Recorded) → e.entry.client < k → EachMarked now failed durable k n plan left (e ∷ es) → EachMarked now failed durable k (suc n) plan left es
  passed k n [] [] e es before all = tt
  passed k n [] (ms ∷ more) e es before all = absurd all
  passed k n (ls ∷ plan) [] e es before all = absurd all
  passed k n (ls ∷ plan) (ms ∷ more) e es before all =
      (other_of k n ls ms e es (λ is. omega (arith, before, is)) all.0, passed (suc k) n plan more e es (omega (arith, before)) all.1)

  -- the next entry is a client's, with its next mark; and so are those behind it, without that
  pub record Goes (k n : ℕ) (left : List (List Bool)) (e : Recorded) (es : List Recorded) : Type 0 where
    pub line : Line
    pub is : IsMarked now failed durable e.entry.client n line (mark_of k e.entry.client left) e
    pub plan : List (List Line)
    pub rest : EachMarked now failed durable k (suc n) plan (left_by k e.entry.client left) es

  goes_by : (k n : ℕ) (ls : List Line) (plan : List (List Line)) (ms : List Bool) (more : List (List Bool)) (e : Recorded) (es : List Recorded) → (e.entry.client ≡ k) ⊎ (e.entry.client ≡ k → ⊥)
      → EachMarked now failed durable k n (ls ∷ plan) (ms ∷ more) (e ∷ es) → ((e.entry.client ≡ k → ⊥) → Goes (suc k) n more e es) → Goes k n (ms ∷ more) e es
  goes_by k n ls plan ms more e es (inl is) all later =
      let (l, lines, m, marks, lines_are, marks_are, marked, has) = own_of k n ls ms e es is all.0 in
      let tested = eq-eqb e.entry.client k is in
      record {
        line = l;
        is = subst {A = ℕ × Bool} (λ z. IsMarked now failed durable z.0 n l z.1 e) (λ i. (sym is i, sym (ap (λ (b : Bool). if b then first_of ms else mark_of (suc k) e.entry.client more) tested ∙ ap first_of marks_are) i)) marked;
        plan = lines ∷ plan;
        rest = subst (λ (left : List (List Bool)). EachMarked now failed durable k (suc n) (lines ∷ plan) left es)
            (sym (ap (λ (b : Bool). if b then rest_of ms ∷ more else ms ∷ left_by (suc k) e.entry.client more) tested ∙ ap (λ (xs : List Bool). rest_of xs ∷ more) marks_are))
            (has, passed (suc k) n plan more e es (omega (arith, is)) all.1);
      }
  goes_by k n ls plan ms more e es (inr is_not) all later =
      let g = later is_not in
      let tested = ne_eqb e.entry.client k is_not in
      record {
        line = g.line;
        is = subst (λ (b : Bool). IsMarked now failed durable e.entry.client n g.line b e) (sym (ap (λ (b : Bool). if b then first_of ms else mark_of (suc k) e.entry.client more) tested)) g.is;
        plan = ls ∷ g.plan;
        rest = subst (λ (left : List (List Bool)). EachMarked now failed durable k (suc n) (ls ∷ g.plan) left es)
            (sym (ap (λ (b : Bool). if b then rest_of ms ∷ more else ms ∷ left_by (suc k) e.entry.client more) tested))
            (other_of k n ls ms e es is_not all.0, g.rest);
      }

  pub goes : (k n : ℕ) (plan : List (List Line)) (left : List (List Bool)) (e : Recorded) (es : List Recorded) → k ≤ e.entry.client → e.entry.client < k + length left → EachMarked now failed durable k n plan left (e ∷ es) → Goes k n left e es
  goes k n [] [] e es least most all = absurd (omega (arith, least, most))
  goes k n [] (ms ∷ more) e es least most all = absurd all
  goes k n (ls ∷ plan) [] e es least most all = absurd all
  goes k n (ls ∷ plan) (ms ∷ more) e es least most all =
      goes_by k n ls plan ms more e es (cases_eq e.entry.client k) all (λ is_not. goes (suc k) n plan more e es (omega (arith, least, is_not)) (omega (arith, most)) all.1)

  -- ---- the whole list

  -- every entry is taken as its mark says, was handed at this moment, and is durable where it is marked and none failed
  pub record AreAll (n : ℕ) (left : List (List Bool)) (list : List Recorded) : Type 0 where
    pub taken : AreTakenAs (entries_in list) (marks_of left (entries_in list))
    pub reached : failed ≡ false → AreReached n durable (marks_of left (entries_in list))
    pub moments : timed_in list ≡ all_at now (entries_in list)

  as_long : (k client : ℕ) (left : List (List Bool)) → length (left_by k client left) ≡ length left
  as_long k client [] = refl
  as_long k client (ms ∷ more) = by (as_long (suc k) client more) (client == k)
    where
      by : length (left_by (suc k) client more) ≡ length more → (b : Bool) → length (if b then rest_of ms ∷ more else ms ∷ left_by (suc k) client more) ≡ suc (length more)
      by rest true = refl
      by rest false = ap suc rest

  at_now : (e : Recorded) → e.now ≡ now → timed e ≡ record { entry = e.entry; now = now }
  at_now e is = ap (λ (m : Moment). record { entry = e.entry; now = m }) is

  pub are_all : (n clients : ℕ) (plan : List (List Line)) (left : List (List Bool)) (list : List Recorded) → clients ≤ length left → AreOfClients clients (entries_in list) → EachMarked now failed durable 1 n plan left list → AreAll n left list
  are_all n clients plan left [] many of all = record { taken = tt; reached = λ none_failed. tt; moments = refl }
  are_all n clients plan left (e ∷ es) many of all =
      let g = goes 1 n plan left e es of.0.0 (let most = of.0.1 in omega (arith, most, many)) all in
      let rest = are_all (suc n) clients g.plan (left_by 1 e.entry.client left) es (omega (arith, many, as_long 1 e.entry.client left)) of.1 g.rest in
      record {
        taken = (g.is.taken, rest.taken);
        reached = λ none_failed. (λ marked. g.is.reached marked none_failed, rest.reached none_failed);
        moments = ap₂ (λ (t : Timed) (ts : List Timed). t ∷ ts) (at_now e g.is.moment) rest.moments;
      }

  -- ---- each client has the entries of a front of its lines

  pub each_begins : (k n : ℕ) (fronts plan : List (List Line)) (marks : List (List Bool)) (list : List Recorded) → AreFronts fronts plan → EachMarked now failed durable k n fronts marks list → EachClient BeginWith k plan (entries_in list)
  each_begins k n [] [] marks list are all = tt
  each_begins k n [] (ls ∷ plan) marks list are all = absurd are
  each_begins k n (f ∷ fronts) [] marks list are all = absurd are
  each_begins k n (f ∷ fronts) (ls ∷ plan) [] list are all = absurd all
  each_begins k n (f ∷ fronts) (ls ∷ plan) (ms ∷ marks) list are all = (
    (are.0.0, are.0.1, subst (λ (xs : List Line). AreEntriesOf k xs (entries_of k (entries_in list))) are.0.2 (entries k n f ms list all.0).0),
    each_begins (suc k) n fronts plan marks list are.1 all.1,
  )

  pub fronts : (plan : List (List Line)) (marks : List (List Bool)) (list : List Recorded) → AreCalled now failed durable plan marks list → HaveFronts plan (entries_in list)
  fronts plan marks list c = record { each = each_begins 1 1 c.fronts plan marks list c.are_fronts c.each; others = c.others }
