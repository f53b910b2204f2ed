-- The passes of a server, before a run and behind it.
use Rattle.std.proofs.Common.{◌≡◌, ◌≤◌, ◌<◌, ◌+◌, ℕ, zero, suc, Bool, false, List, [], ◌∷◌, ◌++◌, length, take, refl, sym, ap, ◌∙◌, subst, arith}
use Rattle.std.specs.Prelude.{Some}
use Rattle.std.specs.Global.{Vec}
use mathlib.Core.Option.{some, some-injective, some-ne-none}
use lib.ListN.{get_elem?}
use Rattle.atomic_table.specs.Seated.{TableId}
use Rattle.jfs_bits.specs.declared.descriptor.Moment.{Moment}
use Rattle.jfs_disk.specs.declared.disk.Disk.{Ghosts}
use Rattle.jfs_plain.specs.declared.call.Line.{Line}
use Rattle.jfs_server.specs.Called.{KeepsPass}
use Rattle.jfs_server.specs.Start.{IsStarted}
use Rattle.jfs_server.specs.Stopped.{GoesOn}
use Rattle.jfs_server.specs.shared.specs.Entries.{Recorded}
use Rattle.jfs_server.specs.turns.specs.Lists.{Base}
use Rattle.jfs_server.specs.turns.specs.Passes.{ArePasses}
use Rattle.jfs_run.specs.Clients.{ServerPass, AreReady, Came, EachCame}
use Rattle.jfs_run.specs.Serving.{AreMarked, EachMarked, AreFronts, HaveRoom}
use Rattle.jfs_run.specs.Tasks.{plan_of, lines_in, PlanFits}
use Rattle.jfs_run.specs.Telling.{marks_in, marks_left}
use Rattle.jfs_run.proofs.Came as came
use Rattle.jfs_run.proofs.Came.{some_of, kept, most_marks, goes}

-- ---- lists, by the places of their elements

abbrev pub EachFrom : {X : Type 0} → (ℕ → X → Type 0) → ℕ → List X → Type 0
EachFrom P k [] = Unit {0}
EachFrom P k (x ∷ xs) = P k x × EachFrom P (suc k) xs

-- so from the function that answers a place
pub from_places : {X : Type 0} (P : ℕ → X → Type 0) (k : ℕ) (xs : List X) → ((i : ℕ) (x : X) → get_elem? xs i ≡ some x → P (i + k) x) → EachFrom P k xs
from_places P k [] at = tt
from_places P k (x ∷ xs) at = (
  subst (λ (n : ℕ). P n x) (let e : 0 + k ≡ k = omega arith in e) (at 0 x refl),
  from_places P (suc k) xs (λ i y is. subst (λ (n : ℕ). P n y) (let e : suc i + k ≡ i + suc k = omega arith in e) (at (suc i) y is)),
)

-- and back
pub at_place : {X : Type 0} (P : ℕ → X → Type 0) (k : ℕ) (xs : List X) → EachFrom P k xs → (i : ℕ) (x : X) → get_elem? xs i ≡ some x → P (i + k) x
at_place P k [] each i x is = absurd (some-ne-none x (sym is))
at_place P k (y ∷ ys) each zero x is = subst (λ (n : ℕ). P n x) (let e : k ≡ 0 + k = omega arith in e) (subst (λ z. P k z) (some-injective y x is) each.0)
at_place P k (y ∷ ys) each (suc i) x is = subst (λ (n : ℕ). P n x) (let e : i + suc k ≡ suc i + k = omega arith in e) (at_place P (suc k) ys each.1 i x is)

-- the last place
pub last_place : {X : Type 0} (xs : List X) → 0 < length xs → (i : ℕ) × (x : X) × (get_elem? xs i ≡ some x) × (suc i ≡ length xs)
last_place [] more = absurd (omega (arith, more))
last_place (x ∷ []) more = (0, x, refl, refl)
last_place (x ∷ (y ∷ ys)) more = let l = last_place (y ∷ ys) (omega arith) in (suc l.0, l.1, l.2, ap suc l.3)

module _ {D : Type 0} (d : Ghosts D) where
  -- a pass of this table, of so many, that hasn't come back
  abbrev pub IsSeat : TableId → ℕ → ℕ → ServerPass d → Type 0
  IsSeat table total k p = (p.seat.table_id ≡ table) × (p.client ≡ k) × (p.seat.me.0.dealt ≡ total) × (p.seat.me.0.back ≡ 0) × (p.seat.me.0.returned ≡ [])

  -- and one that knows no entry
  abbrev pub IsFresh : TableId → ℕ → Base → ℕ → ServerPass d → Type 0
  IsFresh table total base k p = IsSeat table total k p × ((p.calls_left ≡ 65536) × (p.seat.me.0.base ≡ base) × (p.seat.me.0.list ≡ []) × (p.seat.me.0.points ≡ []))

  pub fresh : (table : TableId) (base : Base) (clients : ℕ) (ps : List (ServerPass d)) → IsStarted d base clients table ps → EachFrom (IsFresh table clients base) 1 ps
  fresh table base clients ps started = from_places (IsFresh table clients base) 1 ps (λ i p at. (started.are i p at, started.fresh i p at))

  -- ---- there is what the scripts need

  few_of : (lines : List Line) (more : List (List Line)) (most : ℕ) → length lines + lines_in more ≤ most → (length lines ≤ most) × (lines_in more ≤ most)
  few_of lines more most few = (omega (arith, few), omega (arith, few))

  pub ready : (table : TableId) (base : Base) (total k : ℕ) (scripts : List (Vec Line)) (ps : List (ServerPass d)) (ws : List (Vec Bool)) → EachFrom (IsFresh table total base) k ps → length ps ≡ length scripts → PlanFits (plan_of scripts) → lines_in (plan_of scripts) ≤ 65536 → HaveRoom scripts ws
      → AreReady d table scripts ps ws
  ready table base total k [] [] [] each same fits few room = tt
  ready table base total k [] (p ∷ ps) ws each same fits few room = absurd (omega (arith, same))
  ready table base total k [] [] (w ∷ ws) each same fits few room = absurd room
  ready table base total k (s ∷ ss) [] ws each same fits few room = absurd (omega (arith, same))
  ready table base total k (s ∷ ss) (p ∷ ps) [] each same fits few room = absurd room
  ready table base total k (s ∷ ss) (p ∷ ps) (w ∷ ws) each same fits few room =
      let f = few_of s.items (plan_of ss) 65536 few in (
        record {
          table_is = each.0.0.0;
          fits = fits.0;
          calls = let left = each.0.1.0 in let small = f.0 in omega (arith, left, small);
          none = room.0;
          room = room.1;
        },
        ready table base total (suc k) ss ps ws each.1 (omega (arith, same)) fits.1 f.1 room.2,
      )

  -- ---- they come back

  abbrev pub EachKept : List (ServerPass d) → List (ServerPass d) → Type 0
  EachKept [] [] = Unit {0}
  EachKept (p ∷ ps) (q ∷ qs) = KeepsPass d p q × EachKept ps qs
  EachKept _ _ = ⊥

  one_kept : (now : Moment) (failed : Bool) (lines : List Line) (p q : ServerPass d) (marks : List Bool) → Came d now failed lines p q marks → KeepsPass d p q
  one_kept now failed lines p q marks c =
      let k = kept d lines (record { pass = Some p; now = now; waits = []; failed = false }) (record { pass = Some q; now = now; waits = marks; failed = c.its }) p refl c.ran in
      subst (λ (r : ServerPass d). KeepsPass d p r) (sym (some_of k.has)) k.keeps

  pub each_kept : (now : Moment) (failed : Bool) (scripts : List (Vec Line)) (ps qs : List (ServerPass d)) (marks : List (Vec Bool)) → EachCame d now failed scripts ps qs marks → EachKept ps qs
  each_kept now failed [] [] [] [] all = tt
  each_kept now failed (s ∷ ss) (p ∷ ps) (q ∷ qs) (m ∷ ms) all = (one_kept now failed s.items p q m.items all.0, each_kept now failed ss ps qs ms all.1)
  each_kept now failed [] [] [] (m ∷ ms) all = absurd all
  each_kept now failed [] [] (q ∷ qs) ms all = absurd all
  each_kept now failed [] (p ∷ ps) qs ms all = absurd all
  each_kept now failed (s ∷ ss) [] qs ms all = absurd all
  each_kept now failed (s ∷ ss) (p ∷ ps) [] ms all = absurd all
  each_kept now failed (s ∷ ss) (p ∷ ps) (q ∷ qs) [] all = absurd all

  one_seat : (table : TableId) (total : ℕ) (base : Base) (k : ℕ) (p q : ServerPass d) → KeepsPass d p q → IsFresh table total base k p → IsSeat table total k q × (q.seat.me.0.base ≡ base)
  one_seat table total base k p q kept is = (
    (
      kept.table ∙ is.0.0,
      kept.client ∙ is.0.1,
      kept.keeps.passes.0 ∙ is.0.2,
      kept.keeps.passes.1 ∙ is.0.3,
      kept.keeps.passes.2 ∙ is.0.4,
    ),
    kept.keeps.base ∙ is.1.1,
  )

  pub seats : (table : TableId) (total : ℕ) (base : Base) (k : ℕ) (ps qs : List (ServerPass d)) → EachKept ps qs → EachFrom (IsFresh table total base) k ps → EachFrom (λ j q. IsSeat table total j q × (q.seat.me.0.base ≡ base)) k qs × (length qs ≡ length ps)
  seats table total base k [] [] kept each = (tt, refl)
  seats table total base k [] (q ∷ qs) kept each = absurd kept
  seats table total base k (p ∷ ps) [] kept each = absurd kept
  seats table total base k (p ∷ ps) (q ∷ qs) kept each =
      let more = seats table total base (suc k) ps qs kept.1 each.1 in ((one_seat table total base k p q kept.0 each.0, more.0), ap suc more.1)

  -- so the server may be stopped
  pub may_stop : (table : TableId) (total : ℕ) (base : Base) (qs : List (ServerPass d)) → EachFrom (λ j q. IsSeat table total j q × (q.seat.me.0.base ≡ base)) 1 qs → length qs ≡ total → ArePasses table (length qs) qs
  may_stop table total base qs each many = subst (λ (n : ℕ). ArePasses table n qs) (sym many) (λ i q at. (at_place (λ j q. IsSeat table total j q × (q.seat.me.0.base ≡ base)) 1 qs each i q at).0)

  -- ---- marks

  pub few_came : (now : Moment) (failed : Bool) (scripts : List (Vec Line)) (ps qs : List (ServerPass d)) (marks : List (Vec Bool)) → EachCame d now failed scripts ps qs marks → (length marks ≡ length scripts) × (marks_left (marks_in marks) ≤ lines_in (plan_of scripts))
  few_came now failed [] [] [] [] all = (refl, omega arith)
  few_came now failed (s ∷ ss) (p ∷ ps) (q ∷ qs) (m ∷ ms) all =
      let c = all.0 in
      let one = most_marks d s.items (record { pass = Some p; now = now; waits = []; failed = false }) (record { pass = Some q; now = now; waits = m.items; failed = c.its }) c.ran in
      let more = few_came now failed ss ps qs ms all.1 in
      (ap suc more.0, let rest = more.1 in omega (arith, one, rest))
  few_came now failed [] [] [] (m ∷ ms) all = absurd all
  few_came now failed [] [] (q ∷ qs) ms all = absurd all
  few_came now failed [] (p ∷ ps) qs ms all = absurd all
  few_came now failed (s ∷ ss) [] qs ms all = absurd all
  few_came now failed (s ∷ ss) (p ∷ ps) [] ms all = absurd all
  few_came now failed (s ∷ ss) (p ∷ ps) (q ∷ qs) [] all = absurd all

  -- ---- the list of all entries has those of a front of each client's lines

  module _ (now : Moment) (failed : Bool) (durable : ℕ) (list : List Recorded) where
    front_by : (client : ℕ) (lines : List Line) (p q : ServerPass d) (marks : List Bool) → p.client ≡ client → p.seat.me.0.list ≡ [] → Came d now failed lines p q marks → GoesOn d list durable q
        → (n : ℕ) × (n ≤ length lines) × AreMarked now failed durable client 1 (take n lines) marks list
    front_by client lines p q marks client_is none_known c on =
        let e : came.Ends d now failed durable list (record { pass = Some q; now = now; waits = marks; failed = c.its }) = record { last = q; has = refl; own = on.own; reached = on.reached; told = c.told } in
        let g = goes d now failed durable list lines (record { pass = Some p; now = now; waits = []; failed = false }) (record { pass = Some q; now = now; waits = marks; failed = c.its }) p refl refl e c.ran in
        let rest_is : g.rest ≡ list = sym (ap (λ (xs : List Recorded). xs ++ g.rest) none_known) ∙ g.list_is in
        let first : suc (length p.seat.me.0.list) ≡ 1 = ap (λ (xs : List Recorded). suc (length xs)) none_known in (
          g.count,
          g.within,
          subst {A = ℕ × ℕ × List Bool × List Recorded} (λ z. AreMarked now failed durable z.0 z.1 (take g.count lines) z.2 z.3) (λ i. (client_is i, first i, sym g.waits i, rest_is i)) g.are,
        )

    pub fronts : (table : TableId) (total : ℕ) (base : Base) (k : ℕ) (scripts : List (Vec Line)) (ps qs : List (ServerPass d)) (marks : List (Vec Bool)) → EachFrom (IsFresh table total base) k ps → EachCame d now failed scripts ps qs marks → EachFrom (λ _ q. GoesOn d list durable q) k qs
        → (fs : List (List Line)) × AreFronts fs (plan_of scripts) × EachMarked now failed durable k 1 fs (marks_in marks) list
    fronts table total base k [] [] [] [] each all on = ([], tt, tt)
    fronts table total base k (s ∷ ss) (p ∷ ps) (q ∷ qs) (m ∷ ms) each all on =
        let f = front_by k s.items p q m.items each.0.0.1 each.0.1.2 all.0 on.0 in
        let more = fronts table total base (suc k) ss ps qs ms each.1 all.1 on.1 in
        (take f.0 s.items ∷ more.0, ((f.0, f.1, refl), more.1), (f.2, more.2))
    fronts table total base k [] [] [] (m ∷ ms) each all on = absurd all
    fronts table total base k [] [] (q ∷ qs) ms each all on = absurd all
    fronts table total base k [] (p ∷ ps) qs ms each all on = absurd all
    fronts table total base k (s ∷ ss) [] qs ms each all on = absurd all
    fronts table total base k (s ∷ ss) (p ∷ ps) [] ms each all on = absurd all
    fronts table total base k (s ∷ ss) (p ∷ ps) (q ∷ qs) [] each all on = absurd all

-- before the first call there are none
pub few_ready : (scripts : List (Vec Line)) (marks : List (Vec Bool)) → HaveRoom scripts marks → (length marks ≡ length scripts) × (marks_left (marks_in marks) ≤ lines_in (plan_of scripts))
few_ready [] [] room = (refl, omega arith)
few_ready (s ∷ ss) (m ∷ ms) room = let more = few_ready ss ms room.2 in (ap suc more.0, let rest = more.1 in let none = ap length room.0 in omega (arith, none, rest))
few_ready [] (m ∷ ms) room = absurd room
few_ready (s ∷ ss) [] room = absurd room
