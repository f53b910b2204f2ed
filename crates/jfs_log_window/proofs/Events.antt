-- What changes of both halves keep of what happened.
use Rattle.std.proofs.Common.{◌≡◌, ◌+◌, ◌++◌, ℕ, suc, List, [], ◌∷◌, length, refl, sym, ap, subst, ◌∙◌, append_assoc, arith}
use Rattle.std.specs.List.{AllByRecursion}
use Rattle.std.proofs.lemmas.List.{append-nil}
use Rattle.jfs_records.specs.Entries.{Item, point}
use Rattle.jfs_halves.specs.Entry.{Happened, items_of}
use Rattle.jfs_halves.specs.Half.{Halves}
use Rattle.jfs_halves.specs.Change.{Enters, Takes, Tells, HandsOut, GoesHome, Tears, Drops, Writes, WriteTears, Stops, LogStops, Syncs, Points, Knows}
use Rattle.jfs_halves.specs.Both.{BothChange, Changes, GroupIsWritten, GroupFails, changed, Fits}
use Rattle.jfs_log_window.specs.Events.{Event, Entered, Pointed, entries_in, count, points_in, points_from, items_from, IsQuiet, HasEvents, HaveEvents, EventsBegin, EventsGoOn}
use Rattle.jfs_log_window.proofs.Lists.{entries-append, count-append, points-append, length-points, items-append}

quiet-append : (hs : List Happened) (h : Happened) → AllByRecursion IsQuiet hs → IsQuiet h → AllByRecursion IsQuiet (hs ++ h ∷ [])
quiet-append [] h all one = (one, tt)
quiet-append (x ∷ hs) h all one = (all.0, quiet-append hs h all.1 one)

module _ (both : Halves) (stable grouped waiting : List Event) (e : HasEvents both stable grouped waiting) where
  abbrev taken_with : List Event
  taken_with = stable ++ grouped

  -- all, and what waits behind all that was taken
  parts : (more : List Event) → stable ++ (grouped ++ more) ≡ taken_with ++ more
  parts more = sym (append_assoc stable grouped more)

  longer : (more : List Event) → stable ++ (grouped ++ (waiting ++ more)) ≡ (stable ++ (grouped ++ waiting)) ++ more
  longer more = ap (λ (l : List Event). stable ++ l) (sym (append_assoc grouped waiting more)) ∙ sym (append_assoc stable (grouped ++ waiting) more)

  abbrev all : ℕ
  all = count (stable ++ (grouped ++ waiting))

  all_is : count taken_with + count waiting ≡ all
  all_is = sym (ap count (parts waiting) ∙ count-append taken_with waiting)

  -- ---- one joins

  entered : (h : Happened) → IsQuiet h → HasEvents (changed both (Changes (Enters h))) stable grouped (waiting ++ Entered h ∷ [])
  entered h one = record {
    begins = e.begins;
    quiet = quiet-append both.volume.history h e.quiet one;
    history = ap (λ (l : List Happened). l ++ h ∷ []) e.history ∙ sym (ap entries_in (longer (Entered h ∷ [])) ∙ entries-append (stable ++ (grouped ++ waiting)) (Entered h ∷ []));
    points = e.points ∙ sym (ap (points_from 0) (longer (Entered h ∷ [])) ∙ points-append 0 (stable ++ (grouped ++ waiting)) (Entered h ∷ []) ∙ append-nil (points_from 0 (stable ++ (grouped ++ waiting))));
    items = e.items;
    group = e.group;
    waits = ap (λ (l : List Item). l ++ items_of (suc (length both.volume.history)) h) e.waits
        ∙ ap (λ (n : ℕ). items_from (count taken_with) waiting ++ items_of (suc n) h) (ap length e.history ∙ sym all_is)
        ∙ ap (λ (l : List Item). items_from (count taken_with) waiting ++ l) (sym (append-nil (items_of (suc (count taken_with + count waiting)) h)))
        ∙ sym (items-append (count taken_with) waiting (Entered h ∷ []));
    durable = e.durable;
    taken = e.taken;
    points_stable = e.points_stable;
    points_taken = e.points_taken;
  }

  pub pointed : HasEvents (changed both (Changes Points)) stable grouped (waiting ++ Pointed ∷ [])
  pointed = record {
    begins = e.begins;
    quiet = e.quiet;
    history = e.history ∙ sym (ap entries_in (longer (Pointed ∷ [])) ∙ entries-append (stable ++ (grouped ++ waiting)) (Pointed ∷ []) ∙ append-nil (entries_in (stable ++ (grouped ++ waiting))));
    points = ap (λ (l : List ℕ). l ++ length both.volume.history ∷ []) e.points ∙ ap (λ (n : ℕ). points_from 0 (stable ++ (grouped ++ waiting)) ++ n ∷ []) (ap length e.history)
        ∙ sym (ap (points_from 0) (longer (Pointed ∷ [])) ∙ points-append 0 (stable ++ (grouped ++ waiting)) (Pointed ∷ []) ∙ ap (λ (n : ℕ). points_from 0 (stable ++ (grouped ++ waiting)) ++ n ∷ []) (omega arith));
    items = e.items;
    group = e.group;
    waits = ap (λ (l : List Item). l ++ point 0 ∷ []) e.waits ∙ sym (items-append (count taken_with) waiting (Pointed ∷ []));
    durable = e.durable;
    taken = e.taken;
    points_stable = e.points_stable;
    points_taken = e.points_taken;
  }

  -- ---- all that waits is taken, and is stable then

  pub taken : HasEvents (changed both (Changes Takes)) stable (grouped ++ waiting) []
  taken = record {
    begins = e.begins;
    quiet = e.quiet;
    history = e.history ∙ ap (λ (l : List Event). entries_in (stable ++ l)) (sym (append-nil (grouped ++ waiting)));
    points = e.points ∙ ap (λ (l : List Event). points_from 0 (stable ++ l)) (sym (append-nil (grouped ++ waiting)));
    items = e.items;
    group = ap (λ (l : List Item). l ++ both.volume.waiting.items) e.group ∙ ap (λ (l : List Item). items_from (count stable) grouped ++ l) (e.waits ∙ ap (λ (n : ℕ). items_from n waiting) (count-append stable grouped))
        ∙ sym (items-append (count stable) grouped waiting);
    waits = refl;
    durable = e.durable;
    taken = ap length e.history;
    points_stable = e.points_stable;
    points_taken = ap length e.points ∙ length-points 0 (stable ++ (grouped ++ waiting));
  }

  pub written : HasEvents (changed both GroupIsWritten) taken_with [] waiting
  written = record {
    begins = (e.begins.0 ++ grouped, ap (λ (l : List Event). l ++ grouped) e.begins.1);
    quiet = e.quiet;
    history = e.history ∙ ap entries_in (parts waiting);
    points = e.points ∙ ap (points_from 0) (parts waiting);
    items = ap (λ (l : List Item). l ++ both.log.group) e.items ∙ ap (λ (l : List Item). items_from 0 stable ++ l) e.group ∙ sym (items-append 0 stable grouped ∙ ap (λ (n : ℕ). items_from 0 stable ++ items_from n grouped) (omega arith));
    group = refl;
    waits = e.waits ∙ ap (λ (l : List Event). items_from (count l) waiting) (sym (append-nil taken_with));
    durable = e.taken;
    taken = e.taken ∙ ap count (sym (append-nil taken_with));
    points_stable = e.points_taken;
    points_taken = e.points_taken ∙ ap points_in (sym (append-nil taken_with));
  }

  -- ---- nothing of it changes

  same : (other : Halves) → other.volume.history ≡ both.volume.history → other.volume.points ≡ both.volume.points → other.volume.waiting.items ≡ both.volume.waiting.items → other.volume.taken ≡ both.volume.taken
      → other.log.items ≡ both.log.items → other.log.group ≡ both.log.group → other.log.durable ≡ both.log.durable → other.log.stable ≡ both.log.stable → other.log.points_taken ≡ both.log.points_taken → HasEvents other stable grouped waiting
  same other history points waits taken items group durable points_stable points_taken = record {
    begins = e.begins;
    quiet = subst (AllByRecursion IsQuiet) (sym history) e.quiet;
    history = history ∙ e.history;
    points = points ∙ e.points;
    items = items ∙ e.items;
    group = group ∙ e.group;
    waits = waits ∙ e.waits;
    durable = durable ∙ e.durable;
    taken = taken ∙ e.taken;
    points_stable = points_stable ∙ e.points_stable;
    points_taken = points_taken ∙ e.points_taken;
  }

  stays : (other : Halves) → other.volume.history ≡ both.volume.history → other.volume.points ≡ both.volume.points → other.volume.waiting.items ≡ both.volume.waiting.items → other.volume.taken ≡ both.volume.taken
      → other.log.items ≡ both.log.items → other.log.group ≡ both.log.group → other.log.durable ≡ both.log.durable → other.log.stable ≡ both.log.stable → other.log.points_taken ≡ both.log.points_taken → HaveEvents other
  stays other history points waits taken items group durable points_stable points_taken = (stable, grouped, waiting, same other history points waits taken items group durable points_stable points_taken)

  pub step : (c : BothChange) → Fits both c → HaveEvents (changed both c)
  step (Changes (Enters h)) fits = (stable, grouped, waiting ++ Entered h ∷ [], entered h fits.0.logged)
  step (Changes Takes) fits = (stable, grouped ++ waiting, [], taken)
  step (Changes (Tells n)) fits = stays (changed both (Changes (Tells n))) refl refl refl refl refl refl refl refl refl
  step (Changes HandsOut) fits = stays (changed both (Changes HandsOut)) refl refl refl refl refl refl refl refl refl
  step (Changes (GoesHome p)) fits = stays (changed both (Changes (GoesHome p))) refl refl refl refl refl refl refl refl refl
  step (Changes (Tears p sectors fault)) fits = stays (changed both (Changes (Tears p sectors fault))) refl refl refl refl refl refl refl refl refl
  step (Changes (Drops p)) fits = stays (changed both (Changes (Drops p))) refl refl refl refl refl refl refl refl refl
  step (Changes (Writes p bytes)) fits = stays (changed both (Changes (Writes p bytes))) refl refl refl refl refl refl refl refl refl
  step (Changes (WriteTears p bytes sectors fault)) fits = stays (changed both (Changes (WriteTears p bytes sectors fault))) refl refl refl refl refl refl refl refl refl
  step (Changes (Stops fault)) fits = stays (changed both (Changes (Stops fault))) refl refl refl refl refl refl refl refl refl
  step (Changes (LogStops fault)) fits = stays (changed both (Changes (LogStops fault))) refl refl refl refl refl refl refl refl refl
  step (Changes Syncs) fits = stays (changed both (Changes Syncs)) refl refl refl refl refl refl refl refl refl
  step (Changes Points) fits = (stable, grouped, waiting ++ Pointed ∷ [], pointed)
  step (Changes Knows) fits = stays (changed both (Changes Knows)) refl refl refl refl refl refl refl refl refl
  step GroupIsWritten fits = (stable ++ grouped, [], waiting, written)
  step (GroupFails fault) fits = stays (changed both (GroupFails fault)) refl refl refl refl refl refl refl refl refl

pub events_go_on : EventsGoOn
events_go_on both [] fit e = e
events_go_on both (c ∷ cs) fit e = events_go_on (changed both c) cs fit.1 (step both e.0 e.1 e.2 e.3 c fit.0)

pub events_begin : EventsBegin
events_begin ring shown = (
  Pointed ∷ [],
  [],
  [],
  record {
    begins = ([], refl);
    quiet = tt;
    history = refl;
    points = refl;
    items = refl;
    group = refl;
    waits = refl;
    durable = refl;
    taken = refl;
    points_stable = refl;
    points_taken = refl;
  },
)
