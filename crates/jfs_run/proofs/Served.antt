-- What a run's server leaves.
use Rattle.std.proofs.Common.{◌≡◌, ◌⊎◌, ◌<◌, ◌++◌, [], ◌∷◌, ℕ, suc, Bool, true, false, List, length, refl, sym, ap, ◌∙◌, subst, inl, inr, arith}
use Rattle.std.proofs.lemmas.Bool.{false≢true}
use Rattle.std.proofs.lemmas.List.{length-map}
use Rattle.std.specs.Global.{Vec}
use Rattle.atomic_table.specs.Seated.{TableId}
use Rattle.jfs_bits.specs.declared.descriptor.Moment.{Moment}
use Rattle.jfs_disk.specs.Crash.{DiskState, Leaves, last_of, seen_of}
use Rattle.jfs_disk.specs.Image.{Image, page_of}
use Rattle.jfs_disk.specs.Moment.{IsResting}
use Rattle.jfs_disk.specs.declared.disk.Disk.{Ghosts}
use Rattle.jfs_super.specs.Super.{super_of}
use Rattle.jfs_super.specs.declared.fields.Super.{Super}
use Rattle.jfs_plain.specs.declared.call.Entry.{Entry}
use Rattle.jfs_plain.specs.declared.call.Line.{Line}
use Rattle.jfs_server.specs.Start.{IsStarted}
use Rattle.jfs_server.specs.Stopped.{AnyRose, GoesOn, IsEndOf, IsStopped}
use Rattle.jfs_server.specs.declared.stopping.Ending.TheVariants.{Home, Left}
use Rattle.jfs_server.specs.declared.stopping.Last.TheVariants.{Nothing, Syncpoint}
use Rattle.jfs_server.specs.declared.stopping.Stopped.{Stopped}
use Rattle.jfs_server.specs.shared.specs.Base.{start_of}
use Rattle.jfs_server.specs.Served.{client_of}
use Rattle.jfs_server.specs.shared.specs.Entries.{Recorded}
use Rattle.jfs_server.specs.shared.specs.Left.{IsLeft, IsLeftUncalled}
use Rattle.jfs_server.specs.shared.specs.Shared.{IfConsistent, IfKeepable, entries_in, timed_in, lasting_in}
use Rattle.jfs_server.specs.shared.specs.Shared as shared
use Rattle.jfs_server.specs.shared.specs.Start.{IsJustMounted, base_at}
use Rattle.jfs_server.specs.shared.specs.kept_history.specs.Crash.{IsRedoneToHistory}
use Rattle.jfs_server.specs.shared.specs.kept_history.specs.Keepable.{IsKeepableImage}
use Rattle.jfs_server.specs.shared.specs.kept_history.specs.Unmounted.{LeavesKeepable}
use Rattle.jfs_server.specs.shared.proofs.Begun.{served as served_at_first}
use Rattle.jfs_server.specs.shared.proofs.KeptServed.{timed_same}
use Rattle.jfs_server.specs.shared.proofs.Uncalled.{uncalled_law}
use Rattle.jfs_server.specs.shared.specs.legal.specs.History.{AreLegal, IsOver}
use Rattle.jfs_server.specs.shared.specs.legal.specs.served.specs.halves.specs.Parts.{Parts}
use Rattle.jfs_server.specs.shared.specs.legal.proofs.Over.{over_law}
use Rattle.jfs_server.specs.shared.specs.legal.specs.served.specs.mounted.specs.declared.mounted.Mounted.{Mounted}
use Rattle.jfs_server.specs.shared.specs.legal.specs.served.specs.shown.specs.meaning.specs.Image.{IsConsistentImage, volume_of}
use Rattle.jfs_server.specs.shared.specs.legal.specs.served.specs.Legal.{Timed}
use Rattle.jfs_server.specs.shared.specs.legal.specs.served.specs.unmount.specs.Unmount.{IsAllHome}
use Rattle.jfs_server.specs.shared.specs.legal.specs.served.specs.volume_calls.specs.Together.{log_parts}
use Rattle.jfs_server.specs.turns.specs.Lists.{Base, AreOfClients as OfClients}
use Rattle.jfs_run.specs.Calls.{AreOfClients, any_failed}
use Rattle.jfs_run.specs.Clients.{ServerPass, EachCame}
use Rattle.jfs_run.specs.Ending.{last_for, unbegun}
use Rattle.jfs_run.specs.Legal.{all_at, HasReplied}
use Rattle.jfs_run.specs.Left.{IsLeftWith}
use Rattle.jfs_run.specs.Mounted.{State, state, PartRose, Since}
use Rattle.jfs_run.specs.Serving.{AreCalled, AreFronts, EachMarked, HaveRoom, IsHomeFor, IsServed}
use Rattle.jfs_run.specs.Tasks.{plan_of}
use Rattle.jfs_run.specs.Telling.{marks_in, AreAsMany}
use Rattle.jfs_run.specs.declared.serving.Called.{Called}
use Rattle.jfs_run.proofs.Marked.{AreAll, are_all}
use Rattle.jfs_run.proofs.Passes.{EachFrom, from_places, at_place, last_place, IsFresh, IsSeat, fresh, each_kept, seats, fronts, few_came, few_ready}
use Rattle.jfs_run.proofs.Plans.{many_marks}
use Rattle.jfs_run.proofs.Since.{at_mount}

-- a history that goes on may end
over_by : (broken : Bool) (area : ℕ → ℕ) (log_pages : ℕ) (start : Parts) (es : List Timed) (p : Parts) → shared.GoesOn broken area log_pages start es p → IsOver area log_pages start es p
over_by false area log_pages start es p goes = over_law area log_pages start es p goes
over_by true area log_pages start es p over = over

not_left : (is_left : Bool) → unbegun is_left ≡ Home → is_left ≡ false
not_left true e = absurd (cc (e))
not_left false e = refl

asks_home : (is_left failed : Bool) → last_for is_left failed ≡ Syncpoint → is_left ≡ false
asks_home false failed e = refl
asks_home true true e = absurd (cc (e))
asks_home true false e = absurd (cc (e))

left_by : {A : Type 0} (is_left failed : Bool) → (last_for is_left failed ≡ Syncpoint → A) → (is_left ≡ true) ⊎ A
left_by false failed f = inr (f refl)
left_by true failed f = inl refl

some_last : (is_left : Bool) → last_for is_left true ≡ Nothing → ⊥
some_last false e = absurd (cc (e))
some_last true e = absurd (cc (e))

is_to_be : (is_left : Bool) → unbegun is_left ≡ Left → is_left ≡ true
is_to_be true e = refl
is_to_be false e = absurd (cc (e))

-- of each client's lines none was called
abbrev empties : List (Vec Line) → List (List Line)
empties [] = []
empties (script ∷ scripts) = [] ∷ empties scripts

empty_fronts : (scripts : List (Vec Line)) → AreFronts (empties scripts) (plan_of scripts)
empty_fronts [] = tt
empty_fronts (script ∷ scripts) = ((0, omega arith, refl), empty_fronts scripts)

none_marked : (now : Moment) (failed : Bool) (durable k n : ℕ) (scripts : List (Vec Line)) (marks : List (Vec Bool)) → HaveRoom scripts marks → EachMarked now failed durable k n (empties scripts) (marks_in marks) []
none_marked now failed durable k n [] [] room = tt
none_marked now failed durable k n [] (ms ∷ more) room = absurd room
none_marked now failed durable k n (script ∷ scripts) [] room = absurd room
none_marked now failed durable k n (script ∷ scripts) (ms ∷ more) room = ((refl, room.0), none_marked now failed durable (suc k) n scripts more room.2)

-- entries of these clients, as a list has them
clients_are : (n : ℕ) (list : List Recorded) → OfClients client_of n list → AreOfClients n (entries_in list)
clients_are n [] all = tt
clients_are n (e ∷ es) all = (all.0, clients_are n es all.1)

module _ {D : Type 0} (d : Ghosts D) (scripts : List (Vec Line)) (now : Moment) (image : Image) (s : Super) (m : Mounted D d) (marks : List (Vec Bool)) where
  abbrev first : State
  first = state d m.volume m.log

  abbrev base : Base
  base = base_at s image m.volume (d.page_count m.log.part) (d.fault_count m.log.part)

  -- ---- memory lacked for the clients: no call was made

  module _ (x : Called D d) (none : x.history.items ≡ []) (not_whole : x.is_whole ≡ false) (not_failed : x.failed ≡ false) (same : x.mounted ≡ m) (j : IsJustMounted d.tells d.tells_crashes s image m.volume (log_parts d m.log)) where
    abbrev page : ℕ → List ℕ
    page = page_of image

    no_entries : (durable : ℕ) → HaveRoom scripts marks → AreCalled now x.failed durable (plan_of scripts) (marks_in marks) []
    no_entries durable room = record { fronts = empties scripts; are_fronts = empty_fronts scripts; each = none_marked now x.failed durable 1 1 scripts marks room; others = tt }

    appended : m.volume.appended ≡ 0
    appended = (j.mount.fresh false false (λ e. absurd (false≢true e)) (λ e. absurd (false≢true e))).appended

    replied_none : d.tells → IsConsistentImage s page → HasReplied s page now [] m.volume
    replied_none t consistent = record {
      start = is.start;
      holds = is.holds;
      runs = is.runs;
      over = over_law (volume_of s page).area s.logpxd.len is.start [] m.volume is.goes_on;
    }
      where
        is : shared.IsServed s page false [] m.volume
        is = served_at_first d.tells d.tells_crashes s image m.volume (log_parts d m.log) j t consistent

    module _ (reads : d.tells_crashes → d.image m.log.part ≡ seen_of (last_of (d.past m.log.part))) where
      at_first : d.tells → d.tells_crashes → IsKeepableImage s image → IsLeftUncalled s image m.volume (log_parts d m.log)
      at_first t c checked = uncalled_law d.tells d.tells_crashes t c s image m.volume (log_parts d m.log) j (reads c) checked

      left_none : d.tells → d.tells_crashes → IsKeepableImage s image → IsLeftWith s image now [] m.log.durable (last_of m.volume.past ++ last_of (d.past m.log.part))
      left_none t c checked = record {
        follows = record { start = is.start; runs = is.runs; tree = is.holds.tree; room = is.holds.room; legal = is.legal };
        list = [];
        entries_are = refl;
        redone = subst (λ (n : ℕ). Leaves (λ left. IsRedoneToHistory s page is.start [] n left) (last_of m.volume.past ++ last_of (d.past m.log.part))) (sym (durable_none)) is.redone;
      }
        where
          is : IsLeft s image [] 0 (last_of m.volume.past ++ last_of (d.past m.log.part))
          is = (at_first t c checked).left

          durable_none : m.log.durable ≡ 0
          durable_none = (j.mount.log_fresh false false (λ e. absurd (false≢true e)) (λ e. absurd (false≢true e))).durable

      pub uncalled : (is_left : Bool) → x.ending ≡ unbegun is_left → IsAllHome m.volume → HaveRoom scripts marks → IsServed d scripts now is_left image s first marks x
      uncalled is_left ended home room = record {
        calls = record {
          list = [];
          history = none;
          appended = ap (λ (n : Mounted D d). n.volume.appended) same ∙ appended;
          are = no_entries x.mounted.log.durable room;
          whole = λ is. absurd (false≢true (sym not_whole ∙ is));
          reached = λ is. absurd (false≢true (sym not_failed ∙ is));
          replied = λ t consistent. subst {A = List Entry × Mounted D d} (λ z. HasReplied s page now z.0 z.1.volume) (λ i. (sym none i, sym same i)) (replied_none t consistent);
          left = λ t c checked. subst {A = List Entry × Mounted D d} (λ z. IsLeftWith s image now z.0 z.1.log.durable (last_of z.1.volume.past ++ last_of (d.past z.1.log.part))) (λ i. (sym none i, sym same i)) (left_none t c checked);
          again = λ t c checked. subst (λ (n : Mounted D d). LeavesKeepable s page n.volume) (sym same) (at_first t c checked).again;
          rests = λ t c is checked. subst (λ (n : Mounted D d). IsResting (last_of n.volume.past)) (sym same) (at_first t c checked).rests;
        };
        few = few_ready scripts marks room;
        since = subst (λ (n : Mounted D d). Since first (state d n.volume n.log)) (sym same) (at_mount first j.runs);
        calm = inl (ap any_failed none);
        home = λ is. record { asked = not_left is_left (sym ended ∙ is); home = subst (λ (n : Mounted D d). IsAllHome n.volume) (sym same) home; runs = ap (λ (n : Mounted D d). n.volume.halted) same ∙ j.runs };
        left_for = λ is. inl (is_to_be is_left (sym ended ∙ is));
      }

  -- ---- a server was stopped

  module _ (stopped : Stopped D d) (failed : Bool) (table : TableId) (passes after : List (ServerPass d)) (started : IsStarted d base (length scripts) table passes) (came : EachCame d now failed scripts passes after marks) (some_clients : 0 < length scripts) (is_left : Bool) (st : IsStopped d (last_for is_left failed) after stopped) where
    news : EachFrom (IsFresh d table (length scripts) base) 1 passes
    news = fresh d table base (length scripts) passes started

    back : EachFrom (λ j q. IsSeat d table (length scripts) j q × (q.seat.me.0.base ≡ base)) 1 after × (length after ≡ length passes)
    back = seats d table (length scripts) base 1 passes after (each_kept d now failed scripts passes after marks came) news

    -- it began with this base
    base_is : st.base ≡ base
    base_is =
        let many = started.many in
        let l = last_place after (omega (arith, back.1, many, some_clients)) in
        sym (st.base_is l.0 l.1 l.2 l.3) ∙ (at_place (λ j q. IsSeat d table (length scripts) j q × (q.seat.me.0.base ≡ base)) 1 after back.0 l.0 l.1 l.2).1

    ends : IsEndOf d (start_of base) stopped
    ends = subst (λ (b : Base). IsEndOf d (start_of b) stopped) base_is st.ends

    stopped_since : Since first (state d stopped.mounted.volume stopped.mounted.log)
    stopped_since = record {
      keeps = record {
        count = ends.pages;
        room = ends.room;
        pages = ends.log_pages;
        low = ends.faults;
        high = ends.log_faults;
      };
      halted = ends.runs;
    }

    stopped_left : stopped.ending ≡ Left → (is_left ≡ true) ⊎ PartRose first (state d stopped.mounted.volume stopped.mounted.log)
    stopped_left is = left_by is_left failed (subst (λ (b : Base). stopped.ending ≡ Left → last_for is_left failed ≡ Syncpoint → AnyRose (start_of b) stopped.mounted.volume (d.fault_count stopped.mounted.log.part)) base_is st.left_for is)

    stopped_home : stopped.ending ≡ Home → IsHomeFor is_left stopped.mounted.volume
    stopped_home is = let at = st.home is in record { asked = asks_home is_left failed at.asked; home = at.home; runs = at.runs }

    stopped_reached : failed ≡ true → (stopped.mounted.log.durable ≡ length st.list) ⊎ PartRose first (state d stopped.mounted.volume stopped.mounted.log)
    stopped_reached is = subst (λ (b : Base). (last_for is_left failed ≡ Nothing → ⊥) → (stopped.mounted.log.durable ≡ length st.list) ⊎ AnyRose (start_of b) stopped.mounted.volume (d.fault_count stopped.mounted.log.part)) base_is st.reached
        (λ none. some_last is_left (ap (last_for is_left) (sym is) ∙ none))

    stopped_calm : (any_failed stopped.history.items ≡ false) ⊎ PartRose first (state d stopped.mounted.volume stopped.mounted.log)
    stopped_calm = ends.calm

    -- each entry is of one of the scripts' clients
    others : AreOfClients (length scripts) stopped.history.items
    others = subst {A = ℕ × List Entry} (λ z. AreOfClients z.0 z.1) (λ i. ((back.1 ∙ started.many) i, sym st.history i)) (clients_are (length after) st.list st.clients)

    -- its list has the entries of a front of each client's lines
    called : AreCalled now failed stopped.mounted.log.durable (plan_of scripts) (marks_in marks) st.list
    called =
        let f = fronts d now failed stopped.mounted.log.durable st.list table (length scripts) base 1 scripts passes after marks news came (from_places (λ _ q. GoesOn d st.list stopped.mounted.log.durable q) 1 after (λ i q at. st.passes_go_on i q at)) in
        record {
          fronts = f.0;
          are_fronts = f.1;
          each = f.2;
          others = subst {A = ℕ × List Entry} (λ z. AreOfClients z.0 z.1) (λ i. (sym (length-map scripts (λ (script : Vec Line). script.items)) i, st.history i)) others;
        }

    -- ---- the replies

    module _ (told : d.tells) (spelled : super_of (page_of image 8) ≡ s) (consistent : IsConsistentImage s (page_of image)) where
      served : shared.IsServed s (page_of image) stopped.is_broken_off st.list stopped.mounted.volume
      served =
          let by_base = subst (λ (b : Base). IfConsistent b (λ t page. shared.IsServed t page stopped.is_broken_off st.list stopped.mounted.volume)) base_is (st.served told) in
          subst (λ (t : Super). IsConsistentImage t (page_of image) → shared.IsServed t (page_of image) stopped.is_broken_off st.list stopped.mounted.volume) spelled by_base consistent

      all : AreAll now failed stopped.mounted.log.durable 1 (marks_in marks) st.list
      all =
          are_all now failed stopped.mounted.log.durable 1 (length (plan_of scripts)) called.fronts (marks_in marks) st.list (omega (arith, many_marks now failed stopped.mounted.log.durable (plan_of scripts) (marks_in marks) st.list called)) called.others called.each

      -- all were handed at this moment
      moments : timed_in st.list ≡ all_at now stopped.history.items
      moments = all.moments ∙ ap (all_at now) (sym st.history)

      abbrev area : ℕ → ℕ
      area = (volume_of s (page_of image)).area

      pub replied : HasReplied s (page_of image) now stopped.history.items stopped.mounted.volume
      replied = record {
        start = served.start;
        holds = served.holds;
        runs = served.runs;
        over = subst (λ (es : List Timed). IsOver area s.logpxd.len served.start es stopped.mounted.volume) moments (over_by stopped.is_broken_off area s.logpxd.len served.start (timed_in st.list) stopped.mounted.volume served.goes_on);
      }

    -- ---- what a crash leaves

    left_with : d.tells → d.tells_crashes → (spelled : super_of (page_of image 8) ≡ s) → IsKeepableImage s image
        → IsLeftWith s image now stopped.history.items stopped.mounted.log.durable (last_of stopped.mounted.volume.past ++ last_of (d.past stopped.mounted.log.part))
    left_with t c spelled checked = record {
      follows = record { start = is.start; runs = is.runs; tree = is.holds.tree; room = is.holds.room; legal = subst (AreLegal (volume_of s (page_of image)).area s.logpxd.len is.start) at_once is.legal };
      list = lasting_in st.list;
      entries_are = timed_same st.list ∙ at_once;
      redone = is.redone;
    }
      where
        state_now : DiskState
        state_now = last_of stopped.mounted.volume.past ++ last_of (d.past stopped.mounted.log.part)

        is : IsLeft s image st.list stopped.mounted.log.durable state_now
        is =
            let by_base = subst (λ (b : Base). IfKeepable b (λ t image. IsLeft t image st.list stopped.mounted.log.durable state_now)) base_is (st.left t c) in
            subst (λ (t : Super). IsKeepableImage t image → IsLeft t image st.list stopped.mounted.log.durable state_now) spelled by_base checked

        at_once : timed_in st.list ≡ all_at now stopped.history.items
        at_once = moments t spelled (checked.keepable.consistent)

    rests_with : d.tells → d.tells_crashes → (spelled : super_of (page_of image 8) ≡ s) → stopped.ending ≡ Home → IsKeepableImage s image → IsResting (last_of stopped.mounted.volume.past)
    rests_with t c spelled ended checked =
        let by_base = subst (λ (b : Base). IfKeepable b (λ t image. IsResting (last_of stopped.mounted.volume.past))) base_is (st.rests ended t c) in
        subst (λ (t : Super). IsKeepableImage t image → IsResting (last_of stopped.mounted.volume.past)) spelled by_base checked

    again_with : d.tells → d.tells_crashes → (spelled : super_of (page_of image 8) ≡ s) → IsKeepableImage s image → LeavesKeepable s (page_of image) stopped.mounted.volume
    again_with t c spelled checked =
        let by_base = subst (λ (b : Base). IfKeepable b (λ t image. LeavesKeepable t (page_of image) stopped.mounted.volume)) base_is (st.again t c) in
        subst (λ (t : Super). IsKeepableImage t image → LeavesKeepable t (page_of image) stopped.mounted.volume) spelled by_base checked

    -- ---- all of it

    pub is_served : (x : Called D d) → x.mounted ≡ stopped.mounted → x.ending ≡ stopped.ending → x.history ≡ stopped.history → x.failed ≡ failed → (x.is_whole ≡ true → AreAsMany scripts marks) → (d.tells → super_of (page_of image 8) ≡ s) → IsServed d scripts now is_left image s first marks x
    is_served x same ended history failed_is whole spelled =
        subst (IsServed d scripts now is_left image s first marks) (sym x_is) record {
          calls = record {
            list = st.list;
            history = st.history;
            appended = st.all;
            are = called;
            whole = whole;
            reached = stopped_reached;
            replied = λ t consistent. replied t (spelled t) consistent;
            left = λ t c checked. left_with t c (spelled t) checked;
            again = λ t c checked. again_with t c (spelled t) checked;
            rests = λ t c is checked. rests_with t c (spelled t) is checked;
          };
          few = few_came d now failed scripts passes after marks came;
          since = stopped_since;
          calm = stopped_calm;
          home = stopped_home;
          left_for = stopped_left;
        }
      where
        x_is : x ≡ record { mounted = stopped.mounted; history = stopped.history; is_whole = x.is_whole; is_broken_off = x.is_broken_off; failed = failed; ending = stopped.ending }
        x_is = λ i. record { mounted = same i; history = history i; is_whole = x.is_whole; is_broken_off = x.is_broken_off; failed = failed_is i; ending = ended i }
