-- What the volume and the log of a server are once all passes are back.
use Rattle.std.specs.Prelude.{is_some}
use Rattle.std.proofs.Common.{◌≡◌, ◌≤◌, ◌⊎◌, ◌++◌, ℕ, suc, Bool, true, false, List, [], length, Option, Some, None, refl, sym, ap, subst, ◌∙◌, inl, inr, arith}
use Rattle.std.proofs.lemmas.Bool.{false≢true}
use Rattle.jfs_bits.specs.Count.{Rose}
use mathlib.Core.Option.{some}
use lib.ListN.{get_elem?}
use Rattle.jfs_disk.specs.Crash.{DiskState, last_of, seen_of}
use Rattle.jfs_disk.specs.Moment.{IsResting}
use Rattle.jfs_disk.specs.Image.{page_of}
use Rattle.jfs_disk.specs.declared.disk.Disk.{Ghosts}
use Rattle.jfs_disk.specs.declared.disk.Fault.{Fault}
use Rattle.jfs_super.specs.Super.{super_of}
use Rattle.jfs_super.specs.declared.fields.Super.{Super}
use Rattle.jfs_plain.specs.declared.call.Entry.{Entry}
use Rattle.jfs_groups.specs.Points.{is_marked}
use Rattle.jfs_groups.specs.Start.{Grows}
use Rattle.jfs_groups.specs.declared.log.SharedLog.{SharedLog}
use Rattle.jfs_shared.specs.legal.proofs.Going.{handed_law}
use Rattle.jfs_shared.specs.legal.proofs.Over.{over_handed_law}
use Rattle.jfs_shared.specs.legal.specs.served.specs.crash_core.specs.Step.{halted_by}
use Rattle.jfs_shared.specs.legal.specs.served.specs.halves.specs.Parts.{Parts}
use Rattle.jfs_shared.specs.legal.specs.served.specs.shown.specs.meaning.specs.Image.{volume_of}
use Rattle.jfs_volume_calls.proofs.Kept.{group_settles, group_pages}
use Rattle.jfs_shared.specs.legal.specs.served.specs.unmount.specs.Unmount.{IsAllHome}
use Rattle.jfs_shared.specs.kept_history.specs.Unmounted.{LeavesKeepable}
use Rattle.jfs_shared.specs.kept_history.proofs.Unmounts.{unmounted_again_law}
use Rattle.jfs_shared.specs.Base.{MountStart, start_of, image_of}
use Rattle.jfs_shared.specs.Both as shared
use Rattle.jfs_shared.specs.Entries.{Recorded}
use Rattle.jfs_shared.specs.Faults.{any_failed, HasRisen}
use Rattle.jfs_shared.specs.Shared.{IsShared, IsServed, IfConsistent, IfKeepable, GoesOn as HistoryGoesOn, standing as shared_standing, timed_in}
use Rattle.jfs_shared.specs.Left.{IsLeft}
use Rattle.jfs_shared.specs.declared.shared.SharedVolume.{SharedVolume}
use Rattle.jfs_shared.specs.Settled.{RestsBehind}
use Rattle.jfs_shared.proofs.Left.{left_is}
use Rattle.jfs_shared.proofs.Served.{served_settled}
use Rattle.jfs_turns.specs.Lists.{Base, HasOwn, AreOfClients}
use Rattle.jfs_turns.specs.Passes.{End, AtEnd}
use Rattle.jfs_turns.specs.declared.turns.Pass.{Pass}
use Rattle.jfs_server.specs.Served.{standing, log_standing, client_of}
use Rattle.jfs_server.specs.Stopped.{AnyRose, IsAtHome, IsEndOf, IsStopped, HaltsAs, HaltsLog, StandsStill, HasHalted, IsLeftFor, IsDurableFor}
use Rattle.jfs_server.specs.declared.served.ServedVolume.{ServedVolume}
use Rattle.jfs_server.specs.declared.stopping.Ending.{Ending}
use Rattle.jfs_server.specs.declared.stopping.Ending.TheVariants.{Home, Left, Full}
use Rattle.jfs_server.specs.declared.stopping.Last.{Last}
use Rattle.jfs_server.specs.declared.stopping.Last.TheVariants.{Syncpoint}
use Rattle.jfs_server.specs.declared.stopping.Stopped.{Stopped}

none_some : (f : Fault) → ◌≡◌ {A = Option Fault} None (Some f) → ⊥
none_some f e = absurd (cc)

halted_runs : (fault : Fault) (halted : Option Fault) → halted_by fault halted ≡ None → ⊥
halted_runs fault None e = none_some fault (sym e)
halted_runs fault (Some first) e = none_some first (sym e)

halted_is : (fault : Fault) (halted : Option Fault) → is_some (halted_by fault halted) ≡ true
halted_is fault None = refl
halted_is fault (Some first) = refl

pub entries_of : (log : Option Fault) (old mid : Parts) → HaltsAs log old mid → mid.entries ≡ old.entries
entries_of None old mid h = ap (λ (p : Parts). p.entries) h
entries_of (Some fault) old mid h = ap (λ (p : Parts). p.entries) h

-- ---- what all passes know

-- The list goes on each pass's, with no entry of its client, and the base is that of the last one.
pub record AllGoOn {D : Type 0} (d : Ghosts D) (ps : List (Pass (ServedVolume D) (SharedLog D d) Recorded)) (n : shared.Seen) : Type 0 where
  pub durable_within : n.durable ≤ length n.list
  pub own : (i : ℕ) (p : Pass (ServedVolume D) (SharedLog D d) Recorded) → get_elem? ps i ≡ some p → HasOwn client_of p.client p.seat.me.0.list n.list × (p.seat.me.0.durable ≤ n.durable)
  pub base_is : (i : ℕ) (p : Pass (ServedVolume D) (SharedLog D d) Recorded) → get_elem? ps i ≡ some p → suc i ≡ length ps → p.seat.me.0.base ≡ n.base
  pub clients : AreOfClients client_of (length ps) n.list

module _ {D : Type 0} (d : Ghosts D) (ps : List (Pass (ServedVolume D) (SharedLog D d) Recorded)) (v : ServedVolume D) (y : SharedLog D d) (at_end : AtEnd client_of (standing d) (log_standing d) ps v y) where
  abbrev end : End Recorded
  end = at_end.0

  -- the volume and the log stand for one list
  abbrev pub first : shared.Seen
  first = record { base = end.base; list = end.list; log_list = end.log_list; taken = end.taken; told = end.told; durable = end.durable; points = end.points; known = end.known; stable = end.stable }

  pub at_first : shared.AreOf (shared_standing d) (log_standing d) first v.shared y
  at_first = record {
    volume = at_end.1;
    log = subst (λ (points : List ℕ). log_standing d y end.base end.log_list end.taken end.durable points end.stable) at_end.3.1 at_end.2;
    front = at_end.3.0;
    told_within = at_end.3.2;
  }

  pub go_on : AllGoOn d ps first
  go_on = record {
    durable_within = omega (arith, at_end.3.3, at_end.3.5);
    own = λ i p is. (let g = at_end.4 i p is in (g.0, g.1));
    base_is = λ i p is last. (at_end.5 i p is last).0;
    clients = at_end.6;
  }

  -- and behind a syncpoint, where there was one
  pub still : (x' : SharedVolume D) (y' : SharedLog D d) → StandsStill d first x' y' → (n : shared.Seen) × shared.AreOf (shared_standing d) (log_standing d) n x' y' × (n.base ≡ first.base) × AllGoOn d ps n
  still x' y' stays =
      let s = stays go_on.durable_within in (
        s.0,
        s.1,
        s.2,
        record {
          durable_within = s.5;
          own = λ i p is. (let g = go_on.own i p is in (subst (λ (list : List Recorded). HasOwn client_of p.client p.seat.me.0.list list) (sym s.3) g.0, omega (arith, g.1, s.4)));
          base_is = λ i p is last. go_on.base_is i p is last ∙ sym s.2;
          clients = subst (λ (list : List Recorded). AreOfClients client_of (length ps) list) (sym s.3) go_on.clients;
        },
      )

module _ {D : Type 0} (d : Ghosts D) (ps : List (Pass (ServedVolume D) (SharedLog D d) Recorded)) (end : shared.Seen) (v : SharedVolume D) (y : SharedLog D d) (both : shared.AreOf (shared_standing d) (log_standing d) end v y) (passes : AllGoOn d ps end) where
  abbrev m : MountStart
  m = start_of end.base

  abbrev old : Parts
  old = v.volume

  abbrev log_faults : ℕ
  log_faults = d.fault_count y.side.part

  stands : IsShared d.tells d.tells_crashes end.base end.list end.taken end.told end.points end.known v.points v.is_broken_off old
  stands = both.volume

  -- a mark comes of a log that has halted
  marked : (halted : Option Fault) → y.side.halted ≡ halted → is_marked end.points ≡ true → Rose m.log.faults log_faults
  marked None runs mark = absurd (false≢true (sym (both.log.runs runs).unmarked ∙ mark))
  marked (Some fault) halts mark = (both.log.halts fault halts).1

  rose : HasRisen m end.points old → Rose m.faults old.faults ⊎ Rose m.log.faults log_faults
  rose (inl low) = inl low
  rose (inr mark) = inr (marked y.side.halted refl mark)

  over : {A : Type 0} → A ⊎ HasRisen m end.points old → A ⊎ (Rose m.faults old.faults ⊎ Rose m.log.faults log_faults)
  over (inl a) = inl a
  over (inr risen) = inr (rose risen)

  -- the volume as it is handed out
  pub record HandedOut (new : Parts) (halted : Option Fault) : Type 0 where
    pub is : new ≡ record old { halted = halted; entries = [] }
    pub halts : (halted ≡ old.halted) × (y.side.halted ≡ None) ⊎ ((fault : Fault) × (y.side.halted ≡ Some fault) × (halted ≡ halted_by fault old.halted))

  pub handed_out : (mid new : Parts) → HaltsAs y.side.halted old mid → new ≡ record mid { entries = [] } → HandedOut new mid.halted
  handed_out mid new halts is = by y.side.halted refl halts
    where
      by : (log : Option Fault) → y.side.halted ≡ log → HaltsAs log old mid → HandedOut new mid.halted
      by None same h = record { is = is ∙ ap (λ (p : Parts). record p { halted = mid.halted; entries = [] }) h; halts = inl (ap (λ (p : Parts). p.halted) h, same) }
      by (Some fault) same h = record { is = is ∙ ap (λ (p : Parts). record p { halted = mid.halted; entries = [] }) h; halts = inr (fault, same, ap (λ (p : Parts). p.halted) h) }

  runs_now : (new : Parts) (halted : Option Fault) → HandedOut new halted → (new.halted ≡ None) ⊎ (Rose m.faults old.faults ⊎ Rose m.log.faults log_faults)
  runs_now new halted h = by h.halts
    where
      by : (halted ≡ old.halted) × (y.side.halted ≡ None) ⊎ ((fault : Fault) × (y.side.halted ≡ Some fault) × (halted ≡ halted_by fault old.halted)) → (new.halted ≡ None) ⊎ (Rose m.faults old.faults ⊎ Rose m.log.faults log_faults)
      by (inl (same, runs)) = again (over stands.disk.runs)
        where
          again : (old.halted ≡ None) ⊎ (Rose m.faults old.faults ⊎ Rose m.log.faults log_faults) → (new.halted ≡ None) ⊎ (Rose m.faults old.faults ⊎ Rose m.log.faults log_faults)
          again (inl none) = inl (ap (λ (p : Parts). p.halted) h.is ∙ same ∙ none)
          again (inr risen) = inr risen
      by (inr (fault, halts, is)) = inr (inr (both.log.halts fault halts).1)

  -- where neither had halted
  still_runs : (new : Parts) (halted : Option Fault) → HandedOut new halted → old.halted ≡ None → y.side.halted ≡ None → new.halted ≡ None
  still_runs new halted h none runs = by h.halts
    where
      by : (halted ≡ old.halted) × (y.side.halted ≡ None) ⊎ ((fault : Fault) × (y.side.halted ≡ Some fault) × (halted ≡ halted_by fault old.halted)) → new.halted ≡ None
      by (inl (same, also)) = ap (λ (p : Parts). p.halted) h.is ∙ same ∙ none
      by (inr (fault, halts, is)) = absurd (none_some fault (sym runs ∙ halts))

  halts_too : (new : Parts) (halted : Option Fault) → HandedOut new halted → (fault : Fault) → y.side.halted ≡ Some fault → is_some new.halted ≡ true
  halts_too new halted h fault log_halts = by h.halts
    where
      by : (halted ≡ old.halted) × (y.side.halted ≡ None) ⊎ ((fault : Fault) × (y.side.halted ≡ Some fault) × (halted ≡ halted_by fault old.halted)) → is_some new.halted ≡ true
      by (inl (same, runs)) = absurd (none_some fault (sym runs ∙ log_halts))
      by (inr (first, halts, is)) = ap is_some (ap (λ (p : Parts). p.halted) h.is ∙ is) ∙ halted_is first old.halted

  abbrev s : Super
  s = super_of (page_of (image_of end.base) 8)

  abbrev page : ℕ → List ℕ
  page = page_of (image_of end.base)

  served_now : (new : Parts) (halted : Option Fault) → HandedOut new halted → d.tells → IfConsistent end.base (λ s page. IsServed s page v.is_broken_off end.list new)
  served_now new halted h t consistent =
      subst (λ (p : Parts). IsServed s page v.is_broken_off end.list p) (sym h.is) record {
        start = settled.start;
        holds = settled.holds;
        runs = settled.runs;
        goes_on = handed v.is_broken_off settled.goes_on;
      }
    where
      mid : Parts
      mid = record old { halted = halted }

      ran : halted ≡ None → old.halted ≡ None
      ran none = by h.halts
        where
          by : (halted ≡ old.halted) × (y.side.halted ≡ None) ⊎ ((fault : Fault) × (y.side.halted ≡ Some fault) × (halted ≡ halted_by fault old.halted)) → old.halted ≡ None
          by (inl (same, also)) = sym same ∙ none
          by (inr (fault, halts, is)) = absurd (halted_runs fault old.halted (sym is ∙ none))

      settled : IsServed s page v.is_broken_off end.list mid
      settled = served_settled d.tells ⊥ t s page v.is_broken_off end.list old mid (group_settles old mid refl) (group_pages d.tells old mid refl) ran (stands.served t consistent)

      handed : (is_broken_off : Bool) → HistoryGoesOn is_broken_off (volume_of s page).area s.logpxd.len settled.start (timed_in end.list) mid → HistoryGoesOn is_broken_off (volume_of s page).area s.logpxd.len settled.start (timed_in end.list) (record mid { entries = [] })
      handed false goes = handed_law (volume_of s page).area s.logpxd.len settled.start (timed_in end.list) mid goes
      handed true over = over_handed_law (volume_of s page).area s.logpxd.len settled.start (timed_in end.list) mid over

  -- what is known of what was done last
  pub record EndsAs (last : Last) (ending : Ending) : Type 0 where
    pub home : ending ≡ Home → IsAtHome last old
    pub rests : ending ≡ Home → d.tells → d.tells_crashes → IfKeepable end.base (λ s image. IsResting (last_of old.past))
    pub runs : ending ≡ Home → y.side.halted ≡ None
    pub left : ending ≡ Left → IsLeftFor last old y.side.halted
    pub full : ending ≡ Full → last ≡ Syncpoint
    pub durable : IsDurableFor last old y.side.durable y.side.halted

  pub ends_as : (x : SharedVolume D) (log : SharedLog D d) (n : shared.Seen) → shared.AreOf (shared_standing d) (log_standing d) n x log → end.base ≡ n.base → (last : Last) (ending : Ending) → (ending ≡ Home → IsAtHome last old) → (ending ≡ Home → RestsBehind d x log v)
      → (ending ≡ Home → y.side.halted ≡ None) → (ending ≡ Left → IsLeftFor last old y.side.halted) → (ending ≡ Full → last ≡ Syncpoint) → IsDurableFor last old y.side.durable y.side.halted → EndsAs last ending
  ends_as x log n are same last ending home rests runs left full durable = record {
    home = home;
    rests = λ is t c. subst (λ (base : Base). IfKeepable base (λ s image. IsResting (last_of old.past))) (sym same) (rests is n are t c);
    runs = runs;
    left = left;
    full = full;
    durable = durable;
  }

  module _ (x : Stopped D d) (halted : Option Fault) (h : HandedOut x.mounted.volume halted) (log : x.mounted.log ≡ y.side) (history : x.history.items ≡ old.entries) (broken_off : x.is_broken_off ≡ v.is_broken_off)
      (reads : d.tells_crashes → d.image y.side.part ≡ seen_of (last_of (d.past y.side.part))) (last : Last) (ended : EndsAs last x.ending) where
    faults : x.mounted.volume.faults ≡ old.faults
    faults = ap (λ (p : Parts). p.faults) h.is

    moved : {A : Type 0} → A ⊎ (Rose m.faults old.faults ⊎ Rose m.log.faults log_faults) → A ⊎ AnyRose m x.mounted.volume (d.fault_count x.mounted.log.part)
    moved {A} r = subst {A = ℕ × ℕ} (λ z. A ⊎ (Rose m.faults z.0 ⊎ Rose m.log.faults z.1)) (λ i. (sym faults i, d.fault_count (sym log i).part)) r

    ends : IsEndOf d m x
    ends = record {
      pages = ap (λ (p : Parts). p.count) h.is ∙ stands.disk.pages;
      room = ap (λ (p : Parts). p.room) h.is ∙ stands.disk.room;
      log_pages = ap (λ side. d.page_count side.part) log ∙ both.log.pages;
      faults = subst (λ (n : ℕ). Grows m.faults n) (sym faults) stands.disk.faults;
      log_faults = subst (λ side. Grows m.log.faults (d.fault_count side.part)) (sym log) both.log.faults;
      runs = moved (runs_now x.mounted.volume halted h);
      calm = moved (subst (λ (es : List Entry). (any_failed es ≡ false) ⊎ (Rose m.faults old.faults ⊎ Rose m.log.faults log_faults)) (sym history) (over stands.disk.calm));
      halts = λ fault e.
          let halts : y.side.halted ≡ Some fault = ap (λ side. side.halted) (sym log) ∙ e in (
            subst (λ side. HaltsLog m (d.fault_count side.part) fault) (sym log) (both.log.halts fault halts),
            halts_too x.mounted.volume halted h fault halts,
          );
    }

    -- what halted is told by a count
    risen : HasHalted old y.side.halted → AnyRose m x.mounted.volume (d.fault_count x.mounted.log.part)
    risen (inl volume) = by (moved (over stands.disk.runs))
      where
        by : (old.halted ≡ None) ⊎ AnyRose m x.mounted.volume (d.fault_count x.mounted.log.part) → AnyRose m x.mounted.volume (d.fault_count x.mounted.log.part)
        by (inl none) = absurd (false≢true (sym (ap is_some none) ∙ volume))
        by (inr rose) = rose
    risen (inr log_halted) = by y.side.halted refl
      where
        by : (f : Option Fault) → y.side.halted ≡ f → AnyRose m x.mounted.volume (d.fault_count x.mounted.log.part)
        by None is = absurd (false≢true (sym (ap is_some is) ∙ log_halted))
        by (Some fault) is = inr (subst (λ side. Rose m.log.faults (d.fault_count side.part)) (sym log) (both.log.halts fault is).1)

    reached_by : (y.side.durable ≡ old.appended) ⊎ HasHalted old y.side.halted → (x.mounted.log.durable ≡ length end.list) ⊎ AnyRose m x.mounted.volume (d.fault_count x.mounted.log.part)
    reached_by (inl all) = inl (ap (λ side. side.durable) log ∙ all ∙ stands.appended)
    reached_by (inr halted_now) = inr (risen halted_now)

    pub is_stopped : IsStopped d last ps x
    is_stopped = record {
      base = end.base;
      list = end.list;
      history = history ∙ stands.entries;
      all = ap (λ (p : Parts). p.appended) h.is ∙ stands.appended;
      none = ap (λ (p : Parts). p.entries) h.is;
      durable_within = omega (arith, durable_is, passes.durable_within);
      passes_go_on = λ i p is. let g = passes.own i p is in record { own = g.0; reached = omega (arith, durable_is, g.1) };
      base_is = passes.base_is;
      clients = passes.clients;
      ends = ends;
      served = λ t consistent. subst (λ (b : Bool). IsServed (super_of (page_of (image_of end.base) 8)) (page_of (image_of end.base)) b end.list x.mounted.volume) (sym broken_off) (served_now x.mounted.volume halted h t consistent);
      left = λ t c checked.
          subst {A = ℕ × DiskState} (λ z. IsLeft s (image_of end.base) end.list z.0 z.1) (λ i. (sym durable_is i, last_of (sym (ap (λ (p : Parts). p.past) h.is) i) ++ last_of (d.past (sym log i).part)))
          (left_is d _ v y both reads t c checked);
      again = λ t c checked. subst (λ (p : Parts). LeavesKeepable s page p) (sym h.is) (λ left volume has whole.
          let home = volume.home in
          unmounted_again_law s page _ _ _ old (stands.kept t c checked).since left
          (record { files = volume.files; consistent = volume.consistent; home = record { clean = home.clean; block_map = home.block_map; inode_map = home.inode_map } })
          (record { pages = has.pages; disk = has.disk }) whole);
      home = λ is. (
          let home = ended.home is in
          record {
            asked = home.asked;
            home = subst IsAllHome (sym h.is) (record { clean = home.home.clean; block_map = home.home.block_map; inode_map = home.home.inode_map });
            runs = still_runs x.mounted.volume halted h home.runs (ended.runs is);
          });
      rests = λ is t c checked. subst (λ (p : Parts). IsResting (last_of p.past)) (sym h.is) (ended.rests is t c checked);
      left_for = λ is asked. risen (ended.left is asked);
      full = ended.full;
      reached = λ some. reached_by (ended.durable some);
    }
      where
        durable_is : x.mounted.log.durable ≡ end.durable
        durable_is = ap (λ side. side.durable) log ∙ both.log.count
