-- A run on a mounted volume ends.
use Rattle.std.proofs.Common.{◌≡◌, ◌⊎◌, ◌+◌, ◌-◌, ◌<◌, ◌≤◌, ◌^◌, refl, sym, ap, ◌∙◌, subst, ℕ, suc, Bool, true, false, List, [], ◌∷◌, length, inl, inr, arith}
use Rattle.std.specs.Prelude.{◌==◌, ◌||◌, not, min, if◌then◌else◌}
use Rattle.std.proofs.lemmas.Bool.{cases_eq, eq-eqb, eqb-true, ne_eqb}
use Rattle.std.proofs.lemmas.List.{length-map}
use Rattle.std.specs.Global.{Vec}
use Rattle.jfs_bits.specs.Count.{Rose}
use Rattle.jfs_bits.specs.declared.descriptor.Moment.{Moment}
use Rattle.jfs_disk.specs.Image.{Image}
use Rattle.jfs_disk.specs.declared.disk.Disk.{Ghosts}
use Rattle.jfs_super.specs.declared.fields.Super.{Super}
use Rattle.jfs_plain.specs.declared.call.Entry.{Entry}
use Rattle.jfs_plain.specs.declared.call.Line.{Line}
use Rattle.jfs_script.specs.History.{IsRisingFrom}
use Rattle.jfs_server.specs.groups.specs.Start.{Grows}
use Rattle.jfs_server.specs.groups.proofs.Counts.{at_least, rose_on, rose_since, grows_on}
use Rattle.jfs_server.specs.shared.specs.Entries.{Recorded}
use Rattle.jfs_server.specs.shared.specs.Shared.{entries_in}
use Rattle.jfs_run.specs.Calls.{Calls, HaveEntries, HaveFronts, AllTold, FirstTold, AreTakenAs, any_failed}
use Rattle.jfs_server.specs.declared.stopping.Ending.{Ending}
use Rattle.jfs_server.specs.declared.stopping.Ending.TheVariants.{Home, Left, Full}
use Rattle.jfs_run.specs.Ending.{IsEnded, RunSince, is_home, are_through, end_after}
use Rattle.jfs_run.specs.Mounted.{State, state, PartRose, Since}
use Rattle.jfs_run.specs.Run.{Seen, IsUnmounted}
use Rattle.jfs_run.specs.Serving.{IsCalled, IsServed}
use Rattle.jfs_run.specs.Tasks.{plan_of}
use Rattle.jfs_run.specs.Telling.{marks_of, told_from, marks_in}
use Rattle.jfs_run.specs.declared.run.RunEnd.TheVariants as ends
use Rattle.jfs_run.specs.declared.serving.Called.{Called}
use Rattle.jfs_run.proofs.Counts.{both_grow, both_rose}
use Rattle.jfs_run.proofs.Marked.{AreAll, are_all, fronts}
use Rattle.jfs_run.proofs.Plans.{whole, many_marks}
use Rattle.jfs_run.proofs.Told.{AreReached, told_rise, told_front, told_whole}

abbrev pub calls_of : List Entry → List ℕ → Calls
calls_of history told = record { history = history; told = told }

-- ---- what was called, and told

-- since the mount
pub record HasRun (plan : List (List Line)) (first : State) (history : List Entry) (told : List ℕ) (is_whole : Bool) (now : State) : Type 0 where
  pub fronts : HaveFronts plan history
  pub whole : is_whole ≡ true → HaveEntries plan history
  pub first_told : FirstTold (calls_of history told)
  pub all_told : AllTold (calls_of history told) ⊎ PartRose first now
  pub calm : (any_failed history ≡ false) ⊎ PartRose first now
  pub since : Since first now

-- the first n entries are among so many
reached_by : (n durable : ℕ) (ms : List Bool) → n + length ms ≤ suc durable → AreReached n durable ms
reached_by n durable [] most = tt
reached_by n durable (m ∷ ms) most = (λ marked. omega (arith, most), reached_by (suc n) durable ms (omega (arith, most)))

as_many_taken : (es : List Entry) (ws : List Bool) → AreTakenAs es ws → length ws ≡ length es
as_many_taken [] [] all = refl
as_many_taken [] (v ∷ vs) all = absurd all
as_many_taken (x ∷ xs) [] all = absurd all
as_many_taken (x ∷ xs) (v ∷ vs) all = ap suc (as_many_taken xs vs all.1)

module _ {D : Type 0} (d : Ghosts D) (scripts : List (Vec Line)) (now : Moment) (image : Image) (s : Super) (first : State) (marks : List (Vec Bool)) (x : Called D d) (told : List ℕ)
    (told_is : told ≡ told_from 1 x.mounted.log.durable (marks_of (marks_in marks) x.history.items)) (is_left : Bool) (served : IsServed d scripts now is_left image s first marks x) where
  abbrev last : State
  last = state d x.mounted.volume x.mounted.log

  module _ (c : IsCalled d scripts now image s first marks x) where
    abbrev durable : ℕ
    durable = x.mounted.log.durable

    abbrev taken : List Bool
    taken = marks_of (marks_in marks) (entries_in c.list)

    all : AreAll now x.failed durable 1 (marks_in marks) c.list
    all = are_all now x.failed durable 1 (length (plan_of scripts)) c.are.fronts (marks_in marks) c.list (omega (arith, many_marks now x.failed durable (plan_of scripts) (marks_in marks) c.list c.are)) c.are.others c.are.each

    told_here : told ≡ told_from 1 durable taken
    told_here = told_is ∙ ap (λ (es : List Entry). told_from 1 durable (marks_of (marks_in marks) es)) c.history

    told_of : AreReached 1 durable taken → AllTold (calls_of (entries_in c.list) told)
    told_of reached = record { waiting = taken; are = all.taken; told_is = told_here ∙ told_whole 1 durable taken reached }

    -- all entries are durable
    by_all : durable ≡ length c.list → AllTold (calls_of (entries_in c.list) told)
    by_all same = told_of (reached_by 1 durable taken
        (let long = as_many_taken (entries_in c.list) taken all.taken in let listed = length-map c.list (λ (e : Recorded). e.entry) in omega (arith, same, long, listed)))

    told_or_rose : (failed : Bool) → x.failed ≡ failed → AllTold (calls_of (entries_in c.list) told) ⊎ PartRose first last
    told_or_rose false is = inl (told_of (all.reached is))
    told_or_rose true is = by (c.reached is)
      where
        by : (durable ≡ length c.list) ⊎ PartRose first last → AllTold (calls_of (entries_in c.list) told) ⊎ PartRose first last
        by (inl same) = inl (by_all same)
        by (inr rose) = inr rose

    with_calls : HasRun (plan_of scripts) first x.history.items told x.is_whole last
    with_calls = subst (λ (es : List Entry). HasRun (plan_of scripts) first es told x.is_whole last) (sym c.history) record {
      fronts = fronts now x.failed durable (plan_of scripts) (marks_in marks) c.list c.are;
      whole = λ is. whole now x.failed durable scripts marks c.list c.are (c.whole is);
      first_told =
          let front = told_front 1 durable taken in
          record { waiting = taken; are = all.taken; count = front.0; told_is = told_here ∙ front.1 };
      all_told = told_or_rose x.failed refl;
      calm = subst (λ (es : List Entry). (any_failed es ≡ false) ⊎ PartRose first last) c.history served.calm;
      since = served.since;
    }

  pub has_run : HasRun (plan_of scripts) first x.history.items told x.is_whole last
  has_run = with_calls served.calls

pub rising : (history : List Entry) (told : List ℕ) → FirstTold (calls_of history told) → IsRisingFrom 1 told
rising history told is = subst (IsRisingFrom 1) (sym is.told_is) (told_rise is.count is.waiting)

-- ---- the end

-- what is through
pub record AreThrough (is_whole is_broken_off : Bool) : Type 0 where
  pub whole : is_whole ≡ true
  pub goes_on : is_broken_off ≡ false

pub through_of : (is_whole is_broken_off : Bool) → are_through is_whole is_broken_off ≡ true → AreThrough is_whole is_broken_off
through_of true false e = record { whole = refl; goes_on = refl }
through_of true true e = absurd (cc (e))
through_of false a e = absurd (cc (e))

pub home_of : (ending : Ending) → is_home ending ≡ true → ending ≡ Home
home_of Home e = refl
home_of Left e = absurd (cc (e))
home_of Full e = absurd (cc (e))

-- one of two that isn't so
pub at_last : {A : Type 0} (B : Type 0) → (A → ⊥) → A ⊎ B → B
at_last B none (inl a) = absurd (none a)
at_last B none (inr b) = b

-- said of fewer lines
pub with_lines : (plan : List (List Line)) (first now : State) (history : List Entry) (told : List ℕ) (is_whole is_through : Bool) → (is_through ≡ true → is_whole ≡ true) → HasRun plan first history told is_whole now → HasRun plan first history told is_through now
with_lines plan first now history told is_whole is_through by r = record { fronts = r.fronts; whole = λ is. r.whole (by is); first_told = r.first_told; all_told = r.all_told; calm = r.calm; since = r.since }

-- the counts of both parts, joined
abbrev pub joint : State → ℕ
joint s = min (s.volume.faults + s.high) (2 ^ 64 - 1)

module _ (first now : State) (before : ℕ) (counts : first.volume.faults + first.high ≡ before) (few : before < 2 ^ 64) (plan : List (List Line)) (history : List Entry) (told : List ℕ) (is_whole : Bool) (run : HasRun plan first history told is_whole now)
    (total : ℕ) (grown : Grows (joint now) total) where
  low_high : first.volume.faults + first.high < 2 ^ 64
  low_high = omega (arith, counts, few)

  joint_grew : Grows before (joint now)
  joint_grew = subst (λ (n : ℕ). Grows n (joint now)) counts (both_grow first.volume.faults now.volume.faults first.high now.high low_high run.since.keeps.low run.since.keeps.high)

  pub total_grew : Grows before total
  total_grew = grows_on before (joint now) total few joint_grew grown

  pub later : before ≤ total
  later = at_least before total few total_grew

  -- where the volume halted, the count rose
  halt_rose : PartRose first now → Rose before total
  halt_rose part = rose_since before (joint now) total few (subst (λ (n : ℕ). Rose n (joint now)) counts (both_rose first.volume.faults now.volume.faults first.high now.high low_high run.since.keeps.low run.since.keeps.high part)) grown

  risen_or : {A : Type 0} → A ⊎ PartRose first now → Rose before total ⊎ A
  risen_or (inl a) = inr a
  risen_or (inr part) = inl (halt_rose part)

  pub all_told : Rose before total ⊎ AllTold (calls_of history told)
  all_told = risen_or run.all_told

  pub all_calm : Rose before total ⊎ (any_failed history ≡ false)
  all_calm = risen_or run.calm

  -- the count is as it was, and not the last one
  module _ (same : total ≡ before) (below : total ≡ 2 ^ 64 - 1 → ⊥) where
    not_risen : Rose before total → ⊥
    not_risen (inl less) = omega (arith, less, same)
    not_risen (inr last) = below last

    still : {A : Type 0} → Rose before total ⊎ A → A
    still (inl rose) = absurd (not_risen rose)
    still (inr a) = a

    pub calm : any_failed history ≡ false
    calm = still all_calm

    pub told_all : AllTold (calls_of history told)
    told_all = still all_told

    -- where a count rises or a fact is so, it is so
    pub unrisen : {X : Type 0} → Rose (joint now) total ⊎ X → X
    unrisen (inl rose) = absurd (not_risen (rose_on before (joint now) total few joint_grew rose))
    unrisen (inr fact) = fact

    pub no_part : PartRose first now → ⊥
    no_part part = not_risen (halt_rose part)

module _ (tells crashes : Type 0) (superblock : List ℕ) (plan : List (List Line)) (is_left is_full : Bool) (first now : State) (before : ℕ) (counts : first.volume.faults + first.high ≡ before) (few : before < 2 ^ 64)
    (history : List Entry) (told : List ℕ) (is_whole : Bool) (run : HasRun plan first history told is_whole now) (new : Seen) (grown : Grows (joint now) new.faults)
    (ended : is_left ≡ false → is_full ≡ false → PartRose first now ⊎ (Rose (joint now) new.faults ⊎ IsEnded tells crashes superblock (joint now) new)) where
  -- memory ran out, or the log is full
  short : RunSince tells crashes superblock plan is_left before new (calls_of history told) ends.Memory
  short = (
    (run.fronts, run.first_told),
    all_told first now before counts few plan history told is_whole run new.faults grown,
    all_calm first now before counts few plan history told is_whole run new.faults grown,
  )

  faulty : is_whole ≡ true → Rose before new.faults → RunSince tells crashes superblock plan is_left before new (calls_of history told) ends.Disk
  faulty whole rose = (rose, (run.whole whole, run.first_told))

  done : is_whole ≡ true → is_full ≡ false → new.faults ≡ before → (new.faults ≡ 2 ^ 64 - 1 → ⊥) → RunSince tells crashes superblock plan is_left before new (calls_of history told) ends.Done
  done whole room same below = record {
    entries = run.whole whole;
    told = told_all first now before counts few plan history told is_whole run new.faults grown same below;
    calm = calm first now before counts few plan history told is_whole run new.faults grown same below;
    faults_are = same;
    ended = λ left. by (ended left room);
  }
    where
      by : PartRose first now ⊎ (Rose (joint now) new.faults ⊎ IsEnded tells crashes superblock (joint now) new) → IsUnmounted tells crashes superblock new
      by (inl part) = absurd (no_part first now before counts few plan history told is_whole run new.faults grown same below part)
      by (inr end) = (unrisen first now before counts few plan history told is_whole run new.faults grown same below end).unmounted

  risen : (new.faults ≡ before → ⊥) → Grows before new.faults → Rose before new.faults
  risen other (inl same) = absurd (other same)
  risen other (inr rose) = rose

  -- by the count and by room
  by_room : is_whole ≡ true → new.faults ≡ before → (new.faults ≡ 2 ^ 64 - 1 → ⊥) → (b : Bool) → is_full ≡ b → RunSince tells crashes superblock plan is_left before new (calls_of history told) (if b then ends.Memory else ends.Done)
  by_room whole same below true is = short
  by_room whole same below false is = done whole is same below

  by_count : is_whole ≡ true → (new.faults ≡ before) ⊎ (new.faults ≡ before → ⊥) → (new.faults ≡ 2 ^ 64 - 1) ⊎ (new.faults ≡ 2 ^ 64 - 1 → ⊥)
      → RunSince tells crashes superblock plan is_left before new (calls_of history told) (end_after true is_full before new.faults)
  by_count whole (inr other) last =
      rw (ne_eqb new.faults before other) (faulty whole (risen other (total_grew first now before counts few plan history told is_whole run new.faults grown)))
  by_count whole (inl same) (inl last) = rw (eq-eqb new.faults before same, eq-eqb new.faults (2 ^ 64 - 1) last) (faulty whole (inr last))
  by_count whole (inl same) (inr below) = rw (eq-eqb new.faults before same, ne_eqb new.faults (2 ^ 64 - 1) below) (by_room whole same below is_full refl)

  by_lines : (b : Bool) → is_whole ≡ b → RunSince tells crashes superblock plan is_left before new (calls_of history told) (end_after b is_full before new.faults)
  by_lines false is = short
  by_lines true is = by_count is (cases_eq new.faults before) (cases_eq new.faults (2 ^ 64 - 1))

  pub run_ends : RunSince tells crashes superblock plan is_left before new (calls_of history told) (end_after is_whole is_full before new.faults)
  run_ends = by_lines is_whole refl

-- ---- a run that is done

-- each line has its entry, the log isn't full, and the count is as it was, and not the last one
pub record IsThrough (is_whole is_full : Bool) (before now : ℕ) : Type 0 where
  pub whole : is_whole ≡ true
  pub room : is_full ≡ false
  pub same : now ≡ before
  pub below : now ≡ 2 ^ 64 - 1 → ⊥

pub done_through : (is_whole is_full : Bool) (before now : ℕ) → end_after is_whole is_full before now ≡ ends.Done → IsThrough is_whole is_full before now
done_through false is_full before now e = absurd (cc (e))
done_through true is_full before now e = by (now == before) refl (now == 2 ^ 64 - 1) refl is_full refl e
  where
    by : (a : Bool) → (now == before) ≡ a → (b : Bool) → (now == 2 ^ 64 - 1) ≡ b → (f : Bool) → is_full ≡ f → (if not a || b then ends.Disk else (if f then ends.Memory else ends.Done)) ≡ ends.Done → IsThrough true is_full before now
    by false x b y f z e = absurd (cc (e))
    by true x true y f z e = absurd (cc (e))
    by true x false y true z e = absurd (cc (e))
    by true x false y false z e = record { whole = refl; room = z; same = eqb-true now before x; below = λ last. absurd (cc (y, eq-eqb now (2 ^ 64 - 1) last)) }
