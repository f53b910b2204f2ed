-- A call that a volume could serve is a step of the plain file tree that the volume holds.
use Rattle.std.proofs.Common.{◌≡◌, ◌≢◌, ◌⊎◌, ◌++◌, ◌∷◌, [], refl, sym, ap, ◌∙◌, subst, ℕ, Bool, true, false, if◌then◌else◌, List, inl, inr, Option, Some, None, Result, Ok, Err}
use Rattle.std.specs.Prelude.{IfErr}
use Rattle.std.proofs.lemmas.Bool.{false≢true}
use Rattle.std.proofs.lemmas.Option.{none-some}
use Rattle.jfs_disk.specs.declared.disk.Fault.{Fault}
use Rattle.jfs_disk.specs.declared.disk.Part.TheVariants.{High}
use Rattle.jfs_logpages.specs.declared.fault.LogFault.{LogFault}
use Rattle.jfs_ranges.specs.declared.edit.Edit.{Edit}
use Rattle.jfs_served.specs.files.specs.data_steps.specs.declared.pages.DataPage.{DataPage}
use Rattle.jfs_served.specs.files.specs.declared.outcome.FileOutcome.{FileOutcome}
use Rattle.jfs_served.specs.files.specs.declared.outcome.FileOutcome.TheVariants.{Changed, Same as Unchanged, NeedsLog as Awaits}
use Rattle.jfs_served.specs.plain.specs.Call.{is_changing}
use Rattle.jfs_served.specs.plain.specs.CallStep.{is_sync, writes}
use Rattle.jfs_served.specs.plain.specs.declared.call.Call.{Call}
use Rattle.jfs_served.specs.plain.specs.declared.call.Call.TheVariants as calls
use Rattle.jfs_served.specs.plain.specs.declared.refusal.Refusal.TheVariants.{ReadOnly, IoFault, OutOfMemory}
use Rattle.jfs_served.specs.plain.specs.declared.reply.Reply.{Reply}
use Rattle.jfs_served.specs.plain.specs.declared.reply.Reply.TheVariants.{Done, Refused}
use Rattle.jfs_served.specs.volume.specs.Asked.{IsAskedOf}
use Rattle.jfs_served.specs.volume.specs.Join.{entry_with, with_entry}
use Rattle.jfs_served.specs.volume.specs.Called.{StopsReading, StopsPutting}
use Rattle.jfs_served.specs.volume.specs.Settles.{Settles}
use Rattle.jfs_served.specs.volume_calls.specs.Written.{KeepsPages}
use Rattle.jfs_served.specs.halves.specs.Parts.{Parts}
use Rattle.jfs_served.specs.volume.specs.pages.specs.Device.{IsFault, HasFault}
use Rattle.jfs_served.specs.plain.specs.declared.call.Entry.{Entry}
use Rattle.jfs_served.specs.call.specs.Answer.{held}
use Rattle.jfs_served.specs.call.specs.Changed.{IsChangedBy, IsFailedBy, FailsUnsaid}
use Rattle.jfs_served.specs.call.specs.Needs.{AnswersOf}
use Rattle.jfs_served.specs.call.specs.Replied.{IsReplied, TellsSame, is_kept_back}
use Rattle.jfs_served.specs.call.specs.Does.{Syncs, TellsSynced, ChangesWhere, EndsBy, DoesWhere, Does}
use Rattle.jfs_served.specs.call.specs.DoesLent.{Both, Asking, End, DoesAlone, NeedsThen, GivesUp, AfterCommit, CommitsThen, AfterPoint, PointsThen, DoesLast, DoesPointed, DoesAgain}
use Rattle.jfs_served.specs.call.specs.declared.outcome.Outcome.{Outcome}
use Rattle.jfs_served.specs.call.specs.declared.outcome.Outcome.TheVariants.{Replied, NeedsLog, NoMemory}
use Rattle.jfs_served.specs.Holds.{HoldsTree, MayServe, KeepsTree, StaysServing}
use Rattle.jfs_served.specs.Step.{IsAsked, IsAnswer, TakesStep}
use Rattle.jfs_served.specs.Legal.{Timed, HasServed}
use Rattle.jfs_served.specs.Torn.{TornLaw}
use Rattle.jfs_served.specs.Laws.{ChangedLaw, GivenBackLaw, UnfinishedLaw, UnchangedLaw, AskedLaw, JoinedLaw, RefusedLaw, AcknowledgedLaw, PointedLaw, HandedOutLaw, HomeLaw, AgainLaw, MountedLaw, UnmountedLaw, HistoryLaw}
use Rattle.jfs_served.proofs.Told.{told_asked, told_joins, told_pages, told_shown, told_home}
use Rattle.jfs_legal.specs.History.{at}

-- what is known of the tree that a volume holds
pub record Laws : Type 0 where
  pub changed : ChangedLaw
  pub given_back : GivenBackLaw
  pub unfinished : UnfinishedLaw
  pub unchanged : UnchangedLaw
  pub asked : AskedLaw
  pub joined : JoinedLaw
  pub refused : RefusedLaw
  pub torn : TornLaw
  pub acknowledged : AcknowledgedLaw
  pub pointed : PointedLaw
  pub handed_out : HandedOutLaw
  pub home : HomeLaw
  pub again : AgainLaw
  pub mounted : MountedLaw
  pub unmounted : UnmountedLaw
  pub history : HistoryLaw

-- What a call leaves of a volume that could serve it: with its entry the history is legal and the next call may come; where memory lacked, nothing is said here.
abbrev pub Left : (ℕ → ℕ) → ℕ → Parts → List Timed → Asking → Parts → Outcome → Type 0
Left area log_pages start es a new (Replied reply number waits) = HasServed area log_pages start (es ++ at a.now (entry_with a.caller.client a.caller.line a.request reply) ∷ []) new
Left area log_pages start es a new NeedsLog = HasServed area log_pages start es new
Left area log_pages start es a new NoMemory = Unit {0}

-- What a call leaves without a reply, where memory lacked: the volume is still a consistent one, with its tree while it runs.
pub record Lacks (area : ℕ → ℕ) (log_pages : ℕ) (old new : Parts) : Type 0 where
  pub holds : HoldsTree area log_pages new
  pub keeps : new.halted ≡ None → KeepsTree area log_pages old new

-- ---- tests

sync_is : (call : Call) → is_sync call ≡ true → call ≡ calls.Sync
sync_is calls.Sync e = refl
sync_is _ e = absurd (false≢true e)

-- what a halted volume refuses
held_by : (b : Bool) (halted : Option Fault) (fault : Fault) → (if b then halted else None) ≡ Some fault → (halted ≡ Some fault) × (b ≡ true)
held_by true halted fault e = (e, refl)
held_by false halted fault e = absurd (none-some fault e)

-- want of memory isn't a reply
told_reply : (reply : Reply) → is_kept_back reply ≡ false → reply ≢ Refused OutOfMemory
told_reply reply e is = false≢true (sym e ∙ ap is_kept_back is)

-- what was acknowledged
pub settled : (laws : Laws) (tells crashes : Type 0) (told : tells) (area : ℕ → ℕ) (log_pages : ℕ) (start : Parts) (es : List Timed) (old new : Parts)
    → HasServed area log_pages start es old → Settles old new → KeepsPages tells old new → HasServed area log_pages start es new
settled laws tells crashes told area log_pages start es old new so_far settles files =
    laws.history.stays area log_pages start old new es so_far (laws.acknowledged area log_pages old new so_far.serves.holds settles (told_pages tells crashes told old new files))

module _ (laws : Laws) (tells crashes : Type 0) (told : tells) (area : ℕ → ℕ) (log_pages : ℕ) (a : Asking) where
  -- how one call leaves a volume that could serve it
  abbrev pub Ends : Parts → Parts → Outcome → Type 0
  Ends old new (Replied reply number waits) = TakesStep area log_pages a.request.call a.now reply old new
  Ends old new NeedsLog = StaysServing area log_pages old new
  Ends old new NoMemory = Lacks area log_pages old new

  -- it has what another volume has that keeps the tree
  lacks : (old mid new : Parts) → KeepsTree area log_pages old mid → new ≡ mid → Lacks area log_pages old new
  lacks old mid new keeps same = subst (Lacks area log_pages old) (sym same) (record { holds = keeps.holds; keeps = λ runs. keeps })

  ends_none : (old mid new : Parts) (outcome : Outcome) → KeepsTree area log_pages old mid → new ≡ mid → outcome ≡ NoMemory → Ends old new outcome
  ends_none old mid new outcome keeps same e = subst (Ends old new) (sym e) (lacks old mid new keeps same)

  -- ---- replies that join alone

  replied : (given : Reply) (wait : Bool) (old mid new : Parts) (outcome : Outcome) → StaysServing area log_pages old mid
      → ((last : Parts) → last.faults ≡ mid.faults → StaysServing area log_pages old last → TakesStep area log_pages a.request.call a.now given old last)
      → IsReplied a.caller a.request given wait mid new outcome → Ends old new outcome
  replied given wait old mid new (Replied reply number waits) stays step r =
      let entry = entry_with a.caller.client a.caller.line a.request given in
      let joined = laws.joined area log_pages entry mid new stays.keeps.holds r.parts in
      subst (λ (given_reply : Reply). TakesStep area log_pages a.request.call a.now given_reply old new) (sym r.reply_is)
      (step new (ap (λ (p : Parts). p.faults) r.parts) (laws.again area log_pages old mid new stays joined))
  replied given wait old mid new NeedsLog stays step r = absurd r
  replied given wait old mid new NoMemory stays step r = lacks old mid new stays.keeps r

  itself : (old : Parts) → MayServe area log_pages old → StaysServing area log_pages old old
  itself old may = laws.home area log_pages old old may.holds (record { parts = refl; view = λ t. refl })

  -- ---- a halted volume

  refused : (fault : Fault) (old new : Parts) (outcome : Outcome) → MayServe area log_pages old → held old.halted a.request.call ≡ Some fault
      → IsReplied a.caller a.request (Refused (ReadOnly fault)) false old new outcome → Ends old new outcome
  refused fault old new outcome may e r =
      let by = held_by (writes a.request.call) old.halted fault e in
      replied (Refused (ReadOnly fault)) false old old new outcome (itself old may) (λ last same stays. laws.refused.halted area log_pages a.request.call a.now fault old last may stays by.0 by.1) r

  -- ---- a call that is refused for a fault

  refused_by : (fault : Fault) (old mid new : Parts) (outcome : Outcome) → MayServe area log_pages old → StaysServing area log_pages old mid → IsFault old.faults mid.faults fault ⊎ (fault.part ≡ High)
      → IsReplied a.caller a.request (Refused (IoFault fault)) false mid new outcome → Ends old new outcome
  refused_by fault old mid new outcome may stays cause r =
      replied (Refused (IoFault fault)) false old mid new outcome stays
      (λ last same keeps. laws.refused.failed area log_pages a.request.call a.now fault old last may keeps (elim cause [
        | inl low ↦ inl (subst (λ (n : ℕ). IsFault old.faults n fault) (sym same) low)
        | inr high ↦ inr high
      ])) r

  -- ---- `sync`

  synced_by : (old mid new : Parts) (outcome : Outcome) (synced : Result (Unit {0}) Fault) → HasFault old.faults mid.faults synced → MayServe area log_pages old → a.request.call ≡ calls.Sync → StaysServing area log_pages old mid
      → TellsSynced a.caller a.request synced mid new outcome → Ends old new outcome
  synced_by old mid new outcome (Ok done) cause may is stays r =
      replied Done true old mid new outcome stays
      (λ last same keeps. subst (λ (call : Call). TakesStep area log_pages call a.now Done old last) (sym is) (laws.refused.synced area log_pages a.now old last may keeps)) r
  synced_by old mid new outcome (Err fault) cause may is stays r = refused_by fault old mid new outcome may stays (inl cause) r

  synced : (old new : Parts) (outcome : Outcome) → MayServe area log_pages old → is_sync a.request.call ≡ true → Syncs tells crashes a.caller a.request old new outcome → Ends old new outcome
  synced old new outcome may is s =
      synced_by old s.mid new outcome s.synced s.is.cause may (sync_is a.request.call is) (laws.home area log_pages old s.mid may.holds (told_home tells crashes told old s.mid s.is.alone)) s.told

  -- ---- file calls

  answered : (old mid : Parts) (answer : FileOutcome) → AnswersOf tells a.request a.now old mid answer → IsAnswer a.request a.now old mid answer
  answered old mid answer b = record { fault = b.fault; maps = b.maps told; contents = b.contents; follows = b.follows told; starts = b.starts told; own = b.own told }

  module _ (old mid : Parts) (may : MayServe area log_pages old) (asked : IsAskedOf tells crashes old mid) where
    was : IsAsked old mid
    was = told_asked tells crashes told old mid asked

    module _ (tx : List Edit) (put : List DataPage) (is : IsAnswer a.request a.now old mid (Changed tx put)) where
      cause_of : (fault : Fault) (new : Parts) → IsFault mid.faults new.faults fault → IsFault old.faults new.faults fault
      cause_of fault new cause = subst (λ (n : ℕ). IsFault n new.faults fault) (ap (λ (low : Fault). low.count) is.fault) cause

      -- a page couldn't be read; or a write of its data failed
      failed : (fault : Fault) (new : Parts) (reply : Reply) (number : ℕ) (waits : Bool) (f : IsFailedBy tells crashes a.caller a.request tx put fault mid new reply number waits)
          → StopsReading tells crashes mid f.mid ⊎ StopsPutting tells crashes tx put fault mid f.mid → TakesStep area log_pages a.request.call a.now reply old new
      failed fault new reply number waits f by = subst (λ (given : Reply). TakesStep area log_pages a.request.call a.now given old new) (sym f.reply_is) (step by)
        where
          entry : Entry
          entry = entry_with a.caller.client a.caller.line a.request (Refused (IoFault fault))

          cause : IsFault old.faults f.mid.faults fault
          cause = cause_of fault f.mid f.fails.is_fault

          step : StopsReading tells crashes mid f.mid ⊎ StopsPutting tells crashes tx put fault mid f.mid → TakesStep area log_pages a.request.call a.now (Refused (IoFault fault)) old new
          step (inl reads) =
              let stays = laws.given_back area log_pages a.request a.now tx put old mid f.mid may was is f.given_back (reads.view told) in
              laws.refused.failed area log_pages a.request.call a.now fault old new may
              (laws.again area log_pages old f.mid new stays (laws.joined area log_pages entry f.mid new stays.keeps.holds f.parts))
              (inl (subst (λ (n : ℕ). IsFault old.faults n fault) (sym (ap (λ (p : Parts). p.faults) f.parts)) cause))
          step (inr puts) = laws.torn area log_pages a.request a.now tx put fault entry old mid f.mid new may was is f.given_back (puts.view told) cause f.parts

      -- what was reserved stays reserved
      reserved : KeepsTree area log_pages old mid
      reserved = laws.unfinished area log_pages a.request a.now tx put old mid mid may was is (record { joins_not = record { parts = refl }; map = inr (record { states = refl; agsize = refl }) }) refl

      -- no memory for the refusal: what its entry would leave, without that entry
      unsaid : (new : Parts) (f : FailsUnsaid tells crashes tx put mid new) → StopsReading tells crashes mid new ⊎ StopsPutting tells crashes tx put f.fault mid new → Lacks area log_pages old new
      unsaid new f (inl reads) = lacks old new new (laws.given_back area log_pages a.request a.now tx put old mid new may was is f.given_back (reads.view told)).keeps refl
      unsaid new f (inr puts) =
          let entry = entry_with a.caller.client a.caller.line a.request (Refused (IoFault f.fault)) in
          let h = (laws.torn area log_pages a.request a.now tx put f.fault entry old mid new (with_entry entry new) may was is f.given_back (puts.view told) (cause_of f.fault new f.fails.is_fault) refl).serves.holds in
          record {
            holds = record { consistent = h.consistent; limit = h.limit; within = h.within; places = h.places; few = h.few; bits = h.bits; freed = h.freed; areas = h.areas };
            keeps = λ runs. absurd (none-some f.fault (sym runs ∙ puts.halted));
          }

      changed : (new : Parts) (outcome : Outcome) → IsChangedBy tells crashes a.caller a.request tx put mid new outcome → Ends old new outcome
      changed new (Replied reply number waits) (inl d) =
          subst (λ (given : Reply). TakesStep area log_pages a.request.call a.now given old new) (sym d.reply_is)
          (laws.changed area log_pages a.request a.now tx put (entry_with a.caller.client a.caller.line a.request Done) number old mid new may was is
          (told_joins tells crashes told (entry_with a.caller.client a.caller.line a.request Done) tx put number mid new d.joins.joins))
      changed new (Replied reply number waits) (inr (fault, f)) = failed fault new reply number waits f f.fails.fails
      changed new NeedsLog (given, goes, lacks) = laws.given_back area log_pages a.request a.now tx put old mid new may was is given (goes.view told)
      changed new NoMemory (inl (given, goes)) = lacks old new new (laws.unfinished area log_pages a.request a.now tx put old mid new may was is given (goes.view told)) refl
      changed new NoMemory (inr (inl same)) = lacks old mid new reserved same
      changed new NoMemory (inr (inr f)) = unsaid new f f.fails.fails

      changes : (b : Bool) (new : Parts) (outcome : Outcome) → ChangesWhere b tells crashes a.caller a.request tx put mid new outcome → Ends old new outcome
      changes true new outcome c = changed new outcome c
      changes false new outcome (none, same) = ends_none old mid new outcome reserved same none

    -- nothing of its map was reserved
    stays : (same : mid.map ≡ old.map) → StaysServing area log_pages old mid
    stays same = laws.asked area log_pages old mid may.holds was same

    told_same : (reply : Reply) (new : Parts) (outcome : Outcome) → IsAnswer a.request a.now old mid (Unchanged reply) → TellsSame a.caller a.request reply mid new outcome → Ends old new outcome
    told_same reply new (Replied given number waits) is (inl (kept, r)) =
        subst (λ (given_reply : Reply). TakesStep area log_pages a.request.call a.now given_reply old new) (sym r.reply_is)
        (laws.unchanged area log_pages a.request a.now reply (entry_with a.caller.client a.caller.line a.request reply) old mid new may was is (told_reply reply kept) r.parts)
    told_same reply new NeedsLog is (inl (kept, r)) = absurd r
    told_same reply new NoMemory is (inl (kept, r)) = lacks old mid new (stays (ap (λ maps. maps.blocks) is.maps)).keeps r
    told_same reply new outcome is (inr (none, same)) = ends_none old mid new outcome (stays (ap (λ maps. maps.blocks) is.maps)).keeps same none

    by_answer : (answer : FileOutcome) (new : Parts) (outcome : Outcome) → IsAnswer a.request a.now old mid answer → EndsBy tells crashes a.caller a.request answer mid new outcome → Ends old new outcome
    by_answer (Changed tx put) new outcome is e = changes tx put is (is_changing a.request.call) new outcome e
    by_answer (Unchanged reply) new outcome is e = told_same reply new outcome is e
    by_answer Awaits new outcome is (needs, same) =
        subst (Ends old new) (sym needs) (subst (λ (p : Parts). StaysServing area log_pages old p) (sym same) (stays (ap (λ maps. maps.blocks) is.maps)))

  -- ---- any call

  does_by : (refused_for : Option Fault) (syncs : Bool) (old new : Parts) (outcome : Outcome) → MayServe area log_pages old → held old.halted a.request.call ≡ refused_for → is_sync a.request.call ≡ syncs
      → DoesWhere refused_for syncs tells crashes a.caller a.request a.now old new outcome → Ends old new outcome
  does_by (Some fault) syncs old new outcome may h s d = refused fault old new outcome may h d
  does_by None true old new outcome may h s d = synced old new outcome may s d
  does_by None false old new outcome may h s d = by_answer old d.mid may d.asked d.answer new outcome (answered old d.mid d.answer d.answers) d.ends

  pub does : (old new : Parts) (outcome : Outcome) → MayServe area log_pages old → Does tells crashes a.caller a.request a.now old new outcome → Ends old new outcome
  does old new outcome may d = does_by (held old.halted a.request.call) (is_sync a.request.call) old new outcome may refl refl d

  -- ---- behind a legal history

  module _ (start : Parts) (es : List Timed) where
    pub leaves_by : (old new : Parts) (outcome : Outcome) → HasServed area log_pages start es old → Ends old new outcome → Left area log_pages start es a new outcome
    leaves_by old new (Replied reply number waits) so_far step = laws.history.takes area log_pages start old new es (at a.now (entry_with a.caller.client a.caller.line a.request reply)) so_far step
    leaves_by old new NeedsLog so_far stays = laws.history.stays area log_pages start old new es so_far stays
    leaves_by old new NoMemory so_far e = tt

    leaves_none : (new : Parts) (outcome : Outcome) → outcome ≡ NoMemory → Left area log_pages start es a new outcome
    leaves_none new outcome e = subst (Left area log_pages start es a new) (sym e) tt

    -- what follows leaves it so, from each volume that has served so far
    abbrev Follows : (Both → End → Type 0) → Type 0
    Follows follows = (mid : Both) (end : End) → HasServed area log_pages start es mid.volume → follows mid end → Left area log_pages start es a end.both.volume end.outcome

    alone : Follows (DoesAlone tells crashes a)
    alone old end so_far d = leaves_by old.volume end.both.volume end.outcome so_far (does old.volume end.both.volume end.outcome so_far.serves d.0)

    gives_up : Follows GivesUp
    gives_up old end so_far g = leaves_none end.both.volume end.outcome g.1

    needs_then : (follows : Both → End → Type 0) → Follows follows → Follows (NeedsThen tells crashes a follows)
    needs_then follows goes old end so_far (asked, d, rest) =
        goes (record old { volume = asked }) end (laws.history.stays area log_pages start old.volume asked es so_far (does old.volume asked NeedsLog so_far.serves d)) rest

    commits_then : (follows : Both → End → Type 0) → Follows follows → Follows (CommitsThen tells crashes a follows)
    commits_then follows goes old end so_far c = go c.result c.commits.cause c.ends
      where
        stays : StaysServing area log_pages old.volume c.mid.volume
        stays = laws.acknowledged area log_pages old.volume c.mid.volume so_far.serves.holds c.commits.settles (told_pages tells crashes told old.volume c.mid.volume c.commits.files)

        go : (result : Result (Unit {0}) LogFault) → IfErr result (λ (why : LogFault). why.fault.part ≡ High) → AfterCommit a follows c.mid end result → Left area log_pages start es a end.both.volume end.outcome
        go (Ok done) cause e = goes c.mid end (laws.history.stays area log_pages start old.volume c.mid.volume es so_far stays) e
        go (Err why) cause e = leaves_by old.volume end.both.volume end.outcome so_far (refused_by why.fault old.volume c.mid.volume end.both.volume end.outcome so_far.serves stays (inr cause) e.0)

    points_then : (follows : Both → End → Type 0) → Follows follows → Follows (PointsThen tells crashes a follows)
    points_then follows goes old end so_far c = go c.result c.points.cause c.ends
      where
        stays : StaysServing area log_pages old.volume c.mid.volume
        stays = laws.pointed area log_pages old.volume c.mid.volume so_far.serves.holds c.points.settles (told_shown tells crashes told old.volume c.mid.volume c.points.shown) (c.points.leaves told)

        go : (result : Result (Unit {0}) Fault) → IfErr result (λ fault. IsFault old.volume.faults c.mid.volume.faults fault ⊎ (fault.part ≡ High)) → AfterPoint a follows c.mid end result → Left area log_pages start es a end.both.volume end.outcome
        go (Ok done) cause e = goes c.mid end (laws.history.stays area log_pages start old.volume c.mid.volume es so_far stays) e
        go (Err fault) cause e = leaves_by old.volume end.both.volume end.outcome so_far (refused_by fault old.volume c.mid.volume end.both.volume end.outcome so_far.serves stays cause e.0)

    last : Follows (DoesLast tells crashes a)
    last old end so_far (inl d) = alone old end so_far d
    last old end so_far (inr n) = needs_then GivesUp gives_up old end so_far n

    pointed : Follows (DoesPointed tells crashes a)
    pointed old end so_far (inl (full, g)) = gives_up old end so_far g
    pointed old end so_far (inr p) = points_then (DoesLast tells crashes a) last old end so_far p

    abbrev AloneOrPointed : Both → End → Type 0
    AloneOrPointed mid end = DoesAlone tells crashes a mid end ⊎ NeedsThen tells crashes a (DoesPointed tells crashes a) mid end

    alone_or_pointed : Follows AloneOrPointed
    alone_or_pointed old end so_far (inl d) = alone old end so_far d
    alone_or_pointed old end so_far (inr n) = needs_then (DoesPointed tells crashes a) pointed old end so_far n

    pub again : Follows (DoesAgain tells crashes a)
    again old end so_far (inl (halted, g)) = gives_up old end so_far g
    again old end so_far (inr c) = commits_then AloneOrPointed alone_or_pointed old end so_far c

    -- a call that is lent the log
    pub lent : (old : Both) (end : End) → HasServed area log_pages start es old.volume → Does tells crashes a.caller a.request a.now old.volume end.both.volume end.outcome ⊎ NeedsThen tells crashes a (DoesAgain tells crashes a) old end
        → Left area log_pages start es a end.both.volume end.outcome
    lent old end so_far (inl d) = leaves_by old.volume end.both.volume end.outcome so_far (does old.volume end.both.volume end.outcome so_far.serves d)
    lent old end so_far (inr n) = needs_then (DoesAgain tells crashes a) again old end so_far n
