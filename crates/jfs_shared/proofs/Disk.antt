-- What becomes of a volume's part of the disk, and of the faults that its replies tell.
use Rattle.std.proofs.Common.{◌≡◌, ◌⊎◌, ◌||◌, ℕ, Bool, true, false, if◌then◌else◌, List, [], ◌∷◌, ◌++◌, Option, Some, None, refl, sym, ap, subst, ◌∙◌, inl, inr}
use Rattle.std.proofs.lemmas.Bool.{false≢true}
use Rattle.jfs_bits.specs.Count.{Rose}
use Rattle.jfs_disk.specs.declared.disk.Fault.{Fault}
use Rattle.jfs_plain.specs.CallStep.{writes}
use Rattle.jfs_plain.specs.declared.call.Entry.{Entry}
use Rattle.jfs_plain.specs.declared.call.Request.{Request}
use Rattle.jfs_plain.specs.declared.refusal.Refusal.TheVariants as refusals
use Rattle.jfs_plain.specs.declared.reply.Reply.{Reply}
use Rattle.jfs_plain.specs.declared.reply.Reply.TheVariants as replies
use Rattle.jfs_groups.specs.Points.{halt_mark, is_marked}
use Rattle.jfs_groups.specs.Start.{Grows}
use Rattle.jfs_groups.proofs.Counts.{grows_on, rose_on, rose_since}
use Rattle.jfs_kept_history.specs.legal.specs.served.specs.call.specs.Answer.{IsAnswered, IsHeld, RepliedBy, KeepsHalted, held}
use Rattle.jfs_kept_history.specs.legal.specs.served.specs.call.specs.declared.outcome.Outcome.TheVariants.{Replied, NeedsLog, NoMemory}
use Rattle.jfs_kept_history.specs.legal.specs.served.specs.call.specs.halves.specs.Parts.{Parts}
use Rattle.jfs_kept_history.specs.legal.specs.served.specs.call.specs.volume.specs.Join.{entry_with}
use Rattle.jfs_kept_history.specs.legal.specs.History.{has_failed}
use Rattle.jfs_kept_history.specs.legal.specs.served.specs.crash_core.specs.Step.{halted_by}
use Rattle.jfs_shared.specs.Base.{MountStart}
use Rattle.jfs_shared.specs.Home.{IsSettled}
use Rattle.jfs_shared.specs.Faults.{any_failed, HasRisen, IsOfDisk}
use Rattle.jfs_shared.proofs.Points.{marked_at_end}

-- what it depends on
pub record SameDisk (old new : Parts) : Type 0 where
  pub count : new.count ≡ old.count
  pub room : new.room ≡ old.room
  pub faults : new.faults ≡ old.faults
  pub entries : new.entries ≡ old.entries
  pub halted : new.halted ≡ old.halted

-- what a call leaves of it, without an entry
pub record KeptDisk (old new : Parts) : Type 0 where
  pub count : new.count ≡ old.count
  pub room : new.room ≡ old.room
  pub faults : Grows old.faults new.faults
  pub entries : new.entries ≡ old.entries
  pub halted : (new.halted ≡ old.halted) ⊎ Rose old.faults new.faults
  pub ran : new.halted ≡ None → old.halted ≡ None

module _ (m : MountStart) (points : List ℕ) (old : Parts) (h : IsOfDisk m points old) where
  -- what rose has risen since
  pub risen : (new : Parts) → Grows old.faults new.faults → HasRisen m points old → HasRisen m points new
  risen new grows (inl rose) = inl (rose_since m.faults old.faults new.faults h.few rose grows)
  risen new grows (inr marked) = inr marked

  runs_still : (new : Parts) → Grows old.faults new.faults → (new.halted ≡ old.halted) ⊎ Rose old.faults new.faults → (old.halted ≡ None) ⊎ HasRisen m points old → (new.halted ≡ None) ⊎ HasRisen m points new
  runs_still new grows (inl same) (inl runs) = inl (same ∙ runs)
  runs_still new grows (inl same) (inr rose) = inr (risen new grows rose)
  runs_still new grows (inr rose) was = inr (inl (rose_on m.faults old.faults new.faults h.few h.faults rose))

  calm_still : (new : Parts) → Grows old.faults new.faults → new.entries ≡ old.entries → (any_failed old.entries ≡ false) ⊎ HasRisen m points old → (any_failed new.entries ≡ false) ⊎ HasRisen m points new
  calm_still new grows same (inl calm) = inl (ap any_failed same ∙ calm)
  calm_still new grows same (inr rose) = inr (risen new grows rose)

  pub kept_disk : (new : Parts) → KeptDisk old new → IsOfDisk m points new
  kept_disk new k = record {
    pages = k.count ∙ h.pages;
    room = k.room ∙ h.room;
    few = h.few;
    faults = grows_on m.faults old.faults new.faults h.few h.faults k.faults;
    calm = calm_still new k.faults k.entries h.calm;
    runs = runs_still new k.faults k.halted h.runs;
    unmarked = λ runs. h.unmarked (k.ran runs);
  }

  pub same_disk : (new : Parts) → SameDisk old new → IsOfDisk m points new
  same_disk new s = kept_disk new (record { count = s.count; room = s.room; faults = inl s.faults; entries = s.entries; halted = inl s.halted; ran = λ runs. sym s.halted ∙ runs })

  -- ---- an entry joins

  any_more : (es : List Entry) (e : Entry) → any_failed es ≡ false → has_failed e.reply ≡ false → any_failed (es ++ e ∷ []) ≡ false
  any_more [] e calm fine = ap (λ (b : Bool). b || false) fine
  any_more (x ∷ xs) e calm fine = by (has_failed x.reply) (λ rest. any_more xs e rest fine) calm
    where
      by : (b : Bool) → (any_failed xs ≡ false → any_failed (xs ++ e ∷ []) ≡ false) → (b || any_failed xs) ≡ false → (b || any_failed (xs ++ e ∷ [])) ≡ false
      by true rest calm = absurd (false≢true (sym calm))
      by false rest calm = rest calm

  -- its reply tells no fault, or that which halted the volume, or one of this call
  pub record KeptWith (e : Entry) (new : Parts) : Type 0 where
    pub count : new.count ≡ old.count
    pub room : new.room ≡ old.room
    pub faults : Grows old.faults new.faults
    pub entries : new.entries ≡ old.entries ++ e ∷ []
    pub halted : (new.halted ≡ old.halted) ⊎ Rose old.faults new.faults
    pub ran : new.halted ≡ None → old.halted ≡ None
    pub reply : (has_failed e.reply ≡ false) ⊎ ((old.halted ≡ None → ⊥) ⊎ Rose old.faults new.faults)

  pub joined_disk : (e : Entry) (new : Parts) → KeptWith e new → IsOfDisk m points new
  joined_disk e new k = record {
    pages = k.count ∙ h.pages;
    room = k.room ∙ h.room;
    few = h.few;
    faults = grows_on m.faults old.faults new.faults h.few h.faults k.faults;
    calm = by k.reply h.calm h.runs;
    runs = runs_still new k.faults k.halted h.runs;
    unmarked = λ runs. h.unmarked (k.ran runs);
  }
    where
      by : (has_failed e.reply ≡ false) ⊎ ((old.halted ≡ None → ⊥) ⊎ Rose old.faults new.faults) → (any_failed old.entries ≡ false) ⊎ HasRisen m points old → (old.halted ≡ None) ⊎ HasRisen m points old → (any_failed new.entries ≡ false) ⊎ HasRisen m points new
      by (inl fine) (inl calm) runs = inl (ap any_failed k.entries ∙ any_more old.entries e calm fine)
      by (inl fine) (inr rose) runs = inr (risen new k.faults rose)
      by (inr (inl not)) calm (inl runs) = absurd (not runs)
      by (inr (inl not)) calm (inr rose) = inr (risen new k.faults rose)
      by (inr (inr rose)) calm runs = inr (inl (rose_on m.faults old.faults new.faults h.few h.faults rose))

  -- ---- the log has halted

  pub marked_disk : (fault : Fault) (new : Parts) → new ≡ record old { halted = Some fault } → IsOfDisk m (points ++ halt_mark ∷ []) new
  marked_disk fault new e = record {
    pages = ap (λ (p : Parts). p.count) e ∙ h.pages;
    room = ap (λ (p : Parts). p.room) e ∙ h.room;
    few = h.few;
    faults = subst (λ (n : ℕ). Grows m.faults n) (sym (ap (λ (p : Parts). p.faults) e)) h.faults;
    calm = inr (inr (marked_at_end points));
    runs = inr (inr (marked_at_end points));
    unmarked = λ runs. absurd (none_some fault (sym runs ∙ ap (λ (p : Parts). p.halted) e));
  }
    where
      none_some : (f : Fault) → ◌≡◌ {A = Option Fault} None (Some f) → ⊥
      none_some f e = absurd (cc)

  -- ---- other syncpoints, with as many marks

  pub pointed_disk : (more : List ℕ) (new : Parts) → is_marked more ≡ is_marked points → SameDisk old new → IsOfDisk m more new
  pointed_disk more new same s = let k = same_disk new s in record {
    pages = k.pages;
    room = k.room;
    few = k.few;
    faults = k.faults;
    calm = over k.calm;
    runs = over k.runs;
    unmarked = λ runs. same ∙ k.unmarked runs;
  }
    where
      over : {A : Type 0} → A ⊎ HasRisen m points new → A ⊎ HasRisen m more new
      over (inl a) = inl a
      over (inr (inl rose)) = inr (inl rose)
      over (inr (inr marked)) = inr (inr (same ∙ marked))

-- ---- what a call's answer says of it

replied_grew : (before now : ℕ) (reply : Reply) → RepliedBy before now reply → Grows before now
replied_grew before now (replies.Refused (refusals.IoFault fault)) r = inr r.rose
replied_grew before now (replies.Refused _) r = inl r
replied_grew before now _ r = inl r

halted_rose : (before now : ℕ) (old new : Option Fault) → KeepsHalted before now old new → (new ≡ old) ⊎ Rose before now
halted_rose before now old new (inl same) = inl same
halted_rose before now old new (inr (fault, is, was, halts)) = inr is.rose

some_none : (f : Fault) → ◌≡◌ {A = Option Fault} (Some f) None → ⊥
some_none f e = absurd (cc)

ran_before : (before now : ℕ) (old new : Option Fault) → KeepsHalted before now old new → new ≡ None → old ≡ None
ran_before before now old new (inl same) runs = sym same ∙ runs
ran_before before now old new (inr (fault, is, was, halts)) runs = was

if_none : (b : Bool) (halted : Option Fault) → halted ≡ None → (if b then halted else None) ≡ None
if_none true halted none = none
if_none false halted none = refl

none_held : (halted : Option Fault) (request : Request) → halted ≡ None → held halted request.call ≡ None
none_held halted request none = if_none (writes request.call) halted none

-- a refusal for a fault comes where the count rose, or of a volume that had halted
fault_of : (before now : ℕ) (halted : Option Fault) (request : Request) (reply : Reply) → RepliedBy before now reply → IsHeld (held halted request.call) reply → (has_failed reply ≡ false) ⊎ ((halted ≡ None → ⊥) ⊎ Rose before now)
fault_of before now halted request (replies.Refused (refusals.IoFault fault)) r is = inr (inr r.rose)
fault_of before now halted request (replies.Refused (refusals.ReadOnly fault)) r is =
    inr (inl (λ none. false≢true (sym (subst (λ (k : Option Fault). IsHeld k (replies.Refused (refusals.ReadOnly fault))) (none_held halted request none) is))))
fault_of before now halted request (replies.Refused _) r is = inl refl
fault_of before now halted request _ r is = inl refl

module _ (client line : ℕ) (request : Request) (old new : Parts) where
  pub replied_disk : (m : MountStart) (points : List ℕ) (h : IsOfDisk m points old) (reply : Reply) (number : ℕ) (waits : Bool) → IsAnswered client line request old new (Replied reply number waits) → IsOfDisk m points new
  replied_disk m points h reply number waits a = joined_disk m points old h (entry_with client line request reply) new (record {
    count = a.keeps.count;
    room = a.keeps.room;
    faults = replied_grew old.faults new.faults reply a.cause;
    entries = a.entry.entries;
    halted = halted_rose old.faults new.faults old.halted new.halted a.halted;
    ran = ran_before old.faults new.faults old.halted new.halted a.halted;
    reply = fault_of old.faults new.faults old.halted request reply a.cause a.held_is;
  })

  pub asked_disk : (m : MountStart) (points : List ℕ) (h : IsOfDisk m points old) → IsAnswered client line request old new NeedsLog → IsOfDisk m points new
  asked_disk m points h a = same_disk m points old h new (record { count = a.keeps.count; room = a.keeps.room; faults = a.cause; entries = a.entry.entries; halted = a.halted.0 })

  pub lacked_disk : (m : MountStart) (points : List ℕ) (h : IsOfDisk m points old) → IsAnswered client line request old new NoMemory → IsOfDisk m points new
  lacked_disk m points h a = kept_disk m points old h new (record {
    count = a.keeps.count;
    room = a.keeps.room;
    faults = a.cause;
    entries = a.entry.entries;
    halted = halted_rose old.faults new.faults old.halted new.halted a.halted;
    ran = ran_before old.faults new.faults old.halted new.halted a.halted;
  })

-- ---- pages that go home

-- none failed
pub home_disk : (m : MountStart) (points : List ℕ) (old new : Parts) → IsOfDisk m points old → IsSettled old new → new.faults ≡ old.faults → new.halted ≡ old.halted → IsOfDisk m points new
home_disk m points old new h e faults halted = same_disk m points old h new (record { count = ap (λ (p : Parts). p.count) e; room = ap (λ (p : Parts). p.room) e; faults = faults; entries = ap (λ (p : Parts). p.entries) e; halted = halted })

-- a volume that halts doesn't run
pub none_by : (fault : Fault) (halted : Option Fault) → halted_by fault halted ≡ None → ⊥
none_by fault None e = some_none fault e
none_by fault (Some first) e = some_none first e

-- one did
pub stopped_disk : (m : MountStart) (points : List ℕ) (old new : Parts) → IsOfDisk m points old → IsSettled old new → (fault : Fault) → Rose old.faults new.faults → new.halted ≡ halted_by fault old.halted → IsOfDisk m points new
stopped_disk m points old new h e fault rose halts = kept_disk m points old h new (record {
  count = ap (λ (p : Parts). p.count) e;
  room = ap (λ (p : Parts). p.room) e;
  faults = inr rose;
  entries = ap (λ (p : Parts). p.entries) e;
  halted = inr rose;
  ran = λ runs. absurd (none_by fault old.halted (sym halts ∙ runs));
})
