-- Changes of halves are steps of the core.
use Rattle.std.proofs.Common.{◌≡◌, ◌<◌, ◌≤◌, ◌⊎◌, ◌+◌, ◌-◌, ◌&&◌, ◌==◌, ℕ, zero, suc, Bool, true, false, not, List, [], ◌∷◌, ◌++◌, length, map, set, Option, Some, None, refl, sym, ap, subst, ◌∙◌, inl, inr, arith}
use Rattle.std.proofs.lemmas.Bool.{cases_Bool, eq-eqb, eqb-true}
use Rattle.std.proofs.lemmas.List.{take_all, length-map, map-append}
use Rattle.jfs_disk.specs.Image.{Image, page_of}
use Rattle.jfs_disk.specs.declared.disk.Fault.{Fault}
use Rattle.jfs_ranges.specs.Apply.{touches_tx}
use Rattle.jfs_core.specs.declared.block.Span.{Span}
use Rattle.jfs_core.specs.declared.step.Step.{Step}
use Rattle.jfs_core.specs.declared.step.Step.TheVariants as steps
use Rattle.jfs_core.specs.declared.step.FaultOf.TheVariants as faults
use Rattle.jfs_disk.specs.Crash.{IsCrashImage}
use Rattle.jfs_core.specs.Core.{Core, core_image, low_of}
use Rattle.jfs_core.specs.Image.{image_after as core_after, pages_after, History}
use Rattle.jfs_core.specs.Step.{EndsBy, BeginsPast, IsAllowed, does, sent_home, marked, told_page, halted_by, AreAllowed, after_steps}
use Rattle.jfs_core.specs.Sound.{IsSound, IsLogImage, Survives, LiesIn, page_at}
use Rattle.jfs_core.proofs.Bounds.{newest_told}
use Rattle.jfs_core.proofs.Steps.{sound_step, sound_fresh, told_survive}
use Rattle.jfs_core.proofs.Redo.{always_recovers}
use Rattle.jfs_halves.specs.Entry.{Happened, edits, logged, image_after}
use Rattle.jfs_halves.specs.Half.{Halves, core_of, is_open, block_in, page_in}
use Rattle.jfs_halves.specs.Change.{Enters, Takes, Tells, HandsOut, GoesHome, Tears, Drops, Writes, WriteTears, Stops, LogStops, Syncs, Points, Knows}
use Rattle.jfs_halves.specs.Both.{BothChange, Changes, GroupIsWritten, GroupFails, changed, Fits}
use Rattle.jfs_halves.specs.Laws.{IsLogged, steps_of, steps_after, AreReplayed, AreSound, ChangesAreSteps, AcknowledgedSurvive, FreshAreSound}

-- the pages after entries are those that the core has
replayed : (image : Image) (hs : List Happened) → AreReplayed image hs → image_after image hs ≡ core_after (map logged hs) image
replayed image [] r = refl
replayed image (h ∷ hs) r = replayed h.after.pages hs r.1 ∙ ap (λ (i : Image). core_after (map logged hs) i) r.0

steady : (v : ℕ → List ℕ) (told d k : ℕ) → k ≡ told + d → ((j : ℕ) → told ≤ j → j < k → v (suc j) ≡ v j) → v k ≡ v told
steady v told zero k e f = ap v (omega (arith, e))
steady v told (suc d) k e f =
    let before : v (told + d) ≡ v told = steady v told d (told + d) refl (λ j low high. f j low (omega (arith, e))) in
    let last : k ≡ suc (told + d) = omega (arith, e) in
    ap v last ∙ f (told + d) (omega arith) (omega (arith, e)) ∙ before

not_there : {A : Type 0} (j told : ℕ) (dirty : Option Span) → EndsBy told dirty → told ≤ j → LiesIn (suc j) dirty ⊎ A → A
not_there j told None ends low (inl lies) = absurd lies
not_there j told None ends low (inr a) = a
not_there j told (Some span) ends low (inl lies) = absurd (omega (arith, lies.1, ends))
not_there j told (Some span) ends low (inr a) = a

-- a page whose entries are all acknowledged is as it is after the acknowledged entries
told_now : (both : Halves) (n : ℕ) → AreSound both → n < length both.volume.blocks → EndsBy both.volume.told (block_in both.volume n).dirty → page_in both.volume n ≡ told_page (core_of both) n
told_now both n s there ends =
    let half = both.volume in
    let core = core_of both in
    let hs = map logged half.history in
    let ok = s.sound.kept.blocks n there in
    let counts = s.sound.kept.bounds.counts in
    let all : half.shown.pages ≡ core_image core (length hs) =
    s.shown ∙ replayed half.mounted half.history s.replayed ∙ ap (λ (es : History). core_after es half.mounted) (sym (take_all (length hs) hs (omega arith))) in
    ap (λ (image : Image). page_of image n) all
    ∙ steady (page_at core n) half.told (length hs - half.told) (length hs) (omega (arith, counts.told_durable, counts.durable_taken, counts.taken_appended))
    (λ j low high. (not_there j half.told (block_in half n).dirty ends low (ok.later j low high)).0)

-- ---- groups

-- no difference, or one
same_counts : (a b c d : ℕ) → not (a == b && c == d) ≡ false → (a ≡ b) × (c ≡ d)
same_counts a b c d e = at (cases_Bool (a == b)) (cases_Bool (c == d))
  where
    at : (a == b ≡ true) ⊎ (a == b ≡ false) → (c == d ≡ true) ⊎ (c == d ≡ false) → (a ≡ b) × (c ≡ d)
    at (inl p) (inl q) = (eqb-true a b p, eqb-true c d q)
    at (inl p) (inr q) = let never : true ≡ false = rw (p, q) at e in absurd (cc)
    at (inr p) q = let never : true ≡ false = rw p at e in absurd (cc)

group_closed : (taken points : ℕ) → not (taken == taken && points == points) ≡ false
group_closed taken points = rw (eq-eqb taken taken refl, eq-eqb points points refl) refl

-- ---- one change

pub record IsStepOf (both later : Halves) (steps : List Step) : Type 0 where
  pub allowed : AreAllowed (core_of both) steps
  pub core : core_of later ≡ after_steps (core_of both) steps

-- one step, where there is one
single : (both later : Halves) (step : Step) → IsAllowed (core_of both) step → core_of later ≡ does (core_of both) step → IsStepOf both later (step ∷ [])
single both later step allowed core = record { allowed = (allowed, tt); core = core }

no_step : (both later : Halves) → core_of later ≡ core_of both → IsStepOf both later []
no_step both later core = record { allowed = tt; core = core }

takes_is : (both : Halves) → is_open both ≡ false → IsStepOf both (changed both (Changes Takes)) (steps_of both (Changes Takes))
takes_is both closed = at (cases_Bool (is_open (changed both (Changes Takes))))
  where
    at : (is_open (changed both (Changes Takes)) ≡ true) ⊎ (is_open (changed both (Changes Takes)) ≡ false) → IsStepOf both (changed both (Changes Takes)) (steps_of both (Changes Takes))
    at (inl opened) =
        let core : core_of (changed both (Changes Takes)) ≡ does (core_of both) steps.Take =
        ap (λ (g : Bool). record (core_of (changed both (Changes Takes))) { grouped = g }) opened
        ∙ ap (λ (n : ℕ). record (core_of both) { taken = n; points_taken = length both.volume.points; grouped = true }) (sym (length-map both.volume.history logged)) in
        rw opened (single both (changed both (Changes Takes)) steps.Take (closed, tt) core)
    at (inr none) =
        let before = same_counts both.log.durable both.volume.taken both.log.stable both.log.points_taken closed in
        let later = same_counts both.log.durable (length both.volume.history) both.log.stable (length both.volume.points) none in
        let core : core_of (changed both (Changes Takes)) ≡ core_of both =
        ap (λ (g : Bool). record (core_of (changed both (Changes Takes))) { grouped = g }) (none ∙ sym closed)
        ∙ ap (λ (n : ℕ). record (core_of both) { taken = n; points_taken = length both.volume.points }) (sym later.0 ∙ before.0)
        ∙ ap (λ (n : ℕ). record (core_of both) { points_taken = n }) (sym later.1 ∙ before.1) in
        rw none (no_step both (changed both (Changes Takes)) core)

enters_is : (both : Halves) (h : Happened) → AreSound both → Fits both (Changes (Enters h)) → IsStepOf both (changed both (Changes (Enters h))) (steps_of both (Changes (Enters h)))
enters_is both h s fits = single both (changed both (Changes (Enters h))) (steps.Append (edits h))
    (runs fits.0.runs, tt)
    (ap (λ (es : History). record (core_of (changed both (Changes (Enters h)))) { history = es }) (map-append logged both.volume.history (h ∷ []))
    ∙ ap (λ (n : ℕ). record (core_of both) { history = map logged both.volume.history ++ logged h ∷ []; blocks = marked (λ (p : ℕ). touches_tx p (edits h)) (suc n) 0 both.volume.blocks })
    (sym (length-map both.volume.history logged)))
  where
    runs : (edits h ≡ []) ⊎ (both.volume.halted ≡ None) → (edits h ≡ []) ⊎ ((both.volume.low_halted ≡ None) × (both.log.log_halted ≡ None))
    runs (inl none) = inl none
    runs (inr e) = inr (s.halted e)

past_none : (n : ℕ) (span : Option Span) → span ≡ None → BeginsPast n span
past_none n span e = rw e tt

points_is : (both : Halves) → AreSound both → Fits both (Changes Points) → IsStepOf both (changed both (Changes Points)) (steps_of both (Changes Points))
points_is both s fits =
    let half = both.volume in
    let all = fits.0.0 in
    let clean = fits.0.1 in
    single both (changed both (Changes Points)) (steps.SyncPoint (length half.history)) (
      omega (arith, all),
      (
        (
          omega (arith, newest_told (core_of both) s.sound.kept.bounds, all),
          (λ p h. (past_none (length half.history) (block_in half p).dirty (clean p h).0, past_none (length half.history) (block_in half p).unsynced (clean p h).1)),
        ),
        tt,
      ),
    )
    refl

step_is : (both : Halves) (c : BothChange) → AreSound both → Fits both c → IsLogged c → IsStepOf both (changed both c) (steps_of both c)
step_is both (Changes (Enters h)) s fits logged = enters_is both h s fits
step_is both (Changes Takes) s fits logged = takes_is both fits.1
step_is both (Changes (Tells n)) s fits logged = single both (changed both (Changes (Tells n))) steps.Told tt (ap (λ (m : ℕ). record (core_of both) { told = m }) fits.1)
step_is both (Changes HandsOut) s fits logged = no_step both (changed both (Changes HandsOut)) refl
step_is both (Changes (GoesHome p)) s fits logged =
    single both (changed both (Changes (GoesHome p))) (steps.Home p) (fits.0.1, (fits.0.2, tt))
    (ap (λ (bytes : List ℕ). record (core_of both) { blocks = set both.volume.blocks p (sent_home bytes (block_in both.volume p)) }) (told_now both p s fits.0.0 fits.0.2))
step_is both (Changes (Tears p sectors fault)) s fits logged =
    single both (changed both (Changes (Tears p sectors fault))) (steps.Fault fault (faults.LowWrite p (record { 0 = page_in both.volume p }) sectors))
    ((fits.0.0, fits.0.1.1, fits.0.1.2, told_now both p s fits.0.1.0 fits.0.1.2), tt)
    refl
step_is both (Changes (Drops p)) s fits logged = absurd logged
step_is both (Changes (Writes p bytes)) s fits logged = absurd logged
step_is both (Changes (WriteTears p bytes sectors fault)) s fits logged = absurd logged
step_is both (Changes (Stops fault)) s fits logged = single both (changed both (Changes (Stops fault))) (steps.Fault fault faults.LowSync) tt refl
step_is both (Changes (LogStops fault)) s fits logged = no_step both (changed both (Changes (LogStops fault))) refl
step_is both (Changes Syncs) s fits logged = single both (changed both (Changes Syncs)) steps.LowSync tt refl
step_is both (Changes Points) s fits logged = points_is both s fits
step_is both (Changes Knows) s fits logged = no_step both (changed both (Changes Knows)) refl
step_is both GroupIsWritten s fits logged = single both (changed both GroupIsWritten) steps.GroupWrite (fits.1, (fits.0, tt))
    (ap (λ (g : Bool). record (core_of both) { durable = both.volume.taken; points_stable = both.log.points_taken; grouped = g }) (group_closed both.volume.taken both.log.points_taken))
step_is both (GroupFails fault) s fits logged = single both (changed both (GroupFails fault)) (steps.Fault fault faults.GroupWrite) (fits.1, (fits.0, tt)) refl

-- ---- soundness

replayed-push : (image : Image) (hs : List Happened) (h : Happened) → AreReplayed image hs → h.after.pages ≡ pages_after 0 (edits h) (image_after image hs) → AreReplayed image (hs ++ h ∷ [])
replayed-push image [] h all e = (e, tt)
replayed-push image (g ∷ hs) h all e = (all.0, replayed-push g.after.pages hs h all.1 e)

pub image_after-push : (image : Image) (hs : List Happened) (h : Happened) → image_after image (hs ++ h ∷ []) ≡ h.after.pages
image_after-push image [] h = refl
image_after-push image (g ∷ hs) h = image_after-push g.after.pages hs h

never : {A : Type 0} (fault : Fault) (halted : Option Fault) → halted_by fault halted ≡ None → A
never fault None e = absurd (cc)
never fault (Some first) e = absurd (cc)

sound_after : (core : Core) (later : Core) (steps : List Step) → IsSound core → AreAllowed core steps → later ≡ after_steps core steps → IsSound later
sound_after core later [] s allowed e = subst IsSound (sym e) s
sound_after core later (step ∷ rest) s allowed e = sound_after (does core step) later rest (sound_step core step allowed.0 s) allowed.1 e

keeps_sound : (both : Halves) (c : BothChange) → AreSound both → Fits both c → IsLogged c → IsSound (core_of (changed both c)) → AreSound (changed both c)
keeps_sound both (Changes (Enters h)) s fits logged sound = record {
  sound = sound;
  replayed = replayed-push both.volume.mounted both.volume.history h s.replayed (fits.0.pages ∙ ap (pages_after 0 (edits h)) s.shown);
  shown = sym (image_after-push both.volume.mounted both.volume.history h);
  halted = s.halted;
}
keeps_sound both (Changes Takes) s fits logged sound = record { sound = sound; replayed = s.replayed; shown = s.shown; halted = s.halted }
keeps_sound both (Changes (Tells n)) s fits logged sound = record { sound = sound; replayed = s.replayed; shown = s.shown; halted = s.halted }
keeps_sound both (Changes HandsOut) s fits logged sound = record { sound = sound; replayed = s.replayed; shown = s.shown; halted = s.halted }
keeps_sound both (Changes (GoesHome p)) s fits logged sound = record { sound = sound; replayed = s.replayed; shown = s.shown; halted = s.halted }
keeps_sound both (Changes (Tears p sectors fault)) s fits logged sound = record { sound = sound; replayed = s.replayed; shown = s.shown; halted = λ e. never fault both.volume.halted e }
keeps_sound both (Changes (Drops p)) s fits logged sound = absurd logged
keeps_sound both (Changes (Writes p bytes)) s fits logged sound = absurd logged
keeps_sound both (Changes (WriteTears p bytes sectors fault)) s fits logged sound = absurd logged
keeps_sound both (Changes (Stops fault)) s fits logged sound = record { sound = sound; replayed = s.replayed; shown = s.shown; halted = λ e. never fault both.volume.halted e }
keeps_sound both (Changes (LogStops fault)) s fits logged sound = record { sound = sound; replayed = s.replayed; shown = s.shown; halted = λ e. never fault both.volume.halted e }
keeps_sound both (Changes Syncs) s fits logged sound = record { sound = sound; replayed = s.replayed; shown = s.shown; halted = s.halted }
keeps_sound both (Changes Points) s fits logged sound = record { sound = sound; replayed = s.replayed; shown = s.shown; halted = s.halted }
keeps_sound both (Changes Knows) s fits logged sound = record { sound = sound; replayed = s.replayed; shown = s.shown; halted = s.halted }
keeps_sound both GroupIsWritten s fits logged sound = record { sound = sound; replayed = s.replayed; shown = s.shown; halted = s.halted }
keeps_sound both (GroupFails fault) s fits logged sound = record { sound = sound; replayed = s.replayed; shown = s.shown; halted = λ e. never fault both.volume.halted e }

-- ---- lists

allowed-join : (core : Core) (xs ys : List Step) → AreAllowed core xs → AreAllowed (after_steps core xs) ys → AreAllowed core (xs ++ ys)
allowed-join core [] ys a b = b
allowed-join core (x ∷ xs) ys a b = (a.0, allowed-join (does core x) xs ys a.1 b)

steps-join : (core : Core) (xs ys : List Step) → after_steps core (xs ++ ys) ≡ after_steps (after_steps core xs) ys
steps-join core [] ys = refl
steps-join core (x ∷ xs) ys = steps-join (does core x) xs ys

pub are_steps : ChangesAreSteps
are_steps both [] s fit logged = record { allowed = tt; core = refl; sound = s; recovers = always_recovers (core_of both) s.sound }
are_steps both (c ∷ cs) s fit logged =
    let is = step_is both c s fit.0 logged.0 in
    let next = keeps_sound both c s fit.0 logged.0 (sound_after (core_of both) (core_of (changed both c)) (steps_of both c) s.sound is.allowed is.core) in
    let rest = are_steps (changed both c) cs next fit.1 logged.1 in
    record {
      allowed = allowed-join (core_of both) (steps_of both c) (steps_after (changed both c) cs) is.allowed (subst (λ (core : Core). AreAllowed core (steps_after (changed both c) cs)) is.core rest.allowed);
      core = rest.core ∙ ap (λ (core : Core). after_steps core (steps_after (changed both c) cs)) is.core ∙ sym (steps-join (core_of both) (steps_of both c) (steps_after (changed both c) cs));
      sound = rest.sound;
      recovers = rest.recovers;
    }

pub survive : AcknowledgedSurvive
survive both list s fit logged low c n crash log =
    let are = are_steps both list s fit logged in
    subst (λ (core : Core). Survives (core_of both) core low c n) (sym are.core)
    (told_survive (core_of both) (steps_after both list) s.sound are.allowed low c n (subst (λ (core : Core). IsCrashImage (low_of core) low) are.core crash) (subst (λ (core : Core). IsLogImage core c n) are.core log))

pub fresh_sound : FreshAreSound
fresh_sound ring shown pages few = record { sound = sound_fresh shown.pages pages few; replayed = tt; shown = refl; halted = λ e. (refl, refl) }
