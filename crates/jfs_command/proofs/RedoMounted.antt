-- What redo of a volume answers is what the command `redo` says of it.
use Rattle.std.proofs.Common.{◌≡◌, ℕ, Bool, true, false, [], Result, Ok, Err, refl, sym, ap, subst, ◌∙◌}
use Rattle.std.specs.Global.{Vec}
use Rattle.std.proofs.lemmas.Bool.{eqb-true}
use Rattle.jfs_disk.specs.Crash.{last_of}
use Rattle.jfs_disk.specs.Moment.{IsResting}
use Rattle.jfs_super.specs.declared.fields.Super.{Super}
use Rattle.jfs_super.specs.Rules.{blocks_of}
use Rattle.jfs_redo.specs.Redo.{RedoIs, IsRedoCause, IsRefusal, StaysBehind}
use Rattle.jfs_redo.specs.declared.error.Redone.{Redone}
use Rattle.jfs_redo.specs.declared.error.RedoError.{RedoError}
use Rattle.jfs_redo.specs.declared.error.RedoError.TheVariants as errors
use Rattle.jfs_command.specs.declared.status.Status.TheVariants.{ForeignLog, BadLog, BadImage}
use Rattle.jfs_command.specs.declared.outcome.End.{End}
use Rattle.jfs_command.specs.Count.{Count, Stays}
use Rattle.jfs_command.specs.Held.{Held, ChangesNothing}
use Rattle.jfs_command.specs.Meaning.{Answer, finished, refused}
use Rattle.jfs_command.specs.Superblock.{AfterState}
use Rattle.jfs_command.specs.Redo.{redone_text, is_clean, is_mounted, MountedSays, redoes, is_foreign, is_bad, breaks_maps, UnlessClean, RedoSays, IsMounted, StaysRedoable, HasRedone, HasDone, HasBegun, end_of, work_with, RedoEnds}

pub not_clean : (state : ℕ) → is_mounted state ≡ true → is_clean state ≡ false
not_clean state mounted = rw (eqb-true state 1 mounted) refl

after : (clean mounted : Bool) (state : ℕ) (says : Answer → Type 0) (answer : Answer) → clean ≡ false → mounted ≡ true → says answer → UnlessClean clean (AfterState mounted state says) answer
after clean mounted state says answer not_clean is_mounted it = rw (not_clean, is_mounted) it

module _ (tells crashes : Type 0) (s : Super) (held left : Held) (mounted : is_mounted s.state.0 ≡ true) where
  says : (answer : Answer) → MountedSays tells s held.image answer → RedoSays tells held.image s answer
  says answer it = after (is_clean s.state.0) (is_mounted s.state.0) s.state.0 (MountedSays tells s held.image) answer (not_clean s.state.0 mounted) mounted it

  -- the volume was redone
  pub redone : (count : Count) (done : Redone) (text : Vec ℕ) → (tells → RedoIs s held.image left.image (Ok done)) → (crashes → IsResting (last_of left.past)) → (tells → StaysBehind (blocks_of s) held.image left.image) → StaysRedoable tells crashes s held left
      → text.items ≡ redone_text done.transactions → Stays count → RedoEnds tells crashes s held left count (Ok text)
  redone count done text redo stable behind meanwhile is_text stays =
      let did : HasRedone tells crashes s held (work_with text.items left) = record {
        history = refl;
        told = refl;
        volume = λ t. let it = redo t in (it.0, it.1, is_text ∙ ap redone_text it.2, it.4);
        superblock = λ t. (redo t).4.superblock;
        behind = behind;
        stable = stable;
        meanwhile = meanwhile;
      } in (
        says (finished text.items) (redoes done.transactions (ap finished is_text) (λ t. let it = redo t in (it.0, it.1, it.2, it.3))),
        subst (λ (b : Bool). HasDone b tells crashes s held (work_with text.items left)) (sym mounted) did,
        stays,
      )

  begun : IsMounted s held.pages → (tells → StaysBehind (blocks_of s) held.image left.image) → StaysRedoable tells crashes s held left → HasBegun tells crashes s held (work_with [] left)
  begun is behind meanwhile = record { history = refl; told = refl; behind = behind; unless = λ not. absurd (not is); meanwhile = meanwhile }

  nothing : (why : RedoError) → IsRefusal why → (tells → IsRefusal why → left.image ≡ held.image) → (crashes → IsRefusal why → left.past ≡ held.past) → ChangesNothing tells crashes held (work_with [] left)
  nothing why refuses image past = record { history = refl; told = refl; image = λ t. image t refuses; past = λ t. past t refuses }

  -- it was refused, or the command was stopped
  pub not_redone : (before now : ℕ) (why : RedoError) → IsMounted s held.pages → (tells → (let r : Result Redone RedoError = Err why in RedoIs s held.image left.image r))
      → (tells → IsRefusal why → left.image ≡ held.image) → (crashes → IsRefusal why → left.past ≡ held.past) → (tells → StaysBehind (blocks_of s) held.image left.image) → StaysRedoable tells crashes s held left
      → (let r : Result Redone RedoError = Err why in IsRedoCause before now r) → (let e : Result (Vec ℕ) End = Err (end_of why) in RedoEnds tells crashes s held left (record { before = before; now = now }) e)
  not_redone before now (errors.Disk fault) is redo image past behind meanwhile cause = (begun is behind meanwhile, cause.0)
  not_redone before now (errors.ForeignLog label) is redo image past behind meanwhile cause =
      (says (refused (ForeignLog label)) (is_foreign label refl redo), nothing (errors.ForeignLog label) tt image past, tt, cause)
  not_redone before now (errors.BadLog address rule) is redo image past behind meanwhile cause =
      (says (refused (BadLog address rule)) (is_bad address rule refl redo), nothing (errors.BadLog address rule) tt image past, tt, cause)
  not_redone before now (errors.BadImage bad) is redo image past behind meanwhile cause =
      (says (refused (BadImage bad.page bad.rule bad.value)) (breaks_maps bad refl redo), nothing (errors.BadImage bad) tt image past, tt, cause)
  not_redone before now errors.Memory is redo image past behind meanwhile cause = begun is behind meanwhile
