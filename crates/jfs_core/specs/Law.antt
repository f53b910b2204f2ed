-- What the core is for.
use Rattle.std.specs.Prelude.{◌≡◌, ℕ, List, Err}
use Rattle.jfs_disk.specs.Image.{Image}
use Rattle.jfs_disk.specs.Crash.{DiskState, IsCrashImage, written, failed, settled}
use Rattle.jfs_core.specs.declared.step.Step.{Step}
use Rattle.jfs_core.specs.declared.step.Step.TheVariants as steps
use Rattle.jfs_core.specs.declared.step.FaultOf.TheVariants as faults
use Rattle.jfs_core.specs.declared.step.StepRefused.{StepRefused}
use Rattle.jfs_core.specs.declared.step.RunError.TheVariants.{Refused}
use Rattle.jfs_core.specs.Image.{AgreesOnMeta}
use Rattle.jfs_core.specs.Core.{Core, low_of}
use Rattle.jfs_core.specs.Step.{AreAllowed, IsAllowed, after_steps, does, told_page}
use Rattle.jfs_core.specs.Run.{IsRun}
use Rattle.jfs_core.specs.Sound.{IsSound, IsLogImage, Survives}

-- For every list of allowed steps, every acknowledged entry survives every later crash.
abbrev pub AcknowledgedEntriesSurvive : Type 0
AcknowledgedEntriesSurvive = (core : Core) (steps : List Step) → IsSound core → AreAllowed core steps → (low : Image) (c n : ℕ) →
    IsCrashImage (low_of (after_steps core steps)) low → IsLogImage (after_steps core steps) c n → Survives core (after_steps core steps) low c n

-- Each allowed step keeps a sound core sound.
abbrev pub StepsKeepCoresSound : Type 0
StepsKeepCoresSound = (core : Core) (step : Step) → IsAllowed core step → IsSound core → IsSound (does core step)

-- What a step writes is what the device calls write: a step home writes its page, one that fails tears it, a low sync
-- settles, and no other step touches the disk.
abbrev pub low_after : Core → Step → DiskState
low_after core (steps.Home page) = written page (told_page core page) (low_of core)
low_after core steps.LowSync = settled (low_of core)
low_after core (steps.Fault fault (faults.LowWrite page bytes sectors)) = failed page bytes.0 sectors (low_of core)
low_after core (steps.Fault fault faults.Read) = low_of core
low_after core (steps.Fault fault faults.LowSync) = low_of core
low_after core (steps.Fault fault faults.GroupWrite) = low_of core
low_after core (steps.Append tx) = low_of core
low_after core steps.Take = low_of core
low_after core steps.GroupWrite = low_of core
low_after core steps.Told = low_of core
low_after core (steps.SyncPoint c) = low_of core

abbrev pub StepsAreDeviceCalls : Type 0
StepsAreDeviceCalls = (core : Core) (step : Step) → low_of (does core step) ≡ low_after core step

-- A run that is refused has a step that isn't allowed, so a run ends well exactly where each step is allowed, want of memory
-- aside.
abbrev pub RefusedIsNotAllowed : Type 0
RefusedIsNotAllowed = (core : Core) (steps : List Step) (refused : StepRefused) (new : Core) → IsRun core steps (Err (Refused refused)) new → ¬ (AreAllowed core steps)

-- With lines alone all pages matter: two images that agree on the pages that matter are the same.
abbrev pub AgreementIsEquality : Type 0
AgreementIsEquality = (image wanted : Image) → AgreesOnMeta image wanted → image ≡ wanted
