-- A history grows, and so does what is acknowledged of it.
use Rattle.std.proofs.Common.{◌≡◌, ◌≤◌, ℕ, List, [], ◌∷◌, ◌++◌, take, refl, sym, ap, ◌∙◌, arith}
use Rattle.std.proofs.lemmas.List.{append-nil, append_assoc, take_at}
use Rattle.jfs_recovery.specs.Face.{Face, IsFace, Pages, IsRedone}
use Rattle.jfs_recovery.specs.Core.{Core, Step, Done, count, does, AreAllowed, after_steps}
use Rattle.jfs_recovery.specs.Core.Step.{Write, WriteFails, Append, Take, GroupWrite, Told, Home, HomeFails, LowSync, SyncPoint}
use Rattle.jfs_recovery.specs.Sound.{IsSound, IsLeft, IsLogImage, window}
use Rattle.jfs_recovery.specs.Laws.{Survives}
use Rattle.jfs_recovery.proofs.Kept.{kept_step, kept_steps}
use Rattle.jfs_recovery.proofs.Redo.{always_recovers}

-- what follows the history that was
pub record Grows (core later : Core) : Type 0 where
  pub more : List Done
  pub history : later.history ≡ core.history ++ more
  pub told : core.told ≤ later.told

same : (core : Core) → Grows core core
same core = record { more = []; history = sym (append-nil core.history); told = omega arith }

then : (a b c : Core) → Grows a b → Grows b c → Grows a c
then a b c x y = record {
  more = x.more ++ y.more;
  history = y.history ∙ ap (λ (h : List Done). h ++ y.more) x.history ∙ append_assoc a.history x.more y.more;
  told = omega (arith, x.told, y.told);
}

step_grows : (f : Face) (core : Core) → IsSound f core → (s : Step) → Grows core (does f core s)
step_grows f core sound (Write p bytes) = record { more = []; history = sym (append-nil core.history); told = omega arith }
step_grows f core sound (WriteFails p bytes sectors) = record { more = []; history = sym (append-nil core.history); told = omega arith }
step_grows f core sound (Append tx t) = record { more = record { tx = tx; image = t } ∷ []; history = refl; told = omega arith }
step_grows f core sound Take = record { more = []; history = sym (append-nil core.history); told = omega arith }
step_grows f core sound GroupWrite = record { more = []; history = sym (append-nil core.history); told = omega arith }
step_grows f core sound Told = record { more = []; history = sym (append-nil core.history); told = sound.counts.told_durable }
step_grows f core sound (Home p) = record { more = []; history = sym (append-nil core.history); told = omega arith }
step_grows f core sound (HomeFails p sectors) = record { more = []; history = sym (append-nil core.history); told = omega arith }
step_grows f core sound LowSync = record { more = []; history = sym (append-nil core.history); told = omega arith }
step_grows f core sound (SyncPoint c) = record { more = []; history = sym (append-nil core.history); told = omega arith }

pub steps_grow : (f : Face) → IsFace f → (core : Core) (steps : List Step) → IsSound f core → AreAllowed f core steps → Grows core (after_steps f core steps)
steps_grow f laws core [] sound allowed = same core
steps_grow f laws core (s ∷ rest) sound allowed =
    then core (does f core s) (after_steps f (does f core s) rest) (step_grows f core sound s)
    (steps_grow f laws (does f core s) rest (kept_step f laws core s allowed.0 sound) allowed.1)

-- what was acknowledged before some steps survives every crash after them
pub survives : (f : Face) → IsFace f → (core : Core) (steps : List Step) → IsSound f core → AreAllowed f core steps → (low : Pages) (c n : ℕ) (redone : Pages) →
    IsLeft (after_steps f core steps) low → IsLogImage (after_steps f core steps) c n → IsRedone f low (window (after_steps f core steps) c n) redone → Survives f core (after_steps f core steps) low n redone
survives f laws core steps sound allowed low c n redone left log is_redone =
    let later = after_steps f core steps in
    let after = kept_steps f laws core steps allowed sound in
    let grown = steps_grow f laws core steps sound allowed in
    let counts = after.counts in
    record {
      told = omega (arith, grown.told, counts.told_durable, log.durable);
      within = omega (arith, log.taken, counts.taken_appended);
      grown = ap (λ (h : List Done). take (count core) h) grown.history ∙ take_at core.history grown.more (count core) refl;
      recovers = always_recovers f laws later after low c n redone left log is_redone;
    }
