-- A history that goes on, with a call, a commit or a syncpoint behind it.
use Rattle.std.proofs.Common.{[], refl, ℕ, List}
use Rattle.jfs_served.specs.halves.specs.Parts.{Parts}
use Rattle.jfs_served.specs.call.specs.DoesLent.{Asking}
use Rattle.jfs_served.specs.call.specs.declared.outcome.Outcome.{Outcome}
use Rattle.jfs_served.specs.call.specs.declared.outcome.Outcome.TheVariants.{Replied, NeedsLog, NoMemory}
use Rattle.jfs_served.specs.Legal.{Timed, HasServed}
use Rattle.jfs_served.proofs.Told.{told_shown}
use Rattle.jfs_legal.specs.Laws.{Leaves, BeginLaw, LegalLaw, CallLaw, LentLaw, SettledLaw, PointedLaw, HandedLaw}
use Rattle.jfs_legal.proofs.Replying.{Left, does, leaves_by, lent, settled}
use Rattle.jfs_legal.proofs.Known.{laws}

-- a call behind a history of which the volume could serve all
served_on : (area : ℕ → ℕ) (log_pages : ℕ) (start : Parts) (es : List Timed) (a : Asking) (old new : Parts) (outcome : Outcome) → HasServed area log_pages start es old → Left area log_pages start es a new outcome → Leaves area log_pages start es a new outcome
served_on area log_pages start es a old new (Replied reply number waits) so_far served = served
served_on area log_pages start es a old new NeedsLog so_far served = served
served_on area log_pages start es a old new NoMemory so_far served = (old, so_far.legal)

pub begin_law : BeginLaw
begin_law area log_pages start may = laws.history.starts area log_pages start may

pub legal_law : LegalLaw
legal_law area log_pages start es p goes = (p, goes.legal)

pub call_law : (tells crashes : Type 0) → CallLaw tells crashes
call_law tells crashes told area log_pages start es a old new outcome so_far d =
    served_on area log_pages start es a old new outcome so_far
    (leaves_by laws tells crashes told area log_pages a start es old new outcome so_far (does laws tells crashes told area log_pages a old new outcome so_far.serves d))

pub lent_law : (tells crashes : Type 0) → LentLaw tells crashes
lent_law tells crashes told area log_pages start es a old end so_far d =
    served_on area log_pages start es a old.volume end.both.volume end.outcome so_far (lent laws tells crashes told area log_pages a start es old end so_far d)

pub settled_law : (tells : Type 0) → SettledLaw tells
settled_law tells told area log_pages start es old new so_far settles files = settled laws tells ⊥ told area log_pages start es old new so_far settles files

pub pointed_law : (tells : Type 0) → PointedLaw tells
pointed_law tells told area log_pages start es old new so_far settles shown maps =
    laws.history.stays area log_pages start old new es so_far (laws.pointed area log_pages old new so_far.serves.holds settles (told_shown tells ⊥ told old new shown) maps)

pub handed_law : HandedLaw
handed_law area log_pages start es old so_far =
    laws.history.stays area log_pages start old (record old { entries = [] }) es so_far (laws.handed_out area log_pages old (record old { entries = [] }) so_far.serves.holds refl)
