-- A legal history behind calls, groups and syncpoints of many clients.
use Rattle.std.proofs.Common.{◌≡◌, ℕ, List, [], ◌∷◌, ◌++◌, Bool, true, false, Option, None, refl, sym, ap, subst}
use Rattle.jfs_super.specs.declared.fields.Super.{Super}
use Rattle.jfs_records.specs.Records.{Noted}
use Rattle.jfs_kept_history.specs.legal.specs.served.specs.call.specs.Does.{Does}
use Rattle.jfs_kept_history.specs.legal.specs.served.specs.call.specs.DoesLent.{Asking}
use Rattle.jfs_kept_history.specs.legal.specs.served.specs.call.specs.declared.outcome.Outcome.TheVariants.{Replied, NeedsLog, NoMemory}
use Rattle.jfs_kept_history.specs.legal.specs.served.specs.halves.specs.Parts.{Parts}
use Rattle.jfs_kept_history.specs.legal.specs.served.specs.plain.specs.declared.reply.Reply.{Reply}
use Rattle.jfs_kept_history.specs.legal.specs.served.specs.shown.specs.meaning.specs.Image.{volume_of}
use Rattle.jfs_kept_history.specs.legal.specs.served.specs.volume.specs.Settles.{Settles, StaysShown}
use Rattle.jfs_kept_history.specs.legal.specs.served.specs.volume_calls.specs.Written.{KeepsPages, LeavesMaps}
use Rattle.jfs_kept_history.specs.legal.specs.served.specs.Holds.{HoldsTree}
use Rattle.jfs_kept_history.specs.legal.specs.served.specs.Legal.{Timed}
use Rattle.jfs_kept_history.specs.legal.specs.History.{GoOn}
use Rattle.jfs_kept_history.specs.legal.proofs.Going.{legal_law, call_law, settled_law, pointed_law}
use Rattle.jfs_kept_history.specs.legal.proofs.Over.{lacked_law, over_settled_law, over_pointed_law}
use Rattle.jfs_shared.specs.Calls.{recorded}
use Rattle.jfs_shared.specs.Shared.{timed, timed_in, GoesOn, HistoryLaw, IsServed}
use Rattle.jfs_shared.specs.Entries.{Recorded}

timed_more : (list : List Recorded) (e : Recorded) → timed_in (list ++ e ∷ []) ≡ timed_in list ++ timed e ∷ []
timed_more [] e = refl
timed_more (x ∷ xs) e = ap (λ (ts : List Timed). timed x ∷ ts) (timed_more xs e)

module _ (area : ℕ → ℕ) (log_pages : ℕ) (start : Parts) (tells crashes : Type 0) (told : tells) where
  -- ---- a call

  -- with its entry
  pub joined : (list : List Recorded) (a : Asking) (old new : Parts) (reply : Reply) (number : ℕ) (waits : Bool) (noted : Option (List Noted)) → GoOn area log_pages start (timed_in list) old
      → Does tells crashes a.caller a.request a.now old new (Replied reply number waits)
      → GoOn area log_pages start (timed_in (list ++ recorded a.caller.client a.caller.line a.request a.now reply noted ∷ [])) new
  joined list a old new reply number waits noted goes d =
      subst (λ (ts : List Timed). GoOn area log_pages start ts new) (sym (timed_more list (recorded a.caller.client a.caller.line a.request a.now reply noted)))
      (call_law tells crashes told area log_pages start (timed_in list) a old new (Replied reply number waits) goes d)

  -- one that needs the log
  pub asked : (es : List Timed) (a : Asking) (old new : Parts) → GoOn area log_pages start es old → Does tells crashes a.caller a.request a.now old new NeedsLog → GoOn area log_pages start es new
  asked es a old new goes d = call_law tells crashes told area log_pages start es a old new NeedsLog goes d

  -- one for which memory lacked
  pub lacked : (es : List Timed) (a : Asking) (old new : Parts) → GoOn area log_pages start es old → Does tells crashes a.caller a.request a.now old new NoMemory → GoesOn true area log_pages start es new
  lacked es a old new goes d = lacked_law tells crashes told area log_pages start es a old new goes d

  -- ---- groups, and pages that go home

  pub settled : (broken : Bool) (es : List Timed) (old new : Parts) → Settles old new → KeepsPages tells old new → (new.halted ≡ None → old.halted ≡ None) → GoesOn broken area log_pages start es old → GoesOn broken area log_pages start es new
  settled false es old new settles files ran goes = settled_law tells told area log_pages start es old new goes settles files
  settled true es old new settles files ran over = over_settled_law tells told area log_pages start es old new over settles files ran

  pub pointed : (broken : Bool) (es : List Timed) (old new : Parts) → Settles old new → StaysShown tells old new → LeavesMaps old new → (new.halted ≡ None → old.halted ≡ None) → GoesOn broken area log_pages start es old → GoesOn broken area log_pages start es new
  pointed false es old new settles shown maps ran goes = pointed_law tells told area log_pages start es old new goes settles shown maps
  pointed true es old new settles shown maps ran over = over_pointed_law tells told area log_pages start es old new over settles shown maps ran

-- ---- a history, whether or not it broke off

pub history_law : HistoryLaw
history_law false area log_pages start es p goes = legal_law area log_pages start es p goes
history_law true area log_pages start es p over = (over.last, over.legal)

-- and the volume holds a tree
pub holds_of : (broken : Bool) (area : ℕ → ℕ) (log_pages : ℕ) (start : Parts) (es : List Timed) (p : Parts) → GoesOn broken area log_pages start es p → HoldsTree area log_pages p
holds_of false area log_pages start es p goes = goes.serves.holds
holds_of true area log_pages start es p over = over.holds

-- the same from the image that was mounted
module _ (tells crashes : Type 0) (told : tells) (s : Super) (page : ℕ → List ℕ) (broken : Bool) (list : List Recorded) where
  with_goes : (more : List Recorded) (later : Bool) (old new : Parts) (v : IsServed s page broken list old) → GoesOn later (volume_of s page).area s.logpxd.len v.start (timed_in more) new → IsServed s page later more new
  with_goes more later old new v goes = record { start = v.start; holds = v.holds; runs = v.runs; goes_on = goes }

  pub served_joined : (a : Asking) (old new : Parts) (reply : Reply) (number : ℕ) (waits : Bool) (noted : Option (List Noted)) → broken ≡ false → IsServed s page broken list old
      → Does tells crashes a.caller a.request a.now old new (Replied reply number waits) → IsServed s page broken (list ++ recorded a.caller.client a.caller.line a.request a.now reply noted ∷ []) new
  served_joined a old new reply number waits noted goes v d = with_goes (list ++ recorded a.caller.client a.caller.line a.request a.now reply noted ∷ []) broken old new v
      (subst (λ (b : Bool). GoesOn b (volume_of s page).area s.logpxd.len v.start (timed_in (list ++ recorded a.caller.client a.caller.line a.request a.now reply noted ∷ [])) new) (sym goes)
      (joined (volume_of s page).area s.logpxd.len v.start tells crashes told list a old new reply number waits noted
      (subst (λ (b : Bool). GoesOn b (volume_of s page).area s.logpxd.len v.start (timed_in list) old) goes v.goes_on) d))

  pub served_asked : (a : Asking) (old new : Parts) → broken ≡ false → IsServed s page broken list old → Does tells crashes a.caller a.request a.now old new NeedsLog → IsServed s page broken list new
  served_asked a old new goes v d = with_goes list broken old new v
      (subst (λ (b : Bool). GoesOn b (volume_of s page).area s.logpxd.len v.start (timed_in list) new) (sym goes)
      (asked (volume_of s page).area s.logpxd.len v.start tells crashes told (timed_in list) a old new
      (subst (λ (b : Bool). GoesOn b (volume_of s page).area s.logpxd.len v.start (timed_in list) old) goes v.goes_on) d))

  -- it breaks off where memory lacks
  pub served_lacked : (a : Asking) (old new : Parts) → broken ≡ false → IsServed s page broken list old → Does tells crashes a.caller a.request a.now old new NoMemory → IsServed s page true list new
  served_lacked a old new goes v d = with_goes list true old new v
      (lacked (volume_of s page).area s.logpxd.len v.start tells crashes told (timed_in list) a old new
      (subst (λ (b : Bool). GoesOn b (volume_of s page).area s.logpxd.len v.start (timed_in list) old) goes v.goes_on) d)

  pub served_settled : (old new : Parts) → Settles old new → KeepsPages tells old new → (new.halted ≡ None → old.halted ≡ None) → IsServed s page broken list old → IsServed s page broken list new
  served_settled old new settles files ran v = with_goes list broken old new v (settled (volume_of s page).area s.logpxd.len v.start tells crashes told broken (timed_in list) old new settles files ran v.goes_on)

  pub served_pointed : (old new : Parts) → Settles old new → StaysShown tells old new → LeavesMaps old new → (new.halted ≡ None → old.halted ≡ None) → IsServed s page broken list old → IsServed s page broken list new
  served_pointed old new settles shown maps ran v = with_goes list broken old new v (pointed (volume_of s page).area s.logpxd.len v.start tells crashes told broken (timed_in list) old new settles shown maps ran v.goes_on)
