-- Calls that change nothing are steps of a plain file tree.
use Rattle.std.proofs.Common.{◌≡◌, ◌≢◌, ◌⊎◌, refl, sym, ap, subst, ℕ, true, List, inl, inr, Ok, Err}
use Rattle.jfs_bits.specs.declared.descriptor.Moment.{Moment}
use Rattle.jfs_bits.specs.declared.rule.Rule.{Rule}
use Rattle.jfs_bits.specs.declared.rule.Rule.TheVariants as rules
use Rattle.jfs_disk.specs.Image.{page_of}
use Rattle.jfs_disk.specs.declared.disk.Fault.{Fault}
use Rattle.jfs_disk.specs.declared.disk.Part.TheVariants.{High}
use Rattle.jfs_shown.specs.way.specs.Answer.{is_open}
use Rattle.jfs_call.specs.files.specs.Bytes.{bars}
use Rattle.jfs_call.specs.files.specs.Outcome.{CarriesReply, IsReply, AnswersOr, Wants}
use Rattle.jfs_call.specs.files.specs.declared.outcome.FileOutcome.TheVariants.{Same as Unchanged}
use Rattle.jfs_shown.specs.map_files.specs.declared.maps.Maps.{Maps}
use Rattle.jfs_call.specs.volume.specs.Asked.{maps_in}
use Rattle.jfs_call.specs.halves.specs.Parts.{Parts}
use Rattle.jfs_call.specs.volume.specs.pages.specs.Device.{IsFault}
use Rattle.jfs_call.specs.plain.specs.CallStep.{Causes, CallStep, no_cause}
use Rattle.jfs_call.specs.plain.specs.Moves.{Same}
use Rattle.jfs_call.specs.plain.specs.Step.{Room, Outcome, Answers, PlainStep, outcome}
use Rattle.jfs_call.specs.plain.specs.Tree.{Tree}
use Rattle.jfs_call.specs.plain.specs.declared.call.Call.{Call}
use Rattle.jfs_call.specs.plain.specs.declared.call.Call.TheVariants as calls
use Rattle.jfs_call.specs.plain.specs.declared.refusal.Refusal.{Refusal}
use Rattle.jfs_call.specs.plain.specs.declared.refusal.Refusal.TheVariants as refusals
use Rattle.jfs_call.specs.plain.specs.declared.reply.Reply.{Reply}
use Rattle.jfs_call.specs.plain.specs.declared.reply.Reply.TheVariants as replies
use Rattle.jfs_call.specs.plain.proofs.Refusing.{one_step}
use Rattle.jfs_served.specs.Holds.{blocks_at, volume_at, tree_at, room_at, MayServe, StaysServing}
use Rattle.jfs_served.specs.Follows.{keeps}
use Rattle.jfs_served.specs.Step.{low_fault, causes_of}
use Rattle.jfs_served.specs.Laws.{UnchangedLaw, RefusedLaw}
use Rattle.jfs_served.proofs.Between.{asked_law, joined_law}
use Rattle.jfs_served.proofs.Keeps.{between, again_law}

-- a plain step is one whatever else a call may be refused for
weaker : (causes : Causes) (t u : Tree) (room : Room) (call : Call) (now : Moment) (reply : Reply) → CallStep no_cause t room call now reply u → CallStep causes t room call now reply u
weaker causes t u room call now (replies.Refused (refusals.ReadOnly fault)) step = absurd step.0
weaker causes t u room call now (replies.Refused (refusals.IoFault fault)) step = absurd step.0
weaker causes t u room call now (replies.Refused (refusals.Damaged page rule)) step = absurd step.0
weaker causes t u room call now (replies.Refused why) step = step
weaker causes t u room call now reply step = step

pub plain_step : (causes : Causes) (t u : Tree) (room : Room) (call : Call) (now : Moment) (reply : Reply) → PlainStep t room call now reply u → CallStep causes t room call now reply u
plain_step causes t u room call now reply step = weaker causes t u room call now reply (one_step.plain_is_call t u room call now reply step)

-- the outcome is known
pub by_outcome : (causes : Causes) (t u : Tree) (room : Room) (call : Call) (now : Moment) (reply : Reply) (o : Outcome) → outcome room t call now ≡ o → Answers t o reply u → CallStep causes t room call now reply u
by_outcome causes t u room call now reply o is answers = plain_step causes t u room call now reply (subst (λ (x : Outcome). Answers t x reply u) (sym is) answers)

-- a file that is too deep is a damaged one
barred : (blocks : ℕ) (pages : ℕ → List ℕ) (maps : Maps) (call : Call) (why : Refusal) → bars blocks pages maps call why → (page : ℕ) × (rule : Rule) × (why ≡ refusals.Damaged page rule)
barred blocks pages maps (calls.Write path offset new) why (at, found, is, ninth) = (at.page, rules.Deep, is)
barred blocks pages maps (calls.Fill path offset count byte) why (at, found, is, ninth) = (at.page, rules.Deep, is)
barred blocks pages maps call why b = absurd b

module _ (area : ℕ → ℕ) (log_pages : ℕ) (call : Call) (now : Moment) (old mid new : Parts) (faults : new.faults ≡ mid.faults) (same : Same (tree_at area old) (tree_at area new)) where
  abbrev t : Tree
  t = tree_at area old

  abbrev u : Tree
  u = tree_at area new

  abbrev room : Room
  room = room_at area log_pages old

  abbrev barring : Refusal → Type 0
  barring why = bars (blocks_at old) (page_of old.view) (maps_in old) call why

  -- a call that changes nothing gets its reply
  told : (reply : Reply) → outcome room t call now ≡ Ok (reply, t) → CallStep (causes_of call old new) t room call now reply u
  told reply is = by_outcome (causes_of call old new) t u room call now reply (Ok (reply, t)) is (refl, same)

  refused : (why : Refusal) → outcome room t call now ≡ Err why → CallStep (causes_of call old new) t room call now (replies.Refused why) u
  refused why is = by_outcome (causes_of call old new) t u room call now (replies.Refused why) (Err why) is (refl, same)

  failed : (fault : Fault) → IsFault old.faults new.faults fault ⊎ (fault.part ≡ High) → CallStep (causes_of call old new) t room call now (replies.Refused (refusals.IoFault fault)) u
  failed fault cause = (cause, record { nodes = same.nodes; bytes = λ n i rest. same.bytes n i })

  deep : (why : Refusal) → barring why → CallStep (causes_of call old new) t room call now (replies.Refused why) u
  deep why b = let is = barred (blocks_at old) (page_of old.view) (maps_in old) call why b in
      subst (λ (w : Refusal). CallStep (causes_of call old new) t room call now (replies.Refused w) u) (sym is.2) (subst (λ (w : Refusal). barring w) is.2 b, same)

  opened : (why : Refusal) → is_open why ≡ true → CarriesReply (low_fault old.faults) (low_fault mid.faults) (replies.Refused why) → replies.Refused why ≢ replies.Refused refusals.OutOfMemory
      → CallStep (causes_of call old new) t room call now (replies.Refused why) u
  opened (refusals.IoFault fault) is cause some = failed fault (inl (subst (λ (n : ℕ). IsFault old.faults n fault) (sym faults) (record { rose = cause.0.0; is = cause.1 })))
  opened refusals.OutOfMemory is cause some = absurd (some refl)
  opened why is cause some = absurd (cc (is))

  answered : (why : Refusal) → IsReply t (outcome room t call now) (replies.Refused why) ⊎ barring why → CarriesReply (low_fault old.faults) (low_fault mid.faults) (replies.Refused why) → replies.Refused why ≢ replies.Refused refusals.OutOfMemory
      → CallStep (causes_of call old new) t room call now (replies.Refused why) u
  answered why (inl (inl is)) cause some = refused why is
  answered why (inl (inr is)) cause some = opened why is cause some
  answered why (inr b) cause some = deep why b

  pub replied : (reply : Reply) → AnswersOr barring (blocks_at old) old.map (volume_at area old) (Wants (maps_in old) call) (λ (x : Tree). outcome room x call now) (Unchanged reply)
      → CarriesReply (low_fault old.faults) (low_fault mid.faults) reply → reply ≢ replies.Refused refusals.OutOfMemory → CallStep (causes_of call old new) t room call now reply u
  replied (replies.Refused why) answers cause some = answered why answers cause some
  replied replies.Done answers cause some = told replies.Done answers
  replied (replies.Bytes bytes) answers cause some = told (replies.Bytes bytes) answers
  replied (replies.Attr stat) answers cause some = told (replies.Attr stat) answers
  replied (replies.Names names) answers cause some = told (replies.Names names) answers
  replied (replies.Target target) answers cause some = told (replies.Target target) answers

pub serves_still : (area : ℕ → ℕ) (log_pages : ℕ) (old new : Parts) → MayServe area log_pages old → StaysServing area log_pages old new → MayServe area log_pages new
serves_still area log_pages old new may stays = record { holds = stays.keeps.holds; none = stays.none may.none }

pub unchanged_law : UnchangedLaw
unchanged_law area log_pages request now reply entry old mid new may asked answer some is =
    let m = asked_law area log_pages old mid may.holds asked (ap (λ (x : Maps). x.blocks) answer.maps) in
    let stays = again_law area log_pages old mid new m (joined_law area log_pages entry mid new m.keeps.holds is) in
    record {
      step = replied area log_pages request.call now old mid new (ap (λ (p : Parts). p.faults) is) stays.keeps.tree reply (answer.follows (between area log_pages old may) area may.holds.consistent log_pages may.holds.limit) answer.fault some;
      follows = keeps stays.keeps;
      serves = serves_still area log_pages old new may stays;
      files = stays.keeps.files;
    }

pub refused_law : RefusedLaw
refused_law = record {
  halted = λ area log_pages call now fault old new may stays is writing. record { step = (is, writing, stays.keeps.tree); follows = keeps stays.keeps; serves = serves_still area log_pages old new may stays; files = stays.keeps.files };
  failed = λ area log_pages call now fault old new may stays cause. record { step = failed area log_pages call now old new new refl stays.keeps.tree fault cause; follows = keeps stays.keeps; serves = serves_still area log_pages old new may stays; files = stays.keeps.files };
  synced = λ area log_pages now old new may stays. record {
    step = told area log_pages calls.Sync now old new new refl stays.keeps.tree replies.Done refl;
    follows = keeps stays.keeps;
    serves = serves_still area log_pages old new may stays;
    files = stays.keeps.files;
  };
}
