use Rattle.std.proofs.Common.{refl, sym, ◌∙◌, inl, inr, arith}
use Rattle.jfs_shared.proofs.Called.{unanswered, call_is, lacked_is, not_over, stays_whole}
use Rattle.jfs_shared.proofs.calling.call.Goals as goal

pub call_without_log-requires-clause-size : goal.call_without_log-requires-clause-size
call_without_log-requires-clause-size g c = c.requires.stands.6.size

pub returns-then-appended-ge-LAST_ENTRY-clause-list : goal.returns-then-appended-ge-LAST_ENTRY-clause-list
returns-then-appended-ge-LAST_ENTRY-clause-list g c base list taken told points known s = s

pub returns-then-appended-ge-LAST_ENTRY-clause-answered : goal.returns-then-appended-ge-LAST_ENTRY-clause-answered
returns-then-appended-ge-LAST_ENTRY-clause-answered g c = unanswered c.args.client c.args.line c.args.request.now c.args.shared.now.volume

pub returns-in-NoMemory-clause-list : goal.returns-in-NoMemory-clause-list
returns-in-NoMemory-clause-list g c = lacked_is g.D.Disk c.args.shared.now c.args.client c.args.line c.args.request.now c.args.now c.call_without_log.new.volume (sym c.is_broken_off.ensures ∙ c.if-is_broken_off.false) c.requires.fits.0 (omega (arith, c.appended.ensures, c.if-appended-ge-LAST_ENTRY.false)) c.in-NoMemory.ensures.answered c.in-NoMemory.ensures.does

pub returns-in_default-clause-list : goal.returns-in_default-clause-list
returns-in_default-clause-list g c = call_is g.D.Disk c.args.shared.now c.args.client c.args.line c.args.request.now c.args.now c.call_without_log.new.volume c.call_without_log.result c.in_default.not-NoMemory (sym c.is_broken_off.ensures ∙ c.if-is_broken_off.false) c.requires.fits.0 (omega (arith, c.appended.ensures, c.if-appended-ge-LAST_ENTRY.false)) c.call_without_log.ensures.answered c.call_without_log.ensures.does

pub returns-then-appended-ge-LAST_ENTRY-clause-breaks : goal.returns-then-appended-ge-LAST_ENTRY-clause-breaks
returns-then-appended-ge-LAST_ENTRY-clause-breaks g c = inl refl

pub returns-in-NoMemory-clause-breaks : goal.returns-in-NoMemory-clause-breaks
returns-in-NoMemory-clause-breaks g c = inr refl

pub returns-in_default-clause-breaks : goal.returns-in_default-clause-breaks
returns-in_default-clause-breaks g c = stays_whole c.args.shared.now.is_broken_off c.call_without_log.result

-- ---- where no call is done any more

pub returns-then-is_broken_off-clause-list : goal.returns-then-is_broken_off-clause-list
returns-then-is_broken_off-clause-list g c base list taken told points known s = s

pub returns-then-is_broken_off-clause-answered : goal.returns-then-is_broken_off-clause-answered
returns-then-is_broken_off-clause-answered g c = unanswered c.args.client c.args.line c.args.request.now c.args.shared.now.volume

pub returns-then-is_broken_off-clause-breaks : goal.returns-then-is_broken_off-clause-breaks
returns-then-is_broken_off-clause-breaks g c = inl refl

pub returns-in-NoMemory-clause-over : goal.returns-in-NoMemory-clause-over
returns-in-NoMemory-clause-over g c = not_over _ c.args.shared.now.is_broken_off (sym c.is_broken_off.ensures ∙ c.if-is_broken_off.false)

pub returns-in_default-clause-over : goal.returns-in_default-clause-over
returns-in_default-clause-over g c = not_over _ c.args.shared.now.is_broken_off (sym c.is_broken_off.ensures ∙ c.if-is_broken_off.false)
