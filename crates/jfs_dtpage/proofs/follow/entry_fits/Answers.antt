use Rattle.std.proofs.Common.{inl, inr, refl, ap, ◌∙◌}
use Rattle.std.proofs.lemmas.Bool.{eqb-true, eqb-false}
use Rattle.jfs_dtpage.specs.Form.{more_slots}
use Rattle.jfs_dtpage.proofs.Meeting.{first_taken, entry_yes, entry_no_end, entry_taken}
use Rattle.jfs_dtpage.proofs.follow.entry_fits.Goals as goal

pub returns-then-not-meet-clause-no : goal.returns-then-not-meet-clause-no
returns-then-not-meet-clause-no c = λ e. inr (first_taken c.args.leaf c.args.bytes.now c.args.slot c.args.left.now (c.if-not-meet.ensures.no refl))

pub returns-in-Some-clause-yes : goal.returns-in-Some-clause-yes
returns-in-Some-clause-yes c = λ e.
    entry_yes c.args.leaf c.args.bytes.now c.args.slot c.args.left.now c.meet.new.left c.meet_chain.new.left c.link_of.result c.more_slots-more.result c.in-Some.behind c.link_of.ensures
    (c.more_slots-more.ensures ∙ ap (more_slots c.args.leaf) (c.from.ensures ∙ c.length_of.ensures)) c.in-Some.ensures.0 (eqb-true c.in-Some.behind 255 e) (c.if-not-meet.ensures.yes refl).1 c.in-Some.ensures.1

pub returns-in-Some-clause-no : goal.returns-in-Some-clause-no
returns-in-Some-clause-no c = λ e.
    inl (entry_no_end c.args.leaf c.args.bytes.now c.args.slot c.link_of.result c.more_slots-more.result c.in-Some.behind c.link_of.ensures
    (c.more_slots-more.ensures ∙ ap (more_slots c.args.leaf) (c.from.ensures ∙ c.length_of.ensures)) c.in-Some.ensures.0 (eqb-false c.in-Some.behind 255 e))

pub returns-in-None-clause-no : goal.returns-in-None-clause-no
returns-in-None-clause-no c = λ e.
    inr (entry_taken c.args.leaf c.args.bytes.now c.args.slot c.args.left.now c.meet.new.left c.link_of.result c.more_slots-more.result c.link_of.ensures
    (c.more_slots-more.ensures ∙ ap (more_slots c.args.leaf) (c.from.ensures ∙ c.length_of.ensures)) (c.if-not-meet.ensures.yes refl).1 c.in-None.ensures)
