-- What was gained is there, however often.
use Rattle.std.proofs.Common.{◌≡◌, ◌≢◌, ◌+◌, false}
use Rattle.jfs_object_check.specs.meaning.specs.Consistent.{is_reserved}
use Rattle.jfs_object_check.specs.findings.specs.declared.finding.FindingKind.TheVariants.{Links}
use Rattle.jfs_object_check.specs.findings.proofs.Condensed.{gains_condensed}
use Rattle.jfs_object_check.specs.Steps.{Only}
use Rattle.jfs_link_check.proofs.notes.NameNotes.judge_links.Goals as goal

pub returns-clause-found : goal.returns-clause-found
returns-clause-found c count e =
    let here = c.args.self.now.here in
    gains_condensed (Only Links here.page here.number ((is_reserved here.number ≡ false) × (c.args.links ≢ 2 + count))) c.args.self.now.findings.items c.note_links.new.self.findings.items c.condense.new.findings.items
    (c.in_ok-note_links.ensures.found count e) c.condense.ensures.same
