-- By the test.
use Rattle.std.proofs.Common.{◌≡◌, ◌≢◌, ◌+◌, false}
use Rattle.jfs_object_check.specs.meaning.specs.Consistent.{is_reserved}
use Rattle.jfs_link_check.proofs.Due.{links_judged}
use Rattle.jfs_link_check.proofs.notes.NameNotes.note_links.Goals as goal

pub returns-clause-found : goal.returns-clause-found
returns-clause-found c = links_judged (λ count. (is_reserved c.args.self.now.here.number ≡ false) × (c.args.links ≢ 2 + count)) c.args.self.now.here.subdirectories c.args.self.now.here.page c.from-value.result c.args.self.now.here.number
    c.miscounts-wrong.result c.args.self.now.findings.items _ c.note_if.result c.from-value.ensures c.miscounts-wrong.ensures c.note_if.ensures.found
