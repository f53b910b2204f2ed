-- A directory, and another inode.
use Rattle.std.proofs.Common.{sym, ◌∙◌}
use Rattle.jfs_link_check.specs.Uses.{use_at}
use Rattle.jfs_link_check.specs.Judged.{page_told}
use Rattle.jfs_link_check.proofs.Due.{parent_judged, count_judged}
use Rattle.jfs_link_check.proofs.links.judge.Goals as goal

pub returns-in-Directory : goal.returns-in-Directory
returns-in-Directory c = parent_judged c.args.notes.now.counts c.args.n c.in-Some.page (page_told c.args.places.now c.args.n) (use_at c.args.notes.now.uses c.args.n) c.args.findings.now.items _ c.in-Directory.parent
    c.is_placed-lost.result c.note_if.result (sym c.home.ensures ∙ c.in-Some.is) (sym c.of.ensures ∙ c.in-Directory.is) c.is_placed-lost.ensures c.note_if.ensures.found

pub returns-in-Other : goal.returns-in-Other
returns-in-Other c = count_judged c.args.notes.now.counts c.args.n c.in-Some.page (page_told c.args.places.now c.args.n) (use_at c.args.notes.now.uses c.args.n) c.args.findings.now.items _ c.in-Other.links
    c.miscounts-wrong.result c.note_if-in-Other.result (sym c.home.ensures ∙ c.in-Some.is) (sym c.of.ensures ∙ c.in-Other.is) c.miscounts-wrong.ensures c.note_if-in-Other.ensures.found
