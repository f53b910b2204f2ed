-- It is counted, and judged.
use Rattle.std.proofs.Common.{refl, ap, ◌∙◌}
use Rattle.std.specs.Int.{from_bool}
use Rattle.jfs_link_check.proofs.Walked.{name_seen}
use Rattle.jfs_link_check.proofs.notes.NameNotes.see.Goals as goal

pub returns : goal.returns
returns c = name_seen c.args.page c.args.n c.page_named-on.result c.from-value.result c.from-more.result c.may_be_named-leads.result c.args.self.now _ c.note_if.result refl refl refl
    c.add.ensures (c.from-more.ensures ∙ ap from_bool c.is_directory.ensures) c.saturating_add-self.ensures c.page_named-on.ensures c.may_be_named-leads.ensures c.from-value.ensures c.note_if.ensures.found
