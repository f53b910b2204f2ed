use Rattle.std.proofs.Common.{Some, sym, ap, ◌∙◌}
use Rattle.std.proofs.lemmas.List.{get_or_default}
use Rattle.jfs_pages.specs.declared.dirty.Dirty.{Dirty}
use Rattle.jfs_pages.specs.Dirty.{no_dirty}
use Rattle.jfs_pages.proofs.Place.{found_at, absent_in_gap}
use Rattle.jfs_pages.proofs.changes.Changes.find.Goals as goal

pub returns-in-Ok : goal.returns-in-Ok
returns-in-Ok c =
    let there = c.in-Ok.ensures.found in
    let read = c.index.ensures ∙ get_or_default c.args.self.now.dirty.items c.in-Ok.at c.index.result.now no_dirty there.in_range in
    ap (λ (d : Dirty). Some d) read ∙ sym (found_at c.args.self.now.dirty.items c.args.self.now.rising c.args.page c.in-Ok.at there)

pub returns-in-Err : goal.returns-in-Err
returns-in-Err c = sym (absent_in_gap c.args.self.now.dirty.items c.args.page c.in-Err.field-0 c.in-Err.ensures.absent)
