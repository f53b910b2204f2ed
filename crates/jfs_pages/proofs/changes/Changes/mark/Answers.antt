use Rattle.std.proofs.Common.{◌≡◌, set, is_some, ap, ◌∙◌, arith}
use Rattle.std.proofs.lemmas.List.{get_or_default, length-set}
use Rattle.jfs_pages.specs.declared.dirty.Dirty.{Dirty}
use Rattle.jfs_pages.specs.Dirty.{no_dirty}
use Rattle.jfs_pages.proofs.Place.{found_at, absent_in_gap, found_after_set, rising_set}
use Rattle.jfs_pages.proofs.Room.{waiting-kept}
use Rattle.jfs_pages.proofs.changes.Changes.mark.Goals as goal

pub invariant_of-self : goal.invariant_of-self
invariant_of-self c =
    let old = c.args.self.now.dirty.items in
    let rising = c.args.self.now.rising in
    let at = c.in-Ok.at in
    let there = c.in-Ok.ensures.found in
    let read = c.index_mut.ensures.value ∙ get_or_default old at c.index_mut.result.now no_dirty there.in_range in
    let page : c.index_mut.result.now.page ≡ c.args.page = ap (λ (d : Dirty). d.page) read ∙ there.has_page in
    let new : Dirty = record { page = c.index_mut.result.now.page; first = c.index_mut.result.now.first; last = c.args.entry } in
    let finds = found_after_set old rising c.args.page at there new page in
    let same = waiting-kept c.args.self.now.held.items old (set old at new) c.args.page new finds (ap is_some (found_at old rising c.args.page at there)) in
    record { rising = rising_set old rising c.args.page at there new page; room = omega (arith, c.args.self.now.room, same, length-set old at new) }

pub returns-in-Ok-clause-dirty : goal.returns-in-Ok-clause-dirty
returns-in-Ok-clause-dirty c n =
    let old = c.args.self.now.dirty.items in
    let rising = c.args.self.now.rising in
    let at = c.in-Ok.at in
    let there = c.in-Ok.ensures.found in
    let read = c.index_mut.ensures.value ∙ get_or_default old at c.index_mut.result.now no_dirty there.in_range in
    let page : c.index_mut.result.now.page ≡ c.args.page = ap (λ (d : Dirty). d.page) read ∙ there.has_page in
    let new : Dirty = record { page = c.index_mut.result.now.page; first = c.index_mut.result.now.first; last = c.args.entry } in
    grind (arith, found_after_set old rising c.args.page at there new page n, found_at old rising c.args.page at there, read)

pub returns-in-Err-clause-dirty : goal.returns-in-Err-clause-dirty
returns-in-Err-clause-dirty c n = grind (arith, c.insert.ensures.dirty n, absent_in_gap c.args.self.now.dirty.items c.args.page c.in-Err.at c.in-Err.ensures.absent)
