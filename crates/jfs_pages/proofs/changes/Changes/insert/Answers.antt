use Rattle.jfs_pages.specs.declared.dirty.Dirty.{Dirty}
use Rattle.std.proofs.Common.{List, is_ok, refl, ap, ◌∙◌, arith}
use Rattle.std.specs.List.{insert}
use Rattle.jfs_pages.specs.Dirty.{dirty_of}
use Rattle.jfs_pages.proofs.Place.{absent_in_gap, found_after_insert}
use Rattle.jfs_pages.proofs.Room.{waiting-marked, inserted}
use Rattle.jfs_pages.proofs.changes.Changes.insert.Goals as goal

pub unreachable-requires : goal.unreachable-requires
unreachable-requires c =
    let old = c.args.self.now.dirty.items in
    let n = c.args.dirty.page in
    let gap = c.requires.place in
    let fewer = waiting-marked c.args.self.now.held.items old (insert old c.args.at c.args.dirty) n c.args.dirty (found_after_insert old n c.args.at gap c.args.dirty refl) (absent_in_gap old n c.args.at gap) c.requires.held in
    omega (arith, c.args.self.now.room, fewer, c.in-Err.ensures.full, c.args.self.now.dirty.ok)

pub invariant_of-self : goal.invariant_of-self
invariant_of-self c =
    let kept = inserted (is_ok c.insert.result) c.args.self.now.held.items c.args.self.now.dirty.items c.insert.new.self.items c.args.at c.args.dirty _ _ c.requires.place c.requires.held c.args.self.now.rising c.args.self.now.room c.insert.ensures.items c.insert.ensures.capacity in
    record { rising = kept.0; room = kept.1 }

pub returns-clause-dirty : goal.returns-clause-dirty
returns-clause-dirty c n =
    ap (λ (l : List Dirty). dirty_of l n) c.in-Ok.ensures.items ∙ found_after_insert c.args.self.now.dirty.items c.args.dirty.page c.args.at c.requires.place c.args.dirty refl n
