use Rattle.std.proofs.Common.{◌≡◌, List, subst, sym, ap, ◌∙◌, arith}
use Rattle.std.specs.List.{remove}
use Rattle.std.proofs.lemmas.Bool.Decides.{nat_tests}
use Rattle.jfs_pages.specs.declared.dirty.Dirty.{Dirty}
use Rattle.jfs_pages.specs.Dirty.{IsRising, dirty_of}
use Rattle.jfs_pages.specs.Room.{waiting}
use Rattle.jfs_pages.proofs.Place.{absent_in_gap, found_after_remove, rising_remove}
use Rattle.jfs_pages.proofs.Room.{waiting-cleaned}
use Rattle.jfs_pages.proofs.changes.Changes.clean.Goals as goal

pub invariant_of-self : goal.invariant_of-self
invariant_of-self c =
    let old = c.args.self.now.dirty.items in
    let rising = c.args.self.now.rising in
    let there = c.in-Ok.ensures.found in
    let items = c.remove.ensures.items in
    let more = waiting-cleaned c.args.self.now.held.items old (remove old c.in-Ok.at) c.args.page (found_after_remove old rising c.args.page c.in-Ok.at there) in
    record {
      rising = subst IsRising (sym items) (rising_remove old rising c.args.page c.in-Ok.at there);
      room = omega (arith, c.args.self.now.room, more, c.remove.ensures.len, c.remove.ensures.capacity, ap (λ (l : List Dirty). waiting c.args.self.now.held.items l) items);
    }

pub returns-in-Ok-clause-dirty : goal.returns-in-Ok-clause-dirty
returns-in-Ok-clause-dirty c n =
    ap (λ (l : List Dirty). dirty_of l n) c.remove.ensures.items ∙ found_after_remove c.args.self.now.dirty.items c.args.self.now.rising c.args.page c.in-Ok.at c.in-Ok.ensures.found n

pub returns-in_default-clause-dirty : goal.returns-in_default-clause-dirty
returns-in_default-clause-dirty c n = grind (arith, nat_tests, absent_in_gap c.args.self.now.dirty.items c.args.page c.in_default.field-0 c.in_default.ensures.absent, λ (e : c.args.page ≡ n). ap (dirty_of c.args.self.now.dirty.items) e)
