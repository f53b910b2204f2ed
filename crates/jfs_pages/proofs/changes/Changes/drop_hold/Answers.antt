use Rattle.std.proofs.Common.{rules, ℕ, eqb, not, List, ap, ◌∙◌, arith}
use Rattle.std.proofs.lemmas.Fn.{filter_same}
use Rattle.jfs_pages.specs.Dirty.{is_among}
use Rattle.jfs_pages.specs.Room.{waiting}
use Rattle.jfs_pages.proofs.Room.{is_among-filter, waiting-filter}
use Rattle.jfs_pages.proofs.changes.Changes.drop_hold.Goals as goal

pub invariant_of-self : goal.invariant_of-self
invariant_of-self c =
    let kept = filter_same _ (λ (h : ℕ). not (eqb h c.args.page)) _ (λ x b q called. search rules) _ _ c.retain.ensures.filtered in
    let fewer = waiting-filter c.args.self.now.held.items c.args.self.now.dirty.items c.args.page in
    record { rising = c.args.self.now.rising; room = omega (arith, c.args.self.now.room, fewer, ap (λ (held : List ℕ). waiting held c.args.self.now.dirty.items) kept) }

pub returns-clause-held : goal.returns-clause-held
returns-clause-held c n =
    let kept = filter_same _ (λ (h : ℕ). not (eqb h c.args.page)) _ (λ x b q called. search rules) _ _ c.retain.ensures.filtered in
    ap (λ (held : List ℕ). is_among n held) kept ∙ is_among-filter n c.args.page c.args.self.now.held.items
